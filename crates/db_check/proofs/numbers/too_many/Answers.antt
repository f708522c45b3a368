use Rattle.std.proofs.Common.{◌∙◌, ap, sym, true}
use Rattle.db_cause.specs.declared.cause.Cause.TheVariants as cause
use Rattle.db_model.specs.Lines.{at_line}
use Rattle.db_check.specs.First.{first}
use Rattle.db_check.proofs.Declarations.{many_at}
use Rattle.db_check.proofs.numbers.too_many.Goals as goal

pub returns-in-Some : goal.returns-in-Some
returns-in-Some g c =
    (c.at_line.ensures ∙ ap (λ n. first cause.OutOfLimits (at_line n true)) c.line.ensures)
    ∙ ap (first cause.OutOfLimits) (sym (many_at g.T.Located.at c.args.most c.args.declared.now c.in-Some.declaration.now c.in-Some.ensures.lookup.0 c.in-Some.ensures.lookup.1))
