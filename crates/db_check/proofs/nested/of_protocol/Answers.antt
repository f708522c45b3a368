use Rattle.std.proofs.Common.{◌∙◌, ap, sym}
use Rattle.db_cause.specs.declared.cause.Cause.TheVariants as cause
use Rattle.db_check.specs.First.{first}
use Rattle.db_check.proofs.Acyclic.{no_cycles, not_deep}
use Rattle.db_check.proofs.nested.of_protocol.Goals as goal

pub returns-then-is_within : goal.returns-then-is_within
returns-then-is_within c =
    let p = c.args.home.now.protocol.now in
    let w = sym c.is_within.ensures ∙ c.if-is_within.true in
    (sym (ap (first cause.IncludesItself) (no_cycles c.cycles_found.ensures p w)), sym (ap (first cause.NestedTooDeep) (not_deep p w)))
