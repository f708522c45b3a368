use Rattle.std.proofs.Common.{ap, ◌∙◌}
use Rattle.db_text.specs.Outcome.{built}
use Rattle.db_text.specs.Machine.{lengthened}
use Rattle.db_text.proofs.Stays.{all_add}
use Rattle.db_text.proofs.build.behind_added.Goals as goal

pub returns-clause-same : goal.returns-clause-same
returns-clause-same c = λ line n.
    ap (λ q. built line c.args.mode n q c.split_at.result.1.now) (c.in_ok-lengthen.ensures ∙ ap (λ bs. lengthened c.args.mode bs c.args.parts.now) c.split_at.ensures.front)
    ∙ ap (built line c.args.mode n (lengthened c.args.mode _ c.args.parts.now)) c.split_at.ensures.back
    ∙ all_add n c.args.mode line c.staying.result c.args.text.now c.args.parts.now c.staying.ensures.keeps
