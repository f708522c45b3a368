use Rattle.std.proofs.Common.{ap, ◌∙◌}
use Rattle.db_text.specs.Outcome.{outcome}
use Rattle.db_text.proofs.Stays.{all_stay}
use Rattle.db_text.proofs.scan.behind_staying.Goals as goal

pub returns-clause-same : goal.returns-clause-same
returns-clause-same c = λ line n.
    ap (outcome line c.args.mode n) c.split_at.ensures.back
    ∙ all_stay n c.args.mode line c.staying.result c.args.text.now c.staying.ensures.keeps
