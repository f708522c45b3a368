use Rattle.std.proofs.Common.{◌≡◌, map, Ok, IfOk, arith}
use Rattle.std.specs.Prelude.{string_bytes}
use Rattle.std.proofs.lemmas.Grind.{common_steps}
use Rattle.npd_words.specs.Asked.{asked}
use Rattle.npd_words.proofs.InRange.{answer_lies}
use Rattle.npd_words.proofs.read.read_words.Goals as goal

pub returns-clause-range : goal.returns-clause-range
returns-clause-range c =
    let plan : IfOk c.plan_by.result (λ p. asked (map string_bytes c.args.words.now) ≡ Ok p) = grind (arith, common_steps) in
    answer_lies (map string_bytes c.args.words.now) c.plan_by.result plan
