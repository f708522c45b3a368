use Rattle.std.proofs.Common.{◌≡◌, arith, []}
use Rattle.std.proofs.lemmas.Grind.{common_steps}
use Rattle.std.proofs.lemmas.Option.{slice_get-get_or}
use Rattle.npd_host.proofs.Places.{Gave-set, IsAtEnd-set, within_given}
use Rattle.npd_host.proofs.memory.inputs.give.Goals as goal

pub returns-clause-gave : goal.returns-clause-gave
returns-clause-gave c =
    let at = slice_get-get_or c.args.inputs.now c.args.id.0 c.index-inputs-place.result (within_given _ _ _ c.requires.given) in
    Gave-set _ _ c.give.result _ _ _ at c.give.ensures.bound c.give.ensures.front c.give.ensures.rest

pub returns-clause-end : goal.returns-clause-end
returns-clause-end c = λ none.
    let left : c.give.new.self.bytes ≡ [] = grind (arith, common_steps) in
    IsAtEnd-set c.args.inputs.now c.args.id.0 c.give.new.self (within_given _ _ _ c.requires.given) left
