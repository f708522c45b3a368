use Rattle.std.proofs.Common.{◌≡◌, ◌<◌, ◌≤◌, ℕ, List, Err, length, ap, subst, rules}
use Rattle.db_model.specs.declared.no_memory.NoMemory.{NoMemory}
use Rattle.db_model.specs.declared.tree.Node.{Node}
use Rattle.decode_vm.proofs.Chains.{not_chosen, at_end, none_left, goes_on, named_refused, positive}
use Rattle.decode_vm.proofs.chain.onward.Goals as goal

pub returns-in_default : goal.returns-in_default
returns-in_default c = not_chosen c.args.left c.args.ended.now c.in_default.not-Chose

pub returns-then-as_slice-at : goal.returns-then-as_slice-at
returns-then-as_slice-at c = at_end c.args.left c.args.ended.now c.in-Chose.q c.in-Chose.is (subst (λ (xs : List ℕ). length xs ≤ c.args.ended.now.frame.env.at) c.as_slice.ensures.bytes c.if-as_slice-at.true)

pub returns-then-left-eq0 : goal.returns-then-left-eq0
returns-then-left-eq0 c = none_left c.args.left c.args.ended.now c.in-Chose.q c.in-Chose.is (subst (λ (xs : List ℕ). c.args.ended.now.frame.env.at < length xs) c.as_slice.ensures.bytes c.if-as_slice-at.false) c.if-left-eq0.true _ (ap (λ (ns : List Node). record c.args.ended.now { nodes = ns }) c.in_ok-push.ensures.ok)

pub returns-in_err-push : goal.returns-in_err-push
returns-in_err-push c =
    let f : NoMemory = record {} in
    let r : c.from_residual.result ≡ Err f = search rules in
    named_refused c.args.left c.args.ended.now _ c.from_residual.result f r

pub returns : goal.returns
returns c = goes_on c.args.left c.args.ended.now c.in-Chose.q c.in-Chose.is (subst (λ (xs : List ℕ). c.args.ended.now.frame.env.at < length xs) c.as_slice.ensures.bytes c.if-as_slice-at.false) (positive c.args.left c.if-left-eq0.false)
