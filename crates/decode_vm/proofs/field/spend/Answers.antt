use Rattle.std.proofs.Common.{subst, sym, arith, ◌≡◌, suc, ◌-◌}
use Rattle.db_model.specs.declared.tree.Reason.TheVariants.{Nodes}
use Rattle.db_model.specs.Runs.{add_field, spend_node}
use Rattle.decode_vm.specs.declared.machine.Machine.{Machine}
use Rattle.decode_vm.specs.Field.{fielded}
use Rattle.decode_vm.specs.Machine.{at_frame, halted, Ran}
use Rattle.decode_vm.proofs.Fields.{on_ok, ran_no_node, ran_field}
use Rattle.decode_vm.proofs.field.spend.Goals as goal

pub returns-then-m-eq0 : goal.returns-then-m-eq0
returns-then-m-eq0 c =
    let m = c.args.m.now in
    let p = add_field c.args.kind.now c.args.number c.args.size in
    on_ok c.halt.result (λ (e : c.halt.new.m ≡ halted Nodes m). subst (λ (n : Machine). Ran (spend_node p) c.args.after m n) (sym e) (ran_no_node p c.args.after m c.if-m-eq0.true)) c.halt.ensures

pub returns : goal.returns
returns c =
    let m = c.args.m.now in
    let p = add_field c.args.kind.now c.args.number c.args.size in
    let left = m.frame.nodes - 1 in
    let some : m.frame.nodes ≡ suc left = omega (arith, c.if-m-eq0.false) in
    on_ok c.add.result (λ (e : c.add.new.m ≡ fielded c.args.kind.now c.args.number c.args.size c.args.after (at_frame (record m.frame { nodes = left }) m)). subst (λ (n : Machine). Ran (spend_node p) c.args.after m n) (sym e)
    (ran_field c.args.kind.now c.args.number c.args.size c.args.after left m some c.requires.position)) c.add.ensures
