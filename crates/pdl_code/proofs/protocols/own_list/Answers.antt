use Rattle.pdl_code.proofs.Whole.{as_list, own_wrote}
use Rattle.pdl_code.proofs.protocols.own_list.Goals as goal

pub returns : goal.returns
returns c =
    let s = c.args.scope.now in
    own_wrote s c.args.protocol.now c.args.ops.now c.list.new.ops c.list-2.new.ops c.list-3.new.ops c.list-4.new.ops c.push.new.self c.start.result c.in_ok-fields.fields c.in_ok-after.after c.in_ok-encapsulation.encapsulation c.in_ok-list.field-0 c.since.result c.start.ensures
    (as_list s c.before_in.result.now _ c.args.ops.now c.list.new.ops c.start.result c.in_ok-fields.fields c.before_in.ensures c.in_ok-fields.ensures)
    (as_list s c.fields_in.result.now _ c.list.new.ops c.list-2.new.ops c.in_ok-fields.fields c.in_ok-after.after c.fields_in.ensures c.in_ok-after.ensures)
    (as_list s c.after_in.result.now _ c.list-2.new.ops c.list-3.new.ops c.in_ok-after.after c.in_ok-encapsulation.encapsulation c.after_in.ensures c.in_ok-encapsulation.ensures)
    (as_list s c.elements_in-last.result.now _ c.list-3.new.ops c.list-4.new.ops c.in_ok-encapsulation.encapsulation c.in_ok-list.field-0 c.elements_in-last.ensures c.in_ok-list.ensures)
    c.in_ok-push.ensures.ok c.since.ensures.fields c.since.ensures.blocks
