use Rattle.std.proofs.Common.{◌≡◌, map, ◌∙◌, sym, ap, Ok}
use Rattle.db_model.specs.declared.element.Element as element
use Rattle.pdl_code.specs.Parts.{counts, case_range}
use Rattle.pdl_code.proofs.Elements.{counts_field, counts_block, counts_include, counts_loop, counts_control, counts_switch, counts_if, counts_assign, counts_update, counts_next, code_field, code_block, code_include, code_loop, code_control, code_switch, code_if, code_assign, code_update, code_next}
use Rattle.pdl_code.proofs.Emitted.{block_wrote, loop_wrote, test_wrote, switch_ends, switch_wrote}
use Rattle.pdl_code.proofs.Room.{as_element}
use Rattle.pdl_code.proofs.Walks.{elements_counted, elements_written}
use Rattle.pdl_code.proofs.emit.+emit.Goals as goal

pub block-returns : goal.block-returns
block-returns t c = block_wrote c.args.scope.now c.args.xs.now c.args.ops.now c.body.new.ops c.set.new.self c.len-start.result c.len.result c.args.at c.in_ok-inside.inside c.in_ok-to.to c.len-start.ensures c.in_ok-inside.ensures c.in_ok-to.ensures c.len.ensures c.set.ensures

pub element-returns-in-Field : goal.element-returns-in-Field
element-returns-in-Field t c = as_element c.args.scope.now c.args.x.now (element.Field c.in-Field.line c.in-Field.name c.in-Field.form c.in-Field.longname c.in-Field.show) _ _ c.args.ops.now c.field.new.ops c.args.at c.field.result c.in-Field.is (counts_field c.in-Field.line c.in-Field.name c.in-Field.form c.in-Field.longname c.in-Field.show) (code_field c.args.scope.now.db.now c.args.scope.now.protocol c.in-Field.line c.in-Field.name c.in-Field.form c.in-Field.longname c.in-Field.show) c.field.ensures

pub element-returns-in-Block : goal.element-returns-in-Block
element-returns-in-Block t c = as_element c.args.scope.now c.args.x.now (element.Block c.in-Block.line c.in-Block.name c.in-Block.longname c.as_slice.result.now) _ _ c.args.ops.now c.block.new.ops c.args.at c.block.result (c.in-Block.is ∙ ap (λ b. element.Block c.in-Block.line c.in-Block.name c.in-Block.longname b) (sym c.as_slice.ensures)) (counts_block c.in-Block.line c.in-Block.name c.in-Block.longname c.as_slice.result.now) (code_block c.args.scope.now.db.now c.args.scope.now.protocol c.in-Block.line c.in-Block.name c.in-Block.longname c.as_slice.result.now) c.block.ensures

pub element-returns-in-IncludeBlock : goal.element-returns-in-IncludeBlock
element-returns-in-IncludeBlock t c = as_element c.args.scope.now c.args.x.now (element.IncludeBlock c.in-IncludeBlock.line c.in-IncludeBlock.name) _ _ c.args.ops.now c.include.new.ops c.args.at c.include.result c.in-IncludeBlock.is (counts_include c.in-IncludeBlock.line c.in-IncludeBlock.name) (code_include c.args.scope.now.db.now c.args.scope.now.protocol c.in-IncludeBlock.line c.in-IncludeBlock.name) c.include.ensures

pub element-returns-in-Loop : goal.element-returns-in-Loop
element-returns-in-Loop t c = as_element c.args.scope.now c.args.x.now (element.Loop c.in-Loop.line c.in-Loop.kind c.in-Loop.expr c.as_slice-in-Loop.result.now) _ _ c.args.ops.now c.looped.new.ops c.args.at c.looped.result (c.in-Loop.is ∙ ap (λ b. element.Loop c.in-Loop.line c.in-Loop.kind c.in-Loop.expr b) (sym c.as_slice-in-Loop.ensures)) (counts_loop c.in-Loop.line c.in-Loop.kind c.in-Loop.expr c.as_slice-in-Loop.result.now) (code_loop c.args.scope.now.db.now c.args.scope.now.protocol c.in-Loop.line c.in-Loop.kind c.in-Loop.expr c.as_slice-in-Loop.result.now) c.looped.ensures

pub element-returns-in-LoopCtrl : goal.element-returns-in-LoopCtrl
element-returns-in-LoopCtrl t c = as_element c.args.scope.now c.args.x.now (element.LoopCtrl c.in-LoopCtrl.line c.in-LoopCtrl.kind) _ _ c.args.ops.now c.put.new.ops c.args.at c.put.result c.in-LoopCtrl.is (counts_control c.in-LoopCtrl.line c.in-LoopCtrl.kind) (code_control c.args.scope.now.db.now c.args.scope.now.protocol c.in-LoopCtrl.line c.in-LoopCtrl.kind) c.put.ensures

pub element-returns-in-Assign : goal.element-returns-in-Assign
element-returns-in-Assign t c = as_element c.args.scope.now c.args.x.now (element.Assign c.in-Assign.line c.in-Assign.name c.in-Assign.value) _ _ c.args.ops.now c.assign.new.ops c.args.at c.assign.result c.in-Assign.is (counts_assign c.in-Assign.line c.in-Assign.name c.in-Assign.value) (code_assign c.args.scope.now.db.now c.args.scope.now.protocol c.in-Assign.line c.in-Assign.name c.in-Assign.value) c.assign.ensures

pub element-returns-in-NextProto : goal.element-returns-in-NextProto
element-returns-in-NextProto t c = as_element c.args.scope.now c.args.x.now (element.NextProto c.in-NextProto.line c.in-NextProto.proto) _ _ c.args.ops.now c.next_proto.new.ops c.args.at c.next_proto.result c.in-NextProto.is (counts_next c.in-NextProto.line c.in-NextProto.proto) (code_next c.args.scope.now.db.now c.args.scope.now.protocol c.in-NextProto.line c.in-NextProto.proto) c.next_proto.ensures

pub looped-returns : goal.looped-returns
looped-returns t c = loop_wrote c.args.scope.now c.args.xs.now c.args.kind c.args.value.now c.in_ok-value.value c.args.ops.now c.body.new.ops c.set.new.self c.len-start.result c.len.result c.args.at c.in_ok-to.to c.in_ok-value.ensures.code c.len-start.ensures c.in_ok-to.ensures c.len.ensures c.set.ensures

pub element-write_switch-requires-clause-ends : goal.element-write_switch-requires-clause-ends
element-write_switch-requires-clause-ends t c = switch_ends c.args.scope.now c.as_slice-in-Switch.result.now c.in-Switch.otherwise c.args.ops.now c.push.new.self c.bodies.new.ops c.other.new.ops c.len-start.result c.len-middle.result c.args.at c.in_ok-to-in-Switch.to c.in_ok-bodies-in-Switch.bodies c.len-start.ensures c.in_ok-push-in-Switch.ensures.ok c.in_ok-bodies-in-Switch.ensures c.len-middle.ensures c.in_ok-to-in-Switch.ensures

pub element-returns-in_ok-ranges-in-Switch : goal.element-returns-in_ok-ranges-in-Switch
element-returns-in_ok-ranges-in-Switch t c =
    let s = c.args.scope.now in
    let cases = c.as_slice-in-Switch.result.now in
    let same : c.as_slice-in-Switch-2.result.now ≡ cases = c.as_slice-in-Switch-2.ensures ∙ sym c.as_slice-in-Switch.ensures in
    let ranges = c.in_ok-ranges-in-Switch.ensures ∙ ap (λ l. map case_range l) same in
    as_element s c.args.x.now (element.Switch c.in-Switch.line c.in-Switch.expr cases c.in-Switch.otherwise) _ _ c.args.ops.now c.write_switch.new.ops c.args.at (Ok c.in_ok-to-in-Switch.to) (c.in-Switch.is ∙ ap (λ b. element.Switch c.in-Switch.line c.in-Switch.expr b c.in-Switch.otherwise) (sym c.as_slice-in-Switch.ensures)) (counts_switch c.in-Switch.line c.in-Switch.expr cases c.in-Switch.otherwise) (code_switch s.db.now s.protocol c.in-Switch.line c.in-Switch.expr cases c.in-Switch.otherwise)
    (switch_wrote s cases c.in-Switch.otherwise c.args.ops.now c.push.new.self c.bodies.new.ops c.other.new.ops c.len-start.result c.len-middle.result c.args.at c.in_ok-to-in-Switch.to c.in_ok-bodies-in-Switch.bodies c.len-start.ensures c.in_ok-push-in-Switch.ensures.ok c.in_ok-bodies-in-Switch.ensures c.len-middle.ensures c.in_ok-to-in-Switch.ensures c.in-Switch.expr c.in_ok-value-in-Switch.value c.in_ok-ranges-in-Switch.ranges c.write_switch.new.ops c.in_ok-value-in-Switch.ensures.code ranges c.write_switch.ensures)

pub element-returns-in_ok-value-in-If : goal.element-returns-in_ok-value-in-If
element-returns-in_ok-value-in-If t c =
    let s = c.args.scope.now in
    let so = c.as_slice-in-If.result.now in
    as_element s c.args.x.now (element.If c.in-If.line c.in-If.expr c.in-If.true_line so c.in-If.if_false) _ _ c.args.ops.now c.write_test.new.ops c.args.at (Ok c.in_ok-to-in-If.to) (c.in-If.is ∙ ap (λ b. element.If c.in-If.line c.in-If.expr c.in-If.true_line b c.in-If.if_false) (sym c.as_slice-in-If.ensures)) (counts_if c.in-If.line c.in-If.expr c.in-If.true_line so c.in-If.if_false) (code_if s.db.now s.protocol c.in-If.line c.in-If.expr c.in-If.true_line so c.in-If.if_false)
    (test_wrote s so c.in-If.if_false c.args.ops.now c.push-in-If.new.self c.list.new.ops c.push-in-If-2.new.self c.other-in-If.new.ops c.len-start-in-If.result c.len-middle-in-If.result c.args.at c.in_ok-behind-in-If.behind c.in_ok-to-in-If.to c.len-start-in-If.ensures c.in_ok-push-in-If.ensures.ok c.in_ok-behind-in-If.ensures c.len-middle-in-If.ensures c.in_ok-push-in-If-2.ensures.ok c.in_ok-to-in-If.ensures c.in-If.expr c.in_ok-value-in-If.value c.write_test.new.ops c.in_ok-value-in-If.ensures.code c.write_test.ensures)

pub element-returns-in-Update : goal.element-returns-in-Update
element-returns-in-Update t c = as_element c.args.scope.now c.args.x.now (element.Update c.in-Update.line c.in-Update.table c.in-Update.validity c.in-Update.keep c.in-Update.hit c.as_slice-in-Update.result.now c.as_slice-in-Update-2.result.now) _ _ c.args.ops.now c.update.new.ops c.args.at c.update.result (c.in-Update.is ∙ ap (λ b. element.Update c.in-Update.line c.in-Update.table c.in-Update.validity c.in-Update.keep c.in-Update.hit b c.in-Update.row) (sym c.as_slice-in-Update.ensures) ∙ ap (λ b. element.Update c.in-Update.line c.in-Update.table c.in-Update.validity c.in-Update.keep c.in-Update.hit c.as_slice-in-Update.result.now b) (sym c.as_slice-in-Update-2.ensures)) (counts_update c.in-Update.line c.in-Update.table c.in-Update.validity c.in-Update.keep c.in-Update.hit c.as_slice-in-Update.result.now c.as_slice-in-Update-2.result.now) (code_update c.args.scope.now.db.now c.args.scope.now.protocol c.in-Update.line c.in-Update.table c.in-Update.validity c.in-Update.keep c.in-Update.hit c.as_slice-in-Update.result.now c.as_slice-in-Update-2.result.now) c.update.ensures

pub list-loop-x-preserved : goal.list-loop-x-preserved
list-loop-x-preserved t c = record {
  counted = elements_counted c.args.scope.now.db.now c.args.scope.now.protocol c.args.xs.now c.loop-x.x-index c.x-item.result c.loop-x-test.true c.x-item.is (counts c.loop-x.to) (counts c.in_ok-to.to) c.in_ok-to.ensures.place _ c.loop-x.invariant.counted;
  written = elements_written c.args.scope.now.db.now c.args.scope.now.protocol c.args.xs.now c.loop-x.x-index c.x-item.result c.loop-x-test.true c.x-item.is (counts c.loop-x.to) (counts c.in_ok-to.to) c.in_ok-to.ensures.place c.loop-x.ops c.element.new.ops _ c.in_ok-to.ensures.ops c.loop-x.invariant.written;
}
