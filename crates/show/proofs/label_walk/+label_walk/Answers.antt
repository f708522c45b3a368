use Rattle.std.proofs.Common.{◌≡◌, ◌∙◌, ap, subst, OnOk}
use Rattle.show.specs.declared.labels.ProtocolLabels.{ProtocolLabels}
use Rattle.show.specs.Labels.{then, a_block, block_label, labels_in, labels_of_element, labels_of_cases, labels_of_other}
use Rattle.show.proofs.LabelLemmas.{labels_are, none_behind, both_behind, labels_field, labels_block, labels_loop, labels_switch, labels_if, labels_include, labels_control, labels_assign, labels_update, labels_next}
use Rattle.show.proofs.label_walk.+label_walk.Goals as goal

pub add_element-returns-in-Field : goal.add_element-returns-in-Field
add_element-returns-in-Field t c =
    let ts = c.args.templates.now in
    let e = labels_are ts c.args.element.now _ _ c.in-Field.is (labels_field ts c.in-Field.line c.in-Field.name c.in-Field.form c.in-Field.longname c.in-Field.show) in
    subst (λ (l : ProtocolLabels). OnOk c.add_field_label.result (c.add_field_label.new.labels ≡ then c.args.labels.now l)) e c.add_field_label.ensures

pub add_element-returns-in_ok-add_block_label-in-Block : goal.add_element-returns-in_ok-add_block_label-in-Block
add_element-returns-in_ok-add_block_label-in-Block t c =
    let ts = c.args.templates.now in
    let label = a_block (block_label c.in-Block.name c.in-Block.longname) in
    let e = labels_are ts c.args.element.now _ _ c.in-Block.is (labels_block ts c.in-Block.line c.in-Block.name c.in-Block.longname c.in-Block.body) in
    let body = ap (labels_in ts) c.as_slice.ensures in
    subst (λ (l : ProtocolLabels). OnOk c.add_elements.result (c.add_elements.new.labels ≡ l))
    (ap (then c.add_block_label.new.labels) body ∙ both_behind c.args.labels.now c.add_block_label.new.labels label (labels_in ts c.in-Block.body) (labels_of_element ts c.args.element.now) c.in_ok-add_block_label-in-Block.ensures e) c.add_elements.ensures

pub add_element-returns-in-Loop : goal.add_element-returns-in-Loop
add_element-returns-in-Loop t c =
    let ts = c.args.templates.now in
    let e = labels_are ts c.args.element.now _ _ c.in-Loop.is (labels_loop ts c.in-Loop.line c.in-Loop.kind c.in-Loop.expr c.in-Loop.body) in
    subst (λ (l : ProtocolLabels). OnOk c.add_elements-in-Loop.result (c.add_elements-in-Loop.new.labels ≡ then c.args.labels.now l)) (ap (labels_in ts) c.as_slice-in-Loop.ensures ∙ e) c.add_elements-in-Loop.ensures

pub add_element-returns-in_ok-add_cases-in-Switch : goal.add_element-returns-in_ok-add_cases-in-Switch
add_element-returns-in_ok-add_cases-in-Switch t c =
    let ts = c.args.templates.now in
    let e = labels_are ts c.args.element.now _ _ c.in-Switch.is (labels_switch ts c.in-Switch.line c.in-Switch.expr c.in-Switch.cases c.in-Switch.otherwise) in
    let first : c.add_cases.new.labels ≡ then c.args.labels.now (labels_of_cases ts c.in-Switch.cases) = c.in_ok-add_cases-in-Switch.ensures ∙ ap (λ l. then c.args.labels.now (labels_of_cases ts l)) c.as_slice-in-Switch.ensures in
    subst (λ (l : ProtocolLabels). OnOk c.add_branch.result (c.add_branch.new.labels ≡ l)) (both_behind c.args.labels.now c.add_cases.new.labels (labels_of_cases ts c.in-Switch.cases) (labels_of_other ts c.in-Switch.otherwise) (labels_of_element ts c.args.element.now) first e) c.add_branch.ensures

pub add_element-returns-in_ok-add_elements-in-If : goal.add_element-returns-in_ok-add_elements-in-If
add_element-returns-in_ok-add_elements-in-If t c =
    let ts = c.args.templates.now in
    let e = labels_are ts c.args.element.now _ _ c.in-If.is (labels_if ts c.in-If.line c.in-If.expr c.in-If.true_line c.in-If.if_true c.in-If.if_false) in
    let first : c.add_elements-in-If.new.labels ≡ then c.args.labels.now (labels_in ts c.in-If.if_true) = c.in_ok-add_elements-in-If.ensures ∙ ap (λ l. then c.args.labels.now (labels_in ts l)) c.as_slice-in-If.ensures in
    subst (λ (l : ProtocolLabels). OnOk c.add_branch-in-If.result (c.add_branch-in-If.new.labels ≡ l)) (both_behind c.args.labels.now c.add_elements-in-If.new.labels (labels_in ts c.in-If.if_true) (labels_of_other ts c.in-If.if_false) (labels_of_element ts c.args.element.now) first e) c.add_branch-in-If.ensures

pub add_element-returns-in-IncludeBlock : goal.add_element-returns-in-IncludeBlock
add_element-returns-in-IncludeBlock t c = none_behind c.args.templates.now c.args.labels.now c.args.element.now _ c.in-IncludeBlock.is (labels_include c.args.templates.now c.in-IncludeBlock.line c.in-IncludeBlock.name)

pub add_element-returns-in-LoopCtrl : goal.add_element-returns-in-LoopCtrl
add_element-returns-in-LoopCtrl t c = none_behind c.args.templates.now c.args.labels.now c.args.element.now _ c.in-LoopCtrl.is (labels_control c.args.templates.now c.in-LoopCtrl.line c.in-LoopCtrl.kind)

pub add_element-returns-in-Assign : goal.add_element-returns-in-Assign
add_element-returns-in-Assign t c = none_behind c.args.templates.now c.args.labels.now c.args.element.now _ c.in-Assign.is (labels_assign c.args.templates.now c.in-Assign.line c.in-Assign.name c.in-Assign.value)

pub add_element-returns-in-Update : goal.add_element-returns-in-Update
add_element-returns-in-Update t c = none_behind c.args.templates.now c.args.labels.now c.args.element.now _ c.in-Update.is (labels_update c.args.templates.now c.in-Update.line c.in-Update.table c.in-Update.validity c.in-Update.keep c.in-Update.hit c.in-Update.keys c.in-Update.row)

pub add_element-returns-in-NextProto : goal.add_element-returns-in-NextProto
add_element-returns-in-NextProto t c = none_behind c.args.templates.now c.args.labels.now c.args.element.now _ c.in-NextProto.is (labels_next c.args.templates.now c.in-NextProto.line c.in-NextProto.proto)
