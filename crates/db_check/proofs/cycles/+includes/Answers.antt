use Rattle.std.proofs.Common.{◌≡◌, ◌∙◌, ◌++◌, List, ℕ, ap, subst, OnOk}
use Rattle.db_model.specs.BlockFaults.{includes_of, includes_in}
use Rattle.db_model.specs.NameFaults.{block_names}
use Rattle.db_model.specs.Names.{Text}
use Rattle.db_check.specs.Graph.{numbers, includes_of_cases, includes_of_other}
use Rattle.db_check.proofs.Included.{includes_block, includes_loop, includes_switch, includes_if, includes_are, both_behind}
use Rattle.db_check.proofs.cycles.+includes.Goals as goal

pub add_element-returns-in-Block : goal.add_element-returns-in-Block
add_element-returns-in-Block t c =
    let e = includes_are c.args.element.now _ _ c.in-Block.is (includes_block c.in-Block.line c.in-Block.name c.in-Block.longname c.in-Block.body) in
    subst (λ (l : List Text). OnOk c.add_list.result (c.add_list.new.included ≡ c.args.included.now ++ numbers (block_names c.args.home.now.protocol.now) l)) (ap includes_in c.as_slice.ensures ∙ e) c.add_list.ensures

pub add_element-returns-in-Loop : goal.add_element-returns-in-Loop
add_element-returns-in-Loop t c =
    let e = includes_are c.args.element.now _ _ c.in-Loop.is (includes_loop c.in-Loop.line c.in-Loop.kind c.in-Loop.expr c.in-Loop.body) in
    subst (λ (l : List Text). OnOk c.add_list-in-Loop.result (c.add_list-in-Loop.new.included ≡ c.args.included.now ++ numbers (block_names c.args.home.now.protocol.now) l)) (ap includes_in c.as_slice-in-Loop.ensures ∙ e) c.add_list-in-Loop.ensures

pub add_element-returns-in_ok-add_cases-in-Switch : goal.add_element-returns-in_ok-add_cases-in-Switch
add_element-returns-in_ok-add_cases-in-Switch t c =
    let names = block_names c.args.home.now.protocol.now in
    let e = includes_are c.args.element.now _ _ c.in-Switch.is (includes_switch c.in-Switch.line c.in-Switch.expr c.in-Switch.cases c.in-Switch.otherwise) in
    let first : c.add_cases.new.included ≡ c.args.included.now ++ numbers names (includes_of_cases c.in-Switch.cases) = c.in_ok-add_cases-in-Switch.ensures ∙ ap (λ l. c.args.included.now ++ numbers names (includes_of_cases l)) c.as_slice-in-Switch.ensures in
    subst (λ (l : List ℕ). OnOk c.add_branch.result (c.add_branch.new.included ≡ l)) (both_behind names c.args.included.now c.add_cases.new.included (includes_of_cases c.in-Switch.cases) (includes_of_other c.in-Switch.otherwise) (includes_of c.args.element.now) first e) c.add_branch.ensures

pub add_element-returns-in_ok-add_list-in-If : goal.add_element-returns-in_ok-add_list-in-If
add_element-returns-in_ok-add_list-in-If t c =
    let names = block_names c.args.home.now.protocol.now in
    let e = includes_are c.args.element.now _ _ c.in-If.is (includes_if c.in-If.line c.in-If.expr c.in-If.true_line c.in-If.if_true c.in-If.if_false) in
    let first : c.add_list-in-If.new.included ≡ c.args.included.now ++ numbers names (includes_in c.in-If.if_true) = c.in_ok-add_list-in-If.ensures ∙ ap (λ l. c.args.included.now ++ numbers names (includes_in l)) c.as_slice-in-If.ensures in
    subst (λ (l : List ℕ). OnOk c.add_branch-in-If.result (c.add_branch-in-If.new.included ≡ l)) (both_behind names c.args.included.now c.add_list-in-If.new.included (includes_in c.in-If.if_true) (includes_of_other c.in-If.if_false) (includes_of c.args.element.now) first e) c.add_branch-in-If.ensures
