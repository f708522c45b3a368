use Rattle.std.specs.Prelude.{bytes_eq}
use Rattle.std.proofs.Common.{rules, ◌≡◌, map, ap, sym, ◌∙◌, ◌++◌}
use Rattle.db_text.specs.declared.node.Node.{out-Node}
use Rattle.db_load.specs.declared.word.Word.TheVariants as word
use Rattle.db_load.specs.Values.{expr_by}
use Rattle.db_load.specs.Meaning.{at, meant, case_by, branch_by, first_named, condition}
use Rattle.db_load.proofs.Means.{named_step, first_so, first_not, list_step, branch_of}
use Rattle.db_load.proofs.element.+conversion.Goals as goal

pub list-loop-node-preserved : goal.list-loop-node-preserved
list-loop-node-preserved t c = list_step c.args.rows.now c.args.nodes.now c.loop-node.node-index c.node-item.result c.as_slice.result.now c.row_of.result c.loop-node.elements c.push_some.new.items _ c.loop-node-test.true c.node-item.is c.as_slice.ensures c.row_of.ensures (c.in_ok-push_some.ensures ∙ ap (λ l. c.loop-node.elements ++ l) c.in_ok-placed.ensures) c.loop-node.invariant

pub cases-loop-node-preserved : goal.cases-loop-node-preserved
cases-loop-node-preserved t c = named_step word.Case (case_by c.args.of) c.args.nodes.now c.loop-node.node-index c.node-item.result c.loop-node.cases c.push_some.new.items _ c.loop-node-test.true c.node-item.is (c.in_ok-push_some.ensures ∙ ap (λ l. c.loop-node.cases ++ l) c.in_ok-found.ensures) c.loop-node.invariant

pub branch-returns-then-eq : goal.branch-returns-then-eq
branch-returns-then-eq t c = first_so c.args.word (branch_by c.args.of) c.args.nodes.now c.loop-node.node-index c.node-item.result c.as_slice.result.now _ _ c.loop-node-test.true c.node-item.is c.as_slice.ensures (ap (λ w. bytes_eq c.as_slice.result.now w) (sym c.spelled.ensures) ∙ (sym c.eq.ensures ∙ c.if-eq.true)) (branch_of c.args.of c.node-item.result c.in_ok-body.body c.in_ok-body.ensures) c.loop-node.invariant

pub branch-loop-node-preserved : goal.branch-loop-node-preserved
branch-loop-node-preserved t c = first_not c.args.word (branch_by c.args.of) c.args.nodes.now c.loop-node.node-index c.node-item.result c.as_slice.result.now _ c.loop-node-test.true c.node-item.is c.as_slice.ensures (ap (λ w. bytes_eq c.as_slice.result.now w) (sym c.spelled.ensures) ∙ (sym c.eq.ensures ∙ c.if-eq.false)) c.loop-node.invariant

pub condition-returns : goal.condition-returns
condition-returns t c =
    let e : c.in_ok-expr.expr ≡ expr_by (at (out-Node c.args.node.now).attributes word.Expr) = search rules in
    let so : c.in_ok-so.so ≡ first_named word.IfTrue (branch_by c.args.of) (map meant (out-Node c.args.node.now).children) = c.in_ok-so.ensures ∙ ap (λ l. first_named word.IfTrue (branch_by c.args.of) (map meant l)) c.as_slice-nodes.ensures in
    let other : c.in_ok-otherwise.otherwise ≡ first_named word.IfFalse (branch_by c.args.of) (map meant (out-Node c.args.node.now).children) = c.in_ok-otherwise.ensures ∙ ap (λ l. first_named word.IfFalse (branch_by c.args.of) (map meant l)) c.as_slice-nodes.ensures in
    c.condition_of.ensures
    ∙ (ap (λ x. condition (out-Node c.args.node.now).line x c.in_ok-so.so c.in_ok-otherwise.otherwise) e
    ∙ (ap (λ x. condition (out-Node c.args.node.now).line (expr_by (at (out-Node c.args.node.now).attributes word.Expr)) x c.in_ok-otherwise.otherwise) so
    ∙ ap (λ x. condition (out-Node c.args.node.now).line (expr_by (at (out-Node c.args.node.now).attributes word.Expr)) (first_named word.IfTrue (branch_by c.args.of) (map meant (out-Node c.args.node.now).children)) x) other))
