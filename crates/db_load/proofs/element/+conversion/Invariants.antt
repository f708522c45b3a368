use Rattle.std.proofs.Common.{◌≡◌, ◌++◌, map, drop}
use Rattle.db_load.specs.declared.word.Word.TheVariants as word
use Rattle.db_load.specs.Meaning
use Rattle.db_load.proofs.element.+conversion.Given as goal

abbrev pub invariant-list-loop-node : goal.invariant-list-loop-node
invariant-list-loop-node l = l.elements ++ Meaning.list_by l.rows (map Meaning.meant (drop l.node-index l.nodes)) ≡ Meaning.list_by l.rows (map Meaning.meant l.nodes)

abbrev pub invariant-cases-loop-node : goal.invariant-cases-loop-node
invariant-cases-loop-node l = l.cases ++ Meaning.named word.Case (Meaning.case_by l.of) (map Meaning.meant (drop l.node-index l.nodes)) ≡ Meaning.named word.Case (Meaning.case_by l.of) (map Meaning.meant l.nodes)

abbrev pub invariant-branch-loop-node : goal.invariant-branch-loop-node
invariant-branch-loop-node l = Meaning.first_named l.word (Meaning.branch_by l.of) (map Meaning.meant (drop l.node-index l.nodes)) ≡ Meaning.first_named l.word (Meaning.branch_by l.of) (map Meaning.meant l.nodes)
