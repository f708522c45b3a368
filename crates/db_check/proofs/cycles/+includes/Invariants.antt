use Rattle.std.proofs.Common.{◌≡◌, ◌++◌, drop}
use Rattle.db_model.specs.BlockFaults.{includes_in}
use Rattle.db_model.specs.NameFaults.{block_names}
use Rattle.db_check.specs.Graph.{numbers, includes_of_cases}
use Rattle.db_check.proofs.cycles.+includes.Given as goal

abbrev pub invariant-add_list-loop-element : goal.invariant-add_list-loop-element
invariant-add_list-loop-element l = l.included ++ numbers (block_names l.home.protocol.now) (includes_in (drop l.element-index l.elements)) ≡ l.fn.included ++ numbers (block_names l.home.protocol.now) (includes_in l.elements)

abbrev pub invariant-add_cases-loop-case : goal.invariant-add_cases-loop-case
invariant-add_cases-loop-case l = l.included ++ numbers (block_names l.home.protocol.now) (includes_of_cases (drop l.case-index l.cases)) ≡ l.fn.included ++ numbers (block_names l.home.protocol.now) (includes_of_cases l.cases)
