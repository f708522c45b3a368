use Rattle.std.proofs.Common.{◌≡◌, max, drop}
use Rattle.db_model.specs.NameFaults.{block_names}
use Rattle.db_check.specs.Heights.{height_at, height_in, height_of_cases}
use Rattle.db_check.proofs.heights.+height.Given as goal

abbrev pub invariant-of_list-loop-element : goal.invariant-of_list-loop-element
invariant-of_list-loop-element l = max l.found (height_in (height_at (block_names l.home.protocol.now) l.heights) (drop l.element-index l.elements)) ≡ height_in (height_at (block_names l.home.protocol.now) l.heights) l.elements

abbrev pub invariant-of_cases-loop-case : goal.invariant-of_cases-loop-case
invariant-of_cases-loop-case l = max l.found (height_of_cases (height_at (block_names l.home.protocol.now) l.heights) (drop l.case-index l.cases)) ≡ height_of_cases (height_at (block_names l.home.protocol.now) l.heights) l.cases
