use Rattle.std.proofs.Common.{◌≡◌, drop}
use Rattle.db_model.specs.LeastFault.{earlier}
use Rattle.db_model.specs.Lines.{over, lines_of}
use Rattle.db_check.specs.Around.{own_in}
use Rattle.db_check.specs.First.{first}
use Rattle.db_check.specs.Layer.{lines_of_cases}
use Rattle.db_check.specs.Own.{cause_of}
use Rattle.db_check.proofs.walk.+walk.Given as goal

abbrev pub invariant-of_list-loop-element : goal.invariant-of_list-loop-element
invariant-of_list-loop-element l = earlier l.found (first (cause_of l.kind) (over (lines_of (own_in l.around l.kind)) (drop l.element-index l.elements))) ≡ first (cause_of l.kind) (over (lines_of (own_in l.around l.kind)) l.elements)

abbrev pub invariant-of_cases-loop-case : goal.invariant-of_cases-loop-case
invariant-of_cases-loop-case l = earlier l.found (first (cause_of l.kind) (lines_of_cases (own_in l.around l.kind) (drop l.case-index l.cases))) ≡ first (cause_of l.kind) (lines_of_cases (own_in l.around l.kind) l.cases)
