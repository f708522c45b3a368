use Rattle.std.proofs.Common.{◌≡◌, ◌++◌, map, drop}
use Rattle.pdl_code.specs.Parts.{case_range}
use Rattle.pdl_code.proofs.written.ranges_of.Given as goal

abbrev pub invariant-loop-case : goal.invariant-loop-case
invariant-loop-case l = l.ranges ++ map case_range (drop l.case-index l.cases) ≡ map case_range l.cases
