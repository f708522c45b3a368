use Rattle.std.proofs.Common.{◌≡◌, drop}
use Rattle.db_cause.specs.declared.cause.Cause.TheVariants as cause
use Rattle.db_model.specs.LeastFault.{earlier}
use Rattle.db_model.specs.Lines.{over}
use Rattle.db_check.specs.Uses.{literal_lines}
use Rattle.db_check.specs.First.{first}
use Rattle.db_check.proofs.uses.unknown_literals.Given as goal

abbrev pub invariant-loop-variable : goal.invariant-loop-variable
invariant-loop-variable l = earlier l.found (first cause.Undeclared (over (literal_lines l.known.database.now) (drop l.variable-index l.variables))) ≡ first cause.Undeclared (over (literal_lines l.known.database.now) l.variables)
