use Rattle.std.proofs.Common.{◌≡◌, drop}
use Rattle.db_cause.specs.declared.cause.Cause.TheVariants as cause
use Rattle.db_model.specs.LeastFault.{earlier}
use Rattle.db_model.specs.NumberFaults.{tables_43}
use Rattle.db_check.specs.First.{first}
use Rattle.db_check.proofs.numbers.of_tables.Given as goal

abbrev pub invariant-loop-table : goal.invariant-loop-table
invariant-loop-table l = earlier l.found (first cause.OutOfLimits (tables_43 l.before (drop l.table-index l.tables))) ≡ first cause.OutOfLimits (tables_43 0 l.tables)
