use Rattle.std.proofs.Common.{◌≡◌, drop}
use Rattle.db_cause.specs.declared.cause.Cause.TheVariants as cause
use Rattle.db_model.specs.LeastFault.{earlier}
use Rattle.db_model.specs.Lines.{over}
use Rattle.db_model.specs.NameFaults.{repeated_in_table}
use Rattle.db_check.specs.First.{first}
use Rattle.db_check.proofs.repeats.in_tables.Given as goal

abbrev pub invariant-loop-table : goal.invariant-loop-table
invariant-loop-table l = earlier l.found (first cause.DeclaredAgain (over repeated_in_table (drop l.table-index l.tables))) ≡ first cause.DeclaredAgain (over repeated_in_table l.tables)
