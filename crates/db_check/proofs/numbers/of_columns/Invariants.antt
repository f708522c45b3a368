use Rattle.std.proofs.Common.{◌≡◌, drop}
use Rattle.db_cause.specs.declared.cause.Cause.TheVariants as cause
use Rattle.db_model.specs.LeastFault.{earlier}
use Rattle.db_model.specs.Lines.{over}
use Rattle.db_model.specs.NumberFaults.{column_43}
use Rattle.db_check.specs.First.{first}
use Rattle.db_check.proofs.numbers.of_columns.Given as goal

abbrev pub invariant-loop-column : goal.invariant-loop-column
invariant-loop-column l = earlier l.found (first cause.OutOfLimits (over column_43 (drop l.column-index l.columns))) ≡ first cause.OutOfLimits (over column_43 l.columns)
