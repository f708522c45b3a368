use Rattle.std.proofs.Common.{◌≡◌, drop}
use Rattle.db_cause.specs.declared.cause.Cause.TheVariants as cause
use Rattle.db_model.specs.LeastFault.{earlier}
use Rattle.db_model.specs.Lines.{over}
use Rattle.db_model.specs.NumberFaults.{key_43}
use Rattle.db_check.specs.First.{first}
use Rattle.db_check.proofs.numbers.of_keys.Given as goal

abbrev pub invariant-loop-key : goal.invariant-loop-key
invariant-loop-key l = earlier l.found (first cause.OutOfLimits (over key_43 (drop l.key-index l.keys))) ≡ first cause.OutOfLimits (over key_43 l.keys)
