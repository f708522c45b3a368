use Rattle.std.proofs.Common.{◌≡◌, drop}
use Rattle.db_model.specs.LeastFault.{earlier}
use Rattle.db_model.specs.Lines.{over}
use Rattle.db_model.specs.NameFaults.{block_names}
use Rattle.db_check.specs.First.{first}
use Rattle.db_check.specs.Own.{cause_of, key_lines}
use Rattle.db_check.proofs.own.of_keys.Given as goal

abbrev pub invariant-loop-key : goal.invariant-loop-key
invariant-loop-key l = earlier l.found (first (cause_of l.kind) (over (key_lines l.around.scope.database.now l.around.scope.fields.now (block_names l.around.protocol.now) l.kind) (drop l.key-index l.keys))) ≡ first (cause_of l.kind) (over (key_lines l.around.scope.database.now l.around.scope.fields.now (block_names l.around.protocol.now) l.kind) l.keys)
