use Rattle.std.proofs.Common.{◌≡◌, map, drop}
use Rattle.db_model.specs.Typing.{has_undeclared, some_of}
use Rattle.expr_type.proofs.names.+names.Given as goal

abbrev pub invariant-some_undeclared-loop-key : goal.invariant-some_undeclared-loop-key
invariant-some_undeclared-loop-key l = some_of (map (has_undeclared l.scope.database.now l.scope.fields.now) (drop l.key-index l.keys)) ≡ some_of (map (has_undeclared l.scope.database.now l.scope.fields.now) l.keys)
