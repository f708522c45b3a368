use Rattle.std.proofs.Common.{◌≡◌, map, drop}
use Rattle.db_model.specs.Typing.{has_wrong_arity, some_of}
use Rattle.expr_type.proofs.arity.+arity.Given as goal

abbrev pub invariant-some_wrong-loop-key : goal.invariant-some_wrong-loop-key
invariant-some_wrong-loop-key l = some_of (map (has_wrong_arity l.scope.database.now) (drop l.key-index l.keys)) ≡ some_of (map (has_wrong_arity l.scope.database.now) l.keys)
