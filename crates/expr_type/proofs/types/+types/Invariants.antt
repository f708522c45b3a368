use Rattle.std.proofs.Common.{◌≡◌, map, drop}
use Rattle.std.specs.List.{list_all}
use Rattle.db_model.specs.declared.value.Ty.TheVariants.{Buf}
use Rattle.db_model.specs.Typing.{ty_of, is_of}
use Rattle.expr_type.proofs.types.+types.Given as goal

abbrev pub invariant-all_bytes-loop-key : goal.invariant-all_bytes-loop-key
invariant-all_bytes-loop-key l = list_all (is_of Buf) (map (ty_of l.scope.database.now) (drop l.key-index l.keys)) ≡ list_all (is_of Buf) (map (ty_of l.scope.database.now) l.keys)
