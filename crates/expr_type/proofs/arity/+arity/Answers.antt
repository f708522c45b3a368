use Rattle.std.proofs.Common.{ap, ◌∙◌, map, not, length, slice_get}
use Rattle.db_model.specs.Names.{table_at}
use Rattle.db_model.specs.Typing.{has_wrong_arity, has_keys, some_of}
use Rattle.expr_type.proofs.Forms.{told, of_part, or_of, arity_not, arity_and, arity_or, arity_binary, arity_slice, arity_to_number, arity_length_of, arity_to_bytes, arity_has_text, arity_look_up}
use Rattle.expr_type.proofs.arity.+arity.Goals as goal

pub has_wrong_arity-returns-in-Not : goal.has_wrong_arity-returns-in-Not
has_wrong_arity-returns-in-Not t c = told (has_wrong_arity c.args.scope.now.database.now) _ _ _ _ c.in-Not.is (arity_not c.args.scope.now.database.now c.in-Not.a) (of_part (has_wrong_arity c.args.scope.now.database.now) c.has_wrong_arity.ensures c.get.ensures)

pub has_wrong_arity-returns-in-ToNumber : goal.has_wrong_arity-returns-in-ToNumber
has_wrong_arity-returns-in-ToNumber t c = told (has_wrong_arity c.args.scope.now.database.now) _ _ _ _ c.in-ToNumber.is (arity_to_number c.args.scope.now.database.now c.in-ToNumber.a) (of_part (has_wrong_arity c.args.scope.now.database.now) c.has_wrong_arity-in-ToNumber.ensures c.get-in-ToNumber.ensures)

pub has_wrong_arity-returns-in-LengthOf : goal.has_wrong_arity-returns-in-LengthOf
has_wrong_arity-returns-in-LengthOf t c = told (has_wrong_arity c.args.scope.now.database.now) _ _ _ _ c.in-LengthOf.is (arity_length_of c.args.scope.now.database.now c.in-LengthOf.a) (of_part (has_wrong_arity c.args.scope.now.database.now) c.has_wrong_arity-in-LengthOf.ensures c.get-in-LengthOf.ensures)

pub has_wrong_arity-returns-in-ToBytes : goal.has_wrong_arity-returns-in-ToBytes
has_wrong_arity-returns-in-ToBytes t c = told (has_wrong_arity c.args.scope.now.database.now) _ _ _ _ c.in-ToBytes.is (arity_to_bytes c.args.scope.now.database.now c.in-ToBytes.value c.in-ToBytes.size) (of_part (has_wrong_arity c.args.scope.now.database.now) c.has_wrong_arity-in-ToBytes.ensures c.get-in-ToBytes.ensures)

pub has_wrong_arity-returns-in-HasText : goal.has_wrong_arity-returns-in-HasText
has_wrong_arity-returns-in-HasText t c = told (has_wrong_arity c.args.scope.now.database.now) _ _ _ _ c.in-HasText.is (arity_has_text c.args.scope.now.database.now c.in-HasText.within c.in-HasText.text) (of_part (has_wrong_arity c.args.scope.now.database.now) c.has_wrong_arity-in-HasText.ensures c.get-in-HasText.ensures)

pub has_wrong_arity-returns-in-And : goal.has_wrong_arity-returns-in-And
has_wrong_arity-returns-in-And t c = told (has_wrong_arity c.args.scope.now.database.now) _ _ _ _ c.in-And.is (arity_and c.args.scope.now.database.now c.in-And.a c.in-And.b) (or_of c.either.ensures (of_part (has_wrong_arity c.args.scope.now.database.now) c.has_wrong_arity-in-And.ensures c.get-in-And.ensures) (of_part (has_wrong_arity c.args.scope.now.database.now) c.has_wrong_arity-in-And-2.ensures c.get-in-And-2.ensures))

pub has_wrong_arity-returns-in-Or : goal.has_wrong_arity-returns-in-Or
has_wrong_arity-returns-in-Or t c = told (has_wrong_arity c.args.scope.now.database.now) _ _ _ _ c.in-Or.is (arity_or c.args.scope.now.database.now c.in-Or.a c.in-Or.b) (or_of c.either-in-Or.ensures (of_part (has_wrong_arity c.args.scope.now.database.now) c.has_wrong_arity-in-Or.ensures c.get-in-Or.ensures) (of_part (has_wrong_arity c.args.scope.now.database.now) c.has_wrong_arity-in-Or-2.ensures c.get-in-Or-2.ensures))

pub has_wrong_arity-returns-in-Binary : goal.has_wrong_arity-returns-in-Binary
has_wrong_arity-returns-in-Binary t c = told (has_wrong_arity c.args.scope.now.database.now) _ _ _ _ c.in-Binary.is (arity_binary c.args.scope.now.database.now c.in-Binary.field-0 c.in-Binary.a c.in-Binary.b) (or_of c.either-in-Binary.ensures (of_part (has_wrong_arity c.args.scope.now.database.now) c.has_wrong_arity-in-Binary.ensures c.get-in-Binary.ensures) (of_part (has_wrong_arity c.args.scope.now.database.now) c.has_wrong_arity-in-Binary-2.ensures c.get-in-Binary-2.ensures))

pub has_wrong_arity-returns-in-Slice : goal.has_wrong_arity-returns-in-Slice
has_wrong_arity-returns-in-Slice t c = told (has_wrong_arity c.args.scope.now.database.now) _ _ _ _ c.in-Slice.is (arity_slice c.args.scope.now.database.now c.in-Slice.base c.in-Slice.from c.in-Slice.count) (or_of c.either-in-Slice-2.ensures (of_part (has_wrong_arity c.args.scope.now.database.now) c.has_wrong_arity-in-Slice.ensures c.get-in-Slice.ensures) (or_of c.either-in-Slice.ensures (of_part (has_wrong_arity c.args.scope.now.database.now) c.has_wrong_arity-in-Slice-2.ensures c.get-in-Slice-2.ensures) (of_part (has_wrong_arity c.args.scope.now.database.now) c.has_wrong_arity-in-Slice-3.ensures c.get-in-Slice-3.ensures)))

pub has_wrong_arity-returns-in-LookUp : goal.has_wrong_arity-returns-in-LookUp
has_wrong_arity-returns-in-LookUp t c = told (has_wrong_arity c.args.scope.now.database.now) _ _ _ _ c.in-LookUp.is (arity_look_up c.args.scope.now.database.now c.in-LookUp.table c.in-LookUp.renew c.in-LookUp.keys) (or_of c.either-in-LookUp.ensures (ap not (c.takes_keys.ensures ∙ ap (λ l. has_keys (slice_get c.args.scope.now.database.now.tables (table_at c.args.scope.now.database.now c.in-LookUp.table)) (length l)) c.as_slice.ensures)) (c.some_wrong.ensures ∙ ap (λ l. some_of (map (has_wrong_arity c.args.scope.now.database.now) l)) c.as_slice-in-LookUp.ensures))
