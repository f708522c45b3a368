use Rattle.std.proofs.Common.{ap, ◌∙◌, map, not}
use Rattle.db_model.specs.Typing.{has_undeclared, is_table, some_of}
use Rattle.expr_type.proofs.Forms.{told, of_part, or_of, undeclared_not, undeclared_and, undeclared_or, undeclared_binary, undeclared_slice, undeclared_to_number, undeclared_length_of, undeclared_to_bytes, undeclared_has_text, undeclared_look_up}
use Rattle.expr_type.proofs.names.+names.Goals as goal

pub has_undeclared-returns-in-Not : goal.has_undeclared-returns-in-Not
has_undeclared-returns-in-Not t c = told (has_undeclared c.args.scope.now.database.now c.args.scope.now.fields.now) _ _ _ _ c.in-Not.is (undeclared_not c.args.scope.now.database.now c.args.scope.now.fields.now c.in-Not.a) (of_part (has_undeclared c.args.scope.now.database.now c.args.scope.now.fields.now) c.has_undeclared.ensures c.get.ensures)

pub has_undeclared-returns-in-ToNumber : goal.has_undeclared-returns-in-ToNumber
has_undeclared-returns-in-ToNumber t c = told (has_undeclared c.args.scope.now.database.now c.args.scope.now.fields.now) _ _ _ _ c.in-ToNumber.is (undeclared_to_number c.args.scope.now.database.now c.args.scope.now.fields.now c.in-ToNumber.a) (of_part (has_undeclared c.args.scope.now.database.now c.args.scope.now.fields.now) c.has_undeclared-in-ToNumber.ensures c.get-in-ToNumber.ensures)

pub has_undeclared-returns-in-LengthOf : goal.has_undeclared-returns-in-LengthOf
has_undeclared-returns-in-LengthOf t c = told (has_undeclared c.args.scope.now.database.now c.args.scope.now.fields.now) _ _ _ _ c.in-LengthOf.is (undeclared_length_of c.args.scope.now.database.now c.args.scope.now.fields.now c.in-LengthOf.a) (of_part (has_undeclared c.args.scope.now.database.now c.args.scope.now.fields.now) c.has_undeclared-in-LengthOf.ensures c.get-in-LengthOf.ensures)

pub has_undeclared-returns-in-ToBytes : goal.has_undeclared-returns-in-ToBytes
has_undeclared-returns-in-ToBytes t c = told (has_undeclared c.args.scope.now.database.now c.args.scope.now.fields.now) _ _ _ _ c.in-ToBytes.is (undeclared_to_bytes c.args.scope.now.database.now c.args.scope.now.fields.now c.in-ToBytes.value c.in-ToBytes.size) (of_part (has_undeclared c.args.scope.now.database.now c.args.scope.now.fields.now) c.has_undeclared-in-ToBytes.ensures c.get-in-ToBytes.ensures)

pub has_undeclared-returns-in-HasText : goal.has_undeclared-returns-in-HasText
has_undeclared-returns-in-HasText t c = told (has_undeclared c.args.scope.now.database.now c.args.scope.now.fields.now) _ _ _ _ c.in-HasText.is (undeclared_has_text c.args.scope.now.database.now c.args.scope.now.fields.now c.in-HasText.within c.in-HasText.text) (of_part (has_undeclared c.args.scope.now.database.now c.args.scope.now.fields.now) c.has_undeclared-in-HasText.ensures c.get-in-HasText.ensures)

pub has_undeclared-returns-in-And : goal.has_undeclared-returns-in-And
has_undeclared-returns-in-And t c = told (has_undeclared c.args.scope.now.database.now c.args.scope.now.fields.now) _ _ _ _ c.in-And.is (undeclared_and c.args.scope.now.database.now c.args.scope.now.fields.now c.in-And.a c.in-And.b) (or_of c.either.ensures (of_part (has_undeclared c.args.scope.now.database.now c.args.scope.now.fields.now) c.has_undeclared-in-And.ensures c.get-in-And.ensures) (of_part (has_undeclared c.args.scope.now.database.now c.args.scope.now.fields.now) c.has_undeclared-in-And-2.ensures c.get-in-And-2.ensures))

pub has_undeclared-returns-in-Or : goal.has_undeclared-returns-in-Or
has_undeclared-returns-in-Or t c = told (has_undeclared c.args.scope.now.database.now c.args.scope.now.fields.now) _ _ _ _ c.in-Or.is (undeclared_or c.args.scope.now.database.now c.args.scope.now.fields.now c.in-Or.a c.in-Or.b) (or_of c.either-in-Or.ensures (of_part (has_undeclared c.args.scope.now.database.now c.args.scope.now.fields.now) c.has_undeclared-in-Or.ensures c.get-in-Or.ensures) (of_part (has_undeclared c.args.scope.now.database.now c.args.scope.now.fields.now) c.has_undeclared-in-Or-2.ensures c.get-in-Or-2.ensures))

pub has_undeclared-returns-in-Binary : goal.has_undeclared-returns-in-Binary
has_undeclared-returns-in-Binary t c = told (has_undeclared c.args.scope.now.database.now c.args.scope.now.fields.now) _ _ _ _ c.in-Binary.is (undeclared_binary c.args.scope.now.database.now c.args.scope.now.fields.now c.in-Binary.field-0 c.in-Binary.a c.in-Binary.b) (or_of c.either-in-Binary.ensures (of_part (has_undeclared c.args.scope.now.database.now c.args.scope.now.fields.now) c.has_undeclared-in-Binary.ensures c.get-in-Binary.ensures) (of_part (has_undeclared c.args.scope.now.database.now c.args.scope.now.fields.now) c.has_undeclared-in-Binary-2.ensures c.get-in-Binary-2.ensures))

pub has_undeclared-returns-in-Slice : goal.has_undeclared-returns-in-Slice
has_undeclared-returns-in-Slice t c = told (has_undeclared c.args.scope.now.database.now c.args.scope.now.fields.now) _ _ _ _ c.in-Slice.is (undeclared_slice c.args.scope.now.database.now c.args.scope.now.fields.now c.in-Slice.base c.in-Slice.from c.in-Slice.count) (or_of c.either-in-Slice-2.ensures (of_part (has_undeclared c.args.scope.now.database.now c.args.scope.now.fields.now) c.has_undeclared-in-Slice.ensures c.get-in-Slice.ensures) (or_of c.either-in-Slice.ensures (of_part (has_undeclared c.args.scope.now.database.now c.args.scope.now.fields.now) c.has_undeclared-in-Slice-2.ensures c.get-in-Slice-2.ensures) (of_part (has_undeclared c.args.scope.now.database.now c.args.scope.now.fields.now) c.has_undeclared-in-Slice-3.ensures c.get-in-Slice-3.ensures)))

pub has_undeclared-returns-in-LookUp : goal.has_undeclared-returns-in-LookUp
has_undeclared-returns-in-LookUp t c = told (has_undeclared c.args.scope.now.database.now c.args.scope.now.fields.now) _ _ _ _ c.in-LookUp.is (undeclared_look_up c.args.scope.now.database.now c.args.scope.now.fields.now c.in-LookUp.table c.in-LookUp.renew c.in-LookUp.keys) (or_of c.either-in-LookUp.ensures (ap not (c.has_table.ensures ∙ ap (is_table c.args.scope.now.database.now) c.as_slice-in-LookUp.ensures.bytes)) (c.some_undeclared.ensures ∙ ap (λ l. some_of (map (has_undeclared c.args.scope.now.database.now c.args.scope.now.fields.now) l)) c.as_slice-in-LookUp-2.ensures))
