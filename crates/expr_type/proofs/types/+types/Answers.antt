use Rattle.std.proofs.Common.{ap, ◌∙◌, map}
use Rattle.std.specs.List.{list_all}
use Rattle.db_model.specs.declared.value.Ty.TheVariants.{Num, Buf}
use Rattle.db_model.specs.Typing.{ty_of, is_of, operator_ty}
use Rattle.expr_type.proofs.Forms.{told, of_part, and_of, test_of, typed_of, ty_not, ty_and, ty_or, ty_binary, ty_slice, ty_to_number, ty_length_of, ty_to_bytes, ty_has_text, ty_look_up}
use Rattle.expr_type.proofs.types.+types.Goals as goal

pub type_by-returns-in-Not : goal.type_by-returns-in-Not
type_by-returns-in-Not t c = told (ty_of c.args.scope.now.database.now) _ _ _ _ c.in-Not.is (ty_not c.args.scope.now.database.now c.in-Not.a) (typed_of Num c.typed.ensures (test_of Num c.is.ensures (of_part (ty_of c.args.scope.now.database.now) c.type_by.ensures c.get.ensures)))

pub type_by-returns-in-And : goal.type_by-returns-in-And
type_by-returns-in-And t c = told (ty_of c.args.scope.now.database.now) _ _ _ _ c.in-And.is (ty_and c.args.scope.now.database.now c.in-And.a c.in-And.b) (typed_of Num c.typed-in-And.ensures (and_of c.both.ensures (test_of Num c.is-in-And.ensures (of_part (ty_of c.args.scope.now.database.now) c.type_by-in-And.ensures c.get-in-And.ensures)) (test_of Num c.is-in-And-2.ensures (of_part (ty_of c.args.scope.now.database.now) c.type_by-in-And-2.ensures c.get-in-And-2.ensures))))

pub type_by-returns-in-Or : goal.type_by-returns-in-Or
type_by-returns-in-Or t c = told (ty_of c.args.scope.now.database.now) _ _ _ _ c.in-Or.is (ty_or c.args.scope.now.database.now c.in-Or.a c.in-Or.b) (typed_of Num c.typed-in-Or.ensures (and_of c.both-in-Or.ensures (test_of Num c.is-in-Or.ensures (of_part (ty_of c.args.scope.now.database.now) c.type_by-in-Or.ensures c.get-in-Or.ensures)) (test_of Num c.is-in-Or-2.ensures (of_part (ty_of c.args.scope.now.database.now) c.type_by-in-Or-2.ensures c.get-in-Or-2.ensures))))

pub type_by-returns-in-Binary : goal.type_by-returns-in-Binary
type_by-returns-in-Binary t c = told (ty_of c.args.scope.now.database.now) _ _ _ _ c.in-Binary.is (ty_binary c.args.scope.now.database.now c.in-Binary.operator c.in-Binary.a c.in-Binary.b) (c.of_operator.ensures ∙ (λ i. operator_ty c.in-Binary.operator (of_part (ty_of c.args.scope.now.database.now) c.type_by-in-Binary.ensures c.get-in-Binary.ensures i) (of_part (ty_of c.args.scope.now.database.now) c.type_by-in-Binary-2.ensures c.get-in-Binary-2.ensures i)))

pub type_by-returns-in-Slice : goal.type_by-returns-in-Slice
type_by-returns-in-Slice t c = told (ty_of c.args.scope.now.database.now) _ _ _ _ c.in-Slice.is (ty_slice c.args.scope.now.database.now c.in-Slice.base c.in-Slice.from c.in-Slice.count) (typed_of Buf c.typed-in-Slice.ensures (and_of c.both-in-Slice-2.ensures (test_of Buf c.is-in-Slice.ensures (of_part (ty_of c.args.scope.now.database.now) c.type_by-in-Slice.ensures c.get-in-Slice.ensures)) (and_of c.both-in-Slice.ensures (test_of Num c.is-in-Slice-2.ensures (of_part (ty_of c.args.scope.now.database.now) c.type_by-in-Slice-2.ensures c.get-in-Slice-2.ensures)) (test_of Num c.is-in-Slice-3.ensures (of_part (ty_of c.args.scope.now.database.now) c.type_by-in-Slice-3.ensures c.get-in-Slice-3.ensures)))))

pub type_by-returns-in-ToNumber : goal.type_by-returns-in-ToNumber
type_by-returns-in-ToNumber t c = told (ty_of c.args.scope.now.database.now) _ _ _ _ c.in-ToNumber.is (ty_to_number c.args.scope.now.database.now c.in-ToNumber.a) (typed_of Num c.typed-in-ToNumber.ensures (test_of Buf c.is-in-ToNumber.ensures (of_part (ty_of c.args.scope.now.database.now) c.type_by-in-ToNumber.ensures c.get-in-ToNumber.ensures)))

pub type_by-returns-in-LengthOf : goal.type_by-returns-in-LengthOf
type_by-returns-in-LengthOf t c = told (ty_of c.args.scope.now.database.now) _ _ _ _ c.in-LengthOf.is (ty_length_of c.args.scope.now.database.now c.in-LengthOf.a) (typed_of Num c.typed-in-LengthOf.ensures (test_of Buf c.is-in-LengthOf.ensures (of_part (ty_of c.args.scope.now.database.now) c.type_by-in-LengthOf.ensures c.get-in-LengthOf.ensures)))

pub type_by-returns-in-ToBytes : goal.type_by-returns-in-ToBytes
type_by-returns-in-ToBytes t c = told (ty_of c.args.scope.now.database.now) _ _ _ _ c.in-ToBytes.is (ty_to_bytes c.args.scope.now.database.now c.in-ToBytes.value c.in-ToBytes.size) (typed_of Buf c.typed-in-ToBytes.ensures (and_of c.both-in-ToBytes.ensures (test_of Num c.is-in-ToBytes.ensures (of_part (ty_of c.args.scope.now.database.now) c.type_by-in-ToBytes.ensures c.get-in-ToBytes.ensures)) c.is_size.ensures))

pub type_by-returns-in-HasText : goal.type_by-returns-in-HasText
type_by-returns-in-HasText t c = told (ty_of c.args.scope.now.database.now) _ _ _ _ c.in-HasText.is (ty_has_text c.args.scope.now.database.now c.in-HasText.within c.in-HasText.text) (typed_of Num c.typed-in-HasText.ensures (test_of Buf c.is-in-HasText.ensures (of_part (ty_of c.args.scope.now.database.now) c.type_by-in-HasText.ensures c.get-in-HasText.ensures)))

pub type_by-returns-in-LookUp : goal.type_by-returns-in-LookUp
type_by-returns-in-LookUp t c = told (ty_of c.args.scope.now.database.now) _ _ _ _ c.in-LookUp.is (ty_look_up c.args.scope.now.database.now c.in-LookUp.table c.in-LookUp.renew c.in-LookUp.keys) (typed_of Num c.typed-in-LookUp.ensures (c.all_bytes.ensures ∙ ap (λ l. list_all (is_of Buf) (map (ty_of c.args.scope.now.database.now) l)) c.as_slice.ensures))
