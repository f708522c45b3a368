use Rattle.std.proofs.Common.{refl}
use Rattle.expr_text.proofs.PrintedForms.{is_of_form, printing_not, printing_and, printing_or, printing_binary, printing_slice, printing_to_number, printing_length_of, printing_to_bytes, printing_has_text}
use Rattle.expr_text.proofs.print.is_compound.Goals as goal

pub returns-in-Not : goal.returns-in-Not
returns-in-Not c = is_of_form c.args.e.now _ _ _ c.in-Not.is (printing_not c.in-Not.field-0) refl

pub returns-in-And : goal.returns-in-And
returns-in-And c = is_of_form c.args.e.now _ _ _ c.in-And.is (printing_and c.in-And.field-0 c.in-And.field-1) refl

pub returns-in-Or : goal.returns-in-Or
returns-in-Or c = is_of_form c.args.e.now _ _ _ c.in-Or.is (printing_or c.in-Or.field-0 c.in-Or.field-1) refl

pub returns-in-Binary : goal.returns-in-Binary
returns-in-Binary c = is_of_form c.args.e.now _ _ _ c.in-Binary.is (printing_binary c.in-Binary.field-0 c.in-Binary.field-1 c.in-Binary.field-2) refl

pub returns-in-Slice : goal.returns-in-Slice
returns-in-Slice c = is_of_form c.args.e.now _ _ _ c.in-Slice.is (printing_slice c.in-Slice.base c.in-Slice.from c.in-Slice.count) refl

pub returns-in-ToNumber : goal.returns-in-ToNumber
returns-in-ToNumber c = is_of_form c.args.e.now _ _ _ c.in-ToNumber.is (printing_to_number c.in-ToNumber.field-0) refl

pub returns-in-LengthOf : goal.returns-in-LengthOf
returns-in-LengthOf c = is_of_form c.args.e.now _ _ _ c.in-LengthOf.is (printing_length_of c.in-LengthOf.field-0) refl

pub returns-in-ToBytes : goal.returns-in-ToBytes
returns-in-ToBytes c = is_of_form c.args.e.now _ _ _ c.in-ToBytes.is (printing_to_bytes c.in-ToBytes.value c.in-ToBytes.size) refl

pub returns-in-HasText : goal.returns-in-HasText
returns-in-HasText c = is_of_form c.args.e.now _ _ _ c.in-HasText.is (printing_has_text c.in-HasText.within c.in-HasText.text) refl
