use Rattle.std.proofs.Common.{◌≡◌, ◌∙◌, refl, ap, rules, subst, List, map, slice_get, IfOk}
use Rattle.db_model.specs.declared.expression.Expr.{Expr}
use Rattle.db_model.specs.Names.{table_at}
use Rattle.expr_code.specs.declared.code.ExprCode as code
use Rattle.expr_code.specs.Code.{numbers_of, look_up_code, code_of}
use Rattle.expr_code.proofs.Forms.{number_code, text_code, protocol_code, field_code, variable_is, column_is, is_present_code, not_code, and_code, or_code, binary_code, slice_code, to_number_code, length_code, to_bytes_code, has_text_code, look_up_is, told, told_if}
use Rattle.expr_code.proofs.resolve.+resolve.Goals as goal

pub resolved-returns-in-Number : goal.resolved-returns-in-Number
resolved-returns-in-Number t c =
    let db = c.args.db.now in
    let fields = c.args.fields.now in
    told db fields c.args.e.now _ _ _ c.in-Number.is (number_code db fields c.in-Number.n) (refl)

pub resolved-returns-in_ok-clone-in-Text : goal.resolved-returns-in_ok-clone-in-Text
resolved-returns-in_ok-clone-in-Text t c =
    let db = c.args.db.now in
    let fields = c.args.fields.now in
    let h : c.in_ok-clone-in-Text.field-0 ≡ c.in-Text.text = search rules in
    told db fields c.args.e.now _ _ _ c.in-Text.is (text_code db fields c.in-Text.text) (ap code.Text h)

pub resolved-returns-in-Protocol : goal.resolved-returns-in-Protocol
resolved-returns-in-Protocol t c =
    let db = c.args.db.now in
    let fields = c.args.fields.now in
    told db fields c.args.e.now _ _ _ c.in-Protocol.is (protocol_code db fields c.in-Protocol.name) (ap code.Protocol c.protocol.ensures)

pub resolved-returns-in_ok-numbers_of-in-Field : goal.resolved-returns-in_ok-numbers_of-in-Field
resolved-returns-in_ok-numbers_of-in-Field t c =
    let db = c.args.db.now in
    let fields = c.args.fields.now in
    told db fields c.args.e.now _ _ _ c.in-Field.is (field_code db fields c.in-Field.name) (ap code.Field (c.in_ok-numbers_of-in-Field.ensures ∙ ap (numbers_of fields) c.as_slice.ensures.bytes))

pub resolved-returns-in-Variable : goal.resolved-returns-in-Variable
resolved-returns-in-Variable t c =
    let db = c.args.db.now in
    let fields = c.args.fields.now in
    told db fields c.args.e.now _ _ _ c.in-Variable.is (variable_is db fields c.in-Variable.name) (c.variable.ensures)

pub resolved-returns-in-Column : goal.resolved-returns-in-Column
resolved-returns-in-Column t c =
    let db = c.args.db.now in
    let fields = c.args.fields.now in
    told db fields c.args.e.now _ _ _ c.in-Column.is (column_is db fields c.in-Column.table c.in-Column.column) (c.column_code.ensures)

pub resolved-returns-in_ok-numbers_of-in-IsPresent : goal.resolved-returns-in_ok-numbers_of-in-IsPresent
resolved-returns-in_ok-numbers_of-in-IsPresent t c =
    let db = c.args.db.now in
    let fields = c.args.fields.now in
    told db fields c.args.e.now _ _ _ c.in-IsPresent.is (is_present_code db fields c.in-IsPresent.name) (ap code.IsPresent (c.in_ok-numbers_of-in-IsPresent.ensures ∙ ap (numbers_of fields) c.as_slice-in-IsPresent.ensures.bytes))

pub resolved-returns-in_ok-part-in-Not : goal.resolved-returns-in_ok-part-in-Not
resolved-returns-in_ok-part-in-Not t c =
    let db = c.args.db.now in
    let fields = c.args.fields.now in
    told db fields c.args.e.now _ _ _ c.in-Not.is (not_code db fields c.in-Not.x) (ap code.Not c.in_ok-part-in-Not.ensures)

pub resolved-returns-in_ok-part-in-And-2 : goal.resolved-returns-in_ok-part-in-And-2
resolved-returns-in_ok-part-in-And-2 t c =
    let db = c.args.db.now in
    let fields = c.args.fields.now in
    told db fields c.args.e.now _ _ _ c.in-And.is (and_code db fields c.in-And.x c.in-And.y) (λ i. code.And (c.in_ok-part-in-And.ensures i) (c.in_ok-part-in-And-2.ensures i))

pub resolved-returns-in_ok-part-in-Or-2 : goal.resolved-returns-in_ok-part-in-Or-2
resolved-returns-in_ok-part-in-Or-2 t c =
    let db = c.args.db.now in
    let fields = c.args.fields.now in
    told db fields c.args.e.now _ _ _ c.in-Or.is (or_code db fields c.in-Or.x c.in-Or.y) (λ i. code.Or (c.in_ok-part-in-Or.ensures i) (c.in_ok-part-in-Or-2.ensures i))

pub resolved-returns-in_ok-part-in-Binary-2 : goal.resolved-returns-in_ok-part-in-Binary-2
resolved-returns-in_ok-part-in-Binary-2 t c =
    let db = c.args.db.now in
    let fields = c.args.fields.now in
    told db fields c.args.e.now _ _ _ c.in-Binary.is (binary_code db fields c.in-Binary.operator c.in-Binary.x c.in-Binary.y) (λ i. code.Binary c.in-Binary.operator (c.in_ok-part-in-Binary.ensures i) (c.in_ok-part-in-Binary-2.ensures i))

pub resolved-returns-in_ok-part-in-Slice-3 : goal.resolved-returns-in_ok-part-in-Slice-3
resolved-returns-in_ok-part-in-Slice-3 t c =
    let db = c.args.db.now in
    let fields = c.args.fields.now in
    told db fields c.args.e.now _ _ _ c.in-Slice.is (slice_code db fields c.in-Slice.base c.in-Slice.from c.in-Slice.count) (λ i. code.Slice (c.in_ok-part-in-Slice.ensures i) (c.in_ok-part-in-Slice-2.ensures i) (c.in_ok-part-in-Slice-3.ensures i))

pub resolved-returns-in_ok-part-in-ToNumber : goal.resolved-returns-in_ok-part-in-ToNumber
resolved-returns-in_ok-part-in-ToNumber t c =
    let db = c.args.db.now in
    let fields = c.args.fields.now in
    told db fields c.args.e.now _ _ _ c.in-ToNumber.is (to_number_code db fields c.in-ToNumber.x) (ap code.ToNumber c.in_ok-part-in-ToNumber.ensures)

pub resolved-returns-in_ok-part-in-LengthOf : goal.resolved-returns-in_ok-part-in-LengthOf
resolved-returns-in_ok-part-in-LengthOf t c =
    let db = c.args.db.now in
    let fields = c.args.fields.now in
    told db fields c.args.e.now _ _ _ c.in-LengthOf.is (length_code db fields c.in-LengthOf.x) (ap code.LengthOf c.in_ok-part-in-LengthOf.ensures)

pub resolved-returns-in_ok-part-in-ToBytes : goal.resolved-returns-in_ok-part-in-ToBytes
resolved-returns-in_ok-part-in-ToBytes t c =
    let db = c.args.db.now in
    let fields = c.args.fields.now in
    told db fields c.args.e.now _ _ _ c.in-ToBytes.is (to_bytes_code db fields c.in-ToBytes.value c.in-ToBytes.size) (λ i. code.ToBytes (c.in_ok-part-in-ToBytes.ensures i) c.in-ToBytes.size)

pub resolved-returns-in-HasText : goal.resolved-returns-in-HasText
resolved-returns-in-HasText t c =
    let db = c.args.db.now in
    let fields = c.args.fields.now in
    told_if db fields c.args.e.now _ _ _ c.in-HasText.is (has_text_code db fields c.in-HasText.within c.in-HasText.text) (c.has_text.ensures)

pub resolved-returns-in-LookUp : goal.resolved-returns-in-LookUp
resolved-returns-in-LookUp t c =
    let db = c.args.db.now in
    let fields = c.args.fields.now in
    let table = c.in-LookUp.table in
    told_if db fields c.args.e.now _ _ _ c.in-LookUp.is (look_up_is db fields table c.in-LookUp.renew c.in-LookUp.keys)
    (subst (λ (l : List Expr). IfOk c.look_up.result (λ x. x ≡ look_up_code (slice_get db.tables (table_at db table)) (table_at db table) c.in-LookUp.renew (map (code_of db fields) l))) c.as_slice-in-LookUp.ensures c.look_up.ensures)
