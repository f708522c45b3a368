-- The canonical text of a well-formed expression reads back as that expression.
use Rattle.std.proofs.Common.{◌≡◌, ℕ, Bool, true, List, [], ◌∷◌, ◌++◌, map, sym, subst, ◌∙◌, append-nil}
use Rattle.std.proofs.lemmas.Bool.{and_parts, leb-true}
use Rattle.std.specs.List.{list_all}
use Rattle.std.specs.Prelude.{◌&&◌, nat_le}
use Rattle.db_model.proofs.Layers.{fold_number, fold_text, fold_protocol, fold_field, fold_variable, fold_column, fold_not, fold_and, fold_or, fold_binary, fold_slice, fold_to_number, fold_length_of, fold_to_bytes, fold_has_text, fold_is_present, fold_look_up}
use Rattle.db_model.specs.declared.expression.Expr.{Expr, roll-Expr}
use Rattle.db_model.specs.declared.expression.Expr.TheOpen.{Expr-F, Number, Text, Protocol, Field, Variable, Column, Not, And, Or, Binary, Slice, ToNumber, LengthOf, ToBytes, HasText, IsPresent, LookUp}
use Rattle.db_model.specs.declared.expression.Expr.TheFolds.{ind-Expr}
use Rattle.db_model.specs.declared.expression.Expr.TheVariants as expr
use Rattle.db_model.specs.declared.expression.Expr.TheVariants.{rolls-Number, rolls-Text, rolls-Protocol, rolls-Field, rolls-Variable, rolls-Column, rolls-Not, rolls-And, rolls-Or, rolls-Binary, rolls-Slice, rolls-ToNumber, rolls-LengthOf, rolls-ToBytes, rolls-HasText, rolls-IsPresent, rolls-LookUp}
use Rattle.db_model.specs.declared.expression.Operator.{Operator}
use Rattle.db_model.specs.declared.limits.TheConstants.{GREATEST_NUMBER}
use Rattle.db_model.specs.Forms.{is_byte, form_step, is_expression}
use Rattle.db_model.specs.Name.{is_name}
use Rattle.expr_text.specs.Lexing.{lexed, lexemes, AreTokens}
use Rattle.expr_text.specs.Printing.{Printed, operand, printed_step, printing, printed}
use Rattle.expr_text.specs.Refusal.{IsSpelled, IsSmall}
use Rattle.expr_text.specs.Sizes.{small}
use Rattle.expr_text.proofs.Answered.{small_true}
use Rattle.expr_text.proofs.PrintedTokens.{IsRead, IsOperand, AreRead, argument, as_operand, number_read, text_read, protocol_read, field_read, variable_read, column_read, not_read, and_read, or_read, binary_read, slice_read, to_number_read, length_of_read, to_bytes_read, has_text_read, is_present_read, look_up_read, no_keys, more_keys}
use Rattle.expr_text.proofs.WellFormed.{form, all_bytes}

-- a formal expression's text reads back as that expression
abbrev Comes : Expr → Type 0
Comes e = form e ≡ true → IsRead e (printing e)

-- what is printed by the step on one layer, of a form that the step gives
by_step : (e : Expr) (p : Printed) (b : Bool) → printing e ≡ p → form e ≡ b → (b ≡ true → IsRead e p) → Comes e
by_step e p b q f r h = subst (IsRead e) (sym q) (r (sym f ∙ h))

operand_comes : (e : Expr) → Comes e → form e ≡ true → IsOperand e (operand (printing e))
operand_comes e r h = as_operand e (printing e) (r h)

-- ---- the forms with parts

comes_not : (a : Expr) → Comes a → Comes (expr.Not a)
comes_not a x = by_step (expr.Not a) _ _ (fold_not Printed printed_step a) (fold_not Bool form_step a) (λ h. not_read a _ (operand_comes a x h))

comes_and : (a b : Expr) → Comes a → Comes b → Comes (expr.And a b)
comes_and a b x y = by_step (expr.And a b) _ _ (fold_and Printed printed_step a b) (fold_and Bool form_step a b) (λ h. let p = and_parts (form a) (form b) h in and_read a b _ _ (operand_comes a x p.0) (operand_comes b y p.1))

comes_or : (a b : Expr) → Comes a → Comes b → Comes (expr.Or a b)
comes_or a b x y = by_step (expr.Or a b) _ _ (fold_or Printed printed_step a b) (fold_or Bool form_step a b) (λ h. let p = and_parts (form a) (form b) h in or_read a b _ _ (operand_comes a x p.0) (operand_comes b y p.1))

comes_binary : (o : Operator) (a b : Expr) → Comes a → Comes b → Comes (expr.Binary o a b)
comes_binary o a b x y = by_step (expr.Binary o a b) _ _ (fold_binary Printed printed_step o a b) (fold_binary Bool form_step o a b) (λ h. let p = and_parts (form a) (form b) h in binary_read o a b _ _ (operand_comes a x p.0) (operand_comes b y p.1))

comes_slice : (a b d : Expr) → Comes a → Comes b → Comes d → Comes (expr.Slice a b d)
comes_slice a b d x y z = by_step (expr.Slice a b d) _ _ (fold_slice Printed printed_step a b d) (fold_slice Bool form_step a b d) (λ h.
    let p = and_parts (form a) (form b && form d) h in
    let q = and_parts (form b) (form d) p.1 in
    slice_read a b d _ (printing b) (printing d) (operand_comes a x p.0) (y q.0) (z q.1))

comes_to_number : (a : Expr) → Comes a → Comes (expr.ToNumber a)
comes_to_number a x = by_step (expr.ToNumber a) _ _ (fold_to_number Printed printed_step a) (fold_to_number Bool form_step a) (λ h. to_number_read a (printing a) (x h))

comes_length_of : (a : Expr) → Comes a → Comes (expr.LengthOf a)
comes_length_of a x = by_step (expr.LengthOf a) _ _ (fold_length_of Printed printed_step a) (fold_length_of Bool form_step a) (λ h. length_of_read a (printing a) (x h))

comes_to_bytes : (a : Expr) (size : ℕ) → Comes a → Comes (expr.ToBytes a size)
comes_to_bytes a size x = by_step (expr.ToBytes a size) _ _ (fold_to_bytes Printed printed_step a size) (fold_to_bytes Bool form_step a size) (λ h. let p = and_parts (form a) (nat_le size GREATEST_NUMBER) h in to_bytes_read a size (printing a) (x p.0) (leb-true size GREATEST_NUMBER p.1))

comes_has_text : (a : Expr) (b : List ℕ) → Comes a → Comes (expr.HasText a b)
comes_has_text a b x = by_step (expr.HasText a b) _ _ (fold_has_text Printed printed_step a b) (fold_has_text Bool form_step a b) (λ h. let p = and_parts (form a) (list_all is_byte b) h in has_text_read a b (printing a) (x p.0) (all_bytes b p.1))

-- the parts of a layer, each with what is known of it
abbrev Known : Type 0
Known = (e : Expr) × Comes e

abbrev keys_of : List Known → List Expr
keys_of ks = map (λ k. k.0) ks

keys_come : (ks : List Known) → list_all (λ b. b) (map form (keys_of ks)) ≡ true → AreRead (keys_of ks) (map printing (keys_of ks))
keys_come [] h = no_keys
keys_come (k ∷ ks) h =
    let p = and_parts (form k.0) (list_all (λ b. b) (map form (keys_of ks))) h in
    more_keys k.0 (keys_of ks) (printing k.0) (map printing (keys_of ks)) (k.1 p.0) (keys_come ks p.1)

comes_look_up : (table : List ℕ) (renew : Bool) (ks : List Known) → Comes (expr.LookUp table renew (keys_of ks))
comes_look_up table renew ks =
    let keys = keys_of ks in
    by_step (expr.LookUp table renew keys) _ _ (fold_look_up Printed printed_step table renew keys) (fold_look_up Bool form_step table renew keys) (λ h.
    let p = and_parts (is_name table) (list_all (λ b. b) (map form keys)) h in
    look_up_read table renew keys (map printing keys) p.0 (keys_come ks p.1))

-- ---- the forms without

comes_number : (n : ℕ) → Comes (expr.Number n)
comes_number n = by_step (expr.Number n) _ _ (fold_number Printed printed_step n) (fold_number Bool form_step n) (λ h. number_read n (leb-true n GREATEST_NUMBER h))

comes_text : (b : List ℕ) → Comes (expr.Text b)
comes_text b = by_step (expr.Text b) _ _ (fold_text Printed printed_step b) (fold_text Bool form_step b) (λ h. text_read b (all_bytes b h))

comes_protocol : (name : List ℕ) → Comes (expr.Protocol name)
comes_protocol name = by_step (expr.Protocol name) _ _ (fold_protocol Printed printed_step name) (fold_protocol Bool form_step name) (protocol_read name)

comes_field : (name : List ℕ) → Comes (expr.Field name)
comes_field name = by_step (expr.Field name) _ _ (fold_field Printed printed_step name) (fold_field Bool form_step name) (field_read name)

comes_variable : (name : List ℕ) → Comes (expr.Variable name)
comes_variable name = by_step (expr.Variable name) _ _ (fold_variable Printed printed_step name) (fold_variable Bool form_step name) (variable_read name)

comes_column : (table name : List ℕ) → Comes (expr.Column table name)
comes_column table name = by_step (expr.Column table name) _ _ (fold_column Printed printed_step table name) (fold_column Bool form_step table name) (λ h. let p = and_parts (is_name table) (is_name name) h in column_read table name p.0 p.1)

comes_is_present : (name : List ℕ) → Comes (expr.IsPresent name)
comes_is_present name = by_step (expr.IsPresent name) _ _ (fold_is_present Printed printed_step name) (fold_is_present Bool form_step name) (is_present_read name)

-- ---- all expressions

-- a form by its layer
rolled : (w x : Expr-F Expr) (e : Expr) → roll-Expr w ≡ e → Comes e → w ≡ x → Comes (roll-Expr x)
rolled w x e r c is = subst (λ z. Comes (roll-Expr z)) is (subst Comes (sym r) c)

comes : (e : Expr) → Comes e
comes = ind-Expr Comes (λ x. elim [
  | Number n ↦ rolled _ x _ (rolls-Number n) (comes_number n)
  | Text b ↦ rolled _ x _ (rolls-Text b) (comes_text b)
  | Protocol name ↦ rolled _ x _ (rolls-Protocol name) (comes_protocol name)
  | Field name ↦ rolled _ x _ (rolls-Field name) (comes_field name)
  | Variable name ↦ rolled _ x _ (rolls-Variable name) (comes_variable name)
  | Column table name ↦ rolled _ x _ (rolls-Column table name) (comes_column table name)
  | Not a ↦ rolled _ x _ (rolls-Not a.0) (comes_not a.0 a.1)
  | And a b ↦ rolled _ x _ (rolls-And a.0 b.0) (comes_and a.0 b.0 a.1 b.1)
  | Or a b ↦ rolled _ x _ (rolls-Or a.0 b.0) (comes_or a.0 b.0 a.1 b.1)
  | Binary o a b ↦ rolled _ x _ (rolls-Binary o a.0 b.0) (comes_binary o a.0 b.0 a.1 b.1)
  | Slice a b d ↦ rolled _ x _ (rolls-Slice a.0 b.0 d.0) (comes_slice a.0 b.0 d.0 a.1 b.1 d.1)
  | ToNumber a ↦ rolled _ x _ (rolls-ToNumber a.0) (comes_to_number a.0 a.1)
  | LengthOf a ↦ rolled _ x _ (rolls-LengthOf a.0) (comes_length_of a.0 a.1)
  | ToBytes a size ↦ rolled _ x _ (rolls-ToBytes a.0 size) (comes_to_bytes a.0 size a.1)
  | HasText a b ↦ rolled _ x _ (rolls-HasText a.0 b) (comes_has_text a.0 b a.1)
  | IsPresent name ↦ rolled _ x _ (rolls-IsPresent name) (comes_is_present name)
  | LookUp table renew ks ↦ rolled _ x _ (rolls-LookUp table renew (keys_of ks)) (comes_look_up table renew ks)
])

-- the canonical text of a formal expression spells it
pub form_spelled : (e : Expr) → form e ≡ true → IsSpelled (printed e) e
unfolding printed lexed
form_spelled e h =
    let r = comes e h in
    record {
      tokens = r.tokens ++ [];
      are = subst (λ bs. AreTokens (lexemes bs) (r.tokens ++ [])) (append-nil (printing e).bytes) (r.lexes [] [] tt (λ at. tt) 0);
      spells = argument e (printing e) r [];
    }

-- a well-formed expression is formal and small
pub expression_form : (e : Expr) → is_expression e ≡ true → (form e ≡ true) × IsSmall e
unfolding is_expression
expression_form e h = let p = and_parts (form e) (small e) h in (p.0, small_true e p.1)
