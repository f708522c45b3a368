-- What each form of an expression gives, from what its parts give.
use Rattle.std.specs.Prelude.{◌≡◌, ℕ, Bool, not, if◌then◌else◌, List, map, length, slice_get, Option, Some, None, Ok}
use Rattle.std.proofs.Common.{refl, sym, ap, ◌∙◌}
use Rattle.db_model.specs.declared.database.Database.{Database}
use Rattle.db_model.specs.declared.env.Env.{Env}
use Rattle.db_model.specs.declared.expression.Operator.{Operator}
use Rattle.db_model.specs.declared.tree.Reason.TheVariants as reason
use Rattle.db_model.specs.declared.value.Value.{Value}
use Rattle.db_model.specs.declared.value.Value.TheVariants.{Num, Buf, Proto}
use Rattle.db_model.specs.Expression.{Eval, ◌>>=◌, result, give, num, buf, truth, is_so, binary, slice, to_number, in_bytes, look_up, or_fail, row_hit, special_value, value_or_zero}
use Rattle.db_model.specs.Numbers.{occurs}
use Rattle.db_model.specs.declared.expression.Special.{Special}
use Rattle.expr_code.proofs.Layers.{fold_number, fold_text, fold_protocol, fold_field, fold_special, fold_variable, fold_column, fold_not, fold_and, fold_or, fold_binary, fold_slice, fold_to_number, fold_length_of, fold_to_bytes, fold_has_text, fold_is_present, fold_look_up}
use Rattle.expr_code.specs.declared.code.ExprCode as code
use Rattle.expr_code.specs.declared.code.ExprCode.{ExprCode}
use Rattle.expr_code.specs.Meaning.{last_in, some_in, code_value, code_val}
use Rattle.expr_eval.specs.Reads.{field_value, column_value}

module _ (db : Database) where
  -- ---- forms with parts

  pub not_is : (e a x : ExprCode) → e ≡ code.Not a → x ≡ a → code_val db e ≡ (code_val db x >>= (λ v. give (truth (not (is_so (num v))))))
  unfolding code_val
  not_is e a x h g = ap (code_val db) (h ∙ ap code.Not (sym g)) ∙ fold_not (Eval Value) (code_value db) x

  pub and_is : (e a b x y : ExprCode) → e ≡ code.And a b → x ≡ a → y ≡ b → code_val db e ≡ (code_val db x >>= (λ v. if is_so (num v) then code_val db y >>= (λ w. give (truth (is_so (num w)))) else give (Num 0)))
  unfolding code_val
  and_is e a b x y h g k = ap (code_val db) (h ∙ ap (λ (c : ExprCode). code.And c b) (sym g) ∙ ap (code.And x) (sym k)) ∙ fold_and (Eval Value) (code_value db) x y

  pub or_is : (e a b x y : ExprCode) → e ≡ code.Or a b → x ≡ a → y ≡ b → code_val db e ≡ (code_val db x >>= (λ v. if is_so (num v) then give (Num 1) else code_val db y >>= (λ w. give (truth (is_so (num w))))))
  unfolding code_val
  or_is e a b x y h g k = ap (code_val db) (h ∙ ap (λ (c : ExprCode). code.Or c b) (sym g) ∙ ap (code.Or x) (sym k)) ∙ fold_or (Eval Value) (code_value db) x y

  pub binary_is : (e a b x y : ExprCode) (o : Operator) → e ≡ code.Binary o a b → x ≡ a → y ≡ b → code_val db e ≡ (code_val db x >>= (λ v. code_val db y >>= (λ w. result (binary o v w))))
  unfolding code_val
  binary_is e a b x y o h g k = ap (code_val db) (h ∙ ap (λ (c : ExprCode). code.Binary o c b) (sym g) ∙ ap (code.Binary o x) (sym k)) ∙ fold_binary (Eval Value) (code_value db) o x y

  pub slice_is : (e a b c x y z : ExprCode) → e ≡ code.Slice a b c → x ≡ a → y ≡ b → z ≡ c → code_val db e ≡ (code_val db x >>= (λ v. code_val db y >>= (λ w. code_val db z >>= (λ n. result (slice (buf v) (num w) (num n))))))
  unfolding code_val
  slice_is e a b c x y z h g k l = ap (code_val db) (h ∙ ap (λ (d : ExprCode). code.Slice d b c) (sym g) ∙ ap (λ (d : ExprCode). code.Slice x d c) (sym k) ∙ ap (code.Slice x y) (sym l)) ∙ fold_slice (Eval Value) (code_value db) x y z

  pub to_number_is : (e a x : ExprCode) → e ≡ code.ToNumber a → x ≡ a → code_val db e ≡ (code_val db x >>= (λ v. result (to_number (buf v))))
  unfolding code_val
  to_number_is e a x h g = ap (code_val db) (h ∙ ap code.ToNumber (sym g)) ∙ fold_to_number (Eval Value) (code_value db) x

  pub length_is : (e a x : ExprCode) → e ≡ code.LengthOf a → x ≡ a → code_val db e ≡ (code_val db x >>= (λ v. give (Num (length (buf v)))))
  unfolding code_val
  length_is e a x h g = ap (code_val db) (h ∙ ap code.LengthOf (sym g)) ∙ fold_length_of (Eval Value) (code_value db) x

  pub to_bytes_is : (e a x : ExprCode) (size : ℕ) → e ≡ code.ToBytes a size → x ≡ a → code_val db e ≡ (code_val db x >>= (λ v. result (in_bytes size (num v))))
  unfolding code_val
  to_bytes_is e a x size h g = ap (code_val db) (h ∙ ap (λ (c : ExprCode). code.ToBytes c size) (sym g)) ∙ fold_to_bytes (Eval Value) (code_value db) x size

  pub has_text_is : (e a x : ExprCode) (text : List ℕ) → e ≡ code.HasText a text → x ≡ a → code_val db e ≡ (code_val db x >>= (λ v. give (truth (occurs text (buf v)))))
  unfolding code_val
  has_text_is e a x text h g = ap (code_val db) (h ∙ ap (λ (c : ExprCode). code.HasText c text) (sym g)) ∙ fold_has_text (Eval Value) (code_value db) x text

  pub look_up_is : (e : ExprCode) (table : ℕ) (renew : Bool) (ks ps : List ExprCode) → e ≡ code.LookUp table renew ks → ps ≡ ks → code_val db e ≡ look_up (slice_get db.tables table) table renew (map (code_val db) ps)
  unfolding code_val
  look_up_is e table renew ks ps h g = ap (code_val db) (h ∙ ap (code.LookUp table renew) (sym g)) ∙ fold_look_up (Eval Value) (code_value db) table renew ps

  -- ---- forms without parts, at a state

  pub number_is : (e : ExprCode) (n : ℕ) (z : Env) → e ≡ code.Number n → code_val db e z ≡ result (Ok (Num n)) z
  unfolding code_val
  number_is e n z h = ap (λ (x : ExprCode). code_val db x z) h ∙ ap (λ (p : Eval Value). p z) (fold_number (Eval Value) (code_value db) n)

  pub text_is : (e : ExprCode) (b : List ℕ) (z : Env) → e ≡ code.Text b → code_val db e z ≡ result (Ok (Buf b)) z
  unfolding code_val
  text_is e b z h = ap (λ (x : ExprCode). code_val db x z) h ∙ ap (λ (p : Eval Value). p z) (fold_text (Eval Value) (code_value db) b)

  pub protocol_is : (e : ExprCode) (p : ℕ) (z : Env) → e ≡ code.Protocol p → code_val db e z ≡ result (Ok (Proto p)) z
  unfolding code_val
  protocol_is e p z h = ap (λ (x : ExprCode). code_val db x z) h ∙ ap (λ (q : Eval Value). q z) (fold_protocol (Eval Value) (code_value db) p)

  pub field_is : (e : ExprCode) (numbers : List ℕ) (z : Env) → e ≡ code.Field numbers → code_val db e z ≡ result (field_value (last_in numbers z.present None)) z
  unfolding code_val
  field_is e numbers z h = ap (λ (x : ExprCode). code_val db x z) h ∙ ap (λ (p : Eval Value). p z) (fold_field (Eval Value) (code_value db) numbers) ∙ by (last_in numbers z.present None)
    where
      by : (o : Option (List ℕ)) → ((λ (y : Env). or_fail reason.NoField o y) >>= (λ b. give (Buf b))) z ≡ result (field_value o) z
      by None = refl
      by (Some b) = refl

  pub is_present_is : (e : ExprCode) (numbers : List ℕ) (z : Env) → e ≡ code.IsPresent numbers → code_val db e z ≡ result (Ok (truth (some_in numbers z.present))) z
  unfolding code_val
  is_present_is e numbers z h = ap (λ (x : ExprCode). code_val db x z) h ∙ ap (λ (p : Eval Value). p z) (fold_is_present (Eval Value) (code_value db) numbers)

  pub special_is : (e : ExprCode) (s : Special) (z : Env) → e ≡ code.Special s → code_val db e z ≡ result (Ok (special_value s z)) z
  unfolding code_val
  special_is e s z h = ap (λ (x : ExprCode). code_val db x z) h ∙ ap (λ (p : Eval Value). p z) (fold_special (Eval Value) (code_value db) s)

  pub variable_is : (e : ExprCode) (n : ℕ) (z : Env) → e ≡ code.Variable n → code_val db e z ≡ result (Ok (value_or_zero (slice_get z.vars n))) z
  unfolding code_val
  variable_is e n z h = ap (λ (x : ExprCode). code_val db x z) h ∙ ap (λ (p : Eval Value). p z) (fold_variable (Eval Value) (code_value db) n)

  pub column_is : (e : ExprCode) (table column : ℕ) (z : Env) → e ≡ code.Column table column → code_val db e z ≡ result (column_value (slice_get z.hits table) column) z
  unfolding code_val
  column_is e table column z h = ap (λ (x : ExprCode). code_val db x z) h ∙ ap (λ (p : Eval Value). p z) (fold_column (Eval Value) (code_value db) table column) ∙ by (slice_get z.hits table) column
    where
      by : (o : Option (Option (List Value))) (at : ℕ) → ((λ (y : Env). row_hit o y) >>= (λ row. give (value_or_zero (slice_get row at)))) z ≡ result (column_value o at) z
      by None at = refl
      by (Some None) at = refl
      by (Some (Some row)) at = refl
