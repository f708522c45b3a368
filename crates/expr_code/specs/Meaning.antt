-- What the code of an expression gives: what the expression gives, read by numbers.
use Rattle.std.specs.Prelude.{ℕ, not, ◌||◌, ◌==◌, Bool, false, if◌then◌else◌, List, [], ◌∷◌, length, slice_get, Option, Some, None, Ok}
use Rattle.db_model.specs.declared.database.Database.{Database}
use Rattle.db_model.specs.declared.tree.Reason.TheVariants as reason
use Rattle.db_model.specs.declared.value.Value.{Value}
use Rattle.db_model.specs.declared.value.Value.TheVariants.{Num, Buf, Proto}
use Rattle.db_model.specs.Expression.{Eval, ◌>>=◌, give, result, or_fail, num, buf, truth, is_so, binary, slice, to_number, in_bytes, special_value, row_hit, value_or_zero, look_up}
use Rattle.db_model.specs.Numbers.{occurs}
use Rattle.db_model.specs.Questions.{Gives}
use Rattle.expr_code.specs.declared.code.ExprCode.{ExprCode, ExprCode-F}
use Rattle.expr_code.specs.declared.code.ExprCode.TheOpen as layer
use Rattle.expr_code.specs.Folds.{fold_code}

-- a field's number is one of these
abbrev pub is_in : List ℕ → ℕ → Bool
is_in [] n = false
is_in (m ∷ ms) n = m == n || is_in ms n

-- the value of the last decoded field with one of the numbers
abbrev pub last_in : List ℕ → List (ℕ × List ℕ) → Option (List ℕ) → Option (List ℕ)
last_in numbers [] so_far = so_far
last_in numbers (f ∷ fs) so_far = last_in numbers fs (if is_in numbers f.0 then Some f.1 else so_far)

abbrev pub some_in : List ℕ → List (ℕ × List ℕ) → Bool
some_in numbers [] = false
some_in numbers (f ∷ fs) = is_in numbers f.0 || some_in numbers fs

module _ (db : Database) where
  -- one layer of a code, with what its parts give
  abbrev pub code_value : ExprCode-F (Eval Value) → Eval Value
  code_value (layer.Number n) = give (Num n)
  code_value (layer.Text b) = give (Buf b)
  code_value (layer.Protocol p) = give (Proto p)
  code_value (layer.Field numbers) = (λ z. or_fail reason.NoField (last_in numbers z.present None) z) >>= (λ b. give (Buf b))
  code_value (layer.IsPresent numbers) = λ z. Gives (Ok (truth (some_in numbers z.present)), z)
  code_value (layer.Special s) = λ z. Gives (Ok (special_value s z), z)
  code_value (layer.Variable n) = λ z. Gives (Ok (value_or_zero (slice_get z.vars n)), z)
  code_value (layer.Column table column) = (λ z. row_hit (slice_get z.hits table) z) >>= (λ row. give (value_or_zero (slice_get row column)))
  code_value (layer.Not a) = a >>= (λ x. give (truth (not (is_so (num x)))))
  code_value (layer.And a b) = a >>= (λ x. if is_so (num x) then b >>= (λ y. give (truth (is_so (num y)))) else give (Num 0))
  code_value (layer.Or a b) = a >>= (λ x. if is_so (num x) then give (Num 1) else b >>= (λ y. give (truth (is_so (num y)))))
  code_value (layer.Binary o a b) = a >>= (λ x. b >>= (λ y. result (binary o x y)))
  code_value (layer.Slice b from count) = b >>= (λ x. from >>= (λ y. count >>= (λ n. result (slice (buf x) (num y) (num n)))))
  code_value (layer.ToNumber b) = b >>= (λ x. result (to_number (buf x)))
  code_value (layer.LengthOf b) = b >>= (λ x. give (Num (length (buf x))))
  code_value (layer.ToBytes a size) = a >>= (λ x. result (in_bytes size (num x)))
  code_value (layer.HasText b text) = b >>= (λ x. give (truth (occurs text (buf x))))
  code_value (layer.LookUp table renew ks) = look_up (slice_get db.tables table) table renew ks

  -- what a code gives
  unfoldable pub code_val : ExprCode → Eval Value
  code_val = fold_code (Eval Value) code_value
