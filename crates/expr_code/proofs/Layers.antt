-- A fold on one layer: what a step makes of a code, from what it makes of the parts.
use Rattle.std.specs.Prelude.{◌≡◌, ℕ, Bool, List, [], ◌∷◌, map}
use Rattle.std.proofs.Common.{refl, ap}
use denote.Hole.Carrier.{hidden}
use Rattle.db_model.specs.declared.expression.Operator.{Operator}
use Rattle.db_model.specs.declared.expression.Special.{Special}
use Rattle.expr_code.specs.declared.code.ExprCode as code
use Rattle.expr_code.specs.declared.code.ExprCode.{ExprCode, ExprCode-F}
use Rattle.expr_code.specs.declared.code.ExprCode.TheBlock.{hidden-the_row-ExprCode-0, hidden-the_row-ExprCode-1}
use Rattle.expr_code.specs.declared.code.ExprCode.TheOpen as layer
use Rattle.expr_code.specs.Folds.{fold_code, fold_codes}

module _ (A : Type 0) (step : ExprCode-F A → A) where
  pub fold_keys : (cs : List ExprCode) → fold_codes A step (hidden-the_row-ExprCode-1 cs) ≡ map (fold_code A step) cs
  unfolding hidden-the_row-ExprCode-1 hidden
  fold_keys [] = refl
  fold_keys (c ∷ cs) = ap (λ l. fold_code A step c ∷ l) (fold_keys cs)

  pub fold_not : (a : ExprCode) → fold_code A step (code.Not a) ≡ step (layer.Not (fold_code A step a))
  unfolding hidden-the_row-ExprCode-0 hidden-the_row-ExprCode-1 hidden
  fold_not a = refl

  pub fold_and : (a b : ExprCode) → fold_code A step (code.And a b) ≡ step (layer.And (fold_code A step a) (fold_code A step b))
  unfolding hidden-the_row-ExprCode-0 hidden-the_row-ExprCode-1 hidden
  fold_and a b = refl

  pub fold_or : (a b : ExprCode) → fold_code A step (code.Or a b) ≡ step (layer.Or (fold_code A step a) (fold_code A step b))
  unfolding hidden-the_row-ExprCode-0 hidden-the_row-ExprCode-1 hidden
  fold_or a b = refl

  pub fold_binary : (op : Operator) (a b : ExprCode) → fold_code A step (code.Binary op a b) ≡ step (layer.Binary op (fold_code A step a) (fold_code A step b))
  unfolding hidden-the_row-ExprCode-0 hidden-the_row-ExprCode-1 hidden
  fold_binary op a b = refl

  pub fold_slice : (a b c : ExprCode) → fold_code A step (code.Slice a b c) ≡ step (layer.Slice (fold_code A step a) (fold_code A step b) (fold_code A step c))
  unfolding hidden-the_row-ExprCode-0 hidden-the_row-ExprCode-1 hidden
  fold_slice a b c = refl

  pub fold_to_number : (a : ExprCode) → fold_code A step (code.ToNumber a) ≡ step (layer.ToNumber (fold_code A step a))
  unfolding hidden-the_row-ExprCode-0 hidden-the_row-ExprCode-1 hidden
  fold_to_number a = refl

  pub fold_length_of : (a : ExprCode) → fold_code A step (code.LengthOf a) ≡ step (layer.LengthOf (fold_code A step a))
  unfolding hidden-the_row-ExprCode-0 hidden-the_row-ExprCode-1 hidden
  fold_length_of a = refl

  pub fold_to_bytes : (a : ExprCode) (size : ℕ) → fold_code A step (code.ToBytes a size) ≡ step (layer.ToBytes (fold_code A step a) size)
  unfolding hidden-the_row-ExprCode-0 hidden-the_row-ExprCode-1 hidden
  fold_to_bytes a size = refl

  pub fold_has_text : (a : ExprCode) (text : List ℕ) → fold_code A step (code.HasText a text) ≡ step (layer.HasText (fold_code A step a) text)
  unfolding hidden-the_row-ExprCode-0 hidden-the_row-ExprCode-1 hidden
  fold_has_text a text = refl

  pub fold_number : (n : ℕ) → fold_code A step (code.Number n) ≡ step (layer.Number n)
  unfolding hidden-the_row-ExprCode-0 hidden-the_row-ExprCode-1 hidden
  fold_number n = refl

  pub fold_text : (b : List ℕ) → fold_code A step (code.Text b) ≡ step (layer.Text b)
  unfolding hidden-the_row-ExprCode-0 hidden-the_row-ExprCode-1 hidden
  fold_text b = refl

  pub fold_protocol : (p : ℕ) → fold_code A step (code.Protocol p) ≡ step (layer.Protocol p)
  unfolding hidden-the_row-ExprCode-0 hidden-the_row-ExprCode-1 hidden
  fold_protocol p = refl

  pub fold_field : (numbers : List ℕ) → fold_code A step (code.Field numbers) ≡ step (layer.Field numbers)
  unfolding hidden-the_row-ExprCode-0 hidden-the_row-ExprCode-1 hidden
  fold_field numbers = refl

  pub fold_is_present : (numbers : List ℕ) → fold_code A step (code.IsPresent numbers) ≡ step (layer.IsPresent numbers)
  unfolding hidden-the_row-ExprCode-0 hidden-the_row-ExprCode-1 hidden
  fold_is_present numbers = refl

  pub fold_special : (s : Special) → fold_code A step (code.Special s) ≡ step (layer.Special s)
  unfolding hidden-the_row-ExprCode-0 hidden-the_row-ExprCode-1 hidden
  fold_special s = refl

  pub fold_variable : (n : ℕ) → fold_code A step (code.Variable n) ≡ step (layer.Variable n)
  unfolding hidden-the_row-ExprCode-0 hidden-the_row-ExprCode-1 hidden
  fold_variable n = refl

  pub fold_column : (table column : ℕ) → fold_code A step (code.Column table column) ≡ step (layer.Column table column)
  unfolding hidden-the_row-ExprCode-0 hidden-the_row-ExprCode-1 hidden
  fold_column table column = refl

  pub fold_look_up : (table : ℕ) (renew : Bool) (keys : List ExprCode) → fold_code A step (code.LookUp table renew keys) ≡ step (layer.LookUp table renew (map (fold_code A step) keys))
  fold_look_up table renew keys = ap (λ l. step (layer.LookUp table renew l)) (fold_keys keys)
