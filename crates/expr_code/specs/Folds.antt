-- One fold for codes, as there is one for expressions.
use Rattle.std.specs.Prelude.{List, [], ◌∷◌}
use Rattle.expr_code.specs.declared.code.ExprCode as code
use Rattle.expr_code.specs.declared.code.ExprCode.{ExprCode, ExprCode-F, Row_of-ExprCode, end_of-ExprCode, more_of-ExprCode}
use Rattle.expr_code.specs.declared.code.ExprCode.TheOpen as layer

-- what a step makes of a code, from the innermost parts outwards
module _ (A : Type 0) (step : ExprCode-F A → A) where
  abbrev mutual
    pub fold_code : ExprCode → A
    fold_code (code.Number n) = step (layer.Number n)
    fold_code (code.Text b) = step (layer.Text b)
    fold_code (code.Protocol p) = step (layer.Protocol p)
    fold_code (code.Field numbers) = step (layer.Field numbers)
    fold_code (code.IsPresent numbers) = step (layer.IsPresent numbers)
    fold_code (code.Special s) = step (layer.Special s)
    fold_code (code.Variable n) = step (layer.Variable n)
    fold_code (code.Column table column) = step (layer.Column table column)
    fold_code (code.Not' s (more_of-ExprCode a end_of-ExprCode)) = step (layer.Not (fold_code a))
    fold_code (code.And' s (more_of-ExprCode a end_of-ExprCode) t (more_of-ExprCode b end_of-ExprCode)) = step (layer.And (fold_code a) (fold_code b))
    fold_code (code.Or' s (more_of-ExprCode a end_of-ExprCode) t (more_of-ExprCode b end_of-ExprCode)) = step (layer.Or (fold_code a) (fold_code b))
    fold_code (code.Binary' op s (more_of-ExprCode a end_of-ExprCode) t (more_of-ExprCode b end_of-ExprCode)) = step (layer.Binary op (fold_code a) (fold_code b))
    fold_code (code.Slice' s (more_of-ExprCode a end_of-ExprCode) t (more_of-ExprCode b end_of-ExprCode) u (more_of-ExprCode c end_of-ExprCode)) = step (layer.Slice (fold_code a) (fold_code b) (fold_code c))
    fold_code (code.ToNumber' s (more_of-ExprCode a end_of-ExprCode)) = step (layer.ToNumber (fold_code a))
    fold_code (code.LengthOf' s (more_of-ExprCode a end_of-ExprCode)) = step (layer.LengthOf (fold_code a))
    fold_code (code.ToBytes' s (more_of-ExprCode a end_of-ExprCode) size) = step (layer.ToBytes (fold_code a) size)
    fold_code (code.HasText' s (more_of-ExprCode a end_of-ExprCode) text) = step (layer.HasText (fold_code a) text)
    fold_code (code.LookUp' table renew s keys) = step (layer.LookUp table renew (fold_codes keys))

    pub fold_codes : {m : _} → Row_of-ExprCode m → List A
    fold_codes end_of-ExprCode = []
    fold_codes (more_of-ExprCode c rest) = fold_code c ∷ fold_codes rest
