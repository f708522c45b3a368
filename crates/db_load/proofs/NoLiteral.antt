-- An expression of any other form is no literal.
use Rattle.std.specs.Prelude.{◌≡◌, ℕ, List, Option, None}
use Rattle.std.proofs.Common.{refl}
use Rattle.db_model.specs.declared.expression.Expr as expr
use Rattle.db_model.specs.declared.expression.Expr.{Expr, end_of-Expr, more_of-Expr}
use Rattle.db_model.specs.declared.expression.Literal.{Literal}
use Rattle.db_model.specs.Folds.{fold_expr}
use Rattle.db_model.specs.Names.{Text}
use Rattle.db_load.specs.Parsed.{literal_step}

pub no_literal : (e : Expr) → ((n : ℕ) → e ≡ expr.Number n → ⊥) → ((b : List ℕ) → e ≡ expr.Text b → ⊥) → ((name : Text) → e ≡ expr.Protocol name → ⊥) → None ≡ fold_expr (Option Literal) literal_step e
no_literal (expr.Number n) a b c = absurd (a n refl)
no_literal (expr.Text t) a b c = absurd (b t refl)
no_literal (expr.Protocol name) a b c = absurd (c name refl)
no_literal (expr.Field name) a b c = refl
no_literal (expr.Variable name) a b c = refl
no_literal (expr.Column table column) a b c = refl
no_literal (expr.Not' s (more_of-Expr x end_of-Expr)) a b c = refl
no_literal (expr.And' s (more_of-Expr x end_of-Expr) t (more_of-Expr y end_of-Expr)) a b c = refl
no_literal (expr.Or' s (more_of-Expr x end_of-Expr) t (more_of-Expr y end_of-Expr)) a b c = refl
no_literal (expr.Binary' op s (more_of-Expr x end_of-Expr) t (more_of-Expr y end_of-Expr)) a b c = refl
no_literal (expr.Slice' s (more_of-Expr x end_of-Expr) t (more_of-Expr y end_of-Expr) u (more_of-Expr z end_of-Expr)) a b c = refl
no_literal (expr.ToNumber' s (more_of-Expr x end_of-Expr)) a b c = refl
no_literal (expr.LengthOf' s (more_of-Expr x end_of-Expr)) a b c = refl
no_literal (expr.ToBytes' s (more_of-Expr x end_of-Expr) size) a b c = refl
no_literal (expr.HasText' s (more_of-Expr x end_of-Expr) text) a b c = refl
no_literal (expr.IsPresent name) a b c = refl
no_literal (expr.LookUp' table renew s keys) a b c = refl
