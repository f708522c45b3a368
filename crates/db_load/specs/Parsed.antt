-- The expressions that values are.
use Rattle.std.specs.Prelude.{ℕ, List, Option, Some, None}
use Rattle.db_model.specs.declared.expression.Expr.{Expr, Expr-F}
use Rattle.db_model.specs.declared.expression.Expr.TheOpen as layer
use Rattle.db_model.specs.declared.expression.Literal.{Literal}
use Rattle.db_model.specs.declared.expression.Literal.TheVariants as literal
use Rattle.db_model.specs.Folds.{fold_expr}
use Rattle.db_model.specs.Names.{Text}
use Rattle.expr_text.specs.Parsed.{parsed}

-- an expression that is one number, one text or one protocol
abbrev pub literal_step : Expr-F (Option Literal) → Option Literal
literal_step (layer.Number n) = Some (literal.Number n)
literal_step (layer.Text b) = Some (literal.Text b)
literal_step (layer.Protocol name) = Some (literal.Protocol name)
literal_step (layer.Field name) = None
literal_step (layer.Variable name) = None
literal_step (layer.Column table column) = None
literal_step (layer.Not a) = None
literal_step (layer.And a b) = None
literal_step (layer.Or a b) = None
literal_step (layer.Binary o a b) = None
literal_step (layer.Slice a b c) = None
literal_step (layer.ToNumber a) = None
literal_step (layer.LengthOf a) = None
literal_step (layer.ToBytes a size) = None
literal_step (layer.HasText a text) = None
literal_step (layer.IsPresent name) = None
literal_step (layer.LookUp table renew ks) = None

abbrev pub literal_in : Option Expr → Option Literal
literal_in None = None
literal_in (Some e) = fold_expr (Option Literal) literal_step e

abbrev pub literal_of : Text → Option Literal
literal_of t = literal_in (parsed t)

abbrev pub text_in : Option Literal → Option (List ℕ)
text_in None = None
text_in (Some (literal.Number n)) = None
text_in (Some (literal.Text b)) = Some b
text_in (Some (literal.Protocol name)) = None

-- one text in quotes
abbrev pub quoted_of : Text → Option (List ℕ)
quoted_of t = text_in (literal_of t)
