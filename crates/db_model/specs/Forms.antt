-- The forms of names, texts and expressions.
use Rattle.std.specs.Prelude.{ℕ, ◌+◌, max, Bool, true, ◌&&◌, nat_le, List, sum, fold, length, Option, Some, None}
use Rattle.std.specs.List.{list_all}
use Rattle.db_model.specs.declared.expression.Expr.{Expr, Expr-F}
use Rattle.db_model.specs.declared.expression.Expr.TheOpen as layer
use Rattle.db_model.specs.declared.limits.TheConstants.{GREATEST_NUMBER, MOST_TEXT, MOST_EXPRESSION_NODES, MOST_EXPRESSION_DEPTH}
use Rattle.db_model.specs.Folds.{fold_expr}
use Rattle.db_model.specs.Name.{is_name}
use Rattle.db_model.specs.Names.{Text}

abbrev pub is_between : ℕ → ℕ → ℕ → Bool
is_between low high n = nat_le low n && nat_le n high

-- a number is no greater than the greatest one
abbrev pub is_number : ℕ → Bool
is_number n = nat_le n GREATEST_NUMBER

-- printable bytes, of which there are few enough
abbrev pub is_text : Text → Bool
is_text text = nat_le (length text) MOST_TEXT && list_all (is_between 32 126) text

abbrev pub if_there : {A : Type 0} → (A → Bool) → Option A → Bool
if_there test None = true
if_there test (Some a) = test a

-- ---- expressions

-- the nodes: numbers, texts, names, operators, slices and calls
abbrev pub nodes_step : Expr-F ℕ → ℕ
nodes_step (layer.Number n) = 1
nodes_step (layer.Text b) = 1
nodes_step (layer.Protocol name) = 1
nodes_step (layer.Field name) = 1
nodes_step (layer.Variable name) = 1
nodes_step (layer.Column table column) = 1
nodes_step (layer.Not a) = 1 + a
nodes_step (layer.And a b) = 1 + (a + b)
nodes_step (layer.Or a b) = 1 + (a + b)
nodes_step (layer.Binary o a b) = 1 + (a + b)
nodes_step (layer.Slice a b c) = 1 + (a + (b + c))
nodes_step (layer.ToNumber a) = 1 + a
nodes_step (layer.LengthOf a) = 1 + a
nodes_step (layer.ToBytes a size) = 1 + a
nodes_step (layer.HasText a text) = 1 + a
nodes_step (layer.IsPresent name) = 1
nodes_step (layer.LookUp table renew ks) = 1 + sum ks

abbrev pub nodes_of : Expr → ℕ
nodes_of = fold_expr ℕ nodes_step

abbrev pub deepest : List ℕ → ℕ
deepest ns = fold max 0 ns

-- the depth: 1 for one node alone
abbrev pub depth_step : Expr-F ℕ → ℕ
depth_step (layer.Number n) = 1
depth_step (layer.Text b) = 1
depth_step (layer.Protocol name) = 1
depth_step (layer.Field name) = 1
depth_step (layer.Variable name) = 1
depth_step (layer.Column table column) = 1
depth_step (layer.Not a) = 1 + a
depth_step (layer.And a b) = 1 + max a b
depth_step (layer.Or a b) = 1 + max a b
depth_step (layer.Binary o a b) = 1 + max a b
depth_step (layer.Slice a b c) = 1 + max a (max b c)
depth_step (layer.ToNumber a) = 1 + a
depth_step (layer.LengthOf a) = 1 + a
depth_step (layer.ToBytes a size) = 1 + a
depth_step (layer.HasText a text) = 1 + a
depth_step (layer.IsPresent name) = 1
depth_step (layer.LookUp table renew ks) = 1 + deepest ks

abbrev pub depth_of : Expr → ℕ
depth_of = fold_expr ℕ depth_step

abbrev pub is_byte : ℕ → Bool
is_byte b = nat_le b 255

-- the names have their form, numbers are not too great, and texts are of bytes
abbrev pub form_step : Expr-F Bool → Bool
form_step (layer.Number n) = nat_le n GREATEST_NUMBER
form_step (layer.Text b) = list_all is_byte b
form_step (layer.Protocol name) = is_name name
form_step (layer.Field name) = is_name name
form_step (layer.Variable name) = is_name name
form_step (layer.Column table column) = is_name table && is_name column
form_step (layer.Not a) = a
form_step (layer.And a b) = a && b
form_step (layer.Or a b) = a && b
form_step (layer.Binary o a b) = a && b
form_step (layer.Slice a b c) = a && (b && c)
form_step (layer.ToNumber a) = a
form_step (layer.LengthOf a) = a
form_step (layer.ToBytes a size) = a && nat_le size GREATEST_NUMBER
form_step (layer.HasText a text) = a && list_all is_byte text
form_step (layer.IsPresent name) = is_name name
form_step (layer.LookUp table renew ks) = is_name table && list_all (λ b. b) ks

-- an expression of the grammar within its limits
unfoldable pub is_expression : Expr → Bool
is_expression e = fold_expr Bool form_step e && (nat_le (nodes_of e) MOST_EXPRESSION_NODES && nat_le (depth_of e) MOST_EXPRESSION_DEPTH)
