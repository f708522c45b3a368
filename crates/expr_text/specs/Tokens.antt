-- The tokens of an expression, and how tightly its operators bind.
use Rattle.std.specs.Prelude.{ℕ, ◌==◌, if◌then◌else◌}
use Rattle.db_model.specs.declared.expression.Expr.{Expr}
use Rattle.db_model.specs.declared.expression.Expr.TheVariants as expr
use Rattle.db_model.specs.declared.expression.Operator.{Operator}
use Rattle.db_model.specs.declared.expression.Operator.TheVariants as op
use Rattle.expr_text.specs.declared.token.BinaryOp.{BinaryOp}
use Rattle.expr_text.specs.declared.token.BinaryOp.TheVariants as binary

-- ---- levels: 1 `or`, 2 `and`, 3 `not`, 4 comparisons, 5 sums, 6 terms, 7 slices, 8 the rest

abbrev pub plain_level : Operator → ℕ
plain_level op.Add = 5
plain_level op.Sub = 5
plain_level op.Mul = 6
plain_level op.Div = 6
plain_level op.Mod = 6
plain_level op.BitAnd = 6
plain_level op.BitOr = 5
plain_level op.Lt = 4
plain_level op.Le = 4
plain_level op.Gt = 4
plain_level op.Ge = 4
plain_level op.Eq = 4
plain_level op.Ne = 4

-- the level of what an operator makes; what stands on its right binds tighter
abbrev pub level_of : BinaryOp → ℕ
level_of binary.Or = 1
level_of binary.And = 2
level_of (binary.Plain o) = plain_level o

-- the level of what stands on an operator's left: its own, so that operators group to the left; but a comparison has none on either side
abbrev pub left_level_of : BinaryOp → ℕ
left_level_of o = if level_of o == 4 then 5 else level_of o

-- what an operator makes of its two operands
abbrev pub joined_by : BinaryOp → Expr → Expr → Expr
joined_by binary.Or a b = expr.Or a b
joined_by binary.And a b = expr.And a b
joined_by (binary.Plain o) a b = expr.Binary o a b
