-- Whether an expression is small, as the parser counts. Only `parsed` goes by it.
use Rattle.std.specs.Prelude.{ℕ, min, Bool, ◌&&◌, nat_le}
use Rattle.db_model.specs.declared.expression.Expr.{Expr}
use Rattle.db_model.specs.declared.limits.TheConstants.{MOST_EXPRESSION_NODES, MOST_EXPRESSION_DEPTH}
use Rattle.db_model.specs.Forms.{nodes_of, depth_of}

-- a number, or the greatest of 32 bits where it is more
abbrev pub capped : ℕ → ℕ
capped n = min n 4294967295

abbrev pub small : Expr → Bool
small e = nat_le (nodes_of e) MOST_EXPRESSION_NODES && nat_le (depth_of e) MOST_EXPRESSION_DEPTH
