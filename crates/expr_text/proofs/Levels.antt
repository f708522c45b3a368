-- Levels of operators, and what joins at a level.
use Rattle.std.proofs.Common.{◌≡◌, ◌≢◌, ◌≤◌, ◌<◌, ℕ, suc, true, false, nat_le, if◌then◌else◌, ◌==◌, List, [], ◌∷◌, refl, ap, arith}
use Rattle.std.proofs.lemmas.Bool.Decides.{nat_tests}
use Rattle.db_model.specs.declared.expression.Expr.{Expr}
use Rattle.db_model.specs.declared.expression.Expr.TheVariants as expr
use Rattle.db_model.specs.declared.expression.Operator.{Operator}
use Rattle.db_model.specs.declared.expression.Operator.TheVariants as op
use Rattle.expr_text.specs.declared.machine.Begun.{Begun}
use Rattle.expr_text.specs.declared.machine.Begun.TheVariants as begun
use Rattle.expr_text.specs.declared.token.BinaryOp.{BinaryOp}
use Rattle.expr_text.specs.declared.token.BinaryOp.TheVariants as binary_op
use Rattle.expr_text.specs.Tokens.{plain_level, level_of, left_level_of}
use Rattle.expr_text.specs.Machine.{Stack, frame, joined, wanted_by, wanted, operated, built, binds, join}

plain_bounds : (o : Operator) → (4 ≤ plain_level o) × (plain_level o ≤ 6)
plain_bounds op.Add = (omega arith, omega arith)
plain_bounds op.Sub = (omega arith, omega arith)
plain_bounds op.Mul = (omega arith, omega arith)
plain_bounds op.Div = (omega arith, omega arith)
plain_bounds op.Mod = (omega arith, omega arith)
plain_bounds op.BitAnd = (omega arith, omega arith)
plain_bounds op.BitOr = (omega arith, omega arith)
plain_bounds op.Lt = (omega arith, omega arith)
plain_bounds op.Le = (omega arith, omega arith)
plain_bounds op.Gt = (omega arith, omega arith)
plain_bounds op.Ge = (omega arith, omega arith)
plain_bounds op.Eq = (omega arith, omega arith)
plain_bounds op.Ne = (omega arith, omega arith)

-- a level, and the one that is asked of the left side: the same or one more, and never that of `not`
pub record Sides (l left : ℕ) : Type 0 where
  pub some : 1 ≤ l
  pub most : l ≤ 6
  pub least : l ≤ left
  pub bound : left ≤ 7
  pub other : left ≢ 3

plain_sides : (l : ℕ) → (4 ≤ l) × (l ≤ 6) → Sides l (if l == 4 then 5 else l)
plain_sides l h = record {
  some = omega arith;
  most = omega arith;
  least = grind (arith, nat_tests);
  bound = grind (arith, nat_tests);
  other = grind (arith, nat_tests);
}

pub sides : (o : BinaryOp) → Sides (level_of o) (left_level_of o)
sides binary_op.Or = record { some = omega arith; most = omega arith; least = omega arith; bound = omega arith; other = omega arith }
sides binary_op.And = record { some = omega arith; most = omega arith; least = omega arith; bound = omega arith; other = omega arith }
sides (binary_op.Plain o) = plain_sides (plain_level o) (plain_bounds o)

pub le_true : (m n : ℕ) → m ≤ n → nat_le m n ≡ true
le_true m n h = grind (arith, nat_tests)

pub le_false : (m n : ℕ) → n < m → nat_le m n ≡ false
le_false m n h = grind (arith, nat_tests)

-- nothing ends at a level that is wanted
stays : (l : ℕ) (b : Begun) → wanted_by b ≤ l → l ≢ 3 → binds l b ≡ false
stays l (begun.Operand o) h ne = let q : suc (level_of o) ≤ l = h in le_false l (level_of o) (omega arith)
stays l begun.Negated h ne = let q : 3 ≤ l = h in le_false l 3 (omega arith)
stays l begun.Parenthesis h ne = refl
stays l begun.Start h ne = refl
stays l begun.Length h ne = refl
stays l (begun.Argument f) h ne = refl
stays l (begun.Key table renew) h ne = refl

pub join_stays : (l : ℕ) (e : Expr) (k : Stack) → wanted k ≤ l → l ≢ 3 → join l e k ≡ joined e k
join_stays l e [] h ne = refl
join_stays l e (f ∷ k) h ne = ap (λ b. if b then join l (built f.kind f.parts e) k else joined e (f ∷ k)) (stays l f.kind h ne)

-- nothing ends before a slice
slice_first : (b : Begun) → binds 7 b ≡ false
slice_first (begun.Operand o) = let s = sides o in le_false 7 (level_of o) (omega (arith, s.most))
slice_first begun.Negated = refl
slice_first begun.Parenthesis = refl
slice_first begun.Start = refl
slice_first begun.Length = refl
slice_first (begun.Argument f) = refl
slice_first (begun.Key table renew) = refl

pub join_slice : (e : Expr) (k : Stack) → join 7 e k ≡ joined e k
join_slice e [] = refl
join_slice e (f ∷ k) = ap (λ b. if b then join 7 (built f.kind f.parts e) k else joined e (f ∷ k)) (slice_first f.kind)

pub join_operand : (m : ℕ) (o : BinaryOp) (parts : List Expr) (e : Expr) (k : Stack) → m ≤ level_of o → join m e (frame (begun.Operand o) parts ∷ k) ≡ join m (operated o parts e) k
join_operand m o parts e k h =
    ap (λ b. if b then join m (operated o parts e) k else joined e (frame (begun.Operand o) parts ∷ k)) (le_true m (level_of o) h)

pub join_negated : (m : ℕ) (parts : List Expr) (e : Expr) (k : Stack) → m ≤ 3 → join m e (frame begun.Negated parts ∷ k) ≡ join m (expr.Not e) k
join_negated m parts e k h =
    ap (λ b. if b then join m (expr.Not e) k else joined e (frame begun.Negated parts ∷ k)) (le_true m 3 h)
