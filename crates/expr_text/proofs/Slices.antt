-- What isn't two parts is no slice.
use Rattle.std.specs.Prelude.{◌≡◌, List, [], ◌∷◌, length}
use Rattle.std.proofs.Common.{refl}
use Rattle.db_model.specs.declared.expression.Expr.{Expr}
use Rattle.expr_text.specs.Machine.{sliced}

pub not_two : (ps : List Expr) (count : Expr) → (length ps ≡ 2 → ⊥) → sliced ps count ≡ count
not_two [] count h = refl
not_two (a ∷ []) count h = refl
not_two (a ∷ (b ∷ [])) count h = absurd (h refl)
not_two (a ∷ (b ∷ (c ∷ ps))) count h = refl
