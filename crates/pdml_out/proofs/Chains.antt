-- Texts that are added one behind another.
use Rattle.std.specs.Prelude.{◌≡◌, ℕ, List, ◌++◌}
use Rattle.std.proofs.Common.{ap, ◌∙◌, append_assoc}

-- what stands behind a text that was added
pub onto : (before added now rest : List ℕ) → now ≡ before ++ added → now ++ rest ≡ before ++ (added ++ rest)
onto before added now rest e = ap (λ (l : List ℕ). l ++ rest) e ∙ append_assoc before added rest
