-- A list of one value, as many times as another list is long.
use Rattle.std.specs.Prelude.{◌≡◌, ℕ, List, length, map}
use Rattle.std.proofs.Common.{sym}
use Rattle.std.proofs.Math.ListN.{replicate}
use Rattle.std.proofs.lemmas.Simd.{splat_is_map}

pub all_same : {V Y : Type 0} (vs : List V) (n : ℕ) (y : Y) → n ≡ length vs → replicate n y ≡ map (λ _. y) vs
all_same vs n y e = splat_is_map vs n y (sym e)
