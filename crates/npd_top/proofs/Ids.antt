-- Ids that a host gave stay given.
use Rattle.std.proofs.Common.{◌≡◌, ◌⊎◌, inl, inr, ⊎_elim, ℕ, Bool, true, false, eqb, List, Option, Some, None, refl, sym, ap, ◌∙◌, arith}
use Rattle.std.proofs.lemmas.Bool.Decides.{nat_tests}
use Rattle.npd_host.specs.Host.{Inputs, OpensInput}
use Rattle.npd_top.specs.Outside.{KeepsIds}

none_is_some : {A : Type 0} {a : A} → ◌≡◌ {A = Option A} None (Some a) → ⊥
none_is_some e = cc

same_or_other : (a b : ℕ) → (a ≡ b) ⊎ (a ≡ b → ⊥)
same_or_other a b = by_test (eqb a b) refl
  where
    by_test : (test : Bool) → eqb a b ≡ test → (a ≡ b) ⊎ (a ≡ b → ⊥)
    by_test true e = inl (grind (arith, nat_tests))
    by_test false e = inr (λ same. grind (arith, nat_tests))

-- an input that was opened took no given id
pub keeps_opened : (old new : Inputs) (id : ℕ) (name : List ℕ) (bytes : Option (List ℕ)) → OpensInput old new id name bytes → KeepsIds old new
keeps_opened old new id name bytes opens other none =
    ⊎_elim (λ same. absurd (none_is_some (sym none ∙ ap new.name same ∙ opens.named)))
    (λ differs. sym (opens.names other differs) ∙ none) (same_or_other other id)

pub keeps_named : (old mid new : Inputs) → KeepsIds old mid → new.name ≡ mid.name → KeepsIds old new
keeps_named old mid new keeps names id none = keeps id (ap (λ (f : ℕ → Option (List ℕ)). f id) (sym names) ∙ none)
