-- A search for a reserved word, from a place on.
use Rattle.std.proofs.Common.{◌≡◌, ◌≤◌, ◌<◌, ℕ, zero, suc, true, false, List, [], ◌∷◌, length, drop, slice_index_or, Some, None, refl, arith}
use Rattle.std.specs.Prelude.{bytes_eq}
use Rattle.std.proofs.lemmas.Bool.{cond-true, cond-false}
use Rattle.db_model.specs.declared.naming.ReservedWord.{ReservedWord}
use Rattle.db_model.specs.Name.{spelling, among}

module _ (text : List ℕ) where
  pub found_at : (words : List ReservedWord) (i : ℕ) (d : ReservedWord) → i < length words → bytes_eq text (spelling (slice_index_or words i d)) ≡ true → among (drop i words) text ≡ Some (slice_index_or words i d)
  found_at [] i d h e = absurd (omega arith)
  found_at (w ∷ ws) zero d h e = cond-true (bytes_eq text (spelling w)) (Some w) (among ws text) e
  found_at (w ∷ ws) (suc i) d h e = found_at ws i d (omega arith) e

  pub passed_at : (words : List ReservedWord) (i : ℕ) (d : ReservedWord) → i < length words → bytes_eq text (spelling (slice_index_or words i d)) ≡ false → among (drop i words) text ≡ among (drop (suc i) words) text
  passed_at [] i d h e = absurd (omega arith)
  passed_at (w ∷ ws) zero d h e = cond-false (bytes_eq text (spelling w)) (Some w) (among ws text) e
  passed_at (w ∷ ws) (suc i) d h e = passed_at ws i d (omega arith) e

  pub none_from : (words : List ReservedWord) (i : ℕ) → length words ≤ i → among (drop i words) text ≡ None
  none_from [] zero h = refl
  none_from [] (suc i) h = refl
  none_from (w ∷ ws) zero h = absurd (omega arith)
  none_from (w ∷ ws) (suc i) h = none_from ws i (omega arith)
