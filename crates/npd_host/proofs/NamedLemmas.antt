-- What replacing or adding something named does to the bytes of each name.
use Rattle.std.proofs.Common.{◌≡◌, ℕ, true, false, List, [], ◌∷◌, ◌++◌, set, get_or, Some, None, refl, sym, ◌∙◌}
use Rattle.std.specs.List.{position}
use Rattle.std.proofs.lemmas.Slice.Eq.{bytes_eq-Decides}
use Rattle.std.proofs.lemmas.List.Folds.{find_past}
use Rattle.std.proofs.lemmas.List.Quantifiers.{position-Some}
use Rattle.npd_host.specs.Named.{Named, is_named, bytes_of, Puts}
use Rattle.npd_host.proofs.Finds.{false_unless_true, find-push, find-push_past, find-set_first}

is_named-same : (x : Named) → is_named x.name x ≡ true
is_named-same x = (bytes_eq-Decides x.name x.name).1 refl

-- a name that something hasn't
is_named-other : (x : Named) (name : List ℕ) → (name ≡ x.name → ⊥) → is_named name x ≡ false
is_named-other x name other = false_unless_true (is_named name x) (λ e. other (sym ((bytes_eq-Decides x.name name).0 e)))

pub Puts-push : (xs : List Named) (y : Named) → None ≡ position (is_named y.name) xs → Puts (bytes_of xs) (bytes_of (xs ++ y ∷ [])) y.name y.bytes
Puts-push xs y none = record {
  put = rw (find-push (is_named y.name) xs y none (is_named-same y));
  others = λ other h. rw (find-push_past (is_named other) xs y (is_named-other y other h));
}

pub Puts-set : (xs : List Named) (i : ℕ) (y : Named) → Some i ≡ position (is_named y.name) xs → Puts (bytes_of xs) (bytes_of (set xs i y)) y.name y.bytes
Puts-set xs i y some =
    let at = position-Some (is_named y.name) xs i y (sym some) in
    let named = (bytes_eq-Decides (get_or xs i y).name y.name).0 at.1 in
    record {
      put = rw (find-set_first (is_named y.name) xs i y some at.0 (is_named-same y));
      others = λ other h. rw (find_past (is_named other) xs i y y (is_named-other (get_or xs i y) other (λ e. h (e ∙ named))) (is_named-other y other h));
    }
