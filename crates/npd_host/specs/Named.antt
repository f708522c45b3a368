-- Bytes under names.
use Rattle.std.specs.Prelude.{◌≡◌, ℕ, Bool, List, Option, Some}
use Rattle.std.specs.List.{find}
use Rattle.std.specs.Option.{option_map}
use Rattle.std.specs.Str.{bytes_eq}

-- bytes under a name: a file that can be opened, an input with what it still holds, an output with what it has taken
pub record Named : Type 0 where
  pub name : List ℕ
  pub bytes : List ℕ

-- whether something has this name
abbrev pub is_named : List ℕ → Named → Bool
is_named name x = bytes_eq x.name name

-- the bytes of the first of a name
abbrev pub bytes_of : List Named → List ℕ → Option (List ℕ)
bytes_of xs name = option_map (λ x. x.bytes) (find (is_named name) xs)

-- this name has these bytes now, and each other name is left
pub record Puts (old new : List ℕ → Option (List ℕ)) (name bytes : List ℕ) : Type 0 where
  pub put : new name ≡ Some bytes
  pub others : (other : List ℕ) → (other ≡ name → ⊥) → new other ≡ old other
