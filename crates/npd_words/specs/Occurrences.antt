-- How the words behind the command are read as options.
use Rattle.std.specs.Prelude.{ℕ, ◌+◌, Bool, true, false, not, ◌==◌, nat_lt, if◌then◌else◌, List, [], ◌∷◌, length, is_some, Option, Some, None}
use Rattle.std.specs.List.{position_or_len, before_first, after_first}
use Rattle.db_model.specs.Names.{Text}

-- an option as it is written: the index of its word, its name, and its value where one follows
pub record Occurrence : Type 0 where
  pub index : ℕ
  pub name : Text
  pub value : Option Text

-- ---- a word

-- whether a `=` stands in a word
abbrev pub has_equals : Text → Bool
has_equals w = nat_lt (position_or_len (λ b. b == 0x3D) w) (length w)

-- what stands before its first `=`, or the whole word
unfoldable pub name_in : Text → Text
name_in w = before_first (λ b. b == 0x3D) w

-- what stands behind its first `=`, where it has one
unfoldable pub value_in : Text → Option Text
value_in w = if has_equals w then Some (after_first (λ b. b == 0x3D) w) else None

-- ---- the words behind it

-- a word that begins with `-` is no value, unless it is `-` alone
abbrev pub may_be_value : Text → Bool
may_be_value (a ∷ (b ∷ bs)) = not (a == 0x2D)
may_be_value _ = true

abbrev pub next_value : List Text → Option Text
next_value [] = None
next_value (w ∷ ws) = if may_be_value w then Some w else None

-- the value is the one in the word, or else the next word
abbrev pub value_by : Option Text → List Text → Option Text
value_by (Some v) ws = Some v
value_by None ws = next_value ws

-- whether it is the next word
abbrev pub takes_next : Option Text → List Text → Bool
takes_next (Some v) ws = false
takes_next None ws = is_some (next_value ws)

-- each word is an option, from this index on, unless the one before it took it as its value
abbrev pub occurrences : List Text → Bool → ℕ → List Occurrence
occurrences [] is_taken i = []
occurrences (w ∷ ws) true i = occurrences ws false (i + 1)
occurrences (w ∷ ws) false i =
    record { index = i; name = name_in w; value = value_by (value_in w) ws }
    ∷ occurrences ws (takes_next (value_in w) ws) (i + 1)
