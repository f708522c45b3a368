-- Bytes read as a number and a number written as bytes, the first byte the highest.
use Rattle.std.specs.Prelude.{ℕ, zero, suc, ◌+◌, ◌*◌, ◌/◌, ◌%◌, ◌^◌, Bool, if◌then◌else◌, nat_eq, ◌==◌, ◌||◌, List, [], ◌∷◌, ◌++◌, bit_and}
use Rattle.std.specs.List.{starts_with}

abbrev pub number_from : ℕ → List ℕ → ℕ
number_from high [] = high
number_from high (b ∷ bs) = number_from (256 * high + b) bs

abbrev pub big_endian : List ℕ → ℕ
big_endian bs = number_from 0 bs

-- the last so many bytes of a number
abbrev pub to_bytes : ℕ → ℕ → List ℕ
to_bytes zero n = []
to_bytes (suc k) n = to_bytes k (n / 256) ++ (n % 256) ∷ []

-- whether a text stands somewhere in some bytes; the empty one always does
abbrev pub occurs : List ℕ → List ℕ → Bool
occurs text [] = starts_with nat_eq [] text
occurs text (b ∷ bs) = starts_with nat_eq (b ∷ bs) text || occurs text bs

-- the place of a mask's lowest 1, where it stands among the first so many
abbrev pub lowest_one : ℕ → ℕ → ℕ
lowest_one zero mask = zero
lowest_one (suc k) mask = if mask % 2 == 0 then suc (lowest_one k (mask / 2)) else zero

-- the bits that the mask keeps, shifted right until the mask's lowest 1 stands at bit 0
abbrev pub bits_by : ℕ → ℕ → ℕ
bits_by mask n = bit_and n mask / 2 ^ lowest_one 32 mask
