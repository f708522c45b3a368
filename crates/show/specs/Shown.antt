-- How bytes are shown by a show template.
use Rattle.std.specs.Prelude.{◌≡◌, ℕ, zero, suc, ◌≤◌, ◌&&◌, nat_le, if◌then◌else◌, List, [], ◌∷◌, map, take, drop, length, decimal, Option, Some, None}
use Rattle.std.specs.List.{join_by}
use Rattle.hex.specs.Hex.{encode_lower}
use Rattle.db_model.specs.declared.database.ShowTemplate.{ShowTemplate}
use Rattle.db_model.specs.declared.database.ShowType.{ShowType}
use Rattle.db_model.specs.declared.database.ShowType.TheVariants.{Hex, Dec, Ascii}
use Rattle.db_model.specs.declared.limits.TheConstants.{MOST_DECIMAL_GROUP}
use Rattle.db_model.specs.Numbers.{big_endian}

-- a byte as a character: itself from 0x20 to 0x7E, else a point
unfoldable pub character : ℕ → ℕ
character byte = if nat_le 32 byte && nat_le byte 126 then byte else 46

-- a group of bytes: two digits for each, the number that they are together, or a character for each
abbrev pub group_shown : ShowType → List ℕ → List ℕ
group_shown Hex group = encode_lower group
group_shown Dec group = decimal (big_endian group)
group_shown Ascii group = map character group

-- bytes cut into groups of so many, from the left, the last one maybe shorter; there are no more groups than bytes
unfoldable pub cut : ℕ → ℕ → List ℕ → List (List ℕ)
cut zero size bytes = []
cut (suc more) size [] = []
cut (suc more) size (b ∷ bs) = take size (b ∷ bs) ∷ cut more size (drop size (b ∷ bs))

-- the bytes of one group: 0 means all
abbrev pub group_size : ℕ → ℕ → ℕ
group_size zero all = all
group_size (suc n) all = suc n

abbrev pub groups : ℕ → List ℕ → List (List ℕ)
groups size bytes = cut (length bytes) (group_size size (length bytes)) bytes

-- bytes by a template, its groups joined by its separator; without a template they are plain hex
abbrev pub shown : Option ShowTemplate → List ℕ → List ℕ
shown None bytes = encode_lower bytes
shown (Some t) bytes = join_by (group_shown t.show_type) t.separator (groups t.group bytes)

-- a template whose groups are shown as numbers has groups of 1 to 4 bytes
abbrev pub IsShowable : Option ShowTemplate → Type 0
IsShowable None = Unit {0}
IsShowable (Some t) = t.show_type ≡ Dec → (1 ≤ t.group) × (t.group ≤ MOST_DECIMAL_GROUP)
