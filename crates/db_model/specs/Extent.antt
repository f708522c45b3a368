-- Where a field ends, and the value that it has.
use Rattle.std.specs.Prelude.{ℕ, zero, suc, ◌-◌, ◌%◌, if◌then◌else◌, nat_eq, nat_le, ◌==◌, List, [], ◌∷◌, length, take, drop, Option, Some, None}
use Rattle.std.specs.List.{starts_with}
use Rattle.db_model.specs.declared.element.FieldForm.{FieldForm}
use Rattle.db_model.specs.declared.element.FieldForm.TheVariants as form
use Rattle.db_model.specs.declared.field_kind.FieldKind.{FieldKind}
use Rattle.db_model.specs.declared.field_kind.FieldKind.TheVariants.{Fixed, Bit, Variable, TokenEnded, Line, Padding}
use Rattle.db_model.specs.Numbers.{big_endian, to_bytes, bits_by}

-- up to and with the first token that lies whole in the bytes, else all of them
abbrev pub through : List ℕ → List ℕ → ℕ
through token [] = zero
through token (b ∷ bs) = if starts_with nat_eq (b ∷ bs) token then length token else suc (through token bs)

-- the bytes from a position up to the limit
abbrev pub rest_of : List ℕ → ℕ → ℕ → List ℕ
rest_of bytes at limit = take (limit - at) (drop at bytes)

-- the least size after which the distance from the origin is a multiple
abbrev pub padding : ℕ → ℕ → ℕ
padding align distance = (align - distance % align) % align

-- the size that a field wants: of bytes at a position, before a limit, behind an origin, and n the size of a variable one
abbrev pub size : FieldKind → List ℕ → ℕ → ℕ → ℕ → ℕ → ℕ
size (Fixed s) bytes at limit origin n = s
size (Bit s mask) bytes at limit origin n = s
size Variable bytes at limit origin n = n
size (TokenEnded token) bytes at limit origin n = through token (rest_of bytes at limit)
size Line bytes at limit origin n = through (10 ∷ []) (rest_of bytes at limit)
size (Padding align) bytes at limit origin n = padding align (at - origin)

-- the size, unless it passes the limit
unfoldable pub extent : FieldKind → List ℕ → ℕ → ℕ → ℕ → ℕ → Option ℕ
extent kind bytes at limit origin n = let s = size kind bytes at limit origin n in if nat_le s (limit - at) then Some s else None

-- the value of a bit field: the number read, masked and shifted, in as many bytes
abbrev pub bit_value : List ℕ → ℕ → List ℕ
bit_value bytes mask = to_bytes (length bytes) (bits_by mask (big_endian bytes))

abbrev pub value_by : FieldKind → List ℕ → List ℕ
value_by (Fixed s) bytes = bytes
value_by (Bit s mask) bytes = bit_value bytes mask
value_by Variable bytes = bytes
value_by (TokenEnded token) bytes = bytes
value_by Line bytes = bytes
value_by (Padding align) bytes = bytes

-- how far the position moves behind a field: not at all behind a bit field whose mask has bit 0 clear
abbrev pub step_by : FieldKind → ℕ → ℕ
step_by (Fixed s) n = n
step_by (Bit s mask) n = if mask % 2 == 0 then zero else n
step_by Variable n = n
step_by (TokenEnded token) n = n
step_by Line n = n
step_by (Padding align) n = n

-- the kind of a field as it is declared
abbrev pub kind_of : FieldForm → FieldKind
kind_of (form.Fixed s) = Fixed s
kind_of (form.Bit s mask) = Bit s mask
kind_of (form.Variable e) = Variable
kind_of (form.TokenEnded token) = TokenEnded token
kind_of form.Line = Line
kind_of (form.Padding align) = Padding align
