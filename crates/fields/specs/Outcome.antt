-- What `extent` answers, and of which kinds it is asked.
use Rattle.std.specs.Prelude.{ℕ, ◌<◌, Option, Some, None}
use Rattle.db_model.specs.declared.field_kind.FieldKind.{FieldKind}
use Rattle.db_model.specs.declared.field_kind.FieldKind.TheVariants.{Fixed, Bit, Variable, TokenEnded, Line, Padding}
use Rattle.fields.specs.declared.outcome.Extent.{Extent}
use Rattle.fields.specs.declared.outcome.Extent.TheVariants.{Size, Short}

-- an extent that the definition of decoding gives, as the code has it: none is a field that passes the limit
abbrev pub outcome : Option ℕ → Extent
outcome (Some size) = Size size
outcome None = Short

-- an alignment isn't 0; every other kind is asked freely
abbrev pub IsAligned : FieldKind → Type 0
IsAligned (Fixed s) = Unit {0}
IsAligned (Bit s mask) = Unit {0}
IsAligned Variable = Unit {0}
IsAligned (TokenEnded token) = Unit {0}
IsAligned Line = Unit {0}
IsAligned (Padding align) = 0 < align
