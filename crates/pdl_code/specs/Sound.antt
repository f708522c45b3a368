-- The kinds of fields that a database without faults may have.
use Rattle.std.specs.Prelude.{◌≢◌, ◌<◌, ◌≤◌}
use Rattle.db_model.specs.declared.field_kind.FieldKind.{FieldKind}
use Rattle.db_model.specs.declared.field_kind.FieldKind.TheVariants.{Fixed, Bit, Variable, TokenEnded, Line, Padding}
use Rattle.db_model.specs.declared.limits.TheConstants.{MOST_BIT_SIZE}

-- a bit field has some bytes, few enough to be a number, and a mask other than 0; an alignment isn't 0
abbrev pub IsSound : FieldKind → Type 0
IsSound (Fixed s) = Unit {0}
IsSound (Bit s mask) = (0 < s) × (s ≤ MOST_BIT_SIZE) × (mask ≢ 0)
IsSound Variable = Unit {0}
IsSound (TokenEnded token) = Unit {0}
IsSound Line = Unit {0}
IsSound (Padding align) = 0 < align
