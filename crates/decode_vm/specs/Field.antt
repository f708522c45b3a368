-- A field that is added to a machine.
use Rattle.std.specs.Prelude.{◌≡◌, ℕ, ◌+◌, [], ◌∷◌, ◌++◌}
use Rattle.db_model.specs.declared.env.Env.{Env}
use Rattle.db_model.specs.declared.field_kind.FieldKind.{FieldKind}
use Rattle.db_model.specs.declared.field_kind.FieldKind.TheVariants.{Fixed, Bit, Variable, TokenEnded, Line, Padding}
use Rattle.db_model.specs.declared.tree.Node.TheVariants.{Field}
use Rattle.db_model.specs.Extent.{step_by}
use Rattle.db_model.specs.Runs.{field_value}
use Rattle.decode_vm.specs.declared.machine.Machine.{Machine}
use Rattle.decode_vm.specs.declared.machine.Mode.TheVariants as mode

-- a bit field has its declared size
abbrev pub IsSized : FieldKind → ℕ → Type 0
IsSized (Fixed s) size = Unit {0}
IsSized (Bit s mask) size = size ≡ s
IsSized Variable size = Unit {0}
IsSized (TokenEnded token) size = Unit {0}
IsSized Line size = Unit {0}
IsSized (Padding align) size = Unit {0}

-- the values of the fields, and the position behind the field
abbrev pub behind_field : FieldKind → ℕ → ℕ → Env → Env
behind_field kind number size z = record z { at = z.at + step_by kind size; present = z.present ++ (number, field_value kind size z) ∷ [] }

-- a field of this size, behind which its list goes on
abbrev pub fielded : FieldKind → ℕ → ℕ → ℕ → Machine → Machine
fielded kind number size after m =
    record m { mode = mode.At after; nodes = m.nodes ++ Field number m.frame.env.at size (field_value kind size m.frame.env) ∷ []; frame = record m.frame { env = behind_field kind number size m.frame.env } }
