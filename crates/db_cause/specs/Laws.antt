-- The law of the codes.
use Rattle.std.specs.Prelude.{◌≡◌}
use Rattle.db_cause.specs.declared.cause.Cause.{Cause}
use Rattle.db_cause.specs.Codes.{code}

-- a code tells its cause: different causes have different codes
abbrev pub CodesTellCauses : Type 0
CodesTellCauses = (a b : Cause) → code a ≡ code b → a ≡ b
