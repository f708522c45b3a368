-- The codes by which causes are told.
use Rattle.std.specs.Prelude.{◌≡◌, ℕ}
use Rattle.npd_words.specs.declared.cause.Cause.{Cause}
use Rattle.npd_words.specs.declared.cause.Cause.TheVariants as cause

abbrev pub code : Cause → ℕ
code cause.NoWord = 1
code cause.UnknownCommand = 2
code cause.UnknownOption = 3
code cause.SecondTime = 4
code cause.NoValue = 5
code cause.EmptyValue = 6
code cause.NoNumber = 7
code cause.MissingOption = 8
code cause.SameName = 9

-- a code tells its cause: different causes have different codes
abbrev pub CodesTellCauses : Type 0
CodesTellCauses = (a b : Cause) → code a ≡ code b → a ≡ b
