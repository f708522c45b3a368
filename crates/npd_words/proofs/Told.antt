-- A code tells its cause, since the cause can be read off it.
use Rattle.std.specs.Prelude.{ℕ, ◌==◌, if◌then◌else◌, List, [], ◌∷◌}
use Rattle.std.proofs.Common.{◌≡◌, refl, ap, sym, ◌∙◌}
use Rattle.npd_words.specs.declared.cause.Cause.{Cause}
use Rattle.npd_words.specs.declared.cause.Cause.TheVariants as cause
use Rattle.npd_words.specs.Codes.{code, CodesTellCauses}

abbrev causes : List Cause
causes =
    cause.NoWord ∷ cause.UnknownCommand ∷ cause.UnknownOption ∷ cause.SecondTime ∷ cause.NoValue
    ∷ cause.EmptyValue ∷ cause.NoNumber ∷ cause.MissingOption ∷ cause.SameName ∷ []

-- the first one with this code
abbrev named_in : List Cause → ℕ → Cause
named_in [] n = cause.NoWord
named_in (c ∷ cs) n = if n == code c then c else named_in cs n

abbrev named : ℕ → Cause
named n = named_in causes n

back : (c : Cause) → named (code c) ≡ c
back cause.NoWord = refl
back cause.UnknownCommand = refl
back cause.UnknownOption = refl
back cause.SecondTime = refl
back cause.NoValue = refl
back cause.EmptyValue = refl
back cause.NoNumber = refl
back cause.MissingOption = refl
back cause.SameName = refl

pub told : CodesTellCauses
told a b e = sym (back a) ∙ (ap named e ∙ back b)
