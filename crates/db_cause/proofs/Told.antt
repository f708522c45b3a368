-- A code tells its cause, since the cause can be read off it.
use Rattle.std.specs.Prelude.{ℕ, ◌==◌, if◌then◌else◌, List, [], ◌∷◌}
use Rattle.std.proofs.Common.{◌≡◌, refl, ap, sym, ◌∙◌}
use Rattle.db_cause.specs.declared.cause.Cause.{Cause}
use Rattle.db_cause.specs.declared.cause.Cause.TheVariants as cause
use Rattle.db_cause.specs.Codes.{code}
use Rattle.db_cause.specs.Laws.{CodesTellCauses}

abbrev causes : List Cause
causes =
    cause.UnexpectedByte ∷ cause.UnexpectedEnd ∷ cause.TextTooLong ∷ cause.TextTooDeep
    ∷ cause.MisplacedElement ∷ cause.StrayAttribute ∷ cause.MissingAttribute ∷ cause.MalformedValue
    ∷ cause.MalformedExpression ∷ cause.WrongChildren ∷ cause.ElementTooDeep ∷ cause.StrayLoopControl
    ∷ cause.DeclaredAgain ∷ cause.Undeclared ∷ cause.WrongType ∷ cause.OutOfLimits
    ∷ cause.UnfollowedBits ∷ cause.IncludesItself ∷ cause.NestedTooDeep ∷ cause.TableMisfit ∷ []

-- the first one with this code
abbrev named_in : List Cause → ℕ → Cause
named_in [] n = cause.UnexpectedByte
named_in (c ∷ cs) n = if n == code c then c else named_in cs n

abbrev named : ℕ → Cause
named n = named_in causes n

back : (c : Cause) → named (code c) ≡ c
back cause.UnexpectedByte = refl
back cause.UnexpectedEnd = refl
back cause.TextTooLong = refl
back cause.TextTooDeep = refl
back cause.MisplacedElement = refl
back cause.StrayAttribute = refl
back cause.MissingAttribute = refl
back cause.MalformedValue = refl
back cause.MalformedExpression = refl
back cause.WrongChildren = refl
back cause.ElementTooDeep = refl
back cause.StrayLoopControl = refl
back cause.DeclaredAgain = refl
back cause.Undeclared = refl
back cause.WrongType = refl
back cause.OutOfLimits = refl
back cause.UnfollowedBits = refl
back cause.IncludesItself = refl
back cause.NestedTooDeep = refl
back cause.TableMisfit = refl

pub told : CodesTellCauses
told a b e = sym (back a) ∙ (ap named e ∙ back b)
