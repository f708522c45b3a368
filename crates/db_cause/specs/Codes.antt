-- The codes by which causes are told.
use Rattle.std.specs.Prelude.{ℕ}
use Rattle.db_cause.specs.declared.cause.Cause.{Cause}
use Rattle.db_cause.specs.declared.cause.Cause.TheVariants as cause

abbrev pub code : Cause → ℕ
-- of the text
code cause.UnexpectedByte = 1
code cause.UnexpectedEnd = 2
code cause.TextTooLong = 3
code cause.TextTooDeep = 4
-- of the shape of elements
code cause.MisplacedElement = 20
code cause.StrayAttribute = 21
code cause.MissingAttribute = 22
code cause.MalformedValue = 23
code cause.MalformedExpression = 24
code cause.WrongChildren = 25
code cause.ElementTooDeep = 26
code cause.StrayLoopControl = 27
-- of what elements say of one another
code cause.DeclaredAgain = 40
code cause.Undeclared = 41
code cause.WrongType = 42
code cause.OutOfLimits = 43
code cause.UnfollowedBits = 44
code cause.IncludesItself = 45
code cause.NestedTooDeep = 46
code cause.TableMisfit = 47
