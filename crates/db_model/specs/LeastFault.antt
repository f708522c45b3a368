-- Which of several faults is answered: the one of the least line, and on that line the one of the least code.
use Rattle.std.specs.Prelude.{Bool, ◌||◌, ◌&&◌, if◌then◌else◌, nat_lt, nat_le, ◌==◌, List, [], ◌∷◌, Option, Some, None}
use Rattle.db_model.specs.declared.fault.Fault.{Fault}

-- a lesser line, or the same one and a code that isn't greater
abbrev pub comes_first : Fault → Fault → Bool
comes_first a b = nat_lt a.line b.line || (a.line == b.line && nat_le a.code b.code)

abbrev pub earlier : Option Fault → Option Fault → Option Fault
earlier None b = b
earlier (Some a) None = Some a
earlier (Some a) (Some b) = if comes_first a b then Some a else Some b

abbrev pub least : List Fault → Option Fault
least [] = None
least (f ∷ fs) = earlier (Some f) (least fs)
