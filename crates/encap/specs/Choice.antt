-- The choice among the cases of a switch.
use Rattle.std.specs.Prelude.{ℕ, Bool, ◌&&◌, nat_le, List, Option}
use Rattle.std.specs.List.{position}
use Rattle.db_model.specs.declared.field_kind.CaseRange.{CaseRange}

-- whether a case holds a number: it stands from the low end to the high one
abbrev pub case_holds : ℕ → CaseRange → Bool
case_holds v case = nat_le case.low v && nat_le v case.high

-- the place of the first case that holds a number
abbrev pub first_holding : ℕ → List CaseRange → Option ℕ
first_holding v cases = position (case_holds v) cases
