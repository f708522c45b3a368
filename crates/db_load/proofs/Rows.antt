-- The rows of a table of elements.
use Rattle.std.specs.Prelude.{◌≡◌, Bool, true, false, bytes_eq, if◌then◌else◌, is_some, List, [], ◌∷◌, Some}
use Rattle.std.proofs.Common.{refl}
use Rattle.db_model.specs.Names.{Text}
use Rattle.db_load.specs.declared.rule.Child.{Child}
use Rattle.db_load.specs.Faults.{row_of, is_row}
use Rattle.db_load.specs.Words.{spelled}

pub row_or_none : (rows : List Child) (name : Text) → is_row rows name ≡ is_some (row_of rows name)
row_or_none [] name = refl
row_or_none (row ∷ rows) name = by (bytes_eq name (spelled row.word)) (row_or_none rows name)
  where
    by : (b : Bool) → is_row rows name ≡ is_some (row_of rows name) → (if b then true else is_row rows name) ≡ is_some (if b then Some row else row_of rows name)
    by true h = refl
    by false h = h
