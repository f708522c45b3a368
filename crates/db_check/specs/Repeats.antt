-- A name is declared again exactly where its first place among the declarations isn't its own.
use Rattle.std.specs.Prelude.{ℕ, suc, ◌||◌, nat_lt, List, [], ◌∷◌, ◌++◌}
use Rattle.db_model.specs.Lines.{Lines, at_line}
use Rattle.db_model.specs.NameFaults.{Declared}
use Rattle.db_model.specs.Names.{Text, place}
use Rattle.db_model.specs.Typing.{is_among}

-- the names of all declarations are known; these stand from a place on, and some names are taken before all of them
abbrev pub repeated_from : List Text → List Text → ℕ → List Declared → Lines
repeated_from taken names i [] = []
repeated_from taken names i (d ∷ ds) = at_line d.1 (nat_lt (place d.0 names) i || is_among d.0 taken) ++ repeated_from taken names (suc i) ds
