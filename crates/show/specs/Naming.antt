-- What an element is called in the markup, and how its line begins.
use Rattle.std.specs.Prelude.{ℕ, List, [], ◌++◌, codes, Option, Some, None}
use Rattle.db_model.specs.Names.{Text}
use Rattle.show.specs.Markup.{escaped}

-- the longname of something, where it has one
abbrev pub longnamed : Option (List ℕ) → List ℕ
longnamed None = []
longnamed (Some longname) = codes " longname=\"" ++ (escaped longname ++ codes "\"")

-- the name of something, and its longname right behind it
unfoldable pub named : Text → Option (List ℕ) → List ℕ
named name longname = codes " name=\"" ++ (name ++ (codes "\"" ++ longnamed longname))

-- the beginning of a line, from its tag up to where the position stands
unfoldable pub begun : List ℕ → Text → Option (List ℕ) → List ℕ
begun tag name longname = tag ++ (named name longname ++ codes " pos=\"")
