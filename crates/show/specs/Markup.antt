-- How texts are written into markup.
use Rattle.std.specs.Prelude.{ℕ, ◌==◌, if◌then◌else◌, List, [], ◌∷◌, codes}
use Rattle.std.specs.List.{flat_map}
use Rattle.show.specs.declared.markup.TextForm.{TextForm}
use Rattle.show.specs.declared.markup.TextForm.TheVariants.{Plain, Markup}

-- a byte in a value: the signs of the markup by their names
unfoldable pub entity : ℕ → List ℕ
entity byte =
    if byte == 38 then codes "&amp;"
    else (if byte == 60 then codes "&lt;"
    else (if byte == 62 then codes "&gt;"
    else (if byte == 34 then codes "&quot;" else byte ∷ [])))

abbrev pub escaped : List ℕ → List ℕ
escaped text = flat_map entity text

-- a text as it is, or as a value
abbrev pub written : TextForm → List ℕ → List ℕ
written Plain text = text
written Markup text = escaped text
