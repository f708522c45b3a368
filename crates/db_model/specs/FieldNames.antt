-- The names of the fields in the parts of a protocol, in the order of the text.
use Rattle.std.specs.Prelude.{List, [], ◌++◌, map, Option, Some, None}
use Rattle.db_model.specs.declared.database.Format.{Format}
use Rattle.db_model.specs.declared.database.NamedBlock.{NamedBlock}
use Rattle.db_model.specs.declared.element.Branch.{Branch}
use Rattle.db_model.specs.declared.element.Case.{Case}
use Rattle.db_model.specs.Names.{Text}
use Rattle.db_model.specs.Numbering.{all_names, names_in, elements_in}

abbrev pub names_of_cases : List Case → List Text
names_of_cases cases = all_names (map (λ (c : Case). names_in c.body) cases)

abbrev pub names_of_other : Option Branch → List Text
names_of_other None = []
names_of_other (Some b) = names_in b.body

abbrev pub names_of_blocks : List NamedBlock → List Text
names_of_blocks blocks = all_names (map (λ (b : NamedBlock). names_in b.body) blocks)

abbrev pub names_of_format : Format → List Text
names_of_format f = names_in (elements_in f.fields) ++ names_of_blocks f.blocks
