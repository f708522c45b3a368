-- The rows of bit fields in the parts of a protocol.
use Rattle.std.specs.Prelude.{List, ◌++◌, Option}
use Rattle.db_model.specs.declared.database.NamedBlock.{NamedBlock}
use Rattle.db_model.specs.declared.database.Protocol.{Protocol}
use Rattle.db_model.specs.declared.element.Branch.{Branch}
use Rattle.db_model.specs.declared.element.Case.{Case}
use Rattle.db_model.specs.declared.element.Element.{Element}
use Rattle.db_model.specs.Folds.{fold_element}
use Rattle.db_model.specs.Lines.{Lines, over, over_option}
use Rattle.db_model.specs.Numbering.{fields_in, blocks_in}
use Rattle.db_model.specs.NumberFaults.{InRow, in_row, list_44}

-- an element as it stands in its row
abbrev pub in_row_of : Element → InRow
in_row_of x = fold_element InRow in_row x

abbrev pub rows_of_cases : List Case → Lines
rows_of_cases cases = over (λ (c : Case). list_44 c.body) cases

abbrev pub rows_of_other : Option Branch → Lines
rows_of_other other = over_option (λ (b : Branch). list_44 b.body) other

abbrev pub rows_of_blocks : List NamedBlock → Lines
rows_of_blocks blocks = over (λ (b : NamedBlock). list_44 b.body) blocks

abbrev pub rows_in : Protocol → Lines
rows_in p = list_44 (fields_in p.format) ++ rows_of_blocks (blocks_in p.format)
