-- What a table is seen as, whatever its form.
use Rattle.table_list.specs.State.{State}
use Rattle.session.specs.declared.any_table.Form.{Form}
use Rattle.session.specs.declared.any_table.Form.TheVariants.{List}

abbrev pub state_of : Form → State
state_of (List table) = table
