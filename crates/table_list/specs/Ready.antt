-- The memory for one call of a table: its sizes are those of its keys and of its row.
use Rattle.table_list.specs.declared.blank.Ready.{Ready}
use Rattle.table_list.specs.declared.space.Space.{Space}

abbrev pub ready : Space → Space → Ready
ready keys row = record { entry = record { keys = keys; masks = keys; row = row }; answer = row }
