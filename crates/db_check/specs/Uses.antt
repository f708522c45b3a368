-- The lines of declarations outside of protocols that use a name.
use Rattle.db_model.specs.declared.database.Database.{Database}
use Rattle.db_model.specs.declared.database.SumTemplate.{SumTemplate}
use Rattle.db_model.specs.declared.database.VarDecl.{VarDecl}
use Rattle.db_model.specs.Lines.{Lines, over, at_line}
use Rattle.db_model.specs.NameFaults.{literal_is_unknown, item_41}
use Rattle.db_model.specs.TypeFaults.{literal_is_wrong}

abbrev pub literal_lines : Database → VarDecl → Lines
literal_lines db v = at_line v.line (literal_is_unknown db v.value)

abbrev pub type_lines : Database → VarDecl → Lines
type_lines db v = at_line v.line (literal_is_wrong db v.ty v.value)

abbrev pub template_lines : Database → SumTemplate → Lines
template_lines db t = over (item_41 db) t.items
