-- The pieces of which a protocol, the whole database and a case are put together.
use Rattle.std.specs.Prelude.{ℕ, List, unwrap_or}
use Rattle.db_model.specs.declared.database.Database.{Database}
use Rattle.db_model.specs.declared.database.Protocol.{Protocol}
use Rattle.db_model.specs.declared.element.Case.{Case}
use Rattle.db_model.specs.declared.element.Element.{Element}
use Rattle.db_text.specs.declared.node.Node.{Node, out-Node}
use Rattle.db_load.specs.declared.kind.Kind.TheVariants as kind
use Rattle.db_load.specs.declared.protocol.Declarations.{Declarations}
use Rattle.db_load.specs.declared.protocol.Heading.{Heading}
use Rattle.db_load.specs.declared.protocol.Parts.{Parts}
use Rattle.db_load.specs.declared.protocol.Titles.{Titles}
use Rattle.db_load.specs.declared.word.Word.TheVariants as word
use Rattle.db_load.specs.Values.{name_by, optional_name_by, text_by, number_by, optional_number_by}
use Rattle.db_load.specs.Whole.{of, each_of, one_of, list_of, execute_code, format, variable, table, show_template, sum_struct, sum_template}

-- what stands in a protocol, and how it is called
abbrev pub parts_in : List Node → Parts
parts_in nodes = record {
  execute_code = one_of word.ExecuteCode execute_code nodes;
  format = one_of word.Format format nodes;
  encapsulation = one_of word.Encapsulation (list_of kind.Encapsulation) nodes;
}

abbrev pub heading_of : Node → Heading
heading_of n = record {
  name = name_by (of n word.Name);
  longname = text_by (of n word.LongName);
  showsum = optional_name_by (of n word.ShowSum);
}

abbrev pub protocol_by : ℕ → Heading → Parts → Protocol
protocol_by line heading parts = record {
  line = line;
  name = heading.name;
  longname = heading.longname;
  showsum = heading.showsum;
  execute_code = parts.execute_code;
  format = parts.format;
  encapsulation = parts.encapsulation;
}

-- what a database says of itself, and what it declares beside its protocols
abbrev pub titles_of : Node → Titles
titles_of n = record {
  name = text_by (of n word.Name);
  version = text_by (of n word.Version);
  creator = text_by (of n word.Creator);
  date = text_by (of n word.Date);
}

abbrev pub declared_in : List Node → Declarations
declared_in nodes = record {
  variables = each_of word.Variable variable nodes;
  tables = each_of word.LookupTable table nodes;
  show_templates = each_of word.ShowTemplate show_template nodes;
  sum_struct = one_of word.ShowSumStruct sum_struct nodes;
  sum_templates = each_of word.ShowSumTemplate sum_template nodes;
}

abbrev pub whole_by : ℕ → Titles → Declarations → List Protocol → Database
whole_by line titles declarations protocols = record {
  line = line;
  name = titles.name;
  version = titles.version;
  creator = titles.creator;
  date = titles.date;
  variables = declarations.variables;
  tables = declarations.tables;
  show_templates = declarations.show_templates;
  sum_struct = declarations.sum_struct;
  sum_templates = declarations.sum_templates;
  protocols = protocols;
}

-- a case whose greatest value is its value, unless it says one
abbrev pub case_by : Node → List Element → Case
case_by n body = record {
  line = (out-Node n).line;
  value = number_by (of n word.Value);
  maxvalue = unwrap_or (optional_number_by (of n word.MaxValue)) (number_by (of n word.Value));
  body = body;
}
