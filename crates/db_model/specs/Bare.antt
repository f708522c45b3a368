-- The smallest database: one protocol to begin with, without parts.
use Rattle.std.specs.Prelude.{[], ◌∷◌, None}
use Rattle.db_model.specs.declared.database.Database.{Database}
use Rattle.db_model.specs.Names.{startproto}

abbrev pub bare : Database
bare = record {
  line = 1;
  name = None;
  version = None;
  creator = None;
  date = None;
  variables = [];
  tables = [];
  show_templates = [];
  sum_struct = None;
  sum_templates = [];
  protocols = record { line = 1; name = startproto; longname = None; showsum = None; execute_code = None; format = None; encapsulation = None } ∷ [];
}
