-- A database with one table and one field, for look-ups that are written out.
use Rattle.std.specs.Prelude.{[], ◌∷◌, codes, None}
use Rattle.db_model.specs.declared.database.Database.{Database}
use Rattle.db_model.specs.declared.database.Protocol.{Protocol}
use Rattle.db_examples.specs.Samples.{fixed, protocol, fields, database}
use Rattle.db_examples.specs.TableSample.{one_table}

abbrev pub start : Protocol
start = protocol 3 (codes "startproto") None (fields 3 (fixed 4 (codes "f") 1 ∷ []) []) None

unfoldable pub keyed_db : Database
keyed_db = record (database (start ∷ [])) { tables = one_table ∷ [] }
