use Rattle.db_examples.proofs.KeyedJudged.{keyed_made}
use Rattle.db_examples.proofs.values.keyed_database.Goals as goal

pub sealed-requires-clause-database : goal.sealed-requires-clause-database
sealed-requires-clause-database c = keyed_made c.new.result c.in_ok-only.field-0 c.new-2.result c.new-3.result c.in_ok-only-2.field-0 c.in_ok-table.field-0 c.in_ok-start.field-0 c.new.ensures c.in_ok-only.ensures c.in_ok-table.ensures c.new-2.ensures c.new-3.ensures c.in_ok-only-2.ensures c.in_ok-start.ensures
