use Rattle.std.proofs.Common.{◌≡◌, take}
use Rattle.session.specs.Tables.{contents, declarations}
use Rattle.session.proofs.tables.copied.Given as goal

abbrev pub invariant-loop-table : goal.invariant-loop-table
invariant-loop-table l = record {
  declarations : declarations l.copies.items ≡ declarations (take l.table-index l.tables);
  contents : contents l.copies.items ≡ contents (take l.table-index l.tables);
}
