use Rattle.std.proofs.Common.{◌≡◌, drop, bytes_eq}
use Rattle.db_model.specs.Table.{masked}
use Rattle.table_list.proofs.Zips.{compared}
use Rattle.table_list.proofs.search.are_masked.Given as goal

abbrev pub invariant-loop-i : goal.invariant-loop-i
invariant-loop-i l = compared bytes_eq (λ p. masked p.0 p.1) (drop l.i l.masks) (drop l.i l.keys) (drop l.i l.own) ≡ compared bytes_eq (λ p. masked p.0 p.1) l.masks l.keys l.own
