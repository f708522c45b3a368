use Rattle.std.proofs.Common.{◌≡◌, drop}
use Rattle.std.specs.Prelude.{bit_and, nat_eq}
use Rattle.table_list.proofs.Zips.{compared}
use Rattle.table_list.proofs.search.is_masked.Given as goal

abbrev pub invariant-loop-i : goal.invariant-loop-i
invariant-loop-i l = compared nat_eq (λ p. bit_and p.0 p.1) (drop l.i l.mask) (drop l.i l.bytes) (drop l.i l.own) ≡ compared nat_eq (λ p. bit_and p.0 p.1) l.mask l.bytes l.own
