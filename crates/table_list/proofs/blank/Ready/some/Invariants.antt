use Rattle.std.proofs.Common.{◌≡◌, length}
use Rattle.std.specs.List.{All}
use Rattle.table_list.specs.Ready.{ready}
use Rattle.table_list.proofs.blank.Ready.some.Given as goal

abbrev pub invariant-loop-place : goal.invariant-loop-place
invariant-loop-place l = record { ready : All (λ r. r ≡ ready l.keys l.row) l.some.items; count : length l.some.items ≡ l._place }
