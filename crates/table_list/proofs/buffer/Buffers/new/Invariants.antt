use Rattle.std.proofs.Common.{◌≡◌, ◌≤◌, length}
use Rattle.std.specs.List.{All}
use Rattle.table_list.proofs.buffer.Buffers.new.Given as goal

abbrev pub invariant-loop-place : goal.invariant-loop-place
invariant-loop-place l = record { wide : All (λ n. l.fn.space.width ≤ n) l.list.items; count : length l.list.items ≡ l._place }
