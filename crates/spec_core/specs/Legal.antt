-- Which receipts are legal for packets that are decoded by a database from a session on.
use Rattle.std.specs.Prelude.{◌≡◌, ℕ, ◌<◌, ◌≤◌, List, length, slice_get, Some}
use Rattle.engine.specs.declared.receipt.Receipt.{Receipt}
use Rattle.engine.specs.declared.receipt.Taken.{Taken}
use Rattle.spec_core.specs.Machine.{Run, IsLegal}

-- one receipt for each packet, in order, each legal at its place; among the packets that were taken v and c never fall
pub record AreLegal (r : Run) (receipts : List Receipt) : Type 0 where
  pub all : length receipts ≡ length r.packets
  pub each : (i : ℕ) (q : Receipt) → slice_get receipts i ≡ Some q → IsLegal r i q
  pub v_rises : (i j : ℕ) (p q : Receipt) (t u : Taken) → i < j → slice_get receipts i ≡ Some p → slice_get receipts j ≡ Some q → p.taken ≡ Some t → q.taken ≡ Some u → t.v ≤ u.v
  pub c_rises : (i j : ℕ) (p q : Receipt) (t u : Taken) → i < j → slice_get receipts i ≡ Some p → slice_get receipts j ≡ Some q → p.taken ≡ Some t → q.taken ≡ Some u → t.c ≤ u.c
