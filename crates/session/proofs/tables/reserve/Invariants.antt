use Rattle.std.proofs.Common.{◌≡◌, ℕ, ◌≤◌, length}
use Rattle.std.specs.List.{All, AllWithin}
use Rattle.session.specs.Tables.{contents, declarations}
use Rattle.session.proofs.tables.reserve.Given as goal

abbrev pub invariant-loop-place : goal.invariant-loop-place
invariant-loop-place l = record {
  declarations : declarations l.tables.items ≡ declarations l.fn.tables.items;
  contents : contents l.tables.items ≡ contents l.fn.tables.items;
  len : length l.tables.items ≡ length l.fn.tables.items;
  room : AllWithin (λ t. l.n ≤ t.spare) l.tables.items 0 l.place;
  kept : (k : ℕ) → All (λ t. k ≤ t.spare) l.fn.tables.items → All (λ t. k ≤ t.spare) l.tables.items;
}
