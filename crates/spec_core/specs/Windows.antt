-- How the windows of a run join.
use Rattle.std.specs.Prelude.{◌≡◌, ◌+◌, ◌++◌, length}
use Rattle.spec_core.specs.Machine.{Run, state_at}

-- the second begins with the state and the number that the first leaves
pub record Follows (r next : Run) : Type 0 where
  pub db : next.db ≡ r.db
  pub wanted : next.wanted ≡ r.wanted
  pub base : next.base ≡ state_at r (length r.packets)
  pub first : next.first ≡ r.first + length r.packets

-- both as one
abbrev pub joined : Run → Run → Run
joined r next = record r { packets = r.packets ++ next.packets }
