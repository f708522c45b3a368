-- A topological order of a graph: turns of its numbers, the greater the earlier, and 0 for a number that has none.
use Rattle.std.specs.Prelude.{ℕ, suc, ◌<◌, max, nat_lt, Bool, true, ◌&&◌, List, [], ◌∷◌, slice_get, unwrap_or}
use Rattle.db_check.specs.declared.order.Ordered.{Ordered}
use Rattle.db_check.specs.Graph.{Graph, edges, IsOneOf}

abbrev pub turn_of : List ℕ → ℕ → ℕ
turn_of turns a = unwrap_or (slice_get turns a) 0

-- one that has a turn comes behind all that lead to it, which have one too
abbrev pub IsOrder : Graph → List ℕ → Type 0
IsOrder g turns = (a b : ℕ) → IsOneOf b (edges g a) → turn_of turns b < max (turn_of turns a) 1

abbrev pub IsOrdered : Ordered → Type 0
IsOrdered o = IsOrder o.graph.now o.turns.now

-- the same as a test
abbrev pub are_later : List ℕ → ℕ → List ℕ → Bool
are_later turns turn [] = true
are_later turns turn (t ∷ ts) = nat_lt (turn_of turns t) (max turn 1) && are_later turns turn ts

-- from a number on
abbrev pub is_order : List ℕ → ℕ → Graph → Bool
is_order turns i [] = true
is_order turns i (ts ∷ g) = are_later turns (turn_of turns i) ts && is_order turns (suc i) g
