-- Runs of bytes that stand in one list, each from its start to the next one's.
use Rattle.std.specs.Prelude.{ℕ, ◌≤◌, List, [], ◌∷◌, take, drop}

-- the runs, the last one first, of which these are the starts, the last one first
abbrev pub runs : List ℕ → List ℕ → List (List ℕ)
runs [] bytes = []
runs (start ∷ starts) bytes = drop start bytes ∷ runs starts (take start bytes)

-- no start is behind the next one, and the last one not behind n
abbrev pub AreWithin : List ℕ → ℕ → Type 0
AreWithin [] n = Unit {0}
AreWithin (start ∷ starts) n = (start ≤ n) × AreWithin starts start
