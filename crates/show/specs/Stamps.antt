-- How a moment is written.
use Rattle.std.specs.Prelude.{ℕ, ◌+◌, ◌/◌, ◌%◌, List, ◌++◌, drop, codes, decimal}

-- the seconds, a point, and the nanoseconds in nine digits: those of 10^9 more, without the 1
unfoldable pub timestamp : ℕ → List ℕ
timestamp stamp = decimal (stamp / 1000000000) ++ (codes "." ++ drop 1 (decimal (1000000000 + stamp % 1000000000)))
