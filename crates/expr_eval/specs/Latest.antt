-- Which of two places comes later.
use Rattle.std.specs.Prelude.{ℕ, max, Option, Some, None}

-- the later one of two places, where there are two
abbrev pub later : Option ℕ → Option ℕ → Option ℕ
later None b = b
later (Some a) None = Some a
later (Some a) (Some b) = Some (max a b)
