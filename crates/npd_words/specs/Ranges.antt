-- The ranges of a plan's numbers.
use Rattle.std.specs.Prelude.{◌≤◌}
use Rattle.npd_words.specs.declared.plan.Plan.{Plan}
use Rattle.npd_words.specs.declared.plan.Plan.TheVariants as plan

-- the numbers of a plan are in the ranges of their options
abbrev pub IsInRange : Plan → Type 0
IsInRange (plan.Decode db cap pdml psml trace report workers window max) = (workers ≤ 64) × (1 ≤ window) × (window ≤ 256) × (1 ≤ max)
IsInRange (plan.Check db) = Unit {0}
IsInRange (plan.Gen seed packets workers window) = (1 ≤ packets) × (packets ≤ 100000) × (workers ≤ 64) × (1 ≤ window) × (window ≤ 256)
