-- What emitting says of what it wrote: the operations of elements and of their parts, as the code has them.
use Rattle.std.specs.Prelude.{◌≡◌, ℕ, ◌+◌, ◌-◌, ◌<◌, List, [], ◌∷◌, ◌++◌, length, slice_set, Option, Some, None}
use Rattle.db_model.specs.declared.database.Database.{Database}
use Rattle.db_model.specs.declared.element.Branch.{Branch}
use Rattle.db_model.specs.declared.element.Case.{Case}
use Rattle.db_model.specs.declared.field_kind.CaseRange.{CaseRange}
use Rattle.db_model.specs.Numbering.{Counts, none, plus, counts_in}
use Rattle.expr_code.specs.declared.code.ExprCode.{ExprCode}
use Rattle.pdl_code.specs.declared.code.Op.TheVariants.{End, Jump, Test, Switch}
use Rattle.pdl_code.specs.declared.place.Place.{Place}
use Rattle.pdl_code.specs.declared.written.Bodies.{Bodies}
use Rattle.pdl_code.specs.Coding.{Ops, begins, codes_in}

abbrev pub counts : Place → Counts
counts p = record { fields = p.fields; blocks = p.blocks }

-- operations of so many fields and blocks stand behind those that were there
pub record Wrote (has : Counts) (code : Counts → Ops) (before after : Ops) (at to : Place) : Type 0 where
  pub place : counts to ≡ plus (counts at) has
  pub ops : after ≡ before ++ code (counts at)

-- ---- the parts of a switch and of a condition

abbrev pub case_range : Case → CaseRange
case_range c = record { low = c.value; high = c.maxvalue }

abbrev pub counts_in_cases : List Case → Counts
counts_in_cases [] = none
counts_in_cases (c ∷ cs) = plus (counts_in c.body) (counts_in_cases cs)

abbrev pub counts_in_other : Option Branch → Counts
counts_in_other None = none
counts_in_other (Some b) = counts_in b.body

module _ (db : Database) (q : ℕ) where
  abbrev pub codes_in_cases : List Case → Counts → List Ops
  codes_in_cases [] at = []
  codes_in_cases (c ∷ cs) at = codes_in db q c.body at ∷ codes_in_cases cs (plus at (counts_in c.body))

  abbrev pub codes_in_other : Option Branch → Counts → Ops
  codes_in_other None at = []
  codes_in_other (Some b) at = codes_in db q b.body at

-- ---- cases whose jumps are not written yet

abbrev pub open_bodies : List Ops → Ops
open_bodies [] = []
open_bodies (b ∷ bs) = b ++ End ∷ open_bodies bs

-- the places of the jumps
abbrev pub ends : ℕ → List Ops → List ℕ
ends from [] = []
ends from (b ∷ bs) = (from + length b) ∷ ends (from + length b + 1) bs

-- jumps to the end are written at these places
abbrev pub jumps_to : ℕ → List ℕ → Ops → Ops
jumps_to end [] ops = ops
jumps_to end (p ∷ ps) ops = jumps_to end ps (slice_set ops p (Jump (end - p - 1)))

abbrev pub AllBelow : ℕ → List ℕ → Type 0
AllBelow n [] = Unit {0}
AllBelow n (p ∷ ps) = (p < n) × AllBelow n ps

-- ---- what is written over room that was left

-- a test, and the jump to the end that stands before what is done otherwise
abbrev pub test_at : ℕ → ℕ → ExprCode → Ops → Ops
test_at start middle e ops =
    slice_set (slice_set ops start (Test e (middle - start))) middle (Jump (length ops - middle - 1))

-- a switch, and the jumps to the end that stand behind the bodies of its cases
abbrev pub switch_at : ℕ → ℕ → ExprCode → List CaseRange → Bodies → Ops → Ops
switch_at start middle e ranges b ops =
    slice_set (jumps_to (length ops) b.ends ops) start
    (Switch e (record { ranges = ranges; targets = b.begins; otherwise = middle - start - 1 }))

-- ---- what was written of cases

-- the bodies stand behind those operations that were there, with where each begins and ends
pub record WroteBodies (has : Counts) (cases : List Ops) (before after : Ops) (at : Place) (b : Bodies) : Type 0 where
  pub place : counts b.to ≡ plus (counts at) has
  pub ops : after ≡ before ++ open_bodies cases
  pub begin : b.begins ≡ begins 0 cases
  pub end : b.ends ≡ ends (length before) cases
