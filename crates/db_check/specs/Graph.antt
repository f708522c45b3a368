-- The blocks of a protocol by their numbers, each with those that it includes, and a search from one of them.
use Rattle.std.specs.Prelude.{◌≡◌, ◌⊎◌, ℕ, zero, suc, Bool, true, false, not, ◌&&◌, nat_lt, length, if◌then◌else◌, List, [], ◌∷◌, ◌++◌, map, slice_get, slice_set, Option, Some, None}
use Rattle.db_cause.specs.declared.cause.Cause.TheVariants as cause
use Rattle.db_cause.specs.Codes.{code}
use Rattle.db_model.specs.declared.database.NamedBlock.{NamedBlock}
use Rattle.db_model.specs.declared.database.Protocol.{Protocol}
use Rattle.db_model.specs.declared.element.Branch.{Branch}
use Rattle.db_model.specs.declared.element.Case.{Case}
use Rattle.db_model.specs.declared.fault.Fault.{Fault}
use Rattle.db_model.specs.BlockFaults.{includes_in}
use Rattle.db_model.specs.LeastFault.{comes_first}
use Rattle.db_model.specs.Lines.{Lines, at_line}
use Rattle.db_model.specs.NameFaults.{block_names}
use Rattle.db_model.specs.Names.{Text, place}
use Rattle.db_model.specs.Numbering.{blocks_in, all_names}
use Rattle.db_check.specs.declared.search.Search.{Search}

-- the numbers of names; a name that isn't declared has none of a block
abbrev pub numbers : List Text → List Text → List ℕ
numbers blocks names = map (λ (n : Text). place n blocks) names

abbrev pub includes_of_cases : List Case → List Text
includes_of_cases cases = all_names (map (λ (c : Case). includes_in c.body) cases)

abbrev pub includes_of_other : Option Branch → List Text
includes_of_other None = []
includes_of_other (Some b) = includes_in b.body

abbrev pub Graph : Type 0
Graph = List (List ℕ)

abbrev pub graph_of : Protocol → Graph
graph_of p = map (λ (b : NamedBlock). numbers (block_names p) (includes_in b.body)) (blocks_in p.format)

abbrev pub targets : Option (List ℕ) → List ℕ
targets None = []
targets (Some ts) = ts

-- those that one includes
abbrev pub edges : Graph → ℕ → List ℕ
edges g a = targets (slice_get g a)

abbrev pub IsOneOf : ℕ → List ℕ → Type 0
IsOneOf t [] = ⊥
IsOneOf t (x ∷ xs) = (t ≡ x) ⊎ IsOneOf t xs

-- one leads to another, at once or through others
pub data Leads (g : Graph) : ℕ → ℕ → Type 0 where
  Once : (a b : ℕ) → IsOneOf b (edges g a) → Leads g a b
  Then : (a b c : ℕ) → IsOneOf b (edges g a) → Leads g b c → Leads g a c

-- ---- the search: what is marked is reached, and waits in the queue for its turn

abbrev pub is_open : Option Bool → Bool
is_open None = false
is_open (Some marked) = not marked

unfoldable pub mark : ℕ → Search → Search
mark t s = if is_open (slice_get s.marks t) then record { marks = slice_set s.marks t true; queue = s.queue ++ t ∷ [] } else s

unfoldable pub visit : List ℕ → Search → Search
visit [] s = s
visit (t ∷ ts) s = visit ts (mark t s)

abbrev pub targets_at : Graph → Option ℕ → List ℕ
targets_at g None = []
targets_at g (Some a) = edges g a

-- so many turns, from a place of the queue on
unfoldable pub go : Graph → ℕ → ℕ → Search → Search
go g zero h s = s
go g (suc n) h s = go g n (suc h) (visit (targets_at g (slice_get s.queue h)) s)

abbrev pub is_marked : Option Bool → Bool
is_marked None = false
is_marked (Some marked) = marked

unfoldable pub unmarked : Graph → Search
unmarked g = record { marks = map (λ (ts : List ℕ). false) g; queue = [] }

-- whether one leads back to itself
unfoldable pub leads_back : Graph → ℕ → ℕ → Bool
leads_back g turns a = is_marked (slice_get (go g turns 0 (visit (edges g a) (unmarked g))).marks a)

-- the first blocks of their names, from a number on, that lead back to themselves
abbrev pub leads_here : Graph → List Text → ℕ → Text → Bool
leads_here g names i name = not (nat_lt (place name names) i) && leads_back g (length g) i

abbrev pub cycles_from : Graph → List Text → ℕ → List NamedBlock → Lines
cycles_from g names i [] = []
cycles_from g names i (b ∷ bs) = at_line b.line (leads_here g names i b.name) ++ cycles_from g names (suc i) bs

-- what was found comes before a fault at a line
abbrev pub comes_before : Option Fault → ℕ → Bool
comes_before None line = false
comes_before (Some f) line = comes_first f (record { line = line; code = code cause.IncludesItself })
