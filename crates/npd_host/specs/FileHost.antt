-- What a `FileHost` is seen as: names and counts, and nothing of content.
use Rattle.std.specs.Prelude.{ℕ, Bool, List, Option, Some, None, IsSome, slice_get}
use Rattle.std.specs.List.{All, find}
use Rattle.std.specs.Str.{bytes_eq}
use Rattle.npd_host.specs.Host.{Inputs, Outputs}
use Rattle.npd_host.specs.Counts.{count_at}
use Rattle.npd_host.specs.declared.files.faults.NameFaults.{NameFaults}
use Rattle.npd_host.specs.declared.host.CallKind.{CallKind}

-- a `FileHost`: the names of its inputs and of its outputs by id, and for each name its faults of each kind
pub record FileState : Type 0 where
  pub inputs : List (List ℕ)
  pub outputs : List (List ℕ)
  pub faults : List NameFaults

-- inputs of these names, of which nothing else is told
abbrev pub untold_inputs : List (List ℕ) → Inputs
untold_inputs names = record { opened = names; name = λ id. slice_get names id; held = λ id. None }

-- outputs of these names, of which nothing else is told
abbrev pub untold_outputs : List (List ℕ) → Outputs
untold_outputs names = record { opened = names; name = λ id. slice_get names id; taken = λ id. None }

-- whether the counts are those of this name
abbrev pub is_of : List ℕ → NameFaults → Bool
is_of name faults = bytes_eq faults.name name

-- the count of a kind, where there is one
abbrev pub count_of : CallKind → Option NameFaults → ℕ
count_of kind None = 0
count_of kind (Some faults) = count_at kind faults.counts

-- how often each kind of call has failed on each name: the counts of a name are the first that are its own
abbrev pub faults_of : List NameFaults → CallKind → List ℕ → ℕ
faults_of faults kind name = count_of kind (find (is_of name) faults)

-- a name has counts
abbrev pub HasCounts : List NameFaults → List ℕ → Type 0
HasCounts faults name = IsSome (find (is_of name) faults)

-- each of these names has counts
abbrev pub AllHaveCounts : List NameFaults → List (List ℕ) → Type 0
AllHaveCounts faults names = All (HasCounts faults) names
