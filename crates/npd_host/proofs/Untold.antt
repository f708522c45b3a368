-- What a host of files tells after a call.
use Rattle.std.proofs.Common.{◌≡◌, ◌≤◌, ℕ, List, [], ◌∷◌, ◌++◌, length, take, drop, None, refl, arith, slice_index_or}
use Rattle.std.proofs.lemmas.Grind.{common_steps}
use Rattle.std.proofs.lemmas.List.Elements.{All-push}
use Rattle.std.proofs.lemmas.Option.{slice_get_past}
use Rattle.npd_host.specs.Host.{OpensInput, OpensOutput, Took}
use Rattle.npd_host.specs.FileHost.{untold_inputs, untold_outputs, HasCounts, AllHaveCounts}
use Rattle.npd_host.specs.declared.files.faults.NameFaults.{NameFaults}
use Rattle.npd_host.proofs.Places.{slice_get-push_end, slice_get-push_other}

pub Took-untold : (id : ℕ) (old new : List (List ℕ)) (bytes : List ℕ) → new ≡ old → Took id (untold_outputs old) (untold_outputs new) bytes
Took-untold id old new bytes e = rw e (record { opened = refl; names = refl; taken = refl; others = λ other apart. refl })

pub OpensInput-untold : (names : List (List ℕ)) (name : List ℕ) → OpensInput (untold_inputs names) (untold_inputs (names ++ name ∷ [])) (length names) name None
OpensInput-untold names name = record {
  opened = refl;
  fresh = slice_get_past names (length names) (omega arith);
  named = slice_get-push_end names name;
  holds = refl;
  names = λ other apart. slice_get-push_other names name other apart;
  others = λ other apart. refl;
}

pub OpensOutput-untold : (names : List (List ℕ)) (name : List ℕ) → OpensOutput (untold_outputs names) (untold_outputs (names ++ name ∷ [])) (length names) name
OpensOutput-untold names name = record {
  opened = refl;
  fresh = slice_get_past names (length names) (omega arith);
  named = slice_get-push_end names name;
  empty = tt;
  names = λ other apart. slice_get-push_other names name other apart;
  others = λ other apart. refl;
}

-- a list that a call gave back as it was
pub written-back : (len : ℕ) (items new now : List (List ℕ)) → length items ≡ len → new ≡ items → items ≡ now → take len (new ++ drop (length new) items) ≡ now
written-back len items new now h e f = rw (e, ← f, ← h) (grind (arith, common_steps))

-- names keep their counts where every name does
pub counts-kept : (old new : List NameFaults) (names : List (List ℕ)) → ((other : List ℕ) → HasCounts old other → HasCounts new other) → AllHaveCounts old names → AllHaveCounts new names
counts-kept old new names kept all = λ k d within. kept (slice_index_or names k d) (all k d within)

-- one name more that has counts
pub counts-push : (faults : List NameFaults) (names : List (List ℕ)) (name : List ℕ) → AllHaveCounts faults names → HasCounts faults name → AllHaveCounts faults (names ++ name ∷ [])
counts-push faults names name all has = All-push (HasCounts faults) names name all has
