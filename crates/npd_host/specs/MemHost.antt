-- What a `MemHost` is seen as, and the words of its calls.
use Rattle.std.specs.Prelude.{◌≡◌, ◌<◌, ◌^◌, ℕ, Bool, true, false, ◌&&◌, if◌then◌else◌, nat_lt, List, [], ◌∷◌, ◌++◌, length, map, slice_get, Option, Some, None, IfSome, Result, Ok, Err, refl}
use Rattle.std.specs.List.{Contains, count_by}
use Rattle.std.specs.Option.{option_map, option_and_then}
use Rattle.std.specs.Str.{bytes_eq}
use Rattle.std.proofs.lemmas.Bool.{ltb-true}
use Rattle.npd_host.specs.Host.{Inputs, Outputs}
use Rattle.npd_host.specs.Named.{Named, bytes_of}
use Rattle.npd_host.specs.Counts.{count_at, raised}
use Rattle.npd_host.specs.declared.counts.Counts.{Counts}
use Rattle.npd_host.specs.declared.memory.calls.PlannedCall.{PlannedCall}
use Rattle.npd_host.specs.declared.memory.calls.FailedCall.{FailedCall}
use Rattle.npd_host.specs.declared.host.CallKind.{CallKind}
use Rattle.npd_host.specs.declared.host.CallKind.TheVariants.{OpenIn, Read, OpenOut, Write}
use Rattle.npd_host.specs.declared.host.HostFail.{HostFail}
use Rattle.npd_host.specs.declared.host.HostFail.TheVariants.{Failed, NoMemory}

-- a `MemHost`: how many bytes a read gives at most, its files, its inputs and its outputs by id,
-- the calls that are to fail, how many calls of each kind were made, and the calls that failed
pub record HostState : Type 0 where
  pub chunk : ℕ
  pub files : List Named
  pub inputs : List Named
  pub outputs : List Named
  pub planned : List PlannedCall
  pub calls : Counts
  pub failed : List FailedCall

-- a `MemHost` without files, whose reads give at most this many bytes
abbrev pub new_host : ℕ → HostState
new_host chunk = record {
  chunk = chunk;
  files = [];
  inputs = [];
  outputs = [];
  planned = [];
  calls = record { open_in = 0; read = 0; open_out = 0; write = 0 };
  failed = [];
}

-- what a host tells of what an input holds: fewer than 2^64 bytes, as no input of a `MemHost` has more
abbrev pub told : List ℕ → Option (List ℕ)
told bytes = if nat_lt (length bytes) (2 ^ 64) then Some bytes else None

-- what is told has fewer than 2^64 bytes
pub told-bounded : (bytes : List ℕ) → IfSome (told bytes) (λ some. length some < 2 ^ 64)
told-bounded bytes = by_test (nat_lt (length bytes) (2 ^ 64)) refl
  where
    by_test : (test : Bool) → nat_lt (length bytes) (2 ^ 64) ≡ test → IfSome (if test then Some bytes else None) (λ some. length some < 2 ^ 64)
    by_test true is = ltb-true (length bytes) (2 ^ 64) is
    by_test false is = tt

-- inputs by their place in a list
abbrev pub inputs_at : List Named → Inputs
inputs_at xs = record {
  opened = map (λ x. x.name) xs;
  name = λ id. option_map (λ x. x.name) (slice_get xs id);
  held = λ id. option_and_then (λ x. told x.bytes) (slice_get xs id);
}

pub inputs_at-bounded : (xs : List Named) (id : ℕ) → IfSome ((inputs_at xs).held id) (λ bytes. length bytes < 2 ^ 64)
inputs_at-bounded xs id = by_place (slice_get xs id)
  where
    by_place : (place : Option Named) → IfSome (option_and_then (λ x. told x.bytes) place) (λ bytes. length bytes < 2 ^ 64)
    by_place None = tt
    by_place (Some x) = told-bounded x.bytes

-- outputs by their place in a list
abbrev pub outputs_at : List Named → Outputs
outputs_at xs = record {
  opened = map (λ x. x.name) xs;
  name = λ id. option_map (λ x. x.name) (slice_get xs id);
  taken = λ id. option_map (λ x. x.bytes) (slice_get xs id);
}

-- whether two kinds are the same
abbrev pub same_kind : CallKind → CallKind → Bool
same_kind OpenIn OpenIn = true
same_kind Read Read = true
same_kind OpenOut OpenOut = true
same_kind Write Write = true
same_kind _ _ = false

-- how many failed calls are of a kind and on a name
abbrev pub faults_in : List FailedCall → CallKind → List ℕ → ℕ
faults_in failed kind name = count_by (λ call. same_kind call.kind kind && bytes_eq call.name name) failed

-- the inputs of a `MemHost`
abbrev pub host_inputs : HostState → Inputs
host_inputs host = inputs_at host.inputs

-- its outputs
abbrev pub host_outputs : HostState → Outputs
host_outputs host = outputs_at host.outputs

-- the bytes of its files by name
abbrev pub host_files : HostState → List ℕ → Option (List ℕ)
host_files host = bytes_of host.files

-- its counts of faults
abbrev pub host_faults : HostState → CallKind → List ℕ → ℕ
host_faults host = faults_in host.failed

-- a call of this kind is planned to fail under this number
abbrev pub IsPlanned : CallKind → ℕ → List PlannedCall → Type 0
IsPlanned kind nth planned = Contains planned (record { kind = kind; nth = nth })

-- the next call of this kind is planned to fail
abbrev pub IsDue : CallKind → HostState → Type 0
IsDue kind host = IsPlanned kind (count_at kind host.calls) host.planned

-- the failed calls after this one was refused so
abbrev pub failed_with : HostFail → FailedCall → List FailedCall → List FailedCall
failed_with Failed call failed = failed ++ call ∷ []
failed_with NoMemory call failed = failed

-- the failed calls after one of this kind on this name had this answer
abbrev pub failed_after : {T : Type 0} → Result T HostFail → CallKind → Option (List ℕ) → List FailedCall → List FailedCall
failed_after (Ok _) kind name failed = failed
failed_after (Err why) kind None failed = failed
failed_after (Err why) kind (Some name) failed = failed_with why (record { kind = kind; name = name }) failed

-- the host after a call of this kind on this name had this answer, but for what the call moved:
-- the call is counted, and it is noted where it failed
abbrev pub after_call : {T : Type 0} → CallKind → Option (List ℕ) → Result T HostFail → HostState → HostState
after_call kind name result host = record host {
  calls = raised kind host.calls;
  failed = failed_after result kind name host.failed;
}

-- no output has this name
abbrev pub NoneNamed : Outputs → List ℕ → Type 0
NoneNamed outputs name = (id : ℕ) → outputs.name id ≡ Some name → ⊥

-- the output of this name that was opened last, the one with the greatest id, has taken these bytes
pub record LastNamed (outputs : Outputs) (name bytes : List ℕ) : Type 0 where
  pub id : ℕ
  pub named : outputs.name id ≡ Some name
  pub taken : outputs.taken id ≡ Some bytes
  pub last : (later : ℕ) → id < later → outputs.name later ≡ Some name → ⊥
