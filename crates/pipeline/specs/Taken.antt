-- What open outputs take of the texts of their roles, and how they are opened.
use Rattle.std.specs.Prelude.{◌≡◌, ◌<◌, ℕ, Bool, true, false, List, [], ◌++◌, length, Option, Some, None, Result, Ok, Err, IfSome, IsSome, IsSomeAnd}
use Rattle.std.specs.Io.KnownBytes.{append_known}
use Rattle.engine.specs.declared.texts.Wanted.{Wanted}
use Rattle.npd_host.specs.declared.host.OutId.{OutId}
use Rattle.npd_host.specs.Host.{Inputs, Outputs, Gave, OpensOutput}
use Rattle.pipeline.specs.declared.sinks.OutputFiles.{OutputFiles}
use Rattle.pipeline.specs.declared.sinks.Sinks.{Sinks}
use Rattle.pipeline.specs.declared.status.Role.{Role}
use Rattle.pipeline.specs.declared.status.Role.TheVariants.{Pdml, Psml, Trace}
use Rattle.pipeline.specs.declared.status.Status.{Status}
use Rattle.pipeline.specs.declared.status.Status.TheVariants.{Open, Write, NoMemory}
use Rattle.pipeline.specs.Outputs.{no_texts}
use Rattle.pipeline.specs.Written.{sink_of, IsNoSink, BegunEach, WroteEach, before_role, output_of}

-- each output took the text of its role at its end, and nothing else changed
pub record TookEach (sinks : Sinks) (old new : Outputs) (text : Role → List ℕ) : Type 0 where
  pub opened : new.opened ≡ old.opened
  pub names : new.name ≡ old.name
  pub taken : (role : Role) → IfSome (sink_of sinks role) (λ sink. new.taken sink.0 ≡ append_known (old.taken sink.0) (text role))
  pub others : (id : ℕ) → IsNoSink sinks id → new.taken id ≡ old.taken id

-- each took a front of it
pub record TookFronts (sinks : Sinks) (old new : Outputs) (text : Role → List ℕ) : Type 0 where
  pub front : Role → List ℕ
  pub back : Role → List ℕ
  pub parts : (role : Role) → IfSome (sink_of sinks role) (λ sink. text role ≡ front role ++ back role)
  pub took : TookEach sinks old new front

-- and the output of this role, which is one of them, a proper front
pub record TookParts (role : Role) (sinks : Sinks) (old new : Outputs) (text : Role → List ℕ) : Type 0 where
  pub fronts : TookFronts sinks old new text
  pub proper : IsSomeAnd (sink_of sinks role) (λ sink. 0 < length (fronts.back role))

-- what they took, where the writing gave up with this status
abbrev pub FailsTexts : Status → Sinks → Outputs → Outputs → (Role → List ℕ) → Type 0
FailsTexts (Write role) sinks old new text = TookParts role sinks old new text
FailsTexts NoMemory sinks old new text = TookFronts sinks old new text
FailsTexts other sinks old new text = ⊥

-- what they took, by how the writing ended
abbrev pub TakesTexts : {A : Type 0} → Result A Status → Sinks → Outputs → Outputs → (Role → List ℕ) → Type 0
TakesTexts (Ok done) sinks old new text = TookEach sinks old new text
TakesTexts (Err status) sinks old new text = FailsTexts status sinks old new text

-- the text of one role alone
abbrev pub only : Role → (Role → List ℕ) → Role → List ℕ
only Pdml text Pdml = text Pdml
only Psml text Psml = text Psml
only Trace text Trace = text Trace
only role text other = []

-- a host gave each of these ids
abbrev pub AreGiven : Sinks → (ℕ → Option (List ℕ)) → Type 0
AreGiven sinks name = (role : Role) → IfSome (sink_of sinks role) (λ sink. IsSome (name sink.0))

-- the name of the output of an id
abbrev pub name_of_sink : Option OutId → (ℕ → Option (List ℕ)) → Option (List ℕ)
name_of_sink None name = None
name_of_sink (Some sink) name = name sink.0

-- the name of the output of a role
abbrev pub sink_name : Sinks → (ℕ → Option (List ℕ)) → Role → Option (List ℕ)
sink_name sinks name role = name_of_sink (sink_of sinks role) name

-- an open input gave some bytes, and nothing else changed
pub record GaveSome (id : ℕ) (old new : Inputs) : Type 0 where
  pub bytes : List ℕ
  pub gave : Gave id old new bytes

-- ---- the texts

-- a piece for each output, by its role
abbrev pub pieces : List ℕ → List ℕ → List ℕ → Role → List ℕ
pieces pdml psml trace Pdml = pdml
pieces pdml psml trace Psml = psml
pieces pdml psml trace Trace = trace
pieces pdml psml trace other = []

-- which texts of packets are wanted: those of the outputs that are there
abbrev pub is_there : Option OutId → Bool
is_there None = false
is_there (Some sink) = true

abbrev pub wanted_of : Sinks → Wanted
wanted_of sinks = record { pdml = is_there sinks.pdml; psml = is_there sinks.psml }

-- ---- the opening

-- an output was opened where one is named
abbrev pub OpensNamed : Result (Option OutId) Status → Role → Option (List ℕ) → Outputs → Outputs → Type 0
OpensNamed (Ok None) role name old new = (name ≡ None) × (new ≡ old)
OpensNamed (Ok (Some sink)) role name old new = (given : List ℕ) × (name ≡ Some given) × OpensOutput old new sink.0 given
OpensNamed (Err (Open which)) role name old new = (which ≡ role) × IsSome name × (new ≡ old)
OpensNamed (Err NoMemory) role name old new = new ≡ old
OpensNamed (Err other) role name old new = ⊥

-- the outputs were opened in order, up to the one that gave up
abbrev pub OpensOutputs : Result Sinks Status → OutputFiles → Outputs → Outputs → Type 0
OpensOutputs (Ok sinks) files old new = BegunEach sinks files old new no_texts
OpensOutputs (Err (Open role)) files old new = IsSome (output_of files role) × WroteEach (before_role role files) old new no_texts
OpensOutputs (Err NoMemory) files old new = (next : Role) × WroteEach (before_role next files) old new no_texts
OpensOutputs (Err other) files old new = ⊥
