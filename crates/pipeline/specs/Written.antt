-- What a run has written to its outputs, and that every other output is left.
use Rattle.std.specs.Prelude.{◌≡◌, ◌<◌, ℕ, List, [], ◌∷◌, ◌++◌, length, Option, Some, None, IfSome, IsSomeAnd}
use Rattle.npd_host.specs.declared.host.OutId.{OutId}
use Rattle.npd_host.specs.Host.{Outputs}
use Rattle.pipeline.specs.declared.sinks.OutputFiles.{OutputFiles}
use Rattle.pipeline.specs.declared.sinks.Sinks.{Sinks}
use Rattle.pipeline.specs.declared.status.Role.{Role}
use Rattle.pipeline.specs.declared.status.Role.TheVariants.{Pdml, Psml, Trace}

-- the file of an output's role, where one is named
abbrev pub output_of : OutputFiles → Role → Option (List ℕ)
output_of files Pdml = files.pdml
output_of files Psml = files.psml
output_of files Trace = files.trace
output_of files other = None

-- ---- the open outputs, by the ids that a host gave them

-- the id of the output of a role, where there is one
abbrev pub sink_of : Sinks → Role → Option OutId
sink_of sinks Pdml = sinks.pdml
sink_of sinks Psml = sinks.psml
sink_of sinks Trace = sinks.trace
sink_of sinks other = None

-- this id is that of none of them
abbrev pub IsNoSink : Sinks → ℕ → Type 0
IsNoSink sinks id = (role : Role) → IfSome (sink_of sinks role) (λ sink. id ≡ sink.0 → ⊥)

-- two roles have two ids
abbrev pub AreApart : Sinks → Type 0
AreApart sinks = (a b : Role) → (a ≡ b → ⊥) → IfSome (sink_of sinks a) (λ x. IfSome (sink_of sinks b) (λ y. y.0 ≡ x.0 → ⊥))

-- an output was begun under this name, and has taken this text
pub record IsBegun (old new : Outputs) (id : ℕ) (name text : List ℕ) : Type 0 where
  pub fresh : old.name id ≡ None
  pub named : new.name id ≡ Some name
  pub taken : IfSome (new.taken id) (λ bytes. bytes ≡ text)

-- so it is where it is named; and else there is none
abbrev pub Begins : Option OutId → Option (List ℕ) → List ℕ → Outputs → Outputs → Type 0
Begins (Some sink) (Some name) text old new = IsBegun old new sink.0 name text
Begins (Some sink) None text old new = ⊥
Begins None (Some name) text old new = ⊥
Begins None None text old new = Unit {0}

-- a name, where there is one, as a list
abbrev pub listed : Option (List ℕ) → List (List ℕ)
listed None = []
listed (Some name) = name ∷ []

-- the names of outputs, in the order in which they are opened
abbrev pub names_of : OutputFiles → List (List ℕ)
names_of files = listed files.pdml ++ (listed files.psml ++ listed files.trace)

-- the outputs of these names were begun in order under these ids, and each has taken the text of its role; every other
-- output is as before
pub record BegunEach (sinks : Sinks) (files : OutputFiles) (old new : Outputs) (text : Role → List ℕ) : Type 0 where
  pub opened : new.opened ≡ old.opened ++ names_of files
  pub begun : (role : Role) → Begins (sink_of sinks role) (output_of files role) (text role) old new
  pub apart : AreApart sinks
  pub others : (id : ℕ) → IsNoSink sinks id → (new.name id ≡ old.name id) × (new.taken id ≡ old.taken id)

-- the same under some ids
abbrev pub WroteEach : OutputFiles → Outputs → Outputs → (Role → List ℕ) → Type 0
WroteEach files old new text = (sinks : Sinks) × BegunEach sinks files old new text

-- each has taken a front of the text of its role
pub record WroteFronts (files : OutputFiles) (old new : Outputs) (text : Role → List ℕ) : Type 0 where
  pub front : Role → List ℕ
  pub back : Role → List ℕ
  pub parts : (role : Role) → IfSome (output_of files role) (λ name. text role ≡ front role ++ back role)
  pub wrote : WroteEach files old new front

-- and the output of this role, which is one of them, a proper front
pub record WrotePart (role : Role) (files : OutputFiles) (old new : Outputs) (text : Role → List ℕ) : Type 0 where
  pub fronts : WroteFronts files old new text
  pub proper : IsSomeAnd (output_of files role) (λ name. 0 < length (fronts.back role))

-- the outputs that are opened before that of a role: all, where it is none of theirs
abbrev pub before_role : Role → OutputFiles → OutputFiles
before_role Pdml files = record { pdml = None; psml = None; trace = None }
before_role Psml files = record { pdml = files.pdml; psml = None; trace = None }
before_role Trace files = record { pdml = files.pdml; psml = files.psml; trace = None }
before_role other files = files
