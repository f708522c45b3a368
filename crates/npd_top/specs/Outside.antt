-- What a run sees of a host, and which files it opens.
use Rattle.std.specs.Prelude.{◌≡◌, ◌<◌, ℕ, List, [], ◌++◌, length, Option, None}
use Rattle.npd_host.specs.declared.host.CallKind.{CallKind}
use Rattle.npd_host.specs.declared.host.Host.{Ghosts}
use Rattle.npd_host.specs.Host.{Inputs, Outputs}

-- a host at one moment: its inputs, its outputs, the bytes of its files, where they are told, and its counts of faults
pub record Outside : Type 0 where
  pub inputs : Inputs
  pub outputs : Outputs
  pub files : List ℕ → Option (List ℕ)
  pub faults : CallKind → List ℕ → ℕ

-- a host as it is seen
abbrev pub seen : {S : Type 0} → Ghosts S → S → Outside
seen H host = record { inputs = H.inputs host; outputs = H.outputs host; files = H.files host; faults = H.faults host }

-- no output was touched
abbrev pub WroteNothing : Outside → Outside → Type 0
WroteNothing before after = after.outputs ≡ before.outputs

-- an id that isn't given now wasn't before
abbrev pub KeepsIds : Inputs → Inputs → Type 0
KeepsIds old new = (id : ℕ) → new.name id ≡ None → old.name id ≡ None

-- at most so many bytes of an input: all of it, where there are fewer
pub record FrontOf (most : ℕ) (front whole : List ℕ) : Type 0 where
  pub rest : List ℕ
  pub parts : whole ≡ front ++ rest
  pub end : length front < most → rest ≡ []

-- the inputs of these names and the outputs of those were opened, in this order, each once, and no others
pub record Opened (read written : List (List ℕ)) (before after : Outside) : Type 0 where
  pub inputs : after.inputs.opened ≡ before.inputs.opened ++ read
  pub outputs : after.outputs.opened ≡ before.outputs.opened ++ written
