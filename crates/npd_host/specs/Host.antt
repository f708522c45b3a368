-- What a host is seen as: its inputs, its outputs, and a count of faults for each kind of call and each name.
use Rattle.std.specs.Prelude.{◌≡◌, ◌≤◌, ◌<◌, ◌+◌, ◌-◌, ◌^◌, min, ℕ, List, [], ◌∷◌, ◌++◌, length, Option, Some, None, IfSome}
use Rattle.std.specs.Io.KnownBytes.{append_known}
use Rattle.npd_host.specs.declared.host.CallKind.{CallKind}

-- the names of the inputs that were opened, in order; and by id the name that an input was opened by, and the bytes
-- that it still holds, where that is told
pub record Inputs : Type 0 where
  pub opened : List (List ℕ)
  pub name : ℕ → Option (List ℕ)
  pub held : ℕ → Option (List ℕ)

-- the names of the outputs that were opened, in order; and by id the name that an output was opened by, and the bytes
-- that it has taken, where that is told
pub record Outputs : Type 0 where
  pub opened : List (List ℕ)
  pub name : ℕ → Option (List ℕ)
  pub taken : ℕ → Option (List ℕ)

-- an open of an input gave this id: it is fresh, has this name, holds these bytes, and each other id is left
pub record OpensInput (old new : Inputs) (id : ℕ) (name : List ℕ) (bytes : Option (List ℕ)) : Type 0 where
  pub opened : new.opened ≡ old.opened ++ name ∷ []
  pub fresh : old.name id ≡ None
  pub named : new.name id ≡ Some name
  pub holds : new.held id ≡ bytes
  pub names : (other : ℕ) → (other ≡ id → ⊥) → new.name other ≡ old.name other
  pub others : (other : ℕ) → (other ≡ id → ⊥) → new.held other ≡ old.held other

-- an open of an output gave this id: it is fresh, has this name, has taken nothing, and each other id is left
pub record OpensOutput (old new : Outputs) (id : ℕ) (name : List ℕ) : Type 0 where
  pub opened : new.opened ≡ old.opened ++ name ∷ []
  pub fresh : old.name id ≡ None
  pub named : new.name id ≡ Some name
  pub empty : IfSome (new.taken id) (λ bytes. bytes ≡ [])
  pub names : (other : ℕ) → (other ≡ id → ⊥) → new.name other ≡ old.name other
  pub others : (other : ℕ) → (other ≡ id → ⊥) → new.taken other ≡ old.taken other

-- an input held these bytes in front of what it holds now; one that isn't told stays untold
abbrev pub FrontIs : Option (List ℕ) → Option (List ℕ) → List ℕ → Type 0
FrontIs None new bytes = new ≡ None
FrontIs (Some held) new bytes = (rest : List ℕ) × (new ≡ Some rest) × (held ≡ bytes ++ rest)

-- the input of this id gave these bytes from its front, and nothing else changed
pub record Gave (id : ℕ) (old new : Inputs) (bytes : List ℕ) : Type 0 where
  pub opened : new.opened ≡ old.opened
  pub names : new.name ≡ old.name
  pub front : FrontIs (old.held id) (new.held id) bytes
  pub others : (other : ℕ) → (other ≡ id → ⊥) → new.held other ≡ old.held other

-- the input of this id gave some bytes from its front, fewer than these, and nothing else changed
pub record GaveFewer (id : ℕ) (old new : Inputs) (most : ℕ) : Type 0 where
  pub bytes : List ℕ
  pub fewer : length bytes < most
  pub gave : Gave id old new bytes

-- the output of this id took these bytes at its end, and nothing else changed
pub record Took (id : ℕ) (old new : Outputs) (bytes : List ℕ) : Type 0 where
  pub opened : new.opened ≡ old.opened
  pub names : new.name ≡ old.name
  pub taken : new.taken id ≡ append_known (old.taken id) bytes
  pub others : (other : ℕ) → (other ≡ id → ⊥) → new.taken other ≡ old.taken other

-- the output of this id took a proper front of these bytes, and nothing else changed
pub record TookPart (id : ℕ) (old new : Outputs) (bytes : List ℕ) : Type 0 where
  pub front : List ℕ
  pub back : List ℕ
  pub proper : 0 < length back
  pub parts : bytes ≡ front ++ back
  pub took : Took id old new front

-- no count fell
abbrev pub NoneFalls : (CallKind → List ℕ → ℕ) → (CallKind → List ℕ → ℕ) → Type 0
NoneFalls old new = (kind : CallKind) (name : List ℕ) → old kind name ≤ new kind name

-- a count rose, or stands at the last value of a u64
abbrev pub Rose : ℕ → ℕ → Type 0
Rose before now = min (before + 1) (2 ^ 64 - 1) ≤ now

-- the count of an id's name rose; an id without a name has none
abbrev pub RoseAt : (List ℕ → ℕ) → (List ℕ → ℕ) → Option (List ℕ) → Type 0
RoseAt before now None = Unit {0}
RoseAt before now (Some name) = Rose (before name) (now name)

-- the count of this kind of call rose on an id's name
abbrev pub CountRose : {S : Type 0} → CallKind → Option (List ℕ) → (S → CallKind → List ℕ → ℕ) → S → S → Type 0
CountRose kind name faults old new = RoseAt (faults old kind) (faults new kind) name

-- a call moved nothing but inputs: outputs and files are left, and no count of faults fell
pub record MovesInputsOnly {S : Type 0} (outputs_of : S → Outputs) (files_of : S → List ℕ → Option (List ℕ))
    (faults_of : S → CallKind → List ℕ → ℕ) (old new : S) : Type 0 where
  pub outputs : outputs_of new ≡ outputs_of old
  pub files : files_of new ≡ files_of old
  pub later : NoneFalls (faults_of old) (faults_of new)

-- a call moved nothing but outputs: inputs and files are left, and no count of faults fell
pub record MovesOutputsOnly {S : Type 0} (inputs_of : S → Inputs) (files_of : S → List ℕ → Option (List ℕ))
    (faults_of : S → CallKind → List ℕ → ℕ) (old new : S) : Type 0 where
  pub inputs : inputs_of new ≡ inputs_of old
  pub files : files_of new ≡ files_of old
  pub later : NoneFalls (faults_of old) (faults_of new)
