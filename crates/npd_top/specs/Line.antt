-- What the output of a command's line has taken, and that every other output is left.
use Rattle.std.specs.Prelude.{◌≡◌, ◌<◌, ◌⊎◌, ℕ, List, ◌++◌, length, Some, None, Result, Ok, Err, IfSome, codes}
use Rattle.npd_host.specs.Host.{Outputs}
use Rattle.pipeline.specs.declared.status.Role.TheVariants.{Out}
use Rattle.pipeline.specs.declared.status.Status.{Status}
use Rattle.pipeline.specs.declared.status.Status.TheVariants.{Open, Write, NoMemory}

-- it goes to standard output
abbrev pub standard : List ℕ
standard = codes "-"

-- an output of this name was begun and has taken this text; every other output is as before
pub record Wrote (old new : Outputs) (name text : List ℕ) : Type 0 where
  pub id : ℕ
  pub fresh : old.name id ≡ None
  pub named : new.name id ≡ Some name
  pub taken : IfSome (new.taken id) (λ bytes. bytes ≡ text)
  pub names : (other : ℕ) → (other ≡ id → ⊥) → new.name other ≡ old.name other
  pub others : (other : ℕ) → (other ≡ id → ⊥) → new.taken other ≡ old.taken other

-- it has taken a front of this text
pub record WroteFront (old new : Outputs) (name text : List ℕ) : Type 0 where
  pub front : List ℕ
  pub back : List ℕ
  pub parts : text ≡ front ++ back
  pub wrote : Wrote old new name front

-- it has taken a proper front of this text
pub record WroteProper (old new : Outputs) (name text : List ℕ) : Type 0 where
  pub front : List ℕ
  pub back : List ℕ
  pub proper : 0 < length back
  pub parts : text ≡ front ++ back
  pub wrote : Wrote old new name front

-- what the named output took of the line, by how the opening and writing of it ended
abbrev pub WritesLine : {A : Type 0} → Result A Status → Outputs → Outputs → List ℕ → List ℕ → Type 0
WritesLine (Ok done) old new name text = Wrote old new name text
WritesLine (Err (Open Out)) old new name text = new ≡ old
WritesLine (Err (Write Out)) old new name text = WroteProper old new name text
WritesLine (Err NoMemory) old new name text = (new ≡ old) ⊎ WroteFront old new name text
WritesLine (Err other) old new name text = ⊥
