-- Causes of a status, in a part of a run and in what it is a part of.
use Rattle.std.proofs.Common.{◌≡◌, ◌≤◌, ℕ, List, Option, Some, None, IfSome, T, arith}
use Rattle.npd_host.specs.declared.host.CallKind.{CallKind}
use Rattle.npd_host.specs.declared.host.CallKind.TheVariants as call
use Rattle.npd_host.specs.Host.{Rose, NoneFalls}
use Rattle.pipeline.specs.declared.status.Role.{Role}
use Rattle.pipeline.specs.declared.status.Status.{Status}
use Rattle.pipeline.specs.declared.status.Status.TheVariants.{Done, Words, Open, Read, Write, Database, Capture, PacketLimit, NoMemory, Unbuilt}
use Rattle.pipeline.specs.Causes.{Doing, RoseIn, opening_call, HasCause}
use Rattle.pipeline.proofs.Told.{match_map}

-- a count that rose has risen since any earlier moment
rose_later : (before mid now : ℕ) → before ≤ mid → Rose mid now → Rose before now
rose_later before mid now h r = grind arith

rose_in_later : (kind : CallKind) (name : Option (List ℕ)) (before mid now : CallKind → List ℕ → ℕ) → NoneFalls before mid → RoseIn kind name mid now → RoseIn kind name before now
rose_in_later kind name before mid now later rose =
    match_map name (λ n. Rose (mid kind n) (now kind n)) (λ n. Rose (before kind n) (now kind n)) (λ n r. rose_later (before kind n) (mid kind n) (now kind n) (later kind n) r) rose

pub cause_later : (does : Doing) (before mid now : CallKind → List ℕ → ℕ) (status : Status) → NoneFalls before mid → HasCause does mid now status → HasCause does before now status
cause_later does before mid now Done later cause = cause
cause_later does before mid now (Words index code) later cause = cause
cause_later does before mid now (Open role) later cause = rose_in_later (opening_call role) (does.opens role) before mid now later cause
cause_later does before mid now (Read role) later cause = rose_in_later call.Read (does.reads role) before mid now later cause
cause_later does before mid now (Write role) later cause = rose_in_later call.Write (does.writes role) before mid now later cause
cause_later does before mid now (Database line code) later cause = cause
cause_later does before mid now (Capture offset code) later cause = cause
cause_later does before mid now (PacketLimit max) later cause = cause
cause_later does before mid now NoMemory later cause = tt
cause_later does before mid now (Unbuilt which) later cause = cause

-- all that the one does, the other does too
pub record IsPartOf (part whole : Doing) : Type 0 where
  pub opens : (role : Role) → IfSome (part.opens role) (λ name. whole.opens role ≡ Some name)
  pub reads : (role : Role) → IfSome (part.reads role) (λ name. whole.reads role ≡ Some name)
  pub writes : (role : Role) → IfSome (part.writes role) (λ name. whole.writes role ≡ Some name)
  pub finds : (status : Status) → T (part.finds status) → T (whole.finds status)

rose_in_whole : (kind : CallKind) (name all : Option (List ℕ)) (before now : CallKind → List ℕ → ℕ) → IfSome name (λ n. all ≡ Some n) → RoseIn kind name before now → RoseIn kind all before now
rose_in_whole kind None all before now same rose = absurd rose
rose_in_whole kind (Some name) all before now same rose = rw same rose

pub cause_of_part : (part whole : Doing) (before now : CallKind → List ℕ → ℕ) (status : Status) → IsPartOf part whole → HasCause part before now status → HasCause whole before now status
cause_of_part part whole before now Done is cause = is.finds Done cause
cause_of_part part whole before now (Words index code) is cause = is.finds (Words index code) cause
cause_of_part part whole before now (Open role) is cause = rose_in_whole (opening_call role) (part.opens role) (whole.opens role) before now (is.opens role) cause
cause_of_part part whole before now (Read role) is cause = rose_in_whole call.Read (part.reads role) (whole.reads role) before now (is.reads role) cause
cause_of_part part whole before now (Write role) is cause = rose_in_whole call.Write (part.writes role) (whole.writes role) before now (is.writes role) cause
cause_of_part part whole before now (Database line code) is cause = is.finds (Database line code) cause
cause_of_part part whole before now (Capture offset code) is cause = is.finds (Capture offset code) cause
cause_of_part part whole before now (PacketLimit max) is cause = is.finds (PacketLimit max) cause
cause_of_part part whole before now NoMemory is cause = tt
cause_of_part part whole before now (Unbuilt which) is cause = is.finds (Unbuilt which) cause
