-- Why a part of a run ended with a status: which count of faults of a host rose, or what was found.
use Rattle.std.specs.Prelude.{ℕ, List, Bool, true, false, T, Option, Some, None, Result, Ok, Err, IsSomeAnd}
use Rattle.npd_host.specs.declared.host.CallKind.{CallKind}
use Rattle.npd_host.specs.declared.host.CallKind.TheVariants as call
use Rattle.npd_host.specs.declared.host.HostFail.{HostFail}
use Rattle.npd_host.specs.declared.host.HostFail.TheVariants as host
use Rattle.npd_host.specs.Host.{Rose}
use Rattle.pcap_in.specs.declared.fail.CapFail.{CapFail}
use Rattle.pcap_in.specs.declared.fail.CapFail.TheVariants as fail
use Rattle.pipeline.specs.declared.reading.Noted.{Noted}
use Rattle.pipeline.specs.declared.reading.Noted.TheVariants.{Fails}
use Rattle.pipeline.specs.declared.status.Role.{Role}
use Rattle.pipeline.specs.declared.status.Role.TheVariants.{Db, Cap, Pdml, Psml, Trace, Out}
use Rattle.pipeline.specs.declared.status.Status.{Status}
use Rattle.pipeline.specs.declared.status.Status.TheVariants.{Done, Open, Read, Write, Capture, PacketLimit, NoMemory}

-- the status where a host refused a call: this one, or want of memory
abbrev pub refusal : Status → HostFail → Status
refusal failed host.Failed = failed
refusal failed host.NoMemory = NoMemory

-- the status for each failure of a reader of captures
abbrev pub capture_status : CapFail → Status
capture_status (fail.Broken offset code) = Capture offset code
capture_status fail.ReadFault = Read Cap
capture_status fail.NoMemory = NoMemory

-- ---- what a part of a run does

-- the files that it opens, reads and writes, by their roles, and the statuses that it may end with though no call failed
pub record Doing : Type 0 where
  pub opens : Role → Option (List ℕ)
  pub reads : Role → Option (List ℕ)
  pub writes : Role → Option (List ℕ)
  pub finds : Status → Bool

-- no file
abbrev pub nothing : Role → Option (List ℕ)
nothing role = None

-- the file of one role
abbrev pub one : Role → Option (List ℕ) → Role → Option (List ℕ)
one Db name Db = name
one Cap name Cap = name
one Pdml name Pdml = name
one Psml name Psml = name
one Trace name Trace = name
one Out name Out = name
one role name other = None

-- no status but those of failed calls
abbrev pub no_status : Status → Bool
no_status status = false

-- a capture is broken
abbrev pub is_break : Status → Bool
is_break (Capture offset code) = true
is_break other = false

-- a capture is at its end, or the limit is reached
abbrev pub is_end : Status → Bool
is_end Done = true
is_end (Capture offset code) = true
is_end (PacketLimit max) = true
is_end other = false

-- a capture is opened, and its file header is read
abbrev pub opens_capture : List ℕ → Doing
opens_capture name = record { opens = one Cap (Some name); reads = one Cap (Some name); writes = nothing; finds = is_break }

-- an open capture is read
abbrev pub reads_capture : Option (List ℕ) → Doing
reads_capture name = record { opens = nothing; reads = one Cap name; writes = nothing; finds = no_status }

-- outputs of these names are opened
abbrev pub opens_outputs : (Role → Option (List ℕ)) → Doing
opens_outputs names = record { opens = names; reads = nothing; writes = nothing; finds = no_status }

-- pieces are written to open outputs of these names
abbrev pub writes_outputs : (Role → Option (List ℕ)) → Doing
writes_outputs names = record { opens = nothing; reads = nothing; writes = names; finds = no_status }

-- the packets of an open capture are read and written to open outputs
abbrev pub moves_packets : Option (List ℕ) → (Role → Option (List ℕ)) → Doing
moves_packets cap names = record { opens = nothing; reads = one Cap cap; writes = names; finds = is_end }

-- the same, and the outputs are opened first
abbrev pub decodes_capture : Option (List ℕ) → (Role → Option (List ℕ)) → Doing
decodes_capture cap names = record { opens = names; reads = one Cap cap; writes = names; finds = is_end }

-- ---- the cause

-- the call that opens a file of a role
abbrev pub opening_call : Role → CallKind
opening_call Db = call.OpenIn
opening_call Cap = call.OpenIn
opening_call output = call.OpenOut

-- there is a file, and the count of a kind of call rose on its name
abbrev pub RoseIn : CallKind → Option (List ℕ) → (CallKind → List ℕ → ℕ) → (CallKind → List ℕ → ℕ) → Type 0
RoseIn kind name before now = IsSomeAnd name (λ given. Rose (before kind given) (now kind given))

-- a part of a run that does this may end with a status: the count of the kind of call rose on the name of the role's own
-- file, or memory was refused, or it was found
abbrev pub HasCause : Doing → (CallKind → List ℕ → ℕ) → (CallKind → List ℕ → ℕ) → Status → Type 0
HasCause does before now (Open role) = RoseIn (opening_call role) (does.opens role) before now
HasCause does before now (Read role) = RoseIn call.Read (does.reads role) before now
HasCause does before now (Write role) = RoseIn call.Write (does.writes role) before now
HasCause does before now NoMemory = Unit {0}
HasCause does before now other = T (does.finds other)

-- packets of an open capture are read until that is noted
abbrev pub HasNotedCause : Option (List ℕ) → (CallKind → List ℕ → ℕ) → (CallKind → List ℕ → ℕ) → Noted → Type 0
HasNotedCause name before now (Fails status) = HasCause (reads_capture name) before now status
HasNotedCause name before now other = Unit {0}

-- a window of packets of an open capture is read and written to open outputs
abbrev pub HasWindowCause : Option (List ℕ) → (Role → Option (List ℕ)) → (CallKind → List ℕ → ℕ) → (CallKind → List ℕ → ℕ) → Result Noted Status → Type 0
HasWindowCause cap names before now (Ok noted) = HasNotedCause cap before now noted
HasWindowCause cap names before now (Err status) = HasCause (writes_outputs names) before now status
