-- What the parts of a run do that aren't those of a capture and its outputs.
use Rattle.std.specs.Prelude.{ℕ, List, Bool, true, false, T, Option, Some, None}
use Rattle.db_model.specs.declared.fault.DbFail.{DbFail}
use Rattle.db_model.specs.declared.fault.DbFail.TheVariants as database
use Rattle.npd_top.specs.declared.job.Job.{Job}
use Rattle.npd_top.specs.declared.job.Job.TheVariants.{Decode, Check}
use Rattle.pipeline.specs.declared.status.Role.{Role}
use Rattle.pipeline.specs.declared.status.Role.TheVariants.{Db, Cap, Out}
use Rattle.pipeline.specs.declared.status.Status.{Status}
use Rattle.pipeline.specs.declared.status.Status.TheVariants.{Database, NoMemory}
use Rattle.pipeline.specs.Causes.{Doing, nothing, one, no_status}
use Rattle.pipeline.specs.Written.{output_of}
use Rattle.npd_top.specs.Line.{standard}

-- the status for each failure of loading and checking
abbrev pub fault_status : DbFail → Status
fault_status (database.Fault line code) = Database line code
fault_status database.NoMemory = NoMemory

-- a text is no database that is accepted
abbrev pub is_fault : Status → Bool
is_fault (Database line code) = true
is_fault other = false

-- a text is loaded and checked as a database, without a host
abbrev pub IsFault : Status → Type 0
IsFault NoMemory = Unit {0}
IsFault status = T (is_fault status)

-- the database file is opened and read
abbrev pub reads_text : List ℕ → Doing
reads_text name = record { opens = one Db (Some name); reads = one Db (Some name); writes = nothing; finds = no_status }

-- the database file is opened, read, loaded and checked
abbrev pub loads_database : List ℕ → Doing
loads_database name = record { opens = one Db (Some name); reads = one Db (Some name); writes = nothing; finds = is_fault }

-- the output of a command's line is opened and written
abbrev pub writes_line : List ℕ → Doing
writes_line name = record { opens = one Out (Some name); reads = nothing; writes = one Out (Some name); finds = no_status }

-- the file of a role, where the job has one
abbrev pub name_of : Job → Role → Option (List ℕ)
name_of (Decode files) Db = Some files.db
name_of (Decode files) Cap = Some files.cap
name_of (Decode files) role = output_of files.outputs role
name_of (Check files) Db = Some files.db
name_of (Check files) Out = Some standard
name_of (Check files) role = None

-- a whole job, of which other clauses say what it finds
abbrev pub serves : Job → Doing
serves job = record { opens = name_of job; reads = name_of job; writes = name_of job; finds = λ status. true }
