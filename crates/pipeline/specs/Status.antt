-- The exit number and the line of each status.
use Rattle.std.specs.Prelude.{ℕ, List, [], ◌∷◌, ◌++◌, codes, decimal}
use Rattle.pipeline.specs.declared.status.Role.{Role}
use Rattle.pipeline.specs.declared.status.Role.TheVariants.{Db, Cap, Pdml, Psml, Trace, Out}
use Rattle.pipeline.specs.declared.status.Part.{Part}
use Rattle.pipeline.specs.declared.status.Part.TheVariants as part
use Rattle.pipeline.specs.declared.status.Status.{Status}
use Rattle.pipeline.specs.declared.status.Status.TheVariants.{Done, Words, Open, Read, Write, Database, Capture, PacketLimit, NoMemory, Unbuilt}

-- the process's exit number
abbrev pub exit_of : Status → ℕ
exit_of Done = 0
exit_of (Words index code) = 2
exit_of (Open role) = 3
exit_of (Read role) = 4
exit_of (Write role) = 5
exit_of (Database line code) = 6
exit_of (Capture offset code) = 7
exit_of (PacketLimit max) = 8
exit_of NoMemory = 12
exit_of (Unbuilt which) = 20

abbrev pub role_word : Role → List ℕ
role_word Db = codes "db"
role_word Cap = codes "cap"
role_word Pdml = codes "pdml"
role_word Psml = codes "psml"
role_word Trace = codes "trace"
role_word Out = codes "out"

abbrev pub part_word : Part → List ℕ
part_word part.Words = codes "words"

-- what is said of a status behind `npd: `
abbrev pub saying_of : Status → List ℕ
saying_of Done = []
saying_of (Words index code) = codes "words " ++ (decimal index ++ (codes " " ++ decimal code))
saying_of (Open role) = codes "open " ++ role_word role
saying_of (Read role) = codes "read " ++ role_word role
saying_of (Write role) = codes "write " ++ role_word role
saying_of (Database line code) = codes "database " ++ (decimal line ++ (codes " " ++ decimal code))
saying_of (Capture offset code) = codes "capture " ++ (decimal offset ++ (codes " " ++ decimal code))
saying_of (PacketLimit max) = codes "packet limit " ++ decimal max
saying_of NoMemory = codes "no memory"
saying_of (Unbuilt which) = codes "unbuilt " ++ part_word which

-- how the program is called
abbrev pub usage_line : List ℕ
usage_line = codes "usage: npd decode|check|gen --option value ..\n"

-- the text for standard error: none where all is done; a line, and behind a fault of the words a second one
abbrev pub line_of : Status → List ℕ
line_of Done = []
line_of (Words index code) = (codes "npd: " ++ saying_of (Words index code) ++ 10 ∷ []) ++ usage_line
line_of status = codes "npd: " ++ saying_of status ++ 10 ∷ []
