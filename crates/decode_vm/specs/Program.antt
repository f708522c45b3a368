-- The steps of a machine that runs a program, from a state of the machine, with what answers there, to another.
use Rattle.std.specs.Prelude.{Option, Result}
use Rattle.db_model.specs.declared.env.Way.{Way}
use Rattle.db_model.specs.declared.no_memory.NoMemory.{NoMemory}
use Rattle.db_model.specs.Expression.{Eval}
use Rattle.db_model.specs.Questions.{Log}
use Rattle.db_model.specs.Session.{Session}
use Rattle.decode_vm.specs.declared.machine.Machine.{Machine}
use Rattle.decode_vm.specs.declared.program.Program.{Program}
use Rattle.decode_vm.specs.Left.{Running, StepsTo}
use Rattle.decode_vm.specs.Run.{Stepped}
use Rattle.decode_vm.specs.Values.{Valued}

-- the content of what answers, and the list that it tells
module _ {T : Type 0} (content : T → Session) (told : T → Option Log) (p : Program) where
  -- it is somewhere in a run
  abbrev pub IsRunning : Machine × T → Type 0
  IsRunning x = Running p.db.now p.code.now x.0 (content x.1) (told x.1)

  -- a step was done, or memory was refused
  abbrev pub Steps : {A : Type 0} → Machine × T → Result A NoMemory → Machine × T → Type 0
  Steps x r y = StepsTo p.db.now p.code.now x.0 (content x.1) (told x.1) r y.0 (content y.1) (told y.1)

  -- the same, or the whole list has ended
  abbrev pub StepsOrEnds : Machine × T → Result (Option Way) NoMemory → Machine × T → Type 0
  StepsOrEnds x r y = Stepped p.db.now p.code.now x.0 (content x.1) (told x.1) r y.0 (content y.1) (told y.1)

  -- an evaluation gave a value, or a reason with which the decoding ends, or memory was refused
  abbrev pub HasValue : {A : Type 0} → Eval A → Machine × T → Result (Option A) NoMemory → Machine × T → Type 0
  HasValue q x r y = Valued p.db.now q x.0 (content x.1) (told x.1) r y.0 (content y.1) (told y.1)
