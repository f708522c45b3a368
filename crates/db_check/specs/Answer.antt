-- What an answer of the check says of a database.
use Rattle.std.specs.Prelude.{◌≡◌, Some, None, Result, Ok, Err}
use Rattle.db_model.specs.declared.database.Database.{Database}
use Rattle.db_model.specs.declared.fault.DbFail.{DbFail}
use Rattle.db_model.specs.declared.fault.DbFail.TheVariants as fail
use Rattle.db_model.specs.Objection.{objection}

-- the fault of the least line, and there of the least code. Want of memory is free
abbrev pub Objects : Database → DbFail → Type 0
Objects db (fail.Fault line code) = objection db ≡ Some (record { line = line; code = code })
Objects db fail.NoMemory = Unit {0}

-- the database itself, exactly where none of the eight kinds of fault stands; else that fault
abbrev pub Judges : Database → Result Database DbFail → Type 0
Judges db (Ok checked) = (objection db ≡ None) × (checked ≡ db)
Judges db (Err e) = Objects db e
