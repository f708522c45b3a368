-- The first fault of one cause among lines.
use Rattle.std.specs.Prelude.{Option}
use Rattle.db_cause.specs.declared.cause.Cause.{Cause}
use Rattle.db_cause.specs.Codes.{code}
use Rattle.db_model.specs.declared.fault.Fault.{Fault}
use Rattle.db_model.specs.LeastFault.{least}
use Rattle.db_model.specs.Lines.{Lines}
use Rattle.db_model.specs.Objection.{coded}

abbrev pub first : Cause → Lines → Option Fault
first why lines = least (coded (code why) lines)
