-- The lines of a trace where packets are decoded one after another, without workers.
use Rattle.std.specs.Prelude.{ℕ, List}
use Rattle.engine.specs.Ready.{serial_receipt}
use Rattle.engine.specs.Trace.{trace_line}

-- the line of the packet of each number
abbrev pub serial_lines : ℕ → List ℕ
serial_lines number = trace_line (serial_receipt number)
