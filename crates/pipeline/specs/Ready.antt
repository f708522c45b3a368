-- The texts of packets that are settled, by the role of their output.
use Rattle.std.specs.Prelude.{ℕ, List}
use Rattle.engine.specs.declared.ready.Ready as engine
use Rattle.engine.specs.Ready.{ready_pdml, ready_psml, ready_trace}
use Rattle.engine.specs.Trace.{trace_line}
use Rattle.pipeline.specs.declared.status.Role.{Role}
use Rattle.pipeline.specs.Taken.{pieces}

-- of one packet
abbrev pub ready_text : engine.Ready → Role → List ℕ
ready_text one = pieces one.texts.pdml.items one.texts.psml.items (trace_line one.receipt)

-- of packets, one behind the other
abbrev pub ready_texts : List engine.Ready → Role → List ℕ
ready_texts ready = pieces (ready_pdml ready) (ready_psml ready) (ready_trace ready)
