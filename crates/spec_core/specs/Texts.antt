-- What is handed out of a packet: what taps are told of it, and the texts that are wanted of it.
use Rattle.std.specs.Prelude.{List, [], Option, Some, None}
use Rattle.db_model.specs.declared.database.Database.{Database}
use Rattle.db_model.specs.declared.packet.Packet.{Packet}
use Rattle.db_model.specs.declared.tree.Proto.{Proto}
use Rattle.engine.specs.Texts.{text_if}
use Rattle.engine.specs.declared.texts.Wanted.{Wanted}
use Rattle.pdml_out.specs.Pdml
use Rattle.psml_out.specs.Psml
use Rattle.spec_core.specs.declared.texts.Texts.{Texts}
use Rattle.tap_bus.specs.Told.{told_of}

-- of a packet with its tree
abbrev pub texts_of : Wanted → Database → Packet → List Proto → Texts
texts_of wanted db p tree = record { told = told_of p tree; pdml = text_if wanted.pdml (Pdml.packet_text db p tree); psml = text_if wanted.psml (Psml.packet_text db p tree) }

-- where there is no packet, nothing is said of it
abbrev pub texts_in : Wanted → Database → Option Packet → List Proto → Texts
texts_in wanted db None tree = record { told = record { number = 0; stamp = 0; caplen = 0; protos = [] }; pdml = []; psml = [] }
texts_in wanted db (Some p) tree = texts_of wanted db p tree
