-- The texts of packets. One that isn't wanted is empty.
use Rattle.std.specs.Prelude.{◌≡◌, ℕ, Bool, true, false, List, []}
use Rattle.db_model.specs.declared.database.Database.{Database}
use Rattle.db_model.specs.declared.packet.Packet.{Packet}
use Rattle.db_model.specs.declared.tree.Proto.{Proto}
use Rattle.engine.specs.declared.texts.Texts.{Texts}
use Rattle.engine.specs.declared.texts.Wanted.{Wanted}
use Rattle.pdml_out.specs.Pdml
use Rattle.psml_out.specs.Psml

-- a text where it is wanted
abbrev pub text_if : Bool → List ℕ → List ℕ
text_if true text = text
text_if false text = []

-- of each wanted output the buffer holds this text, and of the others nothing
pub record Hold (wanted : Wanted) (texts : Texts) (of_pdml of_psml : List ℕ) : Type 0 where
  pub pdml : texts.pdml.items ≡ text_if wanted.pdml of_pdml
  pub psml : texts.psml.items ≡ text_if wanted.psml of_psml

-- the texts of a packet with its tree
abbrev pub HasTexts : Wanted → Texts → Database → Packet → List Proto → Type 0
HasTexts wanted texts db packet tree = Hold wanted texts (Pdml.packet_text db packet tree) (Psml.packet_text db packet tree)

-- what stands before the packets
abbrev pub HasOpenings : Wanted → Texts → Database → Type 0
HasOpenings wanted texts db = Hold wanted texts Pdml.opening (Psml.opening db)

-- what stands behind them
abbrev pub HasClosings : Wanted → Texts → Type 0
HasClosings wanted texts = Hold wanted texts Pdml.closing Psml.closing
