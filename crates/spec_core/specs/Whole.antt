-- What is drained of a window.
use Rattle.std.specs.Prelude.{◌≡◌, ℕ, ◌<◌, ◌≤◌, List, length, map, slice_get, Some}
use Rattle.std.specs.List.{flat_map}
use Rattle.engine.specs.declared.receipt.Receipt.{Receipt}
use Rattle.engine.specs.declared.receipt.Taken.{Taken}
use Rattle.engine.specs.Ready.{texts_of}
use Rattle.engine.specs.Texts.{text_if}
use Rattle.pdml_out.specs.Pdml
use Rattle.psml_out.specs.Psml
use Rattle.spec_core.specs.declared.slot.Ready.{Ready}
use Rattle.spec_core.specs.Machine.{Run, IsSettled}

abbrev pub receipts_of : List Ready → List Receipt
receipts_of ys = map (λ (y : Ready). y.receipt) ys

-- each packet of the window, in order, with what is handed out of it where the packets are decoded one by one, and with
-- a legal receipt; v and c never fall from packet to packet
pub record IsWhole (r : Run) (ys : List Ready) : Type 0 where
  pub all : length ys ≡ length r.packets
  pub each : (i : ℕ) (y : Ready) → slice_get ys i ≡ Some y → IsSettled r i y
  pub v_rises : (i j : ℕ) (x y : Ready) (t u : Taken) → i < j → slice_get ys i ≡ Some x → slice_get ys j ≡ Some y → x.receipt.taken ≡ Some t → y.receipt.taken ≡ Some u → t.v ≤ u.v
  pub c_rises : (i j : ℕ) (x y : Ready) (t u : Taken) → i < j → slice_get ys i ≡ Some x → slice_get ys j ≡ Some y → x.receipt.taken ≡ Some t → y.receipt.taken ≡ Some u → t.c ≤ u.c

-- the texts, one behind the other, are those of decoding the packets one by one from the base, as far as they are
-- wanted
pub record HaveTexts (r : Run) (ys : List Ready) : Type 0 where
  pub pdml : flat_map (λ (y : Ready). y.texts.pdml) ys ≡ text_if r.wanted.pdml (texts_of (Pdml.packet_text r.db) r.db r.base r.packets)
  pub psml : flat_map (λ (y : Ready). y.texts.psml) ys ≡ text_if r.wanted.psml (texts_of (Psml.packet_text r.db) r.db r.base r.packets)
