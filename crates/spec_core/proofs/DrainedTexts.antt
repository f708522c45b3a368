-- The texts of what is drained.
use Rattle.std.specs.Prelude.{◌≡◌, ℕ, zero, suc, Bool, true, false, List, [], ◌∷◌, ◌++◌, length, slice_get, Some}
use Rattle.std.specs.List.{flat_map}
use Rattle.std.proofs.Common.{refl, ap, ◌∙◌, arith}
use Rattle.db_model.specs.declared.database.Database.{Database}
use Rattle.db_model.specs.declared.packet.Packet.{Packet}
use Rattle.db_model.specs.declared.tree.Proto.{Proto}
use Rattle.db_model.specs.Decoding.{dec}
use Rattle.db_model.specs.Serial.{decoded, state}
use Rattle.db_model.specs.Session.{Session}
use Rattle.engine.specs.declared.texts.Wanted.{Wanted}
use Rattle.engine.specs.Ready as serial
use Rattle.engine.specs.Texts.{text_if}
use Rattle.pdml_out.specs.Pdml
use Rattle.psml_out.specs.Psml
use Rattle.spec_core.specs.declared.slot.Ready.{Ready}
use Rattle.spec_core.specs.declared.texts.Texts.{Texts}
use Rattle.spec_core.specs.Laws.{DrainedTexts}
use Rattle.spec_core.specs.Texts.{texts_in, texts_of}

nothing_wanted : (wanted : Bool) → [] ≡ text_if wanted []
nothing_wanted true = refl
nothing_wanted false = refl

text_then : (wanted : Bool) (first more : List ℕ) → text_if wanted first ++ text_if wanted more ≡ text_if wanted (first ++ more)
text_then true first more = refl
text_then false first more = refl

-- one text in front
one_more : (wanted : Bool) (is own text rest : List ℕ) → is ≡ text_if wanted own → rest ≡ text_if wanted text → is ++ rest ≡ text_if wanted (own ++ text)
one_more wanted is own text rest e f =
    ap (λ (l : List ℕ). l ++ rest) e ∙ ap (λ (l : List ℕ). text_if wanted own ++ l) f ∙ text_then wanted own text

-- the states behind the first packet
state_then : (db : Database) (s : Session) (p : Packet) (ps : List Packet) (i : ℕ) → state db s (p ∷ ps) (suc i) ≡ state db (dec db p s).session ps i
state_then db s p ps zero = refl
state_then db s p ps (suc i) = ap (λ (z : Session). (decoded db (slice_get ps i) z).session) (state_then db s p ps i)

-- the texts of one output
module _ (wanted : Wanted) (db : Database) (part : Texts → List ℕ) (b : Bool) (text : Packet → List Proto → List ℕ) (is : (p : Packet) (tree : List Proto) → part (texts_of wanted db p tree) ≡ text_if b (text p tree)) where
  joined_texts : (s : Session) (ps : List Packet) (ys : List Ready) → length ys ≡ length ps
      → ((i : ℕ) (y : Ready) → slice_get ys i ≡ Some y → y.texts ≡ texts_in wanted db (slice_get ps i) (decoded db (slice_get ps i) (state db s ps i)).result)
      → flat_map (λ (y : Ready). part y.texts) ys ≡ text_if b (serial.texts_of text db s ps)
  joined_texts s [] [] l each = nothing_wanted b
  joined_texts s [] (y ∷ ys) l each = absurd (omega (arith, l))
  joined_texts s (p ∷ ps) [] l each = absurd (omega (arith, l))
  joined_texts s (p ∷ ps) (y ∷ ys) l each =
      one_more b (part y.texts) (text p (dec db p s).result) _ _ (ap part (each 0 y refl) ∙ is p (dec db p s).result)
      (joined_texts (dec db p s).session ps ys (omega (arith, l)) (λ i z h. each (suc i) z h ∙ ap (λ (v : Session). texts_in wanted db (slice_get ps i) (decoded db (slice_get ps i) v).result) (state_then db s p ps i)))

pub drained_texts : DrainedTexts
drained_texts r ys w = record {
  pdml = joined_texts r.wanted r.db (λ (t : Texts). t.pdml) r.wanted.pdml (Pdml.packet_text r.db) (λ p tree. refl) r.base r.packets ys w.all (λ i y h. (w.each i y h).texts);
  psml = joined_texts r.wanted r.db (λ (t : Texts). t.psml) r.wanted.psml (Psml.packet_text r.db) (λ p tree. refl) r.base r.packets ys w.all (λ i y h. (w.each i y h).texts);
}
