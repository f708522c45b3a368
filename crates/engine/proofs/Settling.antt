-- Packets that are settled one after another: their texts, and how the first and the later ones go together.
use Rattle.std.proofs.Common.{◌≡◌, ℕ, ◌+◌, ◌<◌, Bool, true, false, List, [], ◌∷◌, ◌++◌, length, take, get_or, refl, sym, ap, ◌∙◌, subst, append_assoc}
use Rattle.std.proofs.lemmas.List.{take_more}
use Rattle.db_model.specs.declared.database.Database.{Database}
use Rattle.db_model.specs.declared.packet.Packet.{Packet}
use Rattle.db_model.specs.declared.tree.Proto.{Proto}
use Rattle.db_model.specs.Decoding.{dec}
use Rattle.db_model.specs.Session.{Session}
use Rattle.engine.specs.declared.ready.Ready.{Ready}
use Rattle.engine.specs.declared.receipt.Receipt.{Receipt}
use Rattle.engine.specs.declared.texts.Wanted.{Wanted}
use Rattle.engine.specs.Laws.{SettledTexts, InParts}
use Rattle.engine.specs.Ready.{IsSettled, Settles, session_after, serial_line, texts_of, HaveTexts}
use Rattle.engine.specs.Texts.{text_if}
use Rattle.engine.specs.Trace.{trace_line}
use Rattle.pdml_out.specs.Pdml
use Rattle.psml_out.specs.Psml

text_if-append : (wanted : Bool) (first more : List ℕ) → text_if wanted first ++ text_if wanted more ≡ text_if wanted (first ++ more)
text_if-append true first more = refl
text_if-append false first more = refl

text_if-none : (wanted : Bool) → [] ≡ text_if wanted []
text_if-none true = refl
text_if-none false = refl

-- one text in front
one_more : (wanted : Bool) (is own text rest : List ℕ) → is ≡ text_if wanted own → rest ≡ text_if wanted text → is ++ rest ≡ text_if wanted (own ++ text)
one_more wanted is own text rest e f =
    ap (λ (l : List ℕ). l ++ rest) e ∙ ap (λ (l : List ℕ). text_if wanted own ++ l) f ∙ text_if-append wanted own text

line_more : (is own rest text : List ℕ) → is ≡ own → rest ≡ text → is ++ rest ≡ own ++ text
line_more is own rest text e f = ap (λ (l : List ℕ). l ++ rest) e ∙ ap (λ (l : List ℕ). own ++ l) f

pub settled_texts : SettledTexts
settled_texts wanted db s [] [] settles = record { pdml = text_if-none wanted.pdml; psml = text_if-none wanted.psml; trace = refl }
settled_texts wanted db s [] (one ∷ others) settles = absurd settles
settled_texts wanted db s (packet ∷ packets) [] settles = absurd settles
settled_texts wanted db s (packet ∷ packets) (one ∷ others) settles =
    let is = settles.0 in
    let rest = settled_texts wanted db (dec db packet s).session packets others settles.1 in
    record {
      pdml = one_more wanted.pdml one.texts.pdml.items _ _ _ is.texts.pdml rest.pdml;
      psml = one_more wanted.psml one.texts.psml.items _ _ _ is.texts.psml rest.psml;
      trace = line_more (trace_line one.receipt) _ _ _ (ap trace_line is.receipt) rest.trace;
    }

session_in_parts : (db : Database) (s : Session) (first more : List Packet) → session_after db s (first ++ more) ≡ session_after db (session_after db s first) more
session_in_parts db s [] more = refl
session_in_parts db s (packet ∷ first) more = session_in_parts db (dec db packet s).session first more

texts_in_parts : (text : Packet → List Proto → List ℕ) (db : Database) (s : Session) (first more : List Packet)
    → texts_of text db s (first ++ more) ≡ texts_of text db s first ++ texts_of text db (session_after db s first) more
texts_in_parts text db s [] more = refl
texts_in_parts text db s (packet ∷ first) more =
    let own = text packet (dec db packet s).result in
    let t = (dec db packet s).session in
    ap (λ (l : List ℕ). own ++ l) (texts_in_parts text db t first more) ∙ sym (append_assoc own (texts_of text db t first) (texts_of text db (session_after db t first) more))

settled_then : (wanted : Wanted) (db : Database) (s : Session) (first more : List Packet) (ready others : List Ready)
    → Settles wanted db s first ready → Settles wanted db (session_after db s first) more others → Settles wanted db s (first ++ more) (ready ++ others)
settled_then wanted db s [] more [] others settles later = later
settled_then wanted db s [] more (one ∷ ready) others settles later = absurd settles
settled_then wanted db s (packet ∷ first) more [] others settles later = absurd settles
settled_then wanted db s (packet ∷ first) more (one ∷ ready) others settles later =
    (settles.0, settled_then wanted db (dec db packet s).session first more ready others settles.1 later)

pub settled_in_parts : InParts
settled_in_parts = record { session = session_in_parts; texts = texts_in_parts; settled = settled_then }

-- ---- one packet more

-- the first packets, up to one more
next_of : (packets : List Packet) (i : ℕ) (packet : Packet) → i < length packets → packet ≡ get_or packets i packet → take (i + 1) packets ≡ take i packets ++ packet ∷ []
next_of packets i packet within is = take_more packets i packet within ∙ ap (λ (p : Packet). take i packets ++ p ∷ []) (sym is)

module _ (db : Database) (s now : Session) (packets : List Packet) (i : ℕ) (packet : Packet) (within : i < length packets) (is : packet ≡ get_or packets i packet) (at : now ≡ session_after db s (take i packets)) where
  pub session_more : (next : Session) → next ≡ (dec db packet now).session → next ≡ session_after db s (take (i + 1) packets)
  session_more next e =
      e ∙ ap (λ (t : Session). (dec db packet t).session) at
      ∙ sym (ap (session_after db s) (next_of packets i packet within is) ∙ session_in_parts db s (take i packets) (packet ∷ []))

  pub settled_more : (wanted : Wanted) (ready : List Ready) (one : Ready) → Settles wanted db s (take i packets) ready → IsSettled wanted db packet (dec db packet now).result one → Settles wanted db s (take (i + 1) packets) (ready ++ one ∷ [])
  settled_more wanted ready one settles settled =
      let P : Session → Type 0 = λ t. IsSettled wanted db packet (dec db packet t).result one in
      let Q : List Packet → Type 0 = λ l. Settles wanted db s l (ready ++ one ∷ []) in
      subst Q (sym (next_of packets i packet within is)) (settled_then wanted db s (take i packets) (packet ∷ []) ready (one ∷ []) settles (subst P at settled, tt))
