-- The texts of packets: more packets behind leave those of the first ones, and one packet more is one text more.
use Rattle.std.proofs.Common.{◌≡◌, ℕ, zero, suc, ◌+◌, ◌<◌, ◌≤◌, List, [], ◌∷◌, ◌++◌, length, Option, Some, refl, sym, ap, ◌∙◌, append_assoc, append-nil, length-append, arith}
use Rattle.std.specs.Prelude.{slice_get}
use Rattle.db_model.specs.declared.database.Database.{Database}
use Rattle.db_model.specs.declared.packet.Packet.{Packet}
use Rattle.db_model.specs.Decoding.{dec}
use Rattle.db_model.specs.Serial.{decoded, state}
use Rattle.db_model.specs.Session.{Session, declared}
use Rattle.db_laws.specs.Laws.{SerialFront}
use Rattle.engine.specs.Ready as engine
use Rattle.pipeline.specs.declared.status.Role.{Role}
use Rattle.pipeline.specs.Outputs.{opening, packet_text, closing, text_of, texts, open_text, whole_text}

get_front : {X : Type 0} (xs ys : List X) (k : ℕ) → k < length xs → slice_get (xs ++ ys) k ≡ slice_get xs k
get_front [] ys k h = absurd (omega arith)
get_front (x ∷ xs) ys zero h = refl
get_front (x ∷ xs) ys (suc k) h = get_front xs ys k (omega arith)

get_seam : {X : Type 0} (xs : List X) (y : X) → slice_get (xs ++ y ∷ []) (length xs) ≡ Some y
get_seam [] y = refl
get_seam (x ∷ xs) y = get_seam xs y

length_more : {X : Type 0} (xs : List X) (y : X) → length (xs ++ y ∷ []) ≡ suc (length xs)
length_more [] y = refl
length_more (x ∷ xs) y = ap suc (length_more xs y)

-- the text of what stands at a place, from a session
text_from : Role → Database → (ℕ → List ℕ) → Option Packet → Session → List ℕ
text_from role db lines packet s = text_of role db lines packet (decoded db packet s).result

texts_front : SerialFront → (role : Role) (db : Database) (lines : ℕ → List ℕ) (ps qs : List Packet) (k : ℕ) → k ≤ length ps → texts role db lines (ps ++ qs) k ≡ texts role db lines ps k
unfolding text_from
texts_front front role db lines ps qs zero h = refl
texts_front front role db lines ps qs (suc k) h =
    ap (λ (l : List ℕ). l ++ text_from role db lines (slice_get (ps ++ qs) k) (state db (declared db) (ps ++ qs) k)) (texts_front front role db lines ps qs k (omega arith))
    ∙ ap (λ (p : Option Packet). texts role db lines ps k ++ text_from role db lines p (state db (declared db) (ps ++ qs) k)) (get_front ps qs k (omega arith))
    ∙ ap (λ (s : Session). texts role db lines ps k ++ text_from role db lines (slice_get ps k) s) (front db (declared db) ps qs k (omega arith))

-- the session behind these packets
unfoldable pub session_after : Database → List Packet → Session
session_after db ps = state db (declared db) ps (length ps)

-- behind one packet more
pub session_more : SerialFront → (db : Database) (ps : List Packet) (p : Packet) → session_after db (ps ++ p ∷ []) ≡ (dec db p (session_after db ps)).session
unfolding session_after
session_more front db ps p =
    ap (state db (declared db) (ps ++ p ∷ [])) (length_more ps p)
    ∙ ap (λ (o : Option Packet). (decoded db o (state db (declared db) (ps ++ p ∷ []) (length ps))).session) (get_seam ps p)
    ∙ ap (λ (s : Session). (dec db p s).session) (front db (declared db) ps (p ∷ []) (length ps) (omega arith))

texts_more : SerialFront → (role : Role) (db : Database) (lines : ℕ → List ℕ) (ps : List Packet) (p : Packet)
    → texts role db lines (ps ++ p ∷ []) (length (ps ++ p ∷ [])) ≡ texts role db lines ps (length ps) ++ packet_text role db lines p (dec db p (session_after db ps)).result
unfolding session_after text_from
texts_more front role db lines ps p =
    ap (texts role db lines (ps ++ p ∷ [])) (length_more ps p)
    ∙ ap (λ (l : List ℕ). l ++ text_from role db lines (slice_get (ps ++ p ∷ []) (length ps)) (state db (declared db) (ps ++ p ∷ []) (length ps))) (texts_front front role db lines ps (p ∷ []) (length ps) (omega arith))
    ∙ ap (λ (o : Option Packet). texts role db lines ps (length ps) ++ text_from role db lines o (state db (declared db) (ps ++ p ∷ []) (length ps))) (get_seam ps p)
    ∙ ap (λ (s : Session). texts role db lines ps (length ps) ++ packet_text role db lines p (dec db p s).result) (front db (declared db) ps (p ∷ []) (length ps) (omega arith))

-- before the first packet there is the opening
pub open_text-none : (role : Role) (db : Database) (lines : ℕ → List ℕ) → open_text role db lines [] ≡ opening role db
unfolding open_text
open_text-none role db lines = append-nil (opening role db)

pub open_text-more : SerialFront → (role : Role) (db : Database) (lines : ℕ → List ℕ) (ps : List Packet) (p : Packet)
    → open_text role db lines (ps ++ p ∷ []) ≡ open_text role db lines ps ++ packet_text role db lines p (dec db p (session_after db ps)).result
unfolding open_text
open_text-more front role db lines ps p =
    ap (λ (l : List ℕ). opening role db ++ l) (texts_more front role db lines ps p)
    ∙ sym (append_assoc (opening role db) (texts role db lines ps (length ps)) (packet_text role db lines p (dec db p (session_after db ps)).result))

-- and behind many packets more
pub session_window : SerialFront → (db : Database) (ps qs : List Packet) → session_after db (ps ++ qs) ≡ engine.session_after db (session_after db ps) qs
session_window front db ps [] = ap (session_after db) (append-nil ps)
session_window front db ps (q ∷ qs) =
    ap (session_after db) (sym (append_assoc ps (q ∷ []) qs))
    ∙ session_window front db (ps ++ q ∷ []) qs
    ∙ ap (λ (s : Session). engine.session_after db s qs) (session_more front db ps q)

pub open_text-window : SerialFront → (role : Role) (db : Database) (lines : ℕ → List ℕ) (ps qs : List Packet)
    → open_text role db lines (ps ++ qs) ≡ open_text role db lines ps ++ engine.texts_of (packet_text role db lines) db (session_after db ps) qs
open_text-window front role db lines ps [] = ap (open_text role db lines) (append-nil ps) ∙ sym (append-nil (open_text role db lines ps))
open_text-window front role db lines ps (q ∷ qs) =
    let first = open_text role db lines ps in
    let one = packet_text role db lines q (dec db q (session_after db ps)).result in
    ap (open_text role db lines) (sym (append_assoc ps (q ∷ []) qs))
    ∙ open_text-window front role db lines (ps ++ q ∷ []) qs
    ∙ ap (λ (l : List ℕ). l ++ engine.texts_of (packet_text role db lines) db (session_after db (ps ++ q ∷ [])) qs) (open_text-more front role db lines ps q)
    ∙ ap (λ (s : Session). (first ++ one) ++ engine.texts_of (packet_text role db lines) db s qs) (session_more front db ps q)
    ∙ append_assoc first one (engine.texts_of (packet_text role db lines) db (dec db q (session_after db ps)).session qs)

-- later texts, behind the first k
texts_later : (role : Role) (db : Database) (lines : ℕ → List ℕ) (ps : List Packet) (k more : ℕ) → (later : List ℕ) × (texts role db lines ps (k + more) ≡ texts role db lines ps k ++ later)
unfolding text_from
texts_later role db lines ps k zero = ([], ap (texts role db lines ps) (let e : k + zero ≡ k = omega arith in e) ∙ sym (append-nil (texts role db lines ps k)))
texts_later role db lines ps k (suc more) =
    let rest = texts_later role db lines ps k more in
    let text = text_from role db lines (slice_get ps (k + more)) (state db (declared db) ps (k + more)) in (
      rest.0 ++ text,
      ap (texts role db lines ps) (let e : k + suc more ≡ suc (k + more) = omega arith in e)
          ∙ step (texts role db lines ps (k + more)) (texts role db lines ps k) rest.0 text rest.1,
    )
  where
    step : (all first later text : List ℕ) → all ≡ first ++ later → all ++ text ≡ first ++ (later ++ text)
    step all first later text e = ap (λ (l : List ℕ). l ++ text) e ∙ append_assoc first later text

-- the whole text of more packets begins with the opening and the first ones
pub whole_text-front : SerialFront → (role : Role) (db : Database) (lines : ℕ → List ℕ) (ps qs : List Packet) → (later : List ℕ) × (whole_text role db lines (ps ++ qs) ≡ open_text role db lines ps ++ later)
unfolding open_text whole_text
whole_text-front front role db lines ps qs =
    let first = texts role db lines ps (length ps) in
    let later = texts_later role db lines (ps ++ qs) (length ps) (length qs) in
    let all : texts role db lines (ps ++ qs) (length (ps ++ qs)) ≡ first ++ later.0 =
    ap (texts role db lines (ps ++ qs)) (length-append ps qs) ∙ later.1 ∙ ap (λ (l : List ℕ). l ++ later.0) (texts_front front role db lines ps qs (length ps) (omega arith)) in
    (later.0 ++ closing role, regroup (opening role db) first later.0 (closing role) (texts role db lines (ps ++ qs) (length (ps ++ qs))) all)
  where
    regroup : (o a b c all : List ℕ) → all ≡ a ++ b → (o ++ all) ++ c ≡ (o ++ a) ++ (b ++ c)
    regroup o a b c all e = ap (λ (l : List ℕ). (o ++ l) ++ c) e ∙ ap (λ (l : List ℕ). l ++ c) (sym (append_assoc o a b)) ∙ append_assoc (o ++ a) b c

pub whole_text-is : (role : Role) (db : Database) (lines : ℕ → List ℕ) (ps : List Packet) → whole_text role db lines ps ≡ open_text role db lines ps ++ closing role
unfolding whole_text
whole_text-is role db lines ps = refl
