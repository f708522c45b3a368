-- The laws of the definitions.
use Rattle.std.specs.Prelude.{◌≡◌, ℕ, zero, suc, ◌<◌, List, [], ◌∷◌, ◌++◌, length, slice_get, Option}
use Rattle.std.proofs.Common.{refl, sym, ap, subst, ◌∙◌, arith}
use Rattle.std.proofs.lemmas.List.{append_cancel_left}
use Rattle.db_model.specs.declared.limits.TheConstants.{MOST_NESTED}
use Rattle.db_model.specs.declared.packet.Packet.{Packet}
use Rattle.db_model.specs.Decoding.{dec, decoding}
use Rattle.db_laws.specs.Laws.{UnchangedDecoding, UnchangedComputation, DiffersNowhere, AgreesInParts, SessionOfDecoding, SerialFrom, SerialFront, IncludesEnd, CarriesState}
use Rattle.db_model.specs.Questions.{Log, play, from_play}
use Rattle.db_model.specs.Replay.{after, Agrees}
use Rattle.db_model.specs.Serial.{decoded, state}
use Rattle.db_laws.proofs.Includes.{names_fit, included_more, included_from}
use Rattle.db_model.proofs.Play.{unchanged, session_after, agrees_here, agrees_append, agrees_first, agrees_rest, from_then}
use Rattle.db_laws.proofs.Replay.{differs_none, none_differs}
use Rattle.db_laws.proofs.Serial.{state_from, decoded_from}

pub unchanged_decoding : UnchangedDecoding
unfolding dec
unchanged_decoding db p s s' h = unchanged db p.stamp (decoding db p) s s' h

pub unchanged_computation : (S A : Type 0) → UnchangedComputation S A
unchanged_computation S A db t f z s' m e h =
    let x = play db t (f z.held) z.session in
    let is_m : x.log ≡ m = append_cancel_left z.log x.log m e in
    ap (from_play z.log) (unchanged db t (f z.held) z.session s' (subst (λ l. Agrees db t l s') (sym is_m) h))
    ∙ ap (λ (l : Log). (x.result.0, record { held = x.result.1; session = after db t l s'; log = z.log ++ x.log })) is_m

pub differs_nowhere : DiffersNowhere
differs_nowhere db t l s = (differs_none db t l s, none_differs db t l s)

pub agrees_in_parts : AgreesInParts
agrees_in_parts db t l m s = ((λ h. (agrees_first db t l m s h, agrees_rest db t l m s h)), (λ h. agrees_append db t l m s h.0 h.1))

pub session_of_decoding : SessionOfDecoding
unfolding dec
session_of_decoding db p s = (session_after db p.stamp (decoding db p) s, agrees_here db p.stamp (decoding db p) s)

pub serial_from : SerialFrom
serial_from db s ps m k = (state_from db s ps m k, decoded_from db s ps m k)

get_front : {X : Type 0} (xs ys : List X) (k : ℕ) → k < length xs → slice_get (xs ++ ys) k ≡ slice_get xs k
get_front [] ys k h = absurd (omega arith)
get_front (x ∷ xs) ys zero h = refl
get_front (x ∷ xs) ys (suc k) h = get_front xs ys k (omega arith)

pub serial_front : SerialFront
serial_front db s ps qs zero h = refl
serial_front db s ps qs (suc k) h =
    ap (λ (p : Option Packet). (decoded db p (state db s (ps ++ qs) k)).session) (get_front ps qs k (omega arith))
    ∙ ap (λ x. (decoded db (slice_get ps k) x).session) (serial_front db s ps qs k (omega arith))

pub carries_state : (S A B : Type 0) → CarriesState S A B
carries_state S A B = record {
  result = λ db t a z. refl;
  one_after_another = λ db t p f z. from_then db t p f z;
  question = λ db t q z. refl;
}

pub includes_end : IncludesEnd
includes_end = record {
  is_block = λ db q p name h g. included_more db p MOST_NESTED name (names_fit db q p h.accepted g name);
  more_levels = λ db q p name n h g k. included_from db p MOST_NESTED n name k (names_fit db q p h.accepted g name);
}
