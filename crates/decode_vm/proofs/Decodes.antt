-- From the chain of protocols to the decoding of a packet.
use Rattle.std.specs.Prelude.{◌≡◌, ℕ, zero, suc, ◌<◌, List, [], ◌++◌, Option, Result, Ok, Err}
use Rattle.std.proofs.Common.{sym, ap, subst, ◌∙◌, append-nil, arith}
use Rattle.db_model.specs.declared.database.Database.{Database}
use Rattle.db_model.specs.declared.env.Env.{Env}
use Rattle.db_model.specs.declared.env.Frame.{Frame}
use Rattle.db_model.specs.declared.limits.TheConstants.{MOST_ENTERED, MOST_NODES}
use Rattle.db_model.specs.declared.no_memory.NoMemory.{NoMemory}
use Rattle.db_model.specs.declared.packet.Packet.{Packet}
use Rattle.db_model.specs.declared.tree.Proto.{Proto}
use Rattle.db_model.specs.Chain.{chain}
use Rattle.db_model.specs.Decoding.{start, start_env, payload, decoding, dec}
use Rattle.db_model.specs.Names.{startproto, protocol_at}
use Rattle.db_model.specs.Over.{point, Ends, extended}
use Rattle.db_model.specs.Proper.{Proper, Leaves, Any, left_in_frame}
use Rattle.db_model.specs.Questions.{Asks, Gives, Asking, Log, play}
use Rattle.db_model.specs.Session.{Session}
use Rattle.db_model.specs.Objection.{IsChecked}
use Rattle.db_model.proofs.Over.{ends_refused}
use Rattle.db_model.proofs.Play.{play_then, session_after}
use Rattle.db_laws.specs.Laws.{AsksProperly}
use Rattle.decode_vm.specs.declared.chain.Chained.{Chained}
use Rattle.decode_vm.specs.Chain.{ChainEnds}
use Rattle.decode_vm.specs.Decode.{Decoded, Broken, Decodes}
use Rattle.decode_vm.specs.Left.{AllFit}
use Rattle.decode_vm.specs.Run.{IsPlaced}

-- what asks properly asks questions that fit
pub proper_fits : {A : Type 0} (db : Database) (P : A → ℕ → Type 0) (n : ℕ) (x : Asks A) → Proper db P n x → AllFit db x
proper_fits db P n (Gives a) h = tt
proper_fits db P zero (Asking q k) h = absurd h
proper_fits db P (suc n) (Asking q k) h = (h.0, λ a. proper_fits db P n (k a) (h.1 a))

pub start_placed : (db : Database) (p : Packet) → IsPlaced (start db p)
start_placed db p = record { origin = omega arith; position = omega arith; limit = omega arith }

module _ (db : Database) (p : Packet) (s : Session) (l : Option Log) (s' : Session) (l' : Option Log) where
  abbrev whole : Asks (List Proto × Frame)
  whole = chain db MOST_ENTERED (protocol_at db startproto) (start db p)

  log_is : (dec db p s).log ≡ (play db p.stamp whole s).log
  unfolding dec decoding
  log_is = ap (λ x. x.log) (play_then db p.stamp whole (λ r. Gives (r.0 ++ payload r.1)) s) ∙ append-nil (play db p.stamp whole s).log

  session_is : (dec db p s).session ≡ (play db p.stamp whole s).session
  unfolding dec decoding
  session_is = ap (λ x. x.session) (play_then db p.stamp whole (λ r. Gives (r.0 ++ payload r.1)) s)

  result_is : (dec db p s).result ≡ (play db p.stamp whole s).result.0 ++ payload (play db p.stamp whole s).result.1
  unfolding dec decoding
  result_is = ap (λ x. x.result) (play_then db p.stamp whole (λ r. Gives (r.0 ++ payload r.1)) s)

  pub decoded : (protos all : List Proto) (z : Frame) → Ends db p.stamp (chain db MOST_ENTERED (protocol_at db startproto)) (point (start db p) s l) (Ok protos) (point z s' l') → all ≡ protos ++ payload z → Decoded db p all s l s' l'
  decoded protos all z h e = record {
    tree = e ∙ (sym (ap (λ (r : List Proto × Frame). r.0 ++ payload r.1) h.ends.gave) ∙ sym result_is);
    session = h.ends.follows.content ∙ (sym (session_after db p.stamp whole s) ∙ sym session_is);
    told = h.ends.follows.told ∙ ap (extended l) (sym log_is);
  }

  pub broken : (e : NoMemory) (z : Frame) → Ends db p.stamp (chain db MOST_ENTERED (protocol_at db startproto)) (point (start db p) s l) (Err e) (point z s' l') → Broken db p s l s' l'
  broken e z h = record { done = h.ends.done; rest = h.ends.rest; is_prefix = log_is ∙ h.ends.is_prefix; follows = h.ends.follows }

  pub broken_after : (protos : List Proto) (z : Frame) → Ends db p.stamp (chain db MOST_ENTERED (protocol_at db startproto)) (point (start db p) s l) (Ok protos) (point z s' l') → Broken db p s l s' l'
  broken_after protos z h = record { done = (play db p.stamp whole s).log; rest = []; is_prefix = log_is ∙ sym (append-nil (play db p.stamp whole s).log); follows = h.ends.follows }

pub refused_first : (db : Database) (p : Packet) (s : Session) (l : Option Log) (o : Result (List Proto) NoMemory) (e : NoMemory) → o ≡ Err e → Decodes db p o s l s l
refused_first db p s l o e h =
    subst (λ (x : Result (List Proto) NoMemory). Decodes db p x s l s l) (sym h) (broken db p s l s l e (start db p) (ends_refused db p.stamp (chain db MOST_ENTERED (protocol_at db startproto)) e (start db p) (start db p) s l))

-- from a frame that is the first one
module _ (db : Database) (p : Packet) (env : Env) (is : env ≡ start_env db p) (q : ℕ) (first : q ≡ protocol_at db startproto) where
  abbrev begun : Frame
  begun = record { env = env; nodes = MOST_NODES }

  same : begun ≡ start db p
  same = ap (λ (x : Env). record { env = x; nodes = MOST_NODES }) is

  pub first_time : (most : ℕ) → p.stamp < most → env.packet.stamp < most
  first_time most h = subst (λ (x : Env). x.packet.stamp < most) (sym is) h

  pub first_placed : IsPlaced begun
  first_placed = subst IsPlaced (sym same) (start_placed db p)

  pub first_fit : AsksProperly → IsChecked db → AllFit db (chain db MOST_ENTERED q begun)
  first_fit h c = proper_fits db (Leaves left_in_frame Any) begun.env.questions (chain db MOST_ENTERED q begun) (h.chain db MOST_ENTERED q c begun)

  module _ (s : Session) (l : Option Log) (s' : Session) (l' : Option Log) where
    to_start : (o : Result (List Proto) NoMemory) (z : Frame) → Ends db env.packet.stamp (chain db MOST_ENTERED q) (point begun s l) o (point z s' l') → Ends db p.stamp (chain db MOST_ENTERED (protocol_at db startproto)) (point (start db p) s l) o (point z s' l')
    to_start o z h =
        subst (λ (x : Env). Ends db x.packet.stamp (chain db MOST_ENTERED (protocol_at db startproto)) (point (record { env = x; nodes = MOST_NODES }) s l) o (point z s' l')) is
        (subst (λ x. Ends db env.packet.stamp (chain db MOST_ENTERED x) (point begun s l) o (point z s' l')) first h)

    pub first_failed : (o : Result (List Proto) NoMemory) (e : NoMemory) → o ≡ Err e → ChainEnds db MOST_ENTERED q begun s l (Err e) s' l' → Decodes db p o s l s' l'
    first_failed o e g h = subst (λ (x : Result (List Proto) NoMemory). Decodes db p x s l s' l') (sym g) (broken db p s l s' l' e begun (to_start (Err e) begun (h begun)))

    module _ (c : Chained) (h : ChainEnds db MOST_ENTERED q begun s l (Ok c) s' l') where
      pub first_refused : (o : Result (List Proto) NoMemory) (e : NoMemory) → o ≡ Err e → Decodes db p o s l s' l'
      first_refused o e g = subst (λ (x : Result (List Proto) NoMemory). Decodes db p x s l s' l') (sym g) (broken_after db p s l s' l' c.protos c.frame (to_start (Ok c.protos) c.frame h))

      pub first_decoded : (all : List Proto) → all ≡ c.protos ++ payload c.frame → Decoded db p all s l s' l'
      first_decoded all e = decoded db p s l s' l' c.protos all c.frame (to_start (Ok c.protos) c.frame h) e
