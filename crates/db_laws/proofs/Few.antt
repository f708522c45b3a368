-- A tree has few protocols.
use Rattle.std.specs.Prelude.{◌≡◌, ℕ, zero, suc, ◌≤◌, Bool, true, false, List, ◌∷◌, ◌++◌, length, nat_lt, slice_get}
use Rattle.std.proofs.Common.{refl, sym, subst, arith, length-append}
use Rattle.db_model.specs.declared.database.Database.{Database}
use Rattle.db_model.specs.declared.env.Frame.{Frame}
use Rattle.db_model.specs.declared.env.Way.{Way}
use Rattle.db_model.specs.declared.env.Way.TheVariants.{Next, Break, Continue, Chose, Stop}
use Rattle.db_model.specs.declared.tree.Node.{Node}
use Rattle.db_model.specs.declared.tree.Proto.{Proto}
use Rattle.db_model.specs.Chain.{chain, follow, onward, is_at_end, protocol_run, entered, proto_from}
use Rattle.db_model.specs.Decoding.{dec, decoding, payload, start}
use Rattle.db_model.specs.Names.{startproto, protocol_at}
use Rattle.db_model.specs.Questions.{Gives, Played, play, Step}
use Rattle.db_model.specs.Session.{Session}
use Rattle.db_model.proofs.Play.{play_then}
use Rattle.db_laws.specs.Laws.{FewProtocols}

-- whatever is answered, the list is at most so long
abbrev Short : Database → ℕ → ℕ → Step Frame (List Proto) → Type 0
Short db t n f = (z : Frame) (s : Session) → length (play db t (f z) s).result.0 ≤ n

onward_short : (db : Database) (t : ℕ) (b : Bool) (left : ℕ) (go : ℕ → Step Frame (List Proto)) (number from q : ℕ) (nodes : List Node) → ((k : ℕ) → Short db t left (go k)) → Short db t (suc left) (onward b left go number from q nodes)
onward_short db t true left go number from q nodes h z s = omega arith
onward_short db t false zero go number from q nodes h z s = omega arith
onward_short db t false (suc left) go number from q nodes h z s =
    let e = play_then db t (go q z) (λ r. Gives (proto_from number from nodes z ∷ r.0, r.1)) s in
    let k = h q z s in
    subst (λ (p : Played (List Proto × Frame)). length p.result.0 ≤ suc (suc left)) (sym e) (omega (arith, k))

follow_short : (db : Database) (t : ℕ) (w : Way) (left : ℕ) (go : ℕ → Step Frame (List Proto)) (number from : ℕ) (nodes : List Node) → ((k : ℕ) → Short db t left (go k)) → Short db t (suc left) (follow w left go number from nodes)
follow_short db t Next left go number from nodes h z s = omega arith
follow_short db t Break left go number from nodes h z s = omega arith
follow_short db t Continue left go number from nodes h z s = omega arith
follow_short db t (Chose q) left go number from nodes h z s = onward_short db t (is_at_end z) left go number from q nodes h z s
follow_short db t (Stop r) left go number from nodes h z s = omega arith

chain_short : (db : Database) (t n q : ℕ) → Short db t n (chain db n q)
unfolding chain
chain_short db t zero q z s = omega arith
chain_short db t (suc n) q z s =
    let x = protocol_run db (slice_get db.protocols q) (entered z) in
    let e = play_then db t x (λ r. follow r.0.0 n (chain db n) q z.env.at r.0.1 r.1) s in
    let p = play db t x s in
    subst (λ (p : Played (List Proto × Frame)). length p.result.0 ≤ suc n) (sym e)
    (follow_short db t p.result.0.0 n (chain db n) q z.env.at p.result.0.1 (λ k. chain_short db t n k) p.result.1 p.session)

payload_short : (z : Frame) → length (payload z) ≤ 1
payload_short z = by (nat_lt z.env.at (length z.env.packet.bytes)) refl
  where
    by : (b : Bool) → nat_lt z.env.at (length z.env.packet.bytes) ≡ b → length (payload z) ≤ 1
    by true e = rw e (omega arith)
    by false e = rw e (omega arith)

pub few_protocols : FewProtocols
unfolding dec decoding
few_protocols db p s =
    let x = chain db 32 (protocol_at db startproto) (start db p) in
    let e = play_then db p.stamp x (λ r. Gives (r.0 ++ payload r.1)) s in
    let r = play db p.stamp x s in
    let k = chain_short db p.stamp 32 (protocol_at db startproto) (start db p) s in
    let l = payload_short r.result.1 in
    subst (λ (q : Played (List Proto)). length q.result ≤ 33) (sym e) (omega (arith, k, l, length-append r.result.0 (payload r.result.1)))
