-- How one protocol follows another.
use Rattle.std.specs.Prelude.{◌≡◌, ℕ, zero, suc, ◌-◌, ◌<◌, ◌≤◌, Bool, true, false, length, List, [], ◌∷◌, ◌++◌, slice_get, Option, Some, None, Result, Ok, Err}
use Rattle.std.proofs.Common.{refl, sym, ap, subst, ◌∙◌, append_assoc, arith}
use Rattle.std.proofs.lemmas.Bool.{le-leb, lt-leb}
use Rattle.db_model.specs.declared.database.Database.{Database}
use Rattle.db_model.specs.declared.database.Protocol.{Protocol}
use Rattle.db_model.specs.declared.env.Frame.{Frame}
use Rattle.db_model.specs.declared.env.Way.{Way}
use Rattle.db_model.specs.declared.env.Way.TheVariants.{Next, Break, Continue, Chose, Stop}
use Rattle.db_model.specs.declared.no_memory.NoMemory.{NoMemory}
use Rattle.db_model.specs.declared.packet.Packet.{Packet}
use Rattle.db_model.specs.declared.tree.Node.{Node}
use Rattle.db_model.specs.declared.tree.Node.TheVariants.{Note}
use Rattle.db_model.specs.declared.tree.Reason.TheVariants as reason
use Rattle.db_model.specs.declared.tree.Proto.{Proto}
use Rattle.db_model.specs.Chain.{protocol_run, elements_of, entered, chain, follow, ends, proto_from, onward, is_at_end}
use Rattle.db_model.specs.Elements.{list}
use Rattle.db_model.specs.Numbering.{none}
use Rattle.db_model.specs.Over.{point, Ends, Leads}
use Rattle.db_model.specs.Questions.{Asks, Gives, and_then, Log, Step, ◌then◌}
use Rattle.db_model.specs.Runs.{Went}
use Rattle.db_model.specs.Session.{Session}
use Rattle.db_model.proofs.Over.{ends_gives, ends_first, ends_refused, leads_on, leads_same, leads_then}
use Rattle.pdl_code.specs.declared.code.Code.{Code}
use Rattle.pdl_code.specs.declared.code.ProtoCode.{ProtoCode}
use Rattle.pdl_code.specs.Does.{Does, IsCodeOf}
use Rattle.decode_vm.specs.declared.chain.Chained.{Chained}
use Rattle.decode_vm.specs.declared.list.Ended.{Ended}
use Rattle.decode_vm.specs.Chain.{from_here, ProtocolEnds, Named, ChainEnds}
use Rattle.decode_vm.specs.Left.{AllFit}
use Rattle.decode_vm.specs.Run.{IsPlaced, HasRun, RunEnds}
use Rattle.decode_vm.proofs.Ahead.{fit_first, fit_then}
use Rattle.decode_vm.proofs.Algebra.{and_assoc, and_gives}

-- ---- one protocol

-- the frame in which a protocol begins
abbrev entering : List (ℕ × List ℕ) → Frame → Frame
entering ps z = record z { env = record z.env { origin = z.env.at; present = ps } }

entering_is : (ps : List (ℕ × List ℕ)) (z : Frame) → ps ≡ [] → entering ps z ≡ entered z
entering_is ps z e = ap (λ (x : List (ℕ × List ℕ)). entering x z) e

pub entering_placed : (ps : List (ℕ × List ℕ)) (z : Frame) → IsPlaced z → IsPlaced (entering ps z)
entering_placed ps z p = record { origin = omega arith; position = p.position; limit = p.limit }

same_code : (a b : ProtoCode) (x : Option ProtoCode) → x ≡ Some a → x ≡ Some b → a ≡ b
same_code a b x e f = cc

no_code : (a : ProtoCode) (x : Option ProtoCode) → x ≡ Some a → x ≡ None → ⊥
no_code a x e f = cc

module _ (db : Database) (all : Code) (is : IsCodeOf db all) (q : ℕ) where
  pub code_there : (p : Protocol) → slice_get db.protocols q ≡ Some p → slice_get all.protocols q ≡ None → ⊥
  code_there p e n = let h = is q p e in no_code h.code (slice_get all.protocols q) h.stands n

  module _ (p : Protocol) (declared : slice_get db.protocols q ≡ Some p) (code : ProtoCode) (stands : slice_get all.protocols q ≡ Some code) (z : Frame) (ps : List (ℕ × List ℕ)) (none_yet : ps ≡ []) (f : AllFit db (from_here db q z)) where
    does_it : Does db code 0 (protocol_run db (slice_get db.protocols q))
    does_it =
        let h = is q p declared in
        let c : h.code ≡ code = same_code h.code code (slice_get all.protocols q) h.stands stands in
        let d = subst (λ (x : ProtoCode). Does db x 0 (list db p (elements_of p) none)) c h.does in
        subst (λ (x : Option Protocol). Does db code 0 (protocol_run db x)) (sym declared) d

    fit_it : AllFit db (protocol_run db (slice_get db.protocols q) (entering ps z))
    fit_it = subst (λ (y : Frame). AllFit db (protocol_run db (slice_get db.protocols q) y)) (sym (entering_is ps z none_yet)) f

    pub has_run : HasRun db code (entering ps z)
    has_run = record { run = protocol_run db (slice_get db.protocols q); does = does_it; fit = fit_it }

    pub protocol_ends : (c : Session) (l : Option Log) (o : Result Ended NoMemory) (c' : Session) (l' : Option Log) → RunEnds db code (entering ps z) c l o c' l' → ProtocolEnds db q z c l o c' l'
    protocol_ends c l (Ok e) c' l' h =
        let x = subst (λ (y : Frame). Ends db z.env.packet.stamp (protocol_run db (slice_get db.protocols q)) (point y c l) (Ok (e.way, e.nodes)) (point e.frame c' l')) (entering_is ps z none_yet) (h (protocol_run db (slice_get db.protocols q)) does_it fit_it) in
        record { ends = x.ends }
    protocol_ends c l (Err e) c' l' h = λ y.
        let x = subst (λ (v : Frame). Ends db z.env.packet.stamp (protocol_run db (slice_get db.protocols q)) (point v c l) (Err e) (point y c' l')) (entering_is ps z none_yet) (h (protocol_run db (slice_get db.protocols q)) does_it fit_it y) in
        record { ends = x.ends }

pub undeclared : (db : Database) (q : ℕ) (z : Frame) (ps : List (ℕ × List ℕ)) (ns : List Node) (c : Session) (l : Option Log) → slice_get db.protocols q ≡ None → ps ≡ [] → ns ≡ [] → ProtocolEnds db q z c l (Ok (record { way = Next; nodes = ns; frame = entering ps z })) c l
undeclared db q z ps ns c l e f g =
    subst (λ (x : List Node). ProtocolEnds db q z c l (Ok (record { way = Next; nodes = x; frame = entering ps z })) c l) (sym g)
    (subst (λ (x : List (ℕ × List ℕ)). ProtocolEnds db q z c l (Ok (record { way = Next; nodes = []; frame = entering x z })) c l) (sym f)
    (ends_gives db z.env.packet.stamp (from_here db q) z (entered z) (Next, []) c l (ap (λ (x : Option Protocol). protocol_run db x (entered z)) e)))

-- ---- what follows

pub not_chosen : (left : ℕ) (e : Ended) → ((q : ℕ) → e.way ≡ Chose q → ⊥) → Named left e (Ok None) e
not_chosen left e h = (refl, λ go q from. by e.way refl go q from)
  where
    by : (w : Way) → e.way ≡ w → (go : ℕ → Step Frame (List Proto)) (q from : ℕ) → follow w left go q from e.nodes e.frame ≡ ends q from e.nodes e.frame
    by Next f go q from = refl
    by Break f go q from = refl
    by Continue f go q from = refl
    by (Chose r) f go q from = absurd (h r f)
    by (Stop r) f go q from = refl

module _ (left : ℕ) (e : Ended) (r : ℕ) (chosen : e.way ≡ Chose r) where
  here : (b : Bool) → is_at_end e.frame ≡ b → (n : ℕ) (go : ℕ → Step Frame (List Proto)) (q from : ℕ) → follow e.way n go q from e.nodes e.frame ≡ onward b n go q from r e.nodes e.frame
  here b f n go q from = ap (λ (w : Way). follow w n go q from e.nodes e.frame) chosen ∙ ap (λ (x : Bool). onward x n go q from r e.nodes e.frame) f

  pub at_end : length e.frame.env.packet.bytes ≤ e.frame.env.at → Named left e (Ok None) e
  at_end h = (refl, λ go q from. here true (le-leb (length e.frame.env.packet.bytes) e.frame.env.at h) left go q from)

  module _ (more : e.frame.env.at < length e.frame.env.packet.bytes) where
    pub none_left : left ≡ zero → (e' : Ended) → e' ≡ record e { nodes = e.nodes ++ Note reason.Protocols e.frame.env.at ∷ [] } → Named left e (Ok None) e'
    none_left h e' f = (
      ap (λ (x : Ended). x.frame) f,
      λ go q from.
          here false (lt-leb (length e.frame.env.packet.bytes) e.frame.env.at more) left go q from ∙ (ap (λ n. onward false n go q from r e.nodes e.frame) h ∙ ap (λ (x : List Node). ends q from x e.frame) (sym (ap (λ (x : Ended). x.nodes) f))),
    )

    pub goes_on : 0 < left → Named left e (Ok (Some r)) e
    goes_on h = let k : left ≡ suc (left - 1) = omega arith in (left - 1, k, refl, λ go q from. here false (lt-leb (length e.frame.env.packet.bytes) e.frame.env.at more) (suc (left - 1)) go q from)

pub named_refused : (left : ℕ) (e e' : Ended) (o : Result (Option ℕ) NoMemory) (f : NoMemory) → o ≡ Err f → Named left e o e'
named_refused left e e' o f h = subst (λ (x : Result (Option ℕ) NoMemory). Named left e x e') (sym h) tt

pub positive : (n : ℕ) → (n ≡ 0 → ⊥) → 0 < n
positive zero h = absurd (h refl)
positive (suc n) h = omega arith

-- ---- the chain

module _ (db : Database) where
  -- protocols before those that a computation gives
  abbrev pub before : List Proto → Step Frame (List Proto) → Step Frame (List Proto)
  before ps p = λ z. and_then (p z) (λ r. Gives (ps ++ r.0, r.1))

  -- what follows a protocol that ended
  abbrev pub link : ℕ → ℕ → ℕ → Went → Step Frame (List Proto)
  link n q from w = follow w.0 n (chain db n) q from w.1

  chain_is : (n q : ℕ) (z : Frame) → chain db (suc n) q z ≡ and_then (from_here db q z) (λ r. link n q z.env.at r.0 r.1)
  unfolding chain
  chain_is n q z = refl

  before_is : (ps : List Proto) (n q : ℕ) (z : Frame) → before ps (chain db (suc n) q) z ≡ (from_here db q then (λ w. before ps (link n q z.env.at w))) z
  before_is ps n q z =
      ap (λ (x : Asks (List Proto × Frame)). and_then x (λ r. Gives (ps ++ r.0, r.1))) (chain_is n q z)
      ∙ and_assoc {A = Went × Frame} {B = List Proto × Frame} {C = List Proto × Frame} (from_here db q z) (λ r. link n q z.env.at r.0 r.1) (λ r. Gives (ps ++ r.0, r.1))

  pub record ChainSoFar (n q : ℕ) (z : Frame) (c : Session) (l : Option Log) (left number : ℕ) (ps : List Proto) (y : Frame) (c' : Session) (l' : Option Log) : Type 0 where
    pub packet : y.env.packet ≡ z.env.packet
    pub placed : IsPlaced y
    pub leads : Leads db z.env.packet.stamp (chain db n q) (point z c l) (before ps (chain db (suc left) number)) (point y c' l')
    pub fit : AllFit db (before ps (chain db (suc left) number) y)

  pub chain_first : (left q : ℕ) (z : Frame) (c : Session) (l : Option Log) → IsPlaced z → AllFit db (chain db (suc left) q z) → ChainSoFar (suc left) q z c l left q [] z c l
  chain_first left q z c l p f =
      let same : before [] (chain db (suc left) q) z ≡ chain db (suc left) q z = and_gives (chain db (suc left) q z) in
      record {
        packet = refl;
        placed = p;
        leads = leads_same db z.env.packet.stamp (chain db (suc left) q) (before [] (chain db (suc left) q)) (point z c l) (sym same);
        fit = subst (λ (x : Asks (List Proto × Frame)). AllFit db x) (sym same) f;
      }

  module _ (n q : ℕ) (z : Frame) (c : Session) (l : Option Log) (left number : ℕ) (ps : List Proto) (y : Frame) (c' : Session) (l' : Option Log) (x : ChainSoFar n q z c l left number ps y c' l') where
    parts : before ps (chain db (suc left) number) y ≡ (from_here db number then (λ w. before ps (link left number y.env.at w))) y
    parts = before_is ps left number y

    all_fit : AllFit db ((from_here db number then (λ w. before ps (link left number y.env.at w))) y)
    all_fit = subst (λ (u : Asks (List Proto × Frame)). AllFit db u) parts x.fit

    pub chain_time : (most : ℕ) → z.env.packet.stamp < most → y.env.packet.stamp < most
    chain_time most h = subst (λ (p : Packet). p.stamp < most) (sym x.packet) h

    pub chain_fit : AllFit db (from_here db number y)
    chain_fit = fit_first db (from_here db number y) (λ r. before ps (link left number y.env.at r.0) r.1) all_fit

    stamp : y.env.packet.stamp ≡ z.env.packet.stamp
    stamp = ap (λ (p : Packet). p.stamp) x.packet

    begun : Leads db z.env.packet.stamp (chain db n q) (point z c l) (from_here db number then (λ w. before ps (link left number y.env.at w))) (point y c' l')
    begun = leads_on db z.env.packet.stamp x.leads (leads_same db z.env.packet.stamp (before ps (chain db (suc left) number)) (from_here db number then (λ w. before ps (link left number y.env.at w))) (point y c' l') parts)

    pub chain_failed : (o : Result Chained NoMemory) (e : NoMemory) (c'' : Session) (l'' : Option Log) → o ≡ Err e → ProtocolEnds db number y c' l' (Err e) c'' l'' → ChainEnds db n q z c l o c'' l''
    chain_failed o e c'' l'' g h = subst (λ (u : Result Chained NoMemory). ChainEnds db n q z c l u c'' l'') (sym g) by
      where
        by : ChainEnds db n q z c l (Err e) c'' l''
        by v =
            begun.leads (Err e) (point v c'' l'')
            (ends_first db z.env.packet.stamp (from_here db number) (λ w. before ps (link left number y.env.at w)) (point y c' l') (point v c'' l'') e
            (subst (λ u. Ends db u (from_here db number) (point y c' l') (Err e) (point v c'' l'')) stamp (h v)))

    module _ (e : Ended) (c'' : Session) (l'' : Option Log) (h : ProtocolEnds db number y c' l' (Ok e) c'' l'') where
      whole : Ends db z.env.packet.stamp (from_here db number) (point y c' l') (Ok (e.way, e.nodes)) (point e.frame c'' l'')
      whole = subst (λ u. Ends db u (from_here db number) (point y c' l') (Ok (e.way, e.nodes)) (point e.frame c'' l'')) stamp h

      linked : Leads db z.env.packet.stamp (chain db n q) (point z c l) (before ps (link left number y.env.at (e.way, e.nodes))) (point e.frame c'' l'')
      linked = leads_on db z.env.packet.stamp begun (leads_then db z.env.packet.stamp (from_here db number) (λ w. before ps (link left number y.env.at w)) (point y c' l') (point e.frame c'' l'') (e.way, e.nodes) whole)

      linked_fit : AllFit db (before ps (link left number y.env.at (e.way, e.nodes)) e.frame)
      linked_fit =
          subst (λ (r : Went × Frame). AllFit db (before ps (link left number y.env.at r.0) r.1)) whole.ends.gave
          (fit_then db z.env.packet.stamp (from_here db number y) (λ r. before ps (link left number y.env.at r.0) r.1) c' all_fit)

      pub chain_refused : (o : Result Chained NoMemory) (f : NoMemory) → o ≡ Err f → ChainEnds db n q z c l o c'' l''
      chain_refused o f g = subst (λ (u : Result Chained NoMemory). ChainEnds db n q z c l u c'' l'') (sym g) by
        where
          by : ChainEnds db n q z c l (Err f) c'' l''
          by v = linked.leads (Err f) (point v c'' l'') (ends_refused db z.env.packet.stamp (before ps (link left number y.env.at (e.way, e.nodes))) f e.frame v c'' l'')

      pub chain_last : (e' : Ended) → Named left e (Ok None) e' → ChainEnds db n q z c l (Ok (record { protos = ps ++ proto_from number y.env.at e'.nodes e'.frame ∷ []; frame = e'.frame })) c'' l''
      chain_last e' g =
          let last : before ps (link left number y.env.at (e.way, e.nodes)) e.frame ≡ Gives (ps ++ proto_from number y.env.at e'.nodes e.frame ∷ [], e.frame) = ap (λ (x : Asks (List Proto × Frame)). and_then x (λ r. Gives (ps ++ r.0, r.1))) (g.1 (chain db left) number y.env.at) in
          subst (λ (v : Frame). Ends db z.env.packet.stamp (chain db n q) (point z c l) (Ok (ps ++ proto_from number y.env.at e'.nodes v ∷ [])) (point v c'' l'')) (sym g.0)
          (linked.leads (Ok (ps ++ proto_from number y.env.at e'.nodes e.frame ∷ [])) (point e.frame c'' l'')
          (ends_gives db z.env.packet.stamp (before ps (link left number y.env.at (e.way, e.nodes))) e.frame e.frame (ps ++ proto_from number y.env.at e'.nodes e.frame ∷ []) c'' l'' last))

      pub chain_on : (r : ℕ) (e' : Ended) (g : Named left e (Ok (Some r)) e') → IsPlaced e.frame → e.frame.env.packet ≡ y.env.packet
          → ChainSoFar n q z c l g.0 r (ps ++ proto_from number y.env.at e'.nodes e'.frame ∷ []) e'.frame c'' l''
      chain_on r e' g p f =
          subst (λ (v : Ended). ChainSoFar n q z c l g.0 r (ps ++ proto_from number y.env.at v.nodes v.frame ∷ []) v.frame c'' l'') (sym g.2)
          (record {
            packet = f ∙ x.packet;
            placed = p;
            leads = leads_on db z.env.packet.stamp more (leads_same db z.env.packet.stamp (before ps (link (suc k) number y.env.at (e.way, e.nodes))) (before (ps ++ this ∷ []) (chain db (suc k) r)) (point e.frame c'' l'') same);
            fit = subst (λ (u : Asks (List Proto × Frame)). AllFit db u) same more_fit;
          })
        where
          k : ℕ
          k = g.0

          this : Proto
          this = proto_from number y.env.at e.nodes e.frame

          more : Leads db z.env.packet.stamp (chain db n q) (point z c l) (before ps (link (suc k) number y.env.at (e.way, e.nodes))) (point e.frame c'' l'')
          more = subst (λ u. Leads db z.env.packet.stamp (chain db n q) (point z c l) (before ps (link u number y.env.at (e.way, e.nodes))) (point e.frame c'' l'')) g.1 linked

          more_fit : AllFit db (before ps (link (suc k) number y.env.at (e.way, e.nodes)) e.frame)
          more_fit = subst (λ u. AllFit db (before ps (link u number y.env.at (e.way, e.nodes)) e.frame)) g.1 linked_fit

          same : before ps (link (suc k) number y.env.at (e.way, e.nodes)) e.frame ≡ before (ps ++ this ∷ []) (chain db (suc k) r) e.frame
          same =
              ap (λ (x : Asks (List Proto × Frame)). and_then x (λ v. Gives (ps ++ v.0, v.1))) (g.3 (chain db (suc k)) number y.env.at)
              ∙ (and_assoc {A = List Proto × Frame} {B = List Proto × Frame} {C = List Proto × Frame} (chain db (suc k) r e.frame) (λ v. Gives (this ∷ v.0, v.1)) (λ v. Gives (ps ++ v.0, v.1))
              ∙ (λ i. and_then (chain db (suc k) r e.frame) (λ v. Gives (sym (append_assoc ps (this ∷ []) v.0) i, v.1))))

      pub chain_frame : (next : Option ℕ) (e' : Ended) → next ≡ None → Named left e (Ok next) e' → e'.frame ≡ e.frame
      chain_frame next e' h g = (subst (λ (u : Option ℕ). Named left e (Ok u) e') h g).0

      pub chain_placed : (next : Option ℕ) (e' : Ended) → next ≡ None → Named left e (Ok next) e' → IsPlaced e.frame → IsPlaced e'.frame
      chain_placed next e' h g p = subst IsPlaced (sym (chain_frame next e' h g)) p

      pub chain_packet : (next : Option ℕ) (e' : Ended) → next ≡ None → Named left e (Ok next) e' → e.frame.env.packet ≡ y.env.packet → e'.frame.env.packet ≡ z.env.packet
      chain_packet next e' h g f = ap (λ (v : Frame). v.env.packet) (chain_frame next e' h g) ∙ (f ∙ x.packet)

      pub chain_less : (next : Option ℕ) (r : ℕ) (e' : Ended) → next ≡ Some r → Named left e (Ok next) e' → left - 1 < left
      chain_less next r e' h g = let u = subst (λ (v : Option ℕ). Named left e (Ok v) e') h g in less u.0 u.1
        where
          less : (k : ℕ) → left ≡ suc k → left - 1 < left
          less k f = omega arith

      module _ (e' : Ended) (this : Proto) (made : this ≡ proto_from number y.env.at e'.nodes e'.frame) (ps' : List Proto) (pushed : ps' ≡ ps ++ this ∷ []) where
        all : ps' ≡ ps ++ proto_from number y.env.at e'.nodes e'.frame ∷ []
        all = pushed ∙ ap (λ (v : Proto). ps ++ v ∷ []) made

        pub chain_done : (next : Option ℕ) → next ≡ None → Named left e (Ok next) e' → ChainEnds db n q z c l (Ok (record { protos = ps'; frame = e'.frame })) c'' l''
        chain_done next h g =
            subst (λ (v : List Proto). ChainEnds db n q z c l (Ok (record { protos = v; frame = e'.frame })) c'' l'') (sym all) (chain_last e' (subst (λ (v : Option ℕ). Named left e (Ok v) e') h g))

        pub chain_next : (next : Option ℕ) (r : ℕ) → next ≡ Some r → Named left e (Ok next) e' → IsPlaced e.frame → e.frame.env.packet ≡ y.env.packet → ChainSoFar n q z c l (left - 1) r ps' e'.frame c'' l''
        chain_next next r h g p f =
            let u = subst (λ (v : Option ℕ). Named left e (Ok v) e') h g in
            subst (λ (v : List Proto). ChainSoFar n q z c l (left - 1) r v e'.frame c'' l'') (sym all)
            (subst (λ k. ChainSoFar n q z c l k r (ps ++ proto_from number y.env.at e'.nodes e'.frame ∷ []) e'.frame c'' l'') (fewer u.0 u.1) (chain_on r e' u p f))
          where
            fewer : (k : ℕ) → left ≡ suc k → k ≡ left - 1
            fewer k g = omega arith
