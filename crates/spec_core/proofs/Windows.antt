-- Windows that follow one another are one.
use Rattle.std.specs.Prelude.{◌≡◌, ℕ, zero, suc, ◌+◌, ◌-◌, ◌<◌, ◌≤◌, ◌⊎◌, List, [], ◌∷◌, ◌++◌, length, drop, slice_get, Option, Some, None}
use Rattle.std.proofs.Common.{refl, sym, ap, subst, ◌∙◌, arith, inl, inr, length-append}
use Rattle.db_model.specs.declared.database.Database.{Database}
use Rattle.db_model.specs.declared.packet.Packet.{Packet}
use Rattle.db_model.specs.Replay.{Agrees, differs}
use Rattle.db_model.specs.Serial.{state, decoded}
use Rattle.db_model.specs.Session.{Session}
use Rattle.db_laws.proofs.LawsHold.{serial_from, serial_front}
use Rattle.engine.specs.declared.receipt.Outcome.{Outcome}
use Rattle.engine.specs.declared.receipt.Outcome.TheVariants.{Kept, Again, Direct}
use Rattle.engine.specs.declared.receipt.Taken.{Taken}
use Rattle.engine.specs.declared.texts.Wanted.{Wanted}
use Rattle.spec_core.specs.declared.slot.Ready.{Ready}
use Rattle.spec_core.specs.Machine.{Run, IsTaken, WasTaken, OutcomeIs, IsSettled, state_at, stamp_in, view_of}
use Rattle.spec_core.specs.Texts.{texts_in}
use Rattle.spec_core.specs.Laws.{WindowsJoin}
use Rattle.spec_core.specs.Windows.{Follows, joined}

get_front : {X : Type 0} (xs ys : List X) (k : ℕ) → k < length xs → slice_get (xs ++ ys) k ≡ slice_get xs k
get_front [] ys k h = absurd (omega arith)
get_front (x ∷ xs) ys zero h = refl
get_front (x ∷ xs) ys (suc k) h = get_front xs ys k (omega arith)

get_back : {X : Type 0} (xs ys : List X) (k : ℕ) → slice_get (xs ++ ys) (length xs + k) ≡ slice_get ys k
get_back [] ys k = ap (slice_get ys) (omega arith)
get_back (x ∷ xs) ys k = ap (slice_get (x ∷ (xs ++ ys))) (let e : suc (length xs) + k ≡ suc (length xs + k) = omega arith in e) ∙ get_back xs ys k

drop_front : {X : Type 0} (xs ys : List X) → drop (length xs) (xs ++ ys) ≡ ys
drop_front [] ys = refl
drop_front (x ∷ xs) ys = drop_front xs ys

-- an element of two lists is one of the first or of the second
split_get : {X : Type 0} (xs ys : List X) (k : ℕ) (y : X) → slice_get (xs ++ ys) k ≡ Some y → ((k < length xs) × (slice_get xs k ≡ Some y)) ⊎ ((j : ℕ) × (k ≡ length xs + j) × (slice_get ys j ≡ Some y))
split_get [] ys k y h = inr (k, omega arith, h)
split_get (x ∷ xs) ys zero y h = inl (omega arith, h)
split_get (x ∷ xs) ys (suc k) y h = elim (split_get xs ys k y h) [ inl e ↦ inl (omega (arith, e.0), e.1) | inr e ↦ inr (e.0, omega (arith, e.1), e.2) ]

-- the place i of the run a is the place j of the run b, which begins no later
pub record Same (a b : Run) (i j : ℕ) : Type 0 where
  pub db : b.db ≡ a.db
  pub wanted : b.wanted ≡ a.wanted
  pub number : b.first + j ≡ a.first + i
  pub begins : b.first ≤ a.first
  pub packet : slice_get b.packets j ≡ slice_get a.packets i
  pub states : (v : ℕ) → a.first ≤ v → v ≤ a.first + i → state_at b (v - b.first) ≡ state_at a (v - a.first)

module _ (a b : Run) (i j : ℕ) (s : Same a b i j) where
  state_here : state_at b j ≡ state_at a i
  state_here = ap (state_at b) (omega (arith, s.number)) ∙ s.states (a.first + i) (omega arith) (omega arith) ∙ ap (state_at a) (omega arith)

  taken : (t : Taken) → IsTaken a i t → IsTaken b j t
  taken t k = record { from_base = omega (arith, k.from_base, s.begins); ordered = k.ordered; earlier = omega (arith, k.earlier, s.number); near = k.near; recent = omega (arith, k.recent, s.number) }

  was_taken : (t : Option Taken) → WasTaken a i t → WasTaken b j t
  was_taken None k = tt
  was_taken (Some t) k = taken t k

  abbrev Holds : Database → Option Packet → Session → Session → Outcome → Type 0
  Holds db p v z Kept = Agrees db (stamp_in p) (decoded db p v).log z
  Holds db p v z (Again index old new) = differs db (stamp_in p) (decoded db p v).log z ≡ Some (record { place = index; old = old; new = new })
  Holds db p v z (Direct why) = Unit {0}

  moved : (o : Outcome) (t : Taken) → IsTaken a i t → Holds a.db (slice_get a.packets i) (state_at a (view_of a t)) (state_at a i) o → Holds b.db (slice_get b.packets j) (state_at b (view_of b t)) (state_at b j) o
  moved o t w k =
      subst (λ (d : Database). Holds d (slice_get b.packets j) (state_at b (view_of b t)) (state_at b j) o) (sym s.db)
      (subst (λ (p : Option Packet). Holds a.db p (state_at b (view_of b t)) (state_at b j) o) (sym s.packet)
      (subst (λ (v : Session). Holds a.db (slice_get a.packets i) v (state_at b j) o) (sym (s.states t.v w.from_base (omega (arith, w.ordered, w.earlier))))
      (subst (λ (z : Session). Holds a.db (slice_get a.packets i) (state_at a (view_of a t)) z o) (sym state_here) k)))

  outcome : (o : Outcome) (t : Option Taken) → WasTaken a i t → OutcomeIs a i t o → OutcomeIs b j t o
  outcome Kept None w k = k
  outcome (Again index old new) None w k = k
  outcome (Direct why) None w k = tt
  outcome (Direct why) (Some t) w k = tt
  outcome Kept (Some t) w k = moved Kept t w k
  outcome (Again index old new) (Some t) w k = moved (Again index old new) t w k

  pub settled : (y : Ready) → IsSettled a i y → IsSettled b j y
  settled y k = record {
    texts = k.texts
        ∙ ap (λ (z : Session). texts_in a.wanted a.db (slice_get a.packets i) (decoded a.db (slice_get a.packets i) z).result) (sym state_here)
        ∙ ap (λ (p : Option Packet). texts_in a.wanted a.db p (decoded a.db p (state_at b j)).result) (sym s.packet)
        ∙ ap (λ (d : Database). texts_in a.wanted d (slice_get b.packets j) (decoded d (slice_get b.packets j) (state_at b j)).result) (sym s.db)
        ∙ ap (λ (w : Wanted). texts_in w b.db (slice_get b.packets j) (decoded b.db (slice_get b.packets j) (state_at b j)).result) (sym s.wanted);
    receipt = record {
      number = k.receipt.number ∙ sym s.number;
      taken = was_taken y.receipt.taken k.receipt.taken;
      outcome = outcome y.receipt.outcome y.receipt.taken k.receipt.taken k.receipt.outcome;
    };
  }

module _ (r next : Run) (f : Follows r next) where
  in_front : (k : ℕ) → k ≤ length r.packets → state_at (joined r next) k ≡ state_at r k
  in_front k h = serial_front r.db r.base r.packets next.packets k h

  same_front : (i : ℕ) → i < length r.packets → Same r (joined r next) i i
  same_front i h = record {
    db = refl;
    wanted = refl;
    number = refl;
    begins = omega arith;
    packet = get_front r.packets next.packets i h;
    states = λ v lo hi. in_front (v - r.first) (omega (arith, hi, h));
  }

  in_back : (j : ℕ) → state_at (joined r next) (length r.packets + j) ≡ state_at next j
  in_back j =
      let n = length r.packets in
      let ps = r.packets ++ next.packets in
      sym (serial_from r.db r.base ps n j).0
      ∙ ap (λ (s : Session). state r.db s (drop n ps) j) (in_front n (omega arith) ∙ sym f.base)
      ∙ ap (λ (qs : List Packet). state r.db next.base qs j) (drop_front r.packets next.packets)
      ∙ ap (λ (d : Database). state d next.base next.packets j) (sym f.db)

  same_back : (j : ℕ) → Same next (joined r next) j (length r.packets + j)
  same_back j = record {
    db = sym f.db;
    wanted = sym f.wanted;
    number = omega (arith, f.first);
    begins = omega (arith, f.first);
    packet = get_back r.packets next.packets j;
    states = λ v lo hi. ap (state_at (joined r next)) (omega (arith, lo, f.first)) ∙ in_back (v - next.first);
  }

pub windows_join : WindowsJoin
windows_join r next ys zs f a b = record {
  all = length-append ys zs ∙ ap (λ n. n + length zs) a.all ∙ ap (λ n. length r.packets + n) b.all ∙ sym (length-append r.packets next.packets);
  each = λ i y h. each i y (split_get ys zs i y h);
  v_rises = λ i j x y t u lt h k e g. v_rises i j x y t u lt (split_get ys zs i x h) (split_get ys zs j y k) e g;
  c_rises = λ i j x y t u lt h k e g. c_rises i j x y t u lt (split_get ys zs i x h) (split_get ys zs j y k) e g;
}
  where
    At : ℕ → Ready → Type 0
    At i y = ((i < length ys) × (slice_get ys i ≡ Some y)) ⊎ ((j : ℕ) × (i ≡ length ys + j) × (slice_get zs j ≡ Some y))

    each : (i : ℕ) (y : Ready) → At i y → IsSettled (joined r next) i y
    each i y (inl h) = settled r (joined r next) i i (same_front r next f i (omega (arith, h.0, a.all))) y (a.each i y h.1)
    each i y (inr h) =
        subst (λ (k : ℕ). IsSettled (joined r next) k y) (omega (arith, h.1, a.all))
        (settled next (joined r next) h.0 (length r.packets + h.0) (same_back r next f h.0) y (b.each h.0 y h.2))

    was : (q : Run) (i : ℕ) (y : Ready) (t : Taken) → IsSettled q i y → y.receipt.taken ≡ Some t → IsTaken q i t
    was q i y t k e = subst (WasTaken q i) e k.receipt.taken

    v_rises : (i j : ℕ) (x y : Ready) (t u : Taken) → i < j → At i x → At j y → x.receipt.taken ≡ Some t → y.receipt.taken ≡ Some u → t.v ≤ u.v
    v_rises i j x y t u lt (inl h) (inl k) e g = a.v_rises i j x y t u lt h.1 k.1 e g
    v_rises i j x y t u lt (inl h) (inr k) e g = let p = was r i x t (a.each i x h.1) e in let q = was next k.0 y u (b.each k.0 y k.2) g in omega (arith, p.ordered, p.earlier, h.0, a.all, q.from_base, f.first)
    v_rises i j x y t u lt (inr h) (inl k) e g = absurd (omega (arith, lt, h.1, k.0))
    v_rises i j x y t u lt (inr h) (inr k) e g = b.v_rises h.0 k.0 x y t u (omega (arith, lt, h.1, k.1)) h.2 k.2 e g

    c_rises : (i j : ℕ) (x y : Ready) (t u : Taken) → i < j → At i x → At j y → x.receipt.taken ≡ Some t → y.receipt.taken ≡ Some u → t.c ≤ u.c
    c_rises i j x y t u lt (inl h) (inl k) e g = a.c_rises i j x y t u lt h.1 k.1 e g
    c_rises i j x y t u lt (inl h) (inr k) e g = let p = was r i x t (a.each i x h.1) e in let q = was next k.0 y u (b.each k.0 y k.2) g in omega (arith, p.earlier, h.0, a.all, q.from_base, q.ordered, f.first)
    c_rises i j x y t u lt (inr h) (inl k) e g = absurd (omega (arith, lt, h.1, k.0))
    c_rises i j x y t u lt (inr h) (inr k) e g = b.c_rises h.0 k.0 x y t u (omega (arith, lt, h.1, k.1)) h.2 k.2 e g
