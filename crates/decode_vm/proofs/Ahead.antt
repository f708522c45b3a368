-- How what is left of a run goes on.
use Rattle.std.specs.Prelude.{◌≡◌, ℕ, zero, suc, ◌+◌, ◌<◌, ◌≤◌, min, List, [], ◌∷◌, ◌++◌, length, reverse, slice_get, Option, Some, Result, Ok, Err}
use Rattle.std.proofs.Common.{refl, sym, ap, subst, ◌∙◌, arith}
use Rattle.db_model.specs.declared.database.Database.{Database}
use Rattle.db_model.specs.declared.env.Env.{Env}
use Rattle.db_model.specs.declared.env.Frame.{Frame}
use Rattle.db_model.specs.declared.env.Way.{Way}
use Rattle.db_model.specs.declared.env.Way.TheVariants.{Next, Break, Continue, Chose, Stop}
use Rattle.db_model.specs.declared.no_memory.NoMemory.{NoMemory}
use Rattle.db_model.specs.declared.packet.Packet.{Packet}
use Rattle.db_model.specs.declared.tree.Node.{Node}
use Rattle.db_model.specs.declared.tree.Node.TheVariants.{Note}
use Rattle.db_model.specs.declared.tree.Reason.{Reason}
use Rattle.db_model.specs.Expression.{Eval}
use Rattle.db_model.specs.Over.{Point, point, Ends}
use Rattle.db_model.specs.Questions.{Asks, Gives, Asking, and_then, Log, play, ◌then◌}
use Rattle.db_model.specs.Runs.{Went, Run, leave, halt, go_on, go, within, or_halt, evaluated}
use Rattle.db_model.specs.Session.{Session, ask}
use Rattle.db_model.proofs.Over.{ends_refused, ends_first, leads_on, leads_same, leads_move, leads_then}
use Rattle.pdl_code.specs.declared.code.ProtoCode.{ProtoCode}
use Rattle.pdl_code.specs.Does.{Does, over, plain, jumps, tests, switches, blocks, includes, loops}
use Rattle.expr_eval.specs.Evaluates.{Stays}
use Rattle.decode_vm.specs.declared.machine.Again.{Again}
use Rattle.decode_vm.specs.declared.machine.Again.TheVariants as again
use Rattle.decode_vm.specs.declared.machine.Held.{Held}
use Rattle.decode_vm.specs.declared.machine.Held.TheVariants as held
use Rattle.decode_vm.specs.declared.machine.Machine.{Machine}
use Rattle.decode_vm.specs.declared.machine.Mode.TheVariants as mode
use Rattle.decode_vm.specs.Left.{AllFit, Rest, onto, TurnsLeft, InLoop, Follow, Ahead, Left}
use Rattle.decode_vm.specs.Machine.{place_behind, mode_behind, at_env, halted, Ran}
use Rattle.decode_vm.specs.Values.{Gave, Halts, Fails}
use Rattle.decode_vm.proofs.Algebra.{then_assoc, onto_twice, onto_leave}

-- ---- questions that fit

module _ {A B : Type 0} (db : Database) where
  pub fit_first : (x : Asks A) (f : A → Asks B) → AllFit db (and_then x f) → AllFit db x
  fit_first (Gives a) f h = tt
  fit_first (Asking q k) f h = (h.0, λ r. fit_first (k r) f (h.1 r))

  pub fit_then : (t : ℕ) (x : Asks A) (f : A → Asks B) (s : Session) → AllFit db (and_then x f) → AllFit db (f (play db t x s).result)
  fit_then t (Gives a) f s h = h
  fit_then t (Asking q k) f s h = fit_then t (k (ask db s q t).0) f (ask db s q t).1 (h.1 (ask db s q t).0)

-- ---- places

pub get_within : {A : Type 0} (xs : List A) (i : ℕ) (x : A) → slice_get xs i ≡ Some x → i < length xs
get_within [] i x e = (cc)
get_within (y ∷ ys) zero x e = omega arith
get_within (y ∷ ys) (suc i) x e = let h = get_within ys i x e in omega arith

module _ (db : Database) (code : ProtoCode) where
  -- an operation stands where something is done
  pub there : (pc : ℕ) (r : Run) → Does db code pc r → pc < length code.ops
  there _ _ (over pc e) = get_within code.ops pc _ e
  there _ _ (plain pc o r e p d) = get_within code.ops pc o e
  there _ _ (jumps pc to r e d) = get_within code.ops pc _ e
  there _ _ (tests pc value to rs e d) = get_within code.ops pc _ e
  there _ _ (switches pc value choice rs e d) = get_within code.ops pc _ e
  there _ _ (blocks pc n after body r e b d) = get_within code.ops pc _ e
  there _ _ (includes pc b start body r e s b' d) = get_within code.ops pc _ e
  there _ _ (loops pc kind value after body r e b d) = get_within code.ops pc _ e

  least : (x y : ℕ) → x < y → x ≡ min x y
  least x y h = omega arith

  pub at_place : (pc to : ℕ) (r : Run) → Does db code (pc + 1 + to) r → Does db code (place_behind code pc to) r
  at_place pc to r d = subst (λ x. Does db code x r) (least (pc + 1 + to) (length code.ops) (there (pc + 1 + to) r d)) d

  -- ---- fewer turns

  turns_less : (most most' : ℕ) → most' ≤ most → (a : Again) (body turns : Run) → TurnsLeft db code most a body turns → TurnsLeft db code most' a body turns
  turns_less most most' h (again.Count n) body turns g = g
  turns_less most most' h (again.While at) body turns g = record { left = g.left; value = g.value; after = g.after; enough = omega (arith, g.enough); stands = g.stands; is = g.is }
  turns_less most most' h (again.Size old) body turns g = record { left = g.left; enough = omega (arith, g.enough); is = g.is }

  loop_less : (most most' : ℕ) → most' ≤ most → (a : Again) (body after : ℕ) → InLoop db code most a body after → InLoop db code most' a body after
  loop_less most most' h a body after g = record { inner = g.inner; turns = g.turns; rest = g.rest; at_body = g.at_body; at_rest = g.at_rest; left = turns_less most most' h a g.inner g.turns g.left }

  pub follow_less : (most most' : ℕ) → most' ≤ most → (hs : List Held) (k : Rest) → Follow db code most hs k → Follow db code most' hs k
  unfolding loop_less
  follow_less most most' h [] k f = f
  follow_less most most' h (held.Block n from before after ∷ hs) k f = (f.0, (follow_less most most' h hs f.0 f.1.0, f.1.1))
  follow_less most most' h (held.Loop a body after ∷ hs) k f = (f.0, (follow_less most most' h hs f.0 f.1.0, record { loop = loop_less most most' h a body after f.1.1.loop; is = f.1.1.is }))

  module _ (t : ℕ) (w : Run) (s : Point Frame) where
    -- ---- without a question

    pub ahead_move : (p q : Run) (j k : Rest) (m n : Machine) (c : Session) (l : Option Log) → Ahead db code t w s p j m c l → Follow db code n.frame.env.turns (reverse n.held) k → n.frame.env.packet ≡ m.frame.env.packet
        → (p then onto m.nodes j) m.frame ≡ (q then onto n.nodes k) n.frame → Ahead db code t w s q k n c l
    ahead_move p q j k m n c l a f e x = record {
      follow = f;
      stamp = ap (λ (y : Packet). y.stamp) e ∙ a.stamp;
      leads = leads_on db t a.leads (leads_move db t (p then onto m.nodes j) (q then onto n.nodes k) m.frame n.frame c l x);
      fit = subst (λ (y : Asks (Went × Frame)). AllFit db y) x a.fit;
    }

    -- the same run, told otherwise
    pub ahead_same : (p q : Run) (k : Rest) (m : Machine) (c : Session) (l : Option Log) → p ≡ q → Ahead db code t w s p k m c l → Ahead db code t w s q k m c l
    ahead_same p q k m c l e a = subst (λ r. Ahead db code t w s r k m c l) e a

    -- a way that a list ends
    pub left_leave : (v : Way) (p : Run) (k : Rest) (m : Machine) (ns : List Node) (z : Frame) (c : Session) (l : Option Log) → Ahead db code t w s p k m c l → z.env.packet ≡ m.frame.env.packet → z.env.turns ≡ m.frame.env.turns
        → (p then onto m.nodes k) m.frame ≡ k (v, ns) z → Left db code t w s (record m { mode = mode.Leaving v; nodes = ns; frame = z }) c l
    left_leave v p k m ns z c l a e f x = record {
      run = leave v;
      rest = k;
      doing = refl;
      ahead = ahead_move p (leave v) k k m (record m { mode = mode.Leaving v; nodes = ns; frame = z }) c l a (subst (λ n. Follow db code n (reverse m.held) k) (sym f) a.follow) e (x ∙ sym (onto_leave v ns k z));
    }

    -- a part that was done at once, before the rest of its list
    pub went : (p r : Run) (k : Rest) (after : ℕ) (m : Machine) (c : Session) (l : Option Log) → Ahead db code t w s (p then go r) k m c l → Does db code after r → (v : Way) (ns : List Node) (z : Frame) → p m.frame ≡ Gives ((v, ns), z)
        → z.env.packet ≡ m.frame.env.packet → z.env.turns ≡ m.frame.env.turns → Left db code t w s (record m { mode = mode_behind after v; nodes = m.nodes ++ ns; frame = z }) c l
    went p r k after m c l a d v ns z g e f = by v g
      where
        first : (u : Way) → p m.frame ≡ Gives ((u, ns), z) → ((p then go r) then onto m.nodes k) m.frame ≡ (go_on u ns r then onto m.nodes k) z
        first u g = ap (λ (x : Asks (Went × Frame)). and_then (and_then x (λ y. go r y.0 y.1)) (λ y. onto m.nodes k y.0 y.1)) g

        by : (u : Way) → p m.frame ≡ Gives ((u, ns), z) → Left db code t w s (record m { mode = mode_behind after u; nodes = m.nodes ++ ns; frame = z }) c l
        by Next g = record {
          run = r;
          rest = k;
          doing = d;
          ahead = ahead_move (p then go r) r k k m (record m { mode = mode.At after; nodes = m.nodes ++ ns; frame = z }) c l a (subst (λ n. Follow db code n (reverse m.held) k) (sym f) a.follow) e
              (first Next g ∙ ap (λ (q : Run). q z) (onto_twice m.nodes ns r k));
        }
        by Break g = left_leave Break (p then go r) k m (m.nodes ++ ns) z c l a e f (first Break g)
        by Continue g = left_leave Continue (p then go r) k m (m.nodes ++ ns) z c l a e f (first Continue g)
        by (Chose q) g = left_leave (Chose q) (p then go r) k m (m.nodes ++ ns) z c l a e f (first (Chose q) g)
        by (Stop q) g = left_leave (Stop q) (p then go r) k m (m.nodes ++ ns) z c l a e f (first (Stop q) g)

    pub left_ran : (p r : Run) (k : Rest) (after : ℕ) (m n : Machine) (c : Session) (l : Option Log) → Ahead db code t w s (p then go r) k m c l → Does db code after r → Ran p after m n → Left db code t w s n c l
    left_ran p r k after m n c l a d g =
        subst (λ x. Left db code t w s x c l) (sym g.is) (went p r k after m c l a d g.way g.nodes g.frame g.gave g.keeps.packet g.keeps.turns)

    -- the decoding ends
    pub left_halt : (r : Reason) (k : Rest) (m : Machine) (c : Session) (l : Option Log) → Ahead db code t w s (halt r) k m c l → Left db code t w s (halted r m) c l
    left_halt r k m c l a = left_leave (Stop r) (halt r) k m (m.nodes ++ Note r m.frame.env.at ∷ []) m.frame c l a refl refl refl

    -- memory was refused, and nothing more was asked
    pub ahead_refused : (p : Run) (k : Rest) (m : Machine) (z : Frame) (e : NoMemory) (c : Session) (l : Option Log) → Ahead db code t w s p k m c l → Ends db t w s (Err e) (point z c l)
    ahead_refused p k m z e c l a = a.leads.leads (Err e) (point z c l) (ends_refused db t (p then onto m.nodes k) e m.frame z c l)

    -- ---- an evaluation

    module _ {A : Type 0} (q : Eval A) (f : A → Run) (k : Rest) (m : Machine) (c : Session) (l : Option Log) (c' : Session) (l' : Option Log) where
      parts : (evaluated q f then onto m.nodes k) ≡ (within q then (λ o. or_halt f o then onto m.nodes k))
      parts = then_assoc (within q) (or_halt f) (onto m.nodes k)

      ahead_outcome : (o : Result A Reason) (env : Env) → Ahead db code t w s (evaluated q f) k m c l → Stays m.frame.env env → Ends db m.frame.env.packet.stamp (within q) (point m.frame c l) (Ok o) (point (at_env env m).frame c' l')
          → Ahead db code t w s (or_halt f o) k (at_env env m) c' l'
      ahead_outcome o env a h g =
          let n = at_env env m in
          let ends = subst (λ x. Ends db x (within q) (point m.frame c l) (Ok o) (point n.frame c' l')) a.stamp g in
          let rest : Result A Reason → Run = λ x. or_halt f x then onto m.nodes k in
          record {
            follow = subst (λ x. Follow db code x (reverse m.held) k) (sym (ap (λ (y : Env). y.turns) h)) a.follow;
            stamp = ap (λ (y : Env). y.packet.stamp) h ∙ a.stamp;
            leads = leads_on db t a.leads (leads_on db t (leads_same db t (evaluated q f then onto m.nodes k) (within q then rest) (point m.frame c l) (ap (λ (p : Run). p m.frame) parts))
                (leads_then db t (within q) rest (point m.frame c l) (point n.frame c' l') o ends));
            fit = subst (λ (x : Result A Reason × Frame). AllFit db (rest x.0 x.1)) ends.ends.gave
                (fit_then db t (within q m.frame) (λ x. rest x.0 x.1) c (subst (λ (y : Asks (Went × Frame)). AllFit db y) (ap (λ (p : Run). p m.frame) parts) a.fit));
          }

      pub ahead_value : (v : A) (n : Machine) → Ahead db code t w s (evaluated q f) k m c l → Gave db q m c l v n c' l' → Ahead db code t w s (f v) k n c' l'
      ahead_value v n a g = subst (λ x. Ahead db code t w s (f v) k x c' l') (sym g.is) (ahead_outcome (Ok v) g.env a g.stays g.ends)

      pub left_reason : (n : Machine) → Ahead db code t w s (evaluated q f) k m c l → Halts db q m c l n c' l' → Left db code t w s n c' l'
      left_reason n a g =
          subst (λ x. Left db code t w s x c' l') (sym g.is) (left_halt g.reason k (at_env g.env m) c' l' (ahead_outcome (Err g.reason) g.env a g.stays g.ends))

      pub ends_failed : (e : NoMemory) (n : Machine) → Ahead db code t w s (evaluated q f) k m c l → Fails db q m c l e n c' l' → Ends db t w s (Err e) (point n.frame c' l')
      ends_failed e n a g =
          let ends = subst (λ x. Ends db x (within q) (point m.frame c l) (Err e) (point n.frame c' l')) a.stamp g.ends in
          let rest : Result A Reason → Run = λ x. or_halt f x then onto m.nodes k in
          (leads_on db t a.leads (leads_same db t (evaluated q f then onto m.nodes k) (within q then rest) (point m.frame c l) (ap (λ (p : Run). p m.frame) parts))).leads (Err e) (point n.frame c' l')
          (ends_first db t (within q) rest (point m.frame c l) (point n.frame c' l') e ends)
