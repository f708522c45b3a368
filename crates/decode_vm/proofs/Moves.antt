-- The steps of a machine, each from what its code says.
use Rattle.std.specs.Prelude.{◌≡◌, ℕ, zero, suc, ◌-◌, ◌<◌, ◌≤◌, Bool, true, false, if◌then◌else◌, nat_lt, ◌==◌, List, [], ◌∷◌, ◌++◌, length, Option}
use Rattle.std.proofs.Common.{refl, sym, ap, subst, ◌∙◌, arith}
use Rattle.db_model.specs.declared.database.Database.{Database}
use Rattle.db_model.specs.declared.env.Frame.{Frame}
use Rattle.db_model.specs.declared.no_memory.NoMemory.{NoMemory}
use Rattle.db_model.specs.declared.tree.Reason.TheVariants as reason
use Rattle.db_model.specs.Expression.{Eval, is_so}
use Rattle.db_model.specs.Over.{Point}
use Rattle.db_model.specs.Questions.{Log, ◌then◌}
use Rattle.db_model.specs.Runs.{Run, next, halt, go, evaluated, block, with_turns, turn, count, repeat, before_limit}
use Rattle.db_model.specs.Session.{Session}
use Rattle.pdl_code.specs.declared.code.ProtoCode.{ProtoCode}
use Rattle.pdl_code.specs.Does.{Does}
use Rattle.decode_vm.specs.declared.machine.Again.{Again}
use Rattle.decode_vm.specs.declared.machine.Again.TheVariants as again
use Rattle.decode_vm.specs.declared.machine.Held.TheVariants as held
use Rattle.decode_vm.specs.declared.machine.Machine.{Machine}
use Rattle.decode_vm.specs.declared.machine.Mode.{Mode}
use Rattle.decode_vm.specs.declared.machine.Mode.TheVariants as mode
use Rattle.decode_vm.specs.Cost.{of_mode}
use Rattle.decode_vm.specs.Left.{Rest, of_loop, TurnsLeft, Doing, Ahead, Left, Nearer, Moves, Refuses}
use Rattle.decode_vm.specs.Machine.{place_behind, in_mode, at_env, halted, opened, restored, spent, over, counted, sized, Ran}
use Rattle.decode_vm.specs.Sound.{olds_in}
use Rattle.decode_vm.specs.Values.{Gave, Halts, Fails}
use Rattle.decode_vm.proofs.Algebra.{no_turn}
use Rattle.decode_vm.proofs.Ahead.{ahead_same, ahead_value, ahead_refused, left_reason, left_ran, ends_failed}
use Rattle.decode_vm.proofs.Lists.{left_opened, left_unopened, left_spent, left_over, left_unspent}
use Rattle.decode_vm.proofs.Nearer.{is_zero, not_zero, near_env, near_mode, near_halted, near_ran, near_opened, near_over, near_spent, near_unspent}

module _ (db : Database) (code : ProtoCode) where
  -- what the machine is about to do begins with this evaluation, and P holds of what follows it
  abbrev pub Begins : {A : Type 0} → Eval A → ((A → Run) → Type 0) → Machine → Type 0
  Begins q P m = (r : Run) → Doing db code m.frame.env.turns m.mode r → (f : _ → Run) × (r ≡ evaluated q f) × P f

  -- ---- memory

  pub refuses_here : (m n : Machine) (e : NoMemory) (c : Session) (l : Option Log) → Refuses db code m c l e n c l
  refuses_here m n e c l = record { begun = λ t w s h. ahead_refused db code t w s h.run h.rest m n.frame e c l h.ahead }

  -- ---- another mode

  pub in_other : (t : ℕ) (w : Run) (s : Point Frame) (p : Run) (k : Rest) (x : Mode) (m : Machine) (c : Session) (l : Option Log) → Ahead db code t w s p k m c l → Ahead db code t w s p k (in_mode x m) c l
  in_other t w s p k x m c l a = record { follow = a.follow; stamp = a.stamp; leads = a.leads; fit = a.fit }

  pub moves_mode : (m : Machine) (x : Mode) (c : Session) (l : Option Log) → ((r : Run) → Doing db code m.frame.env.turns m.mode r → Doing db code m.frame.env.turns x r) → ((os : List ℕ) → olds_in x os ≡ olds_in m.mode os)
      → of_mode (length code.ops) x < of_mode (length code.ops) m.mode → Moves db code m c l (in_mode x m) c l
  moves_mode m x c l d o h = record {
    left = λ t w s a. record { run = a.run; rest = a.rest; doing = d a.run a.doing; ahead = in_other t w s a.run a.rest x m c l a.ahead };
    nearer = near_mode code m x o h;
  }

  -- ---- a part that was done at once

  pub moves_ran : (p : Run) (pc to : ℕ) (m n : Machine) (c : Session) (l : Option Log) → m.mode ≡ mode.At pc → pc < length code.ops
      → ((r : Run) → Does db code pc r → (rest : Run) × (r ≡ p then go rest) × Does db code (place_behind code pc to) rest) → Ran p (place_behind code pc to) m n → Moves db code m c l n c l
  moves_ran p pc to m n c l e h d g = record {
    left = λ t w s a.
        let x = d a.run (subst (λ y. Doing db code m.frame.env.turns y a.run) e a.doing) in
        left_ran db code t w s p x.0 a.rest (place_behind code pc to) m n c l (ahead_same db code t w s a.run (p then go x.0) a.rest m c l x.1 a.ahead) x.2 g;
    nearer = near_ran code p pc to m n e h g;
  }

  -- ---- an evaluation

  module _ {A : Type 0} (q : Eval A) (P : (A → Run) → Type 0) (m : Machine) (c : Session) (l : Option Log) (c' : Session) (l' : Option Log) (b : Begins q P m) where
    pub refuses_failed : (e : NoMemory) (n : Machine) → Fails db q m c l e n c' l' → Refuses db code m c l e n c' l'
    refuses_failed e n g = record {
      begun = λ t w s a. let x = b a.run a.doing in ends_failed db code t w s q x.0 a.rest m c l c' l' e n (ahead_same db code t w s a.run (evaluated q x.0) a.rest m c l x.1 a.ahead) g;
    }

    pub refuses_after : (v : A) (o n : Machine) (e : NoMemory) → Gave db q m c l v o c' l' → Refuses db code m c l e n c' l'
    refuses_after v o n e g = record {
      begun = λ t w s a.
          let x = b a.run a.doing in
          ahead_refused db code t w s (x.0 v) a.rest o n.frame e c' l' (ahead_value db code t w s q x.0 a.rest m c l c' l' v o (ahead_same db code t w s a.run (evaluated q x.0) a.rest m c l x.1 a.ahead) g);
    }

    pub moves_halted : (n : Machine) → ((os : List ℕ) → os ≡ olds_in m.mode os) → 1 < of_mode (length code.ops) m.mode → Halts db q m c l n c' l' → Moves db code m c l n c' l'
    moves_halted n o h g = record {
      left = λ t w s a. let x = b a.run a.doing in left_reason db code t w s q x.0 a.rest m c l c' l' n (ahead_same db code t w s a.run (evaluated q x.0) a.rest m c l x.1 a.ahead) g;
      nearer = subst (λ y. Nearer code m y) (sym g.is) (near_env code m g.env (halted g.reason (at_env g.env m)) g.stays (near_halted code (at_env g.env m) g.reason o h));
    }

    pub moves_value : (v : A) (o n : Machine) → Gave db q m c l v o c' l' → ((t : ℕ) (w : Run) (s : Point Frame) (k : Rest) (f : A → Run) → P f → Ahead db code t w s (f v) k o c' l' → Left db code t w s n c' l') → Nearer code o n → Moves db code m c l n c' l'
    moves_value v o n g step r = record {
      left = λ t w s a.
          let x = b a.run a.doing in
          step t w s a.rest x.0 x.2 (ahead_value db code t w s q x.0 a.rest m c l c' l' v o (ahead_same db code t w s a.run (evaluated q x.0) a.rest m c l x.1 a.ahead) g);
      nearer = near_env code m g.env n g.stays (subst (λ y. Nearer code y n) g.is r);
    }

  -- of what is done behind an evaluation, the mode
  pub moves_chosen : {A : Type 0} (q : Eval A) (v : A) (x : Mode) (m o : Machine) (c : Session) (l : Option Log) (c' : Session) (l' : Option Log) → Begins q (λ f. (most : ℕ) → Doing db code most x (f v)) m
      → ((os : List ℕ) → olds_in x os ≡ olds_in m.mode os) → of_mode (length code.ops) x < of_mode (length code.ops) m.mode → Gave db q m c l v o c' l' → Moves db code m c l (in_mode x o) c' l'
  moves_chosen q v x m o c l c' l' b h k g =
      moves_value q (λ f. (most : ℕ) → Doing db code most x (f v)) m c l c' l' b v o (in_mode x o) g
      (λ t w s j f p a. record { run = f v; rest = j; doing = p o.frame.env.turns; ahead = in_other t w s (f v) j x o c' l' a })
      (subst (λ (y : Machine). Nearer code y (in_mode x y)) (sym g.is) (near_mode code (at_env g.env m) x h k))

  -- of what is done behind an evaluation, a part at once
  pub moves_ran_value : {A : Type 0} (q : Eval A) (f : A → Run) (v : A) (pc to : ℕ) (m o n : Machine) (c : Session) (l : Option Log) (c' : Session) (l' : Option Log) → m.mode ≡ mode.At pc → pc < length code.ops
      → Begins q (λ g. (rest : Run) × (g v ≡ f v then go rest) × Does db code (place_behind code pc to) rest) m → Gave db q m c l v o c' l' → Ran (f v) (place_behind code pc to) o n → Moves db code m c l n c' l'
  moves_ran_value q f v pc to m o n c l c' l' e h b g r =
      moves_value q (λ j. (rest : Run) × (j v ≡ f v then go rest) × Does db code (place_behind code pc to) rest) m c l c' l' b v o n g
      (λ t w s k j p a. left_ran db code t w s (f v) p.0 k (place_behind code pc to) o n c' l' (ahead_same db code t w s (j v) (f v then go p.0) k o c' l' p.1 a) p.2 r)
      (near_ran code (f v) pc to o n (ap (λ (y : Machine). y.mode) g.is ∙ e) h r)

  -- ---- blocks

  pub moves_opened : (n body after pc : ℕ) (m : Machine) (c : Session) (l : Option Log) → m.mode ≡ mode.At pc → pc < length code.ops
      → ((r : Run) → Does db code pc r → (inner : Run) × (rest : Run) × (r ≡ block n inner then go rest) × Does db code body inner × Does db code after rest) → Moves db code m c l (opened n body after m) c l
  moves_opened n body after pc m c l e h d = record {
    left = λ t w s a.
        let x = d a.run (subst (λ y. Doing db code m.frame.env.turns y a.run) e a.doing) in
        by t w s x.0 x.1 a.rest (ahead_same db code t w s a.run (block n x.0 then go x.1) a.rest m c l x.2 a.ahead) x.3 x.4 (m.frame.nodes == 0) refl;
    nearer = near_opened code n body after pc m e h;
  }
    where
      by : (t : ℕ) (w : Run) (s : Point Frame) (inner rest : Run) (k : Rest) → Ahead db code t w s (block n inner then go rest) k m c l → Does db code body inner → Does db code after rest → (b : Bool) → (m.frame.nodes == 0) ≡ b
          → Left db code t w s (if b then halted reason.Nodes m else record { mode = mode.At body; held = m.held ++ held.Block n m.frame.env.at m.nodes after ∷ []; nodes = []; frame = record m.frame { nodes = m.frame.nodes - 1 } }) c l
      by t w s inner rest k a x y true f = left_unopened db code t w s n after inner rest k m c l a y (is_zero m.frame.nodes f)
      by t w s inner rest k a x y false f = left_opened db code t w s n body after (m.frame.nodes - 1) inner rest k m c l a x y (not_zero m.frame.nodes f)

  -- ---- loops

  -- a loop that has a turn to make, if the packet has one
  pub record Turning (a : Again) (body after : ℕ) (m : Machine) (turns rest : Run) : Type 0 where
    pub inner : Run
    pub at_body : Does db code body inner
    pub at_rest : Does db code after rest
    pub none : m.frame.env.turns ≡ zero → turns m.frame ≡ halt reason.Turns m.frame
    pub more : (left : ℕ) → m.frame.env.turns ≡ suc left → (p : Run) × (turns m.frame ≡ turn inner p m.frame) × TurnsLeft db code left a inner p

  pub left_turn : (t : ℕ) (w : Run) (s : Point Frame) (a : Again) (body after : ℕ) (turns rest : Run) (k : Rest) (m : Machine) (c : Session) (l : Option Log) → Ahead db code t w s (of_loop a turns rest) k m c l → Turning a body after m turns rest → Left db code t w s (spent a body after m) c l
  left_turn t w s a body after turns rest k m c l h g = by (m.frame.env.turns == 0) refl
    where
      by : (b : Bool) → (m.frame.env.turns == 0) ≡ b
          → Left db code t w s (if b then restored a (halted reason.Turns m) else record m { mode = mode.At body; held = m.held ++ held.Loop a body after ∷ []; frame = with_turns (m.frame.env.turns - 1) m.frame }) c l
      by true f = left_unspent db code t w s a after turns rest k m c l h g.at_rest (g.none (is_zero m.frame.env.turns f))
      by false f =
          let x = g.more (m.frame.env.turns - 1) (not_zero m.frame.env.turns f) in
          left_spent db code t w s a body after (m.frame.env.turns - 1) g.inner turns x.0 rest k m c l h g.at_body g.at_rest (not_zero m.frame.env.turns f) x.1 x.2

  -- what a loop has left of its turns
  abbrev pub more_of : ℕ → Eval ℕ → Run → Run
  more_of zero test inner = halt reason.Turns
  more_of (suc n) test inner = turn inner (repeat n test inner)

  pub repeat_is : (n : ℕ) (test : Eval ℕ) (inner : Run) → repeat n test inner ≡ evaluated test (λ v. if is_so v then more_of n test inner else next)
  repeat_is zero test inner = refl
  repeat_is (suc n) test inner = refl

  pub none_left : (n : ℕ) (test : Eval ℕ) (inner : Run) (z : Frame) → z.env.turns ≡ zero → more_of n test inner z ≡ halt reason.Turns z
  none_left zero test inner z e = refl
  none_left (suc n) test inner z e = no_turn inner (repeat n test inner) z e

  pub some_left : (n left : ℕ) (test : Eval ℕ) (inner : Run) (z : Frame) → z.env.turns ≤ n → z.env.turns ≡ suc left → (k : ℕ) × (left ≤ k) × (more_of n test inner z ≡ turn inner (repeat k test inner) z)
  some_left zero left test inner z h e = absurd (omega arith)
  some_left (suc n) left test inner z h e = (n, omega arith, refl)

  -- of a count
  pub moves_counted : (left body after : ℕ) (m : Machine) (c : Session) (l : Option Log) → m.mode ≡ mode.Turn (again.Count left) body after → Moves db code m c l (counted left body after m) c l
  moves_counted left body after m c l e = by (left == 0) refl
    where
      by : (b : Bool) → (left == 0) ≡ b → Moves db code m c l (if b then over (again.Count left) after m else spent (again.Count (left - 1)) body after m) c l
      by true f = record {
        left = λ t w s a.
            let g = subst (λ y. Doing db code m.frame.env.turns y a.run) e a.doing in
            left_over db code t w s (again.Count left) after g.0.turns g.0.rest a.rest m c l (ahead_same db code t w s a.run (of_loop (again.Count left) g.0.turns g.0.rest) a.rest m c l g.1 a.ahead) g.0.at_rest
            (ap (λ (p : Run). p m.frame) g.0.left ∙ ap (λ n. count n g.0.inner m.frame) (is_zero left f));
        nearer = near_over code (again.Count left) body after m e;
      }
      by false f = record {
        left = λ t w s a.
            let g = subst (λ y. Doing db code m.frame.env.turns y a.run) e a.doing in
            let turns : g.0.turns m.frame ≡ turn g.0.inner (count (left - 1) g.0.inner) m.frame = ap (λ (p : Run). p m.frame) g.0.left ∙ ap (λ n. count n g.0.inner m.frame) (not_zero left f) in
            left_turn t w s (again.Count (left - 1)) body after g.0.turns g.0.rest a.rest m c l (ahead_same db code t w s a.run (of_loop (again.Count (left - 1)) g.0.turns g.0.rest) a.rest m c l g.1 a.ahead)
            (record { inner = g.0.inner; at_body = g.0.at_body; at_rest = g.0.at_rest; none = λ x. turns ∙ no_turn g.0.inner (count (left - 1) g.0.inner) m.frame x; more = λ n x. (count (left - 1) g.0.inner, turns, refl) });
        nearer = near_spent code (again.Count (left - 1)) (again.Count left) body after m e (λ os. refl) (near_unspent code (again.Count left) body after m e);
      }

  -- of the bytes before a limit
  pub moves_sized : (old body after : ℕ) (m : Machine) (c : Session) (l : Option Log) → m.mode ≡ mode.Turn (again.Size old) body after → Moves db code m c l (sized old body after m) c l
  moves_sized old body after m c l e = by (nat_lt m.frame.env.at m.frame.env.limit) refl
    where
      here : (n : ℕ) (inner : Run) (b : Bool) → nat_lt m.frame.env.at m.frame.env.limit ≡ b → repeat n before_limit inner m.frame ≡ (if b then more_of n before_limit inner else next) m.frame
      here n inner b f = ap (λ (p : Run). p m.frame) (repeat_is n before_limit inner) ∙ (ap (λ (x : Bool). (if is_so (if x then 1 else 0) then more_of n before_limit inner else next) m.frame) f ∙ known b)
        where
          known : (x : Bool) → (if is_so (if x then 1 else 0) then more_of n before_limit inner else next) m.frame ≡ (if x then more_of n before_limit inner else next) m.frame
          known true = refl
          known false = refl

      by : (b : Bool) → nat_lt m.frame.env.at m.frame.env.limit ≡ b → Moves db code m c l (if b then spent (again.Size old) body after m else over (again.Size old) after m) c l
      by true f = record {
        left = λ t w s a.
            let g = subst (λ y. Doing db code m.frame.env.turns y a.run) e a.doing in
            let inner = g.0.inner in
            let n = g.0.left.left in
            let turns : g.0.turns m.frame ≡ more_of n before_limit inner m.frame = ap (λ (p : Run). p m.frame) g.0.left.is ∙ here n inner true f in
            left_turn t w s (again.Size old) body after g.0.turns g.0.rest a.rest m c l (ahead_same db code t w s a.run (of_loop (again.Size old) g.0.turns g.0.rest) a.rest m c l g.1 a.ahead)
            (record {
              inner = inner;
              at_body = g.0.at_body;
              at_rest = g.0.at_rest;
              none = λ x. turns ∙ none_left n before_limit inner m.frame x;
              more = λ left x. let y = some_left n left before_limit inner m.frame g.0.left.enough x in (repeat y.0 before_limit inner, turns ∙ y.2, record { left = y.0; enough = y.1; is = refl });
            });
        nearer = near_spent code (again.Size old) (again.Size old) body after m e (λ os. refl) (near_unspent code (again.Size old) body after m e);
      }
      by false f = record {
        left = λ t w s a.
            let g = subst (λ y. Doing db code m.frame.env.turns y a.run) e a.doing in
            left_over db code t w s (again.Size old) after g.0.turns g.0.rest a.rest m c l (ahead_same db code t w s a.run (of_loop (again.Size old) g.0.turns g.0.rest) a.rest m c l g.1 a.ahead) g.0.at_rest
            (ap (λ (p : Run). p m.frame) g.0.left.is ∙ here g.0.left.left g.0.inner false f);
        nearer = near_over code (again.Size old) body after m e;
      }
