-- The steps of a machine at a loop, at the end of a list, and at operations that choose.
use Rattle.std.specs.Prelude.{◌≡◌, ℕ, ◌+◌, ◌-◌, ◌<◌, ◌≤◌, Bool, true, false, if◌then◌else◌, nat_le, ◌==◌, not, List, [], ◌∷◌, ◌++◌, length, reverse, slice_get, Option, Some, Ok}
use Rattle.std.proofs.Common.{refl, sym, ap, subst, ◌∙◌, arith}
use Rattle.std.proofs.lemmas.Bool.{leb-true}
use Rattle.db_model.specs.declared.database.Database.{Database}
use Rattle.db_model.specs.declared.element.LoopKind.{LoopKind}
use Rattle.db_model.specs.declared.element.LoopKind.TheVariants as kind
use Rattle.db_model.specs.declared.env.Env.{Env}
use Rattle.db_model.specs.declared.env.Frame.{Frame}
use Rattle.db_model.specs.declared.env.Way.{Way}
use Rattle.db_model.specs.declared.env.Way.TheVariants.{Next}
use Rattle.expr_code.specs.declared.code.ExprCode.{ExprCode}
use Rattle.db_model.specs.declared.tree.Reason.TheVariants as reason
use Rattle.pdl_code.specs.Does.{number, loop_by}
use Rattle.db_model.specs.Expression.{Eval, is_so}
use Rattle.db_model.specs.Over.{Point, point, Ends}
use Rattle.db_model.specs.Questions.{Asks, and_then, Log, pure, ◌then◌}
use Rattle.db_model.specs.Runs.{Went, Run, leave, next, go, evaluated, count, repeat, looped, before_limit, limited, under_limit}
use Rattle.db_model.specs.Session.{Session}
use Rattle.db_model.proofs.Over.{ends_gives}
use Rattle.pdl_code.specs.declared.code.Op.{Op}
use Rattle.pdl_code.specs.declared.code.Op.TheVariants.{End, Jump, Loop}
use Rattle.pdl_code.specs.declared.code.ProtoCode.{ProtoCode}
use Rattle.pdl_code.specs.Does.{Does}
use Rattle.pdl_code.specs.Means.{DoesLoop}
use Rattle.pdl_code.proofs.Inversion.{invert}
use Rattle.decode_vm.specs.declared.machine.Again.{Again}
use Rattle.decode_vm.specs.declared.machine.Again.TheVariants as again
use Rattle.decode_vm.specs.declared.machine.Held.{Held}
use Rattle.decode_vm.specs.declared.machine.Held.TheVariants as held
use Rattle.decode_vm.specs.declared.machine.Machine.{Machine}
use Rattle.decode_vm.specs.declared.machine.Mode.TheVariants as mode
use Rattle.decode_vm.specs.Cost.{of_mode}
use Rattle.decode_vm.specs.Left.{Rest, onto, of_loop, Doing, Follow, Ahead, Left, Nearer, Moves}
use Rattle.decode_vm.specs.Machine.{place_behind, in_mode, halted, spent, over, tested, under, resumed}
use Rattle.decode_vm.specs.Sound.{olds_in}
use Rattle.decode_vm.specs.Values.{Gave}
use Rattle.decode_vm.proofs.Algebra.{then_pure, and_gives, evaluated_then, onto_leave}
use Rattle.decode_vm.proofs.Ahead.{at_place, ahead_move, ahead_same}
use Rattle.decode_vm.proofs.Lists.{turn_over, left_over, left_closed, left_turned, left_under, left_short}
use Rattle.decode_vm.proofs.Moves.{Begins, moves_mode, moves_value, moves_chosen, left_turn, more_of, repeat_is, none_left, some_left}
use Rattle.decode_vm.proofs.Nearer.{near_mode, near_halted, near_over, near_spent, near_unspent, near_under, near_closed, near_turned}
use Rattle.decode_vm.proofs.Positions.{nearer}

-- a loop that stands somewhere
same_value : (x : Option Op) (j k : LoopKind) (v u : ExprCode) (a b : ℕ) → x ≡ Some (Loop j v a) → x ≡ Some (Loop k u b) → v ≡ u
same_value x j k v u a b e f = cc

pub same_kind : (x : Option Op) (j k : LoopKind) (v u : ExprCode) (a b : ℕ) → x ≡ Some (Loop j v a) → x ≡ Some (Loop k u b) → j ≡ k
same_kind x j k v u a b e f = cc

module _ (db : Database) (code : ProtoCode) where
  -- ---- a list ends, or goes on elsewhere

  pub moves_over : (pc : ℕ) (m : Machine) (c : Session) (l : Option Log) → m.mode ≡ mode.At pc → slice_get code.ops pc ≡ Some End → Moves db code m c l (in_mode (mode.Leaving Next) m) c l
  moves_over pc m c l e s =
      moves_mode db code m (mode.Leaving Next) c l
      (λ r d. invert db code End pc r s (subst (λ y. Doing db code m.frame.env.turns y r) e d))
      (λ os. sym (ap (λ y. olds_in y os) e))
      (subst (λ y. 1 < of_mode (length code.ops) y) (sym e) (omega arith))

  -- to a place behind, at which the same is done
  pub moves_to : (pc to : ℕ) (m : Machine) (c : Session) (l : Option Log) → m.mode ≡ mode.At pc → pc < length code.ops → ((r : Run) → Does db code pc r → Does db code (pc + 1 + to) r) → Moves db code m c l (in_mode (mode.At (place_behind code pc to)) m) c l
  moves_to pc to m c l e h d =
      moves_mode db code m (mode.At (place_behind code pc to)) c l
      (λ r x. at_place db code pc to r (d r (subst (λ y. Doing db code m.frame.env.turns y r) e x)))
      (λ os. sym (ap (λ y. olds_in y os) e))
      (subst (λ y. of_mode (length code.ops) (mode.At (place_behind code pc to)) < of_mode (length code.ops) y) (sym e) (omega (arith, nearer (length code.ops) pc to h)))

  pub moves_jump : (pc to : ℕ) (m : Machine) (c : Session) (l : Option Log) → m.mode ≡ mode.At pc → pc < length code.ops → slice_get code.ops pc ≡ Some (Jump to) → Moves db code m c l (in_mode (mode.At (place_behind code pc to)) m) c l
  moves_jump pc to m c l e h s = moves_to pc to m c l e h (λ r d. invert db code (Jump to) pc r s d)

  -- ---- a loop is begun

  begun_less : (pc to : ℕ) (a : Again) (body : ℕ) → pc < length code.ops → of_mode (length code.ops) (mode.Turn a body (place_behind code pc to)) < of_mode (length code.ops) (mode.At pc)
  begun_less pc to a body h = omega (arith, nearer (length code.ops) pc to h)

  pub moves_while : (pc to : ℕ) (value : ExprCode) (m : Machine) (c : Session) (l : Option Log) → m.mode ≡ mode.At pc → pc < length code.ops → slice_get code.ops pc ≡ Some (Loop kind.While value to)
      → Moves db code m c l (in_mode (mode.Turn (again.While pc) (place_behind code pc 0) (place_behind code pc to)) m) c l
  moves_while pc to value m c l e h f = record {
    left = λ t w s a. step t w s a (invert db code (Loop kind.While value to) pc a.run f (subst (λ y. Doing db code m.frame.env.turns y a.run) e a.doing));
    nearer = near_mode code m (mode.Turn (again.While pc) (place_behind code pc 0) (place_behind code pc to)) (λ os. sym (ap (λ y. olds_in y os) e))
        (subst (λ y. of_mode (length code.ops) (mode.Turn (again.While pc) (place_behind code pc 0) (place_behind code pc to)) < of_mode (length code.ops) y) (sym e) (begun_less pc to (again.While pc) (place_behind code pc 0) h));
  }
    where
      step : (t : ℕ) (w : Run) (s : Point Frame) (a : Left db code t w s m c l) → DoesLoop db code kind.While value to pc a.run
          → Left db code t w s (in_mode (mode.Turn (again.While pc) (place_behind code pc 0) (place_behind code pc to)) m) c l
      step t w s a g =
          let test = number db value in
          let turns = repeat m.frame.env.turns test g.body in
          let n = in_mode (mode.Turn (again.While pc) (place_behind code pc 0) (place_behind code pc to)) m in
          record {
            run = of_loop (again.While pc) turns g.rest;
            rest = a.rest;
            doing = (
              record {
                inner = g.body;
                turns = turns;
                rest = g.rest;
                at_body = at_place db code pc 0 g.body g.at_body;
                at_rest = at_place db code pc to g.rest g.at_rest;
                left = record { left = m.frame.env.turns; value = value; after = to; enough = omega arith; stands = f; is = refl };
              },
              refl,
            );
            ahead = ahead_move db code t w s (loop_by db kind.While value g.body then go g.rest) (of_loop (again.While pc) turns g.rest) a.rest a.rest m n c l
                (ahead_same db code t w s a.run (loop_by db kind.While value g.body then go g.rest) a.rest m c l g.is a.ahead) a.ahead.follow refl
                (ap (λ (x : Asks (Went × Frame)). and_then (and_then x (λ y. go g.rest y.0 y.1)) (λ y. onto m.nodes a.rest y.0 y.1)) (sym (and_gives (turns m.frame))));
          }

  pub begins_count : (pc to : ℕ) (value : ExprCode) (v : ℕ) (m : Machine) → m.mode ≡ mode.At pc → slice_get code.ops pc ≡ Some (Loop kind.Count value to)
      → Begins db code (number db value) (λ f. (most : ℕ) → Doing db code most (mode.Turn (again.Count v) (place_behind code pc 0) (place_behind code pc to)) (f v)) m
  begins_count pc to value v m e f r d = by r (invert db code (Loop kind.Count value to) pc r f (subst (λ y. Doing db code m.frame.env.turns y r) e d))
    where
      by : (r : Run) → DoesLoop db code kind.Count value to pc r
          → (f : ℕ → Run) × (r ≡ evaluated (number db value) f) × ((most : ℕ) → Doing db code most (mode.Turn (again.Count v) (place_behind code pc 0) (place_behind code pc to)) (f v))
      by r g = (
        λ n. count n g.body then go g.rest,
        g.is ∙ evaluated_then (number db value) (λ n. count n g.body) g.rest,
        λ most. (
          record {
            inner = g.body;
            turns = count v g.body;
            rest = g.rest;
            at_body = at_place db code pc 0 g.body g.at_body;
            at_rest = at_place db code pc to g.rest g.at_rest;
            left = refl;
          },
          ap (λ (p : Run). p then go g.rest) (sym (then_pure (count v g.body))),
        ),
      )

  pub moves_count : (pc to : ℕ) (value : ExprCode) (v : ℕ) (m o : Machine) (c : Session) (l : Option Log) (c' : Session) (l' : Option Log) → m.mode ≡ mode.At pc → pc < length code.ops → slice_get code.ops pc ≡ Some (Loop kind.Count value to) → Gave db (number db value) m c l v o c' l'
      → Moves db code m c l (in_mode (mode.Turn (again.Count v) (place_behind code pc 0) (place_behind code pc to)) o) c' l'
  moves_count pc to value v m o c l c' l' e h f g =
      let x = mode.Turn (again.Count v) (place_behind code pc 0) (place_behind code pc to) in
      moves_chosen db code (number db value) v x m o c l c' l' (begins_count pc to value v m e f) (λ os. sym (ap (λ y. olds_in y os) e))
      (subst (λ y. of_mode (length code.ops) x < of_mode (length code.ops) y) (sym e) (begun_less pc to (again.Count v) (place_behind code pc 0) h)) g

  -- what is done behind the size of a loop
  pub record SizeStep (pc to : ℕ) (f : ℕ → Run) : Type 0 where
    pub inner : Run
    pub rest : Run
    pub at_body : Does db code (place_behind code pc 0) inner
    pub at_rest : Does db code (place_behind code pc to) rest
    pub is : f ≡ (λ n. under_limit n (looped before_limit inner) then go rest)

  pub begins_size : (pc to : ℕ) (value : ExprCode) (m : Machine) → m.mode ≡ mode.At pc → slice_get code.ops pc ≡ Some (Loop kind.Size value to) → Begins db code (number db value) (SizeStep pc to) m
  begins_size pc to value m e f r d = by r (invert db code (Loop kind.Size value to) pc r f (subst (λ y. Doing db code m.frame.env.turns y r) e d))
    where
      by : (r : Run) → DoesLoop db code kind.Size value to pc r → (f : ℕ → Run) × (r ≡ evaluated (number db value) f) × SizeStep pc to f
      by r g = (
        λ n. under_limit n (looped before_limit g.body) then go g.rest,
        g.is ∙ evaluated_then (number db value) (λ n. under_limit n (looped before_limit g.body)) g.rest,
        record {
          inner = g.body;
          rest = g.rest;
          at_body = at_place db code pc 0 g.body g.at_body;
          at_rest = at_place db code pc to g.rest g.at_rest;
          is = refl;
        },
      )

  pub moves_size : (pc to : ℕ) (value : ExprCode) (v : ℕ) (m o : Machine) (c : Session) (l : Option Log) (c' : Session) (l' : Option Log) → m.mode ≡ mode.At pc → pc < length code.ops → slice_get code.ops pc ≡ Some (Loop kind.Size value to) → Gave db (number db value) m c l v o c' l'
      → Moves db code m c l (under v (place_behind code pc 0) (place_behind code pc to) o) c' l'
  moves_size pc to value v m o c l c' l' e h f g =
      moves_value db code (number db value) (SizeStep pc to) m c l c' l' (begins_size pc to value m e f) v o (under v body after o) g
      (λ t w s k j p a. step t w s k p (ahead_same db code t w s (j v) (under_limit v (looped before_limit p.inner) then go p.rest) k o c' l' (ap (λ (x : ℕ → Run). x v) p.is) a) (nat_le v (o.frame.env.limit - o.frame.env.at)) refl)
      (near (nat_le v (o.frame.env.limit - o.frame.env.at)) refl)
    where
      body : ℕ
      body = place_behind code pc 0

      after : ℕ
      after = place_behind code pc to

      there_too : o.mode ≡ mode.At pc
      there_too = ap (λ (y : Machine). y.mode) g.is ∙ e

      step : (t : ℕ) (w : Run) (s : Point Frame) (k : Rest) {j : ℕ → Run} (p : SizeStep pc to j) → Ahead db code t w s (under_limit v (looped before_limit p.inner) then go p.rest) k o c' l' → (b : Bool) → nat_le v (o.frame.env.limit - o.frame.env.at) ≡ b
          → Left db code t w s (if b then record o { mode = mode.Turn (again.Size o.frame.env.limit) (place_behind code pc 0) (place_behind code pc to); frame = limited (o.frame.env.at + v) o.frame } else halted reason.Short o) c' l'
      step t w s k p a true x = left_under db code t w s v (place_behind code pc 0) (place_behind code pc to) p.inner p.rest k o c' l' a p.at_body p.at_rest x
      step t w s k p a false x = left_short db code t w s v (place_behind code pc to) p.inner p.rest k o c' l' a p.at_rest x

      near : (b : Bool) → nat_le v (o.frame.env.limit - o.frame.env.at) ≡ b
          → Nearer code o (if b then record o { mode = mode.Turn (again.Size o.frame.env.limit) (place_behind code pc 0) (place_behind code pc to); frame = limited (o.frame.env.at + v) o.frame } else halted reason.Short o)
      near true x = near_under code v (place_behind code pc 0) (place_behind code pc to) pc o (ap (λ (y : Machine). y.mode) g.is ∙ e) (begun_less pc to (again.Size o.frame.env.limit) (place_behind code pc 0) h) x (leb-true v (o.frame.env.limit - o.frame.env.at) x)
      near false x =
          let at : o.mode ≡ mode.At pc = ap (λ (y : Machine). y.mode) g.is ∙ e in
          near_halted code o reason.Short (λ os. sym (ap (λ y. olds_in y os) at)) (subst (λ y. 1 < of_mode (length code.ops) y) (sym at) (omega arith))

  -- ---- a loop with a test goes on

  -- what is done behind the test, where so many turns may be made
  pub record WhileStep (at body after to : ℕ) (value : ExprCode) (most : ℕ) (f : ℕ → Run) : Type 0 where
    pub left : ℕ
    pub inner : Run
    pub rest : Run
    pub at_body : Does db code body inner
    pub at_rest : Does db code after rest
    pub enough : most ≤ left
    pub is : f ≡ (λ v. (if is_so v then more_of db code left (number db value) inner else next) then go rest)

  pub begins_while : (at body after to : ℕ) (value : ExprCode) (m : Machine) → m.mode ≡ mode.Turn (again.While at) body after → slice_get code.ops at ≡ Some (Loop kind.While value to)
      → Begins db code (number db value) (WhileStep at body after to value m.frame.env.turns) m
  begins_while at body after to value m e f r d =
      let g = subst (λ y. Doing db code m.frame.env.turns y r) e d in
      let test = number db value in
      let n = g.0.left.left in
      let inner = g.0.inner in
      let same : g.0.left.value ≡ value = same_value (slice_get code.ops at) kind.While kind.While g.0.left.value value g.0.left.after to g.0.left.stands f in
      let turns : g.0.turns ≡ evaluated test (λ v. if is_so v then more_of db code n test inner else next) =
      g.0.left.is ∙ (ap (λ (x : ExprCode). repeat n (number db x) inner) same ∙ repeat_is db code n test inner) in (
        λ v. (if is_so v then more_of db code n test inner else next) then go g.0.rest,
        g.1 ∙ (ap (λ (p : Run). p then go g.0.rest) (then_pure g.0.turns ∙ turns) ∙ evaluated_then test (λ v. if is_so v then more_of db code n test inner else next) g.0.rest),
        record {
          left = n;
          inner = inner;
          rest = g.0.rest;
          at_body = g.0.at_body;
          at_rest = g.0.at_rest;
          enough = g.0.left.enough;
          is = refl;
        },
      )

  pub moves_tested : (at body after to : ℕ) (value : ExprCode) (v : ℕ) (m o : Machine) (c : Session) (l : Option Log) (c' : Session) (l' : Option Log) → m.mode ≡ mode.Turn (again.While at) body after → slice_get code.ops at ≡ Some (Loop kind.While value to) → Gave db (number db value) m c l v o c' l'
      → Moves db code m c l (tested v at body after o) c' l'
  moves_tested at body after to value v m o c l c' l' e f g =
      moves_value db code (number db value) (WhileStep at body after to value m.frame.env.turns) m c l c' l' (begins_while at body after to value m e f) v o (tested v at body after o) g
      (λ t w s k j p a. step t w s k p (ahead_same db code t w s (j v) (of_loop (again.While at) (if is_so v then more_of db code p.left (number db value) p.inner else next) p.rest) k o c' l' (ap (λ (x : ℕ → Run). x v) p.is ∙ ap (λ (q : Run). q then go p.rest) (sym (then_pure (if is_so v then more_of db code p.left (number db value) p.inner else next)))) a) (v == 0) refl)
      (near (v == 0) refl)
    where
      test : Eval ℕ
      test = number db value

      turns_same : o.frame.env.turns ≡ m.frame.env.turns
      turns_same = ap (λ (y : Machine). y.frame.env.turns) g.is ∙ ap (λ (y : Env). y.turns) g.stays

      there_too : o.mode ≡ mode.Turn (again.While at) body after
      there_too = ap (λ (y : Machine). y.mode) g.is ∙ e

      step : (t : ℕ) (w : Run) (s : Point Frame) (k : Rest) {j : ℕ → Run} (p : WhileStep at body after to value m.frame.env.turns j)
          → Ahead db code t w s (of_loop (again.While at) (if is_so v then more_of db code p.left (number db value) p.inner else next) p.rest) k o c' l' → (b : Bool) → (v == 0) ≡ b
          → Left db code t w s (if b then over (again.While at) after o else spent (again.While at) body after o) c' l'
      step t w s k p a true x =
          left_over db code t w s (again.While at) after (if is_so v then more_of db code p.left (number db value) p.inner else next) p.rest k o c' l' a p.at_rest
          (ap (λ (b : Bool). (if not b then more_of db code p.left (number db value) p.inner else next) o.frame) x)
      step t w s k p a false x =
          let turns : (if is_so v then more_of db code p.left (number db value) p.inner else next) o.frame ≡ more_of db code p.left (number db value) p.inner o.frame =
          ap (λ (b : Bool). (if not b then more_of db code p.left (number db value) p.inner else next) o.frame) x in
          left_turn db code t w s (again.While at) body after (if is_so v then more_of db code p.left (number db value) p.inner else next) p.rest k o c' l' a
          (record {
            inner = p.inner;
            at_body = p.at_body;
            at_rest = p.at_rest;
            none = λ y. turns ∙ none_left db code p.left (number db value) p.inner o.frame y;
            more = λ left y.
                let n = some_left db code p.left left (number db value) p.inner o.frame (omega (arith, p.enough, turns_same)) y in
                (repeat n.0 (number db value) p.inner, turns ∙ n.2, record { left = n.0; value = value; after = to; enough = n.1; stands = f; is = refl });
          })

      near : (b : Bool) → (v == 0) ≡ b → Nearer code o (if b then over (again.While at) after o else spent (again.While at) body after o)
      near true x = near_over code (again.While at) body after o there_too
      near false x = near_spent code (again.While at) (again.While at) body after o there_too (λ os. refl) (near_unspent code (again.While at) body after o there_too)

  -- ---- a list has ended

  pub moves_resumed : (h : Held) (v : Way) (m : Machine) (hs : List Held) (c : Session) (l : Option Log) → m.mode ≡ mode.Leaving v → m.held ≡ hs ++ h ∷ [] → Moves db code m c l (resumed h v (record m { held = hs })) c l
  moves_resumed h v m hs c l e f = record {
    left = λ t w s a.
        by t w s h a.rest (ahead_same db code t w s a.run (leave v) a.rest m c l (subst (λ y. Doing db code m.frame.env.turns y a.run) e a.doing) a.ahead)
        (subst (λ xs. Follow db code m.frame.env.turns xs a.rest) (turn_over hs m.held h f) a.ahead.follow);
    nearer = near h f;
  }
    where
      by : (t : ℕ) (w : Run) (s : Point Frame) (x : Held) (k : Rest) → Ahead db code t w s (leave v) k m c l → Follow db code m.frame.env.turns (x ∷ reverse hs) k → Left db code t w s (resumed x v (record m { held = hs })) c l
      by t w s (held.Block n from before after) k a g = left_closed db code t w s v n from before after g.0 k m hs c l a g.1.0 g.1.1
      by t w s (held.Loop b body after) k a g = left_turned db code t w s v b body after g.0 k m hs c l a g.1.0 g.1.1

      near : (x : Held) → m.held ≡ hs ++ x ∷ [] → Nearer code m (resumed x v (record m { held = hs }))
      near (held.Block n from before after) g = near_closed code n from before after v m hs e g
      near (held.Loop b body after) g = near_turned code b body after v m hs e g

  -- the whole has ended
  pub ended : (t : ℕ) (w : Run) (s : Point Frame) (v : Way) (m : Machine) (c : Session) (l : Option Log) → m.mode ≡ mode.Leaving v → m.held ≡ [] → Left db code t w s m c l → Ends db t w s (Ok (v, m.nodes)) (point m.frame c l)
  ended t w s v m c l e f a =
      let run : a.run ≡ leave v = subst (λ y. Doing db code m.frame.env.turns y a.run) e a.doing in
      let rest : a.rest ≡ pure = subst (λ xs. Follow db code m.frame.env.turns xs a.rest) (ap reverse f) a.ahead.follow in
      a.ahead.leads.leads (Ok (v, m.nodes)) (point m.frame c l)
      (ends_gives db t (a.run then onto m.nodes a.rest) m.frame m.frame (v, m.nodes) c l
      (ap (λ (p : Run). (p then onto m.nodes a.rest) m.frame) run ∙ (onto_leave v m.nodes a.rest m.frame ∙ ap (λ (g : Rest). g (v, m.nodes) m.frame) rest)))
