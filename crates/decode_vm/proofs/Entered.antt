-- The steps of a machine as functions answer them.
use Rattle.std.specs.Prelude.{◌≡◌, ℕ, List, reverse, slice_get, Option, Some, Result, Ok, Err, OnOk}
use Rattle.std.proofs.Common.{refl, sym, ap, subst, ◌∙◌}
use Rattle.db_model.specs.declared.database.Database.{Database}
use Rattle.db_model.specs.declared.element.LoopKind.{LoopKind}
use Rattle.db_model.specs.declared.element.LoopKind.TheVariants as kind
use Rattle.expr_code.specs.declared.code.ExprCode.{ExprCode}
use Rattle.db_model.specs.declared.no_memory.NoMemory.{NoMemory}
use Rattle.db_model.specs.declared.field_kind.FieldKind.TheVariants.{Variable}
use Rattle.pdl_code.specs.Does.{number}
use Rattle.db_model.specs.Expression.{Eval}
use Rattle.db_model.specs.Runs.{place_field}
use Rattle.db_model.specs.Questions.{Log}
use Rattle.db_model.specs.Session.{Session}
use Rattle.pdl_code.specs.declared.code.Op.TheVariants.{Loop, SizedField}
use Rattle.pdl_code.specs.declared.code.ProtoCode.{ProtoCode}
use Rattle.decode_vm.specs.declared.machine.Again.TheVariants as again
use Rattle.decode_vm.specs.declared.machine.Machine.{Machine}
use Rattle.decode_vm.specs.declared.machine.Mode.TheVariants as mode
use Rattle.decode_vm.specs.Left.{Doing, Running, Moves, StepsTo}
use Rattle.decode_vm.specs.Machine.{place_behind, in_mode, at_env, tested, under, Ran}
use Rattle.decode_vm.specs.Sound.{olds_in, olds_of, Sound}
use Rattle.decode_vm.specs.Values.{Gave, Valued}
use Rattle.decode_vm.proofs.Ahead.{get_within}
use Rattle.decode_vm.proofs.Moves.{refuses_here, refuses_after}
use Rattle.decode_vm.proofs.Operations.{begins_sized, part_some}
use Rattle.decode_vm.proofs.Positions.{keeps_env, sound_by, sound_of, sound_kept}
use Rattle.decode_vm.proofs.Turns.{same_kind, moves_while, moves_count, SizeStep, begins_size, moves_size, WhileStep, begins_while, moves_tested}

module _ (db : Database) (code : ProtoCode) where
  -- a step that asks nothing, or was refused memory
  pub steps_by : {A : Type 0} (m x n : Machine) (c : Session) (l : Option Log) (o : Result A NoMemory) → Moves db code m c l x c l → OnOk o (n ≡ x) → StepsTo db code m c l o n c l
  steps_by m x n c l (Ok a) h e = subst (λ y. Moves db code m c l y c l) (sym e) h
  steps_by m x n c l (Err f) h e = refuses_here db code m n f c l

  pub while_begun : (pc to : ℕ) (value : ExprCode) (m n : Machine) (c : Session) (l : Option Log) → m.mode ≡ mode.At pc → slice_get code.ops pc ≡ Some (Loop kind.While value to)
      → n ≡ in_mode (mode.Turn (again.While pc) (place_behind code pc 0) (place_behind code pc to)) m → Moves db code m c l n c l
  while_begun pc to value m n c l e f g = subst (λ y. Moves db code m c l y c l) (sym g) (moves_while db code pc to value m c l e (get_within code.ops pc (Loop kind.While value to) f) f)

  module _ (m o : Machine) (c : Session) (l : Option Log) (c' : Session) (l' : Option Log) where
    pub count_begun : (pc to body after v : ℕ) (x : Option ℕ) (value : ExprCode) → m.mode ≡ mode.At pc → slice_get code.ops pc ≡ Some (Loop kind.Count value to) → body ≡ place_behind code pc 0 → after ≡ place_behind code pc to → x ≡ Some v → Valued db (number db value) m c l (Ok x) o c' l'
        → Moves db code m c l (in_mode (mode.Turn (again.Count v) body after) o) c' l'
    count_begun pc to body after v x value e f g h s k =
        subst (λ y. Moves db code m c l (in_mode (mode.Turn (again.Count v) y after) o) c' l') (sym g)
        (subst (λ y. Moves db code m c l (in_mode (mode.Turn (again.Count v) (place_behind code pc 0) y) o) c' l') (sym h)
        (moves_count db code pc to value v m o c l c' l' e (get_within code.ops pc (Loop kind.Count value to) f) f (subst (λ y. Valued db (number db value) m c l (Ok y) o c' l') s k)))

    pub size_begun : (pc to body after v : ℕ) (x : Option ℕ) (value : ExprCode) {A : Type 0} (r : Result A NoMemory) (n : Machine) → m.mode ≡ mode.At pc → slice_get code.ops pc ≡ Some (Loop kind.Size value to) → body ≡ place_behind code pc 0 → after ≡ place_behind code pc to → x ≡ Some v → Valued db (number db value) m c l (Ok x) o c' l'
        → OnOk r (n ≡ under v body after o) → StepsTo db code m c l r n c' l'
    size_begun pc to body after v x value r n e f g h s k q = by r q
      where
        gave : Gave db (number db value) m c l v o c' l'
        gave = subst (λ y. Valued db (number db value) m c l (Ok y) o c' l') s k

        by : {B : Type 0} (u : Result B NoMemory) → OnOk u (n ≡ under v body after o) → StepsTo db code m c l u n c' l'
        by (Ok a) q =
            subst (λ y. Moves db code m c l y c' l') (sym (q ∙ (ap (λ y. under v y after o) g ∙ ap (λ y. under v (place_behind code pc 0) y o) h)))
            (moves_size db code pc to value v m o c l c' l' e (get_within code.ops pc (Loop kind.Size value to) f) f gave)
        by (Err b) q = refuses_after db code (number db value) (SizeStep db code pc to) m c l c' l' (begins_size db code pc to value m e f) v o n b gave

    pub test_gone : (at body after to v : ℕ) (x : Option ℕ) (value : ExprCode) {A : Type 0} (r : Result A NoMemory) (n : Machine) → m.mode ≡ mode.Turn (again.While at) body after → slice_get code.ops at ≡ Some (Loop kind.While value to) → x ≡ Some v → Valued db (number db value) m c l (Ok x) o c' l'
        → OnOk r (n ≡ tested v at body after o) → StepsTo db code m c l r n c' l'
    test_gone at body after to v x value r n e f s k q = by r q
      where
        gave : Gave db (number db value) m c l v o c' l'
        gave = subst (λ y. Valued db (number db value) m c l (Ok y) o c' l') s k

        by : {B : Type 0} (u : Result B NoMemory) → OnOk u (n ≡ tested v at body after o) → StepsTo db code m c l u n c' l'
        by (Ok a) q = subst (λ y. Moves db code m c l y c' l') (sym q) (moves_tested db code at body after to value v m o c l c' l' e f gave)
        by (Err b) q = refuses_after db code (number db value) (WhileStep db code at body after to value m.frame.env.turns) m c l c' l' (begins_while db code at body after to value m e f) v o n b gave

  -- the loop with a test whose turn it is
  pub is_while : (at body after a : ℕ) (k : LoopKind) (v : ExprCode) (m : Machine) (c : Session) (l : Option Log) → m.mode ≡ mode.Turn (again.While at) body after → Running db code m c l → slice_get code.ops at ≡ Some (Loop k v a) → slice_get code.ops at ≡ Some (Loop kind.While v a)
  is_while at body after a k v m c l e r f =
      let g = subst (λ y. Doing db code m.frame.env.turns y r.left.run) e r.left.doing in
      f ∙ ap (λ (x : LoopKind). Some (Loop x v a)) (same_kind (slice_get code.ops at) k kind.While v g.0.left.value a g.0.left.after f g.0.left.stands)

  -- a field whose size is a value
  pub sized_some : (pc number' : ℕ) (size : ExprCode) (v d : ℕ) (x : Option ℕ) (m o n : Machine) (c : Session) (l : Option Log) (c' : Session) (l' : Option Log) {A : Type 0} (r : Result A NoMemory) → m.mode ≡ mode.At pc → slice_get code.ops pc ≡ Some (SizedField number' size) → x ≡ Some v
      → Valued db (number db size) m c l (Ok x) o c' l' → d ≡ place_behind code pc 0 → OnOk r (Ran (place_field Variable number' v) d o n) → StepsTo db code m c l r n c' l'
  sized_some pc number' size v d x m o n c l c' l' r e s f g h q = by r q
    where
      by : {B : Type 0} (u : Result B NoMemory) → OnOk u (Ran (place_field Variable number' v) d o n) → StepsTo db code m c l u n c' l'
      by (Ok a) q =
          part_some db code (number db size) (place_field Variable number') (SizedField number' size) pc v x m o n c l c' l' e s (begins_sized db code pc number' size v m e s) f g
          (subst (λ y. Ran (place_field Variable number' v) y o n) h q)
      by (Err b) q =
          refuses_after db code (number db size) _ m c l c' l' (begins_sized db code pc number' size v m e s) v o n b (subst (λ y. Valued db (number db size) m c l (Ok y) o c' l') f g)

  -- an evaluation leaves positions sound
  pub sound_value : {A : Type 0} (q : Eval A) (v : A) (m o : Machine) (c : Session) (l : Option Log) (c' : Session) (l' : Option Log) → Sound m → Gave db q m c l v o c' l' → Sound o
  sound_value q v m o c l c' l' s g =
      let os = olds_in m.mode (olds_of (reverse m.held)) in
      subst Sound (sym g.is) (sound_by (at_env g.env m) os (reverse m.held) refl refl (sound_kept m.frame (at_env g.env m).frame os (reverse m.held) (keeps_env m.frame g.env g.stays) (sound_of m os (reverse m.held) refl refl s)))
