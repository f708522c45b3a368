-- The operations that evaluate: what each begins with, and what it makes of a value.
use Rattle.std.specs.Prelude.{◌≡◌, ℕ, ◌<◌, List, [], length, slice_get, slice_set, Option, Some, None, Result, Ok, Err}
use Rattle.std.proofs.Common.{refl, sym, ap, subst, ◌∙◌, append-nil, arith}
use Rattle.db_model.specs.declared.database.Database.{Database}
use Rattle.db_model.specs.declared.env.Way.TheVariants.{Next, Chose}
use Rattle.expr_code.specs.declared.code.ExprCode.{ExprCode}
use Rattle.pdl_code.specs.declared.code.Choice.{Choice}
use Rattle.db_model.specs.declared.field_kind.FieldKind.TheVariants.{Variable}
use Rattle.db_model.specs.declared.no_memory.NoMemory.{NoMemory}
use Rattle.db_model.specs.declared.value.Value.{Value}
use Rattle.pdl_code.specs.Does.{number, set_variable}
use Rattle.db_model.specs.Expression.{Eval, proto}
use Rattle.expr_code.specs.Meaning.{code_val}
use Rattle.db_model.specs.Questions.{Log, ◌then◌}
use Rattle.db_model.specs.Runs.{Run, leave, go, evaluated, place_field}
use Rattle.db_model.specs.Session.{Session}
use Rattle.pdl_code.specs.declared.code.Op.{Op}
use Rattle.pdl_code.specs.declared.code.Op.TheVariants.{SizedField, Assign, NextProto, Test, Switch}
use Rattle.pdl_code.specs.declared.code.ProtoCode.{ProtoCode}
use Rattle.pdl_code.specs.Does.{unless_so, target, act, Does}
use Rattle.pdl_code.specs.Means.{DoesPlain, DoesTest, DoesSwitch}
use Rattle.pdl_code.proofs.Inversion.{invert}
use Rattle.decode_vm.specs.declared.machine.Again.TheVariants as again
use Rattle.decode_vm.specs.declared.machine.Machine.{Machine}
use Rattle.decode_vm.specs.declared.machine.Mode.TheVariants as mode
use Rattle.decode_vm.specs.Cost.{of_mode}
use Rattle.decode_vm.specs.Left.{Doing, Moves, Refuses, StepsTo}
use Rattle.decode_vm.specs.Machine.{place_behind, in_mode, Ran}
use Rattle.decode_vm.specs.Sound.{olds_in}
use Rattle.decode_vm.specs.Values.{Gave, Valued}
use Rattle.decode_vm.proofs.Algebra.{evaluated_then}
use Rattle.decode_vm.proofs.Ahead.{get_within, at_place}
use Rattle.decode_vm.proofs.Moves.{Begins, refuses_failed, moves_halted, moves_chosen, moves_ran_value}
use Rattle.decode_vm.proofs.Positions.{nearer}

module _ (db : Database) (code : ProtoCode) where
  -- ---- whatever is evaluated

  pub is_refused : {A : Type 0} (m : Machine) (c : Session) (l : Option Log) (o : Result A NoMemory) (e : NoMemory) (n : Machine) (c' : Session) (l' : Option Log) → o ≡ Err e → Refuses db code m c l e n c' l' → StepsTo db code m c l o n c' l'
  is_refused m c l o e n c' l' r h = subst (λ x. StepsTo db code m c l x n c' l') (sym r) h

  module _ {A : Type 0} (q : Eval A) (P : (A → Run) → Type 0) (m : Machine) (c : Session) (l : Option Log) (c' : Session) (l' : Option Log) (b : Begins db code q P m) where
    pub failed : {B : Type 0} (o : Result B NoMemory) (e : NoMemory) (n : Machine) → o ≡ Err e → Valued db q m c l (Err e) n c' l' → StepsTo db code m c l o n c' l'
    failed o e n r g = is_refused m c l o e n c' l' r (refuses_failed db code q P m c l c' l' b e n g)

    pub ended_at : (pc : ℕ) (x : Option A) (n : Machine) → m.mode ≡ mode.At pc → x ≡ None → Valued db q m c l (Ok x) n c' l' → Moves db code m c l n c' l'
    ended_at pc x n e f g =
        moves_halted db code q P m c l c' l' b n (λ os. sym (ap (λ y. olds_in y os) e)) (subst (λ y. 1 < of_mode (length code.ops) y) (sym e) (omega arith))
        (subst (λ y. Valued db q m c l (Ok y) n c' l') f g)

    pub ended_in : (at body after : ℕ) (x : Option A) (n : Machine) → m.mode ≡ mode.Turn (again.While at) body after → x ≡ None → Valued db q m c l (Ok x) n c' l' → Moves db code m c l n c' l'
    ended_in at body after x n e f g =
        moves_halted db code q P m c l c' l' b n (λ os. sym (ap (λ y. olds_in y os) e)) (subst (λ y. 1 < of_mode (length code.ops) y) (sym e) (omega arith))
        (subst (λ y. Valued db q m c l (Ok y) n c' l') f g)

  given : {A : Type 0} (q : Eval A) (m : Machine) (c : Session) (l : Option Log) (x : Option A) (v : A) (n : Machine) (c' : Session) (l' : Option Log) → x ≡ Some v → Valued db q m c l (Ok x) n c' l' → Gave db q m c l v n c' l'
  given q m c l x v n c' l' e g = subst (λ y. Valued db q m c l (Ok y) n c' l') e g

  does_at : (pc : ℕ) (m : Machine) (r : Run) → m.mode ≡ mode.At pc → Doing db code m.frame.env.turns m.mode r → Does db code pc r
  does_at pc m r e d = subst (λ y. Doing db code m.frame.env.turns y r) e d

  behind_less : (pc to : ℕ) (m : Machine) → m.mode ≡ mode.At pc → pc < length code.ops → of_mode (length code.ops) (mode.At (place_behind code pc to)) < of_mode (length code.ops) m.mode
  behind_less pc to m e h = subst (λ y. of_mode (length code.ops) (mode.At (place_behind code pc to)) < of_mode (length code.ops) y) (sym e) (omega (arith, nearer (length code.ops) pc to h))

  -- ---- tests and switches

  pub begins_test : (pc : ℕ) (value : ExprCode) (to v : ℕ) (m : Machine) → m.mode ≡ mode.At pc → slice_get code.ops pc ≡ Some (Test value to)
      → Begins db code (number db value) (λ f. (most : ℕ) → Doing db code most (mode.At (place_behind code pc (unless_so v to))) (f v)) m
  begins_test pc value to v m e f r d =
      let g : DoesTest db code value to pc r = invert db code (Test value to) pc r f (does_at pc m r e d) in
      (g.rests, g.is, λ most. at_place db code pc (unless_so v to) (g.rests v) (g.at_rest v))

  pub test_some : (pc : ℕ) (value : ExprCode) (to v d : ℕ) (x : Option ℕ) (m o : Machine) (c : Session) (l : Option Log) (c' : Session) (l' : Option Log) → m.mode ≡ mode.At pc → slice_get code.ops pc ≡ Some (Test value to) → x ≡ Some v
      → Valued db (number db value) m c l (Ok x) o c' l' → d ≡ place_behind code pc (unless_so v to) → Moves db code m c l (in_mode (mode.At d) o) c' l'
  test_some pc value to v d x m o c l c' l' e f s g h =
      subst (λ y. Moves db code m c l (in_mode (mode.At y) o) c' l') (sym h)
      (moves_chosen db code (number db value) v (mode.At (place_behind code pc (unless_so v to))) m o c l c' l' (begins_test pc value to v m e f) (λ os. sym (ap (λ y. olds_in y os) e)) (behind_less pc (unless_so v to) m e (get_within code.ops pc (Test value to) f))
      (given (number db value) m c l x v o c' l' s g))

  pub begins_switch : (pc : ℕ) (value : ExprCode) (choice : Choice) (v : ℕ) (m : Machine) → m.mode ≡ mode.At pc → slice_get code.ops pc ≡ Some (Switch value choice)
      → Begins db code (number db value) (λ f. (most : ℕ) → Doing db code most (mode.At (place_behind code pc (target choice v))) (f v)) m
  begins_switch pc value choice v m e f r d =
      let g : DoesSwitch db code value choice pc r = invert db code (Switch value choice) pc r f (does_at pc m r e d) in
      (g.rests, g.is, λ most. at_place db code pc (target choice v) (g.rests v) (g.at_rest v))

  pub switch_some : (pc : ℕ) (value : ExprCode) (choice : Choice) (v d : ℕ) (x : Option ℕ) (m o : Machine) (c : Session) (l : Option Log) (c' : Session) (l' : Option Log) → m.mode ≡ mode.At pc → slice_get code.ops pc ≡ Some (Switch value choice) → x ≡ Some v
      → Valued db (number db value) m c l (Ok x) o c' l' → d ≡ place_behind code pc (target choice v) → Moves db code m c l (in_mode (mode.At d) o) c' l'
  switch_some pc value choice v d x m o c l c' l' e f s g h =
      let to = target choice v in
      subst (λ y. Moves db code m c l (in_mode (mode.At y) o) c' l') (sym h)
      (moves_chosen db code (number db value) v (mode.At (place_behind code pc to)) m o c l c' l' (begins_switch pc value choice v m e f) (λ os. sym (ap (λ y. olds_in y os) e)) (behind_less pc to m e (get_within code.ops pc (Switch value choice) f))
      (given (number db value) m c l x v o c' l' s g))

  -- ---- the next protocol

  pub begins_next : (pc : ℕ) (value : ExprCode) (v : Value) (m : Machine) → m.mode ≡ mode.At pc → slice_get code.ops pc ≡ Some (NextProto value)
      → Begins db code (code_val db value) (λ f. (most : ℕ) → Doing db code most (mode.Leaving (Chose (proto v))) (f v)) m
  begins_next pc value v m e f r d =
      let g : DoesPlain db code (NextProto value) pc r = invert db code (NextProto value) pc r f (does_at pc m r e d) in
      (λ u. leave (Chose (proto u)) then go g.rest, g.is ∙ evaluated_then (code_val db value) (λ u. leave (Chose (proto u))) g.rest, λ most. refl)

  pub next_some : (pc : ℕ) (value : ExprCode) (v : Value) (p : ℕ) (x : Option Value) (m o : Machine) (c : Session) (l : Option Log) (c' : Session) (l' : Option Log) → m.mode ≡ mode.At pc → slice_get code.ops pc ≡ Some (NextProto value) → x ≡ Some v
      → Valued db (code_val db value) m c l (Ok x) o c' l' → p ≡ proto v → Moves db code m c l (in_mode (mode.Leaving (Chose p)) o) c' l'
  next_some pc value v p x m o c l c' l' e f s g h =
      subst (λ y. Moves db code m c l (in_mode (mode.Leaving (Chose y)) o) c' l') (sym h)
      (moves_chosen db code (code_val db value) v (mode.Leaving (Chose (proto v))) m o c l c' l' (begins_next pc value v m e f) (λ os. sym (ap (λ y. olds_in y os) e)) (subst (λ y. 1 < of_mode (length code.ops) y) (sym e) (omega arith))
      (given (code_val db value) m c l x v o c' l' s g))

  -- ---- a part at once behind a value

  pub begins_part : {A : Type 0} (q : Eval A) (f : A → Run) (op : Op) (pc : ℕ) (v : A) (m : Machine) → m.mode ≡ mode.At pc → ((r : Run) → Does db code pc r → DoesPlain db code op pc r) → act db op ≡ evaluated q f
      → Begins db code q (λ g. (rest : Run) × (g v ≡ f v then go rest) × Does db code (place_behind code pc 0) rest) m
  begins_part q f op pc v m e h k r d =
      let g = h r (does_at pc m r e d) in
      (λ u. f u then go g.rest, g.is ∙ (ap (λ (p : Run). p then go g.rest) k ∙ evaluated_then q f g.rest), (g.rest, refl, at_place db code pc 0 g.rest g.at_rest))

  pub part_some : {A : Type 0} (q : Eval A) (f : A → Run) (op : Op) (pc : ℕ) (v : A) (x : Option A) (m o n : Machine) (c : Session) (l : Option Log) (c' : Session) (l' : Option Log) → m.mode ≡ mode.At pc → slice_get code.ops pc ≡ Some op
      → Begins db code q (λ g. (rest : Run) × (g v ≡ f v then go rest) × Does db code (place_behind code pc 0) rest) m → x ≡ Some v → Valued db q m c l (Ok x) o c' l' → Ran (f v) (place_behind code pc 0) o n → Moves db code m c l n c' l'
  part_some q f op pc v x m o n c l c' l' e s b h g r =
      moves_ran_value db code q f v pc 0 m o n c l c' l' e (get_within code.ops pc op s) b (given q m c l x v o c' l' h g) r

  pub begins_assign : (pc variable : ℕ) (value : ExprCode) (v : Value) (m : Machine) → m.mode ≡ mode.At pc → slice_get code.ops pc ≡ Some (Assign variable value)
      → Begins db code (code_val db value) (λ g. (rest : Run) × (g v ≡ set_variable variable v then go rest) × Does db code (place_behind code pc 0) rest) m
  begins_assign pc variable value v m e s = begins_part (code_val db value) (set_variable variable) (Assign variable value) pc v m e (λ r d. invert db code (Assign variable value) pc r s d) refl

  pub begins_sized : (pc number' : ℕ) (size : ExprCode) (v : ℕ) (m : Machine) → m.mode ≡ mode.At pc → slice_get code.ops pc ≡ Some (SizedField number' size)
      → Begins db code (number db size) (λ g. (rest : Run) × (g v ≡ place_field Variable number' v then go rest) × Does db code (place_behind code pc 0) rest) m
  begins_sized pc number' size v m e s = begins_part (number db size) (place_field Variable number') (SizedField number' size) pc v m e (λ r d. invert db code (SizedField number' size) pc r s d) refl

  -- a variable was set
  pub ran_set : (variable : ℕ) (v : Value) (after d : ℕ) (o : Machine) → d ≡ after
      → Ran (set_variable variable v) after o (record o { mode = mode.At d; frame = record o.frame { env = record o.frame.env { vars = slice_set o.frame.env.vars variable v } } })
  ran_set variable v after d o e = record {
    way = Next;
    nodes = [];
    frame = record o.frame { env = record o.frame.env { vars = slice_set o.frame.env.vars variable v } };
    gave = refl;
    keeps = record { packet = refl; origin = refl; limit = refl; turns = refl; nodes = omega arith; forward = omega arith; within = λ h. h };
    is = ap (λ (x : ℕ). record o { mode = mode.At x; frame = record o.frame { env = record o.frame.env { vars = slice_set o.frame.env.vars variable v } } }) e
        ∙ ap (λ ns. record o { mode = mode.At after; nodes = ns; frame = record o.frame { env = record o.frame.env { vars = slice_set o.frame.env.vars variable v } } }) (sym (append-nil o.nodes));
  }
