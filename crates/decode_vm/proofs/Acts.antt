-- The operations that evaluate nothing.
use Rattle.std.specs.Prelude.{◌≡◌, ℕ, zero, suc, ◌<◌, List, [], ◌∷◌, length, slice_get, Option, Some, None, IsSome, Result, Ok, Err, OnOk}
use Rattle.std.proofs.Common.{refl, sym, ap, subst, ◌∙◌, append-nil, arith}
use Rattle.db_model.specs.declared.database.Database.{Database}
use Rattle.db_model.specs.declared.element.LoopControl.{LoopControl}
use Rattle.db_model.specs.declared.element.LoopControl.TheVariants as control
use Rattle.db_model.specs.declared.env.Way.{Way}
use Rattle.db_model.specs.declared.env.Way.TheVariants.{Break, Continue}
use Rattle.db_model.specs.declared.field_kind.FieldKind.{FieldKind}
use Rattle.db_model.specs.declared.no_memory.NoMemory.{NoMemory}
use Rattle.db_model.specs.declared.tree.Node.{Node}
use Rattle.db_model.specs.Elements.{control_by}
use Rattle.db_model.specs.Questions.{Log, ◌then◌}
use Rattle.db_model.specs.Runs.{Run, go, block, place_field}
use Rattle.db_model.specs.Session.{Session}
use Rattle.pdl_code.specs.declared.code.BlockStart.{BlockStart}
use Rattle.pdl_code.specs.declared.code.Op.{Op}
use Rattle.pdl_code.specs.declared.code.Op.TheVariants.{Field, Leave, Jump, Block, Include}
use Rattle.pdl_code.specs.declared.code.ProtoCode.{ProtoCode}
use Rattle.pdl_code.specs.Does.{act, Does}
use Rattle.pdl_code.specs.Means.{DoesPlain, DoesBlock, DoesInclude}
use Rattle.pdl_code.proofs.Inversion.{invert}
use Rattle.decode_vm.specs.declared.machine.Machine.{Machine}
use Rattle.decode_vm.specs.declared.machine.Mode.TheVariants as mode
use Rattle.decode_vm.specs.Left.{Doing, Running, Moves, StepsTo}
use Rattle.decode_vm.specs.Machine.{place_behind, way_of, in_mode, opened, Ran}
use Rattle.decode_vm.proofs.Ahead.{get_within, there, at_place}
use Rattle.decode_vm.proofs.Entered.{steps_by}
use Rattle.decode_vm.proofs.Moves.{refuses_here, moves_ran, moves_opened}
use Rattle.decode_vm.proofs.Positions.{keeps_same}
use Rattle.decode_vm.proofs.Turns.{moves_jump}

some_there : {A : Type 0} (xs : List A) (i : ℕ) → i < length xs → slice_get xs i ≡ None → ⊥
some_there [] i h e = absurd (omega arith)
some_there (x ∷ xs) zero h e = (cc)
some_there (x ∷ xs) (suc i) h e = some_there xs i (omega arith) e

same_start : (a b : BlockStart) (x : Option BlockStart) → x ≡ Some a → x ≡ Some b → a ≡ b
same_start a b x e f = cc

is_there : {A : Type 0} (x : Option A) (a : A) → x ≡ Some a → IsSome x
is_there x a e = subst IsSome (sym e) refl

ran_leave : (kind : LoopControl) (after : ℕ) (m : Machine) → Ran (control_by kind) after m (in_mode (mode.Leaving (way_of kind)) m)
ran_leave control.Break after m = record { way = Break; nodes = []; frame = m.frame; gave = refl; keeps = keeps_same m.frame; is = ap (λ (ns : List Node). record m { mode = mode.Leaving Break; nodes = ns }) (sym (append-nil m.nodes)) }
ran_leave control.Continue after m = record { way = Continue; nodes = []; frame = m.frame; gave = refl; keeps = keeps_same m.frame; is = ap (λ (ns : List Node). record m { mode = mode.Leaving Continue; nodes = ns }) (sym (append-nil m.nodes)) }

module _ (db : Database) (code : ProtoCode) where
  -- ---- what stands at the place

  does_here : (pc : ℕ) (m : Machine) (c : Session) (l : Option Log) → m.mode ≡ mode.At pc → (r : Running db code m c l) → Does db code pc r.left.run
  does_here pc m c l e r = subst (λ y. Doing db code m.frame.env.turns y r.left.run) e r.left.doing

  pub op_there : (pc : ℕ) (m : Machine) (c : Session) (l : Option Log) → m.mode ≡ mode.At pc → Running db code m c l → slice_get code.ops pc ≡ None → ⊥
  op_there pc m c l e r n = some_there code.ops pc (there db code pc r.left.run (does_here pc m c l e r)) n

  pub block_there : (pc b : ℕ) (m : Machine) (c : Session) (l : Option Log) → m.mode ≡ mode.At pc → Running db code m c l → slice_get code.ops pc ≡ Some (Include b) → IsSome (slice_get code.blocks b)
  block_there pc b m c l e r s =
      let g : DoesInclude db code b pc r.left.run = invert db code (Include b) pc r.left.run s (does_here pc m c l e r) in
      is_there (slice_get code.blocks b) g.start g.stands

  -- ---- done at once

  plain_here : (op : Op) (pc : ℕ) → ((r : Run) → Does db code pc r → DoesPlain db code op pc r) → (r : Run) → Does db code pc r → (rest : Run) × (r ≡ act db op then go rest) × Does db code (place_behind code pc 0) rest
  plain_here op pc h r d = let g = h r d in (g.rest, g.is, at_place db code pc 0 g.rest g.at_rest)

  module _ (pc : ℕ) (m : Machine) (c : Session) (l : Option Log) (e : m.mode ≡ mode.At pc) where
    pub act_leave : (kind : LoopControl) (w : Way) → slice_get code.ops pc ≡ Some (Leave kind) → w ≡ way_of kind → Moves db code m c l (in_mode (mode.Leaving w) m) c l
    act_leave kind w s h =
        subst (λ x. Moves db code m c l (in_mode (mode.Leaving x) m) c l) (sym h)
        (moves_ran db code (control_by kind) pc 0 m (in_mode (mode.Leaving (way_of kind)) m) c l e (get_within code.ops pc (Leave kind) s) (plain_here (Leave kind) pc (λ r d. invert db code (Leave kind) pc r s d))
        (ran_leave kind (place_behind code pc 0) m))

    pub act_jump : (to d : ℕ) → slice_get code.ops pc ≡ Some (Jump to) → d ≡ place_behind code pc to → Moves db code m c l (in_mode (mode.At d) m) c l
    act_jump to d s h = subst (λ x. Moves db code m c l (in_mode (mode.At x) m) c l) (sym h) (moves_jump db code pc to m c l e (get_within code.ops pc (Jump to) s) s)

    pub act_field : (number : ℕ) (kind kind' : FieldKind) (d : ℕ) {A : Type 0} (r : Result A NoMemory) (n : Machine) → slice_get code.ops pc ≡ Some (Field number kind) → kind' ≡ kind → d ≡ place_behind code pc 0
        → OnOk r (Ran (place_field kind' number 0) d m n) → StepsTo db code m c l r n c l
    act_field number kind kind' d {A} (Ok a) n s f h g =
        moves_ran db code (place_field kind number 0) pc 0 m n c l e (get_within code.ops pc (Field number kind) s) (plain_here (Field number kind) pc (λ r d. invert db code (Field number kind) pc r s d))
        (subst (λ (x : FieldKind). Ran (place_field x number 0) (place_behind code pc 0) m n) f (subst (λ x. Ran (place_field kind' number 0) x m n) h g))
    act_field number kind kind' d {A} (Err x) n s f h g = refuses_here db code m n x c l

    pub act_block : (number after body d : ℕ) {A : Type 0} (r : Result A NoMemory) (n : Machine) → slice_get code.ops pc ≡ Some (Block number after) → body ≡ place_behind code pc 0 → d ≡ place_behind code pc after
        → OnOk r (n ≡ opened number body d m) → StepsTo db code m c l r n c l
    act_block number after body d r n s f h g =
        steps_by db code m (opened number body d m) n c l r
        (subst (λ x. Moves db code m c l (opened number x d m) c l) (sym f) (subst (λ x. Moves db code m c l (opened number (place_behind code pc 0) x m) c l) (sym h) moves)) g
      where
        moves : Moves db code m c l (opened number (place_behind code pc 0) (place_behind code pc after) m) c l
        moves =
            moves_opened db code number (place_behind code pc 0) (place_behind code pc after) pc m c l e (get_within code.ops pc (Block number after) s)
            (λ r d. let g : DoesBlock db code number after pc r = invert db code (Block number after) pc r s d in (g.body, g.rest, g.is, at_place db code pc 0 g.body g.at_body, at_place db code pc after g.rest g.at_rest))

    pub act_include : (b : ℕ) {A : Type 0} (r : Result A NoMemory) (n : Machine) → slice_get code.ops pc ≡ Some (Include b) → Running db code m c l
        → ((start : BlockStart) → slice_get code.blocks b ≡ Some start → OnOk r (n ≡ opened start.number start.at (place_behind code pc 0) m)) → StepsTo db code m c l r n c l
    act_include b r n s x g =
        let i : DoesInclude db code b pc x.left.run = invert db code (Include b) pc x.left.run s (does_here pc m c l e x) in
        steps_by db code m (opened i.start.number i.start.at (place_behind code pc 0) m) n c l r (moves i.start i.stands) (g i.start i.stands)
      where
        moves : (start : BlockStart) → slice_get code.blocks b ≡ Some start → Moves db code m c l (opened start.number start.at (place_behind code pc 0) m) c l
        moves start f =
            moves_opened db code start.number start.at (place_behind code pc 0) pc m c l e (get_within code.ops pc (Include b) s)
            (λ r d.
            let j : DoesInclude db code b pc r = invert db code (Include b) pc r s d in
            let same : j.start ≡ start = same_start j.start start (slice_get code.blocks b) j.stands f in
            (j.body, j.rest, j.is ∙ ap (λ (y : BlockStart). block y.number j.body then go j.rest) same, subst (λ (y : BlockStart). Does db code y.at j.body) same j.at_body, at_place db code pc 0 j.rest j.at_rest))
