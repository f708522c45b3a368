-- What the steps of a machine do to its positions, and that they lead to an end.
use Rattle.std.specs.Prelude.{◌≡◌, ℕ, zero, suc, ◌+◌, ◌-◌, ◌*◌, ◌<◌, ◌≤◌, Bool, true, false, if◌then◌else◌, nat_le, ◌==◌, List, [], ◌∷◌, ◌++◌, length, reverse}
use Rattle.std.proofs.Common.{refl, sym, ap, subst, ◌∙◌, arith}
use Rattle.std.proofs.lemmas.Bool.Decides.{Decides-eqb}
use Rattle.db_model.specs.declared.env.Env.{Env}
use Rattle.db_model.specs.declared.env.Frame.{Frame}
use Rattle.db_model.specs.declared.env.Way.{Way}
use Rattle.db_model.specs.declared.env.Way.TheVariants.{Next, Break, Continue, Chose, Stop}
use Rattle.db_model.specs.declared.tree.Node.{Node}
use Rattle.db_model.specs.declared.tree.Reason.{Reason}
use Rattle.db_model.specs.declared.tree.Reason.TheVariants as reason
use Rattle.db_model.specs.Runs.{Run, limited, with_turns}
use Rattle.pdl_code.specs.declared.code.ProtoCode.{ProtoCode}
use Rattle.expr_eval.specs.Evaluates.{Stays}
use Rattle.decode_vm.specs.declared.machine.Again.{Again}
use Rattle.decode_vm.specs.declared.machine.Again.TheVariants as again
use Rattle.decode_vm.specs.declared.machine.Held.{Held}
use Rattle.decode_vm.specs.declared.machine.Held.TheVariants as held
use Rattle.decode_vm.specs.declared.machine.Machine.{Machine}
use Rattle.decode_vm.specs.declared.machine.Mode.{Mode}
use Rattle.decode_vm.specs.declared.machine.Mode.TheVariants as mode
use Rattle.decode_vm.specs.Cost.{place, of_mode, of_held, for_each, of_all, cost}
use Rattle.decode_vm.specs.Left.{Nearer}
use Rattle.decode_vm.specs.Machine.{place_behind, mode_behind, in_mode, at_env, halted, opened, restored, spent, over, closed_to, turned_to, Keeps, Ran}
use Rattle.decode_vm.specs.Sound.{old_before, olds_of, olds_in}
use Rattle.decode_vm.proofs.Lists.{turn_over}
use Rattle.decode_vm.proofs.Positions.{keeps_same, keeps_env, olds_behind, SoundOn, sound_by, sound_of, sound_kept, less_mode, less_begun, less_ended, less_behind}

-- ---- tests

pub is_zero : (n : ℕ) → (n == 0) ≡ true → n ≡ zero
is_zero n h = (Decides-eqb n 0).0 h

pub not_zero : (n : ℕ) → (n == 0) ≡ false → n ≡ suc (n - 1)
not_zero n h = let no : n ≡ 0 → ⊥ = λ e. differ ((Decides-eqb n 0).1 e) in omega arith
  where
    differ : (n == 0) ≡ true → ⊥
    differ e = cc

module _ (code : ProtoCode) where
  same_cost : (m : Machine) (e : Env) → e.turns ≡ m.frame.env.turns → cost code (at_env e m) ≡ cost code m
  unfolding cost
  same_cost m e h = ap (λ x. (x + m.frame.nodes) * for_each (length code.ops) + (of_mode (length code.ops) m.mode + of_all (length code.ops) m.held)) h

  -- an evaluation first
  pub near_env : (m : Machine) (e : Env) (n : Machine) → Stays m.frame.env e → Nearer code (at_env e m) n → Nearer code m n
  near_env m e n h r = record {
    packet = r.packet ∙ ap (λ (x : Env). x.packet) h;
    sound = λ s. r.sound (sound_by (at_env e m) (olds_in m.mode (olds_of (reverse m.held))) (reverse m.held) refl refl
        (sound_kept m.frame (at_env e m).frame (olds_in m.mode (olds_of (reverse m.held))) (reverse m.held) (keeps_env m.frame e h) (sound_of m (olds_in m.mode (olds_of (reverse m.held))) (reverse m.held) refl refl s)));
    less = subst (λ x. cost code n < x) (same_cost m e (ap (λ (x : Env). x.turns) h)) r.less;
  }

  -- another mode, or a part that was done at once
  pub near_kept : (m n : Machine) → Keeps m.frame n.frame → n.held ≡ m.held → olds_in n.mode (olds_of (reverse m.held)) ≡ olds_in m.mode (olds_of (reverse m.held)) → of_mode (length code.ops) n.mode < of_mode (length code.ops) m.mode → Nearer code m n
  near_kept m n k h o l = record {
    packet = k.packet;
    sound = λ s. sound_by n (olds_in m.mode (olds_of (reverse m.held))) (reverse m.held) (ap reverse h) o (sound_kept m.frame n.frame (olds_in m.mode (olds_of (reverse m.held))) (reverse m.held) k (sound_of m (olds_in m.mode (olds_of (reverse m.held))) (reverse m.held) refl refl s));
    less = less_mode code m n k.turns k.nodes h l;
  }

  pub near_mode : (m : Machine) (x : Mode) → ((os : List ℕ) → olds_in x os ≡ olds_in m.mode os) → of_mode (length code.ops) x < of_mode (length code.ops) m.mode → Nearer code m (in_mode x m)
  near_mode m x o l = near_kept m (in_mode x m) (keeps_same m.frame) refl (o (olds_of (reverse m.held))) l

  pub near_halted : (m : Machine) (r : Reason) → ((os : List ℕ) → os ≡ olds_in m.mode os) → 1 < of_mode (length code.ops) m.mode → Nearer code m (halted r m)
  near_halted m r o l = near_kept m (halted r m) (keeps_same m.frame) refl (o (olds_of (reverse m.held))) l

  pub near_ran : (p : Run) (pc to : ℕ) (m n : Machine) → m.mode ≡ mode.At pc → pc < length code.ops → Ran p (place_behind code pc to) m n → Nearer code m n
  near_ran p pc to m n e h g =
      let x : Machine = record m { mode = mode_behind (place_behind code pc to) g.way; nodes = m.nodes ++ g.nodes; frame = g.frame } in
      let os = olds_of (reverse m.held) in
      subst (λ y. Nearer code m y) (sym g.is)
      (near_kept m x g.keeps refl (olds_behind (place_behind code pc to) g.way os ∙ sym (ap (λ y. olds_in y os) e))
      (subst (λ y. of_mode (length code.ops) x.mode < of_mode (length code.ops) y) (sym e) (less_behind (length code.ops) pc to g.way h)))

  -- ---- lists that begin

  pub near_begun : (m n : Machine) (h : Held) (body after : ℕ) (os : List ℕ) → n.frame.env.packet ≡ m.frame.env.packet → n.frame.env.turns + n.frame.nodes + 1 ≡ m.frame.env.turns + m.frame.nodes → n.held ≡ m.held ++ h ∷ [] → n.mode ≡ mode.At body → of_held (length code.ops) h ≡ place (length code.ops) after + 3
      → olds_of (h ∷ reverse m.held) ≡ os → ((os : List ℕ) → olds_in m.mode (olds_of (reverse m.held)) ≡ os → SoundOn m.frame os (reverse m.held) → SoundOn n.frame os (h ∷ reverse m.held)) → olds_in m.mode (olds_of (reverse m.held)) ≡ os → Nearer code m n
  near_begun m n h body after os p t e f g o k q = record {
    packet = p;
    sound = λ s. sound_by n os (h ∷ reverse m.held) (turn_over m.held n.held h e) (ap (λ x. olds_in x (olds_of (h ∷ reverse m.held))) f ∙ o) (k os q (sound_of m os (reverse m.held) refl q s));
    less = less_begun code m n h body t e f after g;
  }

  pub near_opened : (n body after pc : ℕ) (m : Machine) → m.mode ≡ mode.At pc → pc < length code.ops → Nearer code m (opened n body after m)
  near_opened n body after pc m e h = by (m.frame.nodes == 0) refl
    where
      os : List ℕ
      os = olds_of (reverse m.held)

      here : olds_in m.mode os ≡ os
      here = ap (λ x. olds_in x os) e

      block : Held
      block = held.Block n m.frame.env.at m.nodes after

      by : (b : Bool) → (m.frame.nodes == 0) ≡ b
          → Nearer code m (if b then halted reason.Nodes m else record { mode = mode.At body; held = m.held ++ held.Block n m.frame.env.at m.nodes after ∷ []; nodes = []; frame = record m.frame { nodes = m.frame.nodes - 1 } })
      by true f = near_halted m reason.Nodes (λ xs. sym (ap (λ x. olds_in x xs) e)) (subst (λ y. 1 < of_mode (length code.ops) y) (sym e) (omega arith))
      by false f =
          let o : Machine = record { mode = mode.At body; held = m.held ++ held.Block n m.frame.env.at m.nodes after ∷ []; nodes = []; frame = record m.frame { nodes = m.frame.nodes - 1 } } in
          let g = not_zero m.frame.nodes f in
          near_begun m o (held.Block n m.frame.env.at m.nodes after) body after (olds_of (reverse m.held)) refl (omega arith) refl refl refl refl
          (λ xs p s. record { origin = s.origin; position = s.position; limits = s.limits; blocks = (omega arith, s.blocks) }) (ap (λ x. olds_in x (olds_of (reverse m.held))) e)

  -- ---- loops

  pub near_restored : (a : Again) (x : Mode) (ns : List Node) (body after : ℕ) (m : Machine) → m.mode ≡ mode.Turn a body after → ((os : List ℕ) → olds_in x os ≡ os) → of_mode (length code.ops) x < place (length code.ops) after + 3 → Nearer code m (restored a (record m { mode = x; nodes = ns }))
  near_restored a x ns body after m e o l = by a e
    where
      less : of_mode (length code.ops) x < of_mode (length code.ops) m.mode
      less = subst (λ y. of_mode (length code.ops) x < of_mode (length code.ops) y) (sym e) l

      by : (b : Again) → m.mode ≡ mode.Turn b body after → Nearer code m (restored b (record m { mode = x; nodes = ns }))
      by (again.Count n) e = near_kept m (record m { mode = x; nodes = ns }) (keeps_same m.frame) refl (o (olds_of (reverse m.held)) ∙ sym (ap (λ y. olds_in y (olds_of (reverse m.held))) e)) less
      by (again.While at) e = near_kept m (record m { mode = x; nodes = ns }) (keeps_same m.frame) refl (o (olds_of (reverse m.held)) ∙ sym (ap (λ y. olds_in y (olds_of (reverse m.held))) e)) less
      by (again.Size old) e =
          let os = olds_of (reverse m.held) in
          let n : Machine = record m { mode = x; nodes = ns; frame = limited old m.frame } in
          record {
            packet = refl;
            sound = λ s. sound_by n os (reverse m.held) refl (o os) (back old os (reverse m.held) m.frame (sound_of m (old ∷ os) (reverse m.held) refl (ap (λ y. olds_in y os) e) s));
            less = less_mode code m n refl (omega arith) refl less;
          }
        where
          back : (old : ℕ) (os : List ℕ) (hs : List Held) (z : Frame) → SoundOn z (old ∷ os) hs → SoundOn (limited old z) os hs
          back old os hs z s = record { origin = s.origin; position = omega (arith, s.position, s.limits.0); limits = s.limits.1; blocks = s.blocks }

  pub near_over : (a : Again) (body after : ℕ) (m : Machine) → m.mode ≡ mode.Turn a body after → Nearer code m (over a after m)
  near_over a body after m e = near_restored a (mode.At after) m.nodes body after m e (λ os. refl) (omega arith)

  pub near_spent : (a b : Again) (body after : ℕ) (m : Machine) → m.mode ≡ mode.Turn b body after → ((os : List ℕ) → old_before b os ≡ old_before a os) → Nearer code m (restored a (halted reason.Turns m)) → Nearer code m (spent a body after m)
  near_spent a b body after m e same out = by (m.frame.env.turns == 0) refl
    where
      by : (x : Bool) → (m.frame.env.turns == 0) ≡ x → Nearer code m (if x then restored a (halted reason.Turns m) else record m { mode = mode.At body; held = m.held ++ held.Loop a body after ∷ []; frame = with_turns (m.frame.env.turns - 1) m.frame })
      by true f = out
      by false f =
          let o : Machine = record m { mode = mode.At body; held = m.held ++ held.Loop a body after ∷ []; frame = with_turns (m.frame.env.turns - 1) m.frame } in
          let g = not_zero m.frame.env.turns f in
          near_begun m o (held.Loop a body after) body after (old_before a (olds_of (reverse m.held))) refl (omega arith) refl refl refl refl
          (λ xs p s. record { origin = s.origin; position = s.position; limits = s.limits; blocks = s.blocks }) (ap (λ x. olds_in x (olds_of (reverse m.held))) e ∙ same (olds_of (reverse m.held)))

  pub near_unspent : (a : Again) (body after : ℕ) (m : Machine) → m.mode ≡ mode.Turn a body after → Nearer code m (restored a (halted reason.Turns m))
  near_unspent a body after m e = near_restored a (halted reason.Turns m).mode (halted reason.Turns m).nodes body after m e (λ os. refl) (omega arith)

  pub near_under : (n body after pc : ℕ) (m : Machine) → m.mode ≡ mode.At pc → of_mode (length code.ops) (mode.Turn (again.Size m.frame.env.limit) body after) < of_mode (length code.ops) (mode.At pc) → nat_le n (m.frame.env.limit - m.frame.env.at) ≡ true → n ≤ m.frame.env.limit - m.frame.env.at
      → Nearer code m (record m { mode = mode.Turn (again.Size m.frame.env.limit) body after; frame = limited (m.frame.env.at + n) m.frame })
  near_under n body after pc m e l f g =
      let o : Machine = record m { mode = mode.Turn (again.Size m.frame.env.limit) body after; frame = limited (m.frame.env.at + n) m.frame } in
      let os = olds_of (reverse m.held) in
      record {
        packet = refl;
        sound = λ s. sound_by o (m.frame.env.limit ∷ os) (reverse m.held) refl refl (within os (reverse m.held) m.frame g (sound_of m os (reverse m.held) refl (ap (λ y. olds_in y os) e) s));
        less = less_mode code m o refl (omega arith) refl (subst (λ y. of_mode (length code.ops) o.mode < of_mode (length code.ops) y) (sym e) l);
      }
    where
      within : (os : List ℕ) (hs : List Held) (z : Frame) → n ≤ z.env.limit - z.env.at → SoundOn z os hs → SoundOn (limited (z.env.at + n) z) (z.env.limit ∷ os) hs
      within os hs z h s = record { origin = s.origin; position = omega arith; limits = (omega (arith, s.position), s.limits); blocks = s.blocks }

  -- ---- lists that end

  -- a list that ended, before it goes on
  pub near_closed : (n from : ℕ) (before : List Node) (after : ℕ) (w : Way) (m : Machine) (hs : List Held) → m.mode ≡ mode.Leaving w → m.held ≡ hs ++ held.Block n from before after ∷ [] → Nearer code m (closed_to n from before after w (record m { held = hs }))
  near_closed n from before after w m hs e h =
      let h' = held.Block n from before after in
      let o = closed_to n from before after w (record m { held = hs }) in
      let os = olds_of (reverse hs) in
      record {
        packet = refl;
        sound = λ s. sound_by o os (reverse hs) refl (olds_behind after w os) (out (sound_of m os (h' ∷ reverse hs) (turn_over hs m.held h' h) (ap (λ y. olds_in y os) e) s));
        less = less_ended code m o h' refl (omega arith) h (subst (λ y. of_mode (length code.ops) o.mode < of_mode (length code.ops) y + of_held (length code.ops) h') (sym e) (by w));
      }
    where
      out : {os : List ℕ} {hs : List Held} → SoundOn m.frame os (held.Block n from before after ∷ hs) → SoundOn m.frame os hs
      out s = record { origin = s.origin; position = s.position; limits = s.limits; blocks = s.blocks.1 }

      by : (u : Way) → of_mode (length code.ops) (mode_behind after u) < 1 + (place (length code.ops) after + 3)
      by Next = omega arith
      by Break = omega arith
      by Continue = omega arith
      by (Chose q) = omega arith
      by (Stop r) = omega arith

  pub near_turned : (a : Again) (body after : ℕ) (w : Way) (m : Machine) (hs : List Held) → m.mode ≡ mode.Leaving w → m.held ≡ hs ++ held.Loop a body after ∷ [] → Nearer code m (turned_to a body after w (record m { held = hs }))
  near_turned a body after w m hs e h = by w e
    where
      os : List ℕ
      os = olds_of (reverse hs)

      ended : (u : Way) → m.mode ≡ mode.Leaving u → (x : Mode) (b : Again) (z : Frame) → z.env.packet ≡ m.frame.env.packet → z.env.turns ≡ m.frame.env.turns → z.nodes ≡ m.frame.nodes → (SoundOn m.frame (old_before a (olds_of (reverse hs))) (reverse hs) → SoundOn z (olds_in x (olds_of (reverse hs))) (reverse hs)) → of_mode (length code.ops) x < 1 + (place (length code.ops) after + 3)
          → Nearer code m (record m { mode = x; held = hs; frame = z })
      ended u e x b z p t k s l =
          let o : Machine = record m { mode = x; held = hs; frame = z } in
          let os = olds_of (reverse hs) in
          let loop = held.Loop a body after in
          record {
            packet = p;
            sound = λ v. sound_by o (olds_in x os) (reverse hs) refl refl (s (inner (sound_of m (old_before a os) (loop ∷ reverse hs) (turn_over hs m.held loop h) (ap (λ y. olds_in y (old_before a os)) e) v)));
            less = less_ended code m o loop t (omega arith) h (subst (λ y. of_mode (length code.ops) x < of_mode (length code.ops) y + of_held (length code.ops) loop) (sym e) l);
          }
        where
          inner : {os : List ℕ} {hs : List Held} → SoundOn m.frame os (held.Loop a body after ∷ hs) → SoundOn m.frame os hs
          inner s = record { origin = s.origin; position = s.position; limits = s.limits; blocks = s.blocks }

      out : (u : Way) → m.mode ≡ mode.Leaving u → (x : Mode) → ((os : List ℕ) → olds_in x os ≡ os) → of_mode (length code.ops) x < 1 + (place (length code.ops) after + 3) → (b : Again) → a ≡ b → Nearer code m (restored b (record m { mode = x; held = hs }))
      out u e x o l (again.Count n) f = ended u e x (again.Count n) m.frame refl refl refl (λ s. subst (λ os. SoundOn m.frame os (reverse hs)) (ap (λ y. old_before y (olds_of (reverse hs))) f ∙ sym (o (olds_of (reverse hs)))) s) l
      out u e x o l (again.While at) f = ended u e x (again.While at) m.frame refl refl refl (λ s. subst (λ os. SoundOn m.frame os (reverse hs)) (ap (λ y. old_before y (olds_of (reverse hs))) f ∙ sym (o (olds_of (reverse hs)))) s) l
      out u e x o l (again.Size old) f =
          ended u e x (again.Size old) (limited old m.frame) refl refl refl
          (λ s. subst (λ os. SoundOn (limited old m.frame) os (reverse hs)) (sym (o (olds_of (reverse hs)))) (back (olds_of (reverse hs)) (reverse hs) m.frame (subst (λ os. SoundOn m.frame os (reverse hs)) (ap (λ y. old_before y (olds_of (reverse hs))) f) s))) l
        where
          back : (os : List ℕ) (hs : List Held) (z : Frame) → SoundOn z (old ∷ os) hs → SoundOn (limited old z) os hs
          back os hs z s = record { origin = s.origin; position = omega (arith, s.position, s.limits.0); limits = s.limits.1; blocks = s.blocks }

      by : (u : Way) → m.mode ≡ mode.Leaving u → Nearer code m (turned_to a body after u (record m { held = hs }))
      by Next e = ended Next e (mode.Turn a body after) a m.frame refl refl refl (λ s. s) (omega arith)
      by Continue e = ended Continue e (mode.Turn a body after) a m.frame refl refl refl (λ s. s) (omega arith)
      by Break e = out Break e (mode.At after) (λ os. refl) (omega arith) a refl
      by (Chose q) e = out (Chose q) e (mode.Leaving (Chose q)) (λ os. refl) (omega arith) a refl
      by (Stop r) e = out (Stop r) e (mode.Leaving (Stop r)) (λ os. refl) (omega arith) a refl
