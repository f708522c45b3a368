-- How positions stay sound, and how a machine comes nearer to its end.
use Rattle.std.specs.Prelude.{◌≡◌, ℕ, ◌+◌, ◌-◌, ◌*◌, ◌<◌, ◌≤◌, min, List, [], ◌∷◌, ◌++◌, length, reverse}
use Rattle.std.proofs.Common.{refl, sym, ap, subst, ◌∙◌, arith}
use Rattle.db_model.specs.declared.env.Env.{Env}
use Rattle.db_model.specs.declared.env.Frame.{Frame}
use Rattle.db_model.specs.declared.env.Way.{Way}
use Rattle.db_model.specs.declared.env.Way.TheVariants.{Next, Break, Continue, Chose, Stop}
use Rattle.db_model.specs.declared.packet.Packet.{Packet}
use Rattle.pdl_code.specs.declared.code.ProtoCode.{ProtoCode}
use Rattle.expr_eval.specs.Evaluates.{Stays}
use Rattle.decode_vm.specs.declared.machine.Held.{Held}
use Rattle.decode_vm.specs.declared.machine.Held.TheVariants as held
use Rattle.decode_vm.specs.declared.machine.Machine.{Machine}
use Rattle.decode_vm.specs.declared.machine.Mode.TheVariants as mode
use Rattle.decode_vm.specs.Cost.{place, of_mode, of_held, of_all, for_each, cost}
use Rattle.decode_vm.specs.Machine.{mode_behind, Keeps}
use Rattle.decode_vm.specs.Sound.{Rising, olds_of, olds_in, BegunBefore, Sound}

-- ---- what is kept

pub keeps_same : (z : Frame) → Keeps z z
keeps_same z = record { packet = refl; origin = refl; limit = refl; turns = refl; nodes = omega arith; forward = omega arith; within = λ h. h }

pub keeps_then : (x y z : Frame) → Keeps x y → Keeps y z → Keeps x z
keeps_then x y z h k = record {
  packet = k.packet ∙ h.packet;
  origin = k.origin ∙ h.origin;
  limit = k.limit ∙ h.limit;
  turns = k.turns ∙ h.turns;
  nodes = omega (arith, h.nodes, k.nodes);
  forward = omega (arith, h.forward, k.forward);
  within = λ e. k.within (h.within e);
}

-- an evaluation moves nothing
pub keeps_env : (z : Frame) (e : Env) → Stays z.env e → Keeps z (record z { env = e })
keeps_env z e h =
    let at : e.at ≡ z.env.at = ap (λ (x : Env). x.at) h in
    let limit : e.limit ≡ z.env.limit = ap (λ (x : Env). x.limit) h in
    record {
      packet = ap (λ (x : Env). x.packet) h;
      origin = ap (λ (x : Env). x.origin) h;
      limit = limit;
      turns = ap (λ (x : Env). x.turns) h;
      nodes = omega arith;
      forward = omega arith;
      within = λ k. omega arith;
    }

-- ---- positions

pub olds_behind : (after : ℕ) (w : Way) (os : List ℕ) → olds_in (mode_behind after w) os ≡ os
olds_behind after Next os = refl
olds_behind after Break os = refl
olds_behind after Continue os = refl
olds_behind after (Chose q) os = refl
olds_behind after (Stop r) os = refl

pub begun_later : (at at' : ℕ) → at ≤ at' → (hs : List Held) → BegunBefore at hs → BegunBefore at' hs
begun_later at at' h [] b = tt
begun_later at at' h (held.Block n from before after ∷ hs) b = (omega (arith, h, b.0), begun_later at at' h hs b.1)
begun_later at at' h (held.Loop a body after ∷ hs) b = begun_later at at' h hs b

-- a machine with these lists around it, from the innermost outwards
pub record SoundOn (z : Frame) (os : List ℕ) (hs : List Held) : Type 0 where
  pub origin : z.env.origin ≤ z.env.at
  pub position : z.env.at ≤ z.env.limit
  pub limits : Rising z.env.limit os (length z.env.packet.bytes)
  pub blocks : BegunBefore z.env.at hs

pub sound_by : (n : Machine) (os : List ℕ) (hs : List Held) → reverse n.held ≡ hs → olds_in n.mode (olds_of hs) ≡ os → SoundOn n.frame os hs → Sound n
sound_by n os hs e f s = record {
  origin = s.origin;
  position = s.position;
  limits = subst (λ x. Rising n.frame.env.limit (olds_in n.mode (olds_of x)) (length n.frame.env.packet.bytes)) (sym e) (subst (λ x. Rising n.frame.env.limit x (length n.frame.env.packet.bytes)) (sym f) s.limits);
  blocks = subst (λ x. BegunBefore n.frame.env.at x) (sym e) s.blocks;
}

pub sound_of : (m : Machine) (os : List ℕ) (hs : List Held) → reverse m.held ≡ hs → olds_in m.mode (olds_of hs) ≡ os → Sound m → SoundOn m.frame os hs
sound_of m os hs e f s = record {
  origin = s.origin;
  position = s.position;
  limits = subst (λ x. Rising m.frame.env.limit x (length m.frame.env.packet.bytes)) f (subst (λ x. Rising m.frame.env.limit (olds_in m.mode (olds_of x)) (length m.frame.env.packet.bytes)) e s.limits);
  blocks = subst (λ x. BegunBefore m.frame.env.at x) e s.blocks;
}

pub sound_kept : (y z : Frame) (os : List ℕ) (hs : List Held) → Keeps y z → SoundOn y os hs → SoundOn z os hs
sound_kept y z os hs k s = record {
  origin = omega (arith, k.origin, k.forward, s.origin);
  position = k.within s.position;
  limits = subst (λ (p : Packet). Rising z.env.limit os (length p.bytes)) (sym k.packet) (subst (λ x. Rising x os (length y.env.packet.bytes)) (sym k.limit) s.limits);
  blocks = begun_later y.env.at z.env.at k.forward hs s.blocks;
}

-- ---- the way to the end

-- what is left of turns and nodes stays or falls, and the machine goes forward
forward : (a b c x y : ℕ) → a ≤ b → x < y → a * c + x < b * c + y
forward a b c x y h k = grind (arith, mul_le a b c h)
  where
    mul_le : (a b c : ℕ) → a ≤ b → a * c ≤ b * c
    mul_le a b c h = grind arith

-- a turn or a node pays for a list
paid : (a b c x y : ℕ) → a + 1 ≡ b → x < c + y → a * c + x < b * c + y
paid a b c x y h k =
    let e : (a + 1) * c ≡ b * c = ap (λ n. n * c) h in omega arith

of_push : (size : ℕ) (hs : List Held) (h : Held) → of_all size (hs ++ h ∷ []) ≡ of_all size hs + of_held size h
of_push size [] h = omega arith
of_push size (x ∷ hs) h = omega (arith, of_push size hs h)

module _ (code : ProtoCode) where
  pub less_mode : (m n : Machine) → n.frame.env.turns ≡ m.frame.env.turns → n.frame.nodes ≤ m.frame.nodes → n.held ≡ m.held → of_mode (length code.ops) n.mode < of_mode (length code.ops) m.mode → cost code n < cost code m
  unfolding cost
  less_mode m n t k h l =
      let e : of_all (length code.ops) n.held ≡ of_all (length code.ops) m.held = ap (of_all (length code.ops)) h in
      forward (n.frame.env.turns + n.frame.nodes) (m.frame.env.turns + m.frame.nodes) (for_each (length code.ops)) (of_mode (length code.ops) n.mode + of_all (length code.ops) n.held) (of_mode (length code.ops) m.mode + of_all (length code.ops) m.held)
      (omega arith) (omega arith)

  -- a list is begun
  pub less_begun : (m n : Machine) (h : Held) (body : ℕ) → n.frame.env.turns + n.frame.nodes + 1 ≡ m.frame.env.turns + m.frame.nodes → n.held ≡ m.held ++ h ∷ [] → n.mode ≡ mode.At body → (after : ℕ) → of_held (length code.ops) h ≡ place (length code.ops) after + 3 → cost code n < cost code m
  unfolding cost
  less_begun m n h body t e f after g =
      let size = length code.ops in
      let held : of_all size n.held ≡ of_all size m.held + of_held size h = ap (of_all size) e ∙ of_push size m.held h in
      let mode : of_mode size n.mode ≡ place size body + 2 = ap (of_mode size) f in
      paid (n.frame.env.turns + n.frame.nodes) (m.frame.env.turns + m.frame.nodes) (for_each size) (of_mode size n.mode + of_all size n.held) (of_mode size m.mode + of_all size m.held)
      t (omega arith)

  -- a list has ended
  pub less_ended : (m n : Machine) (h : Held) → n.frame.env.turns ≡ m.frame.env.turns → n.frame.nodes ≤ m.frame.nodes → m.held ≡ n.held ++ h ∷ [] → of_mode (length code.ops) n.mode < of_mode (length code.ops) m.mode + of_held (length code.ops) h → cost code n < cost code m
  unfolding cost
  less_ended m n h t k e l =
      let size = length code.ops in
      let held : of_all size m.held ≡ of_all size n.held + of_held size h = ap (of_all size) e ∙ of_push size n.held h in
      forward (n.frame.env.turns + n.frame.nodes) (m.frame.env.turns + m.frame.nodes) (for_each size) (of_mode size n.mode + of_all size n.held) (of_mode size m.mode + of_all size m.held)
      (omega arith) (omega arith)

-- a place behind is nearer to the end
pub nearer : (size pc to : ℕ) → pc < size → 2 * (size - min (pc + 1 + to) size) + 2 ≤ 2 * (size - pc)
nearer size pc to h = omega arith

-- behind an operation, whichever way it ended
pub less_behind : (size pc to : ℕ) (w : Way) → pc < size → of_mode size (mode_behind (min (pc + 1 + to) size) w) < of_mode size (mode.At pc)
less_behind size pc to Next h = omega (arith, nearer size pc to h)
less_behind size pc to Break h = omega (arith, nearer size pc to h)
less_behind size pc to Continue h = omega (arith, nearer size pc to h)
less_behind size pc to (Chose q) h = omega (arith, nearer size pc to h)
less_behind size pc to (Stop r) h = omega (arith, nearer size pc to h)
