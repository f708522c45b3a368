-- The engine's loop, from the first machine to the end of the whole list.
use Rattle.std.specs.Prelude.{◌≡◌, ℕ, ◌<◌, List, [], ◌∷◌, ◌++◌, length, reverse, Option, Some, None, Result, Ok, Err}
use Rattle.std.proofs.Common.{refl, sym, ap, subst, ◌∙◌}
use Rattle.db_model.specs.declared.database.Database.{Database}
use Rattle.db_model.specs.declared.env.Frame.{Frame}
use Rattle.db_model.specs.declared.env.Way.{Way}
use Rattle.db_model.specs.declared.no_memory.NoMemory.{NoMemory}
use Rattle.db_model.specs.declared.packet.Packet.{Packet}
use Rattle.db_model.specs.declared.tree.Node.{Node}
use Rattle.db_model.specs.Over.{Point, point, Ends}
use Rattle.db_model.specs.Questions.{Asks, Log, pure, ◌then◌}
use Rattle.db_model.specs.Runs.{Went, Run}
use Rattle.db_model.specs.Session.{Session}
use Rattle.db_model.proofs.Over.{leads_same}
use Rattle.pdl_code.specs.declared.code.ProtoCode.{ProtoCode}
use Rattle.pdl_code.specs.Does.{Does}
use Rattle.decode_vm.specs.declared.machine.Held.{Held}
use Rattle.decode_vm.specs.declared.machine.Held.TheVariants as held
use Rattle.decode_vm.specs.declared.machine.Machine.{Machine}
use Rattle.decode_vm.specs.declared.machine.Mode.TheVariants as mode
use Rattle.decode_vm.specs.declared.list.Ended.{Ended}
use Rattle.decode_vm.specs.Cost.{cost}
use Rattle.decode_vm.specs.Left.{AllFit, onto, Left, Running, Moves, Refuses}
use Rattle.decode_vm.specs.Machine.{resumed}
use Rattle.decode_vm.specs.Resume.{IsBegun}
use Rattle.decode_vm.specs.Run.{IsPlaced, first_of, Closed, HasRun, Finishes, Stepped, RunEnds}
use Rattle.decode_vm.specs.Sound.{BegunBefore, olds_in, olds_of, Sound}
use Rattle.decode_vm.proofs.Algebra.{then_pure}
use Rattle.decode_vm.proofs.Fields.{rising_end}
use Rattle.decode_vm.proofs.Lists.{turn_over}
use Rattle.decode_vm.proofs.Moves.{refuses_here}
use Rattle.decode_vm.proofs.Turns.{moves_resumed, ended}

-- ---- the list around

first_begun : (h : Held) (hs : List Held) (at : ℕ) → BegunBefore at (h ∷ hs) → IsBegun h at
first_begun (held.Block n from before after) hs at b = b.0
first_begun (held.Loop a body after) hs at b = tt

pub begun_there : (m : Machine) (hs : List Held) (h : Held) → Sound m → m.held ≡ hs ++ h ∷ [] → IsBegun h m.frame.env.at
begun_there m hs h s e = first_begun h (reverse hs) m.frame.env.at (subst (λ (xs : List Held). BegunBefore m.frame.env.at xs) (turn_over hs m.held h e) s.blocks)

pub close_refused : (w : Way) (m n : Machine) (o : Result (Option Way) NoMemory) (e : NoMemory) → o ≡ Err e → Closed w m o n
close_refused w m n o e h = subst (λ (x : Result (Option Way) NoMemory). Closed w m x n) (sym h) tt

pub close_some : (w : Way) (m : Machine) (hs : List Held) (h : Held) (n : Machine) → m.held ≡ hs ++ h ∷ [] → n ≡ resumed h w (record m { held = hs }) → Closed w m (Ok None) n
close_some w m hs h n e f = (h, hs, e, f)

pub close_none : (w : Way) (m : Machine) (hs : List Held) → m.held ≡ [] → hs ≡ [] → Closed w m (Ok (Some w)) (record m { held = hs })
close_none w m hs e f = (refl, e, ap (λ (xs : List Held). record m { held = xs }) (f ∙ sym e))

-- ---- positions

pub sound_first : (z : Frame) → IsPlaced z → Sound (first_of z)
sound_first z p = record { origin = p.origin; position = p.position; limits = p.limit; blocks = tt }

pub is_placed : (m : Machine) → Sound m → IsPlaced m.frame
is_placed m s = record { origin = s.origin; position = s.position; limit = rising_end m.frame.env.limit (olds_in m.mode (olds_of (reverse m.held))) (length m.frame.env.packet.bytes) s.limits }

-- ---- steps

module _ (db : Database) (code : ProtoCode) where
  pub step_refused : (m : Machine) (c : Session) (l : Option Log) (o : Result (Option Way) NoMemory) (e : NoMemory) (n : Machine) (c' : Session) (l' : Option Log) → o ≡ Err e → Refuses db code m c l e n c' l' → Stepped db code m c l o n c' l'
  step_refused m c l o e n c' l' h r = subst (λ (x : Result (Option Way) NoMemory). Stepped db code m c l x n c' l') (sym h) r

  pub step_closed : (w : Way) (m : Machine) (c : Session) (l : Option Log) (o : Result (Option Way) NoMemory) (n : Machine) → m.mode ≡ mode.Leaving w → Closed w m o n → Stepped db code m c l o n c l
  step_closed w m c l (Ok None) n e x = subst (λ (y : Machine). Moves db code m c l y c l) (sym x.3) (moves_resumed db code x.0 w m x.1 c l e x.2)
  step_closed w m c l (Ok (Some v)) n e x = record {
    ends = λ t r s a.
        subst (λ (y : Machine). Ends db t r s (Ok (v, y.nodes)) (point y.frame c l)) (sym x.2)
        (ended db code t r s v m c l (e ∙ ap (λ (y : Way). mode.Leaving y) (sym x.0)) x.1 a);
    frame = ap (λ (y : Machine). y.frame) x.2;
  }
  step_closed w m c l (Err f) n e x = refuses_here db code m n f c l

  -- ---- the loop

  -- from the first machine on: whatever was left of that one is left of this one
  pub record SoFar (z : Frame) (c : Session) (l : Option Log) (m : Machine) (c' : Session) (l' : Option Log) : Type 0 where
    pub packet : m.frame.env.packet ≡ z.env.packet
    pub sound : Sound m
    pub goes : (t : ℕ) (w : Run) (s : Point Frame) → Left db code t w s (first_of z) c l → Left db code t w s m c' l'

  left_first : (r : Run) (z : Frame) (c : Session) (l : Option Log) → Does db code 0 r → AllFit db (r z) → Left db code z.env.packet.stamp r (point z c l) (first_of z) c l
  left_first r z c l d f =
      let same : (r then onto [] pure) ≡ r = then_pure r in
      record {
        run = r;
        rest = pure;
        doing = d;
        ahead = record {
          follow = refl;
          stamp = refl;
          leads = leads_same db z.env.packet.stamp r (r then onto [] pure) (point z c l) (ap (λ (p : Run). p z) (sym same));
          fit = subst (λ (x : Asks (Went × Frame)). AllFit db x) (ap (λ (p : Run). p z) (sym same)) f;
        };
      }

  module _ (z : Frame) (c : Session) (l : Option Log) where
    so_far_first : IsPlaced z → SoFar z c l (first_of z) c l
    so_far_first p = record { packet = refl; sound = sound_first z p; goes = λ t w s a. a }

    pub so_far_begun : (hs : List Held) (ns : List Node) → hs ≡ [] → ns ≡ [] → IsPlaced z → SoFar z c l (record { mode = mode.At 0; held = hs; nodes = ns; frame = z }) c l
    so_far_begun hs ns e f p =
        subst (λ (x : List Held). SoFar z c l (record { mode = mode.At 0; held = x; nodes = ns; frame = z }) c l) (sym e)
        (subst (λ (x : List Node). SoFar z c l (record { mode = mode.At 0; held = []; nodes = x; frame = z }) c l) (sym f) (so_far_first p))

    module _ (m : Machine) (c' : Session) (l' : Option Log) (x : SoFar z c l m c' l') where
      -- after a step
      module _ (o : Option Way) (n : Machine) (c'' : Session) (l'' : Option Log) (h : Stepped db code m c' l' (Ok o) n c'' l'') where
        moved : o ≡ None → Moves db code m c' l' n c'' l''
        moved e = subst (λ (y : Option Way). Stepped db code m c' l' (Ok y) n c'' l'') e h

        finished : (w : Way) → o ≡ Some w → Finishes db code w m c' l' n c'' l''
        finished w e = subst (λ (y : Option Way). Stepped db code m c' l' (Ok y) n c'' l'') e h

        pub so_far_on : o ≡ None → SoFar z c l n c'' l''
        so_far_on e = let g = moved e in record { packet = g.nearer.packet ∙ x.packet; sound = g.nearer.sound x.sound; goes = λ t w s a. g.left t w s (x.goes t w s a) }

        pub step_less : o ≡ None → cost code n < cost code m
        step_less e = (moved e).nearer.less

        module _ (w : Way) (is : o ≡ Some w) (e : Ended) (made : e ≡ record { way = w; nodes = n.nodes; frame = n.frame }) where
          same_frame : e.frame ≡ m.frame
          same_frame = ap (λ (y : Ended). y.frame) made ∙ (finished w is).frame

          pub ran_packet : e.frame.env.packet ≡ z.env.packet
          ran_packet = ap (λ (y : Frame). y.env.packet) same_frame ∙ x.packet

          pub ran_placed : IsPlaced e.frame
          ran_placed = subst IsPlaced (sym same_frame) (is_placed m x.sound)

          ran_here : RunEnds db code z c l (Ok (record { way = w; nodes = n.nodes; frame = n.frame })) c'' l''
          ran_here r d f = (finished w is).ends z.env.packet.stamp r (point z c l) (x.goes z.env.packet.stamp r (point z c l) (left_first r z c l d f))

          pub ran : RunEnds db code z c l (Ok e) c'' l''
          ran = subst (λ (y : Ended). RunEnds db code z c l (Ok y) c'' l'') (sym made) ran_here

      pub so_far_time : (most : ℕ) → z.env.packet.stamp < most → m.frame.env.packet.stamp < most
      so_far_time most h = subst (λ (p : Packet). p.stamp < most) (sym x.packet) h

      pub so_far_running : HasRun db code z → Running db code m c' l'
      so_far_running h = record { moment = z.env.packet.stamp; whole = h.run; start = point z c l; left = x.goes z.env.packet.stamp h.run (point z c l) (left_first h.run z c l h.does h.fit) }

      pub run_refused : (o : Result Ended NoMemory) (e : NoMemory) (n : Machine) (c'' : Session) (l'' : Option Log) → o ≡ Err e → Refuses db code m c' l' e n c'' l'' → RunEnds db code z c l o c'' l''
      run_refused o e n c'' l'' g h = subst (λ (y : Result Ended NoMemory). RunEnds db code z c l y c'' l'') (sym g) by
        where
          by : RunEnds db code z c l (Err e) c'' l''
          by r d f y = record { ends = (h.begun z.env.packet.stamp r (point z c l) (x.goes z.env.packet.stamp r (point z c l) (left_first r z c l d f))).ends }
