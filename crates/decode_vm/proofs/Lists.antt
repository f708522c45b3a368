-- How blocks and loops are begun, and how a list that ended goes on with the one around it.
use Rattle.std.specs.Prelude.{◌≡◌, ℕ, zero, suc, ◌+◌, ◌-◌, Bool, true, false, if◌then◌else◌, nat_le, List, [], ◌∷◌, ◌++◌, reverse, Option}
use Rattle.std.proofs.Common.{refl, sym, ap, subst, ◌∙◌, append-nil, arith}
use Rattle.std.proofs.lemmas.List.{reverse-append}
use Rattle.db_model.specs.declared.database.Database.{Database}
use Rattle.db_model.specs.declared.env.Frame.{Frame}
use Rattle.db_model.specs.declared.env.Way.{Way}
use Rattle.db_model.specs.declared.env.Way.TheVariants.{Next, Break, Continue, Chose, Stop}
use Rattle.db_model.specs.declared.tree.Node.{Node}
use Rattle.db_model.specs.declared.tree.Node.TheVariants.{Block, Note}
use Rattle.db_model.specs.declared.tree.Reason.TheVariants as reason
use Rattle.db_model.specs.Over.{Point}
use Rattle.db_model.specs.Questions.{Asks, Gives, and_then, Log, pure, ◌then◌}
use Rattle.db_model.specs.Runs.{Went, Run, leave, next, halt, behind, go, node_at, closed, block, turned, with_turns, turn, repeat, looped, before_limit, limited, around, under_limit}
use Rattle.db_model.specs.Session.{Session}
use Rattle.pdl_code.specs.declared.code.ProtoCode.{ProtoCode}
use Rattle.pdl_code.specs.Does.{Does}
use Rattle.decode_vm.specs.declared.machine.Again.{Again}
use Rattle.decode_vm.specs.declared.machine.Again.TheVariants as again
use Rattle.decode_vm.specs.declared.machine.Held.{Held}
use Rattle.decode_vm.specs.declared.machine.Held.TheVariants as held
use Rattle.decode_vm.specs.declared.machine.Machine.{Machine}
use Rattle.decode_vm.specs.declared.machine.Mode.TheVariants as mode
use Rattle.decode_vm.specs.Left.{Rest, onto, after_block, ending, of_loop, after_turn, TurnsLeft, BlockHeld, LoopHeld, Follow, Ahead, Left}
use Rattle.decode_vm.specs.Machine.{mode_behind, in_mode, halted, restored, over, closed_to, turned_to}
use Rattle.decode_vm.proofs.Algebra.{Passes, then_assoc, behind_then, passes_pure, passes_go, passes_turned, passes_then, onto_is, onto_leave, turn_is}
use Rattle.decode_vm.proofs.Ahead.{follow_less, ahead_move, went}

-- ---- loops and the nodes that are there

pub passes_ending : (a : Again) → Passes (ending a)
passes_ending (again.Count n) = passes_pure
passes_ending (again.While at) = passes_pure
passes_ending (again.Size old) = λ ns w. refl

-- what follows a turn takes the nodes as they are
passes_turn : (a : Again) (turns rest : Run) → Passes (λ w. (turned w.0 w.1 turns then ending a) then go rest)
passes_turn a turns rest = passes_then (λ w. turned w.0 w.1 turns then ending a) (go rest) (passes_then (λ w. turned w.0 w.1 turns) (ending a) (passes_turned turns) (passes_ending a)) (passes_go rest)

after_turn_onto : (a : Again) (turns rest : Run) (ns : List Node) (k : Rest) (w : Went) → (((turned w.0 w.1 turns then ending a) then go rest) then onto ns k) ≡ onto ns (after_turn a turns rest k) w
after_turn_onto a turns rest ns k w =
    sym (onto_is ns ((turned w.0 w.1 turns then ending a) then go rest) k) ∙ ap (λ (p : Run). p then k) (passes_turn a turns rest ns w)

-- a turn of a loop, and what follows it
one_turn : (a : Again) (inner turns rest : Run) (ns : List Node) (k : Rest) → (of_loop a (inner then (λ w. turned w.0 w.1 turns)) rest then onto ns k) ≡ (inner then onto ns (after_turn a turns rest k))
one_turn a inner turns rest ns k =
    ap (λ (p : Run). (p then go rest) then onto ns k) (then_assoc inner (λ w. turned w.0 w.1 turns) (ending a))
    ∙ (ap (λ (p : Run). p then onto ns k) (then_assoc inner (λ w. turned w.0 w.1 turns then ending a) (go rest))
    ∙ (then_assoc inner (λ w. (turned w.0 w.1 turns then ending a) then go rest) (onto ns k)
    ∙ ap (λ (g : Rest). inner then g) (λ i w. after_turn_onto a turns rest ns k w i)))

-- a loop that goes on, with the nodes of its last turn
next_turn : (a : Again) (turns rest : Run) (ns : List Node) (k : Rest) → (((behind ns turns then ending a) then go rest) then k) ≡ (of_loop a turns rest then onto ns k)
next_turn a turns rest ns k =
    ap (λ (p : Run). (p then go rest) then k) (sym (behind_then ns turns (ending a) (passes_ending a)))
    ∙ (ap (λ (p : Run). p then k) (sym (behind_then ns (turns then ending a) (go rest) (passes_go rest)))
    ∙ onto_is ns ((turns then ending a) then go rest) k)

-- ---- lists

pub turn_over : {A : Type 0} (xs ys : List A) (x : A) → ys ≡ xs ++ x ∷ [] → reverse ys ≡ x ∷ reverse xs
turn_over xs ys x e = ap reverse e ∙ reverse-append xs (x ∷ [])

module _ (db : Database) (code : ProtoCode) (t : ℕ) (w : Run) (s : Point Frame) where
  -- ---- a block

  -- its body runs with a node less
  pub left_opened : (n body after left : ℕ) (inner rest : Run) (k : Rest) (m : Machine) (c : Session) (l : Option Log) → Ahead db code t w s (block n inner then go rest) k m c l → Does db code body inner → Does db code after rest → m.frame.nodes ≡ suc left
      → Left db code t w s (record { mode = mode.At body; held = m.held ++ held.Block n m.frame.env.at m.nodes after ∷ []; nodes = []; frame = record m.frame { nodes = left } }) c l
  left_opened n body after left inner rest k m c l a d e f =
      let h = held.Block n m.frame.env.at m.nodes after in
      let z = record m.frame { nodes = left } in
      let o : Machine = record { mode = mode.At body; held = m.held ++ h ∷ []; nodes = []; frame = z } in
      let j = after_block n m.frame.env.at m.nodes rest k in
      record {
        run = inner;
        rest = j;
        doing = d;
        ahead = ahead_move db code t w s (block n inner then go rest) inner k j m o c l a
            (subst (λ hs. Follow db code m.frame.env.turns hs j) (sym (turn_over m.held o.held h refl)) (k, (a.follow, record { rest = rest; at_rest = e; is = refl })))
            refl (ap (λ (x : ℕ). first x) f ∙ ap (λ (p : Run). p z) parts);
      }
    where
      first : ℕ → Asks (Went × Frame)
      first x = and_then (and_then (node_at (λ y. and_then (inner y) (λ r. closed n y.env.at r.0 r.1)) m.frame x) (λ y. go rest y.0 y.1)) (λ y. onto m.nodes k y.0 y.1)

      parts : (((inner then closed n m.frame.env.at) then go rest) then onto m.nodes k) ≡ (inner then after_block n m.frame.env.at m.nodes rest k)
      parts = ap (λ (p : Run). p then onto m.nodes k) (then_assoc inner (closed n m.frame.env.at) (go rest)) ∙ then_assoc inner (λ v. closed n m.frame.env.at v then go rest) (onto m.nodes k)

  -- no node is left for it
  pub left_unopened : (n after : ℕ) (inner rest : Run) (k : Rest) (m : Machine) (c : Session) (l : Option Log) → Ahead db code t w s (block n inner then go rest) k m c l → Does db code after rest → m.frame.nodes ≡ zero → Left db code t w s (halted reason.Nodes m) c l
  left_unopened n after inner rest k m c l a e f =
      went db code t w s (block n inner) rest k after m c l a e (Stop reason.Nodes) (Note reason.Nodes m.frame.env.at ∷ []) m.frame
      (ap (λ (x : ℕ). node_at (λ y. and_then (inner y) (λ r. closed n y.env.at r.0 r.1)) m.frame x) f) refl refl

  -- ---- a loop

  -- the body runs with a turn less
  pub left_spent : (a : Again) (body after left : ℕ) (inner turns more rest : Run) (k : Rest) (m : Machine) (c : Session) (l : Option Log) → Ahead db code t w s (of_loop a turns rest) k m c l → Does db code body inner → Does db code after rest
      → m.frame.env.turns ≡ suc left → turns m.frame ≡ turn inner more m.frame → TurnsLeft db code left a inner more
      → Left db code t w s (record m { mode = mode.At body; held = m.held ++ held.Loop a body after ∷ []; frame = with_turns left m.frame }) c l
  left_spent a body after left inner turns more rest k m c l h d e f g r =
      let x = held.Loop a body after in
      let z = with_turns left m.frame in
      let o : Machine = record m { mode = mode.At body; held = m.held ++ x ∷ []; frame = z } in
      let j = after_turn a more rest k in
      record {
        run = inner;
        rest = j;
        doing = d;
        ahead = ahead_move db code t w s (of_loop a turns rest) inner k j m o c l h
            (subst (λ hs. Follow db code left hs j) (sym (turn_over m.held o.held x refl))
            (k, (follow_less db code m.frame.env.turns left (omega arith) (reverse m.held) k h.follow, record { loop = record { inner = inner; turns = more; rest = rest; at_body = d; at_rest = e; left = r }; is = refl })))
            refl
            (ap first (g ∙ turn_is inner more m.frame left f) ∙ ap (λ (p : Run). p z) (one_turn a inner more rest m.nodes k));
      }
    where
      first : Asks (Went × Frame) → Asks (Went × Frame)
      first x = and_then (and_then (and_then x (λ y. ending a y.0 y.1)) (λ y. go rest y.0 y.1)) (λ y. onto m.nodes k y.0 y.1)

  -- it makes no further turn
  pub left_over : (a : Again) (after : ℕ) (turns rest : Run) (k : Rest) (m : Machine) (c : Session) (l : Option Log) → Ahead db code t w s (of_loop a turns rest) k m c l → Does db code after rest → turns m.frame ≡ next m.frame → Left db code t w s (over a after m) c l
  left_over a after turns rest k m c l h e g = by a h
    where
      ended : (b : Again) (z : Frame) → (next then ending b) m.frame ≡ Gives ((Next, []), z) → (turns then ending b) m.frame ≡ Gives ((Next, []), z)
      ended b z x = ap (λ (y : Asks (Went × Frame)). and_then y (λ v. ending b v.0 v.1)) g ∙ x

      on : (z : Frame) → Left db code t w s (record m { mode = mode.At after; nodes = m.nodes ++ []; frame = z }) c l → Left db code t w s (record m { mode = mode.At after; frame = z }) c l
      on z x = subst (λ (ns : List Node). Left db code t w s (record m { mode = mode.At after; nodes = ns; frame = z }) c l) (append-nil m.nodes) x

      by : (b : Again) → Ahead db code t w s (of_loop b turns rest) k m c l → Left db code t w s (over b after m) c l
      by (again.Count n) h = on m.frame (went db code t w s (turns then ending (again.Count n)) rest k after m c l h e Next [] m.frame (ended (again.Count n) m.frame refl) refl refl)
      by (again.While at) h = on m.frame (went db code t w s (turns then ending (again.While at)) rest k after m c l h e Next [] m.frame (ended (again.While at) m.frame refl) refl refl)
      by (again.Size old) h = on (limited old m.frame) (went db code t w s (turns then ending (again.Size old)) rest k after m c l h e Next [] (limited old m.frame) (ended (again.Size old) (limited old m.frame) refl) refl refl)

  -- no turn is left for it
  pub left_unspent : (a : Again) (after : ℕ) (turns rest : Run) (k : Rest) (m : Machine) (c : Session) (l : Option Log) → Ahead db code t w s (of_loop a turns rest) k m c l → Does db code after rest → turns m.frame ≡ halt reason.Turns m.frame
      → Left db code t w s (restored a (halted reason.Turns m)) c l
  left_unspent a after turns rest k m c l h e g = by a h
    where
      note : List Node
      note = Note reason.Turns m.frame.env.at ∷ []

      ended : (b : Again) (z : Frame) → (halt reason.Turns then ending b) m.frame ≡ Gives ((Stop reason.Turns, note), z) → (turns then ending b) m.frame ≡ Gives ((Stop reason.Turns, note), z)
      ended b z x = ap (λ (y : Asks (Went × Frame)). and_then y (λ v. ending b v.0 v.1)) g ∙ x

      by : (b : Again) → Ahead db code t w s (of_loop b turns rest) k m c l → Left db code t w s (restored b (halted reason.Turns m)) c l
      by (again.Count n) h = went db code t w s (turns then ending (again.Count n)) rest k after m c l h e (Stop reason.Turns) note m.frame (ended (again.Count n) m.frame refl) refl refl
      by (again.While at) h = went db code t w s (turns then ending (again.While at)) rest k after m c l h e (Stop reason.Turns) note m.frame (ended (again.While at) m.frame refl) refl refl
      by (again.Size old) h = went db code t w s (turns then ending (again.Size old)) rest k after m c l h e (Stop reason.Turns) note (limited old m.frame) (ended (again.Size old) (limited old m.frame) refl) refl refl

  -- ---- a list that ended

  -- a block is closed, whichever way its body ended
  pub left_closed : (v : Way) (n from : ℕ) (before : List Node) (after : ℕ) (j k : Rest) (m : Machine) (hs : List Held) (c : Session) (l : Option Log) → Ahead db code t w s (leave v) k m c l → Follow db code m.frame.env.turns (reverse hs) j → BlockHeld db code n from before after j k
      → Left db code t w s (closed_to n from before after v (record m { held = hs })) c l
  left_closed v n from before after j k m hs c l a f b =
      let o : Machine = record m { held = hs; nodes = before } in
      went db code t w s (closed n from (v, m.nodes)) b.rest j after o c l
      (ahead_move db code t w s (leave v) (closed n from (v, m.nodes) then go b.rest) k j m o c l a f refl (onto_leave v m.nodes k m.frame ∙ ap (λ (g : Rest). g (v, m.nodes) m.frame) b.is))
      b.at_rest v (Block n from (m.frame.env.at - from) m.nodes ∷ []) m.frame refl refl refl

  -- a loop goes on, or is left
  pub left_turned : (v : Way) (a : Again) (body after : ℕ) (j k : Rest) (m : Machine) (hs : List Held) (c : Session) (l : Option Log) → Ahead db code t w s (leave v) k m c l → Follow db code m.frame.env.turns (reverse hs) j
      → LoopHeld db code m.frame.env.turns a body after j k → Left db code t w s (turned_to a body after v (record m { held = hs })) c l
  left_turned v a body after j k m hs c l h f b = by v h
    where
      at : Way → Run
      at u = (turned u m.nodes b.loop.turns then ending a) then go b.loop.rest

      first : (u : Way) → (leave u then onto m.nodes k) m.frame ≡ (at u then j) m.frame
      first u = onto_leave u m.nodes k m.frame ∙ ap (λ (g : Rest). g (u, m.nodes) m.frame) b.is

      again_to : (u : Way) → Ahead db code t w s (leave u) k m c l → turned u m.nodes b.loop.turns ≡ behind m.nodes b.loop.turns → Left db code t w s (in_mode (mode.Turn a body after) (record m { held = hs })) c l
      again_to u h e = record {
        run = of_loop a b.loop.turns b.loop.rest;
        rest = j;
        doing = (b.loop, refl);
        ahead = ahead_move db code t w s (leave u) (of_loop a b.loop.turns b.loop.rest) k j m (in_mode (mode.Turn a body after) (record m { held = hs })) c l h f refl
            (first u ∙ (ap (λ (p : Run). (((p then ending a) then go b.loop.rest) then j) m.frame) e ∙ ap (λ (p : Run). p m.frame) (next_turn a b.loop.turns b.loop.rest m.nodes j)));
      }

      out_of : (u u' : Way) (x : Again) (z : Frame) → Ahead db code t w s (leave u) k m c l → a ≡ x → turned u m.nodes b.loop.turns ≡ pure (u', m.nodes) → (pure (u', m.nodes) then ending x) m.frame ≡ Gives ((u', m.nodes), z) → z.env.packet ≡ m.frame.env.packet → z.env.turns ≡ m.frame.env.turns
          → Left db code t w s (record m { mode = mode_behind after u'; held = hs; frame = z }) c l
      out_of u u' x z h same e g p q =
          let o : Machine = record m { held = hs; nodes = [] } in
          went db code t w s (pure (u', m.nodes) then ending x) b.loop.rest j after o c l
          (ahead_move db code t w s (leave u) ((pure (u', m.nodes) then ending x) then go b.loop.rest) k j m o c l h f refl
          (first u ∙ (ap (λ (p : Run). (((p then ending a) then go b.loop.rest) then j) m.frame) e ∙ ap (λ (y : Again). (((pure (u', m.nodes) then ending y) then go b.loop.rest) then j) m.frame) same)))
          b.loop.at_rest u' m.nodes z g p q

      out : (u u' : Way) → Ahead db code t w s (leave u) k m c l → turned u m.nodes b.loop.turns ≡ pure (u', m.nodes) → (x : Again) → a ≡ x → Left db code t w s (restored x (record m { mode = mode_behind after u'; held = hs })) c l
      out u u' h e (again.Count n) same = out_of u u' (again.Count n) m.frame h same e refl refl refl
      out u u' h e (again.While at) same = out_of u u' (again.While at) m.frame h same e refl refl refl
      out u u' h e (again.Size old) same = out_of u u' (again.Size old) (limited old m.frame) h same e refl refl refl

      by : (u : Way) → Ahead db code t w s (leave u) k m c l → Left db code t w s (turned_to a body after u (record m { held = hs })) c l
      by Next h = again_to Next h refl
      by Continue h = again_to Continue h refl
      by Break h = out Break Next h refl a refl
      by (Chose q) h = out (Chose q) (Chose q) h refl a refl
      by (Stop r) h = out (Stop r) (Stop r) h refl a refl

  -- ---- a loop under a limit

  pub left_under : (n body after : ℕ) (inner rest : Run) (k : Rest) (m : Machine) (c : Session) (l : Option Log) → Ahead db code t w s (under_limit n (looped before_limit inner) then go rest) k m c l → Does db code body inner → Does db code after rest
      → nat_le n (m.frame.env.limit - m.frame.env.at) ≡ true → Left db code t w s (record m { mode = mode.Turn (again.Size m.frame.env.limit) body after; frame = limited (m.frame.env.at + n) m.frame }) c l
  left_under n body after inner rest k m c l a d e f =
      let z = limited (m.frame.env.at + n) m.frame in
      let x = again.Size m.frame.env.limit in
      let turns = repeat m.frame.env.turns before_limit inner in
      let o : Machine = record m { mode = mode.Turn x body after; frame = z } in
      record {
        run = of_loop x turns rest;
        rest = k;
        doing = (record { inner = inner; turns = turns; rest = rest; at_body = d; at_rest = e; left = record { left = m.frame.env.turns; enough = omega arith; is = refl } }, refl);
        ahead = ahead_move db code t w s (under_limit n (looped before_limit inner) then go rest) (of_loop x turns rest) k k m o c l a a.follow refl (ap first f);
      }
    where
      first : Bool → Asks (Went × Frame)
      first b = and_then (and_then ((if b then around n (looped before_limit inner) else halt reason.Short) m.frame) (λ y. go rest y.0 y.1)) (λ y. onto m.nodes k y.0 y.1)

  pub left_short : (n after : ℕ) (inner rest : Run) (k : Rest) (m : Machine) (c : Session) (l : Option Log) → Ahead db code t w s (under_limit n (looped before_limit inner) then go rest) k m c l → Does db code after rest
      → nat_le n (m.frame.env.limit - m.frame.env.at) ≡ false → Left db code t w s (halted reason.Short m) c l
  left_short n after inner rest k m c l a e f =
      went db code t w s (under_limit n (looped before_limit inner)) rest k after m c l a e (Stop reason.Short) (Note reason.Short m.frame.env.at ∷ []) m.frame
      (ap (λ (b : Bool). (if b then around n (looped before_limit inner) else halt reason.Short) m.frame) f) refl refl
