-- What is left of a run while the engine stands somewhere in the code: the run of the innermost list, and what follows it.
use Rattle.std.specs.Prelude.{◌≡◌, ℕ, ◌<◌, ◌≤◌, true, List, [], ◌∷◌, ◌++◌, reverse, slice_get, Option, Some, Result, Ok, Err}
use Rattle.db_model.specs.declared.database.Database.{Database}
use Rattle.db_model.specs.declared.element.LoopKind.TheVariants as kind
use Rattle.db_model.specs.declared.env.Frame.{Frame}
use Rattle.expr_code.specs.declared.code.ExprCode.{ExprCode}
use Rattle.db_model.specs.declared.no_memory.NoMemory.{NoMemory}
use Rattle.db_model.specs.declared.question.Answer.{Answer}
use Rattle.db_model.specs.declared.tree.Node.{Node}
use Rattle.pdl_code.specs.Does.{number}
use Rattle.db_model.specs.Fitting.{question_fits}
use Rattle.db_model.specs.Over.{Point, point, Ends, Leads}
use Rattle.db_model.specs.Questions.{Asks, Gives, Asking, Log, pure, ◌then◌}
use Rattle.db_model.specs.Runs.{Went, Run, leave, go, closed, turned, count, repeat, before_limit, limited}
use Rattle.db_model.specs.Session.{Session}
use Rattle.pdl_code.specs.declared.code.Op.TheVariants.{Loop}
use Rattle.pdl_code.specs.declared.code.ProtoCode.{ProtoCode}
use Rattle.pdl_code.specs.Does.{Does}
use Rattle.decode_vm.specs.Cost.{cost}
use Rattle.decode_vm.specs.Sound.{Sound}
use Rattle.decode_vm.specs.declared.machine.Again.{Again}
use Rattle.decode_vm.specs.declared.machine.Again.TheVariants as again
use Rattle.decode_vm.specs.declared.machine.Held.{Held}
use Rattle.decode_vm.specs.declared.machine.Held.TheVariants as held
use Rattle.decode_vm.specs.declared.machine.Machine.{Machine}
use Rattle.decode_vm.specs.declared.machine.Mode.{Mode}
use Rattle.decode_vm.specs.declared.machine.Mode.TheVariants as mode

-- each question that a computation may ask fits, whatever it is answered
abbrev pub AllFit : {A : Type 0} → Database → Asks A → Type 0
AllFit db (Gives a) = Unit {0}
AllFit db (Asking q k) = (question_fits db q ≡ true) × ((a : Answer) → AllFit db (k a))

-- ---- what follows a run

abbrev pub Rest : Type 0
Rest = Went → Run

-- what follows takes the nodes that are there with those of the run
abbrev pub onto : List Node → Rest → Rest
onto ns k w = k (w.0, ns ++ w.1)

-- a block that is closed, behind the nodes before it, and then the rest of its list
abbrev pub after_block : ℕ → ℕ → List Node → Run → Rest → Rest
after_block n from before rest k w = (closed n from w then go rest) then onto before k

-- the limit that a loop sets again
abbrev pub ending : Again → Rest
ending (again.Count n) = pure
ending (again.While at) = pure
ending (again.Size old) = λ w z. Gives (w, limited old z)

-- the turns that a loop has left, and then the rest of its list
abbrev pub of_loop : Again → Run → Run → Run
of_loop a turns rest = (turns then ending a) then go rest

-- what follows a turn
abbrev pub after_turn : Again → Run → Run → Rest → Rest
after_turn a turns rest k w = ((turned w.0 w.1 turns then ending a) then go rest) then k

module _ (db : Database) (code : ProtoCode) where
  -- ---- loops

  -- a loop whose test stands at a place
  pub record WhileLeft (most at : ℕ) (body turns : Run) : Type 0 where
    pub left : ℕ
    pub value : ExprCode
    pub after : ℕ
    pub enough : most ≤ left
    pub stands : slice_get code.ops at ≡ Some (Loop kind.While value after)
    pub is : turns ≡ repeat left (number db value) body

  pub record SizeLeft (most : ℕ) (body turns : Run) : Type 0 where
    pub left : ℕ
    pub enough : most ≤ left
    pub is : turns ≡ repeat left before_limit body

  -- the turns that are left of a loop, where the packet has so many
  abbrev pub TurnsLeft : ℕ → Again → Run → Run → Type 0
  TurnsLeft most (again.Count n) body turns = turns ≡ count n body
  TurnsLeft most (again.While at) body turns = WhileLeft most at body turns
  TurnsLeft most (again.Size old) body turns = SizeLeft most body turns

  -- a loop between two of its turns
  pub record InLoop (most : ℕ) (a : Again) (body after : ℕ) : Type 0 where
    pub inner : Run
    pub turns : Run
    pub rest : Run
    pub at_body : Does db code body inner
    pub at_rest : Does db code after rest
    pub left : TurnsLeft most a inner turns

  -- ---- the machine

  -- what the mode does
  abbrev pub Doing : ℕ → Mode → Run → Type 0
  Doing most (mode.At pc) r = Does db code pc r
  Doing most (mode.Turn a body after) r = (g : InLoop most a body after) × (r ≡ of_loop a g.turns g.rest)
  Doing most (mode.Leaving w) r = r ≡ leave w

  pub record BlockHeld (n from : ℕ) (before : List Node) (after : ℕ) (k k' : Rest) : Type 0 where
    pub rest : Run
    pub at_rest : Does db code after rest
    pub is : k' ≡ after_block n from before rest k

  pub record LoopHeld (most : ℕ) (a : Again) (body after : ℕ) (k k' : Rest) : Type 0 where
    pub loop : InLoop most a body after
    pub is : k' ≡ after_turn a loop.turns loop.rest k

  -- what follows the innermost list, where these lists stand around it, from the innermost outwards
  abbrev pub Follow : ℕ → List Held → Rest → Type 0
  Follow most [] k = k ≡ pure
  Follow most (held.Block n from before after ∷ hs) k = (j : Rest) × (Follow most hs j × BlockHeld n from before after j k)
  Follow most (held.Loop a body after ∷ hs) k = (j : Rest) × (Follow most hs j × LoopHeld most a body after j k)

  -- what a run w that began at s, at a moment t, has still to do: p at the state of the machine, and what follows the innermost list
  pub record Ahead (t : ℕ) (w : Run) (s : Point Frame) (p : Run) (k : Rest) (m : Machine) (c : Session) (l : Option Log) : Type 0 where
    pub follow : Follow m.frame.env.turns (reverse m.held) k
    pub stamp : m.frame.env.packet.stamp ≡ t
    pub leads : Leads db t w s (p then onto m.nodes k) (point m.frame c l)
    pub fit : AllFit db ((p then onto m.nodes k) m.frame)

  -- the same, where that is what the machine is about to do
  pub record Left (t : ℕ) (w : Run) (s : Point Frame) (m : Machine) (c : Session) (l : Option Log) : Type 0 where
    pub run : Run
    pub rest : Rest
    pub doing : Doing m.frame.env.turns m.mode run
    pub ahead : Ahead t w s run rest m c l

  -- the machine is somewhere in a run
  pub record Running (m : Machine) (c : Session) (l : Option Log) : Type 0 where
    pub moment : ℕ
    pub whole : Run
    pub start : Point Frame
    pub left : Left moment whole start m c l

-- ---- a step of the machine

-- a machine whose positions are sound stays so, on its way to an end
pub record Nearer (code : ProtoCode) (m n : Machine) : Type 0 where
  pub packet : n.frame.env.packet ≡ m.frame.env.packet
  pub sound : Sound m → Sound n
  pub less : cost code n < cost code m

module _ (db : Database) (code : ProtoCode) where
  -- whatever was left is left after it
  pub record Moves (m : Machine) (c : Session) (l : Option Log) (n : Machine) (c' : Session) (l' : Option Log) : Type 0 where
    pub left : (t : ℕ) (w : Run) (s : Point Frame) → Left db code t w s m c l → Left db code t w s n c' l'
    pub nearer : Nearer code m n

  -- memory was refused behind some first questions of whatever was left
  pub record Refuses (m : Machine) (c : Session) (l : Option Log) (e : NoMemory) (n : Machine) (c' : Session) (l' : Option Log) : Type 0 where
    pub begun : (t : ℕ) (w : Run) (s : Point Frame) → Left db code t w s m c l → Ends db t w s (Err e) (point n.frame c' l')

  abbrev pub StepsTo : {A : Type 0} → Machine → Session → Option Log → Result A NoMemory → Machine → Session → Option Log → Type 0
  StepsTo m c l (Ok a) n c' l' = Moves m c l n c' l'
  StepsTo m c l (Err e) n c' l' = Refuses m c l e n c' l'
