-- How runs are put together.
use Rattle.std.specs.Prelude.{◌≡◌, ℕ, zero, suc, if◌then◌else◌, List, [], ◌++◌, Result, Ok, Err}
use Rattle.std.proofs.Common.{refl, sym, ap, ◌∙◌, append_assoc, append-nil}
use Rattle.db_model.specs.declared.env.Frame.{Frame}
use Rattle.db_model.specs.declared.env.Way.{Way}
use Rattle.db_model.specs.declared.env.Way.TheVariants.{Next, Break, Continue, Chose, Stop}
use Rattle.db_model.specs.declared.tree.Node.{Node}
use Rattle.db_model.specs.declared.tree.Reason.{Reason}
use Rattle.db_model.specs.Expression.{Eval}
use Rattle.db_model.specs.Questions.{Asks, Gives, Asking, and_then, Step, pure, ◌then◌}
use Rattle.db_model.specs.Runs.{Went, Run, leave, behind, go_on, go, within, or_halt, evaluated, turned, with_turns, turn_at, turn}
use Rattle.decode_vm.specs.Left.{Rest, onto}

-- ---- computations one after another

pub and_assoc : {A B C : Type 0} (x : Asks A) (f : A → Asks B) (g : B → Asks C) → and_then (and_then x f) g ≡ and_then x (λ a. and_then (f a) g)
and_assoc (Gives a) f g = refl
and_assoc (Asking q k) f g = ap (Asking q) (λ i r. and_assoc (k r) f g i)

pub and_gives : {A : Type 0} (x : Asks A) → and_then x Gives ≡ x
and_gives (Gives a) = refl
and_gives (Asking q k) = ap (Asking q) (λ i r. and_gives (k r) i)

module _ {S A B C : Type 0} where
  pub then_assoc : (p : Step S A) (f : A → Step S B) (g : B → Step S C) → ((p then f) then g) ≡ (p then (λ a. f a then g))
  then_assoc p f g = λ i z. and_assoc (p z) (λ r. f r.0 r.1) (λ r. g r.0 r.1) i

pub then_pure : {S A : Type 0} (p : Step S A) → (p then pure) ≡ p
then_pure p = λ i z. and_gives (p z) i

-- ---- nodes that are there already

-- a rest that takes the nodes as they are
abbrev pub Passes : Rest → Type 0
Passes k = (ns : List Node) (w : Went) → behind ns (k w) ≡ k (w.0, ns ++ w.1)

-- nodes behind nodes
pub behind_twice : (ms ns : List Node) (p : Run) → behind ms (behind ns p) ≡ behind (ms ++ ns) p
behind_twice ms ns p =
    (λ i z. and_assoc {B = Went × Frame} (p z) (λ r. Gives ((r.0.0, ns ++ r.0.1), r.1)) (λ r. Gives ((r.0.0, ms ++ r.0.1), r.1)) i)
    ∙ (λ i z. and_then (p z) (λ r. Gives ((r.0.0, sym (append_assoc ms ns r.0.1) i), r.1)))

pub behind_none : (p : Run) → behind [] p ≡ p
behind_none p = then_pure p

-- nodes before a run whose rest takes them as they are
pub behind_then : (ns : List Node) (p : Run) (k : Rest) → Passes k → behind ns (p then k) ≡ (behind ns p then k)
behind_then ns p k h =
    (λ i z. and_assoc {B = Went × Frame} (p z) (λ r. k r.0 r.1) (λ r. Gives ((r.0.0, ns ++ r.0.1), r.1)) i)
    ∙ ((λ i z. and_then (p z) (λ r. h ns r.0 i r.1))
    ∙ sym (λ i z. and_assoc {B = Went × Frame} (p z) (λ r. Gives ((r.0.0, ns ++ r.0.1), r.1)) (λ r. k r.0 r.1) i))

pub passes_pure : Passes pure
passes_pure ns w = refl

pub passes_go : (r : Run) → Passes (go r)
passes_go r ns w = by w.0 w.1
  where
    by : (v : Way) (ms : List Node) → behind ns (go_on v ms r) ≡ go_on v (ns ++ ms) r
    by Next ms = behind_twice ns ms r
    by Break ms = refl
    by Continue ms = refl
    by (Chose q) ms = refl
    by (Stop e) ms = refl

pub passes_turned : (r : Run) → Passes (λ w. turned w.0 w.1 r)
passes_turned r ns w = by w.0 w.1
  where
    by : (v : Way) (ms : List Node) → behind ns (turned v ms r) ≡ turned v (ns ++ ms) r
    by Next ms = behind_twice ns ms r
    by Continue ms = behind_twice ns ms r
    by Break ms = refl
    by (Chose q) ms = refl
    by (Stop e) ms = refl

pub passes_then : (j k : Rest) → Passes j → Passes k → Passes (λ w. j w then k)
passes_then j k h g ns w = behind_then ns (j w) k g ∙ ap (λ (p : Run). p then k) (h ns w)

-- ---- a run, and what follows it and the nodes that are there

-- what follows takes the nodes as one list
pub onto_is : (ns : List Node) (p : Run) (k : Rest) → (behind ns p then k) ≡ (p then onto ns k)
onto_is ns p k = λ i z. and_assoc {B = Went × Frame} (p z) (λ r. Gives ((r.0.0, ns ++ r.0.1), r.1)) (λ r. k r.0 r.1) i

pub onto_twice : (ns ms : List Node) (p : Run) (k : Rest) → (behind ms p then onto ns k) ≡ (p then onto (ns ++ ms) k)
onto_twice ns ms p k =
    (λ i z. and_assoc {B = Went × Frame} (p z) (λ r. Gives ((r.0.0, ms ++ r.0.1), r.1)) (λ r. onto ns k r.0 r.1) i)
    ∙ (λ i z. and_then (p z) (λ r. k (r.0.0, sym (append_assoc ns ms r.0.1) i) r.1))

-- a way that is there
pub onto_leave : (w : Way) (ns : List Node) (k : Rest) (z : Frame) → (leave w then onto ns k) z ≡ k (w, ns) z
onto_leave w ns k z = ap (λ (ms : List Node). k (w, ms) z) (append-nil ns)

-- ---- evaluations

-- what follows an evaluation whose reason ends the decoding
pub evaluated_then : {A : Type 0} (p : Eval A) (f : A → Run) (r : Run) → (evaluated p f then go r) ≡ evaluated p (λ v. f v then go r)
evaluated_then {A} p f r = then_assoc (within p) (or_halt f) (go r) ∙ ap (λ (g : Result A Reason → Run). within p then g) (λ i o. by o i)
  where
    by : (o : Result A Reason) → (or_halt f o then go r) ≡ or_halt (λ v. f v then go r) o
    by (Ok v) = refl
    by (Err e) = refl

-- ---- turns

-- one more turn, where one is left
pub turn_is : (body r : Run) (z : Frame) (n : ℕ) → z.env.turns ≡ suc n → turn body r z ≡ (body then (λ w. turned w.0 w.1 r)) (with_turns n z)
turn_is body r z n e = ap (λ m. turn_at body r z m) e

pub no_turn : (body r : Run) (z : Frame) → z.env.turns ≡ zero → turn body r z ≡ turn_at body r z zero
no_turn body r z e = ap (λ m. turn_at body r z m) e
