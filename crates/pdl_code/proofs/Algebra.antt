-- How runs are put together: equations of runs.
use Rattle.std.specs.Prelude.{◌≡◌, List, ◌++◌, Result, Ok, Err}
use Rattle.std.proofs.Common.{refl, sym, ◌∙◌, append_assoc, append-nil}
use Rattle.db_model.specs.declared.env.Frame.{Frame}
use Rattle.db_model.specs.declared.env.Way.{Way}
use Rattle.db_model.specs.declared.env.Way.TheVariants.{Next, Break, Continue, Chose, Stop}
use Rattle.db_model.specs.declared.tree.Node.{Node}
use Rattle.db_model.specs.declared.tree.Reason.{Reason}
use Rattle.db_model.specs.Expression.{Eval}
use Rattle.db_model.specs.Questions.{Asks, Gives, Asking, and_then, ◌then◌}
use Rattle.db_model.specs.Runs.{Went, Run, next, behind, go_on, go, within, or_halt, evaluated}

pub and_gives : {A : Type 0} (x : Asks A) → and_then x (λ a. Gives a) ≡ x
and_gives (Gives a) = refl
and_gives (Asking q k) = λ i. Asking q (λ r. and_gives (k r) i)

pub and_assoc : {A B C : Type 0} (x : Asks A) (f : A → Asks B) (g : B → Asks C) → and_then (and_then x f) g ≡ and_then x (λ a. and_then (f a) g)
and_assoc (Gives a) f g = refl
and_assoc (Asking q k) f g = λ i. Asking q (λ r. and_assoc (k r) f g i)

-- the same first computation, with what follows it changed
and_same : {A B : Type 0} (x : Asks A) (f g : A → Asks B) → ((a : A) → f a ≡ g a) → and_then x f ≡ and_then x g
and_same x f g e = λ i. and_then x (λ a. e a i)

-- nothing, and then a run
pub next_go : (r : Run) → (next then go r) ≡ r
next_go r = λ i z. and_gives (r z) i

-- a run, and then nothing
pub go_next : (p : Run) → (p then go next) ≡ p
go_next p = λ i z. (and_same {A = Went × Frame} {B = Went × Frame} (p z) (λ a. go next a.0 a.1) (λ a. Gives a) (λ a. on_way a.0.0 a.0.1 a.1) ∙ and_gives (p z)) i
  where
    on_way : (w : Way) (ns : List Node) (z : Frame) → go_on w ns next z ≡ Gives ((w, ns), z)
    on_way Next ns z = λ i. Gives ((Next, append-nil ns i), z)
    on_way Break ns z = refl
    on_way Continue ns z = refl
    on_way (Chose q) ns z = refl
    on_way (Stop r) ns z = refl

-- nodes that are there stay before those of a run and of what follows it
pub behind_go : (ns : List Node) (q r : Run) → (behind ns q then go r) ≡ behind ns (q then go r)
behind_go ns q r = λ i z. (
    and_assoc {A = Went × Frame} {B = Went × Frame} {C = Went × Frame} (q z) (λ a. Gives ((a.0.0, ns ++ a.0.1), a.1)) (λ b. go r b.0 b.1)
    ∙ (and_same {A = Went × Frame} {B = Went × Frame} (q z) (λ a. go_on a.0.0 (ns ++ a.0.1) r a.1) (λ a. and_then (go_on a.0.0 a.0.1 r a.1) (λ b. Gives ((b.0.0, ns ++ b.0.1), b.1))) (λ a. on_way a.0.0 a.0.1 a.1)
    ∙ sym (and_assoc {A = Went × Frame} {B = Went × Frame} {C = Went × Frame} (q z) (λ a. go_on a.0.0 a.0.1 r a.1) (λ b. Gives ((b.0.0, ns ++ b.0.1), b.1))))) i
  where
    on_way : (w : Way) (ms : List Node) (z : Frame) → go_on w (ns ++ ms) r z ≡ and_then (go_on w ms r z) (λ b. Gives ((b.0.0, ns ++ b.0.1), b.1))
    on_way Next ms z =
        and_same {A = Went × Frame} {B = Went × Frame} (r z) (λ b. Gives ((b.0.0, (ns ++ ms) ++ b.0.1), b.1)) (λ b. Gives ((b.0.0, ns ++ (ms ++ b.0.1)), b.1)) (λ b i. Gives ((b.0.0, append_assoc ns ms b.0.1 i), b.1))
        ∙ sym (and_assoc {A = Went × Frame} {B = Went × Frame} {C = Went × Frame} (r z) (λ b. Gives ((b.0.0, ms ++ b.0.1), b.1)) (λ b. Gives ((b.0.0, ns ++ b.0.1), b.1)))
    on_way Break ms z = refl
    on_way Continue ms z = refl
    on_way (Chose k) ms z = refl
    on_way (Stop k) ms z = refl

-- one run after another, and then a third
pub go_assoc : (p q r : Run) → ((p then go q) then go r) ≡ (p then go (q then go r))
go_assoc p q r = λ i z. (
    and_assoc {A = Went × Frame} {B = Went × Frame} {C = Went × Frame} (p z) (λ a. go q a.0 a.1) (λ b. go r b.0 b.1)
    ∙ and_same {A = Went × Frame} {B = Went × Frame} (p z) (λ a. and_then (go_on a.0.0 a.0.1 q a.1) (λ b. go r b.0 b.1)) (λ a. go_on a.0.0 a.0.1 (q then go r) a.1) (λ a. on_way a.0.0 a.0.1 a.1)) i
  where
    on_way : (w : Way) (ns : List Node) (z : Frame) → and_then (go_on w ns q z) (λ b. go r b.0 b.1) ≡ go_on w ns (q then go r) z
    on_way Next ns z = λ i. behind_go ns q r i z
    on_way Break ns z = refl
    on_way Continue ns z = refl
    on_way (Chose k) ns z = refl
    on_way (Stop k) ns z = refl

-- a run from a value, and then another
pub evaluated_go : {A : Type 0} (p : Eval A) (f : A → Run) (r : Run) → (evaluated p f then go r) ≡ evaluated p (λ v. f v then go r)
evaluated_go {A = A} p f r = λ i z. (
    and_assoc {A = Result A Reason × Frame} {B = Went × Frame} {C = Went × Frame} (within p z) (λ a. or_halt f a.0 a.1) (λ b. go r b.0 b.1)
    ∙ and_same {A = Result A Reason × Frame} {B = Went × Frame} (within p z) (λ a. and_then (or_halt f a.0 a.1) (λ b. go r b.0 b.1)) (λ a. or_halt (λ v. f v then go r) a.0 a.1) (λ a. on_result a.0 a.1)) i
  where
    on_result : (o : Result A Reason) (z : Frame) → and_then (or_halt f o z) (λ b. go r b.0 b.1) ≡ or_halt (λ v. f v then go r) o z
    on_result (Ok v) z = refl
    on_result (Err e) z = refl
