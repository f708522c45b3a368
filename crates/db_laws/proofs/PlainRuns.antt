-- Runs that do the same, whatever answers that fit they get, and leave a state that fits: how they are put together.
use Rattle.std.specs.Prelude.{◌≡◌, ℕ, zero, suc, ◌+◌, ◌-◌, Bool, true, false, if◌then◌else◌, nat_le, List, ◌++◌, slice_get, Option, Some, None, Result, Ok, Err}
use Rattle.std.proofs.Common.{refl, subst}
use Rattle.db_model.specs.declared.database.Database.{Database}
use Rattle.db_model.specs.declared.env.Env.{Env}
use Rattle.db_model.specs.declared.env.Frame.{Frame}
use Rattle.db_model.specs.declared.env.Way.{Way}
use Rattle.db_model.specs.declared.env.Way.TheVariants.{Next, Break, Continue, Chose, Stop}
use Rattle.db_model.specs.declared.field_kind.FieldKind.{FieldKind}
use Rattle.db_model.specs.declared.question.Answer.{Answer}
use Rattle.db_model.specs.declared.tree.Node.{Node}
use Rattle.db_model.specs.declared.tree.Reason.{Reason}
use Rattle.db_model.specs.declared.tree.Reason.TheVariants as reason
use Rattle.db_model.specs.Expression.{Eval, ◌>>=◌, is_so}
use Rattle.db_model.specs.Extent.{extent}
use Rattle.db_model.specs.Fitting.{answer_fits, table_of}
use Rattle.db_model.specs.Questions.{Asks, Gives, Asking, and_then, ◌then◌, on_ok}
use Rattle.db_model.specs.Runs.{Went, Run, leave, next, halt, behind, go_on, within, or_halt, evaluated, node_at, spend_node, closed, block, add_field, sized_field, place_field, turned, with_turns, turn_at, turn, count, repeat, looped, limited, around, under_limit}
use Rattle.db_model.specs.Typed.{env_fits, Gets}
use Rattle.db_laws.proofs.Proper.{OnValue}
use Rattle.db_laws.proofs.Typed.{Fitting, KeepsFit, SomeValue}

module _ (db : Database) where
  -- both ask the same, and for answers that fit both give the same, of which P holds
  abbrev pub Alike : {A : Type 0} → (A → Type 0) → Asks A → Asks A → Type 0
  Alike P (Gives a) (Gives b) = (a ≡ b) × P a
  Alike P (Gives a) (Asking r l) = ⊥
  Alike P (Asking q k) (Gives b) = ⊥
  Alike P (Asking q k) (Asking r l) = (q ≡ r) × ((a : Answer) → answer_fits db (slice_get db.tables (table_of q)) a ≡ true → Alike P (k a) (l a))

  pub alike_then : {A B : Type 0} (P : A → Type 0) (Q : B → Type 0) (f g : A → Asks B) → ((a : A) → P a → Alike Q (f a) (g a)) → (x y : Asks A) → Alike P x y → Alike Q (and_then x f) (and_then y g)
  alike_then P Q f g h (Gives a) (Gives b) k = subst (λ c. Alike Q (f a) (g c)) k.0 (h a k.1)
  alike_then P Q f g h (Gives a) (Asking r l) k = absurd k
  alike_then P Q f g h (Asking q c) (Gives b) k = absurd k
  alike_then P Q f g h (Asking q c) (Asking r l) k = (k.0, λ a m. alike_then P Q f g h (c a) (l a) (k.1 a m))

  pub itself : {A : Type 0} (P : A → Type 0) (x : Asks A) → Gets db P x → Alike P x x
  itself P (Gives a) h = (refl, h)
  itself P (Asking q k) h = (refl, λ a m. itself P (k a) (h a m))

  pub gets_of : {A : Type 0} (P : A → Type 0) (x y : Asks A) → Alike P x y → Gets db P x
  gets_of P (Gives a) (Gives b) h = h.1
  gets_of P (Gives a) (Asking r l) h = absurd h
  gets_of P (Asking q k) (Gives b) h = absurd h
  gets_of P (Asking q k) (Asking r l) h = λ a m. gets_of P (k a) (l a) (h.1 a m)

  -- ---- evaluations

  abbrev pub AlikeEvals : {A : Type 0} → (A → Type 0) → Eval A → Eval A → Type 0
  AlikeEvals P p q = (z : Env) → env_fits db z ≡ true → Alike (Fitting db P) (p z) (q z)

  pub same_eval : {A : Type 0} (P : A → Type 0) (p : Eval A) → KeepsFit db P p → AlikeEvals P p p
  same_eval P p h z k = itself (Fitting db P) (p z) (h z k)

  pub evals_then : {A B : Type 0} (P : A → Type 0) (Q : B → Type 0) (p q : Eval A) (f g : A → Eval B) → AlikeEvals P p q → ((a : A) → P a → AlikeEvals Q (f a) (g a)) → AlikeEvals Q (p >>= f) (q >>= g)
  evals_then {A} {B} P Q p q f g h k z e = alike_then (Fitting db P) (Fitting db Q) (λ r. on_ok f r.0 r.1) (λ r. on_ok g r.0 r.1) (λ r m. on r.0 m.0 r.1 m.1) (p z) (q z) (h z e)
    where
      on : (r : Result A Reason) → OnValue P r → (y : Env) → env_fits db y ≡ true → Alike (Fitting db Q) (on_ok f r y) (on_ok g r y)
      on (Ok a) m y l = k a m y l
      on (Err r) m y l = (refl, (tt, l))

  -- ---- runs

  abbrev pub Fits : {A : Type 0} → A × Frame → Type 0
  Fits r = env_fits db r.1.env ≡ true

  abbrev pub AlikeRuns : Run → Run → Type 0
  AlikeRuns p q = (z : Frame) → env_fits db z.env ≡ true → Alike (Fits {A = Went}) (p z) (q z)

  pub alike_leave : (w : Way) → AlikeRuns (leave w) (leave w)
  alike_leave w z e = (refl, e)

  pub alike_halt : (r : Reason) → AlikeRuns (halt r) (halt r)
  alike_halt r z e = (refl, e)

  pub alike_behind : (ns : List Node) (p q : Run) → AlikeRuns p q → AlikeRuns (behind ns p) (behind ns q)
  alike_behind ns p q h z e = alike_then Fits Fits (λ r. Gives ((r.0.0, ns ++ r.0.1), r.1)) (λ r. Gives ((r.0.0, ns ++ r.0.1), r.1)) (λ r m. (refl, m)) (p z) (q z) (h z e)

  pub alike_go : (w : Way) (ns : List Node) (p q : Run) → AlikeRuns p q → AlikeRuns (go_on w ns p) (go_on w ns q)
  alike_go Next ns p q h = alike_behind ns p q h
  alike_go Break ns p q h = λ z e. (refl, e)
  alike_go Continue ns p q h = λ z e. (refl, e)
  alike_go (Chose n) ns p q h = λ z e. (refl, e)
  alike_go (Stop r) ns p q h = λ z e. (refl, e)

  pub runs_then : (p q : Run) (f g : Went → Run) → AlikeRuns p q → ((w : Went) → AlikeRuns (f w) (g w)) → AlikeRuns (p then f) (q then g)
  runs_then p q f g h k z e = alike_then Fits Fits (λ r. f r.0 r.1) (λ r. g r.0 r.1) (λ r m. k r.0 r.1 m) (p z) (q z) (h z e)

  -- what is within a frame: a value or a reason, in a frame that fits
  abbrev Within : {A : Type 0} → (A → Type 0) → Result A Reason × Frame → Type 0
  Within P r = OnValue P r.0 × (env_fits db r.1.env ≡ true)

  pub alike_evaluated : {A : Type 0} (P : A → Type 0) (p q : Eval A) (f g : A → Run) → AlikeEvals P p q → ((a : A) → P a → AlikeRuns (f a) (g a)) → AlikeRuns (evaluated p f) (evaluated q g)
  alike_evaluated {A} P p q f g h k z e = alike_then (Within P) Fits (λ r. or_halt f r.0 r.1) (λ r. or_halt g r.0 r.1) (λ r m. on r.0 m.0 r.1 m.1) (within p z) (within q z) inner
    where
      inner : Alike (Within P) (within p z) (within q z)
      inner = alike_then (Fitting db P) (Within P) (λ r. Gives (r.0, record z { env = r.1 })) (λ r. Gives (r.0, record z { env = r.1 })) (λ r m. (refl, m)) (p z.env) (q z.env) (h z.env e)

      on : (r : Result A Reason) → OnValue P r → AlikeRuns (or_halt f r) (or_halt g r)
      on (Ok a) m = k a m
      on (Err r) m = alike_halt r

  pub alike_spent : (p q : Run) → AlikeRuns p q → AlikeRuns (spend_node p) (spend_node q)
  alike_spent p q h z e = by z.nodes
    where
      by : (n : ℕ) → Alike (Fits {A = Went}) (node_at p z n) (node_at q z n)
      by zero = (refl, e)
      by (suc n) = h (record z { nodes = n }) e

  pub alike_block : (n : ℕ) (p q : Run) → AlikeRuns p q → AlikeRuns (block n p) (block n q)
  alike_block n p q h = alike_spent (λ z. and_then (p z) (λ r. closed n z.env.at r.0 r.1)) (λ z. and_then (q z) (λ r. closed n z.env.at r.0 r.1)) (λ z e. alike_then Fits Fits (λ r. closed n z.env.at r.0 r.1) (λ r. closed n z.env.at r.0 r.1) (λ r m. (refl, m)) (p z) (q z) (h z e))

  pub alike_place : (kind : FieldKind) (n k : ℕ) → AlikeRuns (place_field kind n k) (place_field kind n k)
  unfolding env_fits
  alike_place kind n k z e = by (extent kind z.env.packet.bytes z.env.at z.env.limit z.env.origin k) z e
    where
      by : (o : Option ℕ) → AlikeRuns (sized_field kind n o) (sized_field kind n o)
      by None = alike_halt reason.Short
      by (Some size) = alike_spent (add_field kind n size) (add_field kind n size) (λ y m. (refl, m))

  pub alike_turned : (w : Way) (ns : List Node) (p q : Run) → AlikeRuns p q → AlikeRuns (turned w ns p) (turned w ns q)
  alike_turned Next ns p q h = alike_behind ns p q h
  alike_turned Continue ns p q h = alike_behind ns p q h
  alike_turned Break ns p q h = λ z e. (refl, e)
  alike_turned (Chose n) ns p q h = λ z e. (refl, e)
  alike_turned (Stop r) ns p q h = λ z e. (refl, e)

  pub alike_turn : (p q rest more : Run) → AlikeRuns p q → AlikeRuns rest more → AlikeRuns (turn p rest) (turn q more)
  unfolding env_fits
  alike_turn p q rest more h k z e = by z.env.turns
    where
      by : (n : ℕ) → Alike (Fits {A = Went}) (turn_at p rest z n) (turn_at q more z n)
      by zero = (refl, e)
      by (suc n) = runs_then p q (λ w. turned w.0 w.1 rest) (λ w. turned w.0 w.1 more) h (λ w. alike_turned w.0 w.1 rest more k) (with_turns n z) e

  pub alike_count : (n : ℕ) (p q : Run) → AlikeRuns p q → AlikeRuns (count n p) (count n q)
  alike_count zero p q h z e = (refl, e)
  alike_count (suc n) p q h z e = alike_turn p q (count n p) (count n q) h (alike_count n p q h) z e

  pub alike_if : (b : Bool) (p q r s : Run) → AlikeRuns p q → AlikeRuns r s → AlikeRuns (if b then p else r) (if b then q else s)
  alike_if true p q r s h k = h
  alike_if false p q r s h k = k

  alike_repeat : (n : ℕ) (test : Eval ℕ) (p q : Run) → KeepsFit db {A = ℕ} (SomeValue db) test → AlikeRuns p q → AlikeRuns (repeat n test p) (repeat n test q)
  alike_repeat zero test p q h k z e =
      alike_evaluated (SomeValue db) test test (λ v. if is_so v then halt reason.Turns else next) (λ v. if is_so v then halt reason.Turns else next) (same_eval (SomeValue db) test h)
      (λ v u. alike_if (is_so v) (halt reason.Turns) (halt reason.Turns) next next (alike_halt reason.Turns) (alike_leave Next)) z e
  alike_repeat (suc n) test p q h k z e =
      alike_evaluated (SomeValue db) test test (λ v. if is_so v then turn p (repeat n test p) else next) (λ v. if is_so v then turn q (repeat n test q) else next) (same_eval (SomeValue db) test h)
      (λ v u. alike_if (is_so v) (turn p (repeat n test p)) (turn q (repeat n test q)) next next (alike_turn p q (repeat n test p) (repeat n test q) k (alike_repeat n test p q h k)) (alike_leave Next)) z e

  pub alike_looped : (test : Eval ℕ) (p q : Run) → KeepsFit db {A = ℕ} (SomeValue db) test → AlikeRuns p q → AlikeRuns (looped test p) (looped test q)
  alike_looped test p q h k z e = alike_repeat z.env.turns test p q h k z e

  pub alike_limit : (n : ℕ) (p q : Run) → AlikeRuns p q → AlikeRuns (under_limit n p) (under_limit n q)
  unfolding env_fits
  alike_limit n p q h z e = alike_if (nat_le n (z.env.limit - z.env.at)) (around n p) (around n q) (halt reason.Short) (halt reason.Short) around_alike (alike_halt reason.Short) z e
    where
      around_alike : AlikeRuns (around n p) (around n q)
      around_alike y m = alike_then Fits Fits (λ r. Gives (r.0, limited y.env.limit r.1)) (λ r. Gives (r.0, limited y.env.limit r.1)) (λ r l. (refl, l)) (p (limited (y.env.at + n) y)) (q (limited (y.env.at + n) y)) (h (limited (y.env.at + n) y) m)
