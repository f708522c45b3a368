-- Computations whose values are taken as numbers.
use Rattle.std.specs.Prelude.{◌≡◌, ℕ, Bool, true, false, if◌then◌else◌, List, [], ◌∷◌, length, Option, Some, None, Result, Ok, Err}
use Rattle.std.proofs.Common.{refl, sym, ap, subst, ◌∙◌}
use Rattle.db_model.specs.declared.database.Database.{Database}
use Rattle.db_model.specs.declared.env.Env.{Env}
use Rattle.db_model.specs.declared.expression.Operator.{Operator}
use Rattle.db_model.specs.declared.expression.Operator.TheVariants as op
use Rattle.db_model.specs.declared.tree.Reason.{Reason}
use Rattle.db_model.specs.declared.tree.Reason.TheVariants as reason
use Rattle.db_model.specs.declared.value.Value.{Value}
use Rattle.db_model.specs.declared.value.Value.TheVariants.{Num}
use Rattle.db_model.specs.Expression.{Eval, ◌>>=◌, result, give, num, buf, truth, is_so, when, binary, slice, to_number}
use Rattle.db_model.specs.Over.{Point}
use Rattle.db_model.specs.Questions.{Asks, Gives, Asking, and_then, on_ok}
use Rattle.expr_eval.specs.declared.end.EvalEnd.{EvalEnd}
use Rattle.expr_eval.specs.declared.operand.Operand.{Operand}
use Rattle.expr_eval.specs.Evaluates.{Evaluates, Gave, itself, counted, number_of}
use Rattle.expr_eval.specs.Numbers.{compares, IsNumber, ByNumbers}
use Rattle.expr_eval.specs.Operand.{shown, number_operand}
use Rattle.expr_eval.specs.Reads.{field_value, field_number}
use Rattle.expr_eval.specs.Sources.{Sources, sources}
use Rattle.expr_eval.proofs.Steps.{same_as, recast, gives, then_ok, then_err, kept, unvalued, sources_stay}

-- ---- one after another

and_assoc : {A B C : Type 0} (x : Asks A) (f : A → Asks B) (g : B → Asks C) → and_then (and_then x f) g ≡ and_then x (λ a. and_then (f a) g)
and_assoc (Gives a) f g = refl
and_assoc (Asking q k) f g = ap (Asking q) (λ i r. and_assoc (k r) f g i)

module _ {A B C : Type 0} (f : A → Eval B) (g : B → Eval C) where
  first : (r : Result A Reason) (z : Env) → and_then (on_ok f r z) (λ s. on_ok g s.0 s.1) ≡ on_ok (λ a. f a >>= g) r z
  first (Ok a) z = refl
  first (Err e) z = refl

  bind_assoc : (p : Eval A) → ((p >>= f) >>= g) ≡ (p >>= (λ a. f a >>= g))
  bind_assoc p = (λ i z. and_assoc (p z) (λ r. on_ok f r.0 r.1) (λ r. on_ok g r.0 r.1) i) ∙ (λ i z. and_then (p z) (λ r. first r.0 r.1 i))

-- what follows the number of a value
through : {C : Type 0} (p : Eval Value) (g : ℕ → Eval C) → (number_of p >>= g) ≡ (p >>= (λ v. g (num v)))
through p g = bind_assoc (λ v. give (num v)) g p

-- ---- computations of numbers

as_numbers : {C : Type 0} (p : Eval Value) (g : Value → Eval C) → IsNumber p → (p >>= g) ≡ (p >>= (λ v. g (Num (num v))))
as_numbers p g h = ap (λ (q : Eval Value). q >>= g) h ∙ bind_assoc (λ v. give (Num (num v))) g p

numbers_then : {A : Type 0} (p : Eval A) (f : A → Eval Value) → ((a : A) → IsNumber (f a)) → IsNumber (p >>= f)
numbers_then p f h = (λ i. p >>= (λ a. h a i)) ∙ sym (bind_assoc f (λ v. give (Num (num v))) p)

number_when : (b : Bool) (r : Reason) (n : ℕ) → IsNumber (result (when b r (Num n)))
number_when true r n = refl
number_when false r n = refl

number_truth : (b : Bool) → IsNumber (result (Ok (truth b)))
number_truth true = refl
number_truth false = refl

number_binary : (o : Operator) (v w : Value) → IsNumber (result (binary o v w))
number_binary op.Add v w = number_when _ reason.Range _
number_binary op.Sub v w = number_when _ reason.Range _
number_binary op.Mul v w = number_when _ reason.Range _
number_binary op.Div v w = number_when _ reason.Zero _
number_binary op.Mod v w = number_when _ reason.Zero _
number_binary op.BitAnd v w = refl
number_binary op.BitOr v w = refl
number_binary op.Lt v w = number_truth _
number_binary op.Le v w = number_truth _
number_binary op.Gt v w = number_truth _
number_binary op.Ge v w = number_truth _
number_binary op.Eq v w = number_truth _
number_binary op.Ne v w = number_truth _

number_bytes : (b : List ℕ) → IsNumber (result (to_number b))
number_bytes [] = refl
number_bytes (b ∷ bs) = number_when _ reason.Size _

-- a computation that is one of numbers
is_number : (p q : Eval Value) → p ≡ q → IsNumber q → IsNumber p
is_number p q e h = subst IsNumber (sym e) h

pub constant_number : (p : Eval Value) (n : ℕ) → ((z : Env) → p z ≡ result (Ok (Num n)) z) → IsNumber p
constant_number p n e = is_number p (result (Ok (Num n))) (λ i z. e z i) refl

pub binary_number : (p a b : Eval Value) (o : Operator) → p ≡ (a >>= (λ v. b >>= (λ w. result (binary o v w)))) → IsNumber p
binary_number p a b o e = is_number p _ e (numbers_then a _ (λ v. numbers_then b _ (λ w. number_binary o v w)))

pub to_number_number : (p a : Eval Value) → p ≡ (a >>= (λ v. result (to_number (buf v)))) → IsNumber p
to_number_number p a e = is_number p _ e (numbers_then a _ (λ v. number_bytes (buf v)))

pub length_number : (p a : Eval Value) → p ≡ (a >>= (λ v. give (Num (length (buf v))))) → IsNumber p
length_number p a e = is_number p _ e (numbers_then a _ (λ v. refl))

-- ---- operations

same_binary : (o : Operator) (v w : Value) → compares o ≡ false → binary o v w ≡ binary o (Num (num v)) (Num (num w))
same_binary op.Add v w e = refl
same_binary op.Sub v w e = refl
same_binary op.Mul v w e = refl
same_binary op.Div v w e = refl
same_binary op.Mod v w e = refl
same_binary op.BitAnd v w e = refl
same_binary op.BitOr v w e = refl
same_binary op.Lt v w e = refl
same_binary op.Le v w e = refl
same_binary op.Gt v w e = refl
same_binary op.Ge v w e = refl
same_binary op.Eq v w e = (cc)
same_binary op.Ne v w e = (cc)

pub others_by_numbers : (o : Operator) (p q : Eval Value) → compares o ≡ false → ByNumbers o p q
others_by_numbers o p q e = λ i. p >>= (λ v. q >>= (λ w. result (same_binary o v w e i)))

pub both_by_numbers : (o : Operator) (p q : Eval Value) → IsNumber p → IsNumber q → ByNumbers o p q
both_by_numbers o p q h k =
    as_numbers p (λ v. q >>= (λ w. result (binary o v w))) h
    ∙ (λ i. p >>= (λ v. as_numbers q (λ w. result (binary o (Num (num v)) w)) k i))

-- ---- answers that are numbers

-- a number that a value is
pub number_told : {n : ℕ} {v : Value} → Num n ≡ v → Gave Num (Ok v) (Ok n)
number_told e = ap (λ (v : Value). Ok v) (sym e)

module _ (db : Database) where
  -- what follows a number
  pub then_number : {C D : Type 0} (p : Eval Value) (g : ℕ → Eval C) {h : Sources → D → C} {m n k : Point Env} {o : Result D EvalEnd} (x : ℕ) → Evaluates db (number_of p) itself m (Ok x) n → Evaluates db (g x) h n o k → Evaluates db (p >>= (λ v. g (num v))) h m o k
  then_number p g x a b = same_as db (sym (through p g)) (then_ok db g {f = itself} x a b)

  -- there was none
  pub no_number : {C D : Type 0} (p : Eval Value) (g : ℕ → Eval C) {h : Sources → D → C} {m n : Point Env} (e : EvalEnd) → Evaluates db (number_of p) itself m (Err e) n → Evaluates db (p >>= (λ v. g (num v))) h m (Err e) n
  no_number p g e a = same_as db (sym (through p g)) (then_err db g {f = itself} e a)

  pub finish_number : {B : Type 0} {f : Sources → B → Value} (p : Eval Value) {m n : Point Env} {o : Result B EvalEnd} (d : ℕ → Result Value Reason) (x : ℕ) → Evaluates db (number_of p) itself m (Ok x) n → Gave (f (sources n.held)) (d x) o → Evaluates db (p >>= (λ v. result (d (num v)))) f m o n
  finish_number p d x h g = then_number p (λ (n : ℕ). result (d n)) x h (gives db (d x) g)

  -- a number decides what follows
  pub then_if : (p q r : Eval Value) {m n k : Point Env} {o : Result ℕ EvalEnd} (x : ℕ) (b : Bool) → Evaluates db (number_of p) itself m (Ok x) n → is_so x ≡ b → Evaluates db (if b then q else r) counted n o k → Evaluates db (p >>= (λ v. if is_so (num v) then q else r)) counted m o k
  then_if p q r {m} {n} {k} {o} x b h e i = then_number p (λ (x : ℕ). if is_so x then q else r) x h (subst (λ (c : Bool). Evaluates db (if c then q else r) counted n o k) (sym e) i)

  -- an answer that is a number, as an operand, and as the number of what was evaluated
  pub as_operand : {p : Eval Value} {m n : Point Env} {o : Result Operand EvalEnd} (x : Result ℕ EvalEnd) → o ≡ number_operand x → Evaluates db p counted m x n → Evaluates db p shown m o n
  as_operand (Ok n) e h = recast db e (kept db shown n _ refl h)
  as_operand (Err r) e h = recast db e (unvalued db counted r h)

  pub is_counted : {p : Eval Value} {m n : Point Env} (x : Result ℕ EvalEnd) → Evaluates db p counted m x n → Evaluates db (number_of p) itself m x n
  is_counted (Ok x) h = then_ok db (λ v. give (num v)) x h (gives db {f = itself} (Ok x) refl)
  is_counted (Err r) h = then_err db (λ v. give (num v)) r h

  pub taken : {p : Eval Value} {m n : Point Env} (x : Operand) (u : ℕ) → ((held : Sources) → u ≡ num (shown held x)) → Evaluates db p shown m (Ok x) n → Evaluates db (number_of p) itself m (Ok u) n
  taken {m = m} x u e h = then_ok db (λ v. give (num v)) x h (gives db {f = itself} (Ok (num (shown (sources m.held) x))) (ap (λ (n : ℕ). Ok n) (sym (e (sources m.held)))))

  -- a form without parts, at a state
  pub number_at : (p : Eval Value) (v : Value) (z : Env) → p z ≡ result (Ok v) z → number_of p z ≡ result (Ok (num v)) z
  number_at p v z e = ap (λ (x : Asks (Result Value Reason × Env)). and_then x (λ r. on_ok (λ (w : Value). give (num w)) r.0 r.1)) e

  -- a field's bytes as a number
  pub field_number_at : (p : Eval Value) (b : Option (List ℕ)) (z : Env) → p z ≡ result (field_value b) z → (p >>= (λ v. result (to_number (buf v)))) z ≡ result (field_number b) z
  field_number_at p b z e = ap (λ (x : Asks (Result Value Reason × Env)). and_then x (λ r. on_ok (λ (w : Value). result (to_number (buf w))) r.0 r.1)) e ∙ by b
    where
      by : (o : Option (List ℕ)) → and_then (result (field_value o) z) (λ r. on_ok (λ (w : Value). result (to_number (buf w))) r.0 r.1) ≡ result (field_number o) z
      by None = refl
      by (Some b) = refl

  -- an operation on two numbers
  pub finish_numbers : (p q : Eval Value) {m n k : Point Env} {o : Result ℕ EvalEnd} (op : Operator) (x y : ℕ) → ByNumbers op p q → Evaluates db (number_of p) itself m (Ok x) n → Evaluates db (number_of q) itself n (Ok y) k → Gave Num (binary op (Num x) (Num y)) o → Evaluates db (p >>= (λ v. q >>= (λ w. result (binary op v w)))) counted m o k
  finish_numbers p q op x y b h i g =
      same_as db b (then_number p (λ (n : ℕ). q >>= (λ w. result (binary op (Num n) (Num (num w))))) x h (finish_number q (λ (n : ℕ). binary op (Num x) (Num n)) y i g))

  pub no_second : (p q : Eval Value) {m n k : Point Env} (op : Operator) (x : ℕ) (e : EvalEnd) → ByNumbers op p q → Evaluates db (number_of p) itself m (Ok x) n → Evaluates db (number_of q) itself n (Err e) k → Evaluates db (p >>= (λ v. q >>= (λ w. result (binary op v w)))) counted m (Err e) k
  no_second p q op x e b h i =
      same_as db b (then_number p (λ (n : ℕ). q >>= (λ w. result (binary op (Num n) (Num (num w))))) x h (no_number q (λ (n : ℕ). result (binary op (Num x) (Num n))) e i))

  pub no_first : (p q : Eval Value) {m n : Point Env} (op : Operator) (e : EvalEnd) → ByNumbers op p q → Evaluates db (number_of p) itself m (Err e) n → Evaluates db (p >>= (λ v. q >>= (λ w. result (binary op v w)))) counted m (Err e) n
  no_first p q op e b h = same_as db b (no_number p (λ (n : ℕ). q >>= (λ w. result (binary op (Num n) (Num (num w))))) e h)

  -- a slice: its bytes, where it begins, and how many bytes it has
  pub finish_slice : (p q r : Eval Value) {m n k l : Point Env} {o : Result Operand EvalEnd} (x : Operand) (y z : ℕ) → Evaluates db p shown m (Ok x) n → Evaluates db (number_of q) itself n (Ok y) k → Evaluates db (number_of r) itself k (Ok z) l
      → Gave (shown (sources l.held)) (slice (buf (shown (sources l.held) x)) y z) o → Evaluates db (p >>= (λ v. q >>= (λ w. r >>= (λ u. result (slice (buf v) (num w) (num u)))))) shown m o l
  finish_slice p q r {m} {n} {k} {l} {o} x y z h i j g =
      let b = buf (shown (sources m.held) x) in
      then_ok db (λ v. q >>= (λ w. r >>= (λ u. result (slice (buf v) (num w) (num u))))) x h
      (then_number q (λ (w : ℕ). r >>= (λ u. result (slice b w (num u)))) y i
      (finish_number r (λ (u : ℕ). slice b y u) z j
      (subst (λ (s : Sources). Gave (shown (sources l.held)) (slice (buf (shown s x)) y z) o)
      (sources_stay k.held l.held j.stays ∙ sources_stay n.held k.held i.stays ∙ sources_stay m.held n.held h.stays) g)))

  pub no_from : (p q r : Eval Value) {m n k : Point Env} (x : Operand) (e : EvalEnd) → Evaluates db p shown m (Ok x) n → Evaluates db (number_of q) itself n (Err e) k → Evaluates db (p >>= (λ v. q >>= (λ w. r >>= (λ u. result (slice (buf v) (num w) (num u)))))) shown m (Err e) k
  no_from p q r {m} x e h i =
      then_ok db (λ v. q >>= (λ w. r >>= (λ u. result (slice (buf v) (num w) (num u))))) x h (no_number q (λ (w : ℕ). r >>= (λ u. result (slice (buf (shown (sources m.held) x)) w (num u)))) e i)

  pub no_count : (p q r : Eval Value) {m n k l : Point Env} (x : Operand) (y : ℕ) (e : EvalEnd) → Evaluates db p shown m (Ok x) n → Evaluates db (number_of q) itself n (Ok y) k → Evaluates db (number_of r) itself k (Err e) l → Evaluates db (p >>= (λ v. q >>= (λ w. r >>= (λ u. result (slice (buf v) (num w) (num u)))))) shown m (Err e) l
  no_count p q r {m} x y e h i j =
      let b = buf (shown (sources m.held) x) in
      then_ok db (λ v. q >>= (λ w. r >>= (λ u. result (slice (buf v) (num w) (num u))))) x h
      (then_number q (λ (w : ℕ). r >>= (λ u. result (slice b w (num u)))) y i (no_number r (λ (u : ℕ). result (slice b y u)) e j))
