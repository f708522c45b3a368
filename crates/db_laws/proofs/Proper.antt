-- How computations that ask properly are put together, and what they give over a session.
use Rattle.std.specs.Prelude.{◌≡◌, ℕ, zero, suc, Bool, true, false, if◌then◌else◌, List, [], ◌∷◌, ◌++◌, length, slice_get, Option, Some, None, Result, Ok, Err, ◌==◌}
use Rattle.std.proofs.Common.{refl, sym, subst, arith, append_assoc, append-nil}
use Rattle.db_model.specs.declared.database.Database.{Database}
use Rattle.db_model.specs.declared.database.TableDecl.{TableDecl}
use Rattle.db_model.specs.declared.env.Env.{Env}
use Rattle.db_model.specs.declared.expression.Expr as expr
use Rattle.db_model.specs.declared.expression.Expr.{Expr, Row_of-Expr, end_of-Expr, more_of-Expr}
use Rattle.db_model.specs.declared.question.Answer.{Answer}
use Rattle.db_model.specs.declared.question.Answer.TheVariants.{Miss, Hit, Done}
use Rattle.db_model.specs.declared.question.Question.{Question}
use Rattle.db_model.specs.declared.question.Question.TheVariants.{Look}
use Rattle.db_model.specs.declared.tree.Reason.{Reason}
use Rattle.db_model.specs.declared.tree.Reason.TheVariants as reason
use Rattle.db_model.specs.declared.value.Value.{Value}
use Rattle.db_model.specs.Expression.{Eval, result, when, ◌>>=◌, or_fail, answer_at, asks, hit_as_number, keys_from, key_sizes, row_hit, look_up, variable_by, last_of, value, val, num, buf, is_so}
use Rattle.db_model.specs.Fitting.{keys_fit, look_fits, look_fits_in, question_fits, log_fits}
use Rattle.db_model.specs.Folds.{fold_expr, fold_exprs}
use Rattle.db_model.specs.Names.{Text, table_at}
use Rattle.db_model.specs.Proper.{Proper, Leaves, TakesFrom, Any, left_in, PlaysProper}
use Rattle.db_model.specs.Questions.{Asks, Gives, Asking, and_then, play, Step, ◌then◌, on_ok}
use Rattle.db_model.specs.Session.{Session, ask}
use Rattle.db_model.specs.declared.expression.Special.{Special}
use Rattle.db_model.specs.Special.{special}
use Rattle.db_model.specs.Table.{KeyList}
use Rattle.db_laws.proofs.Fitted.{and_both}

-- ---- one after another

pub proper_then : {A B : Type 0} (db : Database) (P : A → ℕ → Type 0) (Q : B → ℕ → Type 0) (f : A → Asks B) → ((a : A) (m : ℕ) → P a m → Proper db Q m (f a)) → (n : ℕ) (x : Asks A) → Proper db P n x → Proper db Q n (and_then x f)
proper_then db P Q f g n (Gives a) h = g a n h
proper_then db P Q f g zero (Asking q k) h = h
proper_then db P Q f g (suc n) (Asking q k) h = (h.0, λ a. proper_then db P Q f g n (k a) (h.1 a))

pub proper_map : {A : Type 0} (db : Database) (P Q : A → ℕ → Type 0) → ((a : A) (m : ℕ) → P a m → Q a m) → (n : ℕ) (x : Asks A) → Proper db P n x → Proper db Q n x
proper_map db P Q g n (Gives a) h = g a n h
proper_map db P Q g zero (Asking q k) h = h
proper_map db P Q g (suc n) (Asking q k) h = (h.0, λ a. proper_map db P Q g n (k a) (h.1 a))

-- the first part of a proper computation is proper, and the second after it
pub proper_parts : {A B : Type 0} (db : Database) (Q : B → ℕ → Type 0) (f : A → Asks B) (n : ℕ) (x : Asks A) → Proper db Q n (and_then x f) → Proper db (λ a m. Proper db Q m (f a)) n x
proper_parts db Q f n (Gives a) h = h
proper_parts db Q f zero (Asking q k) h = h
proper_parts db Q f (suc n) (Asking q k) h = (h.0, λ a. proper_parts db Q f n (k a) (h.1 a))

pub proper_plays : {A : Type 0} (db : Database) (P : A → ℕ → Type 0) (t n : ℕ) (x : Asks A) (s : Session) → Proper db P n x → PlaysProper db P n (play db t x s)
proper_plays db P t n (Gives a) s h = record { left = n; gave = h; taken = omega arith; log = refl }
proper_plays db P t zero (Asking q k) s h = absurd h
proper_plays db P t (suc n) (Asking q k) s h =
    let a = (ask db s q t).0 in
    let r = proper_plays db P t n (k a) (ask db s q t).1 (h.1 a) in
    record { left = r.left; gave = r.gave; taken = omega (arith, r.taken); log = and_both (question_fits db q) (log_fits db (play db t (k a) (ask db s q t).1).log) h.0 r.log }

module _ {S A B : Type 0} (db : Database) (left : S → ℕ) (P : A → Type 0) (Q : B → Type 0) where
  pub step_then : (p : Step S A) (f : A → Step S B) → TakesFrom db left P p → ((a : A) → P a → TakesFrom db left Q (f a)) → TakesFrom db left Q (p then f)
  step_then p f h g z = proper_then db (Leaves left P) (Leaves left Q) (λ r. f r.0 r.1) (λ r m k. subst (λ n. Proper db (Leaves left Q) n (f r.0 r.1)) k.0 (g r.0 k.1 r.1)) (left z) (p z) (h z)

-- ---- evaluations

-- P holds of the value, where there is one
abbrev pub OnValue : {A : Type 0} → (A → Type 0) → Result A Reason → Type 0
OnValue P (Ok a) = P a
OnValue P (Err r) = Unit {0}

module _ (db : Database) where
  abbrev pub Evaluates : {A : Type 0} → (A → Type 0) → Eval A → Type 0
  Evaluates P p = TakesFrom db left_in (OnValue P) p

  pub eval_then : {A B : Type 0} (P : A → Type 0) (Q : B → Type 0) (p : Eval A) (f : A → Eval B) → Evaluates P p → ((a : A) → P a → Evaluates Q (f a)) → Evaluates Q (p >>= f)
  eval_then {A} {B} P Q p f h g = step_then db left_in (OnValue P) (OnValue Q) p (on_ok f) h on
    where
      on : (r : Result A Reason) → OnValue P r → TakesFrom db left_in (OnValue Q) (on_ok f r)
      on (Ok a) k = g a k
      on (Err e) k = λ z. (refl, tt)

  -- the same where nothing is said of the values
  pub eval_any : {A B : Type 0} (p : Eval A) (f : A → Eval B) → Evaluates {A = A} Any p → ((a : A) → Evaluates {A = B} Any (f a)) → Evaluates {A = B} Any (p >>= f)
  eval_any p f h g = eval_then Any Any p f h (λ a k. g a)

  pub given : {A : Type 0} (r : Result A Reason) → Evaluates {A = A} Any (result r)
  given (Ok a) z = (refl, tt)
  given (Err e) z = (refl, tt)

  -- a question that fits
  pub asked : (q : Question) → question_fits db q ≡ true → Evaluates {A = Answer} Any (asks q)
  asked q h z = by z.questions refl
    where
      by : (n : ℕ) → z.questions ≡ n → Proper db (Leaves left_in (OnValue {A = Answer} Any)) n (answer_at q z n)
      by zero e = (e, tt)
      by (suc n) e = (h, λ a. (refl, tt))

  pub found_any : (table : ℕ) (a : Answer) → Evaluates {A = Value} Any (hit_as_number table a)
  found_any table Miss z = (refl, tt)
  found_any table (Hit row) z = (refl, tt)
  found_any table Done z = (refl, tt)

  -- each of a list of evaluations
  abbrev pub AllEvaluate : List (Eval Value) → Type 0
  AllEvaluate [] = Unit {0}
  AllEvaluate (p ∷ ps) = Evaluates {A = Value} Any p × AllEvaluate ps

  abbrev HasSize : ℕ → List ℕ → Type 0
  HasSize size k = (length k == size) ≡ true

  -- the keys that are given have the sizes
  pub keys_evaluate : (P : KeyList → Type 0) (sizes : List ℕ) (ps : List (Eval Value)) (before : KeyList) → AllEvaluate ps → ((more : KeyList) → keys_fit sizes more ≡ true → P (before ++ more)) → Evaluates P (keys_from before sizes ps)
  keys_evaluate P [] ps before h g = λ z. (refl, subst P (append-nil before) (g [] refl))
  keys_evaluate P (size ∷ sizes) [] before h g = λ z. (refl, tt)
  keys_evaluate P (size ∷ sizes) (p ∷ ps) before h g =
      eval_then Any P p (λ v. result (when (length (buf v) == size) reason.KeySize (buf v)) >>= (λ k. keys_from (before ++ k ∷ []) sizes ps)) h.0
      (λ v u. eval_then (HasSize size) P (result (when (length (buf v) == size) reason.KeySize (buf v))) (λ k. keys_from (before ++ k ∷ []) sizes ps) (sized v (length (buf v) == size) refl)
      (λ k f. keys_evaluate P sizes ps (before ++ k ∷ []) h.1 (λ more m. subst P (sym (append_assoc before (k ∷ []) more)) (g (k ∷ more) (and_both (length k == size) (keys_fit sizes more) f m)))))
    where
      sized : (v : Value) (b : Bool) → (length (buf v) == size) ≡ b → Evaluates (HasSize size) (result (when b reason.KeySize (buf v)))
      sized v true e z = (refl, e)
      sized v false e z = (refl, tt)

  looks_up : (d : Option TableDecl) (n : ℕ) (renew : Bool) (ks : List (Eval Value)) → slice_get db.tables n ≡ d → AllEvaluate ks → Evaluates {A = Value} Any (look_up d n renew ks)
  unfolding question_fits look_fits
  looks_up None n renew ks e h = λ z. (refl, tt)
  looks_up (Some d) n renew ks e h =
      eval_then (λ keys. keys_fit (key_sizes (Some d)) keys ≡ true) Any (keys_from [] (key_sizes (Some d)) ks) (λ keys. asks (Look n keys renew) >>= hit_as_number n)
      (keys_evaluate (λ keys. keys_fit (key_sizes (Some d)) keys ≡ true) (key_sizes (Some d)) ks [] h (λ more m. m))
      (λ keys m. eval_any (asks (Look n keys renew)) (hit_as_number n) (asked (Look n keys renew) (subst (λ o. look_fits_in o keys ≡ true) (sym e) m)) (λ a. found_any n a))

  module _ (fields : List Text) where
    abbrev gives : Expr → Eval Value
    gives e = fold_expr (Eval Value) (value db fields) e

    any_variable : (s : Option Special) (name : Text) → Evaluates {A = Value} Any (variable_by db fields s name)
    any_variable None name z = (refl, tt)
    any_variable (Some s) name z = (refl, tt)

    or_failed : {A : Type 0} (r : Reason) (o : Option A) (z : Env) → Proper db (Leaves left_in (OnValue {A = A} Any)) z.questions (or_fail r o z)
    or_failed r None z = (refl, tt)
    or_failed r (Some a) z = (refl, tt)

    hit_row : (o : Option (Option (List Value))) (z : Env) → Proper db (Leaves left_in (OnValue {A = List Value} Any)) z.questions (row_hit o z)
    hit_row None z = (refl, tt)
    hit_row (Some None) z = (refl, tt)
    hit_row (Some (Some row)) z = (refl, tt)

    if_so : (b : Bool) (p q : Eval Value) → Evaluates {A = Value} Any p → Evaluates {A = Value} Any q → Evaluates {A = Value} Any (if b then p else q)
    if_so true p q h k = h
    if_so false p q h k = k

    mutual
      gives_any : (e : Expr) → Evaluates {A = Value} Any (gives e)
      gives_any (expr.Number n) = λ z. (refl, tt)
      gives_any (expr.Text b) = λ z. (refl, tt)
      gives_any (expr.Protocol name) = λ z. (refl, tt)
      gives_any (expr.Field name) = eval_any (λ z. or_fail reason.NoField (last_of fields name z.present None) z) _ (λ z. or_failed reason.NoField (last_of fields name z.present None) z) (λ b z. (refl, tt))
      gives_any (expr.Variable name) = any_variable (special name) name
      gives_any (expr.Column table column) = eval_any (λ z. row_hit (slice_get z.hits (table_at db table)) z) _ (λ z. hit_row (slice_get z.hits (table_at db table)) z) (λ row z. (refl, tt))
      gives_any (expr.Not' s (more_of-Expr a end_of-Expr)) = eval_any (gives a) _ (gives_any a) (λ x z. (refl, tt))
      gives_any (expr.And' s (more_of-Expr a end_of-Expr) t (more_of-Expr b end_of-Expr)) = eval_any (gives a) _ (gives_any a) (λ x. if_so (is_so (num x)) _ _ (eval_any (gives b) _ (gives_any b) (λ y z. (refl, tt))) (λ z. (refl, tt)))
      gives_any (expr.Or' s (more_of-Expr a end_of-Expr) t (more_of-Expr b end_of-Expr)) = eval_any (gives a) _ (gives_any a) (λ x. if_so (is_so (num x)) _ _ (λ z. (refl, tt)) (eval_any (gives b) _ (gives_any b) (λ y z. (refl, tt))))
      gives_any (expr.Binary' op s (more_of-Expr a end_of-Expr) t (more_of-Expr b end_of-Expr)) = eval_any (gives a) _ (gives_any a) (λ x. eval_any (gives b) _ (gives_any b) (λ y. given _))
      gives_any (expr.Slice' s (more_of-Expr a end_of-Expr) t (more_of-Expr b end_of-Expr) u (more_of-Expr c end_of-Expr)) = eval_any (gives a) _ (gives_any a) (λ x. eval_any (gives b) _ (gives_any b) (λ y. eval_any (gives c) _ (gives_any c) (λ n. given _)))
      gives_any (expr.ToNumber' s (more_of-Expr a end_of-Expr)) = eval_any (gives a) _ (gives_any a) (λ x. given _)
      gives_any (expr.LengthOf' s (more_of-Expr a end_of-Expr)) = eval_any (gives a) _ (gives_any a) (λ x z. (refl, tt))
      gives_any (expr.ToBytes' s (more_of-Expr a end_of-Expr) size) = eval_any (gives a) _ (gives_any a) (λ x. given _)
      gives_any (expr.HasText' s (more_of-Expr a end_of-Expr) text) = eval_any (gives a) _ (gives_any a) (λ x z. (refl, tt))
      gives_any (expr.IsPresent name) = λ z. (refl, tt)
      gives_any (expr.LookUp' table renew s keys) = looks_up (slice_get db.tables (table_at db table)) (table_at db table) renew (fold_exprs (Eval Value) (value db fields) keys) refl (all_any keys)

      all_any : {m : _} (es : Row_of-Expr m) → AllEvaluate (fold_exprs (Eval Value) (value db fields) es)
      all_any end_of-Expr = tt
      all_any (more_of-Expr e rest) = (gives_any e, all_any rest)

    -- every expression takes its questions from those that are left, and they fit
    pub evaluates : (e : Expr) → Evaluates {A = Value} Any (val db fields e)
    unfolding val
    evaluates e = gives_any e

pub expression_proper : (db : Database) (fields : List Text) (e : Expr) → TakesFrom db left_in Any (val db fields e)
expression_proper db fields e z = proper_map db (Leaves left_in (OnValue {A = Value} Any)) (Leaves left_in Any) (λ r n h. (h.0, tt)) z.questions (val db fields e z) (evaluates db fields e z)
