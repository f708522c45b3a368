-- How the keys and the row of an update are put together.
use Rattle.std.specs.Prelude.{◌≡◌, ℕ, zero, suc, ◌+◌, ◌<◌, ◌≤◌, ◌==◌, List, [], ◌∷◌, ◌++◌, length, drop, replicate, slice_get, unwrap_or, Option, Some, None, Result, Ok, Err}
use Rattle.std.proofs.Common.{refl, sym, ap, subst, ◌∙◌, arith, append_assoc, append-nil}
use Rattle.db_model.specs.declared.database.ColumnDecl.{ColumnDecl}
use Rattle.db_model.specs.declared.database.Database.{Database}
use Rattle.db_model.specs.declared.env.Env.{Env}
use Rattle.db_model.specs.declared.tree.Reason.{Reason}
use Rattle.db_model.specs.declared.tree.Reason.TheVariants as reason
use Rattle.db_model.specs.declared.value.Value.{Value}
use Rattle.db_model.specs.Elements.{row_from, fits_column, filled}
use Rattle.db_model.specs.Expression.{Eval, buf, when, keys_from, taken_as}
use Rattle.db_model.specs.Over.{Point}
use Rattle.db_model.specs.Table.{KeyList}
use Rattle.expr_eval.specs.declared.end.EvalEnd.{EvalEnd}
use Rattle.expr_eval.specs.declared.end.EvalEnd.TheVariants as end
use Rattle.expr_eval.specs.Evaluates.{Evaluates, itself, Gave}
use Rattle.expr_eval.proofs.Steps.{gives, then_ok, then_err}

-- ---- keys

-- whatever the rest does, the whole does
pub record KeysLeft (db : Database) (sizes : List ℕ) (parts : List (Eval Value)) (m : Point Env) (keys : KeyList) (left : List ℕ) (rest : List (Eval Value)) (n : Point Env) : Type 0 where
  pub goes : (o : Result KeyList EvalEnd) (k : Point Env) → Evaluates db (keys_from keys left rest) itself n o k → Evaluates db (keys_from [] sizes parts) itself m o k

pub keys_begin : (db : Database) (sizes : List ℕ) (parts : List (Eval Value)) (m : Point Env) → KeysLeft db sizes parts m [] sizes parts m
keys_begin db sizes parts m = record { goes = λ o k h. h }

module _ (db : Database) (sizes : List ℕ) (parts : List (Eval Value)) (m : Point Env) (keys : KeyList) (size : ℕ) (left : List ℕ) (p : Eval Value) (rest : List (Eval Value)) (n : Point Env) (s : KeysLeft db sizes parts m keys (size ∷ left) (p ∷ rest) n) where
  pub key_unevaluated : (e : EvalEnd) (k : Point Env) → Evaluates db p itself n (Err e) k → Evaluates db (keys_from [] sizes parts) itself m (Err e) k
  key_unevaluated e k h = s.goes (Err e) k (then_err db _ e h)

  pub key_unmade : (v : Value) (e : EvalEnd) (k : Point Env) → Evaluates db p itself n (Ok v) k → Gave (λ (b : List ℕ). b) (when (length (buf v) == size) reason.KeySize (buf v)) (Err e) → Evaluates db (keys_from [] sizes parts) itself m (Err e) k
  key_unmade v e k h g = s.goes (Err e) k (then_ok db _ v h (then_err db _ {f = itself} e (gives db (when (length (buf v) == size) reason.KeySize (buf v)) g)))

  pub key_made : (v : Value) (key : List ℕ) (k : Point Env) → Evaluates db p itself n (Ok v) k → Gave (λ (b : List ℕ). b) (when (length (buf v) == size) reason.KeySize (buf v)) (Ok key) → KeysLeft db sizes parts m (keys ++ key ∷ []) left rest k
  key_made v key k h g = record {
    goes = λ o l r. s.goes o l (then_ok db _ v h (then_ok db (λ (b : List ℕ). keys_from (keys ++ b ∷ []) left rest) {f = itself} key (gives db (when (length (buf v) == size) reason.KeySize (buf v)) g) r));
  }

pub keys_end : (db : Database) (sizes : List ℕ) (parts : List (Eval Value)) (m : Point Env) (keys : KeyList) (rest : List (Eval Value)) (n : Point Env) → KeysLeft db sizes parts m keys [] rest n → Evaluates db (keys_from [] sizes parts) itself m (Ok keys) n
keys_end db sizes parts m keys rest n s = s.goes (Ok keys) n (gives db (Ok keys) refl)

pub key_missing : (db : Database) (sizes : List ℕ) (parts : List (Eval Value)) (m : Point Env) (keys : KeyList) (left : List ℕ) (n : Point Env) → 0 < length left → KeysLeft db sizes parts m keys left [] n → Evaluates db (keys_from [] sizes parts) itself m (Err (end.Fault reason.KeySize)) n
key_missing db sizes parts m keys [] n l s = absurd (omega arith)
key_missing db sizes parts m keys (size ∷ left) n l s = s.goes (Err (end.Fault reason.KeySize)) n (gives db (Err reason.KeySize) refl)

pub keys_at : (db : Database) (sizes : List ℕ) (parts : List (Eval Value)) (m : Point Env) (keys : KeyList) (i size : ℕ) (p : Eval Value) (n : Point Env) → drop i sizes ≡ size ∷ drop (i + 1) sizes → drop i parts ≡ p ∷ drop (i + 1) parts
    → KeysLeft db sizes parts m keys (drop i sizes) (drop i parts) n → KeysLeft db sizes parts m keys (size ∷ drop (i + 1) sizes) (p ∷ drop (i + 1) parts) n
keys_at db sizes parts m keys i size p n e f s =
    subst (λ (l : List ℕ). KeysLeft db sizes parts m keys l (p ∷ drop (i + 1) parts) n) e (subst (λ (r : List (Eval Value)). KeysLeft db sizes parts m keys (drop i sizes) r n) f s)

-- ---- rows

pub record RowLeft (db : Database) (protocols : ℕ) (columns : List ColumnDecl) (parts : List (Eval Value)) (m : Point Env) (row : List Value) (left : List ColumnDecl) (rest : List (Eval Value)) (n : Point Env) : Type 0 where
  pub goes : (o : Result (List Value) EvalEnd) (k : Point Env) → Evaluates db (row_from protocols row left rest) itself n o k → Evaluates db (row_from protocols [] columns parts) itself m o k

-- a value as its column's
abbrev pub as_column : ℕ → ColumnDecl → Value → Result Value Reason
as_column protocols c v = when (fits_column c.size (taken_as protocols c.ty v)) reason.DataSize (taken_as protocols c.ty v)

module _ (db : Database) (protocols : ℕ) (columns : List ColumnDecl) (parts : List (Eval Value)) (m : Point Env) (row : List Value) (c : ColumnDecl) (left : List ColumnDecl) (p : Eval Value) (rest : List (Eval Value)) (n : Point Env) (s : RowLeft db protocols columns parts m row (c ∷ left) (p ∷ rest) n) where
  pub data_unevaluated : (e : EvalEnd) (k : Point Env) → Evaluates db p itself n (Err e) k → Evaluates db (row_from protocols [] columns parts) itself m (Err e) k
  data_unevaluated e k h = s.goes (Err e) k (then_err db _ e h)

  pub data_unmade : (v : Value) (e : EvalEnd) (k : Point Env) → Evaluates db p itself n (Ok v) k → Gave (λ (b : Value). b) (as_column protocols c v) (Err e) → Evaluates db (row_from protocols [] columns parts) itself m (Err e) k
  data_unmade v e k h g = s.goes (Err e) k (then_ok db _ v h (then_err db _ {f = itself} e (gives db (as_column protocols c v) g)))

  pub data_made : (v w : Value) (k : Point Env) → Evaluates db p itself n (Ok v) k → Gave (λ (b : Value). b) (as_column protocols c v) (Ok w) → RowLeft db protocols columns parts m (row ++ w ∷ []) left rest k
  data_made v w k h g = record {
    goes = λ o l r. s.goes o l (then_ok db _ v h (then_ok db (λ (b : Value). row_from protocols (row ++ b ∷ []) left rest) {f = itself} w (gives db (as_column protocols c v) g) r));
  }

pub row_begin : (db : Database) (protocols : ℕ) (columns : List ColumnDecl) (parts : List (Eval Value)) (m : Point Env) → RowLeft db protocols columns parts m [] columns parts m
row_begin db protocols columns parts m = record { goes = λ o k h. h }

pub row_end : (db : Database) (protocols : ℕ) (columns : List ColumnDecl) (parts : List (Eval Value)) (m : Point Env) (row : List Value) (rest : List (Eval Value)) (n : Point Env) → RowLeft db protocols columns parts m row [] rest n → Evaluates db (row_from protocols [] columns parts) itself m (Ok row) n
row_end db protocols columns parts m row rest n s = s.goes (Ok row) n (gives db (Ok row) refl)

pub data_missing : (db : Database) (protocols : ℕ) (columns : List ColumnDecl) (parts : List (Eval Value)) (m : Point Env) (row : List Value) (left : List ColumnDecl) (n : Point Env) → 0 < length left → RowLeft db protocols columns parts m row left [] n → Evaluates db (row_from protocols [] columns parts) itself m (Err (end.Fault reason.DataSize)) n
data_missing db protocols columns parts m row [] n l s = absurd (omega arith)
data_missing db protocols columns parts m row (c ∷ left) n l s = s.goes (Err (end.Fault reason.DataSize)) n (gives db (Err reason.DataSize) refl)

pub row_at : (db : Database) (protocols : ℕ) (columns : List ColumnDecl) (parts : List (Eval Value)) (m : Point Env) (row : List Value) (i : ℕ) (c : ColumnDecl) (p : Eval Value) (n : Point Env) → drop i columns ≡ c ∷ drop (i + 1) columns → drop i parts ≡ p ∷ drop (i + 1) parts
    → RowLeft db protocols columns parts m row (drop i columns) (drop i parts) n → RowLeft db protocols columns parts m row (c ∷ drop (i + 1) columns) (p ∷ drop (i + 1) parts) n
row_at db protocols columns parts m row i c p n e f s =
    subst (λ (l : List ColumnDecl). RowLeft db protocols columns parts m row l (p ∷ drop (i + 1) parts) n) e (subst (λ (r : List (Eval Value)). RowLeft db protocols columns parts m row (drop i columns) r n) f s)

-- ---- lists from a place on

pub some_from : {A : Type 0} (xs : List A) (i : ℕ) (x : A) → slice_get xs i ≡ Some x → drop i xs ≡ x ∷ drop (i + 1) xs
some_from [] i x e = (cc)
some_from (y ∷ ys) zero x e = let same : y ≡ x = cc in ap (λ z. z ∷ ys) same
some_from (y ∷ ys) (suc i) x e = let k : suc (i + 1) ≡ suc i + 1 = omega arith in some_from ys i x e ∙ ap (λ n. x ∷ drop n (y ∷ ys)) k

pub none_from : {A : Type 0} (xs : List A) (i : ℕ) → slice_get xs i ≡ None → drop i xs ≡ []
none_from [] zero e = refl
none_from [] (suc i) e = refl
none_from (y ∷ ys) zero e = (cc)
none_from (y ∷ ys) (suc i) e = none_from ys i e

pub past_from : {A : Type 0} (xs : List A) (i : ℕ) → length xs ≤ i → drop i xs ≡ []
past_from [] zero l = refl
past_from [] (suc i) l = refl
past_from (x ∷ xs) zero l = absurd (omega arith)
past_from (x ∷ xs) (suc i) l = past_from xs i (omega arith)

pub some_left_from : {A : Type 0} (xs : List A) (i : ℕ) → i < length xs → 0 < length (drop i xs)
some_left_from [] i l = absurd (omega arith)
some_left_from (x ∷ xs) zero l = omega arith
some_left_from (x ∷ xs) (suc i) l = some_left_from xs i (omega arith)

-- ---- masks

filled_none : (ss : List ℕ) → filled ss [] ≡ []
filled_none [] = refl
filled_none (s ∷ ss) = refl

pub fill_none : (ss : List ℕ) (ms : List (Option (List ℕ))) (masks all : KeyList) → ms ≡ [] → masks ++ filled ss ms ≡ all → masks ≡ all
fill_none ss ms masks all e h = sym (append-nil masks) ∙ (ap (λ (l : KeyList). masks ++ l) (sym (ap (filled ss) e ∙ filled_none ss)) ∙ h)

pub fill_more : (sizes : List ℕ) (ms : List (Option (List ℕ))) (masks : KeyList) (i size : ℕ) (m : Option (List ℕ)) (x : List ℕ) (all : KeyList) → drop i sizes ≡ size ∷ drop (i + 1) sizes → drop i ms ≡ m ∷ drop (i + 1) ms → x ≡ unwrap_or m (replicate size 255)
    → masks ++ filled (drop i sizes) (drop i ms) ≡ all → (masks ++ x ∷ []) ++ filled (drop (i + 1) sizes) (drop (i + 1) ms) ≡ all
fill_more sizes ms masks i size m x all e f g h =
    append_assoc masks (x ∷ []) (filled (drop (i + 1) sizes) (drop (i + 1) ms))
    ∙ (ap (λ (y : List ℕ). masks ++ y ∷ filled (drop (i + 1) sizes) (drop (i + 1) ms)) g
    ∙ (ap (λ (l : KeyList). masks ++ l) (sym (ap (λ (l : List ℕ). filled l (drop i ms)) e ∙ ap (filled (size ∷ drop (i + 1) sizes)) f)) ∙ h))
