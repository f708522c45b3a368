-- A code means what its expression means.
use Rattle.std.specs.Prelude.{◌≡◌, ℕ, zero, suc, ◌+◌, ◌==◌, Bool, true, false, ◌||◌, if◌then◌else◌, List, [], ◌∷◌, map, slice_get, bytes_eq, Option, Some, None, Result, Ok, Err, IfOk}
use Rattle.std.proofs.Common.{refl, ap, ◌∙◌, arith}
use Rattle.db_model.specs.declared.database.Database.{Database}
use Rattle.db_model.specs.declared.database.TableDecl.{TableDecl}
use Rattle.db_model.specs.declared.env.Env.{Env}
use Rattle.db_model.specs.declared.expression.Expr as expr
use Rattle.db_model.specs.declared.expression.Expr.{Expr, Row_of-Expr, end_of-Expr, more_of-Expr}
use Rattle.db_model.specs.declared.expression.Expr.TheOpen as layer
use Rattle.db_model.specs.declared.expression.Operator.{Operator}
use Rattle.db_model.specs.declared.expression.Special.{Special}
use Rattle.db_model.specs.declared.no_memory.NoMemory.{NoMemory}
use Rattle.db_model.specs.declared.tree.Reason.TheVariants as reason
use Rattle.db_model.specs.declared.value.Value.{Value}
use Rattle.db_model.specs.declared.value.Value.TheVariants.{Buf}
use Rattle.db_model.specs.Expression.{Eval, ◌>>=◌, give, or_fail, truth, named, last_of, is_present, val, value, variable_by, look_up}
use Rattle.db_model.specs.Folds.{fold_expr, fold_exprs}
use Rattle.db_model.specs.Names.{Text, protocol_at, variable_at, table_at, column_at}
use Rattle.db_model.specs.Special.{special}
use Rattle.expr_code.specs.declared.code.ExprCode as code
use Rattle.expr_code.specs.declared.code.ExprCode.{ExprCode}
use Rattle.expr_code.specs.declared.code.ExprCode.TheOpen as coded
use Rattle.expr_code.specs.Code.{numbers_from, numbers_of, variable_code, look_up_code, code_step, code_of}
use Rattle.expr_code.specs.Meaning.{is_in, last_in, some_in, code_value, code_val}
use Rattle.expr_code.proofs.Layers.{fold_not, fold_and, fold_or, fold_binary, fold_slice, fold_to_number, fold_length_of, fold_to_bytes, fold_has_text, fold_number, fold_text, fold_protocol, fold_field, fold_is_present, fold_special, fold_variable, fold_column, fold_look_up}

-- ---- the numbers of a name are those of the fields that bear it

is_in_less : (k n : ℕ) (name : Text) (fields : List Text) → is_in (numbers_from (suc (k + n)) name fields) k ≡ false
is_in_less k n name [] = refl
is_in_less k n name (f ∷ fields) =
    let e : suc (suc (k + n)) ≡ suc (k + suc n) = omega arith in
    by (bytes_eq name f) (ap (λ (j : ℕ). is_in (numbers_from j name fields) k) e ∙ is_in_less k (suc n) name fields)
  where
    by : (b : Bool) → is_in (numbers_from (suc (suc (k + n))) name fields) k ≡ false → is_in (if b then suc (k + n) ∷ numbers_from (suc (suc (k + n))) name fields else numbers_from (suc (suc (k + n))) name fields) k ≡ false
    by true h = let e : (suc (k + n) == k) ≡ false = grind arith in ap (λ (b : Bool). b || is_in (numbers_from (suc (suc (k + n))) name fields) k) e ∙ h
    by false h = h

is_in_from : (k n : ℕ) (name : Text) (fields : List Text) → is_in (numbers_from k name fields) (k + n) ≡ named fields name n
is_in_from k zero name [] = refl
is_in_from k (suc n) name [] = refl
is_in_from k zero name (f ∷ fields) =
    let e : suc k ≡ suc (k + zero) = omega arith in
    let at : k + zero ≡ k = omega arith in
    by (bytes_eq name f) ((λ i. is_in (numbers_from (e i) name fields) (at i)) ∙ is_in_less k zero name fields)
  where
    by : (b : Bool) → is_in (numbers_from (suc k) name fields) (k + zero) ≡ false → is_in (if b then k ∷ numbers_from (suc k) name fields else numbers_from (suc k) name fields) (k + zero) ≡ b
    by true h = let e : (k == k + zero) ≡ true = grind arith in ap (λ (b : Bool). b || is_in (numbers_from (suc k) name fields) (k + zero)) e
    by false h = h
is_in_from k (suc n) name (f ∷ fields) =
    let e : k + suc n ≡ suc k + n = omega arith in
    by (bytes_eq name f) (ap (is_in (numbers_from (suc k) name fields)) e ∙ is_in_from (suc k) n name fields)
  where
    by : (b : Bool) → is_in (numbers_from (suc k) name fields) (k + suc n) ≡ named fields name n → is_in (if b then k ∷ numbers_from (suc k) name fields else numbers_from (suc k) name fields) (k + suc n) ≡ named fields name n
    by true h = let e : (k == k + suc n) ≡ false = grind arith in ap (λ (b : Bool). b || is_in (numbers_from (suc k) name fields) (k + suc n)) e ∙ h
    by false h = h

pub is_in_named : (fields : List Text) (name : Text) (n : ℕ) → is_in (numbers_of fields name) n ≡ named fields name n
is_in_named fields name n = let e : n ≡ zero + n = omega arith in ap (is_in (numbers_of fields name)) e ∙ is_in_from zero n name fields

module _ (fields : List Text) (name : Text) where
  pub last_is : (present : List (ℕ × List ℕ)) (so_far : Option (List ℕ)) → last_in (numbers_of fields name) present so_far ≡ last_of fields name present so_far
  last_is [] so_far = refl
  last_is (f ∷ present) so_far = ap (λ (b : Bool). last_in (numbers_of fields name) present (if b then Some f.1 else so_far)) (is_in_named fields name f.0) ∙ last_is present (if named fields name f.0 then Some f.1 else so_far)

  pub some_is : (present : List (ℕ × List ℕ)) → some_in (numbers_of fields name) present ≡ is_present fields name present
  some_is [] = refl
  some_is (f ∷ present) = λ i. is_in_named fields name f.0 i || some_is present i

-- ---- a code on one layer

module _ (db : Database) where
  pub val_not : (a : ExprCode) → code_val db (code.Not a) ≡ code_value db (coded.Not (code_val db a))
  unfolding code_val
  val_not a = fold_not (Eval Value) (code_value db) a

  pub val_and : (a b : ExprCode) → code_val db (code.And a b) ≡ code_value db (coded.And (code_val db a) (code_val db b))
  unfolding code_val
  val_and a b = fold_and (Eval Value) (code_value db) a b

  pub val_or : (a b : ExprCode) → code_val db (code.Or a b) ≡ code_value db (coded.Or (code_val db a) (code_val db b))
  unfolding code_val
  val_or a b = fold_or (Eval Value) (code_value db) a b

  pub val_binary : (o : Operator) (a b : ExprCode) → code_val db (code.Binary o a b) ≡ code_value db (coded.Binary o (code_val db a) (code_val db b))
  unfolding code_val
  val_binary o a b = fold_binary (Eval Value) (code_value db) o a b

  pub val_slice : (a b c : ExprCode) → code_val db (code.Slice a b c) ≡ code_value db (coded.Slice (code_val db a) (code_val db b) (code_val db c))
  unfolding code_val
  val_slice a b c = fold_slice (Eval Value) (code_value db) a b c

  pub val_to_number : (a : ExprCode) → code_val db (code.ToNumber a) ≡ code_value db (coded.ToNumber (code_val db a))
  unfolding code_val
  val_to_number a = fold_to_number (Eval Value) (code_value db) a

  pub val_length_of : (a : ExprCode) → code_val db (code.LengthOf a) ≡ code_value db (coded.LengthOf (code_val db a))
  unfolding code_val
  val_length_of a = fold_length_of (Eval Value) (code_value db) a

  pub val_to_bytes : (a : ExprCode) (size : ℕ) → code_val db (code.ToBytes a size) ≡ code_value db (coded.ToBytes (code_val db a) size)
  unfolding code_val
  val_to_bytes a size = fold_to_bytes (Eval Value) (code_value db) a size

  pub val_has_text : (a : ExprCode) (text : List ℕ) → code_val db (code.HasText a text) ≡ code_value db (coded.HasText (code_val db a) text)
  unfolding code_val
  val_has_text a text = fold_has_text (Eval Value) (code_value db) a text

  pub val_number : (n : ℕ) → code_val db (code.Number n) ≡ code_value db (coded.Number n)
  unfolding code_val
  val_number n = fold_number (Eval Value) (code_value db) n

  pub val_text : (b : List ℕ) → code_val db (code.Text b) ≡ code_value db (coded.Text b)
  unfolding code_val
  val_text b = fold_text (Eval Value) (code_value db) b

  pub val_protocol : (p : ℕ) → code_val db (code.Protocol p) ≡ code_value db (coded.Protocol p)
  unfolding code_val
  val_protocol p = fold_protocol (Eval Value) (code_value db) p

  pub val_field : (numbers : List ℕ) → code_val db (code.Field numbers) ≡ code_value db (coded.Field numbers)
  unfolding code_val
  val_field numbers = fold_field (Eval Value) (code_value db) numbers

  pub val_is_present : (numbers : List ℕ) → code_val db (code.IsPresent numbers) ≡ code_value db (coded.IsPresent numbers)
  unfolding code_val
  val_is_present numbers = fold_is_present (Eval Value) (code_value db) numbers

  pub val_special : (s : Special) → code_val db (code.Special s) ≡ code_value db (coded.Special s)
  unfolding code_val
  val_special s = fold_special (Eval Value) (code_value db) s

  pub val_variable : (n : ℕ) → code_val db (code.Variable n) ≡ code_value db (coded.Variable n)
  unfolding code_val
  val_variable n = fold_variable (Eval Value) (code_value db) n

  pub val_column : (table column : ℕ) → code_val db (code.Column table column) ≡ code_value db (coded.Column table column)
  unfolding code_val
  val_column table column = fold_column (Eval Value) (code_value db) table column

  pub val_look_up : (table : ℕ) (renew : Bool) (keys : List ExprCode) → code_val db (code.LookUp table renew keys) ≡ code_value db (coded.LookUp table renew (map (code_val db) keys))
  unfolding code_val
  val_look_up table renew keys = fold_look_up (Eval Value) (code_value db) table renew keys

-- ---- the whole

module _ (db : Database) (fields : List Text) where
  of_variable : (s : Option Special) (name : Text) → code_val db (variable_code db s name) ≡ variable_by db fields s name
  of_variable None name = val_variable db (variable_at db name)
  of_variable (Some s) name = val_special db s

  of_field : (name : Text) → code_val db (code.Field (numbers_of fields name)) ≡ value db fields (layer.Field name)
  of_field name = val_field db (numbers_of fields name) ∙ (λ i. (λ (z : Env). or_fail reason.NoField (last_is fields name z.present None i) z) >>= (λ b. give (Buf b)))

  of_is_present : (name : Text) → code_val db (code.IsPresent (numbers_of fields name)) ≡ value db fields (layer.IsPresent name)
  of_is_present name = val_is_present db (numbers_of fields name) ∙ (λ i. λ (z : Env). give (truth (some_is fields name z.present i)) z)

  of_look_up : (d : Option TableDecl) (n : ℕ) (renew : Bool) (keys : List ExprCode) (parts : List (Eval Value)) → slice_get db.tables n ≡ d → map (code_val db) keys ≡ parts → code_val db (look_up_code d n renew keys) ≡ look_up d n renew parts
  of_look_up None n renew keys parts e h = val_number db 0
  of_look_up (Some d) n renew keys parts e h = val_look_up db n renew keys ∙ (λ i. look_up (e i) n renew (h i))

  mutual
    means : (e : Expr) → code_val db (fold_expr ExprCode (code_step db fields) e) ≡ fold_expr (Eval Value) (value db fields) e
    means (expr.Number n) = val_number db n
    means (expr.Text b) = val_text db b
    means (expr.Protocol name) = val_protocol db (protocol_at db name)
    means (expr.Field name) = of_field name
    means (expr.Variable name) = of_variable (special name) name
    means (expr.Column table column) = val_column db (table_at db table) (column_at (slice_get db.tables (table_at db table)) column)
    means (expr.Not' s (more_of-Expr a end_of-Expr)) = val_not db _ ∙ ap (λ p. value db fields (layer.Not p)) (means a)
    means (expr.And' s (more_of-Expr a end_of-Expr) t (more_of-Expr b end_of-Expr)) = val_and db _ _ ∙ (λ i. value db fields (layer.And (means a i) (means b i)))
    means (expr.Or' s (more_of-Expr a end_of-Expr) t (more_of-Expr b end_of-Expr)) = val_or db _ _ ∙ (λ i. value db fields (layer.Or (means a i) (means b i)))
    means (expr.Binary' op s (more_of-Expr a end_of-Expr) t (more_of-Expr b end_of-Expr)) = val_binary db op _ _ ∙ (λ i. value db fields (layer.Binary op (means a i) (means b i)))
    means (expr.Slice' s (more_of-Expr a end_of-Expr) t (more_of-Expr b end_of-Expr) u (more_of-Expr c end_of-Expr)) = val_slice db _ _ _ ∙ (λ i. value db fields (layer.Slice (means a i) (means b i) (means c i)))
    means (expr.ToNumber' s (more_of-Expr a end_of-Expr)) = val_to_number db _ ∙ ap (λ p. value db fields (layer.ToNumber p)) (means a)
    means (expr.LengthOf' s (more_of-Expr a end_of-Expr)) = val_length_of db _ ∙ ap (λ p. value db fields (layer.LengthOf p)) (means a)
    means (expr.ToBytes' s (more_of-Expr a end_of-Expr) size) = val_to_bytes db _ size ∙ ap (λ p. value db fields (layer.ToBytes p size)) (means a)
    means (expr.HasText' s (more_of-Expr a end_of-Expr) text) = val_has_text db _ text ∙ ap (λ p. value db fields (layer.HasText p text)) (means a)
    means (expr.IsPresent name) = of_is_present name
    means (expr.LookUp' table renew s keys) = of_look_up (slice_get db.tables (table_at db table)) (table_at db table) renew _ _ refl (means_all keys)

    means_all : {m : _} (keys : Row_of-Expr m) → map (code_val db) (fold_exprs ExprCode (code_step db fields) keys) ≡ fold_exprs (Eval Value) (value db fields) keys
    means_all end_of-Expr = refl
    means_all (more_of-Expr e rest) = λ i. means e i ∷ means_all rest i

  -- the code of an expression means what the expression means
  pub code_means : (e : Expr) → code_val db (code_of db fields e) ≡ val db fields e
  unfolding code_of val
  code_means e = means e

  pub if_means : (e : Expr) (r : Result ExprCode NoMemory) → IfOk r (λ c. c ≡ code_of db fields e) → IfOk r (λ c. code_val db c ≡ val db fields e)
  if_means e (Ok c) h = ap (code_val db) h ∙ code_means e
  if_means e (Err x) h = tt
