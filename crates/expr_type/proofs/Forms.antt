-- What is said of an expression, by its parts.
use Rattle.std.specs.Prelude.{◌≡◌, ℕ, Bool, not, ◌||◌, ◌&&◌, List, map, length, slice_get, Option}
use Rattle.std.specs.List.{list_all}
use Rattle.std.proofs.lemmas.List.{length-map}
use Rattle.std.proofs.Common.{sym, ap, ◌∙◌}
use Rattle.db_model.specs.declared.database.Database.{Database}
use Rattle.db_model.specs.declared.expression.Expr as expr
use Rattle.db_model.specs.declared.expression.Expr.{Expr}
use Rattle.db_model.specs.declared.expression.Operator.{Operator}
use Rattle.db_model.specs.declared.value.Ty.{Ty}
use Rattle.db_model.specs.declared.value.Ty.TheVariants.{Num, Buf}
use Rattle.db_model.specs.declared.limits.TheConstants.{MOST_NUMBER_BYTES}
use Rattle.db_model.specs.Forms.{is_between}
use Rattle.db_model.specs.Names.{Text, table_at}
use Rattle.db_model.specs.Typing.{has_wrong_arity, arity_step, has_keys, is_table, some_of, has_undeclared, undeclared_step, ty_of, ty_step, is_of, typed_if, operator_ty}
use Rattle.db_model.proofs.Layers.{fold_not, fold_and, fold_or, fold_binary, fold_slice, fold_to_number, fold_length_of, fold_to_bytes, fold_has_text, fold_look_up}

module _ (db : Database) where
  pub arity_not : (a : Expr) → has_wrong_arity db (expr.Not a) ≡ has_wrong_arity db a
  arity_not a = fold_not Bool (arity_step db) a

  pub arity_and : (a b : Expr) → has_wrong_arity db (expr.And a b) ≡ (has_wrong_arity db a || has_wrong_arity db b)
  arity_and a b = fold_and Bool (arity_step db) a b

  pub arity_or : (a b : Expr) → has_wrong_arity db (expr.Or a b) ≡ (has_wrong_arity db a || has_wrong_arity db b)
  arity_or a b = fold_or Bool (arity_step db) a b

  pub arity_binary : (o : Operator) (a b : Expr) → has_wrong_arity db (expr.Binary o a b) ≡ (has_wrong_arity db a || has_wrong_arity db b)
  arity_binary o a b = fold_binary Bool (arity_step db) o a b

  pub arity_slice : (a b d : Expr) → has_wrong_arity db (expr.Slice a b d) ≡ (has_wrong_arity db a || (has_wrong_arity db b || has_wrong_arity db d))
  arity_slice a b d = fold_slice Bool (arity_step db) a b d

  pub arity_to_number : (a : Expr) → has_wrong_arity db (expr.ToNumber a) ≡ has_wrong_arity db a
  arity_to_number a = fold_to_number Bool (arity_step db) a

  pub arity_length_of : (a : Expr) → has_wrong_arity db (expr.LengthOf a) ≡ has_wrong_arity db a
  arity_length_of a = fold_length_of Bool (arity_step db) a

  pub arity_to_bytes : (a : Expr) (size : ℕ) → has_wrong_arity db (expr.ToBytes a size) ≡ has_wrong_arity db a
  arity_to_bytes a size = fold_to_bytes Bool (arity_step db) a size

  pub arity_has_text : (a : Expr) (text : List ℕ) → has_wrong_arity db (expr.HasText a text) ≡ has_wrong_arity db a
  arity_has_text a text = fold_has_text Bool (arity_step db) a text

  pub arity_look_up : (table : Text) (renew : Bool) (ks : List Expr) → has_wrong_arity db (expr.LookUp table renew ks) ≡ (not (has_keys (slice_get db.tables (table_at db table)) (length ks)) || some_of (map (has_wrong_arity db) ks))
  arity_look_up table renew ks = fold_look_up Bool (arity_step db) table renew ks ∙ ap (λ n. not (has_keys (slice_get db.tables (table_at db table)) n) || some_of (map (has_wrong_arity db) ks)) (length-map ks (has_wrong_arity db))

module _ (db : Database) (fields : List Text) where
  pub undeclared_not : (a : Expr) → has_undeclared db fields (expr.Not a) ≡ has_undeclared db fields a
  undeclared_not a = fold_not Bool (undeclared_step db fields) a

  pub undeclared_and : (a b : Expr) → has_undeclared db fields (expr.And a b) ≡ (has_undeclared db fields a || has_undeclared db fields b)
  undeclared_and a b = fold_and Bool (undeclared_step db fields) a b

  pub undeclared_or : (a b : Expr) → has_undeclared db fields (expr.Or a b) ≡ (has_undeclared db fields a || has_undeclared db fields b)
  undeclared_or a b = fold_or Bool (undeclared_step db fields) a b

  pub undeclared_binary : (o : Operator) (a b : Expr) → has_undeclared db fields (expr.Binary o a b) ≡ (has_undeclared db fields a || has_undeclared db fields b)
  undeclared_binary o a b = fold_binary Bool (undeclared_step db fields) o a b

  pub undeclared_slice : (a b d : Expr) → has_undeclared db fields (expr.Slice a b d) ≡ (has_undeclared db fields a || (has_undeclared db fields b || has_undeclared db fields d))
  undeclared_slice a b d = fold_slice Bool (undeclared_step db fields) a b d

  pub undeclared_to_number : (a : Expr) → has_undeclared db fields (expr.ToNumber a) ≡ has_undeclared db fields a
  undeclared_to_number a = fold_to_number Bool (undeclared_step db fields) a

  pub undeclared_length_of : (a : Expr) → has_undeclared db fields (expr.LengthOf a) ≡ has_undeclared db fields a
  undeclared_length_of a = fold_length_of Bool (undeclared_step db fields) a

  pub undeclared_to_bytes : (a : Expr) (size : ℕ) → has_undeclared db fields (expr.ToBytes a size) ≡ has_undeclared db fields a
  undeclared_to_bytes a size = fold_to_bytes Bool (undeclared_step db fields) a size

  pub undeclared_has_text : (a : Expr) (text : List ℕ) → has_undeclared db fields (expr.HasText a text) ≡ has_undeclared db fields a
  undeclared_has_text a text = fold_has_text Bool (undeclared_step db fields) a text

  pub undeclared_look_up : (table : Text) (renew : Bool) (ks : List Expr) → has_undeclared db fields (expr.LookUp table renew ks) ≡ (not (is_table db table) || some_of (map (has_undeclared db fields) ks))
  undeclared_look_up table renew ks = fold_look_up Bool (undeclared_step db fields) table renew ks

module _ (db : Database) where
  pub ty_not : (a : Expr) → ty_of db (expr.Not a) ≡ typed_if (is_of Num (ty_of db a)) Num
  ty_not a = fold_not (Option Ty) (ty_step db) a

  pub ty_and : (a b : Expr) → ty_of db (expr.And a b) ≡ typed_if (is_of Num (ty_of db a) && is_of Num (ty_of db b)) Num
  ty_and a b = fold_and (Option Ty) (ty_step db) a b

  pub ty_or : (a b : Expr) → ty_of db (expr.Or a b) ≡ typed_if (is_of Num (ty_of db a) && is_of Num (ty_of db b)) Num
  ty_or a b = fold_or (Option Ty) (ty_step db) a b

  pub ty_binary : (o : Operator) (a b : Expr) → ty_of db (expr.Binary o a b) ≡ operator_ty o (ty_of db a) (ty_of db b)
  ty_binary o a b = fold_binary (Option Ty) (ty_step db) o a b

  pub ty_slice : (a b d : Expr) → ty_of db (expr.Slice a b d) ≡ typed_if (is_of Buf (ty_of db a) && (is_of Num (ty_of db b) && is_of Num (ty_of db d))) Buf
  ty_slice a b d = fold_slice (Option Ty) (ty_step db) a b d

  pub ty_to_number : (a : Expr) → ty_of db (expr.ToNumber a) ≡ typed_if (is_of Buf (ty_of db a)) Num
  ty_to_number a = fold_to_number (Option Ty) (ty_step db) a

  pub ty_length_of : (a : Expr) → ty_of db (expr.LengthOf a) ≡ typed_if (is_of Buf (ty_of db a)) Num
  ty_length_of a = fold_length_of (Option Ty) (ty_step db) a

  pub ty_to_bytes : (a : Expr) (size : ℕ) → ty_of db (expr.ToBytes a size) ≡ typed_if (is_of Num (ty_of db a) && is_between 1 MOST_NUMBER_BYTES size) Buf
  ty_to_bytes a size = fold_to_bytes (Option Ty) (ty_step db) a size

  pub ty_has_text : (a : Expr) (text : List ℕ) → ty_of db (expr.HasText a text) ≡ typed_if (is_of Buf (ty_of db a)) Num
  ty_has_text a text = fold_has_text (Option Ty) (ty_step db) a text

  pub ty_look_up : (table : Text) (renew : Bool) (ks : List Expr) → ty_of db (expr.LookUp table renew ks) ≡ typed_if (list_all (is_of Buf) (map (ty_of db) ks)) Num
  ty_look_up table renew ks = fold_look_up (Option Ty) (ty_step db) table renew ks

-- what is said of an expression of a form, by an equation of its parts
pub told : {B : Type 0} (f : Expr → B) (x y : Expr) (v r : B) → x ≡ y → f y ≡ v → r ≡ v → r ≡ f x
told f x y v r e h p = p ∙ sym (ap f e ∙ h)

-- what is said of a part
pub of_part : {B : Type 0} (f : Expr → B) {a b : Expr} {r : B} → r ≡ f a → a ≡ b → r ≡ f b
of_part f h e = h ∙ ap f e

pub or_of : {r p q a b : Bool} → r ≡ (p || q) → p ≡ a → q ≡ b → r ≡ (a || b)
or_of h x y = h ∙ (λ i. x i || y i)

pub and_of : {r p q a b : Bool} → r ≡ (p && q) → p ≡ a → q ≡ b → r ≡ (a && b)
and_of h x y = h ∙ (λ i. x i && y i)

-- a test of a part's type, and the type where a test holds
pub test_of : (ty : Ty) {r : Bool} {p q : Option Ty} → r ≡ is_of ty p → p ≡ q → r ≡ is_of ty q
test_of ty h e = h ∙ ap (is_of ty) e

pub typed_of : (ty : Ty) {r : Option Ty} {p q : Bool} → r ≡ typed_if p ty → p ≡ q → r ≡ typed_if q ty
typed_of ty h e = h ∙ ap (λ b. typed_if b ty) e
