-- Which answer there is.
use Rattle.std.specs.Prelude.{◌≡◌, true, false, if◌then◌else◌, List, Option, Some, None, Err}
use Rattle.std.specs.Option.{ok_or}
use Rattle.std.proofs.Common.{refl, sym, ap}
use Rattle.db_model.specs.declared.database.Database.{Database}
use Rattle.db_model.specs.declared.expression.Expr.{Expr}
use Rattle.db_model.specs.declared.expression.TypeFault.TheVariants.{Undeclared, Arity, Mistyped}
use Rattle.db_model.specs.declared.value.Ty.{Ty}
use Rattle.db_model.specs.Names.{Text}
use Rattle.db_model.specs.Typing.{type_of, has_undeclared, has_wrong_arity, ty_of, or_mistyped}

module _ (db : Database) (fields : List Text) (e : Expr) where
  pub undeclared_first : has_undeclared db fields e ≡ true → Err Undeclared ≡ type_of db fields e
  unfolding type_of
  undeclared_first u = sym (ap (λ b. if b then Err Undeclared else (if has_wrong_arity db e then Err Arity else or_mistyped (ty_of db e))) u)

  pub arity_next : has_undeclared db fields e ≡ false → has_wrong_arity db e ≡ true → Err Arity ≡ type_of db fields e
  unfolding type_of
  arity_next u w = sym (λ i. if u i then Err Undeclared else (if w i then Err Arity else or_mistyped (ty_of db e)))

  pub type_last : has_undeclared db fields e ≡ false → has_wrong_arity db e ≡ false → or_mistyped (ty_of db e) ≡ type_of db fields e
  unfolding type_of
  type_last u w = sym (λ i. if u i then Err Undeclared else (if w i then Err Arity else or_mistyped (ty_of db e)))

pub ok_or_is : (t : Option Ty) → ok_or t Mistyped ≡ or_mistyped t
ok_or_is None = refl
ok_or_is (Some ty) = refl
