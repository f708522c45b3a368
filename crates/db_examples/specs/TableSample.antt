-- A database whose packets add to one table and look in it: an operation, a key and a value, of one byte each.
use Rattle.std.specs.Prelude.{ℕ, true, false, List, [], ◌∷◌, codes, Option, Some, None}
use Rattle.db_model.specs.declared.database.Database.{Database}
use Rattle.db_model.specs.declared.database.TableDecl.{TableDecl}
use Rattle.db_model.specs.declared.element.Element as element
use Rattle.db_model.specs.declared.element.Element.{Element}
use Rattle.db_model.specs.declared.element.LoopKind.TheVariants as kind
use Rattle.db_model.specs.declared.entry.Validity.{Validity}
use Rattle.db_model.specs.declared.entry.Validity.TheVariants.{Forever, MaxTime, UpdateOnHit, AddOnHit}
use Rattle.db_model.specs.declared.expression.Expr as expr
use Rattle.db_model.specs.declared.expression.Expr.{Expr}
use Rattle.db_model.specs.declared.value.Ty.TheVariants as ty
use Rattle.db_examples.specs.Samples.{fixed, case, branch, list, protocol, fields, named_block, database}

abbrev pub one_table : TableDecl
one_table = record {
  line = 2;
  name = codes "t";
  exact_entries = 2;
  mask_entries = 1;
  keys = record { line = 2; name = codes "k"; size = 1 } ∷ [];
  columns = record { line = 2; name = codes "d"; ty = ty.Buf; size = Some 1 } ∷ [];
}

-- block `hit` where the expression isn't 0, else block `miss`
abbrev pub show_answer : ℕ → Expr → Element
show_answer line e = element.If line e line (element.IncludeBlock line (codes "hit") ∷ []) (Some (branch line (element.IncludeBlock line (codes "miss") ∷ [])))

abbrev pub look_up : Expr
look_up = expr.LookUp (codes "t") false (expr.Field (codes "k") ∷ [])

abbrev pub renewing_look_up : Expr
renewing_look_up = expr.LookUp (codes "t") true (expr.Field (codes "k") ∷ [])

abbrev pub add_entry : ℕ → Validity → Option ℕ → Option ℕ → Option (List ℕ) → Element
add_entry line validity keep hit mask = element.Update line (codes "t") validity keep hit (record { line = line; value = expr.Field (codes "k"); mask = mask } ∷ []) (record { line = line; value = expr.Field (codes "v") } ∷ [])

abbrev pub operations : Element
operations = element.Switch 6 (expr.ToNumber (expr.Field (codes "o")))
    (case 7 1 (add_entry 7 Forever None None None ∷ [])
    ∷ case 8 2 (add_entry 8 MaxTime (Some 5) None None ∷ [])
    ∷ case 9 3 (add_entry 9 UpdateOnHit (Some 5) (Some 3) None ∷ [])
    ∷ case 10 4 (show_answer 10 look_up ∷ [])
    ∷ case 11 5 (show_answer 11 renewing_look_up ∷ [])
    ∷ case 12 6 (add_entry 12 AddOnHit None (Some 3) (Some (0xf0 ∷ [])) ∷ [])
    ∷ case 13 7 (show_answer 13 (expr.And (expr.Number 0) renewing_look_up) ∷ [])
    ∷ case 14 8 (element.Loop 14 kind.While (expr.Number 1) [] ∷ [])
    ∷ case 15 9 (add_entry 15 MaxTime (Some 5) None None ∷ show_answer 15 look_up ∷ [])
    ∷ [])
    None

unfoldable pub table_db : Database
table_db = record (database
    (protocol 3 (codes "startproto") None None (list 3 (element.NextProto 3 (expr.Protocol (codes "op")) ∷ []))
    ∷ protocol 4 (codes "op") None
    (fields 4 (fixed 5 (codes "o") 1 ∷ fixed 5 (codes "k") 1 ∷ fixed 5 (codes "v") 1 ∷ operations ∷ []) (named_block 16 (codes "hit") [] ∷ named_block 16 (codes "miss") [] ∷ []))
    None
    ∷ [])) { tables = one_table ∷ [] }
