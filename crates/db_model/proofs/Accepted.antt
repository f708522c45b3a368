-- In a database without an objection none of the eight faults stands.
use Rattle.std.specs.Prelude.{◌≡◌, ℕ, ◌≤◌, Bool, true, false, if◌then◌else◌, List, [], ◌∷◌, ◌++◌, map, length, drop, Option, Some, None}
use Rattle.std.proofs.Common.{refl, ap, arith, length-drop}
use Rattle.std.proofs.lemmas.List.{length-map}
use Rattle.db_model.specs.declared.database.Protocol.{Protocol}
use Rattle.db_model.specs.declared.database.TableDecl.{TableDecl}
use Rattle.db_model.specs.declared.database.VarDecl.{VarDecl}
use Rattle.db_model.specs.declared.limits.TheConstants.{MOST_PROTOCOLS, MOST_VARIABLES, MOST_TABLES, MOST_SHOW_TEMPLATES, MOST_SUM_TEMPLATES}
use Rattle.db_model.specs.declared.database.Database.{Database}
use Rattle.db_model.specs.declared.fault.Fault.{Fault}
use Rattle.db_model.specs.BlockFaults.{fault_45, fault_46}
use Rattle.db_model.specs.Lines.{Lines, over, lines_in}
use Rattle.db_model.specs.NameFaults.{fault_40, fault_41}
use Rattle.db_model.specs.NumberFaults.{own_43, tables_43, template_43, first_line, too_many, fault_43, fault_44}
use Rattle.db_model.specs.LeastFault.{comes_first, earlier, least}
use Rattle.db_model.specs.Objection.{coded, faults, objection}
use Rattle.db_model.specs.TypeFaults.{fault_42, fault_47}

pub append_front : {A : Type 0} (xs ys : List A) → xs ++ ys ≡ [] → xs ≡ []
append_front [] ys e = refl
append_front (x ∷ xs) ys e = (cc)

pub append_back : {A : Type 0} (xs ys : List A) → xs ++ ys ≡ [] → ys ≡ []
append_back [] ys e = e
append_back (x ∷ xs) ys e = (cc)

one_of_two : (b : Bool) (f g : Fault) → (if b then Some f else Some g) ≡ None → ⊥
one_of_two true f g e = (cc)
one_of_two false f g e = (cc)

earlier_some : (f : Fault) (o : Option Fault) → earlier (Some f) o ≡ None → ⊥
earlier_some f None e = (cc)
earlier_some f (Some g) e = one_of_two (comes_first f g) f g e

least_none : (fs : List Fault) → least fs ≡ None → fs ≡ []
least_none [] e = refl
least_none (f ∷ fs) e = absurd (earlier_some f (least fs) e)

coded_none : (code : ℕ) (ls : Lines) → coded code ls ≡ [] → ls ≡ []
coded_none code [] e = refl
coded_none code (l ∷ ls) e = (cc)

pub record NoFaults (db : Database) : Type 0 where
  pub none_40 : fault_40 db ≡ []
  pub none_41 : fault_41 db ≡ []
  pub none_42 : fault_42 db ≡ []
  pub none_43 : fault_43 db ≡ []
  pub none_44 : fault_44 db ≡ []
  pub none_45 : fault_45 db ≡ []
  pub none_46 : fault_46 db ≡ []
  pub none_47 : fault_47 db ≡ []

pub no_faults : (db : Database) → objection db ≡ None → NoFaults db
unfolding objection faults
no_faults db e =
    let l47 : List Fault = coded 47 (fault_47 db) in
    let l46 : List Fault = coded 46 (fault_46 db) ++ l47 in
    let l45 : List Fault = coded 45 (fault_45 db) ++ l46 in
    let l44 : List Fault = coded 44 (fault_44 db) ++ l45 in
    let l43 : List Fault = coded 43 (fault_43 db) ++ l44 in
    let l42 : List Fault = coded 42 (fault_42 db) ++ l43 in
    let l41 : List Fault = coded 41 (fault_41 db) ++ l42 in
    let e40 = least_none (faults db) e in
    let e41 : l41 ≡ [] = append_back (coded 40 (fault_40 db)) l41 e40 in
    let e42 : l42 ≡ [] = append_back (coded 41 (fault_41 db)) l42 e41 in
    let e43 : l43 ≡ [] = append_back (coded 42 (fault_42 db)) l43 e42 in
    let e44 : l44 ≡ [] = append_back (coded 43 (fault_43 db)) l44 e43 in
    let e45 : l45 ≡ [] = append_back (coded 44 (fault_44 db)) l45 e44 in
    let e46 : l46 ≡ [] = append_back (coded 45 (fault_45 db)) l46 e45 in
    let e47 : l47 ≡ [] = append_back (coded 46 (fault_46 db)) l47 e46 in
    record {
      none_40 = coded_none 40 (fault_40 db) (append_front (coded 40 (fault_40 db)) l41 e40);
      none_41 = coded_none 41 (fault_41 db) (append_front (coded 41 (fault_41 db)) l42 e41);
      none_42 = coded_none 42 (fault_42 db) (append_front (coded 42 (fault_42 db)) l43 e42);
      none_43 = coded_none 43 (fault_43 db) (append_front (coded 43 (fault_43 db)) l44 e43);
      none_44 = coded_none 44 (fault_44 db) (append_front (coded 44 (fault_44 db)) l45 e44);
      none_45 = coded_none 45 (fault_45 db) (append_front (coded 45 (fault_45 db)) l46 e45);
      none_46 = coded_none 46 (fault_46 db) (append_front (coded 46 (fault_46 db)) l47 e46);
      none_47 = coded_none 47 (fault_47 db) e47;
    }

-- ---- how many are declared

first_none : (ls : Lines) → first_line ls ≡ [] → ls ≡ []
first_none [] e = refl
first_none (l ∷ ls) e = (cc)

few : (most : ℕ) (ls : Lines) → too_many most ls ≡ [] → length ls ≤ most
few most ls e = let d = ap length (first_none (drop most ls) e) in omega (arith, length-drop most ls)

pub record Few (db : Database) : Type 0 where
  pub protocols : length db.protocols ≤ MOST_PROTOCOLS
  pub variables : length db.variables ≤ MOST_VARIABLES
  pub tables : length db.tables ≤ MOST_TABLES

-- a database without an objection declares no more than it may
pub few_declared : (db : Database) → objection db ≡ None → Few db
unfolding fault_43
few_declared db e =
    let t : Lines = too_many MOST_TABLES (map (λ d. d.line) db.tables) ++ (too_many MOST_SHOW_TEMPLATES (map (λ d. d.line) db.show_templates) ++ too_many MOST_SUM_TEMPLATES (map (λ d. d.line) db.sum_templates)) in
    let v : Lines = too_many MOST_VARIABLES (map (λ d. d.line) db.variables) ++ t in
    let p : Lines = too_many MOST_PROTOCOLS (map (λ d. d.line) db.protocols) ++ v in
    let rest : Lines = over (lines_in own_43) db.protocols ++ p in
    let shown : Lines = over template_43 db.show_templates ++ rest in
    let e1 = append_back (tables_43 0 db.tables) shown (no_faults db e).none_43 in
    let e2 = append_back (over template_43 db.show_templates) rest e1 in
    let e3 : p ≡ [] = append_back (over (lines_in own_43) db.protocols) p e2 in
    let e4 : v ≡ [] = append_back (too_many MOST_PROTOCOLS (map (λ d. d.line) db.protocols)) v e3 in
    let e5 : t ≡ [] = append_back (too_many MOST_VARIABLES (map (λ d. d.line) db.variables)) t e4 in
    record {
      protocols = omega (arith, few MOST_PROTOCOLS (map (λ d. d.line) db.protocols) (append_front (too_many MOST_PROTOCOLS (map (λ d. d.line) db.protocols)) v e3), length-map db.protocols (λ (d : Protocol). d.line));
      variables = omega (arith, few MOST_VARIABLES (map (λ d. d.line) db.variables) (append_front (too_many MOST_VARIABLES (map (λ d. d.line) db.variables)) t e4), length-map db.variables (λ (d : VarDecl). d.line));
      tables = omega (arith, few MOST_TABLES (map (λ d. d.line) db.tables) (append_front (too_many MOST_TABLES (map (λ d. d.line) db.tables)) (too_many MOST_SHOW_TEMPLATES (map (λ d. d.line) db.show_templates) ++ too_many MOST_SUM_TEMPLATES (map (λ d. d.line) db.sum_templates)) e5), length-map db.tables (λ (d : TableDecl). d.line));
    }
