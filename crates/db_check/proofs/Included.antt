-- The names of the blocks that are included in an element, by its parts.
use Rattle.std.specs.Prelude.{◌≡◌, ℕ, List, [], ◌∷◌, ◌++◌, map, Option, Some, None}
use Rattle.std.specs.Option.{option_map}
use Rattle.std.proofs.Common.{refl, ap, sym, ◌∙◌, append_assoc}
use Rattle.std.proofs.lemmas.List.{map-append}
use Rattle.db_model.specs.declared.element.Branch.{Branch}
use Rattle.db_model.specs.declared.element.Case.{Case}
use Rattle.db_model.specs.declared.element.Element as element
use Rattle.db_model.specs.declared.element.Element.{Element}
use Rattle.db_model.specs.declared.element.LoopKind.{LoopKind}
use Rattle.db_model.specs.declared.expression.Expr.{Expr}
use Rattle.db_model.specs.BlockFaults.{includes_step, includes_of, includes_in}
use Rattle.db_model.specs.Names.{Text, place}
use Rattle.db_model.specs.Numbering.{all_names, case_names, branch_names}
use Rattle.db_model.proofs.Layers.{fold_list, fold_case, fold_branch, fold_case_list, fold_other}
use Rattle.db_check.specs.Graph.{numbers, includes_of_cases, includes_of_other}

pub includes_block : (line : ℕ) (name : Text) (longname : Option (List ℕ)) (body : List Element) → includes_of (element.Block line name longname body) ≡ includes_in body
includes_block line name longname body = ap all_names (fold_list (List Text) includes_step body)

pub includes_loop : (line : ℕ) (kind : LoopKind) (e : Expr) (body : List Element) → includes_of (element.Loop line kind e body) ≡ includes_in body
includes_loop line kind e body = ap all_names (fold_list (List Text) includes_step body)

cases_are : (cs : List Case) → case_names (map (fold_case (List Text) includes_step) cs) ≡ includes_of_cases cs
cases_are [] = refl
cases_are (c ∷ cs) = ap (λ l. includes_in c.body ++ l) (cases_are cs)

other_is : (b : Option Branch) → branch_names (option_map (fold_branch (List Text) includes_step) b) ≡ includes_of_other b
other_is None = refl
other_is (Some b) = refl

pub includes_switch : (line : ℕ) (e : Expr) (cs : List Case) (other : Option Branch) → includes_of (element.Switch line e cs other) ≡ includes_of_cases cs ++ includes_of_other other
includes_switch line e cs other = (λ i. case_names (fold_case_list (List Text) includes_step cs i) ++ branch_names (fold_other (List Text) includes_step other i)) ∙ (λ i. cases_are cs i ++ other_is other i)

pub includes_if : (line : ℕ) (e : Expr) (true_line : ℕ) (so : List Element) (other : Option Branch) → includes_of (element.If line e true_line so other) ≡ includes_in so ++ includes_of_other other
includes_if line e true_line so other = (λ i. all_names (fold_list (List Text) includes_step so i) ++ branch_names (fold_other (List Text) includes_step other i)) ∙ ap (λ l. includes_in so ++ l) (other_is other)

-- those of an element that is another
pub includes_are : (x y : Element) (l : List Text) → x ≡ y → includes_of y ≡ l → l ≡ includes_of x
includes_are x y l e h = sym (ap includes_of e ∙ h)

-- two lists behind what was there
pub both_behind : (names : List Text) (have more : List ℕ) (a b l : List Text) → more ≡ have ++ numbers names a → a ++ b ≡ l → more ++ numbers names b ≡ have ++ numbers names l
both_behind names have more a b l e h =
    ap (λ m. m ++ numbers names b) e
    ∙ (append_assoc have (numbers names a) (numbers names b)
    ∙ ap (λ m. have ++ m) (sym (map-append (λ (n : Text). place n names) a b) ∙ ap (numbers names) h))
