-- What stands in an element, as rows.
use Rattle.std.specs.Prelude.{◌≡◌, ℕ, ◌+◌, ◌-◌, ◌<◌, length, take, drop, get_or, List, [], ◌∷◌, ◌++◌, map, Option, Some, None}
use Rattle.std.specs.Option.{option_map}
use Rattle.std.proofs.Common.{refl, ap, sym, ◌∙◌, arith, length-drop}
use Rattle.std.proofs.lemmas.List.{at_drop_more, take_all}
use Rattle.db_cause.specs.declared.cause.Cause.TheVariants as cause
use Rattle.db_model.specs.declared.element.Branch.{Branch}
use Rattle.db_model.specs.declared.element.Case.{Case}
use Rattle.db_model.specs.declared.element.Element as element
use Rattle.db_model.specs.declared.element.Element.{Element}
use Rattle.db_model.specs.declared.element.LoopKind.{LoopKind}
use Rattle.db_model.specs.declared.expression.Expr.{Expr}
use Rattle.db_model.specs.declared.fault.Fault.{Fault}
use Rattle.db_model.specs.Folds.{CaseOf, BranchOf}
use Rattle.db_model.specs.LeastFault.{earlier}
use Rattle.db_model.specs.Lines.{Lines, over, over_option, at_line}
use Rattle.db_model.specs.Names.{Text}
use Rattle.db_model.specs.NumberFaults.{InRow, in_row, row_44, list_44, is_unfollowed}
use Rattle.db_model.proofs.LeastFault.{earlier_assoc}
use Rattle.db_model.proofs.Layers.{fold_list, fold_case, fold_branch, fold_case_list, fold_other}
use Rattle.db_check.specs.First.{first}
use Rattle.db_check.specs.Rows.{in_row_of, rows_of_cases, rows_of_other}
use Rattle.db_check.proofs.FirstFault.{first_append}

pub within_block : (line : ℕ) (name : Text) (longname : Option (List ℕ)) (body : List Element) → (in_row_of (element.Block line name longname body)).within ≡ list_44 body
within_block line name longname body = ap row_44 (fold_list InRow in_row body)

pub within_loop : (line : ℕ) (kind : LoopKind) (e : Expr) (body : List Element) → (in_row_of (element.Loop line kind e body)).within ≡ list_44 body
within_loop line kind e body = ap row_44 (fold_list InRow in_row body)

cases_are : (cs : List Case) → over (λ (c : CaseOf InRow). row_44 c.body) (map (fold_case InRow in_row) cs) ≡ rows_of_cases cs
cases_are [] = refl
cases_are (c ∷ cs) = ap (λ l. list_44 c.body ++ l) (cases_are cs)

other_is : (b : Option Branch) → over_option (λ (b : BranchOf InRow). row_44 b.body) (option_map (fold_branch InRow in_row) b) ≡ rows_of_other b
other_is None = refl
other_is (Some b) = refl

pub within_switch : (line : ℕ) (e : Expr) (cs : List Case) (other : Option Branch) → (in_row_of (element.Switch line e cs other)).within ≡ rows_of_cases cs ++ rows_of_other other
within_switch line e cs other = (λ i. over (λ (c : CaseOf InRow). row_44 c.body) (fold_case_list InRow in_row cs i) ++ over_option (λ (b : BranchOf InRow). row_44 b.body) (fold_other InRow in_row other i)) ∙ (λ i. cases_are cs i ++ other_is other i)

pub within_if : (line : ℕ) (e : Expr) (true_line : ℕ) (so : List Element) (other : Option Branch) → (in_row_of (element.If line e true_line so other)).within ≡ list_44 so ++ rows_of_other other
within_if line e true_line so other = (λ i. row_44 (fold_list InRow in_row so i) ++ over_option (λ (b : BranchOf InRow). row_44 b.body) (fold_other InRow in_row other i)) ∙ ap (λ l. list_44 so ++ l) (other_is other)

-- the first fault of one row and then of others
pub rows_append : (xs ys : Lines) → first cause.UnfollowedBits (xs ++ ys) ≡ earlier (first cause.UnfollowedBits xs) (first cause.UnfollowedBits ys)
rows_append xs ys = first_append cause.UnfollowedBits xs ys

-- the element at a place of a row, in front of those behind it
pub row_next : (xs : List Element) (i : ℕ) (x : Element) (behind : List Element) (found own inner one next whole : Option Fault) → i < length xs → x ≡ get_or xs i x → behind ≡ drop (i + 1) xs
    → own ≡ first cause.UnfollowedBits (at_line (in_row_of x).line (is_unfollowed (in_row_of x).bit (map in_row_of behind))) → inner ≡ first cause.UnfollowedBits (in_row_of x).within → one ≡ earlier own inner → next ≡ earlier found one
    → earlier found (first cause.UnfollowedBits (list_44 (drop i xs))) ≡ whole → earlier next (first cause.UnfollowedBits (list_44 (drop (i + 1) xs))) ≡ whole
row_next xs i x behind found own inner one next whole l g b o w e n h =
    let rest : List Element = drop (i + 1) xs in
    let here : Lines = at_line (in_row_of x).line (is_unfollowed (in_row_of x).bit (map in_row_of rest)) in
    let own_is : own ≡ first cause.UnfollowedBits here = o ∙ ap (λ (l : List Element). first cause.UnfollowedBits (at_line (in_row_of x).line (is_unfollowed (in_row_of x).bit (map in_row_of l)))) b in
    let left : list_44 (drop i xs) ≡ here ++ ((in_row_of x).within ++ list_44 rest) = at_drop_more list_44 xs i x l ∙ ap (λ (y : Element). list_44 (y ∷ rest)) (sym g) in
    let both : first cause.UnfollowedBits (list_44 (drop i xs)) ≡ earlier one (first cause.UnfollowedBits (list_44 rest)) =
    ap (first cause.UnfollowedBits) left
    ∙ (first_append cause.UnfollowedBits here ((in_row_of x).within ++ list_44 rest)
    ∙ (ap (earlier (first cause.UnfollowedBits here)) (first_append cause.UnfollowedBits (in_row_of x).within (list_44 rest))
    ∙ (sym (earlier_assoc (first cause.UnfollowedBits here) (first cause.UnfollowedBits (in_row_of x).within) (first cause.UnfollowedBits (list_44 rest)))
    ∙ ap (λ a. earlier a (first cause.UnfollowedBits (list_44 rest))) ((λ j. earlier (sym own_is j) (sym w j)) ∙ sym e)))) in
    ap (λ a. earlier a (first cause.UnfollowedBits (list_44 rest))) n
    ∙ (earlier_assoc found one (first cause.UnfollowedBits (list_44 rest))
    ∙ (ap (earlier found) (sym both) ∙ h))

-- what is behind a place
pub behind_is : (xs : List Element) (k : ℕ) → take (length xs - k) (drop k xs) ≡ drop k xs
behind_is xs k = take_all (length xs - k) (drop k xs) (omega (arith, length-drop k xs))
