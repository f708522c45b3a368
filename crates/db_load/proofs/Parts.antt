-- An element as the one around it sees it, from what it holds.
use Rattle.std.specs.Prelude.{◌≡◌, ℕ, ◌+◌, ◌-◌, ◌<◌, true, false, Bool, bytes_eq, if◌then◌else◌, List, [], ◌∷◌, ◌++◌, map, length, drop, get_or, Option, None}
use Rattle.std.proofs.Common.{refl, ap, sym, ◌∙◌, arith}
use Rattle.std.proofs.lemmas.Grind.{common_steps}
use Rattle.db_cause.specs.declared.cause.Cause.TheVariants as cause
use Rattle.db_model.specs.Names.{Text}
use Rattle.db_text.specs.declared.node.Node.{Node, out-Node, map-Node}
use Rattle.db_text.specs.declared.node.Node.TheFolds.{fold_out-Node}
use Rattle.db_model.specs.declared.fault.Fault.{Fault}
use Rattle.db_load.specs.declared.kind.Kind.{Kind}
use Rattle.db_load.specs.declared.kind.Kind.TheVariants as kind
use Rattle.db_load.specs.declared.word.Word.TheVariants as word
use Rattle.db_load.specs.Words.{spelled}
use Rattle.db_load.specs.declared.rule.Child.{Child}
use Rattle.db_model.specs.LeastFault.{earlier, least}
use Rattle.db_model.proofs.LeastFault.{earlier_assoc, least_append}
use Rattle.db_load.specs.Faults.{Part, part, part_step, own, of_attributes, of_place, below, names_in, of_child, row_of, at_line, faults, refusal, most_levels}
use Rattle.db_load.specs.Rules.{children}

-- one layer of it
pub part_out : (n : Node) → part n ≡ part_step (map-Node Node Part part (out-Node n))
unfolding part
part_out n = fold_out-Node Part part_step n

pub part_name : (n : Node) → (part n).name ≡ (out-Node n).name
part_name n = ap (λ (p : Part). p.name) (part_out n)

pub part_line : (n : Node) → (part n).line ≡ (out-Node n).line
part_line n = ap (λ (p : Part). p.line) (part_out n)

pub part_names : (ns : List Node) → map (λ (p : Part). p.name) (map part ns) ≡ names_in ns
part_names [] = refl
part_names (n ∷ ns) = ap (λ a. a ∷ map (λ (p : Part). p.name) (map part ns)) (part_name n) ∙ ap (λ l. (out-Node n).name ∷ l) (part_names ns)

pub part_inside : (n : Node) (k : Kind) (left : ℕ) → (part n).inside k left ≡ own k left (out-Node n).line (out-Node n).attributes (names_in (out-Node n).children) ++ below (children k) (left - 1) (map part (out-Node n).children)
part_inside n k left = ap (λ (p : Part). p.inside k left) (part_out n) ∙ ap (λ names. own k left (out-Node n).line (out-Node n).attributes names ++ below (children k) (left - 1) (map part (out-Node n).children)) (part_names (out-Node n).children)

pub first_left : (ns : List Node) (i : ℕ) (n : Node) → i < length ns → n ≡ get_or ns i n → drop i ns ≡ n ∷ drop (i + 1) ns
first_left ns i n = grind (arith, common_steps)

-- ---- the walk's steps

pub inside_is : (n : Node) (k : Kind) (left : ℕ) → earlier (earlier (least (of_attributes k (out-Node n).line (out-Node n).attributes)) (least (of_place k left (out-Node n).line (names_in (out-Node n).children)))) (least (below (children k) (left - 1) (map part (out-Node n).children))) ≡ least ((part n).inside k left)
inside_is n k left =
    ap (λ x. earlier x (least (below (children k) (left - 1) (map part (out-Node n).children)))) (sym (least_append (of_attributes k (out-Node n).line (out-Node n).attributes) (of_place k left (out-Node n).line (names_in (out-Node n).children))))
    ∙ (sym (least_append (own k left (out-Node n).line (out-Node n).attributes (names_in (out-Node n).children)) (below (children k) (left - 1) (map part (out-Node n).children)))
    ∙ ap least (sym (part_inside n k left)))

pub inside_from : (n : Node) (k : Kind) (left : ℕ) (r o a p b : Option Fault) (rows : List Child) (l : ℕ) (ns : List Node) → r ≡ earlier o b → o ≡ earlier a p → a ≡ least (of_attributes k (out-Node n).line (out-Node n).attributes) → p ≡ least (of_place k left (out-Node n).line (names_in (out-Node n).children)) → b ≡ least (below rows l (map part ns)) → rows ≡ children k → l ≡ left - 1 → ns ≡ (out-Node n).children → r ≡ least ((part n).inside k left)
inside_from n k left r o a p b rows l ns er eo ea ep eb erows el ens =
    er ∙ (ap (λ x. earlier x b) eo ∙ (ap (λ x. earlier (earlier x p) b) ea ∙ (ap (λ x. earlier (earlier (least (of_attributes k (out-Node n).line (out-Node n).attributes)) x) b) ep
    ∙ (ap (λ x. earlier (earlier (least (of_attributes k (out-Node n).line (out-Node n).attributes)) (least (of_place k left (out-Node n).line (names_in (out-Node n).children)))) x) (eb ∙ (ap (λ x. least (below x l (map part ns))) erows ∙ (ap (λ x. least (below (children k) x (map part ns))) el ∙ ap (λ x. least (below (children k) (left - 1) (map part x))) ens)))
    ∙ inside_is n k left))))

pub child_none : (n : Node) (left : ℕ) (row : Option Child) (r : Option Fault) → row ≡ None → r ≡ least (at_line (out-Node n).line cause.MisplacedElement true) → r ≡ least (of_child row left (part n))
child_none n left row r erow er = er ∙ (ap (λ l. least (at_line l cause.MisplacedElement true)) (sym (part_line n)) ∙ ap (λ x. least (of_child x left (part n))) (sym erow))

pub below_first : (rows : List Child) (left : ℕ) (n : Node) (ns : List Node) (row : Option Child) (name : Text) → name ≡ (out-Node n).name → row ≡ row_of rows name → least (below rows left (map part (n ∷ ns))) ≡ earlier (least (of_child row left (part n))) (least (below rows left (map part ns)))
below_first rows left n ns row name ename erow =
    least_append (of_child (row_of rows (part n).name) left (part n)) (below rows left (map part ns))
    ∙ ap (λ x. earlier (least (of_child x left (part n))) (least (below rows left (map part ns)))) (ap (row_of rows) (part_name n ∙ sym ename) ∙ sym erow)

pub below_step : (rows : List Child) (left : ℕ) (ns : List Node) (i : ℕ) (n : Node) (found f g w : Option Fault) (row : Option Child) (name : Text) → i < length ns → n ≡ get_or ns i n → name ≡ (out-Node n).name → row ≡ row_of rows name → f ≡ least (of_child row left (part n)) → g ≡ earlier found f → earlier found (least (below rows left (map part (drop i ns)))) ≡ w → earlier g (least (below rows left (map part (drop (i + 1) ns)))) ≡ w
below_step rows left ns i n found f g w row name hi en ename erow ef eg h =
    ap (λ x. earlier x (least (below rows left (map part (drop (i + 1) ns))))) (eg ∙ ap (earlier found) ef)
    ∙ (earlier_assoc found (least (of_child row left (part n))) (least (below rows left (map part (drop (i + 1) ns))))
    ∙ (ap (earlier found) (sym (ap (λ l. least (below rows left (map part l))) (first_left ns i n hi en) ∙ below_first rows left n (drop (i + 1) ns) row name ename erow))
    ∙ h))

-- ---- the top element

pub top_is : (n : Node) → bytes_eq (out-Node n).name (spelled word.Netpdl) ≡ true → least (faults kind.Netpdl most_levels n) ≡ refusal n
unfolding refusal
top_is n h = ap (λ (b : Bool). least (if b then faults kind.Netpdl most_levels n else at_line (part n).line cause.MisplacedElement true)) (sym (ap (λ t. bytes_eq t (spelled word.Netpdl)) (part_name n) ∙ h))

pub top_is_not : (n : Node) → bytes_eq (out-Node n).name (spelled word.Netpdl) ≡ false → least (at_line (out-Node n).line cause.MisplacedElement true) ≡ refusal n
unfolding refusal
top_is_not n h = ap (λ l. least (at_line l cause.MisplacedElement true)) (sym (part_line n)) ∙ ap (λ (b : Bool). least (if b then faults kind.Netpdl most_levels n else at_line (part n).line cause.MisplacedElement true)) (sym (ap (λ t. bytes_eq t (spelled word.Netpdl)) (part_name n) ∙ h))
