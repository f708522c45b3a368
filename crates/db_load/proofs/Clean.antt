-- What it says of an element that no fault stands at it or in it.
use Rattle.std.specs.Prelude.{◌≡◌, ℕ, ◌-◌, ◌+◌, ◌==◌, Bool, true, false, bytes_eq, if◌then◌else◌, List, [], ◌∷◌, ◌++◌, map, length, Option, Some, None}
use Rattle.std.specs.Cmp.Lexicographic.{bytes_decides}
use Rattle.std.specs.List.{list_all}
use Rattle.std.proofs.Common.{refl, ap, sym, subst, ◌∙◌, arith}
use Rattle.std.proofs.lemmas.Bool.{or_parts}
use Rattle.db_cause.specs.declared.cause.Cause.{Cause}
use Rattle.db_cause.specs.declared.cause.Cause.TheVariants as cause
use Rattle.db_model.specs.declared.fault.Fault.{Fault}
use Rattle.db_model.specs.Forms.{if_there}
use Rattle.db_model.specs.LeastFault.{comes_first, earlier, least}
use Rattle.db_model.specs.Names.{Text}
use Rattle.db_text.specs.declared.node.Node.{Node, out-Node}
use Rattle.db_load.specs.declared.kind.Kind.{Kind}
use Rattle.db_load.specs.declared.kind.Kind.TheVariants as kind
use Rattle.db_load.specs.declared.rule.Child.{Child}
use Rattle.db_load.specs.declared.word.Word.{Word}
use Rattle.db_load.specs.declared.word.Word.TheVariants as word
use Rattle.db_load.specs.Faults.{Part, part, own, of_attributes, of_place, at_line, is_astray, has_wrong_children, miscounts, is_counted, count_of, names_in, row_of, of_child, below, faults, of_top, refusal, most_levels}
use Rattle.db_load.specs.Meaning.{Meant, meant, named, first_named}
use Rattle.db_load.specs.Rules.{children}
use Rattle.db_load.specs.Whole.{is, each_of, one_of}
use Rattle.db_load.specs.Words.{spelled}
use Rattle.db_load.proofs.Means.{meant_name}
use Rattle.db_load.proofs.Parts.{part_name, part_inside}
use Rattle.db_load.proofs.Trees.{Each}
use Rattle.db_load.proofs.ValueForms.{both}

-- ---- no fault among lists of faults

pub nil_parts : {A : Type 0} (xs ys : List A) → xs ++ ys ≡ [] → (xs ≡ []) × (ys ≡ [])
nil_parts [] ys e = (refl, e)
nil_parts (x ∷ xs) ys e = (cc)

pub no_fault : (line : ℕ) (why : Cause) (b : Bool) → at_line line why b ≡ [] → b ≡ false
no_fault line why true e = (cc)
no_fault line why false e = refl

one_of_two : (b : Bool) (f g : Fault) → (if b then Some f else Some g) ≡ None → ⊥
one_of_two true f g e = (cc)
one_of_two false f g e = (cc)

earlier_some : (f : Fault) (o : Option Fault) → earlier (Some f) o ≡ None → ⊥
earlier_some f None e = (cc)
earlier_some f (Some g) e = one_of_two (comes_first f g) f g e

pub least_none : (fs : List Fault) → least fs ≡ None → fs ≡ []
least_none [] e = refl
least_none (f ∷ fs) e = absurd (earlier_some f (least fs) e)

-- ---- an element

pub record Clean (k : Kind) (left : ℕ) (n : Node) : Type 0 where
  pub attributes : of_attributes k (out-Node n).line (out-Node n).attributes ≡ []
  pub number : has_wrong_children k (names_in (out-Node n).children) ≡ false
  pub astray : is_astray k ≡ false
  pub inside : below (children k) (left - 1) (map part (out-Node n).children) ≡ []

pub clean : (k : Kind) (left : ℕ) (n : Node) → faults k left n ≡ [] → Clean k left n
unfolding of_place
clean k left n h =
    let own_and = nil_parts (own k left (out-Node n).line (out-Node n).attributes (names_in (out-Node n).children)) (below (children k) (left - 1) (map part (out-Node n).children)) (sym (part_inside n k left) ∙ h) in
    let of_both = nil_parts (of_attributes k (out-Node n).line (out-Node n).attributes) (of_place k left (out-Node n).line (names_in (out-Node n).children)) own_and.0 in
    let place = nil_parts (at_line (out-Node n).line cause.WrongChildren (has_wrong_children k (names_in (out-Node n).children))) _ of_both.1 in
    let deep = nil_parts (at_line (out-Node n).line cause.ElementTooDeep (left == 0)) (at_line (out-Node n).line cause.StrayLoopControl (is_astray k)) place.1 in
    record {
      attributes = of_both.0;
      number = no_fault (out-Node n).line cause.WrongChildren (has_wrong_children k (names_in (out-Node n).children)) place.0;
      astray = no_fault (out-Node n).line cause.StrayLoopControl (is_astray k) deep.1;
      inside = own_and.1;
    }

-- ---- what stands in it

abbrev pub kind_in : Option Child → Option Kind
kind_in None = None
kind_in (Some row) = Some row.kind

-- an element under a row of this kind has no fault as one
child_as : (o : Option Child) (k : Kind) (left : ℕ) (p : Part) → kind_in o ≡ Some k → of_child o left p ≡ [] → p.inside k left ≡ []
child_as None k left p e h = (cc)
child_as (Some row) k left p e h = let same : row.kind ≡ k = cc in subst (λ x. p.inside x left ≡ []) same h

-- an element without faults has a row
pub child_row : (o : Option Child) (left : ℕ) (p : Part) → of_child o left p ≡ [] → (row : Child) × (o ≡ Some row) × (p.inside row.kind left ≡ [])
child_row None left p h = (cc)
child_row (Some row) left p h = (row, refl, h)

pub first_below : (rows : List Child) (left : ℕ) (n : Node) (ns : List Node) → below rows left (map part (n ∷ ns)) ≡ [] → (of_child (row_of rows (out-Node n).name) left (part n) ≡ []) × (below rows left (map part ns) ≡ [])
first_below rows left n ns h =
    let p = nil_parts (of_child (row_of rows (part n).name) left (part n)) (below rows left (map part ns)) h in
    (ap (λ name. of_child (row_of rows name) left (part n)) (sym (part_name n)) ∙ p.0, p.1)

named_below : (rows : List Child) (w : Word) (k : Kind) (left : ℕ) (n : Node) (ns : List Node) → kind_in (row_of rows (spelled w)) ≡ Some k → is w n ≡ true → below rows left (map part (n ∷ ns)) ≡ [] → faults k left n ≡ []
named_below rows w k left n ns e h b =
    let same : (out-Node n).name ≡ spelled w = (bytes_decides (out-Node n).name (spelled w)).0 h in
    child_as (row_of rows (out-Node n).name) k left (part n) (ap (λ t. kind_in (row_of rows t)) same ∙ e) (first_below rows left n ns b).0

-- what holds of each element of a name that has no fault, holds of those that are read
module _ {A : Type 0} (rows : List Child) (w : Word) (k : Kind) (left : ℕ) (e : kind_in (row_of rows (spelled w)) ≡ Some k) (Q : Node → Type 0) (f : Node → A) (test : A → Bool) (good : (n : Node) → Q n → faults k left n ≡ [] → test (f n) ≡ true) where
  pub each_good : (ns : List Node) → Each Q ns → below rows left (map part ns) ≡ [] → list_all test (each_of w f ns) ≡ true
  each_good [] q b = refl
  each_good (n ∷ ns) q b = by (is w n) refl (each_good ns q.1 (first_below rows left n ns b).1)
    where
      by : (t : Bool) → is w n ≡ t → list_all test (each_of w f ns) ≡ true → list_all test (if t then f n ∷ each_of w f ns else each_of w f ns) ≡ true
      by true h r = both (good n q.0 (named_below rows w k left n ns e h b)) r
      by false h r = r

  pub one_good : (ns : List Node) → Each Q ns → below rows left (map part ns) ≡ [] → if_there test (one_of w f ns) ≡ true
  one_good [] q b = refl
  one_good (n ∷ ns) q b = by (is w n) refl (one_good ns q.1 (first_below rows left n ns b).1)
    where
      by : (t : Bool) → is w n ≡ t → if_there test (one_of w f ns) ≡ true → if_there test (if t then Some (f n) else one_of w f ns) ≡ true
      by true h r = good n q.0 (named_below rows w k left n ns e h b)
      by false h r = r

pub each_all : {A : Type 0} (w : Word) (f : Node → A) (test : A → Bool) → ((n : Node) → test (f n) ≡ true) → (ns : List Node) → list_all test (each_of w f ns) ≡ true
each_all w f test good [] = refl
each_all w f test good (n ∷ ns) = by (is w n) (each_all w f test good ns)
  where
    by : (t : Bool) → list_all test (each_of w f ns) ≡ true → list_all test (if t then f n ∷ each_of w f ns else each_of w f ns) ≡ true
    by true r = both (good n) r
    by false r = r

-- the same elements, from what they mean
pub named_each : {A : Type 0} (w : Word) (f : Meant → A) (ns : List Node) → named w f (map meant ns) ≡ each_of w (λ n. f (meant n)) ns
named_each w f [] = refl
named_each w f (n ∷ ns) =
    ap (λ t. if bytes_eq t (spelled w) then f (meant n) ∷ named w f (map meant ns) else named w f (map meant ns)) (meant_name n)
    ∙ ap (λ l. if is w n then f (meant n) ∷ l else l) (named_each w f ns)

pub first_one : {A : Type 0} (w : Word) (f : Meant → A) (ns : List Node) → first_named w f (map meant ns) ≡ one_of w (λ n. f (meant n)) ns
first_one w f [] = refl
first_one w f (n ∷ ns) =
    ap (λ t. if bytes_eq t (spelled w) then Some (f (meant n)) else first_named w f (map meant ns)) (meant_name n)
    ∙ ap (λ o. if is w n then Some (f (meant n)) else o) (first_one w f ns)

-- ---- numbers

pub count_each : {A : Type 0} (w : Word) (f : Node → A) (ns : List Node) → length (each_of w f ns) ≡ count_of (names_in ns) (spelled w)
count_each w f [] = refl
count_each w f (n ∷ ns) = by (is w n) (count_each w f ns)
  where
    by : (t : Bool) → length (each_of w f ns) ≡ count_of (names_in ns) (spelled w) → length (if t then f n ∷ each_of w f ns else each_of w f ns) ≡ (if t then 1 else 0) + count_of (names_in ns) (spelled w)
    by true h = omega arith
    by false h = omega arith

pub counted : (k : Kind) (names : List Text) → has_wrong_children k names ≡ false → miscounts names (children k) ≡ false
counted k names h = (or_parts (miscounts names (children k)) _ h).0

first_counted : (b rest : Bool) → (if b then rest else true) ≡ false → (b ≡ true) × (rest ≡ false)
first_counted true rest h = (refl, h)
first_counted false rest h = (cc)

pub row_counted : (names : List Text) (row : Child) (rows : List Child) → miscounts names (row ∷ rows) ≡ false → (is_counted names row ≡ true) × (miscounts names rows ≡ false)
row_counted names row rows h = first_counted (is_counted names row) (miscounts names rows) h

-- ---- the top element

top_by : (b : Bool) (p : Part) → (if b then p.inside kind.Netpdl most_levels else at_line p.line cause.MisplacedElement true) ≡ [] → p.inside kind.Netpdl most_levels ≡ []
top_by true p h = h
top_by false p h = (cc)

pub top_clean : (n : Node) → refusal n ≡ None → faults kind.Netpdl most_levels n ≡ []
unfolding refusal
top_clean n h = top_by (bytes_eq (part n).name (spelled word.Netpdl)) (part n) (least_none (of_top (part n)) h)
