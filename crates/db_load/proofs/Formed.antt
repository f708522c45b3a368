-- In a tree without faults each value has its form.
use Rattle.std.specs.Prelude.{◌≡◌, ℕ, zero, suc, ◌-◌, Bool, true, false, not, ◌&&◌, ◌||◌, bytes_eq, if◌then◌else◌, List, [], ◌∷◌, ◌++◌, map, slice_get, Option, Some, None}
use Rattle.std.proofs.Common.{refl, ap, sym, subst, ◌∙◌}
use Rattle.std.proofs.lemmas.Bool.{or_parts}
use Rattle.db_cause.specs.declared.cause.Cause.TheVariants as cause
use Rattle.db_model.specs.Names.{Text}
use Rattle.db_text.specs.declared.node.Attribute.{Attribute}
use Rattle.db_text.specs.declared.node.Node.{Node, out-Node}
use Rattle.db_load.specs.declared.kind.Kind.{Kind}
use Rattle.db_load.specs.declared.rule.Child.{Child}
use Rattle.db_load.specs.declared.rule.Rule.{Rule}
use Rattle.db_load.specs.Faults.{value_of, has_attribute, has_rule, has_stray, lacks, breaks, same, has_malformed, decided, is_wanted, is_judged, row_of, at_line, of_attributes, part, of_child, below, faults, refusal, most_levels}
use Rattle.db_load.specs.Forms.{has_form, is_parsed}
use Rattle.db_load.specs.Laws.{Within, whole, inside, Obeys, EachHasRow, EachHasRule, EachValueFormed}
use Rattle.db_load.specs.Rules.{rules, children}
use Rattle.db_load.specs.Words.{spelled}
use Rattle.db_load.proofs.Clean.{clean, nil_parts, no_fault, child_row, first_below, top_clean}

-- ---- what isn't so of any, isn't so of one

unless_true : (b c : Bool) → (if b then true else c) ≡ false → (b ≡ false) × (c ≡ false)
unless_true true c h = (cc)
unless_true false c h = (refl, h)

from_not : (b : Bool) → not b ≡ false → b ≡ true
from_not true h = refl
from_not false h = (cc)

no_stray : (d : Option Text) (rs : List Rule) (before more : List Attribute) → has_stray d rs before more ≡ false → (i : ℕ) (a : Attribute) → slice_get more i ≡ Some a → has_rule d rs a.name ≡ true
no_stray d rs before [] h i a e = (cc)
no_stray d rs before (b ∷ more) h zero a e =
    let p = unless_true (not (has_rule d rs b.name) || has_attribute before b.name) (has_stray d rs (before ++ b ∷ []) more) h in
    let q = or_parts (not (has_rule d rs b.name)) (has_attribute before b.name) p.0 in
    let is : b ≡ a = cc in
    subst (λ x. has_rule d rs x.name ≡ true) is (from_not (has_rule d rs b.name) q.0)
no_stray d rs before (b ∷ more) h (suc i) a e =
    let p = unless_true (not (has_rule d rs b.name) || has_attribute before b.name) (has_stray d rs (before ++ b ∷ []) more) h in
    no_stray d rs (before ++ b ∷ []) more p.1 i a e

abbrev misses : Option Text → List Attribute → Rule → Bool
misses d attributes r = is_wanted d r.need && not (has_attribute attributes (spelled r.word))

none_lacks : (d : Option Text) (attributes : List Attribute) (rs : List Rule) → lacks d attributes rs ≡ false → (i : ℕ) (r : Rule) → slice_get rs i ≡ Some r → misses d attributes r ≡ false
none_lacks d attributes [] h i r e = (cc)
none_lacks d attributes (s ∷ rs) h zero r e =
    let is : s ≡ r = cc in
    subst (λ x. misses d attributes x ≡ false) is (unless_true (misses d attributes s) (lacks d attributes rs) h).0
none_lacks d attributes (s ∷ rs) h (suc i) r e = none_lacks d attributes rs (unless_true (misses d attributes s) (lacks d attributes rs) h).1 i r e

either : (P : Bool → Type 0) → P true → P false → (b : Bool) → P b
either P x y true = x
either P x y false = y

abbrev spoils : Bool → Option Text → Attribute → Rule → Bool
spoils parsed d a r = is_judged d r.need && (bytes_eq a.name (spelled r.word) && (same (is_parsed r.form) parsed && not (has_form r.form a.value)))

none_breaks : (parsed : Bool) (d : Option Text) (a : Attribute) (rs : List Rule) → breaks parsed d rs a ≡ false → (i : ℕ) (r : Rule) → slice_get rs i ≡ Some r → spoils parsed d a r ≡ false
none_breaks parsed d a [] h i r e = (cc)
none_breaks parsed d a (s ∷ rs) h zero r e =
    let is : s ≡ r = cc in
    subst (λ x. spoils parsed d a x ≡ false) is (unless_true (spoils parsed d a s) (breaks parsed d rs a) h).0
none_breaks parsed d a (s ∷ rs) h (suc i) r e = none_breaks parsed d a rs (unless_true (spoils parsed d a s) (breaks parsed d rs a) h).1 i r e

-- ---- a value

-- a name without a value is that of no attribute
no_value : (attributes : List Attribute) (name : Text) → value_of attributes name ≡ None → has_attribute attributes name ≡ false
no_value [] name e = refl
no_value (a ∷ more) name e = by (bytes_eq a.name name) e (λ h. no_value more name h)
  where
    by : (b : Bool) → (if b then Some a.value else value_of more name) ≡ None → (value_of more name ≡ None → has_attribute more name ≡ false) → (if b then true else has_attribute more name) ≡ false
    by true e r = (cc)
    by false e r = r e

-- an attribute of a name and a value which breaks no rule
record Holds (parsed : Bool) (d : Option Text) (rs : List Rule) (name value : Text) : Type 0 where
  attribute : Attribute
  named : bytes_eq attribute.name name ≡ true
  valued : attribute.value ≡ value
  keeps : breaks parsed d rs attribute ≡ false

holder : (parsed : Bool) (d : Option Text) (rs : List Rule) (attributes : List Attribute) (name value : Text) → has_malformed parsed d rs attributes ≡ false → value_of attributes name ≡ Some value → Holds parsed d rs name value
holder parsed d rs [] name value h e = (cc)
holder parsed d rs (a ∷ more) name value h e =
    let p = unless_true (breaks parsed d rs a) (has_malformed parsed d rs more) h in
    by (bytes_eq a.name name) refl e p.0 (λ x. holder parsed d rs more name value p.1 x)
  where
    by : (b : Bool) → bytes_eq a.name name ≡ b → (if b then Some a.value else value_of more name) ≡ Some value → breaks parsed d rs a ≡ false → (value_of more name ≡ Some value → Holds parsed d rs name value) → Holds parsed d rs name value
    by true q x k rest = record { attribute = a; named = q; valued = (let v : a.value ≡ value = cc in v); keeps = k }
    by false q x k rest = rest x

unwanted : (w h : Bool) → (w && not h) ≡ false → h ≡ false → w ≡ false
unwanted true true e h = h
unwanted true false e h = e
unwanted false b e h = refl

same_self : (b : Bool) → same b b ≡ true
same_self true = refl
same_self false = refl

form_kept : (j n s f : Bool) → (j && (n && (s && not f))) ≡ false → j ≡ true → n ≡ true → s ≡ true → f ≡ true
form_kept true true true true h a b c = refl
form_kept true true true false h a b c = (cc)
form_kept true true false f h a b c = (cc)
form_kept true false s f h a b c = (cc)
form_kept false n s f h a b c = (cc)

module _ (d : Option Text) (attributes : List Attribute) (rs : List Rule) (none : lacks d attributes rs ≡ false) (formed : (parsed : Bool) → has_malformed parsed d rs attributes ≡ false) where
  obeys : (i : ℕ) (r : Rule) → slice_get rs i ≡ Some r → is_judged d r.need ≡ true → (o : Option Text) → value_of attributes (spelled r.word) ≡ o → Obeys d r o
  obeys i r e j None v = unwanted (is_wanted d r.need) (has_attribute attributes (spelled r.word)) (none_lacks d attributes rs none i r e) (no_value attributes (spelled r.word) v)
  obeys i r e j (Some t) v =
      let x = holder (is_parsed r.form) d rs attributes (spelled r.word) t (formed (is_parsed r.form)) v in
      let kept = form_kept (is_judged d r.need) (bytes_eq x.attribute.name (spelled r.word)) (same (is_parsed r.form) (is_parsed r.form)) (has_form r.form x.attribute.value) (none_breaks (is_parsed r.form) d x.attribute rs x.keeps i r e) j x.named (same_self (is_parsed r.form)) in
      subst (λ y. has_form r.form y ≡ true) x.valued kept

-- ---- an element

record Kept (k : Kind) (attributes : List Attribute) : Type 0 where
  strays : has_stray (decided k attributes) (rules k) [] attributes ≡ false
  none : lacks (decided k attributes) attributes (rules k) ≡ false
  formed : (parsed : Bool) → has_malformed parsed (decided k attributes) (rules k) attributes ≡ false

kept : (k : Kind) (line : ℕ) (attributes : List Attribute) → of_attributes k line attributes ≡ [] → Kept k attributes
unfolding of_attributes
kept k line attributes h =
    let a = nil_parts (at_line line cause.StrayAttribute (has_stray (decided k attributes) (rules k) [] attributes)) _ h in
    let b = nil_parts (at_line line cause.MissingAttribute (lacks (decided k attributes) attributes (rules k))) _ a.1 in
    let c = nil_parts (at_line line cause.MalformedValue (has_malformed false (decided k attributes) (rules k) attributes)) (at_line line cause.MalformedExpression (has_malformed true (decided k attributes) (rules k) attributes)) b.1 in
    record {
      strays = no_fault line cause.StrayAttribute (has_stray (decided k attributes) (rules k) [] attributes) a.0;
      none = no_fault line cause.MissingAttribute (lacks (decided k attributes) attributes (rules k)) b.0;
      formed = either (λ p. has_malformed p (decided k attributes) (rules k) attributes ≡ false) (no_fault line cause.MalformedExpression (has_malformed true (decided k attributes) (rules k) attributes) c.1) (no_fault line cause.MalformedValue (has_malformed false (decided k attributes) (rules k) attributes) c.0);
    }

-- ---- a tree

below_at : (rows : List Child) (left : ℕ) (ns : List Node) (i : ℕ) (m : Node) → slice_get ns i ≡ Some m → below rows left (map part ns) ≡ [] → of_child (row_of rows (out-Node m).name) left (part m) ≡ []
below_at rows left [] i m e b = (cc)
below_at rows left (n ∷ ns) zero m e b = let is : n ≡ m = cc in subst (λ x. of_child (row_of rows (out-Node x).name) left (part x) ≡ []) is (first_below rows left n ns b).0
below_at rows left (n ∷ ns) (suc i) m e b = below_at rows left ns i m e (first_below rows left n ns b).1

-- an element of a tree without faults has none
clean_within : (top : Node) → refusal top ≡ None → {k : Kind} {n : Node} → Within top k n → (left : ℕ) × (faults k left n ≡ [])
clean_within top h whole = (most_levels, top_clean top h)
clean_within top h (inside {k} {n} i m row w e r) =
    let p = clean_within top h w in
    (p.0 - 1, sym (ap (λ o. of_child o (p.0 - 1) (part m)) r) ∙ below_at (children k) (p.0 - 1) (out-Node n).children i m e (clean k p.0 n p.1).inside)

pub each_has_row : EachHasRow
each_has_row top h k n w i m e =
    let p = clean_within top h w in
    let r = child_row (row_of (children k) (out-Node m).name) (p.0 - 1) (part m) (below_at (children k) (p.0 - 1) (out-Node n).children i m e (clean k p.0 n p.1).inside) in
    (r.0, r.1)

kept_within : (top : Node) → refusal top ≡ None → (k : Kind) (n : Node) → Within top k n → Kept k (out-Node n).attributes
kept_within top h k n w = let p = clean_within top h w in kept k (out-Node n).line (out-Node n).attributes (clean k p.0 n p.1).attributes

pub each_has_rule : EachHasRule
each_has_rule top h k n w i a e = no_stray (decided k (out-Node n).attributes) (rules k) [] (out-Node n).attributes (kept_within top h k n w).strays i a e

pub each_value_formed : EachValueFormed
each_value_formed top h k n w i r e j =
    let x = kept_within top h k n w in
    obeys (decided k (out-Node n).attributes) (out-Node n).attributes (rules k) x.none x.formed i r e j (value_of (out-Node n).attributes (spelled r.word)) refl
