-- The labels in an element, by its parts.
use Rattle.std.specs.Prelude.{◌≡◌, ℕ, ◌+◌, ◌<◌, List, [], ◌∷◌, map, length, drop, Option, Some, None}
use Rattle.std.specs.Option.{option_map}
use Rattle.std.proofs.Common.{refl, sym, ap, ◌∙◌, append-nil, append_assoc}
use Rattle.std.proofs.Math.ListN.{get_or}
use Rattle.std.proofs.lemmas.List.{at_drop_more}
use Rattle.db_model.specs.declared.database.ShowTemplate.{ShowTemplate}
use Rattle.db_model.specs.declared.element.Branch.{Branch}
use Rattle.db_model.specs.declared.element.Case.{Case}
use Rattle.db_model.specs.declared.element.Element as element
use Rattle.db_model.specs.declared.element.Element.{Element}
use Rattle.db_model.specs.declared.element.FieldForm.{FieldForm}
use Rattle.db_model.specs.declared.element.LoopControl.{LoopControl}
use Rattle.db_model.specs.declared.element.LoopKind.{LoopKind}
use Rattle.db_model.specs.declared.element.UpdateKey.{UpdateKey}
use Rattle.db_model.specs.declared.element.UpdateValue.{UpdateValue}
use Rattle.db_model.specs.declared.entry.Validity.{Validity}
use Rattle.db_model.specs.declared.expression.Expr.{Expr}
use Rattle.db_model.specs.Names.{Text}
use Rattle.db_model.proofs.Layers.{fold_block, fold_loop, fold_switch, fold_if, fold_case, fold_branch}
use Rattle.show.specs.declared.labels.ProtocolLabels.{ProtocolLabels}
use Rattle.show.specs.Labels.{none, then, a_field, a_block, field_label, block_label, all_labels, case_labels, branch_labels, labels_step, labels_of_element, labels_in, labels_of_cases, labels_of_other}

-- ---- labels behind labels

pub then-none : (a : ProtocolLabels) → then a none ≡ a
then-none a = λ i. record { line = a.line; fields = append-nil a.fields i; blocks = append-nil a.blocks i }

pub then-then : (a b c : ProtocolLabels) → then (then a b) c ≡ then a (then b c)
then-then a b c = λ i. record { line = a.line; fields = append_assoc a.fields b.fields c.fields i; blocks = append_assoc a.blocks b.blocks c.blocks i }

-- ---- elements

module _ (ts : List ShowTemplate) where
  pub labels_field : (line : ℕ) (name : Text) (form : FieldForm) (longname : Option (List ℕ)) (show : Option Text) → labels_of_element ts (element.Field line name form longname show) ≡ a_field (field_label ts name longname show)
  unfolding labels_of_element
  labels_field line name form longname show = refl

  pub labels_block : (line : ℕ) (name : Text) (longname : Option (List ℕ)) (body : List Element) → labels_of_element ts (element.Block line name longname body) ≡ then (a_block (block_label name longname)) (labels_in ts body)
  unfolding labels_of_element
  labels_block line name longname body = fold_block ProtocolLabels (labels_step ts) line name longname body

  pub labels_loop : (line : ℕ) (kind : LoopKind) (e : Expr) (body : List Element) → labels_of_element ts (element.Loop line kind e body) ≡ labels_in ts body
  unfolding labels_of_element
  labels_loop line kind e body = fold_loop ProtocolLabels (labels_step ts) line kind e body

  cases_are : (cs : List Case) → case_labels (map (fold_case ProtocolLabels (labels_step ts)) cs) ≡ labels_of_cases ts cs
  unfolding labels_of_element
  cases_are [] = refl
  cases_are (c ∷ cs) = ap (λ l. then (labels_in ts c.body) l) (cases_are cs)

  other_is : (b : Option Branch) → branch_labels (option_map (fold_branch ProtocolLabels (labels_step ts)) b) ≡ labels_of_other ts b
  unfolding labels_of_element
  other_is None = refl
  other_is (Some b) = refl

  pub labels_switch : (line : ℕ) (e : Expr) (cs : List Case) (other : Option Branch) → labels_of_element ts (element.Switch line e cs other) ≡ then (labels_of_cases ts cs) (labels_of_other ts other)
  unfolding labels_of_element
  labels_switch line e cs other = fold_switch ProtocolLabels (labels_step ts) line e cs other ∙ (λ i. then (cases_are cs i) (other_is other i))

  pub labels_if : (line : ℕ) (e : Expr) (true_line : ℕ) (so : List Element) (other : Option Branch) → labels_of_element ts (element.If line e true_line so other) ≡ then (labels_in ts so) (labels_of_other ts other)
  unfolding labels_of_element
  labels_if line e true_line so other = fold_if ProtocolLabels (labels_step ts) line e true_line so other ∙ ap (λ l. then (labels_in ts so) l) (other_is other)

  pub labels_include : (line : ℕ) (name : Text) → labels_of_element ts (element.IncludeBlock line name) ≡ none
  unfolding labels_of_element
  labels_include line name = refl

  pub labels_control : (line : ℕ) (kind : LoopControl) → labels_of_element ts (element.LoopCtrl line kind) ≡ none
  unfolding labels_of_element
  labels_control line kind = refl

  pub labels_assign : (line : ℕ) (name : Text) (value : Expr) → labels_of_element ts (element.Assign line name value) ≡ none
  unfolding labels_of_element
  labels_assign line name value = refl

  pub labels_update : (line : ℕ) (table : Text) (validity : Validity) (keep hit : Option ℕ) (keys : List UpdateKey) (row : List UpdateValue) → labels_of_element ts (element.Update line table validity keep hit keys row) ≡ none
  unfolding labels_of_element
  labels_update line table validity keep hit keys row = refl

  pub labels_next : (line : ℕ) (proto : Expr) → labels_of_element ts (element.NextProto line proto) ≡ none
  unfolding labels_of_element
  labels_next line proto = refl

  -- the labels of an element that is another
  pub labels_are : (x y : Element) (l : ProtocolLabels) → x ≡ y → labels_of_element ts y ≡ l → l ≡ labels_of_element ts x
  labels_are x y l e h = sym (ap (labels_of_element ts) e ∙ h)

  pub none_behind : (have : ProtocolLabels) (x y : Element) → x ≡ y → labels_of_element ts y ≡ none → have ≡ then have (labels_of_element ts x)
  none_behind have x y e h = sym (then-none have) ∙ ap (λ l. then have l) (labels_are x y none e h)

-- two parts behind what was there
pub both_behind : (have more a b l : ProtocolLabels) → more ≡ then have a → then a b ≡ l → then more b ≡ then have l
both_behind have more a b l e h = ap (λ m. then m b) e ∙ then-then have a b ∙ ap (λ m. then have m) h

-- a walk over parts that have labels: what is there, with the labels of the parts that are left
pub walk_on : {X : Type 0} (f : X → ProtocolLabels) (xs : List X) (i : ℕ) (d : X) (have more all : ProtocolLabels) → i < length xs → d ≡ get_or xs i d → then have (all_labels (map f (drop i xs))) ≡ all → more ≡ then have (f d) → then more (all_labels (map f (drop (i + 1) xs))) ≡ all
walk_on f xs i d have more all within e h g =
    both_behind have more (f d) (all_labels (map f (drop (i + 1) xs))) (then (f (get_or xs i d)) (all_labels (map f (drop (i + 1) xs)))) g (ap (λ y. then (f y) (all_labels (map f (drop (i + 1) xs)))) e)
    ∙ ap (λ l. then have l) (sym (at_drop_more (λ l. all_labels (map f l)) xs i d within)) ∙ h
