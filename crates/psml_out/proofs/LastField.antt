-- The last field of a name, found from the end on.
use Rattle.std.specs.Prelude.{◌≡◌, ℕ, ◌+◌, ◌-◌, ◌<◌, ◌≤◌, Bool, true, false, if◌then◌else◌, List, [], ◌∷◌, ◌++◌, length, take, Option, Some, None}
use Rattle.std.specs.List.{filter, last_or}
use Rattle.std.proofs.Common.{refl, sym, ap, ◌∙◌, arith, append-nil}
use Rattle.std.proofs.Math.ListN.{get_or}
use Rattle.std.proofs.lemmas.Grind.{flat_map-append}
use Rattle.std.proofs.lemmas.List.{take_more}
use Rattle.std.proofs.lemmas.List.Elements.{filter-append}
use Rattle.std.proofs.lemmas.List.Folds.{flat_map-map}
use Rattle.db_model.specs.declared.tree.Node as node
use Rattle.db_model.specs.declared.tree.Node.{Node}
use Rattle.db_model.specs.declared.tree.Reason.{Reason}
use Rattle.db_model.specs.Names.{Text}
use Rattle.show.specs.declared.naming.FieldNaming.{FieldNaming}
use Rattle.show.specs.declared.labels.ProtocolLabels.{ProtocolLabels}
use Rattle.show.specs.Labels.{field_at}
use Rattle.show.proofs.NodeLayers.{fold_block}
use Rattle.psml_out.specs.Fields.{Field, fields_in, fields_in_node, fields_step, is_named, has_name, last_named, last_in_node, last_field}

-- ---- the last of some items

last-append : {A : Type 0} (o : Option A) (xs ys : List A) → last_or o (xs ++ ys) ≡ last_or (last_or o xs) ys
last-append o [] ys = refl
last-append o (x ∷ xs) ys = last-append (Some x) xs ys

is_some_last : {A : Type 0} (x : A) (xs : List A) → last_or (Some x) xs ≡ None → ⊥
is_some_last x [] e = (cc)
is_some_last x (y ∷ xs) e = is_some_last y xs e

-- where there is a last one, those before it don't matter; where there is none, they do
last_there : {A : Type 0} (o : Option A) (v : A) (xs : List A) → last_or None xs ≡ Some v → last_or o xs ≡ Some v
last_there o v [] e = absurd (cc)
last_there o v (x ∷ xs) e = e

last_nowhere : {A : Type 0} (o : Option A) (xs : List A) → last_or None xs ≡ None → last_or o xs ≡ o
last_nowhere o [] e = refl
last_nowhere o (x ∷ xs) e = absurd (is_some_last x xs e)

-- ---- one node more from the end

module _ (labels : List ProtocolLabels) (q : ℕ) (name : Text) where
  one_more : (nodes : List Node) (i : ℕ) (n : Node) → i < length nodes → n ≡ get_or nodes i n → last_field labels q name (take (i + 1) nodes) ≡ last_or (last_field labels q name (take i nodes)) (filter (has_name labels q name) (fields_in_node n))
  one_more nodes i n within is =
      ap (last_field labels q name) (take_more nodes i n within ∙ ap (λ (m : Node). take i nodes ++ m ∷ []) (sym is))
      ∙ ap (last_named labels q name) (flat_map-append fields_in_node (take i nodes) (n ∷ []) ∙ ap (λ (l : List Field). fields_in (take i nodes) ++ l) (append-nil (fields_in_node n)))
      ∙ ap (last_or None) (filter-append (has_name labels q name) (fields_in (take i nodes)) (fields_in_node n))
      ∙ last-append None (filter (has_name labels q name) (fields_in (take i nodes))) (filter (has_name labels q name) (fields_in_node n))

  -- the same for the last of so many nodes
  last_one : (nodes : List Node) (i : ℕ) (n : Node) → 0 < i → i ≤ length nodes → n ≡ get_or nodes (i - 1) n → last_field labels q name (take i nodes) ≡ last_or (last_field labels q name (take (i - 1) nodes)) (filter (has_name labels q name) (fields_in_node n))
  last_one nodes i n some within is =
      let on : i ≡ i - 1 + 1 = omega arith in
      ap (λ (k : ℕ). last_field labels q name (take k nodes)) on ∙ one_more nodes (i - 1) n (omega arith) is

  -- it has none of the name
  pub passed : (nodes : List Node) (i : ℕ) (n : Node) (all : Option Field) → 0 < i → i ≤ length nodes → n ≡ get_or nodes (i - 1) n → last_field labels q name (take i nodes) ≡ all → last_in_node labels q name n ≡ None → last_field labels q name (take (i - 1) nodes) ≡ all
  passed nodes i n all some within is e none =
      sym (last_nowhere (last_field labels q name (take (i - 1) nodes)) (filter (has_name labels q name) (fields_in_node n)) none) ∙ sym (last_one nodes i n some within is) ∙ e

  -- it has one
  pub met : (nodes : List Node) (i : ℕ) (n : Node) (found : Field) (all : Option Field) → 0 < i → i ≤ length nodes → n ≡ get_or nodes (i - 1) n → last_field labels q name (take i nodes) ≡ all → last_in_node labels q name n ≡ Some found → Some found ≡ all
  met nodes i n found all some within is e there =
      sym (last_there (last_field labels q name (take (i - 1) nodes)) found (filter (has_name labels q name) (fields_in_node n)) there) ∙ sym (last_one nodes i n some within is) ∙ e

  -- ---- in a node

  in_field : (field pos size : ℕ) (value : List ℕ) → last_in_node labels q name (node.Field field pos size value) ≡ last_named labels q name ((field, value) ∷ [])
  unfolding fields_in_node
  in_field field pos size value = refl

  one_named : (f : Field) → has_name labels q name f ≡ true → last_named labels q name (f ∷ []) ≡ Some f
  one_named f e = ap (λ (b : Bool). last_or None (if b then f ∷ [] else [])) e

  none_named : (f : Field) → has_name labels q name f ≡ false → last_named labels q name (f ∷ []) ≡ None
  none_named f e = ap (λ (b : Bool). last_or None (if b then f ∷ [] else [])) e

  -- a field that was looked at by its label
  pub field_named : (n : Node) (found : Option FieldNaming) (field pos size : ℕ) (value : List ℕ) → found ≡ field_at labels q field → n ≡ node.Field field pos size value → is_named name found ≡ true → Some (field, value) ≡ last_in_node labels q name n
  field_named n found field pos size value label e is =
      sym (ap (last_in_node labels q name) e ∙ in_field field pos size value ∙ one_named (field, value) (ap (is_named name) (sym label) ∙ is))

  pub field_other : (n : Node) (found : Option FieldNaming) (field pos size : ℕ) (value : List ℕ) → found ≡ field_at labels q field → n ≡ node.Field field pos size value → is_named name found ≡ false → None ≡ last_in_node labels q name n
  field_other n found field pos size value label e is =
      sym (ap (last_in_node labels q name) e ∙ in_field field pos size value ∙ none_named (field, value) (ap (is_named name) (sym label) ∙ is))

  fields_block : (block pos size : ℕ) (nodes : List Node) → fields_in_node (node.Block block pos size nodes) ≡ fields_in nodes
  unfolding fields_in_node
  fields_block block pos size nodes = fold_block (List Field) fields_step block pos size nodes ∙ flat_map-map (λ (l : List Field). l) fields_in_node nodes

  pub in_block : (n : Node) (block pos size : ℕ) (nodes : List Node) → n ≡ node.Block block pos size nodes → last_field labels q name nodes ≡ last_in_node labels q name n
  in_block n block pos size nodes e = sym (ap (last_in_node labels q name) e ∙ ap (last_named labels q name) (fields_block block pos size nodes))

  pub in_note : (n : Node) (reason : Reason) (pos : ℕ) → n ≡ node.Note reason pos → None ≡ last_in_node labels q name n
  unfolding fields_in_node
  in_note n reason pos e = sym (ap (last_in_node labels q name) e)
