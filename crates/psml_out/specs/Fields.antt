-- The last field of a name in a protocol of a tree.
use Rattle.std.specs.Prelude.{ℕ, Bool, false, List, [], ◌∷◌, bytes_eq, Option, Some, None}
use Rattle.std.specs.List.{filter, flat_map, last_or}
use Rattle.db_model.specs.declared.tree.Node.{Node, Node-F}
use Rattle.db_model.specs.declared.tree.Node.TheOpen as layer
use Rattle.db_model.specs.Names.{Text}
use Rattle.psml_out.specs.declared.last_field.FieldValue.{FieldValue}
use Rattle.show.specs.declared.naming.FieldNaming.{FieldNaming}
use Rattle.show.specs.declared.labels.ProtocolLabels.{ProtocolLabels}
use Rattle.show.specs.Labels.{field_at}
use Rattle.show.specs.NodeFold.{fold_node}

-- a field of a tree: its number in its protocol, and its value
abbrev pub Field : Type 0
Field = ℕ × List ℕ

abbrev pub seen : FieldValue → Field
seen f = (f.field, f.value.now)

-- the fields among nodes, in the order of the text, those in blocks included
abbrev pub fields_step : Node-F (List Field) → List Field
fields_step (layer.Field field pos size value) = (field, value) ∷ []
fields_step (layer.Block block pos size nodes) = flat_map (λ fields. fields) nodes
fields_step (layer.Note reason pos) = []

unfoldable pub fields_in_node : Node → List Field
fields_in_node = fold_node (List Field) fields_step

abbrev pub fields_in : List Node → List Field
fields_in nodes = flat_map fields_in_node nodes

-- a declared field has its name
abbrev pub is_named : Text → Option FieldNaming → Bool
is_named name None = false
is_named name (Some label) = bytes_eq label.name name

module _ (labels : List ProtocolLabels) (protocol : ℕ) (name : Text) where
  abbrev pub has_name : Field → Bool
  has_name f = is_named name (field_at labels protocol f.0)

  -- the last of some fields that has the name
  abbrev pub last_named : List Field → Option Field
  last_named fields = last_or None (filter has_name fields)

  abbrev pub last_in_node : Node → Option Field
  last_in_node n = last_named (fields_in_node n)

  -- the last field of the name among the nodes of the protocol of a number
  abbrev pub last_field : List Node → Option Field
  last_field nodes = last_named (fields_in nodes)
