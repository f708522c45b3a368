-- One fold for the nodes of a tree: each meaning of a node is a step on one layer, with the meanings of a block's nodes in place of the nodes.
use Rattle.std.specs.Prelude.{List, [], ◌∷◌}
use Rattle.db_model.specs.declared.tree.Node as node
use Rattle.db_model.specs.declared.tree.Node.{Node, Node-F, Row_of-Node, end_of-Node, more_of-Node}
use Rattle.db_model.specs.declared.tree.Node.TheOpen as in_node

module _ (A : Type 0) (step : Node-F A → A) where
  abbrev mutual
    pub fold_node : Node → A
    fold_node (node.Field field pos size value) = step (in_node.Field field pos size value)
    fold_node (node.Block' block pos size s nodes) = step (in_node.Block block pos size (fold_nodes nodes))
    fold_node (node.Note reason pos) = step (in_node.Note reason pos)

    pub fold_nodes : {m : _} → Row_of-Node m → List A
    fold_nodes end_of-Node = []
    fold_nodes (more_of-Node n rest) = fold_node n ∷ fold_nodes rest
