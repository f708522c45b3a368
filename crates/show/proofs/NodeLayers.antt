-- The fold of nodes on a block: what the step makes of it, from what it makes of its nodes.
use Rattle.std.specs.Prelude.{◌≡◌, ℕ, List, [], ◌∷◌, map}
use Rattle.std.proofs.Common.{refl, ap}
use denote.Hole.Carrier.{hidden}
use Rattle.db_model.specs.declared.tree.Node as node
use Rattle.db_model.specs.declared.tree.Node.{Node, Node-F}
use Rattle.db_model.specs.declared.tree.Node.TheBlock.{hidden-the_row-Node-0}
use Rattle.db_model.specs.declared.tree.Node.TheOpen as in_node
use Rattle.show.specs.NodeFold.{fold_node, fold_nodes}

module _ (A : Type 0) (step : Node-F A → A) where
  fold_list : (ns : List Node) → fold_nodes A step (hidden-the_row-Node-0 ns) ≡ map (fold_node A step) ns
  unfolding hidden-the_row-Node-0 hidden
  fold_list [] = refl
  fold_list (n ∷ ns) = ap (λ l. fold_node A step n ∷ l) (fold_list ns)

  pub fold_block : (block pos size : ℕ) (ns : List Node) → fold_node A step (node.Block block pos size ns) ≡ step (in_node.Block block pos size (map (fold_node A step) ns))
  fold_block block pos size ns = ap (λ l. step (in_node.Block block pos size l)) (fold_list ns)
