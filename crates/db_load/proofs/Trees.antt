-- Induction over trees of elements: what holds of an element wherever it holds of each in it, holds of all.
use Rattle.std.specs.Prelude.{List, [], ◌∷◌, map}
use Rattle.std.proofs.Common.{ap, subst, sym, ◌∙◌}
use Rattle.db_text.specs.declared.node.Node.{Node, Node-F, out-Node, roll-Node}
use Rattle.db_text.specs.declared.node.Node.TheViews.{out-roll-Node}
use Rattle.db_text.specs.declared.node.Node.TheFolds.{ind-Node}

abbrev pub Each : (Node → Type 0) → List Node → Type 0
Each P [] = Unit {0}
Each P (n ∷ ns) = P n × Each P ns

each_known : (P : Node → Type 0) (ns : List ((n : Node) × P n)) → Each P (map (λ e. e.0) ns)
each_known P [] = tt
each_known P (n ∷ ns) = (n.1, each_known P ns)

pub each_of_all : (P : Node → Type 0) → ((n : Node) → P n) → (ns : List Node) → Each P ns
each_of_all P all [] = tt
each_of_all P all (n ∷ ns) = (all n, each_of_all P all ns)

-- x is a layer, and y the same with a proof beside each element in it
pub by_tree : (P : Node → Type 0) → ((n : Node) → Each P (out-Node n).children → P n) → (n : Node) → P n
by_tree P step = ind-Node P (λ x y is. step (roll-Node x) (subst (Each P) (ap (λ (z : Node-F Node). z.children) is ∙ sym (ap (λ (z : Node-F Node). z.children) (out-roll-Node x))) (each_known P y.children)))
