-- Elements as values, and those that stand too deep.
use Rattle.std.specs.Prelude.{ℕ, suc, nat_lt, if◌then◌else◌, List, [], ◌∷◌, Option, Some, None}
use Rattle.db_text.specs.declared.node.Attribute.{Attribute}
use Rattle.db_text.specs.declared.node.Node.{Node, Node-F, roll-Node, fold-Node}
use Rattle.db_text.specs.declared.limits.TheConstants.{MOST_ELEMENT_DEPTH}

abbrev pub attribute_of : List ℕ → List ℕ → Attribute
attribute_of name value = record { name = name; value = value }

-- an element of these parts
abbrev pub element_of : List ℕ → List Attribute → List Node → ℕ → Node
element_of name attributes children line = roll-Node (record { name = name; attributes = attributes; children = children; line = line })

-- the first of two that is there
abbrev pub earlier : Option ℕ → Option ℕ → Option ℕ
earlier None b = b
earlier (Some a) b = Some a

abbrev pub first_in : ℕ → List (ℕ → Option ℕ) → Option ℕ
first_in depth [] = None
first_in depth (f ∷ fs) = earlier (f depth) (first_in depth fs)

abbrev pub too_deep_step : Node-F (ℕ → Option ℕ) → ℕ → Option ℕ
too_deep_step n depth = earlier (if nat_lt MOST_ELEMENT_DEPTH depth then Some n.line else None) (first_in (suc depth) n.children)

-- the line of the first element that stands deeper than any may, where this one stands at that depth
unfoldable pub too_deep : Node → ℕ → Option ℕ
too_deep = fold-Node (ℕ → Option ℕ) too_deep_step

-- the same of the elements of a list
abbrev pub any_too_deep : List Node → ℕ → Option ℕ
any_too_deep [] depth = None
any_too_deep (n ∷ ns) depth = earlier (too_deep n depth) (any_too_deep ns depth)
