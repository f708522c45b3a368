-- The first element that stands too deep.
use Rattle.std.proofs.Common.{◌≡◌, ℕ, suc, List, [], ◌∷◌, ◌++◌, Option, Some, None, refl, sym, ap, ◌∙◌, map}
use Rattle.db_text.specs.declared.node.Attribute.{Attribute}
use Rattle.db_text.specs.declared.node.Node.{Node}
use Rattle.db_text.specs.declared.node.Node.TheFolds.{fold-roll-Node}
use Rattle.db_text.specs.Machine.{if_deep}
use Rattle.db_text.specs.Tree.{element_of, earlier, first_in, too_deep_step, too_deep, any_too_deep}

pub earlier_assoc : (a b c : Option ℕ) → earlier (earlier a b) c ≡ earlier a (earlier b c)
earlier_assoc None b c = refl
earlier_assoc (Some a) b c = refl

pub earlier_none : (a : Option ℕ) → earlier a None ≡ a
earlier_none None = refl
earlier_none (Some a) = refl

pub any_too_deep-push : (ns : List Node) (n : Node) (depth : ℕ) → any_too_deep (ns ++ n ∷ []) depth ≡ earlier (any_too_deep ns depth) (too_deep n depth)
any_too_deep-push [] n depth = earlier_none (too_deep n depth)
any_too_deep-push (m ∷ ns) n depth = ap (earlier (too_deep m depth)) (any_too_deep-push ns n depth) ∙ sym (earlier_assoc (too_deep m depth) (any_too_deep ns depth) (too_deep n depth))

firsts : (ns : List Node) (depth : ℕ) → first_in depth (map too_deep ns) ≡ any_too_deep ns depth
firsts [] depth = refl
firsts (n ∷ ns) depth = ap (earlier (too_deep n depth)) (firsts ns depth)

pub too_deep-element : (name : List ℕ) (attributes : List Attribute) (children : List Node) (line depth : ℕ)
    → too_deep (element_of name attributes children line) depth ≡ earlier (if_deep depth line) (any_too_deep children (suc depth))
unfolding too_deep
too_deep-element name attributes children line depth =
    ap (λ f. f depth) (fold-roll-Node (ℕ → Option ℕ) too_deep_step (record { name = name; attributes = attributes; children = children; line = line }))
    ∙ ap (earlier (if_deep depth line)) (firsts children (suc depth))
