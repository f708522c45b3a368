-- Words with which worked examples are written as lists: a further case is a line.
use Rattle.std.specs.Prelude.{◌≡◌, ℕ, List, [], ◌∷◌, map, codes, Some, None}
use Rattle.db_model.specs.declared.database.Database.{Database}
use Rattle.db_model.specs.declared.database.NamedBlock.{NamedBlock}
use Rattle.db_model.specs.declared.element.Element as element
use Rattle.db_model.specs.declared.element.Element.{Element}
use Rattle.db_model.specs.declared.element.LoopControl.TheVariants as control
use Rattle.db_model.specs.declared.element.LoopKind.TheVariants as kind
use Rattle.db_model.specs.declared.expression.Expr as expr
use Rattle.db_model.specs.declared.expression.Expr.{Expr}
use Rattle.db_model.specs.declared.tree.Node.{Node}
use Rattle.db_model.specs.declared.tree.Node.TheVariants.{Field}
use Rattle.db_model.specs.declared.tree.Proto.{Proto}
use Rattle.db_model.specs.Names.{Text}
use Rattle.db_model.specs.Serial.{tree}
use Rattle.db_model.specs.Session.{declared}
use Rattle.db_examples.specs.Samples.{fixed, branch, protocol, fields, database}
use Rattle.db_examples.specs.SessionPackets.{captured}

-- a case is what the definitions give, and what it has to be
abbrev pub AreAlike : {A : Type 0} → List (A × A) → Type 0
AreAlike cases = map (λ c. c.0) cases ≡ map (λ c. c.1) cases

-- ---- elements, all of them at line 3

abbrev pub byte : Text → Element
byte name = fixed 3 name 1

abbrev pub a : Element
a = byte (codes "a")

abbrev pub b : Element
b = byte (codes "b")

abbrev pub c : Element
c = byte (codes "c")

abbrev pub two_bytes : Element
two_bytes = fixed 3 (codes "w") 2

abbrev pub in_block : List Element → Element
in_block body = element.Block 3 (codes "x") None body

abbrev pub counted : Expr → List Element → Element
counted e body = element.Loop 3 kind.Count e body

abbrev pub times : ℕ → List Element → Element
times n body = counted (expr.Number n) body

abbrev pub sized_by : Expr → List Element → Element
sized_by e body = element.Loop 3 kind.Size e body

abbrev pub sized : ℕ → List Element → Element
sized n body = sized_by (expr.Number n) body

abbrev pub while_so : Expr → List Element → Element
while_so e body = element.Loop 3 kind.While e body

abbrev pub continue_loop : Element
continue_loop = element.LoopCtrl 3 control.Continue

abbrev pub break_loop : Element
break_loop = element.LoopCtrl 3 control.Break

abbrev pub choice : Expr → List Element → List Element → Element
choice e so other = element.If 3 e 3 so (Some (branch 3 other))

-- the field of this name as a number
abbrev pub number_in : Text → Expr
number_in name = expr.ToNumber (expr.Field name)

-- ---- decoding

-- the protocols of a packet of these bytes
abbrev pub tree_in : Database → List ℕ → List Proto
tree_in db bytes = tree db (declared db) (captured 0 0 bytes ∷ []) 0

-- the size of the first protocol, and its nodes
abbrev pub first_in : List Proto → ℕ × List Node
first_in [] = (0, [])
first_in (p ∷ ps) = (p.size, p.nodes)

-- those of one protocol with these fields and named blocks
abbrev pub with_blocks : List Element → List NamedBlock → List ℕ → ℕ × List Node
with_blocks xs blocks bytes = first_in (tree_in (database (protocol 2 (codes "startproto") None (fields 2 xs blocks) None ∷ [])) bytes)

abbrev pub decoded : List Element → List ℕ → ℕ × List Node
decoded xs bytes = with_blocks xs [] bytes

-- a field of one byte: its number, its position, its value
abbrev pub read : ℕ → ℕ → ℕ → Node
read n pos value = Field n pos 1 (value ∷ [])
