-- Small databases, each for one rule of decoding.
use Rattle.std.specs.Prelude.{ℕ, zero, suc, List, [], ◌∷◌, codes, None}
use Rattle.db_model.specs.declared.database.Database.{Database}
use Rattle.db_model.specs.declared.element.Element as element
use Rattle.db_model.specs.declared.element.Element.{Element}
use Rattle.db_model.specs.declared.element.LoopControl.TheVariants as control
use Rattle.db_model.specs.declared.element.LoopKind.TheVariants as kind
use Rattle.db_model.specs.declared.expression.Expr as expr
use Rattle.db_examples.specs.Samples.{fixed, list, protocol, fields, database}

-- a database of one protocol with these fields
abbrev pub of_fields : List Element → Database
of_fields xs = database (protocol 2 (codes "startproto") None (fields 2 xs []) None ∷ [])

-- a size loop of two bytes that is broken after the first, and a field of three bytes behind it
abbrev pub broken_loop : List Element
broken_loop = element.Loop 3 kind.Size (expr.Number 2) (fixed 4 (codes "a") 1 ∷ element.LoopCtrl 5 control.Break ∷ []) ∷ fixed 6 (codes "b") 3 ∷ []

unfoldable pub broken_loop_db : Database
broken_loop_db = of_fields broken_loop

-- a field that is too long, in a block in a block
unfoldable pub short_block_db : Database
short_block_db = of_fields (fixed 3 (codes "a") 1 ∷ element.Block 4 (codes "outer") None (element.Block 5 (codes "inner") None (fixed 6 (codes "b") 4 ∷ []) ∷ []) ∷ [])

-- a block with one field in it
abbrev pub block_with_field : List Element
block_with_field = element.Block 3 (codes "x") None (fixed 4 (codes "a") 1 ∷ []) ∷ []

unfoldable pub block_db : Database
block_db = of_fields block_with_field

-- a protocol of one byte that names itself
unfoldable pub self_db : Database
self_db = database (protocol 2 (codes "startproto") None (fields 2 (fixed 2 (codes "a") 1 ∷ []) []) (list 2 (element.NextProto 2 (expr.Protocol (codes "startproto")) ∷ [])) ∷ [])

-- so many bytes of 0
abbrev pub zeros : ℕ → List ℕ
zeros zero = []
zeros (suc n) = 0 ∷ zeros n
