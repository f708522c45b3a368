-- What emitting says of what it wrote for each form, in the scope of a protocol.
use Rattle.std.specs.Prelude.{◌≡◌, List, [], ◌∷◌, ◌++◌, length, Option}
use Rattle.db_model.specs.declared.database.NamedBlock.{NamedBlock}
use Rattle.db_model.specs.declared.database.Protocol.{Protocol}
use Rattle.db_model.specs.declared.element.Branch.{Branch}
use Rattle.db_model.specs.declared.element.Case.{Case}
use Rattle.db_model.specs.declared.element.Element.{Element}
use Rattle.db_model.specs.declared.element.FieldForm.{FieldForm}
use Rattle.db_model.specs.declared.element.LoopKind.{LoopKind}
use Rattle.db_model.specs.declared.expression.Expr.{Expr}
use Rattle.db_model.specs.Names.{Text, variable_at}
use Rattle.db_model.specs.Numbering.{Counts, none, plus, a_field, a_block, counts_of, counts_in, fields_in}
use Rattle.expr_code.specs.declared.code.ExprCode.{ExprCode}
use Rattle.pdl_code.specs.declared.code.BlockStart.{BlockStart}
use Rattle.pdl_code.specs.declared.code.Op.{Op}
use Rattle.pdl_code.specs.declared.code.Op.TheVariants.{End, Assign, Update, NextProto, Block, Loop}
use Rattle.pdl_code.specs.declared.code.UpdateCode.{UpdateCode}
use Rattle.pdl_code.specs.declared.entry.UpdateForm.{UpdateForm}
use Rattle.pdl_code.specs.declared.place.Place.{Place}
use Rattle.pdl_code.specs.declared.scope.Scope.{Scope}
use Rattle.pdl_code.specs.declared.written.Bodies.{Bodies}
use Rattle.pdl_code.specs.Coding
use Rattle.pdl_code.specs.Coding.{Ops, ended, around}
use Rattle.pdl_code.specs.Parts.{counts, Wrote, WroteBodies, counts_in_cases, counts_in_other}
use Rattle.pdl_code.specs.Parts

-- from operations before to those after, and from a place to the one behind
abbrev pub Writing : Type 1
Writing = Ops → Ops → Place → Place → Type 0

-- an operation, with no field and no block
abbrev pub WroteOp : Op → Writing
WroteOp o = Wrote none (λ n. o ∷ [])

module _ (s : Scope) where
  abbrev pub resolved : Expr → ExprCode
  resolved e = Coding.resolved s.db.now s.protocol e

  -- ---- elements in which no others stand

  abbrev pub WroteField : FieldForm → Writing
  WroteField form = Wrote a_field (λ n. Coding.field_code s.db.now s.protocol form n.fields)

  abbrev pub WroteInclude : Text → Writing
  WroteInclude name = Wrote none (λ n. Coding.include_of s.db.now s.protocol name)

  abbrev pub WroteAssign : Text → Expr → Writing
  WroteAssign name e = WroteOp (Assign (variable_at s.db.now name) (resolved e))

  abbrev pub update_code : UpdateForm → UpdateCode
  update_code u =
      Coding.update_code s.db.now s.protocol u.table.now u.validity u.keep u.hit u.keys.now u.row.now

  abbrev pub WroteUpdate : UpdateForm → Writing
  WroteUpdate u = WroteOp (Update (update_code u))

  abbrev pub WroteNext : Expr → Writing
  WroteNext e = WroteOp (NextProto (resolved e))

  -- ---- elements

  abbrev pub WroteElement : Element → Writing
  WroteElement x = Wrote (counts_of x) (Coding.code_of s.db.now s.protocol x)

  abbrev pub codes_in : List Element → Counts → Ops
  codes_in xs = Coding.codes_in s.db.now s.protocol xs

  abbrev pub WroteList : List Element → Writing
  WroteList xs = Wrote (counts_in xs) (codes_in xs)

  -- a list that ends, behind the room for one operation
  abbrev pub WroteBody : List Element → Writing
  WroteBody xs = Wrote (counts_in xs) (λ n. End ∷ ended (codes_in xs n))

  abbrev pub WroteBlock : List Element → Writing
  WroteBlock xs = Wrote (plus a_block (counts_in xs)) (λ n. around (Block n.blocks) (codes_in xs (plus n a_block)))

  abbrev pub WroteLoop : LoopKind → Expr → List Element → Writing
  WroteLoop kind e xs = Wrote (counts_in xs) (λ n. around (Loop kind (resolved e)) (codes_in xs n))

  -- ---- the parts of a switch and of a condition

  abbrev pub codes_in_cases : List Case → Counts → List Ops
  codes_in_cases cs = Parts.codes_in_cases s.db.now s.protocol cs

  abbrev pub codes_in_other : Option Branch → Counts → Ops
  codes_in_other b = Parts.codes_in_other s.db.now s.protocol b

  -- the bodies of cases, whose jumps are not written yet
  abbrev pub WroteCases : List Case → Ops → Ops → Place → Bodies → Type 0
  WroteCases cs before after at b = WroteBodies (counts_in_cases cs) (codes_in_cases cs (counts at)) before after at b

  abbrev pub WroteOther : Option Branch → Writing
  WroteOther b = Wrote (counts_in_other b) (codes_in_other b)

  -- ---- a protocol

  -- its own list, of whose field list the counts are given
  pub record WroteOwn (p : Protocol) (before after : Ops) (at : Place) : Type 0 where
    pub place : counts at ≡ counts_in (fields_in p.format)
    pub ops : after ≡ before ++ Coding.own_code s.db.now s.protocol p

  -- its named blocks, with where each begins
  pub record WroteBlocks (bs : List NamedBlock) (at : Place) (old new : Ops) (starts : List BlockStart) : Type 0 where
    pub ops : new ≡ old ++ Coding.block_codes s.db.now s.protocol bs (counts at)
    pub begin : starts ≡ Coding.block_starts s.db.now s.protocol (length old) bs (counts at)
