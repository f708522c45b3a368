-- The operations of which code is made: those of an element, given how many fields and blocks of the protocol stand before it, of a list, and of a protocol.
use Rattle.std.specs.Prelude.{ℕ, zero, suc, ◌+◌, Bool, true, not, ◌&&◌, ◌==◌, if◌then◌else◌, nat_lt, List, [], ◌∷◌, ◌++◌, map, length, slice_get, Option, Some, None}
use Rattle.db_model.specs.declared.database.Database.{Database}
use Rattle.db_model.specs.declared.database.NamedBlock.{NamedBlock}
use Rattle.db_model.specs.declared.database.Protocol.{Protocol}
use Rattle.db_model.specs.declared.element.Element.{Element}
use Rattle.db_model.specs.declared.element.Element.TheOpen as layer
use Rattle.db_model.specs.declared.element.FieldForm.{FieldForm}
use Rattle.db_model.specs.declared.element.FieldForm.TheVariants as form
use Rattle.db_model.specs.declared.expression.Expr.{Expr}
use Rattle.db_model.specs.declared.field_kind.CaseRange.{CaseRange}
use Rattle.db_model.specs.declared.limits.TheConstants.{MOST_BIT_SIZE, LEAST_ALIGNMENT, MOST_ALIGNMENT}
use Rattle.db_model.specs.Chain.{elements_of}
use Rattle.db_model.specs.Extent.{kind_of}
use Rattle.db_model.specs.Folds.{Noted, CaseOf, BranchOf, ElementOf, noted_element}
use Rattle.db_model.specs.Forms.{is_between}
use Rattle.db_model.specs.NameIndex.{block_number_at}
use Rattle.db_model.specs.Names.{Text, variable_at, table_at}
use Rattle.db_model.specs.Numbering.{Counts, none, plus, a_block, counts_of, counts_in, fields_in, blocks_in, names_of_protocol}
use Rattle.db_model.specs.declared.element.UpdateKey.{UpdateKey}
use Rattle.db_model.specs.declared.element.UpdateValue.{UpdateValue}
use Rattle.db_model.specs.declared.entry.Validity.{Validity}
use Rattle.expr_code.specs.Code as expression
use Rattle.expr_code.specs.declared.code.ExprCode.{ExprCode}
use Rattle.pdl_code.specs.declared.code.BlockStart.{BlockStart}
use Rattle.pdl_code.specs.declared.code.KeyCode.{KeyCode}
use Rattle.pdl_code.specs.declared.code.Op.{Op}
use Rattle.pdl_code.specs.declared.code.Op.TheVariants.{End, Field, SizedField, Assign, Update, NextProto, Leave, Jump, Test, Switch, Block, Include, Loop}
use Rattle.pdl_code.specs.declared.code.ProtoCode.{ProtoCode}
use Rattle.pdl_code.specs.declared.code.UpdateCode.{UpdateCode}

abbrev pub Ops : Type 0
Ops = List Op

-- the operations of a part, beside how many fields and blocks stand in it
abbrev pub Coded : Type 0
Coded = Noted Counts (Counts → Ops)

-- how many stand in parts, whatever else is known of them
abbrev pub all_in : {A : Type 0} → List (Noted Counts A) → Counts
all_in [] = none
all_in (x ∷ xs) = plus x.note (all_in xs)

-- the operations of a list, each part with the count of those before it
abbrev pub codes : List Coded → Counts → Ops
codes [] at = []
codes (x ∷ xs) at = x.means at ++ codes xs (plus at x.note)

abbrev pub other_codes : Option (BranchOf Coded) → Counts → Ops
other_codes None at = []
other_codes (Some b) at = codes b.body at

-- ---- what stands inline

-- a body that ends
abbrev pub ended : Ops → Ops
ended ops = ops ++ End ∷ []

-- a block or a loop: its operation, of the distance behind the body, and the body
abbrev pub around : (ℕ → Op) → Ops → Ops
around o body = o (length body + 1) ∷ ended body

-- a test: it skips the one list where its value is 0, and that list skips the other
abbrev pub if_code : ExprCode → Ops → Ops → Ops
if_code e so other = Test e (length so + 1) ∷ (so ++ Jump (length other) ∷ other)

-- the bodies of cases, each of which skips those behind it and so many operations more
abbrev pub bodies : List Ops → ℕ → Ops
bodies [] more = []
bodies (b ∷ bs) more = b ++ Jump (length (bodies bs more) + more) ∷ bodies bs more

-- where each of them begins, the first at this distance
abbrev pub begins : ℕ → List Ops → List ℕ
begins from [] = []
begins from (b ∷ bs) = from ∷ begins (from + length b + 1) bs

-- a switch: its operation, the bodies of the cases, and that of the default
abbrev pub switch_code : ExprCode → List CaseRange → List Ops → Ops → Ops
switch_code e ranges cases other = Switch e (record { ranges = ranges; targets = begins 0 cases; otherwise = length (bodies cases (length other)) }) ∷ (bodies cases (length other) ++ other)

abbrev pub range_of : {A : Type 0} → CaseOf A → CaseRange
range_of c = record { low = c.value; high = c.maxvalue }

-- the bodies of cases, each with the count of those before it, and the count behind them
abbrev pub case_codes : List (CaseOf Coded) → Counts → List Ops
case_codes [] at = []
case_codes (c ∷ cs) at = codes c.body at ∷ case_codes cs (plus at (all_in c.body))

abbrev pub behind_cases : {A : Type 0} → List (CaseOf (Noted Counts A)) → Counts → Counts
behind_cases [] at = at
behind_cases (c ∷ cs) at = behind_cases cs (plus at (all_in c.body))

-- ---- elements

-- a field of this form can be read; a database without faults has no other
abbrev pub is_sound : FieldForm → Bool
is_sound (form.Fixed s) = true
is_sound (form.Bit s mask) = is_between 1 MOST_BIT_SIZE s && not (mask == 0)
is_sound (form.Variable e) = true
is_sound (form.TokenEnded token) = true
is_sound form.Line = true
is_sound (form.Padding align) = is_between LEAST_ALIGNMENT MOST_ALIGNMENT align

-- how many named blocks a protocol has
abbrev pub block_count : Option Protocol → ℕ
block_count None = zero
block_count (Some p) = length (blocks_in p.format)

-- an included block, of which there are so many; none where it isn't declared
abbrev pub include_code : ℕ → ℕ → Ops
include_code declared b = if nat_lt b declared then Include b ∷ [] else []

-- in the protocol of this number
module _ (db : Database) (q : ℕ) where
  -- the code of an expression, whose fields are those of the protocol
  abbrev pub resolved : Expr → ExprCode
  resolved e = expression.code_of db (names_of_protocol db q) e

  abbrev pub key_code : UpdateKey → KeyCode
  key_code k = record { value = resolved k.value; mask = k.mask }

  abbrev pub update_code : Text → Validity → Option ℕ → Option ℕ → List UpdateKey → List UpdateValue → UpdateCode
  update_code table validity keep hit keys row = record { table = table_at db table; validity = validity; keep = keep; hit = hit; keys = map key_code keys; row = map (λ v. resolved v.value) row }

  -- a field; a variable one has its size
  abbrev pub field_op : FieldForm → ℕ → Op
  field_op (form.Fixed s) n = Field n (kind_of (form.Fixed s))
  field_op (form.Bit s mask) n = Field n (kind_of (form.Bit s mask))
  field_op (form.Variable e) n = SizedField n (resolved e)
  field_op (form.TokenEnded token) n = Field n (kind_of (form.TokenEnded token))
  field_op form.Line n = Field n (kind_of form.Line)
  field_op (form.Padding align) n = Field n (kind_of (form.Padding align))

  abbrev pub field_code : FieldForm → ℕ → Ops
  field_code f n = if is_sound f then field_op f n ∷ [] else []

  abbrev pub include_of : Text → Ops
  include_of name = include_code (block_count (slice_get db.protocols q)) (block_number_at (slice_get db.protocols q) name)

  -- the operations of one layer of an element, with those of its parts
  abbrev pub coded : ElementOf Coded → Counts → Ops
  coded (layer.Field line name f longname show) at = field_code f at.fields
  coded (layer.Block line name longname body) at = around (Block at.blocks) (codes body (plus at a_block))
  coded (layer.IncludeBlock line name) at = include_of name
  coded (layer.Loop line k e body) at = around (Loop k (resolved e)) (codes body at)
  coded (layer.LoopCtrl line c) at = Leave c ∷ []
  coded (layer.Switch line e cases other) at = switch_code (resolved e) (map range_of cases) (case_codes cases at) (other_codes other (behind_cases cases at))
  coded (layer.If line e true_line so other) at = if_code (resolved e) (codes so at) (other_codes other (plus at (all_in so)))
  coded (layer.Assign line name e) at = Assign (variable_at db name) (resolved e) ∷ []
  coded (layer.Update line table validity keep hit keys row) at = Update (update_code table validity keep hit keys row) ∷ []
  coded (layer.NextProto line e) at = NextProto (resolved e) ∷ []

  -- the operations of an element
  unfoldable pub code_of : Element → Counts → Ops
  code_of = noted_element Counts counts_of (Counts → Ops) coded

  abbrev pub coded_parts : List Element → List Coded
  coded_parts xs = map (λ x. record { note = counts_of x; means = code_of x }) xs

  -- the operations of a list
  abbrev pub codes_in : List Element → Counts → Ops
  codes_in xs at = codes (coded_parts xs) at

  -- ---- a protocol

  -- the lists of named blocks, one behind another, each of which ends
  abbrev pub block_codes : List NamedBlock → Counts → Ops
  block_codes [] at = []
  block_codes (b ∷ bs) at = ended (codes_in b.body (plus at a_block)) ++ block_codes bs (plus (plus at a_block) (counts_in b.body))

  -- where each begins, the first at this place
  abbrev pub block_starts : ℕ → List NamedBlock → Counts → List BlockStart
  block_starts from [] at = []
  block_starts from (b ∷ bs) at = record { number = at.blocks; at = from } ∷ block_starts (from + length (ended (codes_in b.body (plus at a_block)))) bs (plus (plus at a_block) (counts_in b.body))

  -- the own list of a protocol, and its named blocks
  abbrev pub own_code : Protocol → Ops
  own_code p = ended (codes_in (elements_of p) none)

  unfoldable pub proto_code : Protocol → ProtoCode
  proto_code p = record {
    ops = own_code p ++ block_codes (blocks_in p.format) (counts_in (fields_in p.format));
    blocks = block_starts (length (own_code p)) (blocks_in p.format) (counts_in (fields_in p.format));
  }

-- the code of each of some protocols, of which the first has this number
abbrev pub protocol_codes : Database → ℕ → List Protocol → List ProtoCode
protocol_codes db q [] = []
protocol_codes db q (p ∷ ps) = proto_code db q p ∷ protocol_codes db (suc q) ps
