-- What an element does: a run, given how many fields and blocks of the protocol stand before it.
use Rattle.std.specs.Prelude.{ℕ, zero, suc, Bool, true, ◌&&◌, if◌then◌else◌, nat_le, List, [], ◌∷◌, ◌++◌, map, length, replicate, slice_get, slice_set, is_some, unwrap_or, Option, Some, None}
use Rattle.std.specs.List.{list_any}
use Rattle.db_model.specs.declared.database.ColumnDecl.{ColumnDecl}
use Rattle.db_model.specs.declared.database.Database.{Database}
use Rattle.db_model.specs.declared.database.Protocol.{Protocol}
use Rattle.db_model.specs.declared.database.TableDecl.{TableDecl}
use Rattle.db_model.specs.declared.element.Element.{Element}
use Rattle.db_model.specs.declared.element.Element.TheOpen as layer
use Rattle.db_model.specs.declared.element.FieldForm.{FieldForm}
use Rattle.db_model.specs.declared.element.FieldForm.TheVariants as form
use Rattle.db_model.specs.declared.element.LoopControl.{LoopControl}
use Rattle.db_model.specs.declared.element.LoopControl.TheVariants as control
use Rattle.db_model.specs.declared.element.LoopKind.{LoopKind}
use Rattle.db_model.specs.declared.element.LoopKind.TheVariants as kind
use Rattle.db_model.specs.declared.element.UpdateKey.{UpdateKey}
use Rattle.db_model.specs.declared.element.UpdateValue.{UpdateValue}
use Rattle.db_model.specs.declared.entry.Validity.{Validity}
use Rattle.db_model.specs.declared.env.Way.TheVariants.{Next, Break, Continue, Chose}
use Rattle.db_model.specs.declared.expression.Expr.{Expr}
use Rattle.db_model.specs.declared.field_kind.FieldKind.TheVariants.{Variable}
use Rattle.db_model.specs.declared.limits.TheConstants.{MOST_NESTED}
use Rattle.db_model.specs.declared.question.Question.TheVariants.{Add}
use Rattle.db_model.specs.declared.question.Answer.{Answer}
use Rattle.db_model.specs.declared.question.Answer.TheVariants.{Done}
use Rattle.db_model.specs.declared.tree.Reason.TheVariants as reason
use Rattle.db_model.specs.declared.value.Value.{Value}
use Rattle.db_model.specs.Expression.{Eval, give, result, when, ◌>>=◌, val, num, buf, proto, fail, taken_as, is_so, keys_from, key_sizes, asks}
use Rattle.db_model.specs.Extent.{kind_of}
use Rattle.db_model.specs.Folds.{Noted, CaseOf, BranchOf, ElementOf, noted_element}
use Rattle.db_model.specs.Names.{Text, variable_at, table_at}
use Rattle.db_model.specs.Numbering.{Counts, none, plus, a_block, counts_of, BlockAt, block_at, field_names}
use Rattle.db_model.specs.Questions.{Gives, ◌then◌}
use Rattle.db_model.specs.Runs.{Run, next, leave, go, evaluated, block, place_field, count, looped, before_limit, under_limit}

-- ---- updates

-- the masks of keys of which one has a mask: one that has none keeps all bits
abbrev pub filled : List ℕ → List (Option (List ℕ)) → List (List ℕ)
filled [] ms = []
filled (size ∷ sizes) [] = []
filled (size ∷ sizes) (m ∷ ms) = unwrap_or m (replicate size 255) ∷ filled sizes ms

-- masks, where one of the keys has one
abbrev pub masks_of : List ℕ → List (Option (List ℕ)) → Option (List (List ℕ))
masks_of sizes ms = if list_any is_some ms then Some (filled sizes ms) else None

-- a value is no longer than its column, where the column has a size
abbrev pub fits_column : Option ℕ → Value → Bool
fits_column None v = true
fits_column (Some most) v = nat_le (length (buf v)) most

-- the values of a row, each taken as its column's type and checked for its size right after it is evaluated, behind those that are there. One that isn't there has no size
abbrev pub row_from : ℕ → List Value → List ColumnDecl → List (Eval Value) → Eval (List Value)
row_from protocols done [] ps = give done
row_from protocols done (c ∷ cs) [] = fail reason.DataSize
row_from protocols done (c ∷ cs) (p ∷ ps) = p >>= (λ v. result (when (fits_column c.size (taken_as protocols c.ty v)) reason.DataSize (taken_as protocols c.ty v)) >>= (λ w. row_from protocols (done ++ w ∷ []) cs ps))

abbrev pub holds : {A : Type 0} → CaseOf A → ℕ → Bool
holds c v = nat_le c.value v && nat_le v c.maxvalue

-- what so many parts mean, and how many fields and blocks stand in them
abbrev pub Part : Type 0
Part = Noted Counts (Counts → Run)

abbrev pub total : List Part → Counts
total [] = none
total (x ∷ xs) = plus x.note (total xs)

-- the elements of a list in order, each with the count of those before it
abbrev pub each : List Part → Counts → Run
each [] at = next
each (x ∷ xs) at = x.means at then go (each xs (plus at x.note))

abbrev pub or_next : Option (BranchOf Part) → Counts → Run
or_next None at = next
or_next (Some b) at = each b.body at

-- the first case that holds the number, else the default
abbrev pub choose : ℕ → List (CaseOf Part) → Option (BranchOf Part) → Counts → Run
choose v [] other at = or_next other at
choose v (c ∷ cs) other at = if holds c v then each c.body at else choose v cs other (plus at (total c.body))

abbrev pub control_by : LoopControl → Run
control_by control.Break = leave Break
control_by control.Continue = leave Continue

module _ (db : Database) (fields : List Text) where
  -- an expression as a number
  abbrev pub number : Expr → Eval ℕ
  number e = val db fields e >>= (λ v. give (num v))

  -- a variable field evaluates its size first
  abbrev pub field : FieldForm → ℕ → Run
  field (form.Fixed s) n = place_field (kind_of (form.Fixed s)) n 0
  field (form.Bit s mask) n = place_field (kind_of (form.Bit s mask)) n 0
  field (form.Variable e) n = evaluated (number e) (place_field Variable n)
  field (form.TokenEnded token) n = place_field (kind_of (form.TokenEnded token)) n 0
  field form.Line n = place_field (kind_of form.Line) n 0
  field (form.Padding align) n = place_field (kind_of (form.Padding align)) n 0

  abbrev pub set_variable : ℕ → Value → Run
  set_variable n v = λ z. Gives ((Next, []), record z { env = record z.env { vars = slice_set z.env.vars n v } })

  abbrev pub assign : Text → Expr → Run
  assign name e = evaluated (val db fields e) (set_variable (variable_at db name))

  -- the keys, then the row, then one question. An update of a table that isn't declared does nothing
  abbrev pub added : Option TableDecl → ℕ → Validity → Option ℕ → Option ℕ → List UpdateKey → List UpdateValue → Eval Answer
  added None n validity keep hit keys row = give Done
  added (Some d) n validity keep hit keys row =
      keys_from [] (key_sizes (Some d)) (map (λ k. val db fields k.value) keys) >>= (λ ks.
      row_from (length db.protocols) [] d.columns (map (λ v. val db fields v.value) row) >>= (λ vs.
      asks (Add n (record { keys = ks; masks = masks_of (key_sizes (Some d)) (map (λ k. k.mask) keys); validity = validity; keep = unwrap_or keep 0; hit = unwrap_or hit 0; row = vs }))))

  abbrev pub update : Text → Validity → Option ℕ → Option ℕ → List UpdateKey → List UpdateValue → Run
  update table validity keep hit keys row = evaluated (added (slice_get db.tables (table_at db table)) (table_at db table) validity keep hit keys row) (λ a. next)

  abbrev pub next_proto : Expr → Run
  next_proto e = evaluated (val db fields e) (λ v. leave (Chose (proto v)))

  -- a loop with this body
  abbrev pub loop_by : LoopKind → Expr → Run → Run
  loop_by kind.Size e body = evaluated (number e) (λ n. under_limit n (looped before_limit body))
  loop_by kind.Count e body = evaluated (number e) (λ n. count n body)
  loop_by kind.While e body = looped (number e) body

  module _ (include : Text → Run) where
    -- one layer of an element, with what its parts mean
    abbrev pub does : ElementOf Part → Counts → Run
    does (layer.Field line name f longname show) at = field f at.fields
    does (layer.Block line name longname body) at = block at.blocks (each body (plus at a_block))
    does (layer.IncludeBlock line name) at = include name
    does (layer.Loop line k e body) at = loop_by k e (each body at)
    does (layer.LoopCtrl line c) at = control_by c
    does (layer.Switch line e cases other) at = evaluated (number e) (λ v. choose v cases other at)
    does (layer.If line e true_line so other) at = evaluated (number e) (λ v. if is_so v then each so at else or_next other (plus at (total so)))
    does (layer.Assign line name e) at = assign name e
    does (layer.Update line table validity keep hit keys row) at = update table validity keep hit keys row
    does (layer.NextProto line e) at = next_proto e

    -- what an element means
    unfoldable pub means : Element → Counts → Run
    means = noted_element Counts counts_of (Counts → Run) does

    abbrev pub parts : List Element → List Part
    parts xs = map (λ x. record { note = counts_of x; means = means x }) xs

-- ---- included blocks, by levels

abbrev pub block_of : Database → Protocol → (Text → Run) → Option BlockAt → Run
block_of db p include None = next
block_of db p include (Some b) = block b.before.blocks (each (parts db (field_names p) include b.body) (plus b.before a_block))

-- the named block, in which so many levels of blocks may be included
abbrev pub included : Database → Protocol → ℕ → Text → Run
included db p zero name z = next z
included db p (suc n) name z = block_of db p (included db p n) (block_at p name) z

-- a list of elements of a protocol, in which so many levels of blocks may be included
abbrev pub list_within : Database → Protocol → ℕ → List Element → Counts → Run
list_within db p n xs at = each (parts db (field_names p) (included db p n) xs) at

-- a list of elements of a protocol
unfoldable pub list : Database → Protocol → List Element → Counts → Run
list db p xs at = list_within db p MOST_NESTED xs at
