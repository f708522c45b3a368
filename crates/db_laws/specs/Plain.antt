-- What a decoding would be where each data value of an update stands in its row as it was evaluated, and isn't taken as its column's type. All else is as in a decoding.
use Rattle.std.specs.Prelude.{◌≡◌, ℕ, zero, suc, true, List, [], ◌∷◌, ◌++◌, map, slice_get, unwrap_or, Option, Some, None}
use Rattle.db_model.specs.declared.database.ColumnDecl.{ColumnDecl}
use Rattle.db_model.specs.declared.database.Database.{Database}
use Rattle.db_model.specs.declared.database.Protocol.{Protocol}
use Rattle.db_model.specs.declared.database.TableDecl.{TableDecl}
use Rattle.db_model.specs.declared.element.Element.{Element}
use Rattle.db_model.specs.declared.element.Element.TheOpen as layer
use Rattle.db_model.specs.declared.element.UpdateKey.{UpdateKey}
use Rattle.db_model.specs.declared.element.UpdateValue.{UpdateValue}
use Rattle.db_model.specs.declared.entry.Validity.{Validity}
use Rattle.db_model.specs.declared.env.Frame.{Frame}
use Rattle.db_model.specs.declared.limits.TheConstants.{MOST_ENTERED, MOST_NESTED}
use Rattle.db_model.specs.declared.packet.Packet.{Packet}
use Rattle.db_model.specs.declared.question.Answer.{Answer}
use Rattle.db_model.specs.declared.question.Answer.TheVariants.{Done}
use Rattle.db_model.specs.declared.question.Question.TheVariants.{Add}
use Rattle.db_model.specs.declared.tree.Proto.{Proto}
use Rattle.db_model.specs.declared.tree.Reason.TheVariants as reason
use Rattle.db_model.specs.declared.value.Value.{Value}
use Rattle.db_model.specs.Chain.{elements_of, entered, follow}
use Rattle.db_model.specs.Decoding.{start, payload}
use Rattle.db_model.specs.Elements.{masks_of, fits_column, Part, each, does}
use Rattle.db_model.specs.Expression.{Eval, give, result, when, ◌>>=◌, val, fail, keys_from, key_sizes, asks}
use Rattle.db_model.specs.Folds.{ElementOf, noted_element}
use Rattle.db_model.specs.Names.{Text, startproto, protocol_at, table_at}
use Rattle.db_model.specs.Numbering.{Counts, none, plus, a_block, counts_of, BlockAt, block_at, field_names}
use Rattle.db_model.specs.Questions.{Asks, Gives, and_then, Played, play, Step}
use Rattle.db_model.specs.Runs.{Run, next, evaluated, block}
use Rattle.db_model.specs.Session.{Session}
use Rattle.db_model.specs.Typed.{env_fits, Gets}

-- the values of a row, each as it was evaluated and checked for its size right then, behind those that are there
abbrev pub plain_row : List Value → List ColumnDecl → List (Eval Value) → Eval (List Value)
plain_row done [] ps = give done
plain_row done (c ∷ cs) [] = fail reason.DataSize
plain_row done (c ∷ cs) (p ∷ ps) = p >>= (λ v. result (when (fits_column c.size v) reason.DataSize v) >>= (λ w. plain_row (done ++ w ∷ []) cs ps))

module _ (db : Database) (fields : List Text) where
  abbrev pub plain_added : Option TableDecl → ℕ → Validity → Option ℕ → Option ℕ → List UpdateKey → List UpdateValue → Eval Answer
  plain_added None n validity keep hit keys row = give Done
  plain_added (Some d) n validity keep hit keys row =
      keys_from [] (key_sizes (Some d)) (map (λ k. val db fields k.value) keys) >>= (λ ks.
      plain_row [] d.columns (map (λ v. val db fields v.value) row) >>= (λ vs.
      asks (Add n (record { keys = ks; masks = masks_of (key_sizes (Some d)) (map (λ k. k.mask) keys); validity = validity; keep = unwrap_or keep 0; hit = unwrap_or hit 0; row = vs }))))

  abbrev pub plain_update : Text → Validity → Option ℕ → Option ℕ → List UpdateKey → List UpdateValue → Run
  plain_update table validity keep hit keys row = evaluated (plain_added (slice_get db.tables (table_at db table)) (table_at db table) validity keep hit keys row) (λ a. next)

  module _ (include : Text → Run) where
    -- an update, and every other element as it is
    abbrev pub plain_does : ElementOf Part → Counts → Run
    plain_does (layer.Field line name f longname show) at = does db fields include (layer.Field line name f longname show) at
    plain_does (layer.Block line name longname body) at = does db fields include (layer.Block line name longname body) at
    plain_does (layer.IncludeBlock line name) at = does db fields include (layer.IncludeBlock line name) at
    plain_does (layer.Loop line k e body) at = does db fields include (layer.Loop line k e body) at
    plain_does (layer.LoopCtrl line c) at = does db fields include (layer.LoopCtrl line c) at
    plain_does (layer.Switch line e cases other) at = does db fields include (layer.Switch line e cases other) at
    plain_does (layer.If line e true_line so other) at = does db fields include (layer.If line e true_line so other) at
    plain_does (layer.Assign line name e) at = does db fields include (layer.Assign line name e) at
    plain_does (layer.Update line table validity keep hit keys row) at = plain_update table validity keep hit keys row
    plain_does (layer.NextProto line e) at = does db fields include (layer.NextProto line e) at

    unfoldable pub plain_means : Element → Counts → Run
    plain_means = noted_element Counts counts_of (Counts → Run) plain_does

    abbrev pub plain_parts : List Element → List Part
    plain_parts xs = map (λ x. record { note = counts_of x; means = plain_means x }) xs

abbrev pub plain_block : Database → Protocol → (Text → Run) → Option BlockAt → Run
plain_block db p include None = next
plain_block db p include (Some b) = block b.before.blocks (each (plain_parts db (field_names p) include b.body) (plus b.before a_block))

abbrev pub plain_included : Database → Protocol → ℕ → Text → Run
plain_included db p zero name z = next z
plain_included db p (suc n) name z = plain_block db p (plain_included db p n) (block_at p name) z

abbrev pub plain_list : Database → Protocol → List Element → Counts → Run
plain_list db p xs at = each (plain_parts db (field_names p) (plain_included db p MOST_NESTED) xs) at

abbrev pub plain_run : Database → Option Protocol → Run
plain_run db None = next
plain_run db (Some p) = plain_list db p (elements_of p) none

unfoldable pub plain_chain : Database → ℕ → ℕ → Step Frame (List Proto)
plain_chain db zero q z = Gives ([], z)
plain_chain db (suc n) q z = and_then (plain_run db (slice_get db.protocols q) (entered z)) (λ r. follow r.0.0 n (plain_chain db n) q z.env.at r.0.1 r.1)

unfoldable pub plain_decoding : Database → Packet → Asks (List Proto)
plain_decoding db p = and_then (plain_chain db MOST_ENTERED (protocol_at db startproto) (start db p)) (λ r. Gives (r.0 ++ payload r.1))

unfoldable pub plain_dec : Database → Packet → Session → Played (List Proto)
plain_dec db p s = play db p.stamp (plain_decoding db p) s

-- a step that leaves a state that fits where it begins with one, whatever answers that fit it gets
abbrev pub KeepsEnv : {A : Type 0} → Database → Step Frame A → Type 0
KeepsEnv db p = (z : Frame) → env_fits db z.env ≡ true → Gets db (λ r. env_fits db r.1.env ≡ true) (p z)
