use Rattle.std.proofs.Common.{◌≡◌, ◌∙◌, map, sym, ap, subst}
use Rattle.db_model.specs.declared.database.Database.{Database}
use Rattle.db_model.specs.Session.{Session}
use Rattle.session.specs.Tables.{contents, IsSound}
use Rattle.session.proofs.Sound.{sound_new, contents_new}
use Rattle.table_list.specs.State.{new_table}
use Rattle.session.proofs.session.Session.new.Goals as goal

pub invariant_of-result : goal.invariant_of-result
invariant_of-result c =
    let db = c.args.db.now in
    let ts = c.in_ok-new.field-0.items in
    let e : ts ≡ map new_table db.tables = c.in_ok-new.ensures ∙ ap (map new_table) (c.as_slice.ensures ∙ ap (λ (d : Database). d.tables) c.database.ensures.database) in
    subst (λ (d : Database). IsSound d ts 0) (sym c.new.ensures) (sound_new db ts e (c.declared_fits.ensures db))

pub returns : goal.returns
returns c =
    let db = c.args.db.now in
    let ts = c.in_ok-new.field-0.items in
    let e : ts ≡ map new_table db.tables = c.in_ok-new.ensures ∙ ap (map new_table) (c.as_slice.ensures ∙ ap (λ (d : Database). d.tables) c.database.ensures.database) in
    ap (λ (d : Database). record { database = d; content = contents ts; spare = 0 }) c.new.ensures
    ∙ ap (λ (s : Session). record { database = db; content = s; spare = 0 }) (contents_new db ts e)
