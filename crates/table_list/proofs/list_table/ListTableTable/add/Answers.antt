use Rattle.std.proofs.Common.{◌≡◌, ◌∙◌, true, sym, ap, subst}
use Rattle.db_model.specs.Fitting.{table_fits, add_fits}
use Rattle.db_model.specs.Kept.{Kept}
use Rattle.db_model.specs.Table.{Parts, put, add}
use Rattle.table_list.specs.Lists.{content}
use Rattle.table_list.specs.State.{State}
use Rattle.table_list.proofs.Held.{holds_keys, holds_masks, holds_row, add_facts}
use Rattle.table_list.proofs.Parts.{add_is}
use Rattle.table_list.proofs.Sound.{sound_after}
use Rattle.table_list.proofs.list_table.ListTableTable.add.Goals as goal

pub added-requires-clause-keys : goal.added-requires-clause-keys
added-requires-clause-keys c =
    let s = c.self.inside in
    let d = s.declaration in
    let n = c.args.entry.now in
    let f : add_fits d n ≡ true = subst (λ (x : State). add_fits x.declaration n ≡ true) (sym c.self.view_is) c.requires.entry in
    holds_keys d s.keys s.row s.lists s.ready.items c.take-ready.new.ready.items c.take-ready.result c.self.invariant c.take-ready.ensures n.keys (add_facts d n f).keys

pub added-requires-clause-masks : goal.added-requires-clause-masks
added-requires-clause-masks c =
    let s = c.self.inside in
    let d = s.declaration in
    let n = c.args.entry.now in
    let f : add_fits d n ≡ true = subst (λ (x : State). add_fits x.declaration n ≡ true) (sym c.self.view_is) c.requires.entry in
    holds_masks d s.keys s.row s.lists s.ready.items c.take-ready.new.ready.items c.take-ready.result c.self.invariant c.take-ready.ensures n.masks (add_facts d n f).masks

pub added-requires-clause-row : goal.added-requires-clause-row
added-requires-clause-row c =
    let s = c.self.inside in
    let d = s.declaration in
    let n = c.args.entry.now in
    let f : add_fits d n ≡ true = subst (λ (x : State). add_fits x.declaration n ≡ true) (sym c.self.view_is) c.requires.entry in
    holds_row d s.keys s.row s.lists s.ready.items c.take-ready.new.ready.items c.take-ready.result c.self.invariant c.take-ready.ensures n.row (add_facts d n f).row

pub invariant_of-self : goal.invariant_of-self
invariant_of-self c =
    let s = c.self.inside in
    let d = s.declaration in
    let n = c.args.entry.now in
    let f : add_fits d n ≡ true = subst (λ (x : State). add_fits x.declaration n ≡ true) (sym c.self.view_is) c.requires.entry in
    let t = content s.lists in
    let q : content c.put.new.self ≡ add d t n c.args.t = c.put.ensures.content ∙ ap (λ e. put d t e) c.added.ensures ∙ add_is d t n c.args.t in
    sound_after d s.keys s.row s.lists c.put.new.self s.ready.items c.take-ready.new.ready.items c.take-ready.result c.self.invariant c.take-ready.ensures
    (ap (λ (x : Parts). table_fits d x) q ∙ c.table_fits.ensures.added d t n c.args.t c.self.invariant.fits f c.requires.time)
    (subst (λ (x : Parts). Kept d x) (sym q) (c.table_keeps.ensures.added d t n c.args.t c.self.invariant.kept))
    c.put.ensures.room

pub returns-clause-content : goal.returns-clause-content
returns-clause-content c =
    let s = c.self.inside in
    let d = s.declaration in
    let n = c.args.entry.now in
    let t = content s.lists in
    let q : content c.put.new.self ≡ add d t n c.args.t = c.put.ensures.content ∙ ap (λ e. put d t e) c.added.ensures ∙ add_is d t n c.args.t in
    q ∙ ap (λ (x : State). add x.declaration x.content n c.args.t) c.self.view_is
