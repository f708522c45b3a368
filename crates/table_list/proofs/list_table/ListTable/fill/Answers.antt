use Rattle.std.proofs.Common.{◌≡◌, ◌∙◌, ◌<◌, true, false, length, sym, ap, subst}
use Rattle.std.specs.List.{list_any}
use Rattle.db_model.specs.Fitting.{table_fits}
use Rattle.db_model.specs.Kept.{Kept}
use Rattle.db_model.specs.Table.{Parts, same_place}
use Rattle.table_list.specs.Lists.{content, part, limit, part_fits, appended}
use Rattle.table_list.specs.State.{State}
use Rattle.table_list.proofs.Filled.{filled_fits, filled_kept}
use Rattle.table_list.proofs.Held.{holds_keys, holds_masks, holds_row, part_facts}
use Rattle.table_list.proofs.Sound.{sound_after}
use Rattle.table_list.proofs.list_table.ListTable.fill.Goals as goal

pub filled-requires-clause-keys : goal.filled-requires-clause-keys
filled-requires-clause-keys c =
    let s = c.self.inside in
    let f : part_fits c.args.masked s.declaration c.args.entry.now ≡ true = subst (λ (x : State). part_fits c.args.masked x.declaration c.args.entry.now ≡ true) (sym c.self.view_is) c.requires.fits in
    holds_keys s.declaration s.keys s.row s.lists s.ready.items c.take-ready.new.ready.items c.take-ready.result c.self.invariant c.take-ready.ensures c.args.entry.now.keys (part_facts c.args.masked s.declaration c.args.entry.now f).keys

pub filled-requires-clause-masks : goal.filled-requires-clause-masks
filled-requires-clause-masks c =
    let s = c.self.inside in
    let f : part_fits c.args.masked s.declaration c.args.entry.now ≡ true = subst (λ (x : State). part_fits c.args.masked x.declaration c.args.entry.now ≡ true) (sym c.self.view_is) c.requires.fits in
    holds_masks s.declaration s.keys s.row s.lists s.ready.items c.take-ready.new.ready.items c.take-ready.result c.self.invariant c.take-ready.ensures c.args.entry.now.masks (part_facts c.args.masked s.declaration c.args.entry.now f).masks

pub filled-requires-clause-row : goal.filled-requires-clause-row
filled-requires-clause-row c =
    let s = c.self.inside in
    let f : part_fits c.args.masked s.declaration c.args.entry.now ≡ true = subst (λ (x : State). part_fits c.args.masked x.declaration c.args.entry.now ≡ true) (sym c.self.view_is) c.requires.fits in
    holds_row s.declaration s.keys s.row s.lists s.ready.items c.take-ready.new.ready.items c.take-ready.result c.self.invariant c.take-ready.ensures c.args.entry.now.row (part_facts c.args.masked s.declaration c.args.entry.now f).row

pub invariant_of-self : goal.invariant_of-self
invariant_of-self c =
    let s = c.self.inside in
    let d = s.declaration in
    let t = content s.lists in
    let m = c.args.masked in
    let e = c.args.entry.now in
    let f : part_fits m d e ≡ true = subst (λ (x : State). part_fits m x.declaration e ≡ true) (sym c.self.view_is) c.requires.fits in
    let k : length (part m t) < limit m d = subst (λ (x : State). length (part m x.content) < limit m x.declaration) (sym c.self.view_is) c.requires.room in
    let n : list_any (same_place e) (part m t) ≡ false = subst (λ (x : State). list_any (same_place e) (part m x.content) ≡ false) (sym c.self.view_is) c.requires.apart in
    let q : content c.append.new.self ≡ appended m e t = c.append.ensures.content ∙ ap (λ x. appended m x t) c.filled.ensures in
    sound_after d s.keys s.row s.lists c.append.new.self s.ready.items c.take-ready.new.ready.items c.take-ready.result c.self.invariant c.take-ready.ensures
    (ap (λ (u : Parts). table_fits d u) q ∙ filled_fits m d t e c.self.invariant.fits k f)
    (subst (λ (u : Parts). Kept d u) (sym q) (filled_kept m d t e c.self.invariant.kept k n))
    c.append.ensures.room
