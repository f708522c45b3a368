use Rattle.std.proofs.Common.{◌≡◌, ◌∙◌, ◌<◌, List, length, find, slice_get, Option, None, sym, subst}
use Rattle.db_model.specs.declared.entry.Entry.{Entry}
use Rattle.db_model.specs.Table.{same_place}
use Rattle.table_list.proofs.Parts.{put_found, put_new}
use Rattle.table_list.proofs.putting.put.Goals as goal

pub returns-in-Some-clause-items : goal.returns-in-Some-clause-items
returns-in-Some-clause-items c =
    let e = c.args.entry in
    let v = c.deref.ensures.value in
    sym (put_found c.args.limit e c.args.part.now.items c.in-Some.at c.requires.apart
    (subst (λ (l : List Entry). c.in-Some.at < length l) v c.in-Some.ensures.within)
    (subst (λ (l : List Entry). slice_get l c.in-Some.at ≡ find (same_place e) l) v c.in-Some.ensures.entry))

pub returns-in-None-clause-items : goal.returns-in-None-clause-items
returns-in-None-clause-items c =
    let e = c.args.entry in
    c.put_last.ensures.items ∙ sym (put_new c.args.limit e c.args.part.now.items (sym (subst (λ (l : List Entry). ◌≡◌ {A = Option Entry} None (find (same_place e) l)) c.deref.ensures.value c.in-None.ensures.entry)))
