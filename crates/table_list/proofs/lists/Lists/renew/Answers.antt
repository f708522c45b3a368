use Rattle.std.proofs.Common.{◌≡◌, Option, Some, IfSome, sym, subst}
use Rattle.db_model.specs.declared.entry.Entry.{Entry}
use Rattle.db_model.specs.Table.{renewed_by}
use Rattle.table_list.specs.Lists.{content, replaced}
use Rattle.table_list.proofs.Renewals.{renewed}
use Rattle.table_list.proofs.Sound.{room_less}
use Rattle.table_list.proofs.lists.Lists.renew.Goals as goal

pub returns-in-UpdateOnHit-clause-content : goal.returns-in-UpdateOnHit-clause-content
returns-in-UpdateOnHit-clause-content c =
    let d = c.args.declaration.now in
    let t = content c.args.self.now in
    let u = content c.set_deadline.new.self in
    let e = c.entry-entry.result.now in
    let x = c.after_seconds-deadline.result in
    let s : u ≡ replaced c.args.place (record e { deadline = Some x }) t = subst (λ (o : Option Entry). IfSome o (λ (y : Entry). u ≡ replaced c.args.place (record y { deadline = Some x }) t)) c.entry-entry.ensures c.set_deadline.ensures.content in
    subst (λ (o : Option Entry). IfSome o (λ (y : Entry). u ≡ renewed_by y.validity d t c.args.keys.now c.args.t y)) (sym c.entry-entry.ensures)
    (renewed d t u c.args.place e c.args.keys.now c.args.t x c.requires.fits c.requires.kept c.entry-entry.ensures c.in-UpdateOnHit.is c.after_seconds-deadline.ensures s)

pub returns-in-UpdateOnHit-clause-room : goal.returns-in-UpdateOnHit-clause-room
returns-in-UpdateOnHit-clause-room c = λ n h. c.set_deadline.ensures.room n (room_less n c.args.self.now h)
