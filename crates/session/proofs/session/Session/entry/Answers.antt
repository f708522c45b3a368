use Rattle.std.proofs.Common.{◌≡◌, ◌<◌, true, length, sym, subst, IfOk, IfSome}
use Rattle.session.specs.Entries.{fits_in}
use Rattle.session.specs.State.{State}
use Rattle.session.proofs.Sound.{within, there}
use Rattle.session.proofs.Filled.{entry_fits}
use Rattle.session.proofs.session.Session.entry.Goals as goal

pub returns-clause-fits : goal.returns-clause-fits
returns-clause-fits c =
    let s = c.self.inside in
    let db = s.of.database in
    let ts = s.tables.items in
    let n = c.args.table in
    let x = c.index.result.now in
    let lt : n < length ts = within db ts s.spare n c.self.invariant (subst (λ (z : State). n < length z.database.tables) (sym c.self.view_is) c.requires) in
    subst (λ (z : State). IfOk c.entry.result (λ e. IfSome e (λ y. fits_in z.database n c.args.masked y ≡ true))) c.self.view_is
    (entry_fits db ts s.spare n x c.args.masked c.args.at c.entry.result c.self.invariant (there ts n x lt c.index.ensures) c.entry.ensures.entry c.entry.ensures.fits)
