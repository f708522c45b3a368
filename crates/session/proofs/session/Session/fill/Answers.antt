use Rattle.std.proofs.Common.{◌≡◌, ◌<◌, ◌∙◌, true, length, sym, ap, subst}
use Rattle.session.specs.Entries.{part_in, limit_in, fits_in, filled}
use Rattle.session.specs.State.{State}
use Rattle.session.specs.Tables.{contents}
use Rattle.session.proofs.Sound.{within}
use Rattle.session.proofs.Filled.{declared_by_fit, fill_sound, fill_content}
use Rattle.session.proofs.session.Session.fill.Goals as goal

pub invariant_of-self : goal.invariant_of-self
invariant_of-self c =
    let s = c.self.inside in
    let db = s.of.database in
    let ts = s.tables.items in
    let n = c.args.table in
    let x = c.index_mut.result.now in
    let m = c.args.masked in
    let e = c.args.entry.now in
    let f : fits_in db n m e ≡ true = subst (λ (z : State). fits_in z.database n m e ≡ true) (sym c.self.view_is) c.requires.fits in
    let r : length (part_in (contents ts) n m) < limit_in db n m = subst (λ (z : State). length (part_in z.content n m) < limit_in z.database n m) (sym c.self.view_is) c.requires.room in
    let lt : n < length ts = within db ts s.spare n c.self.invariant (declared_by_fit db n m e f) in
    let l : 0 < s.spare = subst (λ (z : State). 0 < z.spare) (sym c.self.view_is) c.requires.spare in
    fill_sound db ts s.spare n x c.fill.new.self m e c.self.invariant l
    (record { within = lt; was = c.index_mut.ensures.value; declaration = c.fill.ensures.declaration; spare = c.fill.ensures.spare }) f r c.fill.ensures.content

pub returns-clause-content : goal.returns-clause-content
returns-clause-content c =
    let s = c.self.inside in
    let db = s.of.database in
    let ts = s.tables.items in
    let n = c.args.table in
    let x = c.index_mut.result.now in
    let m = c.args.masked in
    let e = c.args.entry.now in
    let f : fits_in db n m e ≡ true = subst (λ (z : State). fits_in z.database n m e ≡ true) (sym c.self.view_is) c.requires.fits in
    let lt : n < length ts = within db ts s.spare n c.self.invariant (declared_by_fit db n m e f) in
    fill_content db ts s.spare n x c.fill.new.self m e c.self.invariant (record { within = lt; was = c.index_mut.ensures.value; declaration = c.fill.ensures.declaration; spare = c.fill.ensures.spare }) c.fill.ensures.content
    ∙ ap (λ (z : State). filled z.content n m e) c.self.view_is
