use Rattle.std.proofs.Common.{◌≡◌, ◌<◌, ◌∙◌, true, length, sym, ap, subst}
use Rattle.db_model.specs.declared.question.Question.TheVariants.{Add}
use Rattle.db_model.specs.Fitting.{question_fits}
use Rattle.db_model.specs.Session.{ask}
use Rattle.session.specs.State.{State}
use Rattle.session.proofs.Sound.{within, there, stands, add_sound, add_content}
use Rattle.session.proofs.session.Session.add.Goals as goal

pub add-requires-clause-entry : goal.add-requires-clause-entry
add-requires-clause-entry c =
    let s = c.self.inside in
    let db = s.of.database in
    let ts = s.tables.items in
    let n = c.args.table in
    let x = c.index_mut.result.now in
    let f : question_fits db (Add n c.args.entry.now) ≡ true = subst (λ (z : State). question_fits z.database (Add n c.args.entry.now) ≡ true) (sym c.self.view_is) c.requires.fits in
    let lt : n < length ts = within db ts s.spare n c.self.invariant (c.table_of_question.ensures.number db (Add n c.args.entry.now) f) in
    c.table_of_question.ensures.added db n c.args.entry.now x.declaration (stands db ts s.spare n x c.self.invariant (there ts n x lt c.index_mut.ensures.value)).declared f

pub invariant_of-self : goal.invariant_of-self
invariant_of-self c =
    let s = c.self.inside in
    let db = s.of.database in
    let ts = s.tables.items in
    let n = c.args.table in
    let x = c.index_mut.result.now in
    let f : question_fits db (Add n c.args.entry.now) ≡ true = subst (λ (z : State). question_fits z.database (Add n c.args.entry.now) ≡ true) (sym c.self.view_is) c.requires.fits in
    let lt : n < length ts = within db ts s.spare n c.self.invariant (c.table_of_question.ensures.number db (Add n c.args.entry.now) f) in
    let l : 0 < s.spare = subst (λ (z : State). 0 < z.spare) (sym c.self.view_is) c.requires.room in
    add_sound c.fits_stay.ensures db ts s.spare n x c.add.new.self c.args.entry.now c.args.t c.self.invariant l f c.requires.time
    (record { within = lt; was = c.index_mut.ensures.value; declaration = c.add.ensures.declaration; spare = c.add.ensures.spare }) c.add.ensures.content

pub returns-clause-content : goal.returns-clause-content
returns-clause-content c =
    let s = c.self.inside in
    let db = s.of.database in
    let ts = s.tables.items in
    let n = c.args.table in
    let x = c.index_mut.result.now in
    let f : question_fits db (Add n c.args.entry.now) ≡ true = subst (λ (z : State). question_fits z.database (Add n c.args.entry.now) ≡ true) (sym c.self.view_is) c.requires.fits in
    let lt : n < length ts = within db ts s.spare n c.self.invariant (c.table_of_question.ensures.number db (Add n c.args.entry.now) f) in
    add_content db ts s.spare n x c.add.new.self c.args.entry.now c.args.t c.self.invariant (record { within = lt; was = c.index_mut.ensures.value; declaration = c.add.ensures.declaration; spare = c.add.ensures.spare }) c.add.ensures.content
    ∙ ap (λ (z : State). (ask z.database z.content (Add n c.args.entry.now) c.args.t).1) c.self.view_is
