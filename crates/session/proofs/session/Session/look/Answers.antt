use Rattle.std.proofs.Common.{◌≡◌, ◌<◌, ◌∙◌, true, length, sym, ap, subst}
use Rattle.db_model.specs.declared.question.Question.TheVariants.{Look}
use Rattle.db_model.specs.Fitting.{question_fits}
use Rattle.db_model.specs.Session.{ask}
use Rattle.session.specs.State.{State}
use Rattle.session.proofs.Sound.{within, there, stands, look_sound, look_answer, look_content}
use Rattle.session.proofs.session.Session.look.Goals as goal

pub look-requires-clause-keys : goal.look-requires-clause-keys
look-requires-clause-keys c =
    let s = c.self.inside in
    let db = s.of.database in
    let ts = s.tables.items in
    let n = c.args.table in
    let x = c.index_mut.result.now in
    let f : question_fits db (Look n c.args.keys.now c.args.renew) ≡ true = subst (λ (z : State). question_fits z.database (Look n c.args.keys.now c.args.renew) ≡ true) (sym c.self.view_is) c.requires.fits in
    let lt : n < length ts = within db ts s.spare n c.self.invariant (c.table_of_question.ensures.number db (Look n c.args.keys.now c.args.renew) f) in
    c.table_of_question.ensures.looked db n c.args.keys.now c.args.renew x.declaration (stands db ts s.spare n x c.self.invariant (there ts n x lt c.index_mut.ensures.value)).declared f

pub invariant_of-self : goal.invariant_of-self
invariant_of-self c =
    let s = c.self.inside in
    let db = s.of.database in
    let ts = s.tables.items in
    let n = c.args.table in
    let x = c.index_mut.result.now in
    let f : question_fits db (Look n c.args.keys.now c.args.renew) ≡ true = subst (λ (z : State). question_fits z.database (Look n c.args.keys.now c.args.renew) ≡ true) (sym c.self.view_is) c.requires.fits in
    let lt : n < length ts = within db ts s.spare n c.self.invariant (c.table_of_question.ensures.number db (Look n c.args.keys.now c.args.renew) f) in
    let l : 0 < s.spare = subst (λ (z : State). 0 < z.spare) (sym c.self.view_is) c.requires.room in
    look_sound c.fits_stay.ensures db ts s.spare n x c.look.new.self c.args.keys.now c.args.renew c.args.t c.self.invariant l f c.requires.time
    (record { within = lt; was = c.index_mut.ensures.value; declaration = c.look.ensures.declaration; spare = c.look.ensures.spare }) c.look.ensures.content

pub returns-clause-answer : goal.returns-clause-answer
returns-clause-answer c =
    let s = c.self.inside in
    let db = s.of.database in
    let ts = s.tables.items in
    let n = c.args.table in
    let x = c.index_mut.result.now in
    let f : question_fits db (Look n c.args.keys.now c.args.renew) ≡ true = subst (λ (z : State). question_fits z.database (Look n c.args.keys.now c.args.renew) ≡ true) (sym c.self.view_is) c.requires.fits in
    let lt : n < length ts = within db ts s.spare n c.self.invariant (c.table_of_question.ensures.number db (Look n c.args.keys.now c.args.renew) f) in
    c.look.ensures.answer
    ∙ look_answer db ts s.spare n x c.look.new.self c.args.keys.now c.args.renew c.args.t c.self.invariant (record { within = lt; was = c.index_mut.ensures.value; declaration = c.look.ensures.declaration; spare = c.look.ensures.spare })
    ∙ ap (λ (z : State). (ask z.database z.content (Look n c.args.keys.now c.args.renew) c.args.t).0) c.self.view_is

pub returns-clause-content : goal.returns-clause-content
returns-clause-content c =
    let s = c.self.inside in
    let db = s.of.database in
    let ts = s.tables.items in
    let n = c.args.table in
    let x = c.index_mut.result.now in
    let f : question_fits db (Look n c.args.keys.now c.args.renew) ≡ true = subst (λ (z : State). question_fits z.database (Look n c.args.keys.now c.args.renew) ≡ true) (sym c.self.view_is) c.requires.fits in
    let lt : n < length ts = within db ts s.spare n c.self.invariant (c.table_of_question.ensures.number db (Look n c.args.keys.now c.args.renew) f) in
    look_content db ts s.spare n x c.look.new.self c.args.keys.now c.args.renew c.args.t c.self.invariant (record { within = lt; was = c.index_mut.ensures.value; declaration = c.look.ensures.declaration; spare = c.look.ensures.spare }) c.look.ensures.content
    ∙ ap (λ (z : State). (ask z.database z.content (Look n c.args.keys.now c.args.renew) c.args.t).1) c.self.view_is
