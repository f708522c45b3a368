use Rattle.engine_cases.proofs.OneTable.{look_fits_first, add_fits_first, looks, looks_elsewhere, adds, adds_elsewhere}
use Rattle.engine_cases.proofs.answers.answer_of.Goals as goal

pub look-requires-clause-keys : goal.look-requires-clause-keys
look-requires-clause-keys c = look_fits_first c.args.db.now _ c.args.question.now c.in-Look.number c.in-Look.keys c.in-Look.renew c.requires.declared c.requires.fits c.in-Look.is c.if-number-eq0.true

pub add-requires-clause-entry : goal.add-requires-clause-entry
add-requires-clause-entry c = add_fits_first c.args.db.now _ c.args.question.now c.in-Add.number c.in-Add.entry c.requires.declared c.requires.fits c.in-Add.is c.if-number-eq0-2.true

pub returns-then-number-eq0-clause-answer : goal.returns-then-number-eq0-clause-answer
returns-then-number-eq0-clause-answer c = looks c.args.db.now _ _ _ c.args.question.now c.in-Look.number c.in-Look.keys c.in-Look.renew c.args.t _ c.requires.declared c.in-Look.is c.if-number-eq0.true c.look.ensures.answer c.look.ensures.content

pub returns-else-number-eq0-clause-answer : goal.returns-else-number-eq0-clause-answer
returns-else-number-eq0-clause-answer c = looks_elsewhere c.args.db.now _ c.args.question.now c.in-Look.number c.in-Look.keys c.in-Look.renew c.args.t c.in-Look.is c.if-number-eq0.false

pub returns-then-number-eq0-2-clause-answer : goal.returns-then-number-eq0-2-clause-answer
returns-then-number-eq0-2-clause-answer c = adds c.args.db.now _ _ _ c.args.question.now c.in-Add.number c.in-Add.entry c.args.t c.requires.declared c.in-Add.is c.if-number-eq0-2.true c.add.ensures.content

pub returns-else-number-eq0-2-clause-answer : goal.returns-else-number-eq0-2-clause-answer
returns-else-number-eq0-2-clause-answer c = adds_elsewhere c.args.db.now _ c.args.question.now c.in-Add.number c.in-Add.entry c.args.t c.in-Add.is c.if-number-eq0-2.false
