use Rattle.engine_cases.proofs.OneTable.{looks_for_nothing, adds_nothing}
use Rattle.engine_cases.proofs.answers.nothing.Goals as goal

pub returns-in-Look : goal.returns-in-Look
returns-in-Look c db t = looks_for_nothing db c.args.question.now c.in-Look.table c.in-Look.keys c.in-Look.renew t c.in-Look.is

pub returns-in-Add : goal.returns-in-Add
returns-in-Add c db t = adds_nothing db c.args.question.now c.in-Add.table c.in-Add.entry t c.in-Add.is
