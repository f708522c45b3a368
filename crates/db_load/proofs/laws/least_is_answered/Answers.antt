use Rattle.db_load.proofs.Least.{refused_by_faults, refused_by_first}
use Rattle.db_load.proofs.laws.least_is_answered.Goals as goal

pub returns-clause-where_any : goal.returns-clause-where_any
returns-clause-where_any c = refused_by_faults

pub returns-clause-first : goal.returns-clause-first
returns-clause-first c = refused_by_first
