use Rattle.std.proofs.Common.{subst, ◌≤◌, length}
use Rattle.db_model.specs.declared.database.Database.{Database}
use Rattle.db_model.specs.declared.limits.TheConstants.{MOST_PROTOCOLS, MOST_VARIABLES, MOST_TABLES}
use Rattle.db_model.proofs.Accepted.{few_declared}
use Rattle.db_model.proofs.checked.CheckedDb.database.Goals as goal

pub returns-clause-protocols : goal.returns-clause-protocols
returns-clause-protocols c = subst (λ (d : Database). length d.protocols ≤ MOST_PROTOCOLS) c.self.view_is (few_declared c.self.inside.database c.self.invariant.0.accepted).protocols

pub returns-clause-variables : goal.returns-clause-variables
returns-clause-variables c = subst (λ (d : Database). length d.variables ≤ MOST_VARIABLES) c.self.view_is (few_declared c.self.inside.database c.self.invariant.0.accepted).variables

pub returns-clause-tables : goal.returns-clause-tables
returns-clause-tables c = subst (λ (d : Database). length d.tables ≤ MOST_TABLES) c.self.view_is (few_declared c.self.inside.database c.self.invariant.0.accepted).tables
