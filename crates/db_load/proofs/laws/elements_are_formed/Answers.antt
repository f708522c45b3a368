use Rattle.db_load.proofs.Formed.{each_has_row, each_has_rule, each_value_formed}
use Rattle.db_load.proofs.laws.elements_are_formed.Goals as goal

pub returns-clause-rows : goal.returns-clause-rows
returns-clause-rows c = each_has_row

pub returns-clause-rules : goal.returns-clause-rules
returns-clause-rules c = each_has_rule

pub returns-clause-values : goal.returns-clause-values
returns-clause-values c = each_value_formed
