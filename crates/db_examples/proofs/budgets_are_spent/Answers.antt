use Rattle.db_examples.proofs.Elements.{budgets_are_spent}
use Rattle.db_examples.proofs.budgets_are_spent.Goals as goal

pub returns : goal.returns
returns c = budgets_are_spent
