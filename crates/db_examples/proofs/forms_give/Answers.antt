use Rattle.db_examples.proofs.Expressions.{forms_give}
use Rattle.db_examples.proofs.forms_give.Goals as goal

pub returns : goal.returns
returns c = forms_give
