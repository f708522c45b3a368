use Rattle.db_examples.proofs.Elements.{fields_are_numbered}
use Rattle.db_examples.proofs.fields_are_numbered.Goals as goal

pub returns : goal.returns
returns c = fields_are_numbered
