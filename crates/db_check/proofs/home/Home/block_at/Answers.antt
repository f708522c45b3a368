use Rattle.std.proofs.Common.{◌∙◌, ap}
use Rattle.db_model.specs.NameIndex.{block_number_at}
use Rattle.db_check.proofs.home.Home.block_at.Goals as goal

pub returns : goal.returns
returns c = c.block_at.ensures ∙ ap (λ o. block_number_at o c.args.name.now) c.requires.protocol_is
