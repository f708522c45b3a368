use Rattle.expr_type.proofs.Declared.{declared_among}
use Rattle.db_check.proofs.repeats.is_one_of.Goals as goal

pub returns : goal.returns
returns g c = declared_among g.T.Declaration.named c.args.declared.now c.args.name.now c.place_of.result c.place_of.ensures.place
