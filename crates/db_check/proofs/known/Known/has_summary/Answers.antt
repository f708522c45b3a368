use Rattle.std.proofs.Common.{◌∙◌, ap, length, List}
use Rattle.std.specs.Prelude.{nat_lt}
use Rattle.db_model.specs.declared.database.SumTemplate.{SumTemplate}
use Rattle.db_model.proofs.Placed.{place_known}
use Rattle.expr_type.proofs.Declared.{declared_among}
use Rattle.db_check.proofs.known.Known.has_summary.Goals as goal

pub returns : goal.returns
returns c =
    let name = λ (d : SumTemplate). d.name in
    let xs = c.args.self.now.database.now.sum_templates in
    ap (λ (l : List SumTemplate). nat_lt c.place_of.result (length l)) c.as_slice-count.ensures
    ∙ declared_among name xs c.args.name.now c.place_of.result (place_known name xs c.as_slice-count.result.now c.args.self.now.sums.now c.args.name.now c.place_of.result c.requires.sums_are c.as_slice-count.ensures c.place_of.ensures)
