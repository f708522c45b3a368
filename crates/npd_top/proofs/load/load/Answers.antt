use Rattle.npd_top.proofs.Checks.{whole-is}
use Rattle.npd_top.proofs.load.load.Goals as goal

pub returns-clause-database : goal.returns-clause-database
returns-clause-database g c =
    let read = c.in_ok-text.ensures.front in
    let is = rw c.as_slice.ensures.value at c.accepted.ensures.database in
    whole-is c.accepted.result c.args.most c.in_ok-text.text.items _ c.requires read is
