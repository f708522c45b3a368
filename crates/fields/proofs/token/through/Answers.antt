use Rattle.std.proofs.Common.{sym}
use Rattle.fields.proofs.Through.{through-found, through-missed}
use Rattle.fields.proofs.token.through.Goals as goal

pub returns-in-Some : goal.returns-in-Some
returns-in-Some c = sym (through-found c.args.token.now c.args.bytes.now c.in-Some.place c.in-Some.ensures)

pub returns-in-None : goal.returns-in-None
returns-in-None c = sym (through-missed c.args.token.now c.args.bytes.now c.in-None.ensures)
