use Rattle.std.proofs.Common.{sym}
use Rattle.fields.proofs.Through.{through_byte-found, through_byte-missed}
use Rattle.fields.proofs.token.through_line.Goals as goal

pub returns-in-Some : goal.returns-in-Some
returns-in-Some c = sym (through_byte-found 10 c.args.bytes.now c.in-Some.place c.in-Some.ensures)

pub returns-in-None : goal.returns-in-None
returns-in-None c = sym (through_byte-missed 10 c.args.bytes.now c.in-None.ensures)
