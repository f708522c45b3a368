use Rattle.std.proofs.Common.{◌/◌, ◌^◌, ap, bit_and}
use Rattle.fields.proofs.NumberLemmas.{lowest_one-zeros}
use Rattle.fields.proofs.bits.masked.Goals as goal

pub returns : goal.returns
returns c = ap (λ n. bit_and c.args.number c.args.mask / 2 ^ n) (lowest_one-zeros 32 c.args.mask)
