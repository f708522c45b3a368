use Rattle.std.proofs.Common.{◌≡◌, drop}
use Rattle.expr_eval.specs.Latest.{later}
use Rattle.expr_eval.proofs.Latest.{latest_of}
use Rattle.expr_eval.proofs.fields.last_place.Given as goal

abbrev pub invariant-loop-number : goal.invariant-loop-number
invariant-loop-number l = later l.latest (latest_of (drop l.number-index l.numbers) l.present) ≡ latest_of l.numbers l.present
