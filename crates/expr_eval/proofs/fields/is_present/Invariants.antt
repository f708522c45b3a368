use Rattle.std.proofs.Common.{◌≡◌, drop}
use Rattle.expr_code.specs.Meaning.{some_in}
use Rattle.expr_eval.proofs.fields.is_present.Given as goal

abbrev pub invariant-loop-number : goal.invariant-loop-number
invariant-loop-number l = some_in (drop l.number-index l.numbers) l.present ≡ some_in l.numbers l.present
