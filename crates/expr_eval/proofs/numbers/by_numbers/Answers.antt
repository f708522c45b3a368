use Rattle.std.proofs.Common.{sym, ◌∙◌}
use Rattle.expr_code.specs.Meaning.{code_val}
use Rattle.expr_eval.proofs.Taken.{others_by_numbers, both_by_numbers}
use Rattle.expr_eval.proofs.numbers.by_numbers.Goals as goal

pub returns-then-gives_number : goal.returns-then-gives_number
returns-then-gives_number c = λ db h. both_by_numbers c.args.op (code_val db c.args.x.now) (code_val db c.args.y.now) (c.gives_number.ensures db c.if-gives_number.true) (c.gives_number-then-gives_number.ensures db h)

pub returns-else-compares : goal.returns-else-compares
returns-else-compares c = λ db h. others_by_numbers c.args.op (code_val db c.args.x.now) (code_val db c.args.y.now) (sym c.compares.ensures ∙ c.if-compares.false)
