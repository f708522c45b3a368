use Rattle.std.proofs.Common.{refl}
use Rattle.expr_code.specs.Meaning.{code_val}
use Rattle.expr_eval.proofs.Forms.{number_is, binary_is, to_number_is, length_is}
use Rattle.expr_eval.proofs.Taken.{constant_number, binary_number, to_number_number, length_number}
use Rattle.expr_eval.proofs.numbers.gives_number.Goals as goal

pub returns-in-Number : goal.returns-in-Number
returns-in-Number c = λ db h. constant_number (code_val db c.args.code.now) c.in-Number._n (λ z. number_is db c.args.code.now c.in-Number._n z c.in-Number.is)

pub returns-in-Binary : goal.returns-in-Binary
returns-in-Binary c = λ db h. binary_number (code_val db c.args.code.now) (code_val db c.in-Binary._x) (code_val db c.in-Binary._y) c.in-Binary._op (binary_is db c.args.code.now c.in-Binary._x c.in-Binary._y c.in-Binary._x c.in-Binary._y c.in-Binary._op c.in-Binary.is refl refl)

pub returns-in-ToNumber : goal.returns-in-ToNumber
returns-in-ToNumber c = λ db h. to_number_number (code_val db c.args.code.now) (code_val db c.in-ToNumber._x) (to_number_is db c.args.code.now c.in-ToNumber._x c.in-ToNumber._x c.in-ToNumber.is refl)

pub returns-in-LengthOf : goal.returns-in-LengthOf
returns-in-LengthOf c = λ db h. length_number (code_val db c.args.code.now) (code_val db c.in-LengthOf._x) (length_is db c.args.code.now c.in-LengthOf._x c.in-LengthOf._x c.in-LengthOf.is refl)
