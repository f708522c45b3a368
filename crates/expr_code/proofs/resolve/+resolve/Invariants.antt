use Rattle.std.proofs.Common.{◌≡◌, ◌++◌, map, drop}
use Rattle.expr_code.specs.Code.{code_of}
use Rattle.expr_code.proofs.resolve.+resolve.Given as goal

abbrev pub invariant-parts-loop-e : goal.invariant-parts-loop-e
invariant-parts-loop-e l = l.codes ++ map (code_of l.db l.fields) (drop l.e-index l.expressions) ≡ map (code_of l.db l.fields) l.expressions
