use Rattle.std.proofs.Common.{◌≡◌, ◌<◌, ◌+◌, [], length, vec_len}
use Rattle.expr_text.specs.Lexing.{plain}
use Rattle.expr_text.specs.Stages.{resume, IsStage}
use Rattle.expr_text.proofs.text.text.Given as goal

abbrev pub invariant-loop-byte : goal.invariant-loop-byte
invariant-loop-byte l = record {
  goes : resume l.stage l.text.items l.size l.left ≡ plain [] 1 l.fn.bytes;
  stage : IsStage l.stage;
  size : l.size + length l.left ≡ 1 + length l.fn.bytes;
  fewer : vec_len l.text < l.size;
}

abbrev pub decreases-loop-byte : goal.decreases-loop-byte
decreases-loop-byte l = length l.left
