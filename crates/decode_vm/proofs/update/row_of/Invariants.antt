use Rattle.std.proofs.Common.{◌≡◌, map, drop, length}
use Rattle.expr_code.specs.Meaning.{code_val}
use Rattle.db_model.specs.Over.{point}
use Rattle.decode_vm.proofs.Updates.{RowLeft}
use Rattle.decode_vm.proofs.update.row_of.Given as goal

abbrev pub invariant-loop-i : goal.invariant-loop-i
invariant-loop-i g l = record {
  database : g.A.Answers.database l.answers ≡ g.A.Answers.database l.fn.answers;
  packet : l.env.packet ≡ l.fn.env.packet;
  so_far : RowLeft l.fn.db (length l.fn.db.protocols) l.fn.columns (map (code_val l.fn.db) l.fn.parts) (point l.fn.env (g.A.Answers.content l.fn.answers) (g.A.Answers.told l.fn.answers))
      l.row (drop l.i l.fn.columns) (drop l.i (map (code_val l.fn.db) l.fn.parts)) (point l.env (g.A.Answers.content l.answers) (g.A.Answers.told l.answers));
}
