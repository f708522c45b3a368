use Rattle.std.proofs.Common.{◌≡◌, map, drop}
use Rattle.db_model.specs.declared.database.KeyDecl.{KeyDecl}
use Rattle.pdl_code.specs.declared.code.KeyCode.{KeyCode}
use Rattle.expr_code.specs.Meaning.{code_val}
use Rattle.db_model.specs.Over.{point}
use Rattle.decode_vm.proofs.Updates.{KeysLeft}
use Rattle.decode_vm.proofs.update.keys_of.Given as goal

abbrev pub invariant-loop-i : goal.invariant-loop-i
invariant-loop-i g l = record {
  database : g.A.Answers.database l.answers ≡ g.A.Answers.database l.fn.answers;
  packet : l.env.packet ≡ l.fn.env.packet;
  so_far : KeysLeft l.fn.db (map (λ (k : KeyDecl). k.size) l.fn.sizes) (map (λ (k : KeyCode). code_val l.fn.db k.value) l.fn.parts) (point l.fn.env (g.A.Answers.content l.fn.answers) (g.A.Answers.told l.fn.answers))
      l.keys (drop l.i (map (λ (k : KeyDecl). k.size) l.fn.sizes)) (drop l.i (map (λ (k : KeyCode). code_val l.fn.db k.value) l.fn.parts)) (point l.env (g.A.Answers.content l.answers) (g.A.Answers.told l.answers));
}
