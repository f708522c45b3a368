use Rattle.std.proofs.Common.{◌≡◌, map, drop, max, ◌+◌, ◌*◌}
use Rattle.expr_code.proofs.code.ExprCode.TheLaws.{the_size}
use Rattle.db_model.specs.declared.database.KeyDecl.{KeyDecl}
use Rattle.db_model.specs.Over.{point}
use Rattle.expr_code.specs.Meaning.{code_val}
use Rattle.expr_eval.proofs.Steps.{Keys_so_far}
use Rattle.expr_eval.proofs.evaluation.+parts.Given as goal

abbrev pub invariant-keys-loop-i : goal.invariant-keys-loop-i
invariant-keys-loop-i g l = record {
  database : g.A.Answers.database l.answers ≡ g.A.Answers.database l.fn.answers;
  packet : l.env.packet ≡ l.fn.env.packet;
  so_far : Keys_so_far l.fn.db (map (λ (k : KeyDecl). k.size) l.fn.sizes) (map (code_val l.fn.db) l.fn.parts) (point l.fn.env (g.A.Answers.content l.fn.answers) (g.A.Answers.told l.fn.answers))
      l.keys (drop l.i (map (λ (k : KeyDecl). k.size) l.fn.sizes)) (drop l.i (map (code_val l.fn.db) l.fn.parts)) (point l.env (g.A.Answers.content l.answers) (g.A.Answers.told l.answers));
}

-- The depth of what is evaluated. A form stands above the evaluation of its parts, and a look-up above its keys. What is taken as a number stands above what is evaluated for it.
abbrev pub decreases-evaluate : goal.decreases-evaluate
decreases-evaluate g l = 6 * goal.size-evaluate g l

abbrev pub decreases-taken_number : goal.decreases-taken_number
decreases-taken_number g l = 6 * goal.size-taken_number g l + 1

abbrev pub decreases-evaluate_number : goal.decreases-evaluate_number
decreases-evaluate_number g l = 6 * goal.size-evaluate_number g l + 2

abbrev pub decreases-negation : goal.decreases-negation
decreases-negation g l = 6 * goal.size-negation g l + 3

abbrev pub decreases-to_number : goal.decreases-to_number
decreases-to_number g l = 6 * goal.size-to_number g l + 2

abbrev pub decreases-converted : goal.decreases-converted
decreases-converted g l = 6 * goal.size-converted g l + 1

abbrev pub decreases-length_of : goal.decreases-length_of
decreases-length_of g l = 6 * goal.size-length_of g l + 1

abbrev pub decreases-to_bytes : goal.decreases-to_bytes
decreases-to_bytes g l = 6 * goal.size-to_bytes g l + 3

abbrev pub decreases-has_text : goal.decreases-has_text
decreases-has_text g l = 6 * goal.size-has_text g l + 1

abbrev pub decreases-keys : goal.decreases-keys
decreases-keys g l = 6 * goal.size-keys g l + 1

abbrev pub decreases-look_up : goal.decreases-look_up
decreases-look_up g l = 6 * goal.size-look_up g l + 2

-- of several parts the deepest counts
abbrev pub decreases-conjunction : goal.decreases-conjunction
decreases-conjunction g l = 6 * max (the_size l.x.now) (the_size l.y.now) + 3

abbrev pub decreases-disjunction : goal.decreases-disjunction
decreases-disjunction g l = 6 * max (the_size l.x.now) (the_size l.y.now) + 3

abbrev pub decreases-comparison : goal.decreases-comparison
decreases-comparison g l = 6 * max (the_size l.parts.0.now) (the_size l.parts.1.now) + 3

abbrev pub decreases-operation : goal.decreases-operation
decreases-operation g l = 6 * max (the_size l.parts.0.now) (the_size l.parts.1.now) + 4

abbrev pub decreases-slice : goal.decreases-slice
decreases-slice g l = 6 * max (the_size l.base.now) (max (the_size l.range.0.now) (the_size l.range.1.now)) + 3
