-- Operations that do a run, wherever they stand: each form by itself.
use Rattle.std.specs.Prelude.{◌≡◌, ℕ, ◌+◌, Bool, true, false, if◌then◌else◌, List, [], ◌∷◌, ◌++◌, length, slice_get, Some}
use Rattle.std.proofs.Common.{sym, subst, arith, length-append}
use Rattle.db_model.specs.declared.database.Database.{Database}
use Rattle.db_model.specs.declared.element.LoopKind.{LoopKind}
use Rattle.db_model.specs.Expression.{is_so}
use Rattle.db_model.specs.Questions.{◌then◌}
use Rattle.db_model.specs.Runs.{Run, next, go, evaluated, block}
use Rattle.expr_code.specs.declared.code.ExprCode.{ExprCode}
use Rattle.pdl_code.specs.declared.code.BlockStart.{BlockStart}
use Rattle.pdl_code.specs.declared.code.Op.{Op}
use Rattle.pdl_code.specs.declared.code.Op.TheVariants.{End, Jump, Block, Include, Loop}
use Rattle.pdl_code.specs.declared.code.ProtoCode.{ProtoCode}
use Rattle.pdl_code.specs.Coding.{Ops, ended, around, if_code}
use Rattle.pdl_code.specs.Does.{IsPlain, number, loop_by, act, Does, over, plain, jumps, tests, blocks, includes, loops}
use Rattle.pdl_code.proofs.Algebra.{next_go, go_next, go_assoc, evaluated_go}
use Rattle.pdl_code.proofs.Standing.{HasAt, has_front, has_back, has_same}

module _ (db : Database) (code : ProtoCode) where
  -- where these operations stand, they do this run, and then what stands behind them
  pub record Piece (ops : Ops) (p : Run) : Type 0 where
    pub piece : (pc : ℕ) (r : Run) → HasAt code.ops pc ops → Does db code (pc + length ops) r → Does db code pc (p then go r)

  -- the same place, and the same run, under other names
  pub at_place : (m n : ℕ) (r : Run) → m ≡ n → Does db code m r → Does db code n r
  at_place m n r e d = subst (λ k. Does db code k r) e d

  pub as_run : (pc : ℕ) (p r : Run) → p ≡ r → Does db code pc p → Does db code pc r
  as_run pc p r e d = subst (λ q. Does db code pc q) e d

  pub nothing : Piece [] next
  nothing = record { piece = λ pc r h d. as_run pc r (next then go r) (sym (next_go r)) (at_place (pc + length {A = Op} []) pc r (omega arith) d) }

  pub one_then : (a b : Ops) (p q : Run) → Piece a p → Piece b q → Piece (a ++ b) (p then go q)
  one_then a b p q x y = record {
    piece = λ pc r h d.
        as_run pc (p then go (q then go r)) ((p then go q) then go r) (sym (go_assoc p q r))
        (x.piece pc (q then go r) (has_front code.ops pc a b h)
        (y.piece (pc + length a) r (has_back code.ops pc a b h) (at_place (pc + length (a ++ b)) (pc + length a + length b) r (omega (arith, length-append a b)) d)));
  }

  -- one operation that goes on behind itself
  pub one_plain : (o : Op) → IsPlain o → Piece (o ∷ []) (act db o)
  one_plain o p = record { piece = λ pc r h d. plain pc o r h.0 p (at_place (pc + length (o ∷ [])) (pc + 1 + 0) r (omega arith) d) }

  -- a whole body, to its end
  pub to_end : (body : Ops) (p : Run) (pc : ℕ) → Piece body p → HasAt code.ops pc (ended body) → Does db code pc p
  to_end body p pc x h =
      as_run pc (p then go next) p (go_next p)
      (x.piece pc next (has_front code.ops pc body (End ∷ []) h) (over (pc + length body) (has_back code.ops pc body (End ∷ []) h).0))

  -- the length of a block or a loop
  around_length : (o : ℕ → Op) (body : Ops) (pc : ℕ) → pc + length (around o body) ≡ pc + 1 + (length body + 1)
  around_length o body pc = omega (arith, length-append body (End ∷ []))

  pub one_block : (n : ℕ) (body : Ops) (p : Run) → Piece body p → Piece (around (Block n) body) (block n p)
  one_block n body p x = record {
    piece = λ pc r h d.
        blocks pc n (length body + 1) p r h.0
        (to_end body p (pc + 1 + 0) x (has_same code.ops (pc + 1) (pc + 1 + 0) (ended body) (omega arith) h.1))
        (at_place (pc + length (around (Block n) body)) (pc + 1 + (length body + 1)) r (around_length (Block n) body pc) d);
  }

  pub one_loop : (kind : LoopKind) (e : ExprCode) (body : Ops) (p : Run) → Piece body p → Piece (around (Loop kind e) body) (loop_by db kind e p)
  one_loop kind e body p x = record {
    piece = λ pc r h d.
        loops pc kind e (length body + 1) p r h.0
        (to_end body p (pc + 1 + 0) x (has_same code.ops (pc + 1) (pc + 1 + 0) (ended body) (omega arith) h.1))
        (at_place (pc + length (around (Loop kind e) body)) (pc + 1 + (length body + 1)) r (around_length (Loop kind e) body pc) d);
  }

  -- an included block, whose body does its run from its own place on
  pub one_include : (b : ℕ) (start : BlockStart) (p : Run) → slice_get code.blocks b ≡ Some start → Does db code start.at p → Piece (Include b ∷ []) (block start.number p)
  one_include b start p s body = record {
    piece = λ pc r h d.
        includes pc b start p r h.0 s body (at_place (pc + length (Include b ∷ [])) (pc + 1 + 0) r (omega arith) d);
  }

  -- one of two lists, by a test
  either : (b : Bool) (pc to : ℕ) (p q r : Run) → Does db code (pc + 1 + 0) (p then go r) → Does db code (pc + 1 + to) (q then go r) → Does db code (pc + 1 + (if b then 0 else to)) ((if b then p else q) then go r)
  either true pc to p q r x y = x
  either false pc to p q r x y = y

  pub one_test : (e : ExprCode) (so other : Ops) (p q : Run) → Piece so p → Piece other q → Piece (if_code e so other) (evaluated (number db e) (λ v. if is_so v then p else q))
  one_test e so other p q x y = record {
    piece = λ pc r h d.
        let length_is : pc + length (if_code e so other) ≡ pc + 1 + length so + 1 + length other = omega (arith, length-append so (Jump (length other) ∷ other)) in
        let end : Does db code (pc + 1 + length so + 1 + length other) r = at_place (pc + length (if_code e so other)) (pc + 1 + length so + 1 + length other) r length_is d in
        let tail = has_back code.ops (pc + 1) so (Jump (length other) ∷ other) h.1 in
        let first : Does db code (pc + 1) (p then go r) = x.piece (pc + 1) r (has_front code.ops (pc + 1) so (Jump (length other) ∷ other) h.1) (jumps (pc + 1 + length so) (length other) r tail.0 end) in
        let second : Does db code (pc + 1 + length so + 1) (q then go r) = y.piece (pc + 1 + length so + 1) r tail.1 end in
        as_run pc (evaluated (number db e) (λ v. (if is_so v then p else q) then go r)) (evaluated (number db e) (λ v. if is_so v then p else q) then go r) (sym (evaluated_go (number db e) (λ v. if is_so v then p else q) r))
        (tests pc e (length so + 1) (λ v. (if is_so v then p else q) then go r) h.0 (λ v.
        either (is_so v) pc (length so + 1) p q r (at_place (pc + 1) (pc + 1 + 0) (p then go r) (omega arith) first) (at_place (pc + 1 + length so + 1) (pc + 1 + (length so + 1)) (q then go r) (omega arith) second)));
  }
