use Rattle.std.proofs.Common.{◌≡◌, ◌+◌, ◌≤◌, take, drop, length, Ok, sym, subst, ℕ, List}
use Rattle.db_model.specs.declared.value.Value.TheVariants.{Buf}
use Rattle.db_model.specs.Expression.{slice, buf}
use Rattle.expr_eval.specs.declared.operand.Operand.{Operand}
use Rattle.expr_eval.specs.Evaluates.{Gave}
use Rattle.expr_eval.specs.Operand.{shown}
use Rattle.expr_eval.specs.Sources.{sources}
use Rattle.expr_eval.proofs.Bytes.{slice_within}
use Rattle.expr_eval.proofs.values.slice.Goals as goal

pub returns-in-Some : goal.returns-in-Some
returns-in-Some c =
    let p = c.args.env.now.packet.bytes in
    let s = c.in-Piece.start in
    let a = c.in-Piece.all in
    let h : c.args.from + c.args.count ≤ length (take a (drop s p)) = rw c.as_slice.ensures.bytes at (rw c.piece.ensures at c.in-Some.ensures.0) in
    subst (λ (x : Operand). slice (buf (shown (sources c.args.env.now) x)) c.args.from c.args.count ≡ Ok (Buf (take c.args.count (drop (s + c.args.from) p)))) (sym c.in-Piece.is) (slice_within p s a c.args.from c.args.count h)

pub returns-in-Own : goal.returns-in-Own
returns-in-Own c = subst (λ (b : List ℕ). Gave (shown (sources c.args.env.now)) (slice b c.args.from c.args.count) c.cut_copy.result) c.bytes.ensures.bytes (c.cut_copy.ensures (sources c.args.env.now))
