use Rattle.std.proofs.Common.{ℕ, ◌∙◌, ap, arith}
use Rattle.std.specs.Prelude.{bit_and}
use Rattle.db_model.specs.Table.{masked}
use Rattle.table_list.proofs.Zips.{filled_end}
use Rattle.table_list.proofs.buffer.Buffer.filled_masked.Goals as goal

pub returns : goal.returns
returns c =
    let bits = c.as_slice-bits.result.now in
    let kept = c.as_slice-kept.result.now in
    c.from_vec.ensures
    ∙ filled_end (λ (p : ℕ × ℕ). bit_and p.0 p.1) bits kept c.loop-i.bytes.items (masked bits kept) c.loop-i.i (omega (arith, c.min-i-end.ensures, c.loop-i-test.false)) c.loop-i.invariant.held
    ∙ ap (λ m. masked m kept) c.as_slice-bits.ensures.bytes ∙ ap (λ m. masked c.args.mask.now m) c.as_slice-kept.ensures.bytes
