use Rattle.std.proofs.Common.{◌≡◌, ℕ, true, refl, slice_index, arith, rules}
use Rattle.show.proofs.Runs.{run_more}
use Rattle.show.proofs.value.run_of.Goals as goal

pub loop-i-preserved : goal.loop-i-preserved
loop-i-preserved c =
    let so : c.is_itself.result ≡ true = search rules in
    λ form. run_more form c.args.bytes.now c.loop-i.i (slice_index c.args.bytes.now c.loop-i.i) (omega arith) refl (c.loop-i.invariant form) (c.is_itself.ensures so form)
