use Rattle.std.proofs.Common.{◌∙◌, arith}
use Rattle.npd_host.proofs.Transfers.{gave_then, take-put_mid_front}
use Rattle.npd_host.proofs.transfer.fill.Goals as goal

pub loop-done-preserved : goal.loop-done-preserved
loop-done-preserved g c =
    let before = c.loop-done.invariant in
    let now = c.in_ok-count.ensures in record {
      within = omega arith;
      gave = rw (take-put_mid_front c.loop-done.done _ c.in_ok-count.count c.loop-done.buf c.read.new.buf before.within (omega arith)) (gave_then _ _ _ _ _ _ before.gave now.gave);
      frame = record {
        outputs = now.frame.outputs ∙ before.frame.outputs;
        files = now.frame.files ∙ before.frame.files;
        later = λ kind name. omega (arith, before.frame.later kind name, now.frame.later kind name);
      };
    }
