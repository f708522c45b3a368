use Rattle.std.proofs.Common.{◌∙◌, arith, length-take, length-drop}
use Rattle.npd_host.proofs.Transfers.{took_then, take-rest_front}
use Rattle.npd_host.proofs.transfer.write_all.Goals as goal

pub loop-done-preserved : goal.loop-done-preserved
loop-done-preserved g c =
    let before = c.loop-done.invariant in
    let now = c.in_ok-done.ensures in
    let fits = now.bound.1 in record {
      within = omega (arith, simp (length-take, length-drop) at fits);
      took = rw (← take-rest_front c.loop-done.done c.in_ok-done.field-0 c.args.bytes.now) (took_then _ _ _ _ _ _ before.took now.took);
      frame = record {
        inputs = now.frame.inputs ∙ before.frame.inputs;
        files = now.frame.files ∙ before.frame.files;
        later = λ kind name. omega (arith, before.frame.later kind name, now.frame.later kind name);
      };
    }
