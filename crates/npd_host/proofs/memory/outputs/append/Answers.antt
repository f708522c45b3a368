use Rattle.std.proofs.Common.{Result, Ok, Err, OnOk}
use Rattle.std.proofs.lemmas.Option.{slice_get-get_or}
use Rattle.npd_host.proofs.Places.{Took-set, within_given}
use Rattle.npd_host.proofs.memory.outputs.append.Goals as goal

on_ok : {A E P Q : Type 0} (result : Result A E) → (P → Q) → OnOk result P → OnOk result Q
on_ok (Ok x) f p = f p
on_ok (Err e) f p = tt

pub returns-clause-took : goal.returns-clause-took
returns-clause-took c =
    let at = slice_get-get_or c.args.outputs.now c.args.id.0 c.index-outputs-id.result (within_given _ _ _ c.requires) in
    on_ok c.append.result (Took-set _ _ _ _ _ at) c.append.ensures.added
