use Rattle.npd_host.proofs.NamedLemmas.{Puts-set, Puts-push}
use Rattle.npd_host.proofs.memory.files.put.Goals as goal

pub returns-in-Some-clause-put : goal.returns-in-Some-clause-put
returns-in-Some-clause-put c =
    let place = rw c.as_slice.ensures.value at c.in-Some.ensures in
    rw c.in_ok-file.ensures (Puts-set c.args.files.now.items c.in-Some.place (record { name = c.args.name.now; bytes = c.args.bytes.now }) place)

pub returns-in_ok-push-in-None-clause-put : goal.returns-in_ok-push-in-None-clause-put
returns-in_ok-push-in-None-clause-put c =
    let none = rw c.as_slice.ensures.value at c.in-None.ensures in
    rw (c.in_ok-push-in-None.ensures.items, c.in_ok-file.ensures) (Puts-push c.args.files.now.items (record { name = c.args.name.now; bytes = c.args.bytes.now }) none)
