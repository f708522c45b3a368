use Rattle.npd_host.proofs.Faults.{Rose-push}
use Rattle.npd_host.proofs.memory.calls.note.Goals as goal

pub returns-in-Ok-clause-cause : goal.returns-in-Ok-clause-cause
returns-in-Ok-clause-cause c = λ _. rw c.in-Ok.ensures.pushed (Rose-push c.args.failed.now.items (record { kind = c.args.kind; name = c.args.name.now }))
