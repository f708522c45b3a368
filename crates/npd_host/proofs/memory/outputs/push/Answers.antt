use Rattle.std.proofs.Common.{◌≡◌, length, rules, [], refl}
use Rattle.npd_host.specs.Named.{Named}
use Rattle.npd_host.proofs.Places.{OpensOutput-push}
use Rattle.npd_host.proofs.memory.outputs.push.Goals as goal

pub returns-clause-given : goal.returns-clause-given
returns-clause-given c =
    let output : Named = record { name = c.args.name.now; bytes = [] } in
    let place : c.len.result ≡ length c.args.outputs.now.items = search rules in
    rw (place, c.in_ok-push.ensures.items, c.in_ok-output.ensures) (OpensOutput-push c.args.outputs.now.items output refl)
