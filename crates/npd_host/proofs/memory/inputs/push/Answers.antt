use Rattle.std.proofs.Common.{◌≡◌, length, rules, arith}
use Rattle.npd_host.specs.Named.{Named}
use Rattle.npd_host.proofs.Places.{OpensInput-push}
use Rattle.npd_host.proofs.memory.inputs.push.Goals as goal

pub returns-clause-given : goal.returns-clause-given
returns-clause-given c =
    let input : Named = record { name = c.args.name.now; bytes = c.args.bytes.now } in
    let place : c.len.result ≡ length c.args.inputs.now.items = search rules in
    rw (place, c.in_ok-push.ensures.items, c.in_ok-input.ensures) (OpensInput-push c.args.inputs.now.items input (omega arith))
