use Rattle.std.proofs.Common.{◌≡◌, Err, refl, rules}
use Rattle.db_model.specs.declared.no_memory.NoMemory.{NoMemory}
use Rattle.decode_vm.proofs.Payload.{on_refused, none_over, some_over}
use Rattle.decode_vm.proofs.packet.add_payload.Goals as goal

pub returns-in_err-value : goal.returns-in_err-value
returns-in_err-value c =
    let r : c.from_residual.result ≡ Err c.in_err-value.field-0.0 = search rules in
    on_refused _ c.from_residual.result c.in_err-value.field-0.0 r

pub returns-in_err-push : goal.returns-in_err-push
returns-in_err-push c =
    let f : NoMemory = record {} in
    let r : c.from_residual-in_err-push.result ≡ Err f = search rules in
    on_refused _ c.from_residual-in_err-push.result f r

pub returns-in_err-push-2 : goal.returns-in_err-push-2
returns-in_err-push-2 c =
    let f : NoMemory = record {} in
    let r : c.from_residual-in_err-push-2.result ≡ Err f = search rules in
    on_refused _ c.from_residual-in_err-push-2.result f r

pub returns-in_ok-push-2 : goal.returns-in_ok-push-2
returns-in_ok-push-2 c = some_over c.args.frame.now c.as_slice-bytes.result.now c.as_slice-bytes.ensures.bytes c.args.protos.now c.push-then-from-bytes.new.self _ c.in_ok-value.value c.new-nodes.result c.push.new.self c.if-from-bytes.true refl c.in_ok-value.ensures c.new-nodes.ensures c.in_ok-push.ensures.ok c.in_ok-push-2.ensures.ok

pub returns-else-from-bytes : goal.returns-else-from-bytes
returns-else-from-bytes c = none_over c.args.frame.now c.as_slice-bytes.result.now c.as_slice-bytes.ensures.bytes c.args.protos.now c.if-from-bytes.false
