use Rattle.std.proofs.Common.{◌≡◌, Err, rules}
use Rattle.db_model.specs.declared.limits.TheConstants.{STAMP_END}
use Rattle.decode_vm.proofs.Decodes.{first_time, first_placed, first_fit, first_failed, first_refused, first_decoded, refused_first}
use Rattle.decode_vm.proofs.packet.decode.Goals as goal

pub follow-requires-clause-time : goal.follow-requires-clause-time
follow-requires-clause-time g c = first_time c.args.db.now c.args.packet.now c.in_ok-env.env c.in_ok-env.ensures c.first_protocol-first.result c.first_protocol-first.ensures STAMP_END c.requires.time

pub follow-requires-clause-placed : goal.follow-requires-clause-placed
follow-requires-clause-placed g c = first_placed c.args.db.now c.args.packet.now c.in_ok-env.env c.in_ok-env.ensures c.first_protocol-first.result c.first_protocol-first.ensures

pub follow-requires-clause-fit : goal.follow-requires-clause-fit
follow-requires-clause-fit g c = first_fit c.args.db.now c.args.packet.now c.in_ok-env.env c.in_ok-env.ensures c.first_protocol-first.result c.first_protocol-first.ensures c.asks_properly.ensures c.database-checked.ensures.checked

pub returns-in_err-env-clause-tree : goal.returns-in_err-env-clause-tree
returns-in_err-env-clause-tree g c =
    let r : c.from_residual.result ≡ Err c.in_err-env.field-0.0 = search rules in
    refused_first c.args.db.now c.args.packet.now (g.A.Answers.content c.args.answers.now) (g.A.Answers.told c.args.answers.now) c.from_residual.result c.in_err-env.field-0.0 r

pub returns-in_err-protos-clause-tree : goal.returns-in_err-protos-clause-tree
returns-in_err-protos-clause-tree g c =
    let r : c.from_residual-in_err-protos.result ≡ Err c.in_err-protos.field-0.0 = search rules in
    first_failed c.args.db.now c.args.packet.now c.in_ok-env.env c.in_ok-env.ensures c.first_protocol-first.result c.first_protocol-first.ensures (g.A.Answers.content c.args.answers.now) (g.A.Answers.told c.args.answers.now) (g.A.Answers.content c.follow.new.answers) (g.A.Answers.told c.follow.new.answers) c.from_residual-in_err-protos.result c.in_err-protos.field-0.0 r c.in_err-protos.ensures.ends

pub returns-in_err-add_payload-clause-tree : goal.returns-in_err-add_payload-clause-tree
returns-in_err-add_payload-clause-tree g c =
    let r : c.from_residual-in_err-add_payload.result ≡ Err c.in_err-add_payload.field-0.0 = search rules in
    first_refused c.args.db.now c.args.packet.now c.in_ok-env.env c.in_ok-env.ensures c.first_protocol-first.result c.first_protocol-first.ensures (g.A.Answers.content c.args.answers.now) (g.A.Answers.told c.args.answers.now) (g.A.Answers.content c.follow.new.answers) (g.A.Answers.told c.follow.new.answers) c.in_ok-protos.field-0 c.in_ok-protos.ensures.ends c.from_residual-in_err-add_payload.result c.in_err-add_payload.field-0.0 r

pub returns-clause-tree : goal.returns-clause-tree
returns-clause-tree g c = first_decoded c.args.db.now c.args.packet.now c.in_ok-env.env c.in_ok-env.ensures c.first_protocol-first.result c.first_protocol-first.ensures (g.A.Answers.content c.args.answers.now) (g.A.Answers.told c.args.answers.now) (g.A.Answers.content c.follow.new.answers) (g.A.Answers.told c.follow.new.answers) c.in_ok-protos.field-0 c.in_ok-protos.ensures.ends c.add_payload.new.protos c.in_ok-add_payload.ensures
