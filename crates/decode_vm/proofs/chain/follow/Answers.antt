use Rattle.std.proofs.Common.{◌≡◌, ◌-◌, ◌<◌, Err, List, rules, subst, sym}
use Rattle.db_model.specs.declared.limits.TheConstants.{MOST_ENTERED, STAMP_END}
use Rattle.db_model.specs.declared.no_memory.NoMemory.{NoMemory}
use Rattle.db_model.specs.declared.tree.Proto.{Proto}
use Rattle.decode_vm.proofs.Chains.{ChainSoFar, chain_first, chain_time, chain_fit, chain_failed, chain_refused, chain_packet, chain_placed, chain_less, chain_done, chain_next}
use Rattle.decode_vm.proofs.chain.follow.Goals as goal

pub protocol-requires-clause-time : goal.protocol-requires-clause-time
protocol-requires-clause-time g c = chain_time c.args.db.now MOST_ENTERED c.args.first c.args.frame (g.A.Answers.content c.args.answers.now) (g.A.Answers.told c.args.answers.now) c.loop-protos.left c.loop-protos.number c.loop-protos.protos c.loop-protos.frame (g.A.Answers.content c.loop-protos.answers) (g.A.Answers.told c.loop-protos.answers) c.loop-protos.invariant.so_far STAMP_END c.requires.time

pub protocol-requires-clause-placed : goal.protocol-requires-clause-placed
protocol-requires-clause-placed g c = c.loop-protos.invariant.so_far.placed

pub protocol-requires-clause-fit : goal.protocol-requires-clause-fit
protocol-requires-clause-fit g c = chain_fit c.args.db.now MOST_ENTERED c.args.first c.args.frame (g.A.Answers.content c.args.answers.now) (g.A.Answers.told c.args.answers.now) c.loop-protos.left c.loop-protos.number c.loop-protos.protos c.loop-protos.frame (g.A.Answers.content c.loop-protos.answers) (g.A.Answers.told c.loop-protos.answers) c.loop-protos.invariant.so_far

pub loop-protos-init : goal.loop-protos-init
loop-protos-init g c =
    record {
      database = c.requires.database;
      so_far =
          subst (λ (ps : List Proto). ChainSoFar c.args.db.now MOST_ENTERED c.args.first c.args.frame (g.A.Answers.content c.args.answers.now) (g.A.Answers.told c.args.answers.now) 31 c.args.first ps c.args.frame (g.A.Answers.content c.args.answers.now) (g.A.Answers.told c.args.answers.now)) (sym c.no_protocols-protos.ensures)
          (chain_first c.args.db.now 31 c.args.first c.args.frame (g.A.Answers.content c.args.answers.now) (g.A.Answers.told c.args.answers.now) c.requires.placed c.requires.fit);
    }

pub loop-protos-preserved : goal.loop-protos-preserved
loop-protos-preserved g c =
    let d : c.saturating_sub-left.result ≡ c.loop-protos.left - 1 = search rules in
    record {
      database = c.in_ok-ended.ensures.database;
      so_far =
          subst (λ k. ChainSoFar c.args.db.now MOST_ENTERED c.args.first c.args.frame (g.A.Answers.content c.args.answers.now) (g.A.Answers.told c.args.answers.now) k c.in-Some.q c.push.new.self c.onward.new.ended.frame (g.A.Answers.content c.protocol.new.answers) (g.A.Answers.told c.protocol.new.answers)) (sym d)
          (chain_next c.args.db.now MOST_ENTERED c.args.first c.args.frame (g.A.Answers.content c.args.answers.now) (g.A.Answers.told c.args.answers.now) c.loop-protos.left c.loop-protos.number c.loop-protos.protos c.loop-protos.frame (g.A.Answers.content c.loop-protos.answers) (g.A.Answers.told c.loop-protos.answers) c.loop-protos.invariant.so_far c.in_ok-ended.ended (g.A.Answers.content c.protocol.new.answers) (g.A.Answers.told c.protocol.new.answers) c.in_ok-ended.ensures.ends c.onward.new.ended c.proto.result c.proto.ensures c.push.new.self c.in_ok-push.ensures.ok c.in_ok-next.next c.in-Some.q c.in-Some.is c.in_ok-next.ensures c.in_ok-ended.ensures.placed c.in_ok-ended.ensures.packet);
    }

pub loop-protos-smaller : goal.loop-protos-smaller
loop-protos-smaller g c =
    let d : c.saturating_sub-left.result ≡ c.loop-protos.left - 1 = search rules in
    subst (λ k. k < c.loop-protos.left) (sym d) (chain_less c.args.db.now MOST_ENTERED c.args.first c.args.frame (g.A.Answers.content c.args.answers.now) (g.A.Answers.told c.args.answers.now) c.loop-protos.left c.loop-protos.number c.loop-protos.protos c.loop-protos.frame (g.A.Answers.content c.loop-protos.answers) (g.A.Answers.told c.loop-protos.answers) c.loop-protos.invariant.so_far c.in_ok-ended.ended (g.A.Answers.content c.protocol.new.answers) (g.A.Answers.told c.protocol.new.answers) c.in_ok-ended.ensures.ends c.in_ok-next.next c.in-Some.q c.onward.new.ended c.in-Some.is c.in_ok-next.ensures)

pub returns-in_err-ended-clause-ends : goal.returns-in_err-ended-clause-ends
returns-in_err-ended-clause-ends g c =
    let r : c.from_residual.result ≡ Err c.in_err-ended.field-0.0 = search rules in
    chain_failed c.args.db.now MOST_ENTERED c.args.first c.args.frame (g.A.Answers.content c.args.answers.now) (g.A.Answers.told c.args.answers.now) c.loop-protos.left c.loop-protos.number c.loop-protos.protos c.loop-protos.frame (g.A.Answers.content c.loop-protos.answers) (g.A.Answers.told c.loop-protos.answers) c.loop-protos.invariant.so_far c.from_residual.result c.in_err-ended.field-0.0 (g.A.Answers.content c.protocol.new.answers) (g.A.Answers.told c.protocol.new.answers) r c.in_err-ended.ensures.ends

pub returns-in_err-next-clause-ends : goal.returns-in_err-next-clause-ends
returns-in_err-next-clause-ends g c =
    let r : c.from_residual-in_err-next.result ≡ Err c.in_err-next.field-0.0 = search rules in
    chain_refused c.args.db.now MOST_ENTERED c.args.first c.args.frame (g.A.Answers.content c.args.answers.now) (g.A.Answers.told c.args.answers.now) c.loop-protos.left c.loop-protos.number c.loop-protos.protos c.loop-protos.frame (g.A.Answers.content c.loop-protos.answers) (g.A.Answers.told c.loop-protos.answers) c.loop-protos.invariant.so_far c.in_ok-ended.ended (g.A.Answers.content c.protocol.new.answers) (g.A.Answers.told c.protocol.new.answers) c.in_ok-ended.ensures.ends c.from_residual-in_err-next.result c.in_err-next.field-0.0 r

pub returns-in_err-push-clause-ends : goal.returns-in_err-push-clause-ends
returns-in_err-push-clause-ends g c =
    let f : NoMemory = record {} in
    let r : c.from_residual-in_err-push.result ≡ Err f = search rules in
    chain_refused c.args.db.now MOST_ENTERED c.args.first c.args.frame (g.A.Answers.content c.args.answers.now) (g.A.Answers.told c.args.answers.now) c.loop-protos.left c.loop-protos.number c.loop-protos.protos c.loop-protos.frame (g.A.Answers.content c.loop-protos.answers) (g.A.Answers.told c.loop-protos.answers) c.loop-protos.invariant.so_far c.in_ok-ended.ended (g.A.Answers.content c.protocol.new.answers) (g.A.Answers.told c.protocol.new.answers) c.in_ok-ended.ensures.ends c.from_residual-in_err-push.result f r

pub returns-in-None-clause-ends : goal.returns-in-None-clause-ends
returns-in-None-clause-ends g c = chain_done c.args.db.now MOST_ENTERED c.args.first c.args.frame (g.A.Answers.content c.args.answers.now) (g.A.Answers.told c.args.answers.now) c.loop-protos.left c.loop-protos.number c.loop-protos.protos c.loop-protos.frame (g.A.Answers.content c.loop-protos.answers) (g.A.Answers.told c.loop-protos.answers) c.loop-protos.invariant.so_far c.in_ok-ended.ended (g.A.Answers.content c.protocol.new.answers) (g.A.Answers.told c.protocol.new.answers) c.in_ok-ended.ensures.ends c.onward.new.ended c.proto.result c.proto.ensures c.push.new.self c.in_ok-push.ensures.ok c.in_ok-next.next c.in-None.is c.in_ok-next.ensures

pub returns-in-None-clause-packet : goal.returns-in-None-clause-packet
returns-in-None-clause-packet g c = chain_packet c.args.db.now MOST_ENTERED c.args.first c.args.frame (g.A.Answers.content c.args.answers.now) (g.A.Answers.told c.args.answers.now) c.loop-protos.left c.loop-protos.number c.loop-protos.protos c.loop-protos.frame (g.A.Answers.content c.loop-protos.answers) (g.A.Answers.told c.loop-protos.answers) c.loop-protos.invariant.so_far c.in_ok-ended.ended (g.A.Answers.content c.protocol.new.answers) (g.A.Answers.told c.protocol.new.answers) c.in_ok-ended.ensures.ends c.in_ok-next.next c.onward.new.ended c.in-None.is c.in_ok-next.ensures c.in_ok-ended.ensures.packet

pub returns-in-None-clause-placed : goal.returns-in-None-clause-placed
returns-in-None-clause-placed g c = chain_placed c.args.db.now MOST_ENTERED c.args.first c.args.frame (g.A.Answers.content c.args.answers.now) (g.A.Answers.told c.args.answers.now) c.loop-protos.left c.loop-protos.number c.loop-protos.protos c.loop-protos.frame (g.A.Answers.content c.loop-protos.answers) (g.A.Answers.told c.loop-protos.answers) c.loop-protos.invariant.so_far c.in_ok-ended.ended (g.A.Answers.content c.protocol.new.answers) (g.A.Answers.told c.protocol.new.answers) c.in_ok-ended.ensures.ends c.in_ok-next.next c.onward.new.ended c.in-None.is c.in_ok-next.ensures c.in_ok-ended.ensures.placed
