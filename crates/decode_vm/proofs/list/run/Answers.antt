use Rattle.std.proofs.Common.{◌≡◌, Err, rules}
use Rattle.db_model.specs.declared.limits.TheConstants.{STAMP_END}
use Rattle.decode_vm.proofs.Stepping.{so_far_begun, so_far_on, step_less, so_far_time, so_far_running, ran_packet, ran_placed, ran, run_refused}
use Rattle.decode_vm.proofs.list.run.Goals as goal

pub loop-m-init : goal.loop-m-init
loop-m-init g c = record { database = c.requires.database; so_far = so_far_begun c.args.db.now c.args.code.now c.args.frame (g.A.Answers.content c.args.answers.now) (g.A.Answers.told c.args.answers.now) c.new.result c.no_nodes.result c.new.ensures c.no_nodes.ensures c.requires.placed }

pub loop-m-preserved : goal.loop-m-preserved
loop-m-preserved g c =
    record {
      database = c.in_ok-way.ensures.database;
      so_far = so_far_on c.args.db.now c.args.code.now c.args.frame (g.A.Answers.content c.args.answers.now) (g.A.Answers.told c.args.answers.now) c.loop-m.m (g.A.Answers.content c.loop-m.answers) (g.A.Answers.told c.loop-m.answers) c.loop-m.invariant.so_far c.in_ok-way.field-0 c.step.new.m (g.A.Answers.content c.step.new.answers) (g.A.Answers.told c.step.new.answers) c.in_ok-way.ensures.steps c.in_default.is;
    }

pub loop-m-smaller : goal.loop-m-smaller
loop-m-smaller g c = step_less c.args.db.now c.args.code.now c.args.frame (g.A.Answers.content c.args.answers.now) (g.A.Answers.told c.args.answers.now) c.loop-m.m (g.A.Answers.content c.loop-m.answers) (g.A.Answers.told c.loop-m.answers) c.loop-m.invariant.so_far c.in_ok-way.field-0 c.step.new.m (g.A.Answers.content c.step.new.answers) (g.A.Answers.told c.step.new.answers) c.in_ok-way.ensures.steps c.in_default.is

pub step-requires-clause-time : goal.step-requires-clause-time
step-requires-clause-time g c = so_far_time c.args.db.now c.args.code.now c.args.frame (g.A.Answers.content c.args.answers.now) (g.A.Answers.told c.args.answers.now) c.loop-m.m (g.A.Answers.content c.loop-m.answers) (g.A.Answers.told c.loop-m.answers) c.loop-m.invariant.so_far STAMP_END c.requires.time

pub step-requires-clause-sound : goal.step-requires-clause-sound
step-requires-clause-sound g c = c.loop-m.invariant.so_far.sound

pub step-requires-clause-running : goal.step-requires-clause-running
step-requires-clause-running g c = so_far_running c.args.db.now c.args.code.now c.args.frame (g.A.Answers.content c.args.answers.now) (g.A.Answers.told c.args.answers.now) c.loop-m.m (g.A.Answers.content c.loop-m.answers) (g.A.Answers.told c.loop-m.answers) c.loop-m.invariant.so_far c.requires.runs

pub returns-in_err-way-clause-ends : goal.returns-in_err-way-clause-ends
returns-in_err-way-clause-ends g c =
    let r : c.from_residual.result ≡ Err c.in_err-way.field-0.0 = search rules in
    run_refused c.args.db.now c.args.code.now c.args.frame (g.A.Answers.content c.args.answers.now) (g.A.Answers.told c.args.answers.now) c.loop-m.m (g.A.Answers.content c.loop-m.answers) (g.A.Answers.told c.loop-m.answers) c.loop-m.invariant.so_far c.from_residual.result c.in_err-way.field-0.0 c.step.new.m (g.A.Answers.content c.step.new.answers) (g.A.Answers.told c.step.new.answers) r c.in_err-way.ensures.steps

pub returns-in-Some-clause-ends : goal.returns-in-Some-clause-ends
returns-in-Some-clause-ends g c = ran c.args.db.now c.args.code.now c.args.frame (g.A.Answers.content c.args.answers.now) (g.A.Answers.told c.args.answers.now) c.loop-m.m (g.A.Answers.content c.loop-m.answers) (g.A.Answers.told c.loop-m.answers) c.loop-m.invariant.so_far c.in_ok-way.field-0 c.step.new.m (g.A.Answers.content c.step.new.answers) (g.A.Answers.told c.step.new.answers) c.in_ok-way.ensures.steps c.in-Some.way c.in-Some.is c.finish.result c.finish.ensures

pub returns-in-Some-clause-packet : goal.returns-in-Some-clause-packet
returns-in-Some-clause-packet g c = ran_packet c.args.db.now c.args.code.now c.args.frame (g.A.Answers.content c.args.answers.now) (g.A.Answers.told c.args.answers.now) c.loop-m.m (g.A.Answers.content c.loop-m.answers) (g.A.Answers.told c.loop-m.answers) c.loop-m.invariant.so_far c.in_ok-way.field-0 c.step.new.m (g.A.Answers.content c.step.new.answers) (g.A.Answers.told c.step.new.answers) c.in_ok-way.ensures.steps c.in-Some.way c.in-Some.is c.finish.result c.finish.ensures

pub returns-in-Some-clause-placed : goal.returns-in-Some-clause-placed
returns-in-Some-clause-placed g c = ran_placed c.args.db.now c.args.code.now c.args.frame (g.A.Answers.content c.args.answers.now) (g.A.Answers.told c.args.answers.now) c.loop-m.m (g.A.Answers.content c.loop-m.answers) (g.A.Answers.told c.loop-m.answers) c.loop-m.invariant.so_far c.in_ok-way.field-0 c.step.new.m (g.A.Answers.content c.step.new.answers) (g.A.Answers.told c.step.new.answers) c.in_ok-way.ensures.steps c.in-Some.way c.in-Some.is c.finish.result c.finish.ensures
