use Rattle.std.proofs.Common.{◌≡◌, ◌<◌, length, get_or, subst, ◌∙◌}
use Rattle.db_model.specs.Questions.{Log}
use Rattle.op_log.proofs.Again.{so_far_first, so_far_fits, so_far_next, so_far_here}
use Rattle.op_log.proofs.checking.check.Goals as goal

pub loop-index-init : goal.loop-index-init
loop-index-init c =
    record {
      database = c.in_ok-copy.ensures.database;
      so_far = so_far_first c.args.session.now.database c.args.t c.args.log.now c.args.session.now.content c.in_ok-copy.copy.content c.in_ok-copy.ensures.content c.requires.fits;
    }

pub differing-requires-clause-fits : goal.differing-requires-clause-fits
differing-requires-clause-fits c =
    let within = subst (λ (m : Log). c.loop-index.index < length m) c.as_slice-pairs.ensures c.loop-index-test.true in
    let at = subst (λ (m : Log). c.index-pairs-index.result ≡ get_or m c.loop-index.index c.index-pairs-index.result) c.as_slice-pairs.ensures c.index-pairs-index.is in
    so_far_fits c.args.session.now.database c.args.t c.args.log.now c.args.session.now.content c.loop-index.index c.loop-index.copy.content c.loop-index.invariant.so_far c.index-pairs-index.result within at c.loop-index.copy.database c.loop-index.invariant.database

pub returns-in-Some-clause-answer : goal.returns-in-Some-clause-answer
returns-in-Some-clause-answer c =
    let within = subst (λ (m : Log). c.loop-index.index < length m) c.as_slice-pairs.ensures c.loop-index-test.true in
    let at = subst (λ (m : Log). c.index-pairs-index.result ≡ get_or m c.loop-index.index c.index-pairs-index.result) c.as_slice-pairs.ensures c.index-pairs-index.is in
    so_far_here c.args.session.now.database c.args.t c.args.log.now c.args.session.now.content c.loop-index.index c.loop-index.copy.content c.loop-index.invariant.so_far c.index-pairs-index.result within at c.loop-index.copy.database c.loop-index.invariant.database c.in_ok-old.field-0 c.in_ok-old.ensures.answers c.in-Some.old c.in-Some.new c.in-Some.is

pub loop-index-preserved : goal.loop-index-preserved
loop-index-preserved c =
    let within = subst (λ (m : Log). c.loop-index.index < length m) c.as_slice-pairs.ensures c.loop-index-test.true in
    let at = subst (λ (m : Log). c.index-pairs-index.result ≡ get_or m c.loop-index.index c.index-pairs-index.result) c.as_slice-pairs.ensures c.index-pairs-index.is in
    record {
      database = c.in_ok-old.ensures.database ∙ c.loop-index.invariant.database;
      so_far = so_far_next c.args.session.now.database c.args.t c.args.log.now c.args.session.now.content c.loop-index.index c.loop-index.copy.content c.loop-index.invariant.so_far c.index-pairs-index.result within at c.loop-index.copy.database c.loop-index.invariant.database c.in_ok-old.field-0 c.in_ok-old.ensures.answers c.in_default.is c.differing.new.session.content c.in_ok-old.ensures.content;
    }
