use Rattle.std.proofs.Common.{◌≡◌, ◌+◌, ◌≤◌, true, drop}
use Rattle.db_model.specs.Fitting.{log_fits}
use Rattle.db_model.specs.Replay.{after}
use Rattle.op_log.proofs.applying.apply.Given as goal

abbrev pub invariant-loop-question : goal.invariant-loop-question
invariant-loop-question l = record {
  database : l.session.database ≡ l.fn.session.database;
  content : after l.fn.session.database l.t (drop l.question-index l.log) l.session.content ≡ after l.fn.session.database l.t l.log l.fn.session.content;
  fits : log_fits l.fn.session.database (drop l.question-index l.log) ≡ true;
  spare : l.fn.session.spare ≤ l.session.spare + l.question-index;
}
