use Rattle.std.proofs.Common.{◌≡◌}
use Rattle.session_cases.proofs.case.over_view.Given as goal

abbrev pub invariant-loop-line : goal.invariant-loop-line
invariant-loop-line l = record {
  can_next : (goal.iterator-loop-line).can_next l.line-iterator;
  is_finite : (goal.iterator-loop-line).is_finite l.line-iterator;
  session : l.session.database ≡ l.fn.db;
  view : l.view.database ≡ l.fn.db;
}
