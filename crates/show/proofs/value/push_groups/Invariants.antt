use Rattle.std.proofs.Common.{◌≡◌, ◌++◌, ◌<◌, length}
use Rattle.show.specs.Shown.{group_shown}
use Rattle.show.proofs.GroupLemmas.{grouped}
use Rattle.show.proofs.value.push_groups.Given as goal

abbrev pub invariant-loop-rest : goal.invariant-loop-rest
invariant-loop-rest l = record {
  some : 0 < length l.rest;
  text : l.text.items ++ grouped l.form (group_shown l.template.show_type) l.template.separator l.size l.rest ≡ l.fn.text.items ++ grouped l.form (group_shown l.template.show_type) l.template.separator l.size l.fn.bytes;
}

abbrev pub decreases-loop-rest : goal.decreases-loop-rest
decreases-loop-rest l = length l.rest
