use Rattle.std.proofs.Common.{◌≡◌, ◌++◌, length, map}
use Rattle.show.specs.Markup.{written}
use Rattle.show.specs.Shown.{character}
use Rattle.show.proofs.value.push_characters.Given as goal

abbrev pub invariant-loop-rest : goal.invariant-loop-rest
invariant-loop-rest l = l.text.items ++ written l.form (map character l.rest) ≡ l.fn.text.items ++ written l.form (map character l.bytes)

abbrev pub decreases-loop-rest : goal.decreases-loop-rest
decreases-loop-rest l = length l.rest
