use Rattle.std.proofs.Common.{◌≡◌, map, take}
use Rattle.show.specs.declared.markup.TextForm.{TextForm}
use Rattle.show.specs.Markup.{written}
use Rattle.show.specs.Shown.{character}
use Rattle.show.proofs.value.run_of.Given as goal

abbrev pub invariant-loop-i : goal.invariant-loop-i
invariant-loop-i l = (form : TextForm) → written form (map character (take l.i l.bytes)) ≡ take l.i l.bytes
