use Rattle.std.proofs.Common.{List, ℕ, ◌++◌, ap, ◌∙◌}
use Rattle.std.specs.List.{flat_map}
use Rattle.std.proofs.lemmas.List.{take_all}
use Rattle.show.specs.Shown.{character}
use Rattle.show.proofs.Writing.{each_written, written-map}
use Rattle.show.proofs.value.push_each_character.Goals as goal

pub returns : goal.returns
returns c =
    c.loop-byte.invariant
    ∙ ap (λ (l : List ℕ). c.args.text.now.items ++ l)
    (ap (λ (l : List ℕ). flat_map (each_written c.args.form character) l) (take_all c.loop-byte.byte-index c.args.bytes.now c.loop-byte-test.false) ∙ written-map c.args.form character c.args.bytes.now)
