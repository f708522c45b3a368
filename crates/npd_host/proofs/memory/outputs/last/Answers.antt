use Rattle.std.proofs.Common.{◌≡◌, ◌-◌, true, false, refl, arith, sym, ◌∙◌}
use Rattle.std.proofs.lemmas.Option.{slice_get_read}
use Rattle.std.specs.Str.{bytes_eq}
use Rattle.npd_host.proofs.Places.{LastNamed-at, none_named_more}
use Rattle.npd_host.proofs.memory.outputs.last.Goals as goal

pub returns-then-eq : goal.returns-then-eq
returns-then-eq c =
    let x = c.index-outputs-place.result in
    let at = slice_get_read c.args.outputs.now _ (c.loop-place.place - 1) x refl (omega arith) c.index-outputs-place.is in
    let same : bytes_eq x.name c.args.name.now ≡ true = rw (← c.name.ensures) (sym c.eq.ensures ∙ c.if-eq.true) in
    rw c.bytes.ensures.bytes (LastNamed-at c.args.outputs.now (c.loop-place.place - 1) x c.args.name.now at same (λ later less. c.loop-place.invariant later (omega arith)))

pub loop-place-preserved : goal.loop-place-preserved
loop-place-preserved c =
    let x = c.index-outputs-place.result in
    let at = slice_get_read c.args.outputs.now _ (c.loop-place.place - 1) x refl (omega arith) c.index-outputs-place.is in
    let differs : bytes_eq x.name c.args.name.now ≡ false = rw (← c.name.ensures) (sym c.eq.ensures ∙ c.if-eq.false) in
    none_named_more c.args.outputs.now (c.loop-place.place - 1) x c.args.name.now at differs (λ other le. c.loop-place.invariant other (omega arith))
