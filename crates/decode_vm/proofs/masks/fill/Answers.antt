use Rattle.std.proofs.Common.{◌≡◌, Some, None, sym, map, drop, slice_get}
use Rattle.db_model.specs.declared.database.KeyDecl.{KeyDecl}
use Rattle.pdl_code.specs.declared.code.KeyCode.{KeyCode}
use Rattle.db_model.specs.Elements.{filled}
use Rattle.expr_eval.proofs.Steps.{drop_some, drop_past, drop_at}
use Rattle.decode_vm.proofs.Updates.{fill_more, fill_none}
use Rattle.decode_vm.proofs.masks.fill.Goals as goal

pub returns-in-None : goal.returns-in-None
returns-in-None c =
    let i = c.loop-i.i in
    let ms = map (λ (k : KeyCode). k.mask) c.args.keys.now in
    let past : slice_get c.args.keys.now i ≡ None = sym c.in-None.ensures in
    fill_none (drop i (map (λ (k : KeyDecl). k.size) c.args.sizes.now)) (drop i ms) c.loop-i.masks _ (drop_past (λ (k : KeyCode). k.mask) c.args.keys.now i past) c.loop-i.invariant

pub loop-i-preserved : goal.loop-i-preserved
loop-i-preserved c =
    let i = c.loop-i.i in
    let sizes = map (λ (k : KeyDecl). k.size) c.args.sizes.now in
    let ms = map (λ (k : KeyCode). k.mask) c.args.keys.now in
    let found : slice_get c.args.keys.now i ≡ Some c.in-Some.key.now = sym c.in-Some.ensures in
    rw c.in_ok-push-in-Some.ensures.pushed
    (fill_more sizes ms c.loop-i.masks i c.index-sizes-i.result.size c.in-Some.key.now.mask c.in_ok-mask-in-Some.field-0 (filled sizes ms)
    (drop_at (λ (k : KeyDecl). k.size) c.args.sizes.now i c.index-sizes-i.result c.loop-i-test.true c.index-sizes-i.is)
    (drop_some (λ (k : KeyCode). k.mask) c.args.keys.now i c.in-Some.key.now found) c.in_ok-mask-in-Some.ensures c.loop-i.invariant)
