use Rattle.std.proofs.Common.{◌≡◌, ◌++◌, drop, map}
use Rattle.db_model.specs.declared.database.KeyDecl.{KeyDecl}
use Rattle.pdl_code.specs.declared.code.KeyCode.{KeyCode}
use Rattle.db_model.specs.Elements.{filled}
use Rattle.decode_vm.proofs.masks.fill.Given as goal

abbrev pub invariant-loop-i : goal.invariant-loop-i
invariant-loop-i l = l.masks ++ filled (drop l.i (map (λ (k : KeyDecl). k.size) l.sizes)) (drop l.i (map (λ (k : KeyCode). k.mask) l.keys)) ≡ filled (map (λ (k : KeyDecl). k.size) l.sizes) (map (λ (k : KeyCode). k.mask) l.keys)
