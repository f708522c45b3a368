use Rattle.std.proofs.Common.{◌≡◌, drop, map, is_some}
use Rattle.std.specs.List.{list_any}
use Rattle.pdl_code.specs.declared.code.KeyCode.{KeyCode}
use Rattle.decode_vm.proofs.masks.has_mask.Given as goal

abbrev pub invariant-loop-key : goal.invariant-loop-key
invariant-loop-key l = list_any is_some (map (λ (k : KeyCode). k.mask) (drop l.key-index l.keys)) ≡ list_any is_some (map (λ (k : KeyCode). k.mask) l.keys)
