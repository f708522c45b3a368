use Rattle.std.proofs.Common.{◌≡◌, drop}
use Rattle.std.specs.Prelude.{is_some}
use Rattle.std.specs.List.{list_any}
use Rattle.db_model.specs.declared.element.UpdateKey.{UpdateKey}
use Rattle.db_check.proofs.tables.has_mask.Given as goal

abbrev pub invariant-loop-key : goal.invariant-loop-key
invariant-loop-key l = list_any (λ (k : UpdateKey). is_some k.mask) (drop l.key-index l.keys) ≡ list_any (λ (k : UpdateKey). is_some k.mask) l.keys
