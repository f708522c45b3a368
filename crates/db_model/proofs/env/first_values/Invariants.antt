use Rattle.std.proofs.Common.{◌≡◌, map, take}
use Rattle.db_model.specs.Decoding.{literal}
use Rattle.db_model.proofs.env.first_values.Given as goal

abbrev pub invariant-loop-v : goal.invariant-loop-v
invariant-loop-v l = l.values ≡ map (λ v. literal l.fn.db v.value) (take l.v-index l.fn.db.variables)
