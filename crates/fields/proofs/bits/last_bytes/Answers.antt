use Rattle.std.proofs.Common.{◌≡◌, ℕ, ◌+◌, ◌-◌, ◌≤◌, List, [], ◌++◌, Result, Ok, Err, length, take, drop, arith, ap, ◌∙◌, length-take, w32}
use Rattle.std.specs.Result.{OnOk, IsOk}
use Rattle.std.specs.Int.{to_be_bytes}
use Rattle.std.proofs.lemmas.Bool.{false≢true}
use Rattle.db_model.specs.Numbers.{to_bytes}
use Rattle.fields.proofs.NumberLemmas.{last_bytes}
use Rattle.fields.proofs.bits.last_bytes.Goals as goal

of_ok : {T E P : Type 0} (r : Result T E) → IsOk r → OnOk r P → P
of_ok (Ok x) y p = p
of_ok (Err e) y p = absurd (false≢true y)

-- bytes of this length fit
fits : (count : ℕ) (empty all : List ℕ) → empty ≡ [] → length empty + length (take (4 - (4 - count)) (drop (4 - count) all)) ≤ 4
fits count empty all e = omega (arith, ap length e, length-take (4 - (4 - count)) (drop (4 - count) all))

joined : (count number : ℕ) (empty all items : List ℕ) → count ≤ 4 → empty ≡ [] → all ≡ to_be_bytes w32 number → items ≡ empty ++ take (4 - (4 - count)) (drop (4 - count) all) → items ≡ to_bytes count number
joined count number empty all items h e a i =
    i ∙ (ap (λ (xs : List ℕ). xs ++ take (4 - (4 - count)) (drop (4 - count) all)) e ∙ (ap (λ xs. take (4 - (4 - count)) (drop (4 - count) xs)) a ∙ last_bytes count number h))

pub returns : goal.returns
returns c =
    joined c.args.count c.args.number c.new-value.result.items c.to_be_bytes-all.result c.try_extend_from_slice.new.self.items c.requires c.new-value.ensures c.to_be_bytes-all.ensures (of_ok _ (c.try_extend_from_slice.ensures.variant.1 (fits c.args.count _ c.to_be_bytes-all.result c.new-value.ensures)) c.try_extend_from_slice.ensures.ok)
