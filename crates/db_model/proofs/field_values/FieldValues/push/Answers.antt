use Rattle.std.proofs.Common.{◌≡◌, ◌∙◌, ◌+◌, ◌<◌, ◌++◌, ◌∷◌, [], ℕ, List, suc, length, slice_index, slice_set, sym, ap, arith}
use Rattle.db_model.specs.LastValue.{KeepsLast, last_place, place_of}
use Rattle.db_model.proofs.LastValue.{kept_more}
use Rattle.db_model.proofs.field_values.FieldValues.push.Goals as goal

pub invariant_of-self-2 : goal.invariant_of-self-2
invariant_of-self-2 c =
    let s = c.self.inside in
    let m = c.make_room.new.last in
    let f : ℕ × List ℕ = (c.args.number, c.args.value) in
    let h : KeepsLast s.values.items m.items = λ n. ap place_of (c.in_ok-make_room.ensures.same n) ∙ c.self.invariant n in
    let room : c.args.number < length m.items = omega (arith, c.in_ok-make_room.ensures.room, m.ok.0) in
    let more : c.len-count.result + 1 ≡ suc (length s.values.items) = omega (arith, c.len-count.ensures, s.values.ok.0) in
    let pushed : c.push.new.self.items ≡ s.values.items ++ f ∷ [] = c.in_ok-push.ensures.items in
    λ n. ap (λ (k : ℕ). place_of (slice_index (slice_set m.items c.args.number k) n)) more ∙ kept_more s.values.items m.items f h room n ∙ sym (ap (last_place n) pushed)
