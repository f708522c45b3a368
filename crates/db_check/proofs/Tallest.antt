-- A walk over parts that keeps the greatest of their heights.
use Rattle.std.specs.Prelude.{◌≡◌, ℕ, ◌+◌, ◌<◌, ◌≤◌, max, List, length, map, drop, get_or}
use Rattle.std.proofs.Common.{ap, sym, ◌∙◌, arith}
use Rattle.std.proofs.lemmas.List.{at_drop_more, at_drop_all}
use Rattle.db_check.specs.Heights.{tallest}

pub taller_on : {A : Type 0} (f : A → ℕ) (xs : List A) (i : ℕ) (x : A) (found one next whole : ℕ) → i < length xs → x ≡ get_or xs i x → one ≡ f x → next ≡ max found one → max found (tallest (map f (drop i xs))) ≡ whole → max next (tallest (map f (drop (i + 1) xs))) ≡ whole
taller_on {A} f xs i x found one next whole h e o n w =
    let k : tallest (map f (drop i xs)) ≡ max (f x) (tallest (map f (drop (i + 1) xs))) = at_drop_more (λ (l : List A). tallest (map f l)) xs i x h ∙ ap (λ (y : A). max (f y) (tallest (map f (drop (i + 1) xs)))) (sym e) in
    omega (arith, k, o, n, w)

pub tallest_end : {A : Type 0} (f : A → ℕ) (xs : List A) (i found whole : ℕ) → length xs ≤ i → max found (tallest (map f (drop i xs))) ≡ whole → found ≡ whole
tallest_end {A} f xs i found whole h w =
    let k : tallest (map f (drop i xs)) ≡ 0 = at_drop_all (λ (l : List A). tallest (map f l)) xs i h in
    omega (arith, k, w)
