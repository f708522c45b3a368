-- The first group of bytes, and the groups behind it.
use Rattle.std.specs.Prelude.{◌≡◌, ℕ, zero, suc, ◌<◌, ◌≤◌, List, [], ◌∷◌, ◌++◌, take, drop, length}
use Rattle.std.specs.List.{flat_map, join_by}
use Rattle.std.proofs.Common.{refl, sym, ap, ◌∙◌, arith, append_assoc, append-nil, length-drop}
use Rattle.std.proofs.lemmas.List.{take_all}
use Rattle.show.specs.declared.markup.TextForm.{TextForm}
use Rattle.show.specs.Markup.{written}
use Rattle.show.specs.Shown.{cut}
use Rattle.show.proofs.Writing.{written-append}

-- as many groups as bytes are enough
cut_more : (m n size : ℕ) (bs : List ℕ) → 0 < size → length bs ≤ m → length bs ≤ n → cut m size bs ≡ cut n size bs
unfolding cut
cut_more zero zero size bs h a b = refl
cut_more zero (suc n) size [] h a b = refl
cut_more zero (suc n) size (x ∷ bs) h a b = absurd (omega arith)
cut_more (suc m) zero size [] h a b = refl
cut_more (suc m) zero size (x ∷ bs) h a b = absurd (omega arith)
cut_more (suc m) (suc n) size [] h a b = refl
cut_more (suc m) (suc n) size (x ∷ bs) h a b =
    ap (λ (gs : List (List ℕ)). take size (x ∷ bs) ∷ gs) (cut_more m n size (drop size (x ∷ bs)) h (omega (arith, length-drop size (x ∷ bs))) (omega (arith, length-drop size (x ∷ bs))))

cut_first : (size : ℕ) (bs : List ℕ) → 0 < size → 0 < length bs → cut (length bs) size bs ≡ take size bs ∷ cut (length (drop size bs)) size (drop size bs)
unfolding cut
cut_first size [] h some = absurd (omega arith)
cut_first size (x ∷ bs) h some =
    ap (λ (gs : List (List ℕ)). take size (x ∷ bs) ∷ gs) (cut_more (length bs) (length (drop size (x ∷ bs))) size (drop size (x ∷ bs)) h (omega (arith, length-drop size (x ∷ bs))) (omega arith))

cut_none : (size : ℕ) (bs : List ℕ) → length bs ≡ 0 → cut (length bs) size bs ≡ []
unfolding cut
cut_none size [] e = refl
cut_none size (x ∷ bs) e = absurd (omega arith)

-- what the groups of some bytes come to, joined and written
abbrev pub grouped : TextForm → (List ℕ → List ℕ) → List ℕ → ℕ → List ℕ → List ℕ
grouped form f separator size bs = written form (join_by f separator (cut (length bs) size bs))

join-more : (f : List ℕ → List ℕ) (separator first second : List ℕ) (rest : List (List ℕ)) → join_by f separator (first ∷ second ∷ rest) ≡ f first ++ (separator ++ join_by f separator (second ∷ rest))
join-more f separator first second rest = ap (λ (l : List ℕ). f first ++ l) (append_assoc separator (f second) (flat_map (λ g. separator ++ f g) rest))

-- the last group
pub last_group : (form : TextForm) (f : List ℕ → List ℕ) (separator : List ℕ) (size : ℕ) (bs : List ℕ) → 0 < size → 0 < length bs → length bs ≤ size → grouped form f separator size bs ≡ written form (f bs)
last_group form f separator size bs h some few =
    let none : cut (length (drop size bs)) size (drop size bs) ≡ [] = cut_none size (drop size bs) (omega (arith, length-drop size bs)) in
    ap (λ (gs : List (List ℕ)). written form (join_by f separator gs)) (cut_first size bs h some ∙ ap (λ (gs : List (List ℕ)). take size bs ∷ gs) none)
    ∙ ap (λ (l : List ℕ). written form l) (append-nil (f (take size bs)) ∙ ap f (take_all size bs few))

-- a group with others behind it
pub first_group : (form : TextForm) (f : List ℕ → List ℕ) (separator : List ℕ) (size : ℕ) (bs : List ℕ) → 0 < size → size < length bs → grouped form f separator size bs ≡ written form (f (take size bs)) ++ (written form separator ++ grouped form f separator size (drop size bs))
first_group form f separator size bs h more =
    let some : 0 < length bs = omega arith in
    let left : 0 < length (drop size bs) = omega (arith, length-drop size bs) in
    let second : List ℕ = take size (drop size bs) in
    let rest : List (List ℕ) = cut (length (drop size (drop size bs))) size (drop size (drop size bs)) in
    let behind = cut_first size (drop size bs) h left in
    ap (λ (gs : List (List ℕ)). written form (join_by f separator gs)) (cut_first size bs h some ∙ ap (λ (gs : List (List ℕ)). take size bs ∷ gs) behind)
    ∙ ap (λ (l : List ℕ). written form l) (join-more f separator (take size bs) second rest)
    ∙ written-append form (f (take size bs)) (separator ++ join_by f separator (second ∷ rest))
    ∙ ap (λ (l : List ℕ). written form (f (take size bs)) ++ l) (written-append form separator (join_by f separator (second ∷ rest)))
    ∙ ap (λ (gs : List (List ℕ)). written form (f (take size bs)) ++ (written form separator ++ written form (join_by f separator gs))) (sym behind)

pub no_group : (form : TextForm) (f : List ℕ → List ℕ) (separator : List ℕ) (size : ℕ) (bs : List ℕ) → length bs ≡ 0 → grouped form f separator size bs ≡ written form []
no_group form f separator size bs e = ap (λ (gs : List (List ℕ)). written form (join_by f separator gs)) (cut_none size bs e)

-- a turn: a group and a separator are added, and what is left is shorter
pub turned : (form : TextForm) (f : List ℕ → List ℕ) (separator : List ℕ) (size : ℕ) (bs t0 t1 t2 all : List ℕ) → 0 < size → size < length bs → t0 ++ grouped form f separator size bs ≡ all → t1 ≡ t0 ++ written form (f (take size bs)) → t2 ≡ t1 ++ written form separator → t2 ++ grouped form f separator size (drop size bs) ≡ all
turned form f separator size bs t0 t1 t2 all h more e a b =
    ap (λ (l : List ℕ). l ++ grouped form f separator size (drop size bs)) (b ∙ ap (λ (l : List ℕ). l ++ written form separator) a)
    ∙ append_assoc (t0 ++ written form (f (take size bs))) (written form separator) (grouped form f separator size (drop size bs))
    ∙ append_assoc t0 (written form (f (take size bs))) (written form separator ++ grouped form f separator size (drop size bs))
    ∙ ap (λ (l : List ℕ). t0 ++ l) (sym (first_group form f separator size bs h more)) ∙ e
