-- Bytes that are written as they are.
use Rattle.std.specs.Prelude.{◌≡◌, ℕ, ◌+◌, ◌<◌, List, [], ◌∷◌, ◌++◌, length, map, take}
use Rattle.std.proofs.Common.{refl, sym, ap, ◌∙◌, append_assoc, append-nil}
use Rattle.std.proofs.Math.ListN.{get_or}
use Rattle.std.proofs.lemmas.List.{map-append, take_more}
use Rattle.show.specs.declared.markup.TextForm.{TextForm}
use Rattle.show.specs.declared.markup.TextForm.TheVariants.{Plain, Markup}
use Rattle.show.specs.Markup.{entity, written}
use Rattle.show.specs.Shown.{character}
use Rattle.show.proofs.Writing.{written-append}

one_written : (form : TextForm) (b : ℕ) → entity b ≡ b ∷ [] → written form (b ∷ []) ≡ b ∷ []
one_written Plain b e = refl
one_written Markup b e = ap (λ (l : List ℕ). l ++ []) e

pub itself : (form : TextForm) (b : ℕ) → character b ≡ b → entity b ≡ b ∷ [] → written form (character b ∷ []) ≡ b ∷ []
itself form b e h = ap (λ (c : ℕ). written form (c ∷ [])) e ∙ one_written form b h

-- characters in two parts
pub characters-append : (form : TextForm) (a b : List ℕ) → written form (map character (a ++ b)) ≡ written form (map character a) ++ written form (map character b)
characters-append form a b = ap (written form) (map-append character a b) ∙ written-append form (map character a) (map character b)

-- a run that is added as it is, the character behind it, and what is left
pub turned : (form : TextForm) (bs run behind next left t0 t1 t2 all : List ℕ) → t0 ++ written form (map character bs) ≡ all → run ++ behind ≡ bs → next ++ left ≡ behind → written form (map character run) ≡ run → t1 ≡ t0 ++ run → t2 ≡ t1 ++ written form (map character next) → t2 ++ written form (map character left) ≡ all
turned form bs run behind next left t0 t1 t2 all e first second same f g =
    let w = λ (l : List ℕ). written form (map character l) in
    ap (λ (l : List ℕ). l ++ w left) (g ∙ ap (λ (l : List ℕ). l ++ w next) f)
    ∙ append_assoc (t0 ++ run) (w next) (w left) ∙ append_assoc t0 run (w next ++ w left)
    ∙ ap (λ (l : List ℕ). t0 ++ (l ++ (w next ++ w left))) (sym same)
    ∙ ap (λ (l : List ℕ). t0 ++ (w run ++ l)) (sym (characters-append form next left) ∙ ap w second)
    ∙ ap (λ (l : List ℕ). t0 ++ l) (sym (characters-append form run behind) ∙ ap w first) ∙ e

-- a run with one byte more
pub run_more : (form : TextForm) (bs : List ℕ) (i b : ℕ) → i < length bs → b ≡ get_or bs i 0 → written form (map character (take i bs)) ≡ take i bs → written form (character b ∷ []) ≡ b ∷ [] → written form (map character (take (i + 1) bs)) ≡ take (i + 1) bs
run_more form bs i b within is e f =
    let more : take (i + 1) bs ≡ take i bs ++ b ∷ [] = take_more bs i 0 within ∙ ap (λ (x : ℕ). take i bs ++ x ∷ []) (sym is) in
    ap (λ (l : List ℕ). written form (map character l)) more
    ∙ characters-append form (take i bs) (b ∷ [])
    ∙ ap (λ (l : List ℕ). l ++ written form (character b ∷ [])) e ∙ ap (λ (l : List ℕ). take i bs ++ l) f ∙ sym more
