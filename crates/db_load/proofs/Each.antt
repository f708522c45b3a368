-- The elements of one name among those that stand in an element, one after another.
use Rattle.std.specs.Prelude.{◌≡◌, ℕ, ◌+◌, ◌<◌, Bool, true, false, List, [], ◌∷◌, ◌++◌, length, drop, get_or, if◌then◌else◌, Option, Some, None}
use Rattle.std.proofs.Common.{refl, ap, sym, ◌∙◌}
use Rattle.db_text.specs.declared.node.Node.{Node}
use Rattle.db_load.specs.declared.word.Word.{Word}
use Rattle.db_load.specs.Meaning.{items_of}
use Rattle.db_load.specs.Whole.{is, each_of, one_of}
use Rattle.db_load.proofs.Means.{append_assoc}
use Rattle.db_load.proofs.Parts.{first_left}

by_test : {A : Type 0} (b : Bool) (a : A) (rest : List A) → (if b then a ∷ rest else rest) ≡ items_of (if b then Some a else None) ++ rest
by_test true a rest = refl
by_test false a rest = refl

pub each_step : {A : Type 0} (w : Word) (f : Node → A) (ns : List Node) (i : ℕ) (n : Node) (found : Option A) (got now whole : List A) → i < length ns → n ≡ get_or ns i n → found ≡ one_of w f (n ∷ []) → now ≡ got ++ items_of found → got ++ each_of w f (drop i ns) ≡ whole → now ++ each_of w f (drop (i + 1) ns) ≡ whole
each_step w f ns i n found got now whole hi en ef e h =
    ap (λ l. l ++ each_of w f (drop (i + 1) ns)) (e ∙ ap (λ o. got ++ items_of o) ef)
    ∙ (append_assoc got (items_of (one_of w f (n ∷ []))) (each_of w f (drop (i + 1) ns))
    ∙ (ap (λ l. got ++ l) (sym (ap (each_of w f) (first_left ns i n hi en) ∙ by_test (is w n) (f n) (each_of w f (drop (i + 1) ns))))
    ∙ h))
