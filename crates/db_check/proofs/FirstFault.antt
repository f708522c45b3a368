-- The first fault of one cause among lines, and of lines that come one after another.
use Rattle.std.specs.Prelude.{◌≡◌, ℕ, ◌+◌, ◌<◌, ◌≤◌, List, [], ◌∷◌, ◌++◌, length, drop, get_or, Option, None}
use Rattle.std.proofs.Common.{refl, ap, sym, ◌∙◌, append_assoc}
use Rattle.std.proofs.lemmas.List.{at_drop_more, at_drop_all, map-append}
use Rattle.db_cause.specs.declared.cause.Cause.{Cause}
use Rattle.db_cause.specs.Codes.{code}
use Rattle.db_model.specs.declared.fault.Fault.{Fault}
use Rattle.db_model.specs.LeastFault.{earlier, least}
use Rattle.db_model.specs.Lines.{Lines, over}
use Rattle.db_model.specs.Objection.{coded}
use Rattle.db_model.proofs.LeastFault.{earlier_none, earlier_assoc, least_append}
use Rattle.db_check.specs.First.{first}

pub first_none : (why : Cause) → first why [] ≡ None
first_none why = refl

pub first_append : (why : Cause) (xs ys : Lines) → first why (xs ++ ys) ≡ earlier (first why xs) (first why ys)
first_append why xs ys = ap least (map-append (λ (line : ℕ). record { line = line; code = code why }) xs ys) ∙ least_append (coded (code why) xs) (coded (code why) ys)

pub over_append : {A : Type 0} (f : A → Lines) (xs ys : List A) → over f (xs ++ ys) ≡ over f xs ++ over f ys
over_append f [] ys = refl
over_append f (x ∷ xs) ys = ap (λ l. f x ++ l) (over_append f xs ys) ∙ sym (append_assoc (f x) (over f xs) (over f ys))

-- the next of some parts, in front of those that are left
pub over_next : {A : Type 0} (f : A → Lines) (why : Cause) (xs : List A) (i : ℕ) (x : A) → i < length xs → x ≡ get_or xs i x → first why (over f (drop i xs)) ≡ earlier (first why (f x)) (first why (over f (drop (i + 1) xs)))
over_next f why xs i x h e =
    ap (first why) (at_drop_more (over f) xs i x h ∙ ap (λ y. f y ++ over f (drop (i + 1) xs)) (sym e))
    ∙ first_append why (f x) (over f (drop (i + 1) xs))

-- a walk over parts: what is found, with what the parts that are left would give
pub step_on : {A : Type 0} (f : A → Lines) (why : Cause) (xs : List A) (i : ℕ) (x : A) (found one next whole : Option Fault) → i < length xs → x ≡ get_or xs i x → one ≡ first why (f x) → next ≡ earlier found one → earlier found (first why (over f (drop i xs))) ≡ whole → earlier next (first why (over f (drop (i + 1) xs))) ≡ whole
step_on f why xs i x found one next whole h e o n w =
    ap (λ a. earlier a (first why (over f (drop (i + 1) xs)))) (n ∙ ap (earlier found) o)
    ∙ (earlier_assoc found (first why (f x)) (first why (over f (drop (i + 1) xs)))
    ∙ (ap (earlier found) (sym (over_next f why xs i x h e)) ∙ w))

pub at_end : {A : Type 0} (f : A → Lines) (why : Cause) (xs : List A) (i : ℕ) (found whole : Option Fault) → length xs ≤ i → earlier found (first why (over f (drop i xs))) ≡ whole → found ≡ whole
at_end f why xs i found whole h w = sym (earlier_none found) ∙ (ap (earlier found) (sym (ap (first why) (at_drop_all (over f) xs i h) ∙ first_none why)) ∙ w)
