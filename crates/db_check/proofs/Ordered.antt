-- A number that has a turn in an order doesn't lead back to itself, since turns fall along a graph.
use Rattle.std.specs.Prelude.{◌≡◌, ℕ, zero, suc, ◌+◌, ◌<◌, max, nat_lt, Bool, true, false, ◌&&◌, List, [], ◌∷◌, length}
use Rattle.std.proofs.Common.{refl, sym, subst, arith, inl, inr}
use Rattle.std.proofs.lemmas.Bool.{ltb-true}
use Rattle.db_check.specs.Graph.{Graph, edges, IsOneOf, Leads, leads_back}
use Rattle.db_check.specs.Graph.Leads.{Once, Then}
use Rattle.db_check.specs.Order.{turn_of, IsOrder, are_later, is_order}
use Rattle.db_check.proofs.Searched.{search_is}

-- ---- turns fall

falls : (g : Graph) (turns : List ℕ) → IsOrder g turns → (a c : ℕ) → Leads g a c → 0 < turn_of turns c → turn_of turns c < turn_of turns a
falls g turns k _ _ (Once a b o) h = let l = k a b o in omega (arith, l, h)
falls g turns k _ _ (Then a b c o r) h = let l = k a b o in let m = falls g turns k b c r h in omega (arith, l, m, h)

pub not_back : (g : Graph) (turns : List ℕ) (a : ℕ) → IsOrder g turns → 0 < turn_of turns a → false ≡ leads_back g (length g) a
not_back g turns a k h = by (leads_back g (length g) a) refl
  where
    by : (b : Bool) → leads_back g (length g) a ≡ b → false ≡ leads_back g (length g) a
    by false e = sym e
    by true e = let r = falls g turns k a a ((search_is g a).0 e) h in absurd (omega (arith, r))

-- ---- the test

and_parts : (a b : Bool) → (a && b) ≡ true → (a ≡ true) × (b ≡ true)
and_parts true b h = (refl, h)
and_parts false b h = (cc)

later_at : (turns : List ℕ) (turn : ℕ) (ts : List ℕ) (b : ℕ) → are_later turns turn ts ≡ true → IsOneOf b ts → turn_of turns b < max turn 1
later_at turns turn [] b f o = absurd o
later_at turns turn (t ∷ ts) b f (inl e) = subst (λ (n : ℕ). turn_of turns n < max turn 1) (sym e) (ltb-true (turn_of turns t) (max turn 1) (and_parts (nat_lt (turn_of turns t) (max turn 1)) (are_later turns turn ts) f).0)
later_at turns turn (t ∷ ts) b f (inr o) = later_at turns turn ts b (and_parts (nat_lt (turn_of turns t) (max turn 1)) (are_later turns turn ts) f).1 o

order_at : (turns : List ℕ) (g : Graph) (i a b : ℕ) → is_order turns i g ≡ true → IsOneOf b (edges g a) → turn_of turns b < max (turn_of turns (a + i)) 1
order_at turns [] i a b f o = absurd o
order_at turns (ts ∷ g) i zero b f o =
    let here : i ≡ zero + i = omega arith in
    subst (λ (n : ℕ). turn_of turns b < max (turn_of turns n) 1) here (later_at turns (turn_of turns i) ts b (and_parts (are_later turns (turn_of turns i) ts) (is_order turns (suc i) g) f).0 o)
order_at turns (ts ∷ g) i (suc a) b f o =
    let here : a + suc i ≡ suc a + i = omega arith in
    subst (λ (n : ℕ). turn_of turns b < max (turn_of turns n) 1) here (order_at turns g (suc i) a b (and_parts (are_later turns (turn_of turns i) ts) (is_order turns (suc i) g) f).1 o)

pub ordered : (g : Graph) (turns : List ℕ) → true ≡ is_order turns 0 g → IsOrder g turns
ordered g turns f = λ a b o. let here : a + 0 ≡ a = omega arith in subst (λ (n : ℕ). turn_of turns b < max (turn_of turns n) 1) here (order_at turns g 0 a b (sym f) o)

pub no_turns : (g : Graph) → IsOrder g []
no_turns g = λ a b o. omega arith
