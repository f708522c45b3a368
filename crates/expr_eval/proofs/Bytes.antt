-- Pieces of bytes, texts within them, and numbers written as bytes.
use Rattle.std.specs.Prelude.{◌≡◌, ℕ, zero, suc, ◌+◌, ◌-◌, ◌/◌, ◌%◌, ◌^◌, ◌<◌, ◌≤◌, Bool, true, false, ◌||◌, ◌&&◌, nat_eq, List, [], ◌∷◌, ◌++◌, length, take, drop, slice_index, Option, Some, None, Ok, nat_le}
use Rattle.std.proofs.Common.{refl, sym, ap, subst, ◌∙◌, append_assoc, arith, reverse, is_some}
use Rattle.std.proofs.lemmas.List.{drop-take, reverse-append, length-take, length-drop}
use Rattle.std.proofs.lemmas.Bool.Decides.{Decides-eqb}
use Rattle.std.specs.Cmp.Lexicographic.{pointwise}
use Rattle.memchr.specs.Find.{OccursAt, FindsNeedle}
use Rattle.db_model.specs.declared.tree.Reason.TheVariants as reason
use Rattle.db_model.specs.declared.value.Value.TheVariants.{Buf}
use Rattle.db_model.specs.Expression.{slice, when}
use Rattle.db_model.specs.Numbers.{occurs, to_bytes}

-- ---- a piece of a piece

take_less : (c n : ℕ) (xs : List ℕ) → c ≤ n → take c (take n xs) ≡ take c xs
take_less zero n xs h = refl
take_less (suc c) zero xs h = absurd (omega arith)
take_less (suc c) (suc n) [] h = refl
take_less (suc c) (suc n) (x ∷ xs) h = ap (λ (l : List ℕ). x ∷ l) (take_less c n xs (omega arith))

drop_none : (n : ℕ) → drop {A = ℕ} n [] ≡ []
drop_none zero = refl
drop_none (suc n) = refl

drop_more : (s f n : ℕ) (xs : List ℕ) → n ≡ s + f → drop f (drop s xs) ≡ drop n xs
drop_more zero f n xs e = let d : f ≡ n = omega arith in ap (λ (k : ℕ). drop k xs) d
drop_more (suc s) f n [] e = drop_none f ∙ sym (drop_none n)
drop_more (suc s) f zero (x ∷ xs) e = absurd (omega arith)
drop_more (suc s) f (suc n) (x ∷ xs) e = drop_more s f n xs (omega arith)

piece_of : (p : List ℕ) (s f c k : ℕ) → take c (drop f (take (f + (c + k)) (drop s p))) ≡ take c (drop (s + f) p)
piece_of p s f c k = ap (take c) (drop-take f (c + k) (drop s p)) ∙ take_less c (c + k) (drop f (drop s p)) (omega arith) ∙ ap (take c) (drop_more s f (s + f) p refl)

-- a piece within a piece of the packet, as a piece of the packet
pub piece_within : (p : List ℕ) (s a f c : ℕ) → f + c ≤ length (take a (drop s p)) → take c (drop f (take a (drop s p))) ≡ take c (drop (s + f) p)
piece_within p s a f c h =
    let e : a ≡ f + (c + (a - (f + c))) = omega (arith, length-take a (drop s p)) in
    subst (λ n. take c (drop f (take n (drop s p))) ≡ take c (drop (s + f) p)) (sym e) (piece_of p s f c (a - (f + c)))

pub slice_within : (p : List ℕ) (s a f c : ℕ) → f + c ≤ length (take a (drop s p)) → slice (take a (drop s p)) f c ≡ Ok (Buf (take c (drop (s + f) p)))
slice_within p s a f c h = by (nat_le (f + c) (length (take a (drop s p)))) (grind arith)
  where
    by : (b : Bool) → b ≡ true → when b reason.Slice (Buf (take c (drop f (take a (drop s p))))) ≡ Ok (Buf (take c (drop (s + f) p)))
    by true e = ap (λ (l : List ℕ). Ok (Buf l)) (piece_within p s a f c h)
    by false e = (cc)

-- its start is a position of the packet, or the start of the piece
pub piece_start : (p : List ℕ) (s a f c : ℕ) → f + c ≤ length (take a (drop s p)) → length p ≤ 262144 → s < 2 ^ 32 → s + f < 2 ^ 32
piece_start p s a f c h k l = omega (arith, length-take a (drop s p), length-drop s p)

-- ---- numbers written as bytes

-- one more byte of a number, from its last on
pub byte_more : (k n : ℕ) (bytes : List ℕ) → to_bytes (suc k) n ++ reverse bytes ≡ to_bytes k (n / 256) ++ reverse (bytes ++ n % 256 ∷ [])
byte_more k n bytes = append_assoc (to_bytes k (n / 256)) (n % 256 ∷ []) (reverse bytes) ∙ ap (λ l. to_bytes k (n / 256) ++ l) (sym (reverse-append bytes (n % 256 ∷ [])))

pub last_more : (size place left : ℕ) (bytes all : List ℕ) → place < size → all ≡ to_bytes (size - place) left ++ reverse bytes → all ≡ to_bytes (size - (place + 1)) (left / 256) ++ reverse (bytes ++ left % 256 ∷ [])
last_more size place left bytes all l h =
    let e : size - place ≡ suc (size - (place + 1)) = omega arith in
    h ∙ ap (λ k. to_bytes k left ++ reverse bytes) e ∙ byte_more (size - (place + 1)) left bytes

-- ---- texts within bytes

and_first : (a b : Bool) → (a && b) ≡ true → a ≡ true
and_first true b h = refl
and_first false b h = h

and_second : (a b : Bool) → (a && b) ≡ true → b ≡ true
and_second true b h = h
and_second false b h = (cc)

or_second : (a b : Bool) → b ≡ true → (a || b) ≡ true
or_second true b h = refl
or_second false b h = h

step : (y : ℕ) (hay : List ℕ) (n m : ℕ) → n ≡ suc m → slice_index (y ∷ hay) n ≡ slice_index hay m
step y hay n m e = ap (slice_index (y ∷ hay)) e

-- a text stands at the front exactly where the bytes begin with it
begins : (text hay : List ℕ) → OccursAt hay text 0 → pointwise nat_eq text (take (length text) hay) ≡ true
begins [] hay h = refl
begins (x ∷ text) [] h = absurd (omega (arith, h.fits))
begins (x ∷ text) (y ∷ hay) h =
    let e : x ≡ y = sym (h.reads 0 (omega arith)) in
    both (nat_eq x y) _ ((Decides-eqb x y).1 e) (begins text hay (record { fits = omega (arith, h.fits); reads = λ j l. sym (step y hay (0 + suc j) (0 + j) (omega arith)) ∙ h.reads (suc j) (omega arith) }))
  where
    both : (a b : Bool) → a ≡ true → b ≡ true → (a && b) ≡ true
    both true b p q = q
    both false b p q = p

front : (text hay : List ℕ) → pointwise nat_eq text (take (length text) hay) ≡ true → OccursAt hay text 0
front [] hay h = record { fits = omega arith; reads = λ j l. absurd (omega arith) }
front (x ∷ text) [] h = (cc)
front (x ∷ text) (y ∷ hay) h =
    let e : x ≡ y = (Decides-eqb x y).0 (and_first (nat_eq x y) _ h) in
    let r = front text hay (and_second (nat_eq x y) _ h) in
    record { fits = omega (arith, r.fits); reads = reads e r }
  where
    reads : x ≡ y → OccursAt hay text 0 → (j : ℕ) → j < length (x ∷ text) → slice_index (y ∷ hay) (0 + j) ≡ slice_index (x ∷ text) j
    reads e r zero l = sym e
    reads e r (suc j) l = step y hay (0 + suc j) (0 + j) (omega arith) ∙ r.reads j (omega arith)

-- one byte further
next : (text hay : List ℕ) (y k : ℕ) → OccursAt hay text k → OccursAt (y ∷ hay) text (suc k)
next text hay y k h = record { fits = omega (arith, h.fits); reads = λ j l. step y hay (suc k + j) (k + j) (omega arith) ∙ h.reads j l }

back : (text hay : List ℕ) (y k : ℕ) → OccursAt (y ∷ hay) text (suc k) → OccursAt hay text k
back text hay y k h = record { fits = omega (arith, h.fits); reads = λ j l. sym (step y hay (suc k + j) (k + j) (omega arith)) ∙ h.reads j l }

occurs_from : (text hay : List ℕ) (k : ℕ) → OccursAt hay text k → occurs text hay ≡ true
occurs_from text [] zero h = begins text [] h
occurs_from text [] (suc k) h = absurd (omega (arith, h.fits))
occurs_from text (y ∷ hay) zero h = ap (λ (b : Bool). b || occurs text hay) (begins text (y ∷ hay) h)
occurs_from text (y ∷ hay) (suc k) h = or_second _ (occurs text hay) (occurs_from text hay k (back text hay y k h))

pub record Place (text hay : List ℕ) : Type 0 where
  pub place : ℕ
  pub within : place < length hay + 1
  pub stands : OccursAt hay text place

place_in : (text hay : List ℕ) → occurs text hay ≡ true → Place text hay
place_in text [] h = record { place = 0; within = omega arith; stands = front text [] h }
place_in text (y ∷ hay) h = by (pointwise nat_eq text (take (length text) (y ∷ hay))) refl h (λ g. place_in text hay g)
  where
    by : (b : Bool) → pointwise nat_eq text (take (length text) (y ∷ hay)) ≡ b → (b || occurs text hay) ≡ true → (occurs text hay ≡ true → Place text hay) → Place text (y ∷ hay)
    by true e g later = record { place = 0; within = omega arith; stands = front text (y ∷ hay) e }
    by false e g later = let r = later g in record { place = suc r.place; within = omega (arith, r.within); stands = next text hay y r.place r.stands }

-- what a search finds says whether the text stands somewhere
pub found_occurs : (text hay : List ℕ) (r : Option ℕ) → FindsNeedle hay text 0 r → is_some r ≡ occurs text hay
found_occurs text hay (Some k) h = sym (occurs_from text hay k h.1)
found_occurs text hay None h = by (occurs text hay) refl
  where
    by : (b : Bool) → occurs text hay ≡ b → false ≡ b
    by true e = let r = place_in text hay e in absurd (h r.place (omega arith) r.within r.stands)
    by false e = refl
