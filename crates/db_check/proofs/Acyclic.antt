-- A name that leads back to itself has a height in each round that is no less than the round. So where all heights are low, no name does.
use Rattle.std.specs.Prelude.{◌≡◌, ◌⊎◌, ℕ, zero, suc, min, max, ◌<◌, ◌≤◌, nat_lt, Bool, true, false, not, ◌||◌, ◌&&◌, List, [], ◌∷◌, ◌++◌, map, slice_get, unwrap_or, bytes_eq, is_some, Option, Some, None}
use Rattle.std.specs.List.{list_any, list_all}
use Rattle.std.specs.Cmp.Lexicographic.{bytes_decides}
use Rattle.std.proofs.Common.{refl, ap, sym, subst, ◌∙◌, arith, inl, inr}
use Rattle.std.proofs.lemmas.Bool.Decides.{nat_tests}
use Rattle.std.proofs.lemmas.List.Folds.{list_any-append}
use Rattle.db_cause.specs.declared.cause.Cause.TheVariants as cause
use Rattle.db_model.specs.declared.database.NamedBlock.{NamedBlock}
use Rattle.db_model.specs.declared.database.Protocol.{Protocol}
use Rattle.db_model.specs.declared.element.Element as element
use Rattle.db_model.specs.declared.element.Element.{Element, Row_of-Element, end_of-Element, more_of-Element, Row_of-Case, end_of-Case, more_of-Case, Held-Element-Switch-3, None', Some'}
use Rattle.db_model.specs.BlockFaults.{includes_step, includes_of, includes_in, included_by, Includes, Reaches, protocol_within, is_nothing, protocol_45, protocol_46}
use Rattle.db_model.specs.BlockFaults.Reaches.{AtOnce, Through}
use Rattle.db_model.specs.Chain.{elements_of}
use Rattle.db_model.specs.Folds.{fold_row, fold_cases, fold_held}
use Rattle.db_model.specs.Lines.{at_line}
use Rattle.db_model.specs.NameFaults.{block_names}
use Rattle.db_model.specs.Names.{Text, place}
use Rattle.db_model.specs.Numbering.{BlockAt, block_at, blocks_in, counts_in, fields_in, all_names, case_names, branch_names}
use Rattle.db_laws.specs.Laws.{CyclesFound}
use Rattle.db_check.specs.declared.heights.TheConstants.{TOO_HIGH}
use Rattle.db_check.specs.First.{first}
use Rattle.db_check.specs.Heights.{raised, tallest, case_heights, branch_height, height_step, height_of, height_in, height_at, heights_after}
use Rattle.db_check.proofs.Nesting.{height_by, body_height, within_is, deep_is, after_none, after_one}

abbrev In : Text → List Text → Type 0
In x xs = list_any (bytes_eq x) xs ≡ true

either : (a b : Bool) → (a || b) ≡ true → (a ≡ true) ⊎ (b ≡ true)
either true b h = inl refl
either false b h = inr h

in_either : (x : Text) (a b : List Text) → In x (a ++ b) → In x a ⊎ In x b
in_either x a b h = either (list_any (bytes_eq x) a) (list_any (bytes_eq x) b) (sym (list_any-append (bytes_eq x) a b) ∙ h)

-- ---- an included block is no higher than where it is included, up to the height that is too great

pick : {A B P : Type 0} → A ⊎ B → (A → P) → (B → P) → P
pick (inl a) f g = f a
pick (inr b) f g = g b

left_of : (x a b : ℕ) → x ≤ a → x ≤ max a b
left_of x a b h = omega (arith, h)

right_of : (x a b : ℕ) → x ≤ b → x ≤ max a b
right_of x a b h = omega (arith, h)

under : (x a : ℕ) → x ≤ TOO_HIGH → x ≤ a → x ≤ raised a
under x a l h = omega (arith, l, h)

same_height : (I : Text → ℕ) (x name : Text) (b : Bool) → bytes_eq x name ≡ b → (b || false) ≡ true → I x ≤ I name
same_height I x name true e h = let n : x ≡ name = (bytes_decides x name).0 e in subst (λ (t : Text). I x ≤ I t) n (omega arith)
same_height I x name false e h = (cc)

module _ (I : Text → ℕ) (x : Text) (low : I x ≤ TOO_HIGH) where
  mutual
    below_of : (e : Element) → In x (includes_of e) → I x ≤ height_of I e
    below_of (element.Field line name form longname show) h = (cc)
    below_of (element.Block' line name longname s body) h = under (I x) (tallest (fold_row ℕ (height_step I) body)) low (below_row body h)
    below_of (element.IncludeBlock line name) h = same_height I x name (bytes_eq x name) refl h
    below_of (element.Loop' line kind e s body) h = under (I x) (tallest (fold_row ℕ (height_step I) body)) low (below_row body h)
    below_of (element.LoopCtrl line kind) h = (cc)
    below_of (element.Switch' line e s cases other) h =
        pick (in_either x (case_names (fold_cases (List Text) includes_step cases)) (branch_names (fold_held (List Text) includes_step other)) h)
        (λ k. left_of (I x) (case_heights (fold_cases ℕ (height_step I) cases)) (branch_height (fold_held ℕ (height_step I) other)) (below_cases cases k))
        (λ k. right_of (I x) (case_heights (fold_cases ℕ (height_step I) cases)) (branch_height (fold_held ℕ (height_step I) other)) (below_held other k))
    below_of (element.If' line e true_line s body other) h =
        pick (in_either x (all_names (fold_row (List Text) includes_step body)) (branch_names (fold_held (List Text) includes_step other)) h)
        (λ k. left_of (I x) (tallest (fold_row ℕ (height_step I) body)) (branch_height (fold_held ℕ (height_step I) other)) (below_row body k))
        (λ k. right_of (I x) (tallest (fold_row ℕ (height_step I) body)) (branch_height (fold_held ℕ (height_step I) other)) (below_held other k))
    below_of (element.Assign line name value) h = (cc)
    below_of (element.Update line table validity keep hit keys row) h = (cc)
    below_of (element.NextProto line proto) h = (cc)

    below_row : {m : _} (xs : Row_of-Element m) → In x (all_names (fold_row (List Text) includes_step xs)) → I x ≤ tallest (fold_row ℕ (height_step I) xs)
    below_row end_of-Element h = (cc)
    below_row (more_of-Element e rest) h =
        pick (in_either x (includes_of e) (all_names (fold_row (List Text) includes_step rest)) h)
        (λ k. left_of (I x) (height_of I e) (tallest (fold_row ℕ (height_step I) rest)) (below_of e k))
        (λ k. right_of (I x) (height_of I e) (tallest (fold_row ℕ (height_step I) rest)) (below_row rest k))

    below_cases : {m : _} (xs : Row_of-Case m) → In x (case_names (fold_cases (List Text) includes_step xs)) → I x ≤ case_heights (fold_cases ℕ (height_step I) xs)
    below_cases end_of-Case h = (cc)
    below_cases (more_of-Case line value maxvalue s body rest) h =
        pick (in_either x (all_names (fold_row (List Text) includes_step body)) (case_names (fold_cases (List Text) includes_step rest)) h)
        (λ k. left_of (I x) (tallest (fold_row ℕ (height_step I) body)) (case_heights (fold_cases ℕ (height_step I) rest)) (below_row body k))
        (λ k. right_of (I x) (tallest (fold_row ℕ (height_step I) body)) (case_heights (fold_cases ℕ (height_step I) rest)) (below_cases rest k))

    below_held : (o : Held-Element-Switch-3) → In x (branch_names (fold_held (List Text) includes_step o)) → I x ≤ branch_height (fold_held ℕ (height_step I) o)
    below_held None' h = (cc)
    below_held (Some' line s body) h = below_row body h

  below_list : (xs : List Element) → In x (includes_in xs) → I x ≤ height_in I xs
  below_list [] h = (cc)
  below_list (e ∷ xs) h =
      pick (in_either x (includes_of e) (includes_in xs) h)
      (λ k. left_of (I x) (height_of I e) (height_in I xs) (below_of e k))
      (λ k. right_of (I x) (height_of I e) (height_in I xs) (below_list xs k))

-- ---- names that lead back

module _ (p : Protocol) where
  abbrev H : ℕ → Text → ℕ
  H r name = height_at (block_names p) (heights_after p r) name

  next_is : (r : ℕ) (a : Text) → H (suc r) a ≡ body_height (λ body. raised (height_in (H r) body)) (block_at p a)
  next_is r a = ap (λ (hs : List ℕ). height_at (block_names p) hs a) (after_one p r) ∙ height_by (λ body. raised (height_in (H r) body)) (counts_in (fields_in p.format)) a (blocks_in p.format)

  low_by : (r : ℕ) (o : Option BlockAt) → body_height (λ body. raised (height_in (H r) body)) o ≤ TOO_HIGH
  low_by r None = omega arith
  low_by r (Some b) = omega arith

  one_more : (r : ℕ) (a b : Text) → H r b ≤ TOO_HIGH → Includes p a b → min (suc (H r b)) TOO_HIGH ≤ H (suc r) a
  one_more r a b l h = let n = next_is r a in let k = by (block_at p a) h in omega (arith, n, k)
    where
      by : (o : Option BlockAt) → list_any (bytes_eq b) (included_by o) ≡ true → min (suc (H r b)) TOO_HIGH ≤ body_height (λ body. raised (height_in (H r) body)) o
      by None h = (cc)
      by (Some c) h = let m = below_list (H r) b l c.body h in omega (arith, m)

  reach_on : (a b c : Text) → Reaches p a b → Includes p b c → Reaches p a c
  reach_on _ _ c (AtOnce a b h) e = Through a b c h (AtOnce b c e)
  reach_on _ _ c (Through a x b h r) e = Through a x c h (reach_on x b c r e)

  none_by : (bs : List NamedBlock) (i : ℕ) → unwrap_or (slice_get (map (λ (b : NamedBlock). 0) bs) i) 0 ≤ TOO_HIGH
  none_by [] i = omega arith
  none_by (b ∷ bs) zero = omega arith
  none_by (b ∷ bs) (suc i) = none_by bs i

  cap : (r : ℕ) (b : Text) → H r b ≤ TOO_HIGH
  cap zero b = subst (λ (hs : List ℕ). height_at (block_names p) hs b ≤ TOO_HIGH) (sym (after_none p)) (none_by (blocks_in p.format) (place b (block_names p)))
  cap (suc r) b = let n = next_is r b in let k = low_by r (block_at p b) in omega (arith, n, k)

  -- the first step of a way from a name back to it
  first_step : (a b : Text) → Reaches p a b → a ≡ b → (x : Text) × (Includes p a x × Reaches p x x)
  first_step _ _ (AtOnce a b h) e = (b, (h, subst (λ (y : Text). Reaches p y b) e (AtOnce a b h)))
  first_step _ _ (Through a x b h r) e = (x, (h, reach_on x a x (subst (λ (y : Text). Reaches p x y) (sym e) r) h))

  tall : (r : ℕ) → r ≤ TOO_HIGH → (a : Text) → Reaches p a a → r ≤ H r a
  tall zero l a c = omega arith
  tall (suc r) l a c =
      let f = first_step a a c refl in
      let t = tall r (omega (arith, l)) f.0 f.1.1 in
      let m = one_more r a f.0 (cap r f.0) f.1.0 in
      omega (arith, t, m, l)

low_at : (hs : List ℕ) (i : ℕ) → list_all (λ h. nat_lt h TOO_HIGH) hs ≡ true → unwrap_or (slice_get hs i) 0 < TOO_HIGH
low_at [] i h = omega arith
low_at (x ∷ hs) zero h = first_low (nat_lt x TOO_HIGH) refl h
  where
    first_low : (b : Bool) → nat_lt x TOO_HIGH ≡ b → (b && list_all (λ h. nat_lt h TOO_HIGH) hs) ≡ true → x < TOO_HIGH
    first_low true e h = grind (arith, nat_tests)
    first_low false e h = (cc)
low_at (x ∷ hs) (suc i) h = low_at hs i (both (nat_lt x TOO_HIGH) (list_all (λ h. nat_lt h TOO_HIGH) hs) h)
  where
    both : (a b : Bool) → (a && b) ≡ true → b ≡ true
    both true b h = h
    both false b h = (cc)

second : (a b : Bool) → (a && b) ≡ true → b ≡ true
second true b h = h
second false b h = (cc)

-- a protocol without too great heights has neither fault
no_way : (p : Protocol) → protocol_within p ≡ true → (a : Text) → Reaches p a a → ⊥
no_way p w a c =
    let t = tall p 65 (omega arith) a c in
    let all = second (nat_lt (height_in (height_at (block_names p) (heights_after p 65)) (elements_of p)) TOO_HIGH) (list_all (λ h. nat_lt h TOO_HIGH) (heights_after p 65)) (within_is p 64 refl ∙ w) in
    let l = low_at (heights_after p 65) (place a (block_names p)) all in
    absurd (omega (arith, t, l))

pub no_cycles : CyclesFound → (p : Protocol) → protocol_within p ≡ true → protocol_45 p ≡ []
no_cycles law p w = (law.of_protocol p).1 (no_way p w)

and_false : (a : Bool) → (a && false) ≡ false
and_false true = refl
and_false false = refl

pub not_deep : (p : Protocol) → protocol_within p ≡ true → protocol_46 p ≡ []
not_deep p w = ap (at_line p.line) (ap (λ b. is_nothing (protocol_45 p) && not b) w ∙ and_false (is_nothing (protocol_45 p)))

pub deep_here : (p : Protocol) → protocol_within p ≡ false → protocol_46 p ≡ at_line p.line (not (is_some (first cause.IncludesItself (protocol_45 p))))
deep_here p w = deep_is p ∙ ap (at_line p.line) (ap (λ b. not (is_some (first cause.IncludesItself (protocol_45 p))) && not b) w ∙ and_true (not (is_some (first cause.IncludesItself (protocol_45 p)))))
  where
    and_true : (a : Bool) → (a && true) ≡ a
    and_true true = refl
    and_true false = refl
