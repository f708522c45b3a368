-- The heights of a table are those of the definition: what stands within some levels has at most that height.
use Rattle.std.specs.Prelude.{◌≡◌, ℕ, zero, suc, ◌+◌, max, ◌<◌, ◌≤◌, nat_lt, nat_le, Bool, true, false, not, ◌&&◌, if◌then◌else◌, List, [], ◌∷◌, ◌++◌, map, slice_get, unwrap_or, bytes_eq, is_some, Option, Some, None}
use Rattle.std.specs.List.{list_all}
use Rattle.std.specs.Option.{option_map}
use Rattle.std.proofs.Common.{refl, ap, sym, ◌∙◌, arith}
use Rattle.std.proofs.lemmas.Bool.Decides.{nat_tests}
use Rattle.db_cause.specs.declared.cause.Cause.TheVariants as cause
use Rattle.db_cause.specs.Codes.{code}
use Rattle.db_model.specs.declared.database.NamedBlock.{NamedBlock}
use Rattle.db_model.specs.declared.database.Protocol.{Protocol}
use Rattle.db_model.specs.declared.element.Branch.{Branch}
use Rattle.db_model.specs.declared.element.Case.{Case}
use Rattle.db_model.specs.declared.element.Element as element
use Rattle.db_model.specs.declared.element.Element.{Element, Row_of-Element, end_of-Element, more_of-Element, Row_of-Case, end_of-Case, more_of-Case, Held-Element-Switch-3, None', Some'}
use Rattle.db_model.specs.declared.element.LoopKind.{LoopKind}
use Rattle.db_model.specs.declared.expression.Expr.{Expr}
use Rattle.db_model.specs.declared.limits.TheConstants.{MOST_NESTED}
use Rattle.db_model.specs.BlockFaults.{Within, one_within, all_within, cases_within, branch_within, within_step, within_of, within_in, block_by, block_within, protocol_within, is_nothing, protocol_45, protocol_46}
use Rattle.db_model.specs.Chain.{elements_of, before_in, after_in}
use Rattle.db_model.specs.Folds.{fold_row, fold_cases, fold_held}
use Rattle.db_model.specs.declared.fault.Fault.{Fault}
use Rattle.db_model.specs.LeastFault.{comes_first, earlier}
use Rattle.db_model.specs.Lines.{Lines, at_line}
use Rattle.db_model.specs.NameFaults.{block_names}
use Rattle.db_model.specs.Names.{Text, place}
use Rattle.db_model.specs.Numbering.{Counts, BlockAt, plus, a_block, counts_in, fields_in, elements_in, blocks_in, block_from, block_at}
use Rattle.db_model.proofs.Layers.{fold_list, fold_case, fold_branch, fold_case_list, fold_other}
use Rattle.db_check.specs.declared.heights.TheConstants.{TOO_HIGH}
use Rattle.db_check.specs.First.{first}
use Rattle.db_check.specs.Heights.{raised, tallest, case_heights, branch_height, height_step, height_of, height_in, height_of_cases, height_of_other, height_at, next_heights, heights_after}

-- ---- numbers

zero_low : (k : ℕ) → nat_le zero k ≡ true
zero_low k = grind (arith, nat_tests)

raised_zero : (h : ℕ) → nat_le (raised h) zero ≡ false
raised_zero h = grind (arith, nat_tests)

raised_suc : (h k : ℕ) → suc k < TOO_HIGH → nat_le (raised h) (suc k) ≡ nat_le h k
raised_suc h k l = grind (arith, nat_tests)

max_low : (a b k : ℕ) → nat_le (max a b) k ≡ (nat_le a k && nat_le b k)
max_low a b k = grind (arith, nat_tests)

-- ---- an element, where included blocks have the heights of which their levels speak

module _ (I : Text → ℕ) (J : Text → Within) (m : ℕ) (low : m < TOO_HIGH) (same : (name : Text) (k : ℕ) → k ≤ m → nat_le (I name) k ≡ J name k) where
  mutual
    agree : (x : Element) (k : ℕ) → k ≤ m → nat_le (height_of I x) k ≡ within_of J x k
    agree (element.Field line name form longname show) k h = zero_low k
    agree (element.Block' line name longname s body) zero h = raised_zero (tallest (fold_row ℕ (height_step I) body))
    agree (element.Block' line name longname s body) (suc k) h = raised_suc (tallest (fold_row ℕ (height_step I) body)) k (omega (arith, h, low)) ∙ agree_row body k (omega (arith, h))
    agree (element.IncludeBlock line name) k h = same name k h
    agree (element.Loop' line kind e s body) zero h = raised_zero (tallest (fold_row ℕ (height_step I) body))
    agree (element.Loop' line kind e s body) (suc k) h = raised_suc (tallest (fold_row ℕ (height_step I) body)) k (omega (arith, h, low)) ∙ agree_row body k (omega (arith, h))
    agree (element.LoopCtrl line kind) k h = zero_low k
    agree (element.Switch' line e s cases other) k h = max_low (case_heights (fold_cases ℕ (height_step I) cases)) (branch_height (fold_held ℕ (height_step I) other)) k ∙ (λ i. agree_cases cases k h i && agree_held other k h i)
    agree (element.If' line e true_line s body other) k h = max_low (tallest (fold_row ℕ (height_step I) body)) (branch_height (fold_held ℕ (height_step I) other)) k ∙ (λ i. agree_row body k h i && agree_held other k h i)
    agree (element.Assign line name value) k h = zero_low k
    agree (element.Update line table validity keep hit keys row) k h = zero_low k
    agree (element.NextProto line proto) k h = zero_low k

    agree_row : {n : _} (xs : Row_of-Element n) (k : ℕ) → k ≤ m → nat_le (tallest (fold_row ℕ (height_step I) xs)) k ≡ all_within (fold_row Within (within_step J) xs) k
    agree_row end_of-Element k h = zero_low k
    agree_row (more_of-Element x rest) k h = max_low (height_of I x) (tallest (fold_row ℕ (height_step I) rest)) k ∙ (λ i. agree x k h i && agree_row rest k h i)

    agree_cases : {n : _} (xs : Row_of-Case n) (k : ℕ) → k ≤ m → nat_le (case_heights (fold_cases ℕ (height_step I) xs)) k ≡ cases_within (fold_cases Within (within_step J) xs) k
    agree_cases end_of-Case k h = zero_low k
    agree_cases (more_of-Case line value maxvalue s body rest) k h = max_low (tallest (fold_row ℕ (height_step I) body)) (case_heights (fold_cases ℕ (height_step I) rest)) k ∙ (λ i. agree_row body k h i && agree_cases rest k h i)

    agree_held : (x : Held-Element-Switch-3) (k : ℕ) → k ≤ m → nat_le (branch_height (fold_held ℕ (height_step I) x)) k ≡ branch_within (fold_held Within (within_step J) x) k
    agree_held None' k h = zero_low k
    agree_held (Some' line s body) k h = agree_row body k h

  agree_list : (xs : List Element) (k : ℕ) → k ≤ m → nat_le (height_in I xs) k ≡ within_in J xs k
  agree_list [] k h = zero_low k
  agree_list (x ∷ xs) k h = max_low (height_of I x) (height_in I xs) k ∙ (λ i. agree x k h i && agree_list xs k h i)

-- ---- the table

abbrev pub body_height : (List Element → ℕ) → Option BlockAt → ℕ
body_height G None = 0
body_height G (Some b) = G b.body

-- what a name has in a table of all blocks is what its first block has
pub height_by : (G : List Element → ℕ) (at : Counts) (name : Text) (bs : List NamedBlock) → unwrap_or (slice_get (map (λ (b : NamedBlock). G b.body) bs) (place name (map (λ (b : NamedBlock). b.name) bs))) 0 ≡ body_height G (block_from at name bs)
height_by G at name [] = refl
height_by G at name (b ∷ bs) = by (bytes_eq name b.name) (height_by G (plus (plus at a_block) (counts_in b.body)) name bs)
  where
    by : (c : Bool) → unwrap_or (slice_get (map (λ (b : NamedBlock). G b.body) bs) (place name (map (λ (b : NamedBlock). b.name) bs))) 0 ≡ body_height G (block_from (plus (plus at a_block) (counts_in b.body)) name bs)
        → unwrap_or (slice_get (map (λ (b : NamedBlock). G b.body) (b ∷ bs)) (if c then zero else suc (place name (map (λ (b : NamedBlock). b.name) bs)))) 0 ≡ body_height G (if c then Some (record { before = at; body = b.body }) else block_from (plus (plus at a_block) (counts_in b.body)) name bs)
    by true h = refl
    by false h = h

-- the meaning of a name, by its block
abbrev meant : Protocol → ℕ → Option BlockAt → Within
meant p zero o n = not (is_some o)
meant p (suc f) o n = block_by (block_within p f) o n

meant_is : (p : Protocol) (f : ℕ) (name : Text) (n : ℕ) → block_within p f name n ≡ meant p f (block_at p name) n
meant_is p zero name n = refl
meant_is p (suc f) name n = refl

-- the heights of a round are right below it
pub rounds_agree : (p : Protocol) (r : ℕ) (name : Text) (f n : ℕ) → n < r → n < TOO_HIGH → n ≤ f → nat_le (height_at (block_names p) (heights_after p r) name) n ≡ block_within p f name n
unfolding heights_after
rounds_agree p zero name f n h l k = absurd (omega (arith, h))
rounds_agree p (suc r) name f n h l k =
    ap (λ x. nat_le x n) (height_by (λ body. raised (height_in (height_at (block_names p) (heights_after p r)) body)) (counts_in (fields_in p.format)) name (blocks_in p.format))
    ∙ (by (block_at p name) f n h l k (λ (f n : ℕ) (h : n < r) (l : n < TOO_HIGH) (k : n ≤ f) (name : Text). rounds_agree p r name f n h l k) ∙ sym (meant_is p f name n))
  where
    by : (o : Option BlockAt) (f n : ℕ) → n < suc r → n < TOO_HIGH → n ≤ f → ((f n : ℕ) → n < r → n < TOO_HIGH → n ≤ f → (name : Text) → nat_le (height_at (block_names p) (heights_after p r) name) n ≡ block_within p f name n)
        → nat_le (body_height (λ body. raised (height_in (height_at (block_names p) (heights_after p r)) body)) o) n ≡ meant p f o n
    by None zero n h l k g = zero_low n
    by None (suc f) n h l k g = zero_low n
    by (Some b) zero zero h l k g = raised_zero (height_in (height_at (block_names p) (heights_after p r)) b.body)
    by (Some b) zero (suc n) h l k g = absurd (omega (arith, k))
    by (Some b) (suc f) zero h l k g = raised_zero (height_in (height_at (block_names p) (heights_after p r)) b.body)
    by (Some b) (suc f) (suc n) h l k g =
        raised_suc (height_in (height_at (block_names p) (heights_after p r)) b.body) n l
        ∙ agree_list (height_at (block_names p) (heights_after p r)) (block_within p f) n (omega (arith, l)) (λ name j e. g f j (omega (arith, h, e)) (omega (arith, l, e)) (omega (arith, k, e)) name) b.body n (omega arith)

-- ---- a protocol

lt_low : (h : ℕ) → nat_lt h TOO_HIGH ≡ nat_le h MOST_NESTED
lt_low h = grind (arith, nat_tests)

blocks_low : (G : List Element → ℕ) (test : List Element → Bool) → ((body : List Element) → nat_lt (G body) TOO_HIGH ≡ test body) → (bs : List NamedBlock) → list_all (λ h. nat_lt h TOO_HIGH) (map (λ (b : NamedBlock). G b.body) bs) ≡ list_all (λ (b : NamedBlock). test b.body) bs
blocks_low G test e [] = refl
blocks_low G test e (b ∷ bs) = λ i. e b.body i && blocks_low G test e bs i

body_low : (p : Protocol) (r : ℕ) → MOST_NESTED ≤ r → (body : List Element) → nat_lt (raised (height_in (height_at (block_names p) (heights_after p r)) body)) TOO_HIGH ≡ one_within (within_in (block_within p MOST_NESTED) body) MOST_NESTED
body_low p r h body =
    lt_low (raised (height_in (height_at (block_names p) (heights_after p r)) body))
    ∙ (raised_suc (height_in (height_at (block_names p) (heights_after p r)) body) 63 (omega arith)
    ∙ agree_list (height_at (block_names p) (heights_after p r)) (block_within p MOST_NESTED) 63 (omega arith) (λ name k e. rounds_agree p r name MOST_NESTED k (omega (arith, h, e)) (omega (arith, e)) (omega (arith, e))) body 63 (omega arith))

pub after_none : (p : Protocol) → heights_after p zero ≡ map (λ (b : NamedBlock). 0) (blocks_in p.format)
unfolding heights_after
after_none p = refl

pub after_one : (p : Protocol) (r : ℕ) → heights_after p (suc r) ≡ next_heights p (heights_after p r)
unfolding heights_after
after_one p r = refl

pub after_next : (p : Protocol) (r : ℕ) → heights_after p (r + 1) ≡ next_heights p (heights_after p r)
after_next p r = let e : r + 1 ≡ suc r = omega arith in ap (heights_after p) e ∙ after_one p r

pub within_is : (p : Protocol) (r : ℕ) → suc r ≡ TOO_HIGH → (nat_lt (height_in (height_at (block_names p) (heights_after p (suc r))) (elements_of p)) TOO_HIGH && list_all (λ h. nat_lt h TOO_HIGH) (heights_after p (suc r))) ≡ protocol_within p
within_is p r e = λ i. run i && blocks i
  where
    run : nat_lt (height_in (height_at (block_names p) (heights_after p (suc r))) (elements_of p)) TOO_HIGH ≡ within_in (block_within p MOST_NESTED) (elements_of p) MOST_NESTED
    run = lt_low (height_in (height_at (block_names p) (heights_after p (suc r))) (elements_of p))
        ∙ agree_list (height_at (block_names p) (heights_after p (suc r))) (block_within p MOST_NESTED) MOST_NESTED (omega arith) (λ name k h. rounds_agree p (suc r) name MOST_NESTED k (omega (arith, h, e)) (omega (arith, h)) h) (elements_of p) MOST_NESTED (omega arith)

    blocks : list_all (λ h. nat_lt h TOO_HIGH) (heights_after p (suc r)) ≡ list_all (λ (b : NamedBlock). one_within (within_in (block_within p MOST_NESTED) b.body) MOST_NESTED) (blocks_in p.format)
    blocks = ap (list_all (λ h. nat_lt h TOO_HIGH)) (after_one p r)
        ∙ blocks_low (λ body. raised (height_in (height_at (block_names p) (heights_after p r)) body)) (λ body. one_within (within_in (block_within p MOST_NESTED) body) MOST_NESTED) (body_low p r (omega (arith, e))) (blocks_in p.format)

-- ---- the walk

pub height_block : (I : Text → ℕ) (line : ℕ) (name : Text) (longname : Option (List ℕ)) (body : List Element) → height_of I (element.Block line name longname body) ≡ raised (height_in I body)
height_block I line name longname body = ap (λ l. raised (tallest l)) (fold_list ℕ (height_step I) body)

pub height_loop : (I : Text → ℕ) (line : ℕ) (kind : LoopKind) (e : Expr) (body : List Element) → height_of I (element.Loop line kind e body) ≡ raised (height_in I body)
height_loop I line kind e body = ap (λ l. raised (tallest l)) (fold_list ℕ (height_step I) body)

cases_are : (I : Text → ℕ) (cs : List Case) → case_heights (map (fold_case ℕ (height_step I)) cs) ≡ height_of_cases I cs
cases_are I [] = refl
cases_are I (c ∷ cs) = ap (max (height_in I c.body)) (cases_are I cs)

other_is : (I : Text → ℕ) (b : Option Branch) → branch_height (option_map (fold_branch ℕ (height_step I)) b) ≡ height_of_other I b
other_is I None = refl
other_is I (Some b) = refl

pub height_switch : (I : Text → ℕ) (line : ℕ) (e : Expr) (cs : List Case) (other : Option Branch) → height_of I (element.Switch line e cs other) ≡ max (height_of_cases I cs) (height_of_other I other)
height_switch I line e cs other = (λ i. max (case_heights (fold_case_list ℕ (height_step I) cs i)) (branch_height (fold_other ℕ (height_step I) other i))) ∙ (λ i. max (cases_are I cs i) (other_is I other i))

pub height_if : (I : Text → ℕ) (line : ℕ) (e : Expr) (true_line : ℕ) (so : List Element) (other : Option Branch) → height_of I (element.If line e true_line so other) ≡ max (height_in I so) (height_of_other I other)
height_if I line e true_line so other = (λ i. max (tallest (fold_list ℕ (height_step I) so i)) (branch_height (fold_other ℕ (height_step I) other i))) ∙ ap (max (height_in I so)) (other_is I other)

max_assoc : (a b c : ℕ) → max (max a b) c ≡ max a (max b c)
max_assoc a b c = omega arith

pub height_append : (I : Text → ℕ) (xs ys : List Element) → height_in I (xs ++ ys) ≡ max (height_in I xs) (height_in I ys)
height_append I [] ys = omega arith
height_append I (x ∷ xs) ys = ap (max (height_of I x)) (height_append I xs ys) ∙ sym (max_assoc (height_of I x) (height_in I xs) (height_in I ys))

pub run_height : (I : Text → ℕ) (p : Protocol) → height_in I (elements_of p) ≡ max (height_in I (before_in p.execute_code)) (max (height_in I (fields_in p.format)) (max (height_in I (after_in p.execute_code)) (height_in I (elements_in p.encapsulation))))
run_height I p =
    height_append I (before_in p.execute_code) (fields_in p.format ++ (after_in p.execute_code ++ elements_in p.encapsulation))
    ∙ ap (max (height_in I (before_in p.execute_code)))
    (height_append I (fields_in p.format) (after_in p.execute_code ++ elements_in p.encapsulation)
    ∙ ap (max (height_in I (fields_in p.format))) (height_append I (after_in p.execute_code) (elements_in p.encapsulation)))

-- a protocol stands too deep where none of its blocks includes itself
one_of_two : (b : Bool) (f g : Fault) → is_some (if b then Some f else Some g) ≡ true
one_of_two true f g = refl
one_of_two false f g = refl

found_some : (f : Fault) (o : Option Fault) → is_some (earlier (Some f) o) ≡ true
found_some f None = refl
found_some f (Some g) = one_of_two (comes_first f g) f g

nothing_is : (ls : Lines) → is_nothing ls ≡ not (is_some (first cause.IncludesItself ls))
nothing_is [] = refl
nothing_is (l ∷ ls) = sym (ap not (found_some (record { line = l; code = code cause.IncludesItself }) (first cause.IncludesItself ls)))

pub deep_is : (p : Protocol) → protocol_46 p ≡ at_line p.line (not (is_some (first cause.IncludesItself (protocol_45 p))) && not (protocol_within p))
deep_is p = ap (λ b. at_line p.line (b && not (protocol_within p))) (nothing_is (protocol_45 p))
