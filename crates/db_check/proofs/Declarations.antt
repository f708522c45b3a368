-- Declarations one after another: those too many, and the entries of tables.
use Rattle.std.specs.Prelude.{◌≡◌, ◌⊎◌, ℕ, zero, suc, ◌+◌, ◌-◌, ◌^◌, ◌<◌, ◌≤◌, min, Bool, true, false, ◌||◌, nat_lt, nat_le, List, [], ◌∷◌, ◌++◌, map, length, drop, get_or, slice_get, Option, None}
use Rattle.std.proofs.Common.{refl, ap, sym, ◌∙◌, append_assoc, arith, inl, inr, ltb, ltb-true}
use Rattle.std.proofs.lemmas.Bool.Decides.{nat_tests}
use Rattle.std.proofs.lemmas.List.{at_drop_more}
use Rattle.db_cause.specs.declared.cause.Cause.TheVariants as cause
use Rattle.db_model.specs.declared.database.TableDecl.{TableDecl}
use Rattle.db_model.specs.declared.fault.Fault.{Fault}
use Rattle.db_model.specs.declared.limits.TheConstants.{MOST_EXACT, MOST_EXACT_OVER_ALL, MOST_MASKED}
use Rattle.db_model.specs.LeastFault.{earlier}
use Rattle.db_model.specs.Lines.{Lines, over, at_line}
use Rattle.db_model.specs.NumberFaults.{is_outside, too_many, tables_43, key_43, column_43}
use Rattle.db_model.proofs.LeastFault.{earlier_assoc}
use Rattle.db_check.specs.Entries.{too_many_entries, table_lines}
use Rattle.db_check.specs.First.{first}
use Rattle.db_check.proofs.FirstFault.{first_append}

many_some : {X : Type 0} (f : X → ℕ) (most : ℕ) (xs : List X) (x : X) → most < length xs → x ≡ get_or xs most x → too_many most (map f xs) ≡ f x ∷ []
many_some f most [] x h e = absurd (omega (arith, h))
many_some f zero (y ∷ xs) x h e = ap (λ z. f z ∷ []) (sym e)
many_some f (suc most) (y ∷ xs) x h e = many_some f most xs x (omega (arith, h)) e

pub many_at : {X : Type 0} (f : X → ℕ) (most : ℕ) (xs : List X) (x : X) → true ≡ ltb most (length xs) → x ≡ get_or xs most x → too_many most (map f xs) ≡ f x ∷ []
many_at f most xs x h e = many_some f most xs x (ltb-true most (length xs) (sym h)) e

pub many_none : {X : Type 0} (f : X → ℕ) (most : ℕ) (xs : List X) → slice_get xs most ≡ None → too_many most (map f xs) ≡ []
many_none f zero [] h = refl
many_none f (suc most) [] h = refl
many_none f zero (y ∷ xs) h = (cc)
many_none f (suc most) (y ∷ xs) h = many_none f most xs h

-- two counts that are the same, or both too great
abbrev pub Alike : ℕ → ℕ → Type 0
Alike a b = (a ≡ b) ⊎ ((MOST_EXACT_OVER_ALL < a) × (MOST_EXACT_OVER_ALL < b))

alike_more : (a b e : ℕ) → Alike a b → Alike (a + e) (b + e)
alike_more a b e (inl h) = inl (ap (λ n. n + e) h)
alike_more a b e (inr h) = inr (omega (arith, h.0), omega (arith, h.1))

is_over : (a : ℕ) → MOST_EXACT_OVER_ALL < a → nat_lt MOST_EXACT_OVER_ALL a ≡ true
is_over a h = grind (arith, nat_tests)

alike_test : (a b : ℕ) → Alike a b → nat_lt MOST_EXACT_OVER_ALL a ≡ nat_lt MOST_EXACT_OVER_ALL b
alike_test a b (inl h) = ap (nat_lt MOST_EXACT_OVER_ALL) h
alike_test a b (inr h) = is_over a h.0 ∙ sym (is_over b h.1)

alike_lines : (a b : ℕ) (t : TableDecl) → Alike a b → table_lines a t ≡ table_lines b t
alike_lines a b t h = ap (λ (w : Bool). at_line t.line (is_outside 1 MOST_EXACT t.exact_entries || (w || nat_lt MOST_MASKED t.mask_entries)) ++ (over key_43 t.keys ++ over column_43 t.columns)) (alike_test (a + t.exact_entries) (b + t.exact_entries) (alike_more a b t.exact_entries h))

first_table : (a : ℕ) (t : TableDecl) (ts : List TableDecl) → tables_43 a (t ∷ ts) ≡ table_lines a t ++ tables_43 (a + t.exact_entries) ts
first_table a t ts =
    let own : Lines = at_line t.line (too_many_entries a t) in
    ap (λ l. own ++ l) (sym (append_assoc (over key_43 t.keys) (over column_43 t.columns) (tables_43 (a + t.exact_entries) ts)))
    ∙ sym (append_assoc own (over key_43 t.keys ++ over column_43 t.columns) (tables_43 (a + t.exact_entries) ts))

alike_tables : (a b : ℕ) (ts : List TableDecl) → Alike a b → tables_43 a ts ≡ tables_43 b ts
alike_tables a b [] h = refl
alike_tables a b (t ∷ ts) h = first_table a t ts ∙ ((λ i. alike_lines a b t h i ++ alike_tables (a + t.exact_entries) (b + t.exact_entries) ts (alike_more a b t.exact_entries h) i) ∙ sym (first_table b t ts))

by_cap : (n m : ℕ) (b : Bool) → nat_le n m ≡ b → MOST_EXACT_OVER_ALL < m → Alike n (min n m)
by_cap n m true e h = let le : n ≤ m = grind (arith, nat_tests) in inl (omega (arith, le))
by_cap n m false e h = let gt : m < n = grind (arith, nat_tests) in inr (omega (arith, h, gt), omega (arith, h, gt))

-- the first fault of some numbers and then of others
pub limits_append : (xs ys : Lines) → first cause.OutOfLimits (xs ++ ys) ≡ earlier (first cause.OutOfLimits xs) (first cause.OutOfLimits ys)
limits_append xs ys = first_append cause.OutOfLimits xs ys

pub tables_next : (ts : List TableDecl) (i : ℕ) (t : TableDecl) (before after : ℕ) (found one next whole : Option Fault) → i < length ts → t ≡ get_or ts i t → one ≡ first cause.OutOfLimits (table_lines before t) → next ≡ earlier found one → after ≡ min (before + t.exact_entries) (2 ^ 64 - 1)
    → earlier found (first cause.OutOfLimits (tables_43 before (drop i ts))) ≡ whole → earlier next (first cause.OutOfLimits (tables_43 after (drop (i + 1) ts))) ≡ whole
tables_next ts i t before after found one next whole h e o n s k =
    let rest : List TableDecl = drop (i + 1) ts in
    let sum : ℕ = before + t.exact_entries in
    let same : tables_43 sum rest ≡ tables_43 after rest = alike_tables sum (min sum (2 ^ 64 - 1)) rest (by_cap sum (2 ^ 64 - 1) (nat_le sum (2 ^ 64 - 1)) refl (omega arith)) ∙ ap (λ m. tables_43 m rest) (sym s) in
    let here : tables_43 before (drop i ts) ≡ table_lines before t ++ tables_43 after rest =
    at_drop_more (tables_43 before) ts i t h ∙ (ap (λ (y : TableDecl). tables_43 before (y ∷ rest)) (sym e) ∙ (first_table before t rest ∙ ap (λ l. table_lines before t ++ l) same)) in
    ap (λ a. earlier a (first cause.OutOfLimits (tables_43 after rest))) (n ∙ ap (earlier found) o)
    ∙ (earlier_assoc found (first cause.OutOfLimits (table_lines before t)) (first cause.OutOfLimits (tables_43 after rest))
    ∙ (ap (earlier found) (sym (ap (first cause.OutOfLimits) here ∙ first_append cause.OutOfLimits (table_lines before t) (tables_43 after rest))) ∙ k))
