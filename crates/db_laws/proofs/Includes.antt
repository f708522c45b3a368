-- The levels of included blocks are enough: in a database without fault 46, more of them change no block.
use Rattle.std.specs.Prelude.{◌≡◌, ℕ, zero, suc, ◌+◌, ◌-◌, ◌≤◌, Bool, true, false, not, ◌&&◌, if◌then◌else◌, List, [], ◌∷◌, ◌++◌, slice_get, bytes_eq, is_some, Option, Some, None}
use Rattle.std.specs.List.{list_all}
use Rattle.std.proofs.Common.{refl, sym, ap, subst, ◌∙◌, arith}
use Rattle.db_model.specs.declared.database.Database.{Database}
use Rattle.db_model.specs.declared.database.NamedBlock.{NamedBlock}
use Rattle.db_model.specs.declared.database.Protocol.{Protocol}
use Rattle.db_model.specs.declared.element.Element as element
use Rattle.db_model.specs.declared.element.Element.{Element, Row_of-Element, end_of-Element, more_of-Element, Row_of-Case, end_of-Case, more_of-Case, Held-Element-Switch-3, None', Some'}
use Rattle.db_model.specs.declared.limits.TheConstants.{MOST_NESTED}
use Rattle.db_model.specs.BlockFaults.{includes_step, includes_of, includes_in, Within, one_within, all_within, cases_within, branch_within, within_step, within_of, within_in, block_by, block_within, protocol_within, is_nothing, protocol_45, protocol_46, fault_45, fault_46}
use Rattle.db_model.specs.Chain.{elements_of}
use Rattle.db_model.specs.Elements.{does, means, number, parts, total, each, or_next, choose, loop_by, block_of, included, Part}
use Rattle.db_model.specs.Expression.{is_so}
use Rattle.db_model.specs.Folds.{CaseOf, BranchOf, fold_row, fold_cases, fold_held, noted_row, noted_cases, noted_held}
use Rattle.db_model.specs.Lines.{Lines, over, at_line}
use Rattle.db_model.specs.Names.{Text}
use Rattle.db_model.specs.Numbering.{Counts, plus, a_block, counts_of, counts_in, BlockAt, block_from, block_at, blocks_in, fields_in, field_names, all_names, case_names, branch_names}
use Rattle.db_model.specs.Objection.{objection}
use Rattle.db_model.specs.Runs.{Run, next, block, evaluated}
use Rattle.db_model.proofs.Accepted.{append_front, append_back, no_faults}

-- ---- names in a list

-- P holds of each name
abbrev pub Each : (Text → Type 0) → List Text → Type 0
Each P [] = Unit {0}
Each P (n ∷ ns) = P n × Each P ns

each_join : (P : Text → Type 0) (ms ns : List Text) → Each P ms → Each P ns → Each P (ms ++ ns)
each_join P [] ns h k = k
each_join P (m ∷ ms) ns h k = (h.0, each_join P ms ns h.1 k)

each_front : (P : Text → Type 0) (ms ns : List Text) → Each P (ms ++ ns) → Each P ms
each_front P [] ns h = tt
each_front P (m ∷ ms) ns h = (h.0, each_front P ms ns h.1)

each_back : (P : Text → Type 0) (ms ns : List Text) → Each P (ms ++ ns) → Each P ns
each_back P [] ns h = h
each_back P (m ∷ ms) ns h = each_back P ms ns h.1

each_map : (P Q : Text → Type 0) → ((n : Text) → P n → Q n) → (ns : List Text) → Each P ns → Each Q ns
each_map P Q f [] h = tt
each_map P Q f (n ∷ ns) h = (f n h.0, each_map P Q f ns h.1)

and_first : (a b : Bool) → (a && b) ≡ true → a ≡ true
and_first true b h = refl
and_first false b h = h

and_second : (a b : Bool) → (a && b) ≡ true → b ≡ true
and_second true b h = h
and_second false b h = (cc)

-- ---- a block that never includes through more than so many levels

abbrev pub Undeclared : Option BlockAt → Type 0
Undeclared None = Unit {0}
Undeclared (Some b) = ⊥

abbrev pub FitsBlock : (Text → Type 0) → Option BlockAt → Type 0
FitsBlock P None = Unit {0}
FitsBlock P (Some b) = Each P (includes_in b.body)

-- at no level nothing is included, so only a block that isn't declared fits
abbrev pub Fits : Protocol → ℕ → Text → Type 0
Fits p zero name = Undeclared (block_at p name)
Fits p (suc n) name = FitsBlock (Fits p n) (block_at p name)

fits_more : (p : Protocol) (n : ℕ) (name : Text) → Fits p n name → Fits p (suc n) name
fits_more p zero name h = by (block_at p name) h
  where
    by : (o : Option BlockAt) → Undeclared o → FitsBlock (Fits p zero) o
    by None h = tt
    by (Some b) h = absurd h
fits_more p (suc n) name h = by (block_at p name) h (λ (m : Text) (k : Fits p n m). fits_more p n m k)
  where
    by : (o : Option BlockAt) → FitsBlock (Fits p n) o → ((m : Text) → Fits p n m → Fits p (suc n) m) → FitsBlock (Fits p (suc n)) o
    by None h g = tt
    by (Some b) h g = each_map (Fits p n) (Fits p (suc n)) g (includes_in b.body) h

undeclared_fits : (p : Protocol) (n : ℕ) (name : Text) → not (is_some (block_at p name)) ≡ true → Fits p n name
undeclared_fits p zero name h = by (block_at p name) h
  where
    by : (o : Option BlockAt) → not (is_some o) ≡ true → Undeclared o
    by None h = tt
    by (Some b) h = (cc)
undeclared_fits p (suc n) name h = by (block_at p name) h
  where
    by : (o : Option BlockAt) → not (is_some o) ≡ true → FitsBlock (Fits p n) o
    by None h = tt
    by (Some b) h = (cc)

-- ---- what stands within some levels includes only blocks that fit them

module _ (include : Text → Within) (P : ℕ → Text → Type 0) (here : (m : Text) (n : ℕ) → include m n ≡ true → P n m) (more : (n : ℕ) (m : Text) → P n m → P (suc n) m) where
  mutual
    found_in : (x : Element) (n : ℕ) → within_of include x n ≡ true → Each (P n) (includes_of x)
    found_in (element.Field line name form longname show) n h = tt
    found_in (element.Block' line name longname s body) zero h = (cc)
    found_in (element.Block' line name longname s body) (suc n) h = each_map (P n) (P (suc n)) (more n) (all_names (fold_row (List Text) includes_step body)) (found_row body n h)
    found_in (element.IncludeBlock line name) n h = (here name n h, tt)
    found_in (element.Loop' line kind e s body) zero h = (cc)
    found_in (element.Loop' line kind e s body) (suc n) h = each_map (P n) (P (suc n)) (more n) (all_names (fold_row (List Text) includes_step body)) (found_row body n h)
    found_in (element.LoopCtrl line kind) n h = tt
    found_in (element.Switch' line e s cases other) n h =
        each_join (P n) (case_names (fold_cases (List Text) includes_step cases)) (branch_names (fold_held (List Text) includes_step other))
        (found_cases cases n (and_first (cases_within (fold_cases Within (within_step include) cases) n) (branch_within (fold_held Within (within_step include) other) n) h))
        (found_held other n (and_second (cases_within (fold_cases Within (within_step include) cases) n) (branch_within (fold_held Within (within_step include) other) n) h))
    found_in (element.If' line e true_line s body other) n h =
        each_join (P n) (all_names (fold_row (List Text) includes_step body)) (branch_names (fold_held (List Text) includes_step other))
        (found_row body n (and_first (all_within (fold_row Within (within_step include) body) n) (branch_within (fold_held Within (within_step include) other) n) h))
        (found_held other n (and_second (all_within (fold_row Within (within_step include) body) n) (branch_within (fold_held Within (within_step include) other) n) h))
    found_in (element.Assign line name value) n h = tt
    found_in (element.Update line table validity keep hit keys row) n h = tt
    found_in (element.NextProto line proto) n h = tt

    found_row : {m : _} (xs : Row_of-Element m) (n : ℕ) → all_within (fold_row Within (within_step include) xs) n ≡ true → Each (P n) (all_names (fold_row (List Text) includes_step xs))
    found_row end_of-Element n h = tt
    found_row (more_of-Element x rest) n h =
        each_join (P n) (includes_of x) (all_names (fold_row (List Text) includes_step rest))
        (found_in x n (and_first (within_of include x n) (all_within (fold_row Within (within_step include) rest) n) h))
        (found_row rest n (and_second (within_of include x n) (all_within (fold_row Within (within_step include) rest) n) h))

    found_cases : {m : _} (xs : Row_of-Case m) (n : ℕ) → cases_within (fold_cases Within (within_step include) xs) n ≡ true → Each (P n) (case_names (fold_cases (List Text) includes_step xs))
    found_cases end_of-Case n h = tt
    found_cases (more_of-Case line value maxvalue s body rest) n h =
        each_join (P n) (all_names (fold_row (List Text) includes_step body)) (case_names (fold_cases (List Text) includes_step rest))
        (found_row body n (and_first (all_within (fold_row Within (within_step include) body) n) (cases_within (fold_cases Within (within_step include) rest) n) h))
        (found_cases rest n (and_second (all_within (fold_row Within (within_step include) body) n) (cases_within (fold_cases Within (within_step include) rest) n) h))

    found_held : (x : Held-Element-Switch-3) (n : ℕ) → branch_within (fold_held Within (within_step include) x) n ≡ true → Each (P n) (branch_names (fold_held (List Text) includes_step x))
    found_held None' n h = tt
    found_held (Some' line s body) n h = found_row body n h

  found_list : (xs : List Element) (n : ℕ) → within_in include xs n ≡ true → Each (P n) (includes_in xs)
  found_list [] n h = tt
  found_list (x ∷ xs) n h =
      each_join (P n) (includes_of x) (includes_in xs)
      (found_in x n (and_first (within_of include x n) (within_in include xs n) h))
      (found_list xs n (and_second (within_of include x n) (within_in include xs n) h))

-- what stands within n levels fits them, whatever the number of includes that were counted through
fits : (p : Protocol) (f : ℕ) (name : Text) (n : ℕ) → block_within p f name n ≡ true → Fits p n name
fits p zero name n h = undeclared_fits p n name h
fits p (suc f) name zero h = by (block_at p name) h
  where
    by : (o : Option BlockAt) → block_by (block_within p f) o zero ≡ true → Undeclared o
    by None h = tt
    by (Some b) h = (cc)
fits p (suc f) name (suc n) h = by (block_at p name) h (λ (m : Text) (k : ℕ) (e : block_within p f m k ≡ true). fits p f m k e)
  where
    by : (o : Option BlockAt) → block_by (block_within p f) o (suc n) ≡ true → ((m : Text) (k : ℕ) → block_within p f m k ≡ true → Fits p k m) → FitsBlock (Fits p n) o
    by None h g = tt
    by (Some b) h g = found_list (block_within p f) (Fits p) g (fits_more p) b.body n h

-- what holds of the body of each named block holds of the one that a name means
abbrev HoldsOf : (List Element → Bool) → Option BlockAt → Type 0
HoldsOf test None = Unit {0}
HoldsOf test (Some b) = test b.body ≡ true

body_so : (test : List Element → Bool) (at : Counts) (name : Text) (bs : List NamedBlock) → list_all (λ (b : NamedBlock). test b.body) bs ≡ true → HoldsOf test (block_from at name bs)
body_so test at name [] h = tt
body_so test at name (b ∷ bs) h =
    pick (bytes_eq name b.name)
    (and_first (test b.body) (list_all (λ (b : NamedBlock). test b.body) bs) h)
    (body_so test (plus (plus at a_block) (counts_in b.body)) name bs (and_second (test b.body) (list_all (λ (b : NamedBlock). test b.body) bs) h))
  where
    pick : (c : Bool) → test b.body ≡ true → HoldsOf test (block_from (plus (plus at a_block) (counts_in b.body)) name bs) → HoldsOf test (if c then Some (record { before = at; body = b.body }) else block_from (plus (plus at a_block) (counts_in b.body)) name bs)
    pick true k ih = k
    pick false k ih = ih

-- where each named block, itself counted, stands within n levels, each name fits them
each_fits : (p : Protocol) (f n : ℕ) (name : Text) → list_all (λ (b : NamedBlock). one_within (within_in (block_within p f) b.body) n) (blocks_in p.format) ≡ true → Fits p n name
each_fits p f zero name h = by (block_at p name) (body_so (λ body. one_within (within_in (block_within p f) body) zero) (counts_in (fields_in p.format)) name (blocks_in p.format) h)
  where
    by : (o : Option BlockAt) → HoldsOf (λ body. one_within (within_in (block_within p f) body) zero) o → Undeclared o
    by None h = tt
    by (Some b) h = (cc)
each_fits p f (suc n) name h = by (block_at p name) (body_so (λ body. one_within (within_in (block_within p f) body) (suc n)) (counts_in (fields_in p.format)) name (blocks_in p.format) h)
  where
    by : (o : Option BlockAt) → HoldsOf (λ body. one_within (within_in (block_within p f) body) (suc n)) o → FitsBlock (Fits p n) o
    by None h = tt
    by (Some b) h = found_list (block_within p f) (Fits p) (fits p f) (fits_more p) b.body n h

-- ---- includes that agree on the names in an element give the same run

module _ (db : Database) (fields : List Text) (I J : Text → Run) where
  abbrev Same : Text → Type 0
  Same name = I name ≡ J name

  abbrev row_by : (Text → Run) → {m : _} → Row_of-Element m → List Part
  row_by K xs = noted_row Counts counts_of (Counts → Run) (does db fields K) xs

  abbrev cases_by : (Text → Run) → {m : _} → Row_of-Case m → List (CaseOf Part)
  cases_by K xs = noted_cases Counts counts_of (Counts → Run) (does db fields K) xs

  abbrev held_by : (Text → Run) → Held-Element-Switch-3 → Option (BranchOf Part)
  held_by K x = noted_held Counts counts_of (Counts → Run) (does db fields K) x

  mutual
    unfolding means

    pub same_means : (x : Element) → Each Same (includes_of x) → means db fields I x ≡ means db fields J x
    same_means (element.Field line name form longname show) h = refl
    same_means (element.Block' line name longname s body) h = let e = same_row body h in λ i at. block at.blocks (each (e i) (plus at a_block))
    same_means (element.IncludeBlock line name) h = λ i at. h.0 i
    same_means (element.Loop' line kind ex s body) h = let e = same_row body h in λ i at. loop_by db fields kind ex (each (e i) at)
    same_means (element.LoopCtrl line kind) h = refl
    same_means (element.Switch' line ex s cases other) h =
        let c = same_cases cases (each_front Same (case_names (fold_cases (List Text) includes_step cases)) (branch_names (fold_held (List Text) includes_step other)) h) in
        let o = same_held other (each_back Same (case_names (fold_cases (List Text) includes_step cases)) (branch_names (fold_held (List Text) includes_step other)) h) in
        λ i at. evaluated (number db fields ex) (λ v. choose v (c i) (o i) at)
    same_means (element.If' line ex true_line s body other) h =
        let b = same_row body (each_front Same (all_names (fold_row (List Text) includes_step body)) (branch_names (fold_held (List Text) includes_step other)) h) in
        let o = same_held other (each_back Same (all_names (fold_row (List Text) includes_step body)) (branch_names (fold_held (List Text) includes_step other)) h) in
        λ i at. evaluated (number db fields ex) (λ v. if is_so v then each (b i) at else or_next (o i) (plus at (total (b i))))
    same_means (element.Assign line name value) h = refl
    same_means (element.Update line table validity keep hit keys row) h = refl
    same_means (element.NextProto line proto) h = refl

    same_row : {m : _} (xs : Row_of-Element m) → Each Same (all_names (fold_row (List Text) includes_step xs)) → row_by I xs ≡ row_by J xs
    same_row end_of-Element h = refl
    same_row (more_of-Element x rest) h =
        let d = same_means x (each_front Same (includes_of x) (all_names (fold_row (List Text) includes_step rest)) h) in
        let e = same_row rest (each_back Same (includes_of x) (all_names (fold_row (List Text) includes_step rest)) h) in
        λ i. record { note = counts_of x; means = d i } ∷ e i

    same_cases : {m : _} (xs : Row_of-Case m) → Each Same (case_names (fold_cases (List Text) includes_step xs)) → cases_by I xs ≡ cases_by J xs
    same_cases end_of-Case h = refl
    same_cases (more_of-Case line value maxvalue s body rest) h =
        let d = same_row body (each_front Same (all_names (fold_row (List Text) includes_step body)) (case_names (fold_cases (List Text) includes_step rest)) h) in
        let e = same_cases rest (each_back Same (all_names (fold_row (List Text) includes_step body)) (case_names (fold_cases (List Text) includes_step rest)) h) in
        λ i. record { line = line; value = value; maxvalue = maxvalue; body = d i } ∷ e i

    same_held : (x : Held-Element-Switch-3) → Each Same (branch_names (fold_held (List Text) includes_step x)) → held_by I x ≡ held_by J x
    same_held None' h = refl
    same_held (Some' line s body) h = let d = same_row body h in λ i. Some (record { line = line; body = d i })

  pub same_parts : (xs : List Element) → Each Same (includes_in xs) → parts db fields I xs ≡ parts db fields J xs
  same_parts [] h = refl
  same_parts (x ∷ xs) h =
      let d = same_means x (each_front Same (includes_of x) (includes_in xs) h) in
      let e = same_parts xs (each_back Same (includes_of x) (includes_in xs) h) in
      λ i. record { note = counts_of x; means = d i } ∷ e i

-- ---- one more level, and more

abbrev above : ℕ → ℕ → ℕ
above zero n = n
above (suc k) n = suc (above k n)

above_is : (k n : ℕ) → above k n ≡ k + n
above_is zero n = omega arith
above_is (suc k) n = omega (arith, above_is k n)

module _ (db : Database) (p : Protocol) where
  pub included_more : (n : ℕ) (name : Text) → Fits p n name → included db p n name ≡ included db p (suc n) name
  included_more zero name h = let e = by (block_at p name) h in λ i z. e i z
    where
      by : (o : Option BlockAt) → Undeclared o → next ≡ block_of db p (included db p zero) o
      by None h = refl
      by (Some b) h = absurd h
  included_more (suc n) name h = let e = by (block_at p name) h (λ (m : Text) (k : Fits p n m). included_more n m k) in λ i z. e i z
    where
      by : (o : Option BlockAt) → FitsBlock (Fits p n) o → ((m : Text) → Fits p n m → included db p n m ≡ included db p (suc n) m) → block_of db p (included db p n) o ≡ block_of db p (included db p (suc n)) o
      by None h g = refl
      by (Some b) h g =
          let same = each_map (Fits p n) (λ m. included db p n m ≡ included db p (suc n) m) g (includes_in b.body) h in
          ap (λ ps. block b.before.blocks (each ps (plus b.before a_block))) (same_parts db (field_names p) (included db p n) (included db p (suc n)) b.body same)

  fits_above : (k n : ℕ) (name : Text) → Fits p n name → Fits p (above k n) name
  fits_above zero n name h = h
  fits_above (suc k) n name h = fits_more p (above k n) name (fits_above k n name h)

  included_above : (k n : ℕ) (name : Text) → Fits p n name → included db p (above k n) name ≡ included db p n name
  included_above zero n name h = refl
  included_above (suc k) n name h = sym (included_more (above k n) name (fits_above k n name h)) ∙ included_above k n name h

  pub included_from : (m n : ℕ) (name : Text) → m ≤ n → Fits p m name → included db p n name ≡ included db p m name
  included_from m n name h f = let e : above (n - m) m ≡ n = omega (arith, h, above_is (n - m) m) in subst (λ k. included db p k name ≡ included db p m name) e (included_above (n - m) m name f)

-- ---- a checked database

pub over_none : {A : Type 0} (f : A → Lines) (xs : List A) (q : ℕ) (x : A) → over f xs ≡ [] → slice_get xs q ≡ Some x → f x ≡ []
over_none f [] q x e g = (cc)
over_none f (y ∷ xs) zero x e g = let same : y ≡ x = cc in subst (λ z. f z ≡ []) same (append_front (f y) (over f xs) e)
over_none f (y ∷ xs) (suc q) x e g = over_none f xs q x (append_back (f y) (over f xs) e) g

pub line_none : (line : ℕ) (b : Bool) → at_line line b ≡ [] → b ≡ false
line_none line true e = (cc)
line_none line false e = refl

not_wrong : (a b : Bool) → a ≡ true → (a && not b) ≡ false → b ≡ true
not_wrong true true h e = refl
not_wrong true false h e = (cc)
not_wrong false b h e = (cc)

nothing_so : (ls : Lines) → ls ≡ [] → is_nothing ls ≡ true
nothing_so [] e = refl
nothing_so (l ∷ ls) e = (cc)

pub nested_within : (db : Database) (q : ℕ) (p : Protocol) → objection db ≡ None → slice_get db.protocols q ≡ Some p → protocol_within p ≡ true
unfolding fault_45 fault_46
nested_within db q p e g =
    let a : protocol_45 p ≡ [] = over_none protocol_45 db.protocols q p (no_faults db e).none_45 g in
    let b : protocol_46 p ≡ [] = over_none protocol_46 db.protocols q p (no_faults db e).none_46 g in
    not_wrong (is_nothing (protocol_45 p)) (protocol_within p) (nothing_so (protocol_45 p) a) (line_none p.line _ b)

-- the levels that there are fit each name
pub names_fit : (db : Database) (q : ℕ) (p : Protocol) → objection db ≡ None → slice_get db.protocols q ≡ Some p → (name : Text) → Fits p MOST_NESTED name
names_fit db q p e g name = each_fits p MOST_NESTED MOST_NESTED name (and_second (within_in (block_within p MOST_NESTED) (elements_of p) MOST_NESTED) _ (nested_within db q p e g))
