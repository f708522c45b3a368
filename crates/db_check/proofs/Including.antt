-- A block includes itself exactly where its number leads back to itself.
use Rattle.std.specs.Prelude.{◌≡◌, ℕ, zero, suc, ◌+◌, ◌<◌, nat_lt, Bool, true, false, not, ◌||◌, ◌&&◌, if◌then◌else◌, List, [], ◌∷◌, ◌++◌, map, length, drop, get_or, slice_get, bytes_eq, Option, Some, None}
use Rattle.std.specs.List.{list_any}
use Rattle.std.specs.Cmp.Lexicographic.{bytes_decides}
use Rattle.std.proofs.Common.{refl, sym, ap, subst, ◌∙◌, arith, inl, inr}
use Rattle.std.proofs.lemmas.List.{length-map, at_drop_more}
use Rattle.db_cause.specs.declared.cause.Cause.TheVariants as cause
use Rattle.db_cause.specs.Codes.{code}
use Rattle.db_model.specs.declared.database.NamedBlock.{NamedBlock}
use Rattle.db_model.specs.declared.database.Protocol.{Protocol}
use Rattle.db_model.specs.declared.fault.Fault.{Fault}
use Rattle.db_model.specs.BlockFaults.{includes_in, included_by, Includes, Reaches, includes_itself, unless, firsts, protocol_45}
use Rattle.db_model.specs.BlockFaults.Reaches.{AtOnce, Through}
use Rattle.db_model.specs.LeastFault.{earlier}
use Rattle.db_model.specs.Lines.{Lines, over, at_line}
use Rattle.db_model.specs.NameFaults.{block_names}
use Rattle.db_model.specs.Names.{Text, place}
use Rattle.db_model.specs.Numbering.{Counts, plus, a_block, counts_in, block_from, block_at, blocks_in, fields_in}
use Rattle.db_model.proofs.LeastFault.{earlier_assoc}
use Rattle.db_laws.specs.Laws.{CyclesFound}
use Rattle.db_check.specs.First.{first}
use Rattle.db_check.specs.Graph.{Graph, comes_before, numbers, targets, edges, IsOneOf, Leads, graph_of, leads_back, leads_here, cycles_from}
use Rattle.db_check.specs.Graph.Leads.{Once, Then}
use Rattle.db_check.proofs.FirstFault.{first_append}
use Rattle.db_check.proofs.Again.{place_next, lt_zero}
use Rattle.db_check.proofs.Searched.{search_is}

abbrev In : Text → List Text → Type 0
In x xs = list_any (bytes_eq x) xs ≡ true

same_name : (a b : Text) → bytes_eq a b ≡ true → a ≡ b
same_name a b h = (bytes_decides a b).0 h

own_name : (a : Text) → bytes_eq a a ≡ true
own_name a = (bytes_decides a a).1 refl

-- ---- names and their numbers

-- at the place of a declared name it stands
stands_at : (name : Text) (names : List Text) → place name names < length names → slice_get names (place name names) ≡ Some name
stands_at name [] h = absurd (omega (arith, h))
stands_at name (x ∷ names) h = by (bytes_eq name x) refl h (λ (g : place name names < length names). stands_at name names g)
  where
    by : (b : Bool) → bytes_eq name x ≡ b → (if b then zero else suc (place name names)) < suc (length names) → (place name names < length names → slice_get names (place name names) ≡ Some name) → slice_get (x ∷ names) (if b then zero else suc (place name names)) ≡ Some name
    by true e h g = ap (λ (n : Text). Some n) (sym (same_name name x e))
    by false e h g = g (omega (arith, h))

same_place : (a b : Text) (names : List Text) → place a names ≡ place b names → place b names < length names → a ≡ b
same_place a b names e h =
    let one : slice_get names (place a names) ≡ Some a = stands_at a names (omega (arith, e, h)) in
    let two : slice_get names (place b names) ≡ Some b = stands_at b names h in
    let both : slice_get names (place a names) ≡ slice_get names (place b names) = ap (slice_get names) e in
    (cc)

one_of : (names : List Text) (c : Text) (ns : List Text) → In c ns → IsOneOf (place c names) (numbers names ns)
one_of names c [] h = (cc)
one_of names c (n ∷ ns) h = by (bytes_eq c n) refl h (λ (i : In c ns). one_of names c ns i)
  where
    by : (b : Bool) → bytes_eq c n ≡ b → (b || list_any (bytes_eq c) ns) ≡ true → (In c ns → IsOneOf (place c names) (numbers names ns)) → IsOneOf (place c names) (numbers names (n ∷ ns))
    by true e h g = inl (ap (λ (m : Text). place m names) (same_name c n e))
    by false e h g = inr (g h)

named : (names : List Text) (t : ℕ) (ns : List Text) → IsOneOf t (numbers names ns) → (c : Text) × (In c ns × (t ≡ place c names))
named names t [] o = absurd o
named names t (n ∷ ns) (inl e) = (n, (ap (λ b. b || list_any (bytes_eq n) ns) (own_name n), e))
named names t (n ∷ ns) (inr o) = let r = named names t ns o in (r.0, (or_right (bytes_eq r.0 n) (list_any (bytes_eq r.0) ns) r.1.0, r.1.1))
  where
    or_right : (a b : Bool) → b ≡ true → (a || b) ≡ true
    or_right true b h = refl
    or_right false b h = h

-- what the number of a name leads to is what the name includes
edges_by : (names : List Text) (at : Counts) (a : Text) (bs : List NamedBlock) → targets (slice_get (map (λ (b : NamedBlock). numbers names (includes_in b.body)) bs) (place a (map (λ (b : NamedBlock). b.name) bs))) ≡ numbers names (included_by (block_from at a bs))
edges_by names at a [] = refl
edges_by names at a (b ∷ bs) = by (bytes_eq a b.name) (edges_by names (plus (plus at a_block) (counts_in b.body)) a bs)
  where
    by : (c : Bool) → targets (slice_get (map (λ (b : NamedBlock). numbers names (includes_in b.body)) bs) (place a (map (λ (b : NamedBlock). b.name) bs))) ≡ numbers names (included_by (block_from (plus (plus at a_block) (counts_in b.body)) a bs))
        → targets (slice_get (map (λ (b : NamedBlock). numbers names (includes_in b.body)) (b ∷ bs)) (if c then zero else suc (place a (map (λ (b : NamedBlock). b.name) bs)))) ≡ numbers names (included_by (if c then Some (record { before = at; body = b.body }) else block_from (plus (plus at a_block) (counts_in b.body)) a bs))
    by true h = refl
    by false h = h

module _ (p : Protocol) where
  abbrev names : List Text
  names = block_names p

  edges_are : (a : Text) → edges (graph_of p) (place a names) ≡ numbers names (included_by (block_at p a))
  edges_are a = edges_by names (counts_in (fields_in p.format)) a (blocks_in p.format)

  one_edge : (a b : Text) → Includes p a b → IsOneOf (place b names) (edges (graph_of p) (place a names))
  one_edge a b h = subst (IsOneOf (place b names)) (sym (edges_are a)) (one_of names b (included_by (block_at p a)) h)

  reach_leads : (a c : Text) → Reaches p a c → Leads (graph_of p) (place a names) (place c names)
  reach_leads _ _ (AtOnce a c h) = Once (place a names) (place c names) (one_edge a c h)
  reach_leads _ _ (Through a b c h r) = Then (place a names) (place b names) (place c names) (one_edge a b h) (reach_leads b c r)

  edge_name : (a : Text) (i t : ℕ) → i ≡ place a names → IsOneOf t (edges (graph_of p) i) → (c : Text) × (Includes p a c × (t ≡ place c names))
  edge_name a i t e o = named names t (included_by (block_at p a)) (subst (IsOneOf t) (ap (edges (graph_of p)) e ∙ edges_are a) o)

  leads_reach : (i j : ℕ) → Leads (graph_of p) i j → (a c : Text) → i ≡ place a names → j ≡ place c names → place c names < length names → Reaches p a c
  leads_reach _ _ (Once i j o) a c e f h =
      let r = edge_name a i j e o in
      let same : r.0 ≡ c = same_place r.0 c names (sym r.1.1 ∙ f) h in
      AtOnce a c (subst (λ (n : Text). Includes p a n) same r.1.0)
  leads_reach _ _ (Then i k j o l) a c e f h =
      let r = edge_name a i k e o in
      Through a r.0 c r.1.0 (leads_reach k j l r.0 c r.1.1 f h)

-- ---- the first blocks of their names

named_first : (before : List Text) (bs : List NamedBlock) (i : ℕ) (b : NamedBlock) → slice_get bs i ≡ Some b → place b.name (map (λ (b : NamedBlock). b.name) bs) ≡ i → list_any (bytes_eq b.name) before ≡ false → (k : ℕ) × (slice_get (firsts before bs) k ≡ Some b)
named_first before [] i b h e f = (cc)
named_first before (y ∷ ys) zero b h e f =
    let same : y ≡ b = cc in now (list_any (bytes_eq y.name) before) (subst (λ (z : NamedBlock). list_any (bytes_eq z.name) before ≡ false) (sym same) f) same
  where
    now : (t : Bool) → t ≡ false → y ≡ b → (k : ℕ) × (slice_get (unless t y (firsts (y.name ∷ before) ys)) k ≡ Some b)
    now true e same = (cc)
    now false e same = (zero, ap (λ (z : NamedBlock). Some z) same)
named_first before (y ∷ ys) (suc i) b h e f = by (bytes_eq b.name y.name) refl e (λ (g : place b.name (map (λ (b : NamedBlock). b.name) ys) ≡ i) (n : list_any (bytes_eq b.name) (y.name ∷ before) ≡ false). named_first (y.name ∷ before) ys i b h g n)
  where
    later : (t : Bool) → (k : ℕ) × (slice_get (firsts (y.name ∷ before) ys) k ≡ Some b) → (k : ℕ) × (slice_get (unless t y (firsts (y.name ∷ before) ys)) k ≡ Some b)
    later true r = r
    later false r = (suc r.0, r.1)

    by : (t : Bool) → bytes_eq b.name y.name ≡ t → (if t then zero else suc (place b.name (map (λ (b : NamedBlock). b.name) ys))) ≡ suc i → (place b.name (map (λ (b : NamedBlock). b.name) ys) ≡ i → list_any (bytes_eq b.name) (y.name ∷ before) ≡ false → (k : ℕ) × (slice_get (firsts (y.name ∷ before) ys) k ≡ Some b)) → (k : ℕ) × (slice_get (unless (list_any (bytes_eq y.name) before) y (firsts (y.name ∷ before) ys)) k ≡ Some b)
    by true n e g = (cc)
    by false n e g = later (list_any (bytes_eq y.name) before) (g (omega (arith, e)) (ap (λ t. t || list_any (bytes_eq b.name) before) n ∙ f))

both_true : (a b : Bool) → (a ≡ true → b ≡ true) → (b ≡ true → a ≡ true) → a ≡ b
both_true true b f g = sym (f refl)
both_true false true f g = g refl
both_true false false f g = refl

as_many : (p : Protocol) → length (block_names p) ≡ length (graph_of p)
as_many p = length-map (blocks_in p.format) (λ (b : NamedBlock). b.name) ∙ sym (length-map (blocks_in p.format) (λ (b : NamedBlock). numbers (block_names p) (includes_in b.body)))

abbrev BlocksFrom : List NamedBlock → ℕ → List NamedBlock → Type 0
BlocksFrom all i [] = Unit {0}
BlocksFrom all i (b ∷ bs) = ((slice_get all i ≡ Some b) × (slice_get (map (λ (b : NamedBlock). b.name) all) i ≡ Some b.name)) × BlocksFrom all (suc i) bs

blocks_more : (x : NamedBlock) (all : List NamedBlock) (i : ℕ) (bs : List NamedBlock) → BlocksFrom all i bs → BlocksFrom (x ∷ all) (suc i) bs
blocks_more x all i [] h = tt
blocks_more x all i (b ∷ bs) h = (h.0, blocks_more x all (suc i) bs h.1)

blocks_stand : (bs : List NamedBlock) → BlocksFrom bs zero bs
blocks_stand [] = tt
blocks_stand (b ∷ bs) = ((refl, refl), blocks_more b bs zero bs (blocks_stand bs))

module _ (law : CyclesFound) (p : Protocol) where
  itself : (i : ℕ) (b : NamedBlock) → slice_get (blocks_in p.format) i ≡ Some b → place b.name (block_names p) ≡ i → i < length (block_names p) → includes_itself p b ≡ leads_back (graph_of p) (length (graph_of p)) i
  itself i b h e l =
      let k = named_first [] (blocks_in p.format) i b h e refl in
      both_true (includes_itself p b) (leads_back (graph_of p) (length (graph_of p)) i)
      (λ t. (search_is (graph_of p) i).1 (subst (λ (n : ℕ). Leads (graph_of p) n n) e (reach_leads p b.name b.name ((law.of_block p k.0 b k.1).0 t))))
      (λ t. (law.of_block p k.0 b k.1).1 (leads_reach p i i ((search_is (graph_of p) i).0 t) b.name b.name (sym e) (sym e) (omega (arith, e, l))))

  abbrev Before : List Text → ℕ → Type 0
  Before before i = (n : Text) → list_any (bytes_eq n) before ≡ nat_lt (place n (block_names p)) i

  place_here : (n : Text) (all : List Text) (i : ℕ) → slice_get all i ≡ Some n → nat_lt (place n all) i ≡ false → (place n all ≡ i) × (i < length all)
  place_here n [] i h f = (cc)
  place_here n (x ∷ all) zero h f = let same : x ≡ n = cc in at (bytes_eq n x) (subst (λ (y : Text). bytes_eq n y ≡ true) (sym same) (own_name n))
    where
      at : (b : Bool) → b ≡ true → ((if b then zero else suc (place n all)) ≡ zero) × (zero < suc (length all))
      at true e = (refl, omega arith)
      at false e = (cc)
  place_here n (x ∷ all) (suc i) h f = by (bytes_eq n x) f (λ (g : nat_lt (place n all) i ≡ false). place_here n all i h g)
    where
      by : (b : Bool) → nat_lt (if b then zero else suc (place n all)) (suc i) ≡ false → (nat_lt (place n all) i ≡ false → (place n all ≡ i) × (i < length all)) → ((if b then zero else suc (place n all)) ≡ suc i) × (suc i < suc (length all))
      by true f g = let t : nat_lt zero (suc i) ≡ true = grind arith in (cc)
      by false f g = let s : nat_lt (suc (place n all)) (suc i) ≡ nat_lt (place n all) i = grind arith in let r = g (sym s ∙ f) in (ap suc r.0, omega (arith, r.1))

  firsts_are : (before : List Text) (i : ℕ) (bs : List NamedBlock) → Before before i → BlocksFrom (blocks_in p.format) i bs → over (λ (b : NamedBlock). at_line b.line (includes_itself p b)) (firsts before bs) ≡ cycles_from (graph_of p) (block_names p) i bs
  firsts_are before i [] s h = refl
  firsts_are before i (b ∷ bs) s h =
      by (list_any (bytes_eq b.name) before) refl
      (firsts_are (b.name ∷ before) (suc i) bs (λ n. ap (λ t. bytes_eq n b.name || t) (s n) ∙ sym (place_next n b.name (block_names p) i h.0.1)) h.1)
    where
      by : (t : Bool) → list_any (bytes_eq b.name) before ≡ t → over (λ (b : NamedBlock). at_line b.line (includes_itself p b)) (firsts (b.name ∷ before) bs) ≡ cycles_from (graph_of p) (block_names p) (suc i) bs
          → over (λ (b : NamedBlock). at_line b.line (includes_itself p b)) (unless t b (firsts (b.name ∷ before) bs)) ≡ at_line b.line (leads_here (graph_of p) (block_names p) i b.name) ++ cycles_from (graph_of p) (block_names p) (suc i) bs
      by true e ih = ih ∙ ap (λ t. at_line b.line (not t && leads_back (graph_of p) (length (graph_of p)) i) ++ cycles_from (graph_of p) (block_names p) (suc i) bs) (sym (sym (s b.name) ∙ e))
      by false e ih =
          let low : nat_lt (place b.name (block_names p)) i ≡ false = sym (s b.name) ∙ e in
          let at = place_here b.name (block_names p) i h.0.1 low in
          (λ j. at_line b.line (itself i b h.0.0 at.0 at.1 j) ++ ih j)
          ∙ ap (λ t. at_line b.line (not t && leads_back (graph_of p) (length (graph_of p)) i) ++ cycles_from (graph_of p) (block_names p) (suc i) bs) (sym low)

  pub cycles_are : protocol_45 p ≡ cycles_from (graph_of p) (block_names p) zero (blocks_in p.format)
  cycles_are = firsts_are [] zero (blocks_in p.format) (λ n. sym (lt_zero (place n (block_names p)))) (blocks_stand (blocks_in p.format))

-- ---- the walk

pub found_stays : (found : Option Fault) (line : ℕ) (wrong : Bool) → comes_before found line ≡ true → found ≡ earlier found (first cause.IncludesItself (at_line line wrong))
found_stays None line wrong h = (cc)
found_stays (Some f) line false h = refl
found_stays (Some f) line true h = ap (λ b. if b then Some f else Some (record { line = line; code = code cause.IncludesItself })) (sym h)

pub cycle_next : (g : Graph) (names : List Text) (bs : List NamedBlock) (i : ℕ) (b : NamedBlock) (found next whole : Option Fault) → i < length bs → b ≡ get_or bs i b → next ≡ earlier found (first cause.IncludesItself (at_line b.line (leads_here g names i b.name)))
    → earlier found (first cause.IncludesItself (cycles_from g names i (drop i bs))) ≡ whole → earlier next (first cause.IncludesItself (cycles_from g names (i + 1) (drop (i + 1) bs))) ≡ whole
cycle_next g names bs i b found next whole h e n k =
    let more : suc i ≡ i + 1 = omega arith in
    let own : Lines = at_line b.line (leads_here g names i b.name) in
    let rest : Lines = cycles_from g names (i + 1) (drop (i + 1) bs) in
    let here : cycles_from g names i (drop i bs) ≡ own ++ rest =
    at_drop_more (cycles_from g names i) bs i b h
    ∙ (ap (λ (y : NamedBlock). cycles_from g names i (y ∷ drop (i + 1) bs)) (sym e)
    ∙ (λ j. own ++ cycles_from g names (more j) (drop (i + 1) bs))) in
    ap (λ a. earlier a (first cause.IncludesItself rest)) n
    ∙ (earlier_assoc found (first cause.IncludesItself own) (first cause.IncludesItself rest)
    ∙ (ap (earlier found) (sym (ap (first cause.IncludesItself) here ∙ first_append cause.IncludesItself own rest)) ∙ k))
