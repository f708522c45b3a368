-- A search marks exactly what its start leads to: each number that is marked waits in the queue for its turn, and the queue has room for all of them.
use Rattle.std.specs.Prelude.{◌≡◌, ◌⊎◌, ◌↔◌, ℕ, zero, suc, ◌+◌, ◌-◌, ◌<◌, ◌≤◌, Bool, true, false, if◌then◌else◌, List, [], ◌∷◌, ◌++◌, map, length, slice_get, slice_set, Option, Some, None}
use Rattle.std.proofs.Common.{refl, sym, ap, subst, ◌∙◌, arith, inl, inr}
use Rattle.db_check.specs.declared.search.Search.{Search}
use Rattle.db_check.specs.Graph.{Graph, targets, edges, IsOneOf, Leads, is_open, mark, visit, targets_at, go, is_marked, unmarked, leads_back}
use Rattle.db_check.specs.Graph.Leads.{Once, Then}

-- ---- lists

get_within : {A : Type 0} (xs : List A) (i : ℕ) (x : A) → slice_get xs i ≡ Some x → i < length xs
get_within [] i x h = (cc)
get_within (y ∷ xs) zero x h = omega arith
get_within (y ∷ xs) (suc i) x h = let r = get_within xs i x h in omega (arith, r)

set_same : {A : Type 0} (xs : List A) (i : ℕ) (v x : A) → slice_get xs i ≡ Some x → slice_get (slice_set xs i v) i ≡ Some v
set_same [] i v x h = (cc)
set_same (y ∷ xs) zero v x h = refl
set_same (y ∷ xs) (suc i) v x h = set_same xs i v x h

set_length : {A : Type 0} (xs : List A) (i : ℕ) (v : A) → length (slice_set xs i v) ≡ length xs
set_length [] i v = refl
set_length (y ∷ xs) zero v = refl
set_length (y ∷ xs) (suc i) v = ap suc (set_length xs i v)

-- a place of a list with one item set is the set one or as it was
set_other : {A : Type 0} (xs : List A) (i j : ℕ) (v : A) → (i ≡ j) ⊎ (slice_get (slice_set xs i v) j ≡ slice_get xs j)
set_other [] i j v = inr refl
set_other (y ∷ xs) zero zero v = inl refl
set_other (y ∷ xs) zero (suc j) v = inr refl
set_other (y ∷ xs) (suc i) zero v = inr refl
set_other (y ∷ xs) (suc i) (suc j) v = by (set_other xs i j v)
  where
    by : (i ≡ j) ⊎ (slice_get (slice_set xs i v) j ≡ slice_get xs j) → (suc i ≡ suc j) ⊎ (slice_get (slice_set xs i v) j ≡ slice_get xs j)
    by (inl e) = inl (ap suc e)
    by (inr e) = inr e

behind_front : {A : Type 0} (xs : List A) (y : A) (k : ℕ) → k < length xs → slice_get (xs ++ y ∷ []) k ≡ slice_get xs k
behind_front [] y k h = absurd (omega (arith, h))
behind_front (x ∷ xs) y zero h = refl
behind_front (x ∷ xs) y (suc k) h = behind_front xs y k (omega (arith, h))

behind_last : {A : Type 0} (xs : List A) (y : A) → slice_get (xs ++ y ∷ []) (length xs) ≡ Some y
behind_last [] y = refl
behind_last (x ∷ xs) y = behind_last xs y

behind_length : {A : Type 0} (xs : List A) (y : A) → length (xs ++ y ∷ []) ≡ suc (length xs)
behind_length [] y = refl
behind_length (x ∷ xs) y = ap suc (behind_length xs y)

-- a place of a list with one item behind it is an old one, or the item's
behind_get : {A : Type 0} (xs : List A) (y x : A) (k : ℕ) → slice_get (xs ++ y ∷ []) k ≡ Some x → (slice_get xs k ≡ Some x) ⊎ (x ≡ y)
behind_get [] y x zero h = let e : y ≡ x = cc in inr (sym e)
behind_get [] y x (suc k) h = (cc)
behind_get (z ∷ xs) y x zero h = inl h
behind_get (z ∷ xs) y x (suc k) h = behind_get xs y x k h

-- how many aren't marked
opens : List Bool → ℕ
opens [] = 0
opens (true ∷ bs) = opens bs
opens (false ∷ bs) = suc (opens bs)

opens_set : (bs : List Bool) (i : ℕ) → slice_get bs i ≡ Some false → suc (opens (slice_set bs i true)) ≡ opens bs
unfolding opens
opens_set [] i h = (cc)
opens_set (true ∷ bs) zero h = (cc)
opens_set (false ∷ bs) zero h = refl
opens_set (true ∷ bs) (suc i) h = opens_set bs i h
opens_set (false ∷ bs) (suc i) h = ap suc (opens_set bs i h)

-- ---- what a search may do

abbrev IsMarked : Search → ℕ → Type 0
IsMarked s j = slice_get s.marks j ≡ Some true

abbrev Waits : Search → ℕ → Type 0
Waits s j = (k : ℕ) × (slice_get s.queue k ≡ Some j)

-- it marks numbers of a kind, and puts each into the queue
record Grown (P : ℕ → Type 0) (s t : Search) : Type 0 where
  size : length t.marks ≡ length s.marks
  room : length t.queue + opens t.marks ≡ length s.queue + opens s.marks
  longer : length s.queue ≤ length t.queue
  kept : (j : ℕ) → IsMarked s j → IsMarked t j
  new : (j : ℕ) → IsMarked t j → IsMarked s j ⊎ (P j × Waits t j)
  front : (k : ℕ) → k < length s.queue → slice_get t.queue k ≡ slice_get s.queue k
  behind : (k j : ℕ) → slice_get t.queue k ≡ Some j → (slice_get s.queue k ≡ Some j) ⊎ P j

grown_not : (P : ℕ → Type 0) (s : Search) → Grown P s s
grown_not P s = record {
  size = refl;
  room = refl;
  longer = omega arith;
  kept = λ j h. h;
  new = λ j h. inl h;
  front = λ k h. refl;
  behind = λ k j h. inl h;
}

waits_on : (P : ℕ → Type 0) (s t : Search) (j : ℕ) → Grown P s t → Waits s j → Waits t j
waits_on P s t j g w = (w.0, g.front w.0 (get_within s.queue w.0 j w.1) ∙ w.1)

grown_on : (P : ℕ → Type 0) (r s t : Search) → Grown P r s → Grown P s t → Grown P r t
grown_on P r s t g h = record {
  size = h.size ∙ g.size;
  room = h.room ∙ g.room;
  longer = omega (arith, g.longer, h.longer);
  kept = λ j m. h.kept j (g.kept j m);
  new = λ j m. newer j (h.new j m);
  front = λ k l. h.front k (omega (arith, l, g.longer)) ∙ g.front k l;
  behind = λ k j e. older k j (h.behind k j e);
}
  where
    newer : (j : ℕ) → IsMarked s j ⊎ (P j × Waits t j) → IsMarked r j ⊎ (P j × Waits t j)
    newer j (inr w) = inr w
    newer j (inl m) = by (g.new j m)
      where
        by : IsMarked r j ⊎ (P j × Waits s j) → IsMarked r j ⊎ (P j × Waits t j)
        by (inl m) = inl m
        by (inr w) = inr (w.0, waits_on P s t j h w.1)

    older : (k j : ℕ) → (slice_get s.queue k ≡ Some j) ⊎ P j → (slice_get r.queue k ≡ Some j) ⊎ P j
    older k j (inr p) = inr p
    older k j (inl e) = g.behind k j e

-- ---- one number

abbrev marked_one : ℕ → Search → Search
marked_one t s = record { marks = slice_set s.marks t true; queue = s.queue ++ t ∷ [] }

mark_one : (P : ℕ → Type 0) (t : ℕ) (s : Search) → P t → slice_get s.marks t ≡ Some false → Grown P s (marked_one t s)
mark_one P t s p e = record {
  size = set_length s.marks t true;
  room = omega (arith, opens_set s.marks t e, behind_length s.queue t);
  longer = omega (arith, behind_length s.queue t);
  kept = λ j m. keep j m (set_other s.marks t j true);
  new = λ j m. newer j m (set_other s.marks t j true);
  front = λ k h. behind_front s.queue t k h;
  behind = λ k j h. older k j (behind_get s.queue t j k h);
}
  where
    keep : (j : ℕ) → IsMarked s j → (t ≡ j) ⊎ (slice_get (slice_set s.marks t true) j ≡ slice_get s.marks j) → IsMarked (marked_one t s) j
    keep j m (inl q) = subst (λ (n : ℕ). slice_get (slice_set s.marks t true) n ≡ Some true) q (set_same s.marks t true false e)
    keep j m (inr q) = q ∙ m

    newer : (j : ℕ) → IsMarked (marked_one t s) j → (t ≡ j) ⊎ (slice_get (slice_set s.marks t true) j ≡ slice_get s.marks j) → IsMarked s j ⊎ (P j × Waits (marked_one t s) j)
    newer j m (inl q) = inr (subst P q p, (length s.queue, behind_last s.queue t ∙ ap (λ (n : ℕ). Some n) q))
    newer j m (inr q) = inl (sym q ∙ m)

    older : (k j : ℕ) → (slice_get s.queue k ≡ Some j) ⊎ (j ≡ t) → (slice_get s.queue k ≡ Some j) ⊎ P j
    older k j (inl q) = inl q
    older k j (inr q) = inr (subst P (sym q) p)

mark_by : (P : ℕ → Type 0) (t : ℕ) (s : Search) → P t → (o : Option Bool) → slice_get s.marks t ≡ o → Grown P s (if is_open o then marked_one t s else s)
mark_by P t s p None e = grown_not P s
mark_by P t s p (Some true) e = grown_not P s
mark_by P t s p (Some false) e = mark_one P t s p e

mark_grows : (P : ℕ → Type 0) (t : ℕ) (s : Search) → P t → Grown P s (mark t s)
unfolding mark
mark_grows P t s p = mark_by P t s p (slice_get s.marks t) refl

there : (bs : List Bool) (t : ℕ) → t < length bs → (b : Bool) × (slice_get bs t ≡ Some b)
there [] t h = absurd (omega (arith, h))
there (b ∷ bs) zero h = (b, refl)
there (b ∷ bs) (suc t) h = there bs t (omega (arith, h))

marks_by : (t : ℕ) (s : Search) (b : Bool) → slice_get s.marks t ≡ Some b → IsMarked (if is_open (Some b) then marked_one t s else s) t
marks_by t s true e = e
marks_by t s false e = set_same s.marks t true false e

mark_marks : (t : ℕ) (s : Search) → t < length s.marks → IsMarked (mark t s) t
unfolding mark
mark_marks t s h = let r = there s.marks t h in subst (λ (o : Option Bool). IsMarked (if is_open o then marked_one t s else s) t) (sym r.1) (marks_by t s r.0 r.1)

-- ---- some numbers

visit_grows : (P : ℕ → Type 0) (ts : List ℕ) (s : Search) → ((t : ℕ) → IsOneOf t ts → P t) → Grown P s (visit ts s)
unfolding visit
visit_grows P [] s p = grown_not P s
visit_grows P (t ∷ ts) s p = grown_on P s (mark t s) (visit ts (mark t s)) (mark_grows P t s (p t (inl refl))) (visit_grows P ts (mark t s) (λ u h. p u (inr h)))

abbrev Any : ℕ → Type 0
Any n = Unit {0}

visit_marks : (ts : List ℕ) (s : Search) (t : ℕ) → IsOneOf t ts → t < length s.marks → IsMarked (visit ts s) t
unfolding visit
visit_marks [] s t o h = absurd o
visit_marks (u ∷ ts) s t (inl e) h = (visit_grows Any ts (mark u s) (λ v k. tt)).kept t (subst (λ (n : ℕ). IsMarked (mark n s) t) e (mark_marks t s h))
visit_marks (u ∷ ts) s t (inr o) h = visit_marks ts (mark u s) t o (subst (λ (n : ℕ). t < n) (sym (mark_grows Any u s tt).size) h)

-- ---- the turns

-- those before a place of the queue had their turn
record Searched (g : Graph) (a h : ℕ) (s : Search) : Type 0 where
  size : length s.marks ≡ length g
  room : length s.queue + opens s.marks ≡ length g
  sound : (j : ℕ) → IsMarked s j → Leads g a j
  queued : (k j : ℕ) → slice_get s.queue k ≡ Some j → Leads g a j
  waits : (j : ℕ) → IsMarked s j → Waits s j
  first : (t : ℕ) → IsOneOf t (edges g a) → t < length g → IsMarked s t
  done : (k j t : ℕ) → k < h → slice_get s.queue k ≡ Some j → IsOneOf t (edges g j) → t < length g → IsMarked s t

leads_on : (g : Graph) (a b c : ℕ) → Leads g a b → IsOneOf c (edges g b) → Leads g a c
leads_on g _ _ c (Once a b o) k = Then a b c o (Once b c k)
leads_on g _ _ c (Then a x b o r) k = Then a x c o (leads_on g x b c r k)

-- a turn that marks what is led to
one_turn : (g : Graph) (a h x : ℕ) (s : Search) → slice_get s.queue h ≡ Some x → Searched g a h s → Searched g a (suc h) (visit (edges g x) s)
one_turn g a h x s e i =
    let n : Search = visit (edges g x) s in
    let grown : Grown (Leads g a) s n = visit_grows (Leads g a) (edges g x) s (λ t o. leads_on g a x t (i.queued h x e) o) in
    let within : h < length s.queue = get_within s.queue h x e in
    record {
      size = grown.size ∙ i.size;
      room = grown.room ∙ i.room;
      sound = λ j m. sounds j (grown.new j m);
      queued = λ k j q. queues k j (grown.behind k j q);
      waits = λ j m. wait j grown (grown.new j m);
      first = λ t o l. grown.kept t (i.first t o l);
      done = λ k j t l q o m. dones k j t grown within (grown.front k (omega (arith, l, within))) l q o m;
    }
  where
    sounds : (j : ℕ) → IsMarked s j ⊎ (Leads g a j × Waits (visit (edges g x) s) j) → Leads g a j
    sounds j (inl m) = i.sound j m
    sounds j (inr w) = w.0

    queues : (k j : ℕ) → (slice_get s.queue k ≡ Some j) ⊎ Leads g a j → Leads g a j
    queues k j (inl q) = i.queued k j q
    queues k j (inr l) = l

    wait : (j : ℕ) → Grown (Leads g a) s (visit (edges g x) s) → IsMarked s j ⊎ (Leads g a j × Waits (visit (edges g x) s) j) → Waits (visit (edges g x) s) j
    wait j grown (inl m) = waits_on (Leads g a) s (visit (edges g x) s) j grown (i.waits j m)
    wait j grown (inr w) = w.1

    dones : (k j t : ℕ) → Grown (Leads g a) s (visit (edges g x) s) → h < length s.queue → slice_get (visit (edges g x) s).queue k ≡ slice_get s.queue k → k < suc h → slice_get (visit (edges g x) s).queue k ≡ Some j → IsOneOf t (edges g j) → t < length g → IsMarked (visit (edges g x) s) t
    dones k j t grown within f l q o m = by (split k h l)
      where
        split : (k h : ℕ) → k < suc h → (k < h) ⊎ (k ≡ h)
        split zero zero l = inr refl
        split zero (suc h) l = inl (omega arith)
        split (suc k) zero l = absurd (omega (arith, l))
        split (suc k) (suc h) l = more (split k h (omega (arith, l)))
          where
            more : (k < h) ⊎ (k ≡ h) → (suc k < suc h) ⊎ (suc k ≡ suc h)
            more (inl e) = inl (omega (arith, e))
            more (inr e) = inr (ap suc e)

        by : (k < h) ⊎ (k ≡ h) → IsMarked (visit (edges g x) s) t
        by (inl b) = grown.kept t (i.done k j t b (sym f ∙ q) o m)
        by (inr b) =
            let old : slice_get s.queue h ≡ Some j = subst (λ (y : ℕ). slice_get s.queue y ≡ Some j) b (sym f ∙ q) in
            let same : j ≡ x = cc in
            visit_marks (edges g x) s t (subst (λ (y : ℕ). IsOneOf t (edges g y)) same o) (omega (arith, m, i.size))

-- a turn past the end of the queue does nothing
no_turn : (g : Graph) (a h : ℕ) (s : Search) → slice_get s.queue h ≡ None → Searched g a h s → Searched g a (suc h) s
no_turn g a h s e i = record {
  size = i.size;
  room = i.room;
  sound = i.sound;
  queued = i.queued;
  waits = i.waits;
  first = i.first;
  done = λ k j t l q o m. i.done k j t (before k j l q) q o m;
}
  where
    no_later : {A : Type 0} (xs : List A) (h k : ℕ) (x : A) → slice_get xs h ≡ None → slice_get xs k ≡ Some x → k < h
    no_later [] h k x e q = (cc)
    no_later (y ∷ xs) zero k x e q = (cc)
    no_later (y ∷ xs) (suc h) zero x e q = omega arith
    no_later (y ∷ xs) (suc h) (suc k) x e q = let r = no_later xs h k x e q in omega (arith, r)

    before : (k j : ℕ) → k < suc h → slice_get s.queue k ≡ Some j → k < h
    before k j l q = no_later s.queue h k j e q

turn_by : (g : Graph) (a h : ℕ) (s : Search) (o : Option ℕ) → slice_get s.queue h ≡ o → Searched g a h s → Searched g a (suc h) (visit (targets_at g o) s)
unfolding visit
turn_by g a h s None e i = no_turn g a h s e i
turn_by g a h s (Some x) e i = one_turn g a h x s e i

turns : (g : Graph) (a n h : ℕ) (s : Search) → Searched g a h s → Searched g a (n + h) (go g n h s)
unfolding go
turns g a zero h s i = subst (λ (m : ℕ). Searched g a m s) (omega arith) i
turns g a (suc n) h s i =
    let m : n + suc h ≡ suc n + h = omega arith in
    subst (λ (m : ℕ). Searched g a m (go g n (suc h) (visit (targets_at g (slice_get s.queue h)) s))) m
    (turns g a n (suc h) (visit (targets_at g (slice_get s.queue h)) s) (turn_by g a h s (slice_get s.queue h) refl i))

-- ---- the beginning

none_marked : (g : Graph) (j : ℕ) → slice_get (map (λ (ts : List ℕ). false) g) j ≡ Some true → ⊥
none_marked [] j h = (cc)
none_marked (ts ∷ g) zero h = (cc)
none_marked (ts ∷ g) (suc j) h = none_marked g j h

all_open : (g : Graph) → opens (map (λ (ts : List ℕ). false) g) ≡ length g
unfolding opens
all_open [] = refl
all_open (ts ∷ g) = ap suc (all_open g)

as_many : (g : Graph) → length (map (λ (ts : List ℕ). false) g) ≡ length g
as_many [] = refl
as_many (ts ∷ g) = ap suc (as_many g)

room_at_first : (g : Graph) → length (unmarked g).queue + opens (unmarked g).marks ≡ length g
unfolding unmarked
room_at_first g = let z : 0 + opens (map (λ (ts : List ℕ). false) g) ≡ opens (map (λ (ts : List ℕ). false) g) = omega arith in z ∙ all_open g

beginning : (g : Graph) (a : ℕ) → Searched g a 0 (visit (edges g a) (unmarked g))
unfolding unmarked
beginning g a =
    let grown : Grown (Leads g a) (unmarked g) (visit (edges g a) (unmarked g)) = visit_grows (Leads g a) (edges g a) (unmarked g) (λ t o. Once a t o) in
    record {
      size = grown.size ∙ as_many g;
      room = grown.room ∙ room_at_first g;
      sound = λ j m. sounds j (grown.new j m);
      queued = λ k j q. queues k j (grown.behind k j q);
      waits = λ j m. wait j (grown.new j m);
      first = λ t o l. visit_marks (edges g a) (unmarked g) t o (omega (arith, l, as_many g));
      done = λ k j t l q o m. absurd (omega (arith, l));
    }
  where
    sounds : (j : ℕ) → IsMarked (unmarked g) j ⊎ (Leads g a j × Waits (visit (edges g a) (unmarked g)) j) → Leads g a j
    sounds j (inl m) = absurd (none_marked g j m)
    sounds j (inr w) = w.0

    queues : (k j : ℕ) → (slice_get (unmarked g).queue k ≡ Some j) ⊎ Leads g a j → Leads g a j
    queues k j (inl q) = (cc)
    queues k j (inr l) = l

    wait : (j : ℕ) → IsMarked (unmarked g) j ⊎ (Leads g a j × Waits (visit (edges g a) (unmarked g)) j) → Waits (visit (edges g a) (unmarked g)) j
    wait j (inl m) = absurd (none_marked g j m)
    wait j (inr w) = w.1

-- ---- the end

edge_within : (g : Graph) (a b : ℕ) → IsOneOf b (edges g a) → a < length g
edge_within g a b o = by (slice_get g a) refl o
  where
    by : (r : Option (List ℕ)) → slice_get g a ≡ r → IsOneOf b (targets r) → a < length g
    by None e o = absurd o
    by (Some ts) e o = get_within g a ts e

leads_within : (g : Graph) (a b : ℕ) → Leads g a b → a < length g
leads_within g _ _ (Once a b o) = edge_within g a b o
leads_within g _ _ (Then a b c o r) = edge_within g a b o

module _ (g : Graph) (a h : ℕ) (s : Search) (i : Searched g a h s) (all : length g ≤ h) where
  closed : (x t : ℕ) → (x ≡ a) ⊎ IsMarked s x → IsOneOf t (edges g x) → t < length g → IsMarked s t
  closed x t (inl e) o l = i.first t (subst (λ (y : ℕ). IsOneOf t (edges g y)) e o) l
  closed x t (inr m) o l = let w = i.waits x m in let k : w.0 < length s.queue = get_within s.queue w.0 x w.1 in i.done w.0 x t (omega (arith, k, i.room, all)) w.1 o l

  complete : (x c : ℕ) → (x ≡ a) ⊎ IsMarked s x → Leads g x c → c < length g → IsMarked s c
  complete _ _ m (Once x c o) l = closed x c m o l
  complete _ _ m (Then x b c o r) l = complete b c (inr (closed x b m o (leads_within g b c r))) r l

is_marked_by : (o : Option Bool) → is_marked o ≡ true → o ≡ Some true
is_marked_by None h = (cc)
is_marked_by (Some true) h = refl
is_marked_by (Some false) h = (cc)

abbrev at_end : Graph → ℕ → Search
at_end g a = go g (length g) 0 (visit (edges g a) (unmarked g))

all_searched : (g : Graph) (a : ℕ) → Searched g a (length g + 0) (at_end g a)
all_searched g a = turns g a (length g) 0 (visit (edges g a) (unmarked g)) (beginning g a)

pub search_is : (g : Graph) (a : ℕ) → (leads_back g (length g) a ≡ true) ↔ Leads g a a
unfolding leads_back
search_is g a = (
  λ h. (all_searched g a).sound a (is_marked_by (slice_get (at_end g a).marks a) h),
  λ r. ap is_marked (complete g a (length g + 0) (at_end g a) (all_searched g a) (omega arith) a a (inl refl) r (leads_within g a a r)),
)

-- ---- the code's turns

pub turn_none : (g : Graph) (o : Option ℕ) (s : Search) → None ≡ o → s ≡ visit (targets_at g o) s
unfolding visit
turn_none g None s e = refl
turn_none g (Some x) s e = (cc)

pub go_next : (g : Graph) (n place : ℕ) (s t whole : Search) → place < n → t ≡ visit (targets_at g (slice_get s.queue place)) s → go g (n - place) place s ≡ whole → go g (n - (place + 1)) (place + 1) t ≡ whole
unfolding go
go_next g n place s t whole h e w =
    let left : n - place ≡ suc (n - (place + 1)) = omega (arith, h) in
    let next : place + 1 ≡ suc place = omega arith in
    (λ i. go g (n - (place + 1)) (next i) (e i)) ∙ (sym (ap (λ (m : ℕ). go g m place s) left) ∙ w)

pub go_end : (g : Graph) (n place : ℕ) (s whole : Search) → n ≤ place → go g (n - place) place s ≡ whole → s ≡ whole
unfolding go
go_end g n place s whole h w = let none : n - place ≡ 0 = omega (arith, h) in sym (ap (λ (m : ℕ). go g m place s) none) ∙ w

pub found_is : (g : Graph) (a : ℕ) (s t : Search) → s ≡ go g (length g) 0 t → t ≡ visit (edges g a) (unmarked g) → is_marked (slice_get s.marks a) ≡ leads_back g (length g) a
unfolding leads_back
found_is g a s t e h = ap (λ (x : Search). is_marked (slice_get x.marks a)) (e ∙ ap (go g (length g) 0) h)
