-- The bounded walk of fault 45 finds every cycle: a way through more blocks than there are passes one of them twice, and is longer than it has to be.
use Rattle.std.specs.Prelude.{◌≡◌, ℕ, zero, suc, ◌≤◌, ◌⊎◌, Bool, true, false, ◌||◌, if◌then◌else◌, List, [], ◌∷◌, ◌++◌, map, length, slice_get, bytes_eq, Some}
use Rattle.std.specs.List.{list_any}
use Rattle.std.specs.Cmp.Lexicographic.{bytes_decides}
use Rattle.std.proofs.Common.{refl, sym, ap, subst, arith, inl, inr}
use Rattle.std.proofs.lemmas.List.{length-map}
use Rattle.db_model.specs.declared.database.NamedBlock.{NamedBlock}
use Rattle.db_model.specs.declared.database.Protocol.{Protocol}
use Rattle.db_model.specs.BlockFaults.{includes_in, included_by, Includes, Reaches, reaches, includes_itself, unless, firsts, protocol_45}
use Rattle.db_model.specs.BlockFaults.Reaches.{AtOnce, Through}
use Rattle.db_model.specs.Lines.{Lines, over, at_line}
use Rattle.db_laws.specs.Laws.{CyclesFound}
use Rattle.db_model.specs.Names.{Text}
use Rattle.db_model.specs.Numbering.{Counts, plus, a_block, counts_in, block_from, block_at, blocks_in, fields_in}
use Rattle.db_laws.proofs.Includes.{over_none, line_none}
use Rattle.db_laws.proofs.Kept.{or_first, or_second, or_none, or_left, or_right}

-- ---- names in a list

abbrev In : Text → List Text → Type 0
In x xs = list_any (bytes_eq x) xs ≡ true

same_name : (a b : Text) → bytes_eq a b ≡ true → a ≡ b
same_name a b h = (bytes_decides a b).0 h

own_name : (a : Text) → bytes_eq a a ≡ true
own_name a = (bytes_decides a a).1 refl

any_there : (f : Text → Bool) (x : Text) (xs : List Text) → In x xs → f x ≡ true → list_any f xs ≡ true
any_there f x [] h k = (cc)
any_there f x (y ∷ ys) h k = by (bytes_eq x y) refl h (λ (i : In x ys). any_there f x ys i k)
  where
    by : (c : Bool) → bytes_eq x y ≡ c → (c || list_any (bytes_eq x) ys) ≡ true → (In x ys → list_any f ys ≡ true) → (f y || list_any f ys) ≡ true
    by true e g ih = or_left (f y) (list_any f ys) (subst (λ z. f z ≡ true) (same_name x y e) k)
    by false e g ih = or_right (f y) (list_any f ys) (ih g)

any_one : (f : Text → Bool) (xs : List Text) → list_any f xs ≡ true → (x : Text) × (In x xs × (f x ≡ true))
any_one f [] h = (cc)
any_one f (y ∷ ys) h = by (f y) refl h (λ (g : list_any f ys ≡ true). any_one f ys g)
  where
    by : (c : Bool) → f y ≡ c → (c || list_any f ys) ≡ true → (list_any f ys ≡ true → (x : Text) × (In x ys × (f x ≡ true))) → (x : Text) × (In x (y ∷ ys) × (f x ≡ true))
    by true e g ih = (y, (or_left (bytes_eq y y) (list_any (bytes_eq y) ys) (own_name y), e))
    by false e g ih = let r = ih g in (r.0, (or_right (bytes_eq r.0 y) (list_any (bytes_eq r.0) ys) r.1.0, r.1.1))

-- ---- a list without a name

abbrev without : Text → List Text → List Text
without d [] = []
without d (x ∷ xs) = unless (bytes_eq d x) x (without d xs)

stays : (d x : Text) (xs : List Text) → In x xs → bytes_eq d x ≡ false → In x (without d xs)
stays d x [] h k = (cc)
stays d x (y ∷ ys) h k = by (bytes_eq x y) (bytes_eq d y) refl refl h (λ (i : In x ys). stays d x ys i k)
  where
    by : (c e : Bool) → bytes_eq x y ≡ c → bytes_eq d y ≡ e → (c || list_any (bytes_eq x) ys) ≡ true → (In x ys → In x (without d ys)) → In x (unless e y (without d ys))
    by true true m n g ih = let same : bytes_eq d x ≡ true = subst (λ z. bytes_eq d z ≡ true) (sym (same_name x y m)) n in (cc)
    by true false m n g ih = or_left (bytes_eq x y) (list_any (bytes_eq x) (without d ys)) m
    by false true m n g ih = ih g
    by false false m n g ih = or_right (bytes_eq x y) (list_any (bytes_eq x) (without d ys)) (ih g)

gone : (d : Text) (xs : List Text) → list_any (bytes_eq d) (without d xs) ≡ false
gone d [] = refl
gone d (y ∷ ys) = by (bytes_eq d y) refl (gone d ys)
  where
    by : (c : Bool) → bytes_eq d y ≡ c → list_any (bytes_eq d) (without d ys) ≡ false → list_any (bytes_eq d) (unless c y (without d ys)) ≡ false
    by true e ih = ih
    by false e ih = or_none (bytes_eq d y) (list_any (bytes_eq d) (without d ys)) e ih

no_longer : (d : Text) (xs : List Text) → length (without d xs) ≤ length xs
no_longer d [] = omega arith
no_longer d (y ∷ ys) = by (bytes_eq d y) (no_longer d ys)
  where
    by : (c : Bool) → length (without d ys) ≤ length ys → length (unless c y (without d ys)) ≤ suc (length ys)
    by true ih = omega (arith, ih)
    by false ih = omega (arith, ih)

shorter : (d : Text) (xs : List Text) → In d xs → suc (length (without d xs)) ≤ length xs
shorter d [] h = (cc)
shorter d (y ∷ ys) h = by (bytes_eq d y) h (no_longer d ys) (λ (i : In d ys). shorter d ys i)
  where
    by : (c : Bool) → (c || list_any (bytes_eq d) ys) ≡ true → length (without d ys) ≤ length ys → (In d ys → suc (length (without d ys)) ≤ length ys) → suc (length (unless c y (without d ys))) ≤ suc (length ys)
    by true g m ih = omega (arith, m)
    by false g m ih = omega (arith, ih g)

-- ---- ways by includes from names of a list

data Way (p : Protocol) (s : List Text) : Text → Text → Type 0 where
  Last : (a b : Text) → In a s → Includes p a b → Way p s a b
  More : (a b c : Text) → In a s → Includes p a b → Way p s b c → Way p s a c

starts_in : (p : Protocol) (s : List Text) (a c : Text) → Way p s a c → In a s
starts_in p s _ _ (Last a c i e) = i
starts_in p s _ _ (More a b c i e w) = i

-- from a name to another, then from names of the list
abbrev From : Protocol → List Text → Text → Text → Type 0
From p s d c = Includes p d c ⊎ ((b : Text) × (Includes p d b × Way p s b c))

-- a way passes a name or not, and behind where it passes it last it doesn't
split : (p : Protocol) (s : List Text) (d x c : Text) → Way p s x c → Way p (without d s) x c ⊎ From p (without d s) d c
split p s d _ _ (Last x c i e) = by (bytes_eq d x) refl
  where
    by : (t : Bool) → bytes_eq d x ≡ t → Way p (without d s) x c ⊎ From p (without d s) d c
    by true k = inr (inl (subst (λ y. Includes p y c) (sym (same_name d x k)) e))
    by false k = inl (Last x c (stays d x s i k) e)
split p s d _ _ (More x b c i e w) = by (bytes_eq d x) refl (split p s d b c w)
  where
    by : (t : Bool) → bytes_eq d x ≡ t → Way p (without d s) b c ⊎ From p (without d s) d c → Way p (without d s) x c ⊎ From p (without d s) d c
    by t k (inr f) = inr f
    by true k (inl v) = inr (inr (b, (subst (λ y. Includes p y b) (sym (same_name d x k)) e, v)))
    by false k (inl v) = inl (More x b c (stays d x s i k) e v)

-- a way from names of a list needs no more steps than the list has names
walks : (p : Protocol) (n : ℕ) (s : List Text) (a c : Text) → length s ≤ n → Way p s a c → reaches p c n (included_by (block_at p a)) ≡ true
walks p zero s a c h w = by s h (starts_in p s a c w)
  where
    by : (s : List Text) → length s ≤ zero → In a s → reaches p c zero (included_by (block_at p a)) ≡ true
    by [] h i = (cc)
    by (x ∷ s) h i = absurd (omega (arith, h))
walks p (suc n) s a c h w = by (split p s a a c w) (λ (b : Text) (v : Way p (without a s) b c). walks p n (without a s) b c (omega (arith, h, shorter a s (starts_in p s a c w))) v)
  where
    by : Way p (without a s) a c ⊎ From p (without a s) a c → ((b : Text) → Way p (without a s) b c → reaches p c n (included_by (block_at p b)) ≡ true) → reaches p c (suc n) (included_by (block_at p a)) ≡ true
    by (inl v) ih = let i = starts_in p (without a s) a c v in let g = gone a s in (cc)
    by (inr (inl e)) ih = or_left (list_any (bytes_eq c) (included_by (block_at p a))) (list_any (λ name. reaches p c n (included_by (block_at p name))) (included_by (block_at p a))) e
    by (inr (inr (b, (e, v)))) ih = or_right (list_any (bytes_eq c) (included_by (block_at p a))) (list_any (λ name. reaches p c n (included_by (block_at p name))) (included_by (block_at p a))) (any_there (λ name. reaches p c n (included_by (block_at p name))) b (included_by (block_at p a)) e (ih b v))

-- ---- the names of the blocks

abbrev names_by : List NamedBlock → List Text
names_by bs = map (λ (b : NamedBlock). b.name) bs

-- a name that includes another is declared
declared : (at : Counts) (a b : Text) (bs : List NamedBlock) → list_any (bytes_eq b) (included_by (block_from at a bs)) ≡ true → In a (names_by bs)
declared at a b [] h = (cc)
declared at a b (y ∷ ys) h = by (bytes_eq a y.name) h (declared (plus (plus at a_block) (counts_in y.body)) a b ys)
  where
    by : (c : Bool) → list_any (bytes_eq b) (included_by (if c then Some (record { before = at; body = y.body }) else block_from (plus (plus at a_block) (counts_in y.body)) a ys)) ≡ true
        → (list_any (bytes_eq b) (included_by (block_from (plus (plus at a_block) (counts_in y.body)) a ys)) ≡ true → In a (names_by ys)) → (c || list_any (bytes_eq a) (names_by ys)) ≡ true
    by true g ih = refl
    by false g ih = ih g

way_of : (p : Protocol) (a c : Text) → Reaches p a c → Way p (names_by (blocks_in p.format)) a c
way_of p _ _ (AtOnce a c e) = Last a c (declared (counts_in (fields_in p.format)) a c (blocks_in p.format) e) e
way_of p _ _ (Through a b c e r) = More a b c (declared (counts_in (fields_in p.format)) a b (blocks_in p.format) e) e (way_of p b c r)

walked : (p : Protocol) (a c : Text) → Reaches p a c → reaches p c (length (blocks_in p.format)) (included_by (block_at p a)) ≡ true
walked p a c r = walks p (length (blocks_in p.format)) (names_by (blocks_in p.format)) a c (omega (arith, length-map (blocks_in p.format) (λ (b : NamedBlock). b.name))) (way_of p a c r)

-- what the walk finds is reached
is_reached : (p : Protocol) (n : ℕ) (a c : Text) → reaches p c n (included_by (block_at p a)) ≡ true → Reaches p a c
is_reached p zero a c h = AtOnce a c h
is_reached p (suc n) a c h = by (list_any (bytes_eq c) (included_by (block_at p a))) refl h (λ (x : Text) (k : reaches p c n (included_by (block_at p x)) ≡ true). is_reached p n x c k)
  where
    by : (t : Bool) → list_any (bytes_eq c) (included_by (block_at p a)) ≡ t → (t || list_any (λ name. reaches p c n (included_by (block_at p name))) (included_by (block_at p a))) ≡ true → ((x : Text) → reaches p c n (included_by (block_at p x)) ≡ true → Reaches p x c) → Reaches p a c
    by true e g ih = AtOnce a c e
    by false e g ih = let r = any_one (λ name. reaches p c n (included_by (block_at p name))) (included_by (block_at p a)) g in Through a r.0 c r.1.0 (ih r.0 r.1.1)

-- ---- the first block of a name

names_new : (before : List Text) (bs : List NamedBlock) (k : ℕ) (b : NamedBlock) → slice_get (firsts before bs) k ≡ Some b → list_any (bytes_eq b.name) before ≡ false
names_new before [] k b h = (cc)
names_new before (y ∷ ys) k b h = by (list_any (bytes_eq y.name) before) refl k h (λ (j : ℕ) (g : slice_get (firsts (y.name ∷ before) ys) j ≡ Some b). names_new (y.name ∷ before) ys j b g)
  where
    by : (t : Bool) → list_any (bytes_eq y.name) before ≡ t → (k : ℕ) → slice_get (unless t y (firsts (y.name ∷ before) ys)) k ≡ Some b → ((j : ℕ) → slice_get (firsts (y.name ∷ before) ys) j ≡ Some b → (bytes_eq b.name y.name || list_any (bytes_eq b.name) before) ≡ false) → list_any (bytes_eq b.name) before ≡ false
    by true e k g ih = or_second (bytes_eq b.name y.name) (list_any (bytes_eq b.name) before) (ih k g)
    by false e zero g ih = let same : y ≡ b = cc in subst (λ (z : NamedBlock). list_any (bytes_eq z.name) before ≡ false) same e
    by false e (suc k) g ih = or_second (bytes_eq b.name y.name) (list_any (bytes_eq b.name) before) (ih k g)

-- a first block is the one that its name means
first_is : (at : Counts) (before : List Text) (bs : List NamedBlock) (k : ℕ) (b : NamedBlock) → slice_get (firsts before bs) k ≡ Some b → included_by (block_from at b.name bs) ≡ includes_in b.body
first_is at before [] k b h = (cc)
first_is at before (y ∷ ys) k b h =
    by (list_any (bytes_eq y.name) before) k h
    (λ (j : ℕ) (g : slice_get (firsts (y.name ∷ before) ys) j ≡ Some b). skip (bytes_eq b.name y.name) (or_first (bytes_eq b.name y.name) (list_any (bytes_eq b.name) before) (names_new (y.name ∷ before) ys j b g)) (first_is (plus (plus at a_block) (counts_in y.body)) (y.name ∷ before) ys j b g))
  where
    skip : (c : Bool) → c ≡ false → included_by (block_from (plus (plus at a_block) (counts_in y.body)) b.name ys) ≡ includes_in b.body → included_by (if c then Some (record { before = at; body = y.body }) else block_from (plus (plus at a_block) (counts_in y.body)) b.name ys) ≡ includes_in b.body
    skip true e g = (cc)
    skip false e g = g

    here : (c : Bool) → c ≡ true → y ≡ b → included_by (if c then Some (record { before = at; body = y.body }) else block_from (plus (plus at a_block) (counts_in y.body)) b.name ys) ≡ includes_in b.body
    here true e same = ap (λ (z : NamedBlock). includes_in z.body) same
    here false e same = (cc)

    by : (t : Bool) (k : ℕ) → slice_get (unless t y (firsts (y.name ∷ before) ys)) k ≡ Some b → ((j : ℕ) → slice_get (firsts (y.name ∷ before) ys) j ≡ Some b → included_by (block_from at b.name (y ∷ ys)) ≡ includes_in b.body) → included_by (block_from at b.name (y ∷ ys)) ≡ includes_in b.body
    by true k g ih = ih k g
    by false zero g ih = let same : y ≡ b = cc in here (bytes_eq b.name y.name) (subst (λ (z : NamedBlock). bytes_eq b.name z.name ≡ true) (sym same) (own_name b.name)) same
    by false (suc k) g ih = ih k g

abbrev Place : Text → List NamedBlock → Type 0
Place name xs = (k : ℕ) × ((b : NamedBlock) × ((slice_get xs k ≡ Some b) × (b.name ≡ name)))

-- each declared name that isn't among those before has a first block
first_there : (name : Text) (before : List Text) (bs : List NamedBlock) → In name (names_by bs) → list_any (bytes_eq name) before ≡ false → Place name (firsts before bs)
first_there name before [] h g = (cc)
first_there name before (y ∷ ys) h g = by (bytes_eq name y.name) refl h (λ (i : In name (names_by ys)) (m : list_any (bytes_eq name) (y.name ∷ before) ≡ false). first_there name (y.name ∷ before) ys i m)
  where
    later : (t : Bool) → Place name (firsts (y.name ∷ before) ys) → Place name (unless t y (firsts (y.name ∷ before) ys))
    later true r = r
    later false r = (suc r.0, r.1)

    now : (t : Bool) → t ≡ false → name ≡ y.name → Place name (unless t y (firsts (y.name ∷ before) ys))
    now true e same = (cc)
    now false e same = (zero, (y, (refl, sym same)))

    by : (c : Bool) → bytes_eq name y.name ≡ c → (c || list_any (bytes_eq name) (names_by ys)) ≡ true → (In name (names_by ys) → list_any (bytes_eq name) (y.name ∷ before) ≡ false → Place name (firsts (y.name ∷ before) ys)) → Place name (firsts before (y ∷ ys))
    by true e i ih = let same = same_name name y.name e in now (list_any (bytes_eq y.name) before) (subst (λ z. list_any (bytes_eq z) before ≡ false) same g) same
    by false e i ih = later (list_any (bytes_eq y.name) before) (ih i (or_none (bytes_eq name y.name) (list_any (bytes_eq name) before) e g))

-- ---- the law

own_cycle : (p : Protocol) (k : ℕ) (b : NamedBlock) → slice_get (firsts [] (blocks_in p.format)) k ≡ Some b → Reaches p b.name b.name → includes_itself p b ≡ true
own_cycle p k b h r = subst (λ names. reaches p b.name (length (blocks_in p.format)) names ≡ true) (first_is (counts_in (fields_in p.format)) [] (blocks_in p.format) k b h) (walked p b.name b.name r)

cycle_own : (p : Protocol) (k : ℕ) (b : NamedBlock) → slice_get (firsts [] (blocks_in p.format)) k ≡ Some b → includes_itself p b ≡ true → Reaches p b.name b.name
cycle_own p k b h e = is_reached p (length (blocks_in p.format)) b.name b.name (subst (λ names. reaches p b.name (length (blocks_in p.format)) names ≡ true) (sym (first_is (counts_in (fields_in p.format)) [] (blocks_in p.format) k b h)) e)

abbrev own_line : Protocol → NamedBlock → Lines
own_line p b = at_line b.line (includes_itself p b)

none_reaches : (p : Protocol) → protocol_45 p ≡ [] → (name : Text) → Reaches p name name → ⊥
none_reaches p e name r =
    let f = first_there name [] (blocks_in p.format) (starts_in p (names_by (blocks_in p.format)) name name (way_of p name name r)) refl in
    let so = own_cycle p f.0 f.1.0 f.1.1.0 (subst (λ n. Reaches p n n) (sym f.1.1.1) r) in
    let not_so = line_none f.1.0.line (includes_itself p f.1.0) (over_none (own_line p) (firsts [] (blocks_in p.format)) f.0 f.1.0 e f.1.1.0) in
    (cc)

over_nothing : {A : Type 0} (f : A → Lines) (xs : List A) → ((k : ℕ) (x : A) → slice_get xs k ≡ Some x → f x ≡ []) → over f xs ≡ []
over_nothing f [] h = refl
over_nothing f (x ∷ xs) h = by (f x) (over f xs) (h zero x refl) (over_nothing f xs (λ k y e. h (suc k) y e))
  where
    by : (ls ms : Lines) → ls ≡ [] → ms ≡ [] → ls ++ ms ≡ []
    by [] ms e g = g
    by (l ∷ ls) ms e g = (cc)

reaches_none : (p : Protocol) → ((name : Text) → Reaches p name name → ⊥) → protocol_45 p ≡ []
reaches_none p h = over_nothing (own_line p) (firsts [] (blocks_in p.format)) (λ k b e. by k b e (includes_itself p b) refl)
  where
    by : (k : ℕ) (b : NamedBlock) → slice_get (firsts [] (blocks_in p.format)) k ≡ Some b → (t : Bool) → includes_itself p b ≡ t → at_line b.line t ≡ []
    by k b e true g = absurd (h b.name (cycle_own p k b e g))
    by k b e false g = refl

pub cycles_found : CyclesFound
cycles_found = record {
  of_block = λ p k b h. (cycle_own p k b h, own_cycle p k b h);
  of_protocol = λ p. (none_reaches p, reaches_none p);
}
