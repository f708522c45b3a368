-- The largest of some sizes, and that what fits a declaration has room in what it takes.
use Rattle.std.specs.Prelude.{◌≡◌, ℕ, zero, suc, min, max, ◌+◌, ◌<◌, ◌≤◌, Bool, true, false, ◌&&◌, ◌==◌, nat_le, List, [], ◌∷◌, length, map, slice_get, Option, Some, None, IfSome}
use Rattle.std.proofs.Common.{refl, sym, ap, subst, ◌∙◌, arith, get_or, drop}
use Rattle.std.proofs.lemmas.List.{drop_more, drop_all, at_drop_more}
use Rattle.std.proofs.lemmas.List.Elements.{All-nil, All-cons, All-weaker}
use Rattle.std.proofs.lemmas.Bool.Decides.{Decides-eqb}
use Rattle.std.proofs.lemmas.Bool.{leb-true}
use Rattle.std.specs.List.{All}
use Rattle.db_model.specs.declared.bytes.TheConstants.{MOST_BYTES}
use Rattle.db_model.specs.declared.database.ColumnDecl.{ColumnDecl}
use Rattle.db_model.specs.declared.database.TableDecl.{TableDecl}
use Rattle.db_model.specs.declared.value.Ty.{Ty}
use Rattle.db_model.specs.declared.value.Ty.TheVariants as ty
use Rattle.db_model.specs.declared.value.Value.{Value}
use Rattle.db_model.specs.declared.value.Value.TheVariants as value
use Rattle.db_model.specs.Elements.{fits_column}
use Rattle.db_model.specs.Expression.{buf, key_sizes}
use Rattle.db_model.specs.Fitting.{keys_fit, masks_fit, row_fits, is_of_type}
use Rattle.db_model.specs.Table.{KeyList}
use Rattle.table_list.specs.declared.space.Space.{Space}
use Rattle.table_list.specs.Space.{widest, width_of, column_width, key_space, row_space, HoldsKeys, HoldsRow, IsShort}

-- ---- the largest so far

pub widest_more : {X : Type 0} (f : X → ℕ) (xs : List X) (i w all : ℕ) (x : X) → i < length xs → x ≡ get_or xs i x → max w (widest (map f (drop i xs))) ≡ all → max (max w (f x)) (widest (map f (drop (i + 1) xs))) ≡ all
widest_more f xs i w all x h p e =
    let m : widest (map f (drop i xs)) ≡ max (f x) (widest (map f (drop (i + 1) xs))) = ap (λ l. widest (map f l)) (drop_more xs i x h ∙ ap (λ y. y ∷ drop (i + 1) xs) (sym p)) in
    omega (arith, m, e)

pub widest_end : {X : Type 0} (f : X → ℕ) (xs : List X) (i w all : ℕ) → length xs ≤ i → max w (widest (map f (drop i xs))) ≡ all → w ≡ all
widest_end f xs i w all h e =
    let m : widest (map f (drop i xs)) ≡ 0 = ap (λ l. widest (map f l)) (drop_all i xs h) in
    omega (arith, m, e)

-- ---- what fits has room

two : (a b : Bool) → (a && b) ≡ true → (a ≡ true) × (b ≡ true)
two true b h = (refl, h)
two false b h = (cc)

keys_short : (ss : List ℕ) (ks : KeyList) → keys_fit ss ks ≡ true → (length ks ≡ length ss) × All (λ k. length k ≤ widest ss) ks
keys_short [] [] h = (refl, All-nil (λ (k : List ℕ). length k ≤ 0))
keys_short [] (k ∷ ks) h = (cc)
keys_short (s ∷ ss) [] h = (cc)
keys_short (s ∷ ss) (k ∷ ks) h =
    let t = two (length k == s) (keys_fit ss ks) h in
    let e : length k ≡ s = (Decides-eqb (length k) s).0 t.0 in
    let r = keys_short ss ks t.1 in
    (ap suc r.0, All-cons (λ (k : List ℕ). length k ≤ max s (widest ss)) k ks (omega (arith, e)) (All-weaker (λ (k : List ℕ). length k ≤ widest ss) (λ (k : List ℕ). length k ≤ max s (widest ss)) (λ (x : List ℕ) p. omega (arith, p)) ks r.1))

length_sizes : {X : Type 0} (f : X → ℕ) (xs : List X) → length (map f xs) ≡ length xs
length_sizes f [] = refl
length_sizes f (x ∷ xs) = ap suc (length_sizes f xs)

pub keys_hold : (d : TableDecl) (ks : KeyList) → keys_fit (key_sizes (Some d)) ks ≡ true → HoldsKeys (key_space d) ks
keys_hold d ks h =
    let r = keys_short (map (λ k. k.size) d.keys) ks h in
    record { few = omega (arith, r.0, length_sizes (λ k. k.size) d.keys); short = r.1 }

pub masks_hold : (d : TableDecl) (o : Option KeyList) → masks_fit (key_sizes (Some d)) o ≡ true → IfSome o (HoldsKeys (key_space d))
masks_hold d None h = tt
masks_hold d (Some masks) h = keys_hold d masks h

value_short : (t : Ty) (size : Option ℕ) (v : Value) → is_of_type t v ≡ true → fits_column size v ≡ true → IsShort (width_of t size) v
value_short ty.Num size (value.Num n) h k = omega arith
value_short ty.Num size (value.Buf b) h k = (cc)
value_short ty.Num size (value.Proto p) h k = (cc)
value_short ty.Buf size (value.Num n) h k = (cc)
value_short ty.Buf None (value.Buf b) h k = omega arith
value_short ty.Buf (Some s) (value.Buf b) h k = let m : length b ≤ s = leb-true (length b) s k in omega arith
value_short ty.Buf size (value.Proto p) h k = (cc)
value_short ty.Proto size (value.Num n) h k = (cc)
value_short ty.Proto size (value.Buf b) h k = (cc)
value_short ty.Proto size (value.Proto p) h k = omega arith

row_short : (cs : List ColumnDecl) (vs : List Value) → row_fits cs vs ≡ true → (length vs ≡ length cs) × All (IsShort (widest (map column_width cs))) vs
row_short [] [] h = (refl, All-nil (IsShort 0))
row_short [] (v ∷ vs) h = (cc)
row_short (c ∷ cs) [] h = (cc)
row_short (c ∷ cs) (v ∷ vs) h =
    let t = two (is_of_type c.ty v && fits_column c.size v) (row_fits cs vs) h in
    let u = two (is_of_type c.ty v) (fits_column c.size v) t.0 in
    let s : IsShort (column_width c) v = value_short c.ty c.size v u.0 u.1 in
    let r = row_short cs vs t.1 in
    let w = max (column_width c) (widest (map column_width cs)) in
    (ap suc r.0, All-cons (IsShort w) v vs (omega (arith, s)) (All-weaker (IsShort (widest (map column_width cs))) (IsShort w) (λ (x : Value) p. omega (arith, p)) vs r.1))

pub row_holds : (d : TableDecl) (vs : List Value) → row_fits d.columns vs ≡ true → HoldsRow (row_space d) vs
row_holds d vs h = let r = row_short d.columns vs h in record { few = omega (arith, r.0); short = r.1 }
