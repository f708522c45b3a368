-- A name that has a place among declarations is declared.
use Rattle.std.specs.Prelude.{◌≡◌, ℕ, zero, suc, nat_lt, length, Bool, true, false, ◌||◌, ◌&&◌, if◌then◌else◌, List, [], ◌∷◌, map, bytes_eq, slice_get, Some}
use Rattle.std.proofs.Common.{refl, sym, ap, ◌∙◌, arith}
use Rattle.std.proofs.lemmas.List.{length-map}
use Rattle.db_model.specs.declared.database.Database.{Database}
use Rattle.db_model.specs.declared.database.TableDecl.{TableDecl}
use Rattle.db_model.specs.Names.{Text, place, table_at}
use Rattle.db_model.specs.Typing.{is_among, is_table, column_names}

module _ {X : Type 0} (name_of : X → Text) (name : Text) where
  found_is_among : (xs : List X) (d : X) → slice_get xs (place name (map name_of xs)) ≡ Some d → is_among name (map name_of xs) ≡ true
  found_is_among [] d h = cc
  found_is_among (x ∷ xs) d h = by (bytes_eq name (name_of x)) (found_is_among xs d) h
    where
      by : (b : Bool) → (slice_get xs (place name (map name_of xs)) ≡ Some d → is_among name (map name_of xs) ≡ true) → slice_get (x ∷ xs) (if b then zero else suc (place name (map name_of xs))) ≡ Some d → (b || is_among name (map name_of xs)) ≡ true
      by true rest k = refl
      by false rest k = rest k

pub column_in : (db : Database) (table column : Text) (d : TableDecl) (r : Bool) → slice_get db.tables (table_at db table) ≡ Some d → r ≡ is_among column (map (λ c. c.name) d.columns) → r ≡ (is_table db table && is_among column (column_names (slice_get db.tables (table_at db table))))
column_in db table column d r e h = h ∙ sym (λ i. found_is_among (λ (t : TableDecl). t.name) table db.tables d e i && is_among column (column_names (e i)))

one_more : (a b : ℕ) → nat_lt (suc a) (suc b) ≡ nat_lt a b
one_more a b = grind arith

zero_below : (b : ℕ) → nat_lt zero (suc b) ≡ true
zero_below b = grind arith

-- a name is declared exactly where its place is one of the declarations
pub among_is : (name : Text) (names : List Text) → nat_lt (place name names) (length names) ≡ is_among name names
among_is name [] = refl
among_is name (x ∷ names) = by (bytes_eq name x) (among_is name names)
  where
    by : (b : Bool) → nat_lt (place name names) (length names) ≡ is_among name names → nat_lt (if b then zero else suc (place name names)) (suc (length names)) ≡ (b || is_among name names)
    by true h = zero_below (length names)
    by false h = one_more (place name names) (length names) ∙ h

pub declared_among : {X : Type 0} (f : X → Text) (xs : List X) (name : Text) (n : ℕ) → n ≡ place name (map f xs) → nat_lt n (length xs) ≡ is_among name (map f xs)
declared_among f xs name n e = ap (λ k. nat_lt k (length xs)) e ∙ ap (nat_lt (place name (map f xs))) (sym (length-map xs f)) ∙ among_is name (map f xs)
