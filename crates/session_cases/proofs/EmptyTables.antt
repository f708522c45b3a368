-- What a session to which nothing was added has room for.
use Rattle.std.specs.Prelude.{◌≡◌, ℕ, zero, suc, ◌<◌, Bool, true, false, List, [], ◌∷◌, map, length, slice_get, Some}
use Rattle.std.specs.List.{list_any}
use Rattle.std.proofs.Common.{refl, ap, sym, subst, ◌∙◌}
use Rattle.db_model.specs.declared.database.Database.{Database}
use Rattle.db_model.specs.declared.database.TableDecl.{TableDecl}
use Rattle.db_model.specs.declared.entry.Entry.{Entry}
use Rattle.db_model.specs.Session.{Session, declared}
use Rattle.db_model.specs.Table.{empty, same_place}
use Rattle.session.specs.Entries.{part_of, part_in, limit_in}

-- no part of a table to which nothing was added has an entry
part_empty : (masked : Bool) → part_of masked (Some empty) ≡ []
part_empty false = refl
part_empty true = refl

parts_empty : (masked : Bool) (ds : List TableDecl) (n : ℕ) → part_of masked (slice_get (map (λ d. empty) ds) n) ≡ []
parts_empty masked [] zero = refl
parts_empty masked [] (suc n) = refl
parts_empty masked (d ∷ ds) zero = part_empty masked
parts_empty masked (d ∷ ds) (suc n) = parts_empty masked ds n

new_part : (db : Database) (s : Session) (masked : Bool) → s ≡ declared db → part_in s 0 masked ≡ []
new_part db s masked is = ap (λ s. part_in s 0 masked) is ∙ parts_empty masked db.tables 0

pub has_room : (db : Database) (s : Session) (masked : Bool) → s ≡ declared db → 0 < limit_in db 0 masked → length (part_in s 0 masked) < limit_in db 0 masked
has_room db s masked is some = subst (λ n. n < limit_in db 0 masked) (sym (ap length (new_part db s masked is))) some

pub is_apart : (db : Database) (s : Session) (e : Entry) (masked : Bool) → s ≡ declared db → list_any (same_place e) (part_in s 0 masked) ≡ false
is_apart db s e masked is = ap (list_any (same_place e)) (new_part db s masked is)
