-- When a question, and what a table or a session holds, fit what is declared. Keys and masks have the declared number and sizes, and a row the declared types and at most the declared sizes: that a table can tell by its declaration alone. Each protocol in a row is a declared one: that wants the database.
use Rattle.std.specs.Prelude.{ℕ, Bool, true, false, not, ◌&&◌, nat_lt, nat_le, ◌==◌, List, [], ◌∷◌, length, slice_get, is_some, Option, Some, None}
use Rattle.std.specs.List.{list_all}
use Rattle.db_model.specs.declared.database.ColumnDecl.{ColumnDecl}
use Rattle.db_model.specs.declared.database.Database.{Database}
use Rattle.db_model.specs.declared.database.TableDecl.{TableDecl}
use Rattle.db_model.specs.declared.entry.Entry.{Entry}
use Rattle.db_model.specs.declared.entry.NewEntry.{NewEntry}
use Rattle.db_model.specs.declared.entry.Validity.{Validity}
use Rattle.db_model.specs.declared.entry.Validity.TheVariants.{Forever, MaxTime, UpdateOnHit, AddOnHit}
use Rattle.db_model.specs.declared.limits.TheConstants.{DEADLINE_END}
use Rattle.db_model.specs.declared.question.Answer.{Answer}
use Rattle.db_model.specs.declared.question.Answer.TheVariants.{Miss, Hit, Done}
use Rattle.db_model.specs.declared.question.Question.{Question}
use Rattle.db_model.specs.declared.question.Question.TheVariants.{Look, Add}
use Rattle.db_model.specs.declared.value.Value.{Value}
use Rattle.db_model.specs.declared.value.Value.TheVariants as value
use Rattle.db_model.specs.declared.value.Ty.{Ty}
use Rattle.db_model.specs.declared.value.Ty.TheVariants as ty
use Rattle.db_model.specs.Elements.{fits_column}
use Rattle.db_model.specs.Expression.{key_sizes, columns_of}
use Rattle.db_model.specs.Forms.{is_number}
use Rattle.db_model.specs.Questions.{Log}
use Rattle.db_model.specs.Session.{Session}
use Rattle.db_model.specs.Table.{Parts, KeyList, same_keys, masked_by}

-- ---- keys, masks and rows

-- one list of bytes of each size
abbrev pub keys_fit : List ℕ → KeyList → Bool
keys_fit [] [] = true
keys_fit [] (k ∷ ks) = false
keys_fit (s ∷ ss) [] = false
keys_fit (s ∷ ss) (k ∷ ks) = length k == s && keys_fit ss ks

abbrev pub masks_fit : List ℕ → Option KeyList → Bool
masks_fit sizes None = true
masks_fit sizes (Some masks) = keys_fit sizes masks

-- a value is of the type
abbrev pub is_of_type : Ty → Value → Bool
is_of_type ty.Num (value.Num n) = true
is_of_type ty.Num (value.Buf b) = false
is_of_type ty.Num (value.Proto p) = false
is_of_type ty.Buf (value.Num n) = false
is_of_type ty.Buf (value.Buf b) = true
is_of_type ty.Buf (value.Proto p) = false
is_of_type ty.Proto (value.Num n) = false
is_of_type ty.Proto (value.Buf b) = false
is_of_type ty.Proto (value.Proto p) = true

-- a value of each column's type, none longer than its column
abbrev pub row_fits : List ColumnDecl → List Value → Bool
row_fits [] [] = true
row_fits [] (v ∷ vs) = false
row_fits (c ∷ cs) [] = false
row_fits (c ∷ cs) (v ∷ vs) = (is_of_type c.ty v && fits_column c.size v) && row_fits cs vs

-- a protocol is a declared one
abbrev pub is_declared : Database → Value → Bool
is_declared db (value.Num n) = true
is_declared db (value.Buf b) = true
is_declared db (value.Proto p) = nat_lt p (length db.protocols)

-- a value has the type, and a protocol is a declared one
abbrev pub has_type : Database → Ty → Value → Bool
has_type db ty v = is_of_type ty v && is_declared db v

-- each protocol in a row is a declared one
abbrev pub row_declared : Database → List Value → Bool
row_declared db vs = list_all (is_declared db) vs

-- ---- questions

-- what a table is asked fits its declaration
unfoldable pub look_fits : TableDecl → KeyList → Bool
look_fits d keys = keys_fit (key_sizes (Some d)) keys

unfoldable pub add_fits : TableDecl → NewEntry → Bool
add_fits d n = keys_fit (key_sizes (Some d)) n.keys && (masks_fit (key_sizes (Some d)) n.masks && (row_fits d.columns n.row && (is_number n.keep && is_number n.hit)))

abbrev pub look_fits_in : Option TableDecl → KeyList → Bool
look_fits_in None keys = false
look_fits_in (Some d) keys = look_fits d keys

abbrev pub add_fits_in : Database → Option TableDecl → NewEntry → Bool
add_fits_in db None n = false
add_fits_in db (Some d) n = add_fits d n && row_declared db n.row

-- its table is declared, and what it holds fits that
unfoldable pub question_fits : Database → Question → Bool
question_fits db (Look n keys renew) = look_fits_in (slice_get db.tables n) keys
question_fits db (Add n e) = add_fits_in db (slice_get db.tables n) e

-- each question of a log fits
abbrev pub log_fits : Database → Log → Bool
log_fits db l = list_all (λ e. question_fits db e.0) l

-- ---- tables and sessions

-- a deadline stands exactly where the kind of entry has one, and is below the end of deadlines
abbrev pub deadline_fits : Validity → Option ℕ → Bool
deadline_fits Forever None = true
deadline_fits Forever (Some t) = false
deadline_fits MaxTime None = false
deadline_fits MaxTime (Some t) = nat_lt t DEADLINE_END
deadline_fits UpdateOnHit None = false
deadline_fits UpdateOnHit (Some t) = nat_lt t DEADLINE_END
deadline_fits AddOnHit None = true
deadline_fits AddOnHit (Some t) = false

-- what an entry of either part has
abbrev pub entry_fits : TableDecl → Entry → Bool
entry_fits d e = keys_fit (key_sizes (Some d)) e.keys && (masks_fit (key_sizes (Some d)) e.masks && (row_fits d.columns e.row && (is_number e.hit && deadline_fits e.validity e.deadline)))

-- an entry of the exact part has no masks
abbrev pub exact_fits : TableDecl → Entry → Bool
exact_fits d e = not (is_some e.masks) && entry_fits d e

-- an entry of the masked part has masks, and its keys are already masked
abbrev pub masked_fits : TableDecl → Entry → Bool
masked_fits d e = is_some e.masks && (same_keys (masked_by e.masks e.keys) e.keys && entry_fits d e)

-- each entry of a table fits its declaration, and no part is longer than declared
unfoldable pub table_fits : TableDecl → Parts → Bool
table_fits d t = (nat_le (length t.exact) d.exact_entries && list_all (exact_fits d) t.exact) && (nat_le (length t.masked) d.mask_entries && list_all (masked_fits d) t.masked)

abbrev pub rows_declared : Database → List Entry → Bool
rows_declared db es = list_all (λ (e : Entry). row_declared db e.row) es

-- each protocol in a table is a declared one
abbrev pub table_declared : Database → Parts → Bool
table_declared db t = rows_declared db t.exact && rows_declared db t.masked

abbrev pub tables_fit : Database → List TableDecl → Session → Bool
tables_fit db [] [] = true
tables_fit db [] (t ∷ ts) = false
tables_fit db (d ∷ ds) [] = false
tables_fit db (d ∷ ds) (t ∷ ts) = (table_fits d t && table_declared db t) && tables_fit db ds ts

-- a session has one table for each declaration, and each fits it
unfoldable pub session_fits : Database → Session → Bool
session_fits db s = tables_fit db db.tables s

-- the row of a hit fits the declaration of the table that was asked
abbrev pub hit_fits : TableDecl → Answer → Bool
hit_fits d Miss = true
hit_fits d (Hit row) = row_fits d.columns row
hit_fits d Done = true

-- the row of a hit fits the table that was asked, and each protocol in it is a declared one
abbrev pub answer_fits : Database → Option TableDecl → Answer → Bool
answer_fits db d Miss = true
answer_fits db d (Hit row) = row_fits (columns_of d) row && row_declared db row
answer_fits db d Done = true

-- the table that a question asks
abbrev pub table_of : Question → ℕ
table_of (Look n keys renew) = n
table_of (Add n e) = n
