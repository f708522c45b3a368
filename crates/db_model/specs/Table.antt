-- A table is two lists of entries in the order of adding: those with exact keys, and those with masks. A masked entry keeps its keys already masked. Nothing is removed because time passed.
use Rattle.std.specs.Prelude.{ℕ, ◌+◌, ◌*◌, min, Bool, true, ◌&&◌, if◌then◌else◌, nat_lt, ◌==◌, List, [], ◌∷◌, ◌++◌, map, zip, length, find, bit_and, bytes_eq, Option, Some, None}
use Rattle.std.specs.List.{list_any}
use Rattle.std.specs.Option.{option_eq}
use Rattle.std.specs.Cmp.Lexicographic.{pointwise}
use Rattle.db_model.specs.declared.entry.Entry.{Entry}
use Rattle.db_model.specs.declared.entry.NewEntry.{NewEntry}
use Rattle.db_model.specs.declared.entry.Validity.{Validity}
use Rattle.db_model.specs.declared.entry.Validity.TheVariants.{Forever, MaxTime, UpdateOnHit, AddOnHit}
use Rattle.db_model.specs.declared.question.Answer.{Answer}
use Rattle.db_model.specs.declared.question.Answer.TheVariants.{Miss, Hit}
use Rattle.db_model.specs.declared.database.TableDecl.{TableDecl}
use Rattle.db_model.specs.declared.limits.TheConstants.{SECOND}

-- the keys of an entry, or its masks: one list of bytes for each declared key
abbrev pub KeyList : Type 0
KeyList = List (List ℕ)

pub record Parts : Type 0 where
  pub exact : List Entry
  pub masked : List Entry

abbrev pub empty : Parts
empty = record { exact = []; masked = [] }

-- the same keys, byte for byte
abbrev pub same_keys : KeyList → KeyList → Bool
same_keys = pointwise bytes_eq

-- the bits of the bytes that the mask keeps
abbrev pub masked : List ℕ → List ℕ → List ℕ
masked mask bytes = map (λ p. bit_and p.0 p.1) (zip mask bytes)

-- the keys as an entry with these masks keeps them
abbrev pub masked_by : Option KeyList → KeyList → KeyList
masked_by None keys = keys
masked_by (Some masks) keys = map (λ p. masked p.0 p.1) (zip masks keys)

-- a deadline that is none, or that t is below
abbrev pub is_before : ℕ → Option ℕ → Bool
is_before t None = true
is_before t (Some deadline) = nat_lt t deadline

-- an entry lives at t where it has no deadline, or t is below it
abbrev pub live : Entry → ℕ → Bool
live e t = is_before t e.deadline

-- the asked keys, masked where the entry has masks, are its own
abbrev pub matches : Entry → KeyList → Bool
matches e keys = same_keys (masked_by e.masks keys) e.keys

-- the same keys and masks
abbrev pub same_place : Entry → Entry → Bool
same_place e d = same_keys e.keys d.keys && option_eq same_keys e.masks d.masks

-- ---- putting an entry

-- the entry in place of the first one with its keys and masks
abbrev pub replace : Entry → List Entry → List Entry
replace e [] = []
replace e (d ∷ ds) = if same_place e d then e ∷ ds else d ∷ replace e ds

-- the earlier of two deadlines, where there are two
abbrev pub sooner : Option ℕ → Option ℕ → Option ℕ
sooner None b = b
sooner (Some a) None = Some a
sooner (Some a) (Some b) = Some (min a b)

-- the least deadline of a list
abbrev pub soonest : List Entry → Option ℕ
soonest [] = None
soonest (e ∷ es) = sooner e.deadline (soonest es)

-- the list without the first entry that has this deadline
abbrev pub evict : ℕ → List Entry → List Entry
evict deadline [] = []
evict deadline (e ∷ es) = if option_eq ◌==◌ e.deadline (Some deadline) then es else e ∷ evict deadline es

-- the entry goes last, in the room of the one with the least deadline; where no entry has one, nothing changes
abbrev pub put_in_full : Option ℕ → Entry → List Entry → List Entry
put_in_full None e es = es
put_in_full (Some deadline) e es = evict deadline es ++ e ∷ []

-- the entry in the place of the one with its keys and masks; else last, where there is room; else in the room of another
abbrev pub put_in : ℕ → Entry → List Entry → List Entry
put_in room e es = if list_any (same_place e) es then replace e es else (if nat_lt (length es) room then es ++ e ∷ [] else put_in_full (soonest es) e es)

-- an entry with masks goes into the masked part, any other into the exact one
abbrev pub put_by : Option KeyList → TableDecl → Parts → Entry → Parts
put_by None d t e = record t { exact = put_in d.exact_entries e t.exact }
put_by (Some masks) d t e = record t { masked = put_in d.mask_entries e t.masked }

unfoldable pub put : TableDecl → Parts → Entry → Parts
put d t e = put_by e.masks d t e

-- ---- adding

abbrev pub after_seconds : ℕ → ℕ → ℕ
after_seconds t seconds = t + seconds * SECOND

abbrev pub first_deadline : Validity → ℕ → ℕ → Option ℕ
first_deadline Forever keep t = None
first_deadline MaxTime keep t = Some (after_seconds t keep)
first_deadline UpdateOnHit keep t = Some (after_seconds t keep)
first_deadline AddOnHit keep t = None

-- the entry that is added at t: its keys masked, with its deadline
abbrev pub entry_at : NewEntry → ℕ → Entry
entry_at n t = record { keys = masked_by n.masks n.keys; masks = n.masks; validity = n.validity; hit = n.hit; deadline = first_deadline n.validity n.keep t; row = n.row }

unfoldable pub add : TableDecl → Parts → NewEntry → ℕ → Parts
add d t n now = put d t (entry_at n now)

-- ---- looking

-- the entry, where it lives at t
abbrev pub if_live : ℕ → Option Entry → Option Entry
if_live t None = None
if_live t (Some e) = if live e t then Some e else None

abbrev pub first_of : Option Entry → Option Entry → Option Entry
first_of None b = b
first_of (Some e) b = Some e

-- the exact entry with these keys, if it lives; else the first live masked entry that matches
abbrev pub matching_entry : Parts → KeyList → ℕ → Option Entry
matching_entry table keys t = first_of (if_live t (find (λ e. same_keys keys e.keys) table.exact)) (find (λ e. live e t && matches e keys) table.masked)

-- a hit that renews: an entry of the kind updateonhit gets a new deadline, and one of the kind addonhit puts an exact entry under the asked keys
abbrev pub renewed_by : Validity → TableDecl → Parts → KeyList → ℕ → Entry → Parts
renewed_by Forever d table keys t e = table
renewed_by MaxTime d table keys t e = table
renewed_by UpdateOnHit d table keys t e = put d table (record e { deadline = Some (after_seconds t e.hit) })
renewed_by AddOnHit d table keys t e = put d table (record { keys = keys; masks = None; validity = UpdateOnHit; hit = e.hit; deadline = Some (after_seconds t e.hit); row = e.row })

abbrev pub answered : TableDecl → Parts → KeyList → Bool → ℕ → Option Entry → Answer × Parts
answered d table keys renew t None = (Miss, table)
answered d table keys renew t (Some e) = (Hit e.row, if renew then renewed_by e.validity d table keys t e else table)

unfoldable pub look : TableDecl → Parts → KeyList → Bool → ℕ → Answer × Parts
look d table keys renew t = answered d table keys renew t (matching_entry table keys t)
