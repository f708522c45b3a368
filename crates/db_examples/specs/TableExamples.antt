-- Worked examples of tables: what is asked at which second, with the answers and what the session holds at the end; what an update asks; and where a log differs.
use Rattle.std.specs.Prelude.{ℕ, ◌*◌, true, false, List, [], ◌∷◌, ◌++◌, codes, Option, Some, None}
use Rattle.db_model.specs.declared.database.ColumnDecl.{ColumnDecl}
use Rattle.db_model.specs.declared.database.Database.{Database}
use Rattle.db_model.specs.declared.element.Element as element
use Rattle.db_model.specs.declared.element.Element.{Element}
use Rattle.db_model.specs.declared.element.UpdateKey.{UpdateKey}
use Rattle.db_model.specs.declared.element.UpdateValue.{UpdateValue}
use Rattle.db_model.specs.declared.entry.Entry.{Entry}
use Rattle.db_model.specs.declared.entry.Validity.{Validity}
use Rattle.db_model.specs.declared.entry.Validity.TheVariants.{Forever, MaxTime, UpdateOnHit, AddOnHit}
use Rattle.db_model.specs.declared.expression.Expr as expr
use Rattle.db_model.specs.declared.expression.Expr.{Expr}
use Rattle.db_model.specs.declared.expression.Operator.TheVariants as op
use Rattle.db_model.specs.declared.limits.TheConstants.{SECOND}
use Rattle.db_model.specs.declared.packet.Packet.{Packet}
use Rattle.db_model.specs.declared.question.Answer.{Answer}
use Rattle.db_model.specs.declared.question.Answer.TheVariants.{Miss, Hit, Done}
use Rattle.db_model.specs.declared.question.Question.{Question}
use Rattle.db_model.specs.declared.question.Question.TheVariants.{Look, Add}
use Rattle.db_model.specs.declared.tree.Node.{Node}
use Rattle.db_model.specs.declared.tree.Node.TheVariants.{Note}
use Rattle.db_model.specs.declared.tree.Reason.TheVariants.{Zero, KeySize, DataSize, Questions}
use Rattle.db_model.specs.declared.value.Ty.{Ty}
use Rattle.db_model.specs.declared.value.Ty.TheVariants as ty
use Rattle.db_model.specs.declared.value.Value.{Value}
use Rattle.db_model.specs.declared.value.Value.TheVariants.{Num, Buf, Proto}
use Rattle.db_model.specs.Decoding.{start, dec}
use Rattle.db_model.specs.Elements.{list}
use Rattle.db_model.specs.Names.{Text}
use Rattle.db_model.specs.Numbering.{none}
use Rattle.db_model.specs.Questions.{Log, play}
use Rattle.db_model.specs.Replay.{Difference, differs}
use Rattle.db_model.specs.Serial.{state}
use Rattle.db_model.specs.Session.{Session, declared, ask}
use Rattle.db_examples.specs.Cases.{AreAlike, a, b, choice, read}
use Rattle.db_examples.specs.Examples.{at_second}
use Rattle.db_examples.specs.Samples.{protocol, fields, database}
use Rattle.db_examples.specs.SessionPackets.{captured}
use Rattle.db_examples.specs.TableSample.{one_table, table_db}

-- ---- entries

-- a table of one key and one column, for two exact entries and three masked ones
abbrev pub some_masked : Database
some_masked = record (database []) { tables = record one_table { mask_entries = 3 } ∷ [] }

abbrev pub Asked : Type 0
Asked = List (ℕ × Question)

-- the answers behind those that are there, and the session at the end
abbrev pub answers_from : List Answer → Asked → Session → List Answer × Session
answers_from done [] s = (done, s)
answers_from done (q ∷ qs) s = let r = ask some_masked s q.1 (q.0 * SECOND) in answers_from (done ++ r.0 ∷ []) qs r.1

abbrev pub answered : Asked → List Answer × Session
answered qs = answers_from [] qs (declared some_masked)

-- a look-up and one that renews, of a key of one byte
abbrev pub look : ℕ → Question
look k = Look 0 ((k ∷ []) ∷ []) false

abbrev pub renew : ℕ → Question
renew k = Look 0 ((k ∷ []) ∷ []) true

-- a row of one byte
abbrev pub row : ℕ → List Value
row v = Buf (v ∷ []) ∷ []

abbrev pub hit : ℕ → Answer
hit v = Hit (row v)

-- an addition of a value under a key, which may have a mask
abbrev pub add : Validity → ℕ → Option (List (List ℕ)) → ℕ → ℕ → ℕ → Question
add validity k masks keep hit v = Add 0 (record { keys = (k ∷ []) ∷ []; masks = masks; validity = validity; keep = keep; hit = hit; row = row v })

abbrev pub mask : ℕ → Option (List (List ℕ))
mask m = Some ((m ∷ []) ∷ [])

abbrev pub entry : Validity → ℕ → Option (List (List ℕ)) → ℕ → Option ℕ → ℕ → Entry
entry validity k masks hit deadline v = record { keys = (k ∷ []) ∷ []; masks = masks; validity = validity; hit = hit; deadline = deadline; row = row v }

abbrev pub at : ℕ → Option ℕ
at seconds = Some (seconds * SECOND)

abbrev pub holds : List Entry → List Entry → Session
holds exact masked = record { exact = exact; masked = masked } ∷ []

abbrev pub conversations : List ((List Answer × Session) × (List Answer × Session))
conversations =
    -- of the masked entries that match, the first that lives: the one for a0 to af up to 15, then the one for a1 up to 60
    (
      answered ((10, add MaxTime 0xa0 (mask 0xf0) 5 0 1) ∷ (10, add MaxTime 0xa1 (mask 0xff) 50 0 2) ∷ (14, look 0xa1) ∷ (15, look 0xa1) ∷ (10, look 0xa1) ∷ (15, look 0xa2) ∷ (60, look 0xa1) ∷ []),
      (Done ∷ Done ∷ hit 1 ∷ hit 2 ∷ hit 1 ∷ Miss ∷ Miss ∷ [], holds [] (entry MaxTime 0xa0 (mask 0xf0) 0 (at 15) 1 ∷ entry MaxTime 0xa1 (mask 0xff) 0 (at 60) 2 ∷ [])),
    )
    -- an exact entry that is dead doesn't hide a masked one
    ∷ (
      answered ((10, add Forever 0xa0 (mask 0xf0) 0 0 1) ∷ (10, add MaxTime 0xa1 None 1 0 2) ∷ (10, look 0xa1) ∷ (11, look 0xa1) ∷ []),
      (Done ∷ Done ∷ hit 2 ∷ hit 1 ∷ [], holds (entry MaxTime 0xa1 None 0 (at 11) 2 ∷ []) (entry Forever 0xa0 (mask 0xf0) 0 None 1 ∷ [])),
    )
    -- a masked entry is renewed in its place, from the moment of the hit; nothing is added, and without renewal nothing changes
    ∷ (
      answered ((10, add UpdateOnHit 0xa0 (mask 0xf0) 5 20 1) ∷ (10, add Forever 0xb0 (mask 0xf0) 0 0 2) ∷ (12, renew 0xa7) ∷ (13, look 0xa7) ∷ (31, look 0xa7) ∷ (32, look 0xa7) ∷ []),
      (Done ∷ Done ∷ hit 1 ∷ hit 1 ∷ hit 1 ∷ Miss ∷ [], holds [] (entry UpdateOnHit 0xa0 (mask 0xf0) 20 (at 32) 1 ∷ entry Forever 0xb0 (mask 0xf0) 0 None 2 ∷ [])),
    )
    -- an earlier moment makes the deadline earlier
    ∷ (answered ((10, add UpdateOnHit 1 None 5 3 1) ∷ (4, renew 1) ∷ (7, look 1) ∷ []), (Done ∷ hit 1 ∷ Miss ∷ [], holds (entry UpdateOnHit 1 None 3 (at 7) 1 ∷ []) []))
    -- an entry that lives for ever, or for its time, isn't renewed
    ∷ (answered ((10, add MaxTime 1 None 5 3 1) ∷ (10, add Forever 2 None 5 3 2) ∷ (12, renew 1) ∷ (12, renew 2) ∷ []), (Done ∷ Done ∷ hit 1 ∷ hit 2 ∷ [], holds (entry MaxTime 1 None 3 (at 15) 1 ∷ entry Forever 2 None 3 None 2 ∷ []) []))
    -- an exact entry that a hit adds takes the place of the dead one with its key
    ∷ (
      answered ((10, add MaxTime 0xa1 None 1 0 1) ∷ (10, add Forever 0x05 None 0 0 2) ∷ (10, add AddOnHit 0xa0 (mask 0xf0) 0 3 7) ∷ (12, renew 0xa1) ∷ []),
      (Done ∷ Done ∷ Done ∷ hit 7 ∷ [], holds (entry UpdateOnHit 0xa1 None 3 (at 15) 7 ∷ entry Forever 0x05 None 0 None 2 ∷ []) (entry AddOnHit 0xa0 (mask 0xf0) 3 None 7 ∷ [])),
    )
    -- keys under other masks are another entry; under the same ones they are the same, once they are masked
    ∷ (
      answered ((10, add Forever 0xa0 (mask 0xf0) 0 0 1) ∷ (10, add Forever 0xa0 (mask 0xff) 0 0 2) ∷ (10, add Forever 0xa3 (mask 0xf0) 0 0 3) ∷ (10, look 0xa0) ∷ []),
      (Done ∷ Done ∷ Done ∷ hit 3 ∷ [], holds [] (entry Forever 0xa0 (mask 0xf0) 0 None 3 ∷ entry Forever 0xa0 (mask 0xff) 0 None 2 ∷ [])),
    )
    -- in a full part the first of those with the least deadline goes; one that lives for ever stays
    ∷ (answered ((10, add Forever 1 None 0 0 1) ∷ (10, add MaxTime 2 None 5 0 2) ∷ (10, add MaxTime 3 None 1 0 3) ∷ []), (Done ∷ Done ∷ Done ∷ [], holds (entry Forever 1 None 0 None 1 ∷ entry MaxTime 3 None 0 (at 11) 3 ∷ []) []))
    -- and where all do, nothing changes; the other part has room of its own
    ∷ (
      answered ((10, add Forever 1 None 0 0 1) ∷ (10, add Forever 2 None 0 0 2) ∷ (10, add Forever 3 None 0 0 3) ∷ (10, add Forever 3 (mask 0xff) 0 0 4) ∷ (10, add Forever 2 None 0 0 5) ∷ []),
      (Done ∷ Done ∷ Done ∷ Done ∷ Done ∷ [], holds (entry Forever 1 None 0 None 1 ∷ entry Forever 2 None 0 None 5 ∷ []) (entry Forever 3 (mask 0xff) 0 None 4 ∷ [])),
    )
    -- a table that isn't declared has nothing and keeps nothing
    ∷ (answered ((10, Look 1 ((1 ∷ []) ∷ []) true) ∷ (10, Add 1 (record { keys = (1 ∷ []) ∷ []; masks = None; validity = Forever; keep = 0; hit = 0; row = row 1 })) ∷ []), (Miss ∷ Done ∷ [], holds [] []))
    ∷ []

abbrev pub TablesAnswer : Type 0
TablesAnswer = AreAlike conversations

-- ---- updates

abbrev pub column : Text → Ty → Option ℕ → ColumnDecl
column name ty size = record { line = 2; name = name; ty = ty; size = size }

-- a table of two keys, of one and of two bytes, and these columns; the second protocol is number 1
abbrev pub pairs_db : List ColumnDecl → Database
pairs_db columns = record (database (protocol 3 (codes "startproto") None None None ∷ protocol 4 (codes "q") None None None ∷ [])) {
  tables = record { line = 2; name = codes "t"; exact_entries = 2; mask_entries = 2; keys = record { line = 2; name = codes "j"; size = 1 } ∷ record { line = 2; name = codes "k"; size = 2 } ∷ []; columns = columns } ∷ [];
}

-- how fields end, and what was asked and answered, where so many questions are left
abbrev pub with_questions : List ColumnDecl → ℕ → List Element → List Node × Log
with_questions columns n xs =
    let db = pairs_db columns in
    let z = start db (captured 0 0 (1 ∷ 2 ∷ [])) in
    let r = play db 0 (list db (protocol 3 (codes "startproto") None (fields 3 xs []) None) xs none (record z { env = record z.env { questions = n } })) (declared db) in
    (r.result.0.1, r.log)

abbrev pub asked_by : List ColumnDecl → List Element → List Node × Log
asked_by columns xs = with_questions columns 9 xs

abbrev pub text : List ℕ → Expr
text bytes = expr.Text bytes

abbrev pub by_zero : Expr
by_zero = expr.Binary op.Div (expr.Number 1) (expr.Number 0)

abbrev pub key : Expr → Option (List ℕ) → UpdateKey
key e m = record { line = 3; value = e; mask = m }

abbrev pub value : Expr → UpdateValue
value e = record { line = 3; value = e }

-- an update with these keys and values, and a field behind it
abbrev pub update_of : Text → List UpdateKey → List UpdateValue → List Element
update_of table keys values = element.Update 3 table Forever None None keys values ∷ a ∷ []

abbrev pub update : List UpdateKey → List UpdateValue → List Element
update keys values = update_of (codes "t") keys values

-- keys a1 and 0007 without masks
abbrev pub plain_keys : List UpdateKey
plain_keys = key (text (0xa1 ∷ [])) None ∷ key (text (0 ∷ 7 ∷ [])) None ∷ []

-- the same, where the first has a mask
abbrev pub masked_keys : List UpdateKey
masked_keys = key (text (0xa1 ∷ [])) (Some (0xf0 ∷ [])) ∷ key (text (0 ∷ 7 ∷ [])) None ∷ []

abbrev pub added : Option (List (List ℕ)) → List Value → Log
added masks values = (Add 0 (record { keys = (0xa1 ∷ []) ∷ (0 ∷ 7 ∷ []) ∷ []; masks = masks; validity = Forever; keep = 0; hit = 0; row = values }), Done) ∷ []

-- block and look-up: field a where there is a hit, else field b
abbrev pub look_for : ℕ → ℕ → Element
look_for j k = choice (expr.LookUp (codes "t") false (text (j ∷ []) ∷ text (0 ∷ k ∷ []) ∷ [])) (a ∷ []) (b ∷ [])

abbrev pub of_one_byte : List ColumnDecl
of_one_byte = column (codes "d") ty.Buf (Some 1) ∷ []

abbrev pub of_all_types : List ColumnDecl
of_all_types = column (codes "n") ty.Num None ∷ column (codes "d") ty.Buf (Some 1) ∷ column (codes "p") ty.Proto None ∷ []

abbrev pub updates : List ((List Node × Log) × (List Node × Log))
updates =
    (asked_by of_one_byte (update plain_keys (value (text (5 ∷ [])) ∷ [])), (read 0 0 1 ∷ [], added None (Buf (5 ∷ []) ∷ [])))
    -- where one key has a mask, the other keeps all its bits
    ∷ (asked_by of_one_byte (update masked_keys (value (text (5 ∷ [])) ∷ [])), (read 0 0 1 ∷ [], added (Some ((0xf0 ∷ []) ∷ (0xff ∷ 0xff ∷ []) ∷ [])) (Buf (5 ∷ []) ∷ [])))
    -- a value may be shorter than its column, and not one byte longer
    ∷ (asked_by of_one_byte (update plain_keys (value (text []) ∷ [])), (read 0 0 1 ∷ [], added None (Buf [] ∷ [])))
    ∷ (asked_by of_one_byte (update plain_keys (value (text (5 ∷ 6 ∷ [])) ∷ [])), (Note DataSize 0 ∷ [], []))
    -- a key has its size, neither less nor more
    ∷ (asked_by of_one_byte (update (key (text []) None ∷ key (text (0 ∷ 7 ∷ [])) None ∷ []) (value (text (5 ∷ [])) ∷ [])), (Note KeySize 0 ∷ [], []))
    ∷ (asked_by of_one_byte (update (key (text (1 ∷ [])) None ∷ key (text (0 ∷ 0 ∷ 7 ∷ [])) None ∷ []) (value (text (5 ∷ [])) ∷ [])), (Note KeySize 0 ∷ [], []))
    -- each is checked right behind its evaluation, the keys first; then a question is wanted
    ∷ (asked_by of_one_byte (update (key (text []) None ∷ key by_zero None ∷ []) (value (text (5 ∷ [])) ∷ [])), (Note KeySize 0 ∷ [], []))
    ∷ (asked_by of_one_byte (update (key (text (1 ∷ [])) None ∷ key by_zero None ∷ []) (value (text (5 ∷ 6 ∷ [])) ∷ [])), (Note Zero 0 ∷ [], []))
    ∷ (asked_by of_all_types (update plain_keys (value (expr.Number 1) ∷ value (text (5 ∷ 6 ∷ [])) ∷ value by_zero ∷ [])), (Note DataSize 0 ∷ [], []))
    ∷ (with_questions of_one_byte 0 (update plain_keys (value (text (5 ∷ 6 ∷ [])) ∷ [])), (Note DataSize 0 ∷ [], []))
    ∷ (with_questions of_one_byte 0 (update plain_keys (value (text (5 ∷ [])) ∷ [])), (Note Questions 0 ∷ [], []))
    -- a value of each type, taken as it is
    ∷ (asked_by of_all_types (update plain_keys (value (expr.Number 5) ∷ value (text (5 ∷ [])) ∷ value (expr.Protocol (codes "q")) ∷ [])), (read 0 0 1 ∷ [], added None (Num 5 ∷ Buf (5 ∷ []) ∷ Proto 1 ∷ [])))
    -- one of another type is taken as its column's: 0, no bytes, the first protocol
    ∷ (asked_by of_all_types (update plain_keys (value (text (5 ∷ [])) ∷ value (expr.Number 5) ∷ value (expr.Number 1) ∷ [])), (read 0 0 1 ∷ [], added None (Num 0 ∷ Buf [] ∷ Proto 0 ∷ [])))
    -- so is a protocol that isn't declared
    ∷ (asked_by of_all_types (update plain_keys (value (expr.Protocol (codes "q")) ∷ value (expr.Protocol (codes "q")) ∷ value (expr.Protocol (codes "r")) ∷ [])), (read 0 0 1 ∷ [], added None (Num 0 ∷ Buf [] ∷ Proto 0 ∷ [])))
    -- a table that isn't declared is asked nothing
    ∷ (with_questions of_one_byte 0 (update_of (codes "u") plain_keys (value by_zero ∷ [])), (read 0 0 1 ∷ [], []))
    ∷ (with_questions of_one_byte 0 (choice (expr.LookUp (codes "u") true (by_zero ∷ [])) (a ∷ []) (b ∷ []) ∷ []), (read 1 0 1 ∷ [], []))
    ∷ []

abbrev pub UpdatesAsk : Type 0
UpdatesAsk = AreAlike updates

-- what is found under two keys of which one has a mask: the last four bits of the first don't count
abbrev pub with_pair : Element → List Node
with_pair x = (asked_by of_one_byte (element.Update 3 (codes "t") Forever None None masked_keys (value (text (5 ∷ [])) ∷ []) ∷ x ∷ [])).0

abbrev pub pairs : List (List Node × List Node)
pairs =
    (with_pair (look_for 0xa5 7), read 0 0 1 ∷ [])
    ∷ (with_pair (look_for 0xb1 7), read 1 0 1 ∷ [])
    ∷ (with_pair (look_for 0xa1 6), read 1 0 1 ∷ [])
    ∷ []

abbrev pub OneMaskOfTwo : Type 0
OneMaskOfTwo = AreAlike pairs

-- ---- logs that are asked again

-- the log of a packet decoded from the declared session, asked in the session that these packets leave
abbrev pub asked_again : Packet → List Packet → ℕ → Option Difference
asked_again p ps k = differs table_db p.stamp (dec table_db p (declared table_db)).log (state table_db (declared table_db) ps k)

abbrev pub replays : List (Option Difference × Option Difference)
replays =
    -- a look-up that missed hits an entry that was added since
    (asked_again (at_second 0 4 1 0) (at_second 0 1 1 7 ∷ []) 1, Some (record { place = 0; old = Miss; new = hit 7 }))
    -- an addition that a full table drops: what hit it, in the second place, misses
    ∷ (asked_again (at_second 0 9 3 0) (at_second 0 1 1 0 ∷ at_second 0 1 2 0 ∷ []) 2, Some (record { place = 1; old = hit 0; new = Miss }))
    -- in an empty table it doesn't differ, nor where another key was added
    ∷ (asked_again (at_second 0 9 3 0) [] 0, None)
    ∷ (asked_again (at_second 0 4 1 0) (at_second 0 1 2 7 ∷ []) 1, None)
    -- two hits with other rows
    ∷ (differs table_db 0 ((look 1, hit 9) ∷ []) (state table_db (declared table_db) (at_second 0 1 1 7 ∷ []) 1), Some (record { place = 0; old = hit 9; new = hit 7 }))
    -- the first of several; those before it are asked too
    ∷ (differs table_db 0 ((look 1, Miss) ∷ (add Forever 1 None 0 0 7, Done) ∷ (look 1, Miss) ∷ (look 2, hit 1) ∷ []) (declared table_db), Some (record { place = 2; old = Miss; new = hit 7 }))
    ∷ []

abbrev pub LogsDiffer : Type 0
LogsDiffer = AreAlike replays
