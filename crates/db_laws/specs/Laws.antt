-- The laws of the definitions, each in the words of its subject.
use Rattle.std.specs.Prelude.{◌≡◌, ℕ, Bool, true, ◌+◌, ◌<◌, ◌≤◌, List, [], ◌∷◌, ◌++◌, length, drop, slice_get, ◌↔◌, Some, None, Ok}
use Rattle.db_model.specs.declared.database.Database.{Database}
use Rattle.db_model.specs.declared.database.NamedBlock.{NamedBlock}
use Rattle.db_model.specs.declared.database.Protocol.{Protocol}
use Rattle.db_model.specs.declared.database.TableDecl.{TableDecl}
use Rattle.db_model.specs.declared.entry.Entry.{Entry}
use Rattle.db_model.specs.declared.entry.NewEntry.{NewEntry}
use Rattle.db_model.specs.declared.env.Env.{Env}
use Rattle.db_model.specs.declared.expression.Expr.{Expr}
use Rattle.db_model.specs.declared.limits.TheConstants.{MOST_NESTED, MOST_QUESTIONS, STAMP_END}
use Rattle.db_model.specs.declared.packet.Packet.{Packet}
use Rattle.db_model.specs.declared.question.Question.{Question}
use Rattle.db_model.specs.declared.question.Question.TheVariants.{Look, Add}
use Rattle.db_model.specs.declared.value.Ty.{Ty}
use Rattle.db_model.specs.declared.value.Value.{Value}
use Rattle.db_model.specs.BlockFaults.{firsts, includes_itself, Reaches, protocol_45}
use Rattle.db_model.specs.Chain.{elements_of, chain}
use Rattle.db_model.specs.Decoding.{start_env, decoding, dec}
use Rattle.db_model.specs.Elements.{block_of, included, list}
use Rattle.db_model.specs.Expression.{val, taken_as}
use Rattle.db_model.specs.Fitting.{look_fits, add_fits, question_fits, log_fits, table_fits, session_fits, has_type, hit_fits, answer_fits, table_of}
use Rattle.db_model.specs.Kept.{Kept, made_by_put}
use Rattle.db_model.specs.Names.{Text}
use Rattle.db_model.specs.Numbering.{Counts, block_at, blocks_in}
use Rattle.db_model.specs.Objection.{IsChecked}
use Rattle.db_model.specs.Questions.{Asks, Gives, Asking, and_then, Log, play, Step, pure, ◌then◌, State, from}
use Rattle.db_model.specs.Proper.{Proper, Leaves, TakesFrom, Any, AnyEnd, left_in, left_in_frame, PlaysProper}
use Rattle.db_model.specs.Replay.{after, Agrees, differs}
use Rattle.db_model.specs.Serial.{state, decoded_at}
use Rattle.db_model.specs.Session.{Session, declared, ask}
use Rattle.db_model.specs.Typed.{env_fits, Gets, IsTyped}
use Rattle.db_model.specs.Typing.{type_of}
use Rattle.db_model.specs.Table.{Parts, KeyList, add, look}
use Rattle.db_laws.specs.Plain.{plain_dec, KeepsEnv}

-- unchanged answers, unchanged decoding: where the log of the one agrees with the other session, decoding from there gives the same tree and log, and the session that the log leaves there
abbrev pub UnchangedDecoding : Type 0
UnchangedDecoding = (db : Database) (p : Packet) (s s' : Session) → Agrees db p.stamp (dec db p s).log s' → dec db p s' ≡ record (dec db p s) { session = after db p.stamp (dec db p s).log s' }

-- the same for any computation, at two states that differ in their session alone: what it adds to the log is asked again
abbrev pub UnchangedComputation : Type 0 → Type 0 → Type 0
UnchangedComputation S A = (db : Database) (t : ℕ) (f : Step S A) (z : State S) (s' : Session) (m : Log)
    → (from db t f z).1.log ≡ z.log ++ m → Agrees db t m s' → from db t f (record z { session = s' }) ≡ ((from db t f z).0, record (from db t f z).1 { session = after db t m s' })

-- the first answer that isn't the noted one is none exactly where the log agrees
abbrev pub DiffersNowhere : Type 0
DiffersNowhere = (db : Database) (t : ℕ) (l : Log) (s : Session) → (differs db t l s ≡ None) ↔ Agrees db t l s

-- a log in two parts agrees exactly where each does in its place
abbrev pub AgreesInParts : Type 0
AgreesInParts = (db : Database) (t : ℕ) (l m : Log) (s : Session) → Agrees db t (l ++ m) s ↔ (Agrees db t l s × Agrees db t m (after db t l s))

-- the session of a decoding is the one that its log leaves, and its log agrees with the session from which it was decoded
abbrev pub SessionOfDecoding : Type 0
SessionOfDecoding = (db : Database) (p : Packet) (s : Session) → ((dec db p s).session ≡ after db p.stamp (dec db p s).log s) × Agrees db p.stamp (dec db p s).log s

-- the decodings from the packet at place m on are those from the state of m
abbrev pub SerialFrom : Type 0
SerialFrom = (db : Database) (s : Session) (ps : List Packet) (m k : ℕ) → (state db (state db s ps m) (drop m ps) k ≡ state db s ps (m + k)) × (decoded_at db (state db s ps m) (drop m ps) k ≡ decoded_at db s ps (m + k))

-- more packets behind the first ones don't change these
abbrev pub SerialFront : Type 0
SerialFront = (db : Database) (s : Session) (ps qs : List Packet) (k : ℕ) → k ≤ length ps → state db s (ps ++ qs) k ≡ state db s ps k

-- the levels of included blocks are enough: in a checked database a name means the block of that name in which each name means the same, however deep it stands, and more levels mean nothing else. So each named block may be compiled by itself, and an include be a jump to it
pub record IncludesEnd : Type 0 where
  pub is_block : (db : Database) (q : ℕ) (p : Protocol) (name : Text) → IsChecked db → slice_get db.protocols q ≡ Some p → included db p MOST_NESTED name ≡ block_of db p (included db p MOST_NESTED) (block_at p name)
  pub more_levels : (db : Database) (q : ℕ) (p : Protocol) (name : Text) (n : ℕ) → IsChecked db → slice_get db.protocols q ≡ Some p → MOST_NESTED ≤ n → included db p n name ≡ included db p MOST_NESTED name

-- the bounded walk of fault 45 finds every cycle: the first block of a name includes itself exactly where the name leads back to itself, through however many blocks, and a protocol is without the fault exactly where none does
pub record CyclesFound : Type 0 where
  pub of_block : (p : Protocol) (k : ℕ) (b : NamedBlock) → slice_get (firsts [] (blocks_in p.format)) k ≡ Some b → (includes_itself p b ≡ true) ↔ Reaches p b.name b.name
  pub of_protocol : (p : Protocol) → (protocol_45 p ≡ []) ↔ ((name : Text) → Reaches p name name → ⊥)

-- in a table to which entries were only put, no two of a part have the same keys and masks, and the declared lengths hold
abbrev pub PutKeeps : Type 0
PutKeeps = (d : TableDecl) (es : List Entry) → Kept d (made_by_put d es)

-- an addition and a look-up keep that
pub record TableKeeps : Type 0 where
  pub added : (d : TableDecl) (t : Parts) (n : NewEntry) (now : ℕ) → Kept d t → Kept d (add d t n now)
  pub looked : (d : TableDecl) (t : Parts) (keys : KeyList) (renew : Bool) (now : ℕ) → Kept d t → Kept d (look d t keys renew now).1

-- what a table holds goes on to fit its declaration, by that alone, and so does the row of a hit
pub record TableFits : Type 0 where
  pub added : (d : TableDecl) (t : Parts) (n : NewEntry) (now : ℕ) → table_fits d t ≡ true → add_fits d n ≡ true → now < STAMP_END → table_fits d (add d t n now) ≡ true
  pub looked : (d : TableDecl) (t : Parts) (keys : KeyList) (renew : Bool) (now : ℕ) → table_fits d t ≡ true → look_fits d keys ≡ true → now < STAMP_END → (hit_fits d (look d t keys renew now).0 ≡ true) × (table_fits d (look d t keys renew now).1 ≡ true)

-- what fits a database fits the table that is asked: its number is that of a declared one, what it is asked fits its declaration, and so does what it holds in a session that fits
pub record TableOfQuestion : Type 0 where
  pub number : (db : Database) (q : Question) → question_fits db q ≡ true → table_of q < length db.tables
  pub looked : (db : Database) (n : ℕ) (keys : KeyList) (renew : Bool) (d : TableDecl) → slice_get db.tables n ≡ Some d → question_fits db (Look n keys renew) ≡ true → look_fits d keys ≡ true
  pub added : (db : Database) (n : ℕ) (e : NewEntry) (d : TableDecl) → slice_get db.tables n ≡ Some d → question_fits db (Add n e) ≡ true → add_fits d e ≡ true
  pub held : (db : Database) (s : Session) (n : ℕ) (d : TableDecl) (t : Parts) → slice_get db.tables n ≡ Some d → slice_get s n ≡ Some t → session_fits db s ≡ true → table_fits d t ≡ true

-- a question that fits leaves a session that fits, and the row of its hit fits
abbrev pub FitsStay : Type 0
FitsStay = (db : Database) (s : Session) (q : Question) (t : ℕ) → session_fits db s ≡ true → question_fits db q ≡ true → t < STAMP_END → (answer_fits db (slice_get db.tables (table_of q)) (ask db s q t).0 ≡ true) × (session_fits db (ask db s q t).1 ≡ true)

-- the session of a database to which nothing was added fits
abbrev pub DeclaredFits : Type 0
DeclaredFits = (db : Database) → session_fits db (declared db) ≡ true

-- in a checked database each question that a decoding asks fits, whatever it is answered, and there are at most as many as a packet may ask. The same holds of what the elements of a protocol and a chain ask, and of any expression in any database
pub record AsksProperly : Type 0 where
  pub decoding : (db : Database) (p : Packet) → IsChecked db → Proper db AnyEnd MOST_QUESTIONS (decoding db p)
  pub chain : (db : Database) (n q : ℕ) → IsChecked db → TakesFrom db left_in_frame Any (chain db n q)
  pub list : (db : Database) (q : ℕ) (p : Protocol) (at : Counts) → IsChecked db → slice_get db.protocols q ≡ Some p → TakesFrom db left_in_frame Any (list db p (elements_of p) at)
  pub expression : (db : Database) (fields : List Text) (e : Expr) → TakesFrom db left_in Any (val db fields e)

-- one computation after another asks properly exactly where the first does, and then the second from what is left. And what is played of them over any session: the first, where the second follows, and a step
pub record ProperComputations (S A B : Type 0) : Type 0 where
  pub one_after_another : (db : Database) (n : ℕ) (x : Asks A) (f : A → Asks B) → Proper db AnyEnd n (and_then x f) ↔ Proper db (λ a m. Proper db AnyEnd m (f a)) n x
  pub first : (db : Database) (n t : ℕ) (x : Asks A) (f : A → Asks B) (s : Session) → Proper db AnyEnd n (and_then x f) → PlaysProper db (λ a m. Proper db AnyEnd m (f a)) n (play db t x s)
  pub step : (db : Database) (left : S → ℕ) (n t : ℕ) (x : Asks (A × S)) (s : Session) → Proper db (Leaves left Any) n x → PlaysProper db (Leaves left Any) n (play db t x s)

-- a log of questions that fit leaves a session that fits
abbrev pub AfterFits : Type 0
AfterFits = (db : Database) (t : ℕ) (l : Log) (s : Session) → session_fits db s ≡ true → log_fits db l ≡ true → t < STAMP_END → session_fits db (after db t l s) ≡ true

-- in a checked database each question of a decoding fits and there are at most as many as a packet may ask; and from a session that fits, at a stamp, it leaves one that fits
pub record DecodingFits : Type 0 where
  pub log : (db : Database) (p : Packet) (s : Session) → IsChecked db → log_fits db (dec db p s).log ≡ true
  pub most : (db : Database) (p : Packet) (s : Session) → IsChecked db → length (dec db p s).log ≤ MOST_QUESTIONS
  pub session : (db : Database) (p : Packet) (s : Session) → IsChecked db → p.stamp < STAMP_END → session_fits db s ≡ true → session_fits db (dec db p s).session ≡ true

-- all stamps come before the end of stamps
abbrev pub InTime : List Packet → Type 0
InTime ps = (i : ℕ) (p : Packet) → slice_get ps i ≡ Some p → p.stamp < STAMP_END

-- the same of packets decoded one by one
pub record SerialFits : Type 0 where
  pub log : (db : Database) (s : Session) (ps : List Packet) (k : ℕ) → IsChecked db → log_fits db (decoded_at db s ps k).log ≡ true
  pub most : (db : Database) (s : Session) (ps : List Packet) (k : ℕ) → IsChecked db → length (decoded_at db s ps k).log ≤ MOST_QUESTIONS
  pub session : (db : Database) (s : Session) (ps : List Packet) (k : ℕ) → IsChecked db → InTime ps → session_fits db s ≡ true → session_fits db (state db s ps k) ≡ true

-- the value of a typed expression has its type, whatever answers that fit it gets, from a state that fits; and the state after it fits
abbrev pub TypedValues : Type 0
TypedValues = (db : Database) (fields : List Text) (e : Expr) (ty : Ty) (z : Env) → type_of db fields e ≡ Ok ty → env_fits db z ≡ true → Gets db (λ r. IsTyped db ty r.0 × (env_fits db r.1 ≡ true)) (val db fields e z)

-- the state with which a decoding begins fits a checked database
abbrev pub StartFits : Type 0
StartFits = (db : Database) (p : Packet) → IsChecked db → env_fits db (start_env db p) ≡ true

-- a value that has a type is itself where it is taken as one of that type, as the data values of an update are
abbrev pub TakenAsItself : Type 0
TakenAsItself = (db : Database) (ty : Ty) (v : Value) → has_type db ty v ≡ true → taken_as (length db.protocols) ty v ≡ v

-- a computation that leaves its questions open says the same as one that carries session and log through its state: a result leaves the state, one computation after another is the one after the other on whole states, and a question is answered by the session, with its pair behind the log
pub record CarriesState (S A B : Type 0) : Type 0 where
  pub result : (db : Database) (t : ℕ) (a : A) (z : State S) → from db t (pure a) z ≡ (a, record z { log = z.log ++ [] })
  pub one_after_another : (db : Database) (t : ℕ) (p : Step S A) (f : A → Step S B) (z : State S) → from db t (p then f) z ≡ from db t (f (from db t p z).0) (from db t p z).1
  pub question : (db : Database) (t : ℕ) (q : Question) (z : State S) → from db t (λ x. Asking q (λ a. Gives (a, x))) z ≡ ((ask db z.session q t).0, record z { session = (ask db z.session q t).1; log = z.log ++ (q, (ask db z.session q t).0) ∷ [] })

-- in a checked database no update is changed by taking its data values as their columns' types: from a session that fits, a packet at a stamp is decoded as where each value stands in its row as it was evaluated. For the elements of a protocol and a chain leave a state that fits where they begin with one
pub record UpdatesUnchanged : Type 0 where
  pub decoding : (db : Database) (p : Packet) (s : Session) → IsChecked db → p.stamp < STAMP_END → session_fits db s ≡ true → plain_dec db p s ≡ dec db p s
  pub list : (db : Database) (q : ℕ) (p : Protocol) (at : Counts) → IsChecked db → slice_get db.protocols q ≡ Some p → KeepsEnv db (list db p (elements_of p) at)
  pub chain : (db : Database) (n q : ℕ) → IsChecked db → KeepsEnv db (chain db n q)

-- a tree has at most as many protocols as a packet may enter, and the payload
abbrev pub FewProtocols : Type 0
FewProtocols = (db : Database) (p : Packet) (s : Session) → length (dec db p s).result ≤ 33
