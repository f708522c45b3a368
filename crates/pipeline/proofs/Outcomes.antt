-- What the whole outputs are, by how their packets ended and by the closings.
use Rattle.std.proofs.Common.{◌≡◌, ◌⊎◌, inl, inr, ⊎_elim, ◌<◌, ◌≤◌, ◌+◌, ◌-◌, ℕ, Bool, true, false, ltb, List, [], ◌++◌, length, take, Option, Some, None, Result, Ok, Err, refl, sym, ap, ◌∙◌, subst, append-nil, arith}
use Rattle.std.proofs.lemmas.Bool.Decides.{nat_tests}
use Rattle.std.proofs.Math.Seq.{take-append-add}
use Rattle.std.proofs.lemmas.List.{take_all}
use Rattle.db_model.specs.declared.database.Database as model
use Rattle.db_model.specs.declared.packet.Packet.{Packet}
use Rattle.db_laws.specs.Laws.{SerialFront}
use Rattle.npd_host.specs.Host.{Inputs, Outputs}
use Rattle.pcap_in.specs.Capture.{End, Whole, Broken, Limit, Seen, whole_end, broken_end, with_front, limited}
use Rattle.pcap_in.specs.Laws.{LimitedIsRead}
use Rattle.pcap_in.specs.Reader.{Reader, left}
use Rattle.pipeline.specs.declared.sinks.OutputFiles.{OutputFiles}
use Rattle.pipeline.specs.declared.sinks.Sinks.{Sinks}
use Rattle.pipeline.specs.declared.status.Role.{Role}
use Rattle.pipeline.specs.declared.status.Role.TheVariants.{Db, Cap, Pdml, Psml, Trace, Out}
use Rattle.pipeline.specs.declared.status.Status.{Status}
use Rattle.pipeline.specs.declared.status.Status.TheVariants.{Done, Words, Open, Read, Write, Database, Capture, PacketLimit, NoMemory, Unbuilt}
use Rattle.pipeline.specs.Outputs.{closing, open_texts, whole_texts, no_texts}
use Rattle.pipeline.specs.Packets.{Standing, Ends, LeftIs, OutcomeIs, EndsWith, OutputsAre, NamedAre}
use Rattle.pipeline.specs.Taken.{TookEach, TookFronts, TookParts, FailsTexts, TakesTexts}
use Rattle.pipeline.specs.Written.{sink_of, BegunEach, WroteEach, WroteFronts, WrotePart}
use Rattle.pipeline.proofs.Begun.{wrote_each, wrote_fronts, wrote_part}
use Rattle.pipeline.proofs.PacketTexts.{whole_text-front, whole_text-is}
use Rattle.pipeline.proofs.Taking.{each_none, each_alike, each_then, fronts_then, parts_then}
use Rattle.pipeline.proofs.Told.{told_all, told_map}

-- the first so many of these packets and others begin with these
take_front : (most : ℕ) (packets others : List Packet) → length packets ≤ most → take most (packets ++ others) ≡ packets ++ take (most - length packets) others
take_front most packets others few =
    ap (λ (n : ℕ). take n (packets ++ others)) (let e : most ≡ length packets + (most - length packets) = omega arith in e)
    ∙ take-append-add packets others (most - length packets)

-- the packets that are seen begin with these, and so does each whole text
whole_of : SerialFront → (db : model.Database) (lines : ℕ → List ℕ) (most : ℕ) (packets : List Packet) (seen rest : Seen) → length packets ≤ most → seen ≡ with_front packets rest
    → (later : (Role → List ℕ)) × ((role : Role) → whole_texts db lines (take most seen.packets) role ≡ open_texts db lines packets role ++ later role)
whole_of front db lines most packets seen rest few all =
    let more = take (most - length packets) rest.packets in
    let seen_is : take most seen.packets ≡ packets ++ more = ap (λ (s : Seen). take most s.packets) all ∙ take_front most packets rest.packets few in (
      λ role. (whole_text-front front role db lines packets more).0,
      λ role. ap (λ (l : List Packet). whole_texts db lines l role) seen_is ∙ (whole_text-front front role db lines packets more).1,
    )

-- at an end without further packets they are these
all_of : (most : ℕ) (packets : List Packet) (seen rest : Seen) → length packets ≤ most → seen ≡ with_front packets rest → rest.packets ≡ [] → take most seen.packets ≡ packets
all_of most packets seen rest few all none =
    ap (λ (s : Seen). take most s.packets) all
    ∙ ap (λ (l : List Packet). take most (packets ++ l)) none
    ∙ ap (take most) (append-nil packets)
    ∙ take_all most packets few

-- and so they are where the limit is reached
all_reached : (most : ℕ) (packets : List Packet) (seen rest : Seen) → length packets ≡ most → seen ≡ with_front packets rest → take most seen.packets ≡ packets
all_reached most packets seen rest reached all =
    ap (λ (s : Seen). take most s.packets) all
    ∙ take_front most packets rest.packets (omega arith)
    ∙ ap (λ (n : ℕ). packets ++ take n rest.packets) (let e : most - length packets ≡ 0 = omega arith in e)
    ∙ append-nil packets

-- ---- what is seen with the limit, where these packets were read

below_or_same : (n m : ℕ) → n ≤ m → (n < m) ⊎ (n ≡ m)
below_or_same n m h = by_test (ltb n m) refl
  where
    by_test : (test : Bool) → ltb n m ≡ test → (n < m) ⊎ (n ≡ m)
    by_test true e = inl (grind (arith, nat_tests))
    by_test false e = inr (grind (arith, nat_tests))

limited_done : LimitedIsRead → (most : ℕ) (packets : List Packet) (seen rest : Seen) → length packets ≤ most → seen ≡ with_front packets rest → rest ≡ whole_end
    → limited most seen ≡ record { packets = packets; end = Whole }
limited_done so most packets seen rest few all ends =
    ap (limited most) all
    ∙ ⊎_elim
    (λ below. (so packets rest most).below below (ap (λ (s : Seen). s.packets) ends) ∙ ap (λ (s : Seen). record { packets = packets; end = s.end }) ends)
    (λ same. (so packets rest most).at_end same ends) (below_or_same (length packets) most few)

limited_broken : LimitedIsRead → (most offset code : ℕ) (packets : List Packet) (seen rest : Seen) → length packets < most → seen ≡ with_front packets rest → rest ≡ broken_end offset code
    → limited most seen ≡ record { packets = packets; end = Broken offset code }
limited_broken so most offset code packets seen rest few all ends =
    ap (limited most) all ∙ (so packets rest most).below few (ap (λ (s : Seen). s.packets) ends) ∙ ap (λ (s : Seen). record { packets = packets; end = s.end }) ends

limited_reached : LimitedIsRead → (most : ℕ) (packets : List Packet) (seen rest : Seen) → length packets ≡ most → seen ≡ with_front packets rest → (rest ≡ whole_end → ⊥)
    → limited most seen ≡ record { packets = packets; end = Limit }
limited_reached so most packets seen rest full all more = ap (limited most) all ∙ (so packets rest most).at_limit full more

-- what holds of the text of these packets holds of that of those that are seen
outcome : (T : (Role → List ℕ) → Type 0) (text : List Packet → Role → List ℕ) (s : Seen) (packets : List Packet) (end : End) → s ≡ record { packets = packets; end = end } → T (text packets)
    → (s.end ≡ end) × T (text s.packets)
outcome T text s packets end e t = (ap (λ (s : Seen). s.end) e, subst (λ (l : List Packet). T (text l)) (sym (ap (λ (s : Seen). s.packets) e)) t)

module _ (front : SerialFront) (db : model.Database) (lines : ℕ → List ℕ) (sinks : Sinks) (most : ℕ) where
  abbrev Are : Outputs → Outputs → Status → Reader → Inputs → Inputs → Type 0
  Are old new status reader before after = OutputsAre db lines most (TookEach sinks old new) (λ role. TookParts role sinks old new) (TookFronts sinks old new) status reader before after

  -- reading, decoding or writing gave up
  pub open_output : (why : Status) (a b : Standing) → Ends db lines sinks most (Err why) a b → Are a.outputs b.outputs why a.reader a.inputs b.inputs
  open_output Done a b ends = absurd ends.took
  open_output (Words index code) a b ends = absurd ends.took
  open_output (Open role) a b ends = absurd ends.took
  open_output (Read Db) a b ends = absurd ends.took
  open_output (Read Cap) a b ends = record { given = ends.given; gave = ends.gave; text = subst (λ (ps : List Packet). TookEach sinks a.outputs b.outputs (open_texts db lines ps)) (sym ends.cut) ends.took }
  open_output (Read Pdml) a b ends = absurd ends.took
  open_output (Read Psml) a b ends = absurd ends.took
  open_output (Read Trace) a b ends = absurd ends.took
  open_output (Read Out) a b ends = absurd ends.took
  open_output (Write role) a b ends =
      told_map (left a.reader a.inputs) _ (λ seen. TookParts role sinks a.outputs b.outputs (whole_texts db lines (take most seen.packets))) (λ seen is.
      let whole = whole_of front db lines most ends.packets seen is.0 ends.few is.1 in
      parts_then sinks role a.outputs a.outputs b.outputs no_texts (open_texts db lines ends.packets) whole.0 (whole_texts db lines (take most seen.packets)) (each_none sinks a.outputs) ends.took whole.1) ends.sees
  open_output (Database line code) a b ends = absurd ends.took
  open_output (Capture offset code) a b ends = absurd ends.took
  open_output (PacketLimit max) a b ends = absurd ends.took
  open_output NoMemory a b ends =
      told_map (left a.reader a.inputs) _ (λ seen. TookFronts sinks a.outputs b.outputs (whole_texts db lines (take most seen.packets))) (λ seen is.
      let whole = whole_of front db lines most ends.packets seen is.0 ends.few is.1 in
      fronts_then sinks a.outputs a.outputs b.outputs no_texts (open_texts db lines ends.packets) whole.0 (whole_texts db lines (take most seen.packets)) (each_none sinks a.outputs) ends.took whole.1) ends.sees
  open_output (Unbuilt which) a b ends = absurd ends.took

  -- the closings were written
  whole_took : (a b : Standing) (outputs : Outputs) (packets : List Packet) → TookEach sinks a.outputs b.outputs (open_texts db lines packets) → TookEach sinks b.outputs outputs closing → TookEach sinks a.outputs outputs (whole_texts db lines packets)
  whole_took a b outputs packets p q =
      each_alike sinks a.outputs outputs (λ role. open_texts db lines packets role ++ closing role) (whole_texts db lines packets)
      (λ role. told_all (sink_of sinks role) (λ sink. open_texts db lines packets role ++ closing role ≡ whole_texts db lines packets role) (λ sink. sym (whole_text-is role db lines packets)))
      (each_then sinks a.outputs b.outputs outputs (open_texts db lines packets) closing p q)

  pub closed_output : LimitedIsRead → (status : Status) (a b : Standing) (outputs : Outputs) → Ends db lines sinks most (Ok status) a b → TookEach sinks b.outputs outputs closing → Are a.outputs outputs status a.reader a.inputs b.inputs
  closed_output so Done a b outputs ends took =
      told_map (left a.reader a.inputs) _ (λ seen. (((limited most seen).end ≡ Whole) × TookEach sinks a.outputs outputs (whole_texts db lines (take most seen.packets)))) (λ seen is.
      outcome (TookEach sinks a.outputs outputs) (whole_texts db lines) (limited most seen) ends.packets Whole
      (limited_done so most ends.packets seen is.0 ends.few is.1 is.2) (whole_took a b outputs ends.packets ends.took.1 took)) ends.sees
  closed_output so (Capture offset code) a b outputs ends took =
      told_map (left a.reader a.inputs) _ (λ seen. (((limited most seen).end ≡ Broken offset code) × TookEach sinks a.outputs outputs (whole_texts db lines (take most seen.packets)))) (λ seen is.
      outcome (TookEach sinks a.outputs outputs) (whole_texts db lines) (limited most seen) ends.packets (Broken offset code)
      (limited_broken so most offset code ends.packets seen is.0 is.2.1 is.1 is.2.0) (whole_took a b outputs ends.packets ends.took.1 took)) ends.sees
  closed_output so (PacketLimit max) a b outputs ends took =
      told_map (left a.reader a.inputs) _ (λ seen. (max ≡ most) × ((limited most seen).end ≡ Limit) × TookEach sinks a.outputs outputs (whole_texts db lines (take most seen.packets))) (λ seen is.
      let is_so = outcome (TookEach sinks a.outputs outputs) (whole_texts db lines) (limited most seen) ends.packets Limit
      (limited_reached so most ends.packets seen is.0 is.2.1 is.1 is.2.0) (whole_took a b outputs ends.packets ends.took.1 took) in
      (is.2.2, is_so.0, is_so.1)) ends.sees
  closed_output so status a b outputs ends took = absurd ends.took.0

  -- the packets are all that are read where the outputs are closed
  all_closed : (status : Status) (a b : Standing) (ends : Ends db lines sinks most (Ok status) a b) (seen : Seen) → (rest : Seen) × (seen ≡ with_front ends.packets rest) × LeftIs db lines sinks most (Ok status) (length ends.packets) rest → take most seen.packets ≡ ends.packets
  all_closed Done a b ends seen is = all_of most ends.packets seen is.0 ends.few is.1 (ap (λ (s : Seen). s.packets) is.2)
  all_closed (Capture offset code) a b ends seen is = all_of most ends.packets seen is.0 ends.few is.1 (ap (λ (s : Seen). s.packets) is.2.0)
  all_closed (PacketLimit max) a b ends seen is = all_reached most ends.packets seen is.0 is.2.1 is.1
  all_closed (Words index code) a b ends seen is = absurd ends.took.0
  all_closed (Open role) a b ends seen is = absurd ends.took.0
  all_closed (Read role) a b ends seen is = absurd ends.took.0
  all_closed (Write role) a b ends seen is = absurd ends.took.0
  all_closed (Database line code) a b ends seen is = absurd ends.took.0
  all_closed NoMemory a b ends seen is = absurd ends.took.0
  all_closed (Unbuilt which) a b ends seen is = absurd ends.took.0

  -- the whole text is the openings and these packets, and then the closings
  closes_with : (packets taken : List Packet) → taken ≡ packets → (role : Role) → whole_texts db lines taken role ≡ open_texts db lines packets role ++ (closing role ++ [])
  closes_with packets taken same role =
      ap (λ (l : List Packet). whole_texts db lines l role) same ∙ whole_text-is role db lines packets ∙ ap (λ (l : List ℕ). open_texts db lines packets role ++ l) (sym (append-nil (closing role)))

  -- writing the closings gave up
  pub unclosed_output : (status why : Status) (a b : Standing) (outputs : Outputs) → Ends db lines sinks most (Ok status) a b → FailsTexts why sinks b.outputs outputs closing → Are a.outputs outputs why a.reader a.inputs b.inputs
  unclosed_output status Done a b outputs ends fails = absurd fails
  unclosed_output status (Words index code) a b outputs ends fails = absurd fails
  unclosed_output status (Open role) a b outputs ends fails = absurd fails
  unclosed_output status (Read role) a b outputs ends fails = absurd fails
  unclosed_output status (Write role) a b outputs ends fails =
      told_map (left a.reader a.inputs) _ (λ seen. TookParts role sinks a.outputs outputs (whole_texts db lines (take most seen.packets))) (λ seen is.
      parts_then sinks role a.outputs b.outputs outputs (open_texts db lines ends.packets) closing no_texts (whole_texts db lines (take most seen.packets)) ends.took.1 fails
      (closes_with ends.packets (take most seen.packets) (all_closed status a b ends seen is))) ends.sees
  unclosed_output status (Database line code) a b outputs ends fails = absurd fails
  unclosed_output status (Capture offset code) a b outputs ends fails = absurd fails
  unclosed_output status (PacketLimit max) a b outputs ends fails = absurd fails
  unclosed_output status NoMemory a b outputs ends fails =
      told_map (left a.reader a.inputs) _ (λ seen. TookFronts sinks a.outputs outputs (whole_texts db lines (take most seen.packets))) (λ seen is.
      fronts_then sinks a.outputs b.outputs outputs (open_texts db lines ends.packets) closing no_texts (whole_texts db lines (take most seen.packets)) ends.took.1 fails
      (closes_with ends.packets (take most seen.packets) (all_closed status a b ends seen is))) ends.sees
  unclosed_output status (Unbuilt which) a b outputs ends fails = absurd fails

-- ---- no output is opened while they are written

opened_fails : (sinks : Sinks) (status : Status) (s t : Outputs) (text : Role → List ℕ) → FailsTexts status sinks s t text → t.opened ≡ s.opened
opened_fails sinks Done s t text fails = absurd fails
opened_fails sinks (Words index code) s t text fails = absurd fails
opened_fails sinks (Open role) s t text fails = absurd fails
opened_fails sinks (Read role) s t text fails = absurd fails
opened_fails sinks (Write role) s t text fails = fails.fronts.took.opened
opened_fails sinks (Database line code) s t text fails = absurd fails
opened_fails sinks (Capture offset code) s t text fails = absurd fails
opened_fails sinks (PacketLimit max) s t text fails = absurd fails
opened_fails sinks NoMemory s t text fails = fails.took.opened
opened_fails sinks (Unbuilt which) s t text fails = absurd fails

pub opened_takes : {A : Type 0} (sinks : Sinks) (result : Result A Status) (s t : Outputs) (text : Role → List ℕ) → TakesTexts result sinks s t text → t.opened ≡ s.opened
opened_takes sinks (Ok done) s t text takes = takes.opened
opened_takes sinks (Err status) s t text takes = opened_fails sinks status s t text takes

pub opened_ends : (db : model.Database) (lines : ℕ → List ℕ) (sinks : Sinks) (most : ℕ) (result : Result Status Status) (a b : Standing) → Ends db lines sinks most result a b → b.outputs.opened ≡ a.outputs.opened
opened_ends db lines sinks most (Ok status) a b ends = ends.took.1.opened
opened_ends db lines sinks most (Err Done) a b ends = absurd ends.took
opened_ends db lines sinks most (Err (Words index code)) a b ends = absurd ends.took
opened_ends db lines sinks most (Err (Open role)) a b ends = absurd ends.took
opened_ends db lines sinks most (Err (Read Db)) a b ends = absurd ends.took
opened_ends db lines sinks most (Err (Read Cap)) a b ends = ends.took.opened
opened_ends db lines sinks most (Err (Read Pdml)) a b ends = absurd ends.took
opened_ends db lines sinks most (Err (Read Psml)) a b ends = absurd ends.took
opened_ends db lines sinks most (Err (Read Trace)) a b ends = absurd ends.took
opened_ends db lines sinks most (Err (Read Out)) a b ends = absurd ends.took
opened_ends db lines sinks most (Err (Write role)) a b ends = ends.took.fronts.took.opened
opened_ends db lines sinks most (Err (Database line code)) a b ends = absurd ends.took
opened_ends db lines sinks most (Err (Capture offset code)) a b ends = absurd ends.took
opened_ends db lines sinks most (Err (PacketLimit max)) a b ends = absurd ends.took
opened_ends db lines sinks most (Err NoMemory) a b ends = ends.took.took.opened
opened_ends db lines sinks most (Err (Unbuilt which)) a b ends = absurd ends.took

-- ---- the outputs of names

-- what is said of the texts is said in other words
module _ (db : model.Database) (lines : ℕ → List ℕ) (most : ℕ) (T : (Role → List ℕ) → Type 0) (P : Role → (Role → List ℕ) → Type 0) (F T' : (Role → List ℕ) → Type 0) (P' : Role → (Role → List ℕ) → Type 0) (F' : (Role → List ℕ) → Type 0)
    (t : (text : Role → List ℕ) → T text → T' text) (p : (role : Role) (text : Role → List ℕ) → P role text → P' role text) (f : (text : Role → List ℕ) → F text → F' text) where
  outcome_map : (status : Status) (seen : Seen) → OutcomeIs db lines most T P F status seen → OutcomeIs db lines most T' P' F' status seen
  outcome_map Done seen is = (is.0, t _ is.1)
  outcome_map (Capture offset code) seen is = (is.0, t _ is.1)
  outcome_map (PacketLimit max) seen is = (is.0, is.1, t _ is.2)
  outcome_map (Write role) seen is = p role _ is
  outcome_map NoMemory seen is = f _ is
  outcome_map status seen is = absurd is

  ends_map : (status : Status) (left : Option Seen) → EndsWith db lines most T P F status left → EndsWith db lines most T' P' F' status left
  ends_map status None is = tt
  ends_map status (Some seen) is = outcome_map status (limited most seen) is

  outputs_map : (status : Status) (reader : Reader) (before after : Inputs) → OutputsAre db lines most T P F status reader before after → OutputsAre db lines most T' P' F' status reader before after
  outputs_map Done reader before after is = ends_map Done (left reader before) is
  outputs_map (Capture offset code) reader before after is = ends_map (Capture offset code) (left reader before) is
  outputs_map (PacketLimit max) reader before after is = ends_map (PacketLimit max) (left reader before) is
  outputs_map (Read Cap) reader before after is = record { given = is.given; gave = is.gave; text = t _ is.text }
  outputs_map (Write role) reader before after is = ends_map (Write role) (left reader before) is
  outputs_map NoMemory reader before after is = ends_map NoMemory (left reader before) is
  outputs_map status reader before after is = absurd is

-- the same of the named outputs, whatever the status
named_is : (db : model.Database) (lines : ℕ → List ℕ) (most : ℕ) (files : OutputFiles) (r t : Outputs) (status : Status) (reader : Reader) (before after : Inputs)
    → OutputsAre db lines most (WroteEach files r t) (λ role. WrotePart role files r t) (WroteFronts files r t) status reader before after → NamedAre db lines most files status reader before after r t
named_is db lines most files r t Done reader before after is = is
named_is db lines most files r t (Words index code) reader before after is = is
named_is db lines most files r t (Open role) reader before after is = absurd is
named_is db lines most files r t (Read role) reader before after is = is
named_is db lines most files r t (Write role) reader before after is = is
named_is db lines most files r t (Database line code) reader before after is = is
named_is db lines most files r t (Capture offset code) reader before after is = is
named_is db lines most files r t (PacketLimit max) reader before after is = is
named_is db lines most files r t NoMemory reader before after is = inr is
named_is db lines most files r t (Unbuilt which) reader before after is = is

pub named_outputs : (db : model.Database) (lines : ℕ → List ℕ) (most : ℕ) (files : OutputFiles) (sinks : Sinks) (r s t : Outputs) (status : Status) (reader : Reader) (before after : Inputs) → BegunEach sinks files r s no_texts
    → OutputsAre db lines most (TookEach sinks s t) (λ role. TookParts role sinks s t) (TookFronts sinks s t) status reader before after → NamedAre db lines most files status reader before after r t
named_outputs db lines most files sinks r s t status reader before after begun is =
    named_is db lines most files r t status reader before after
    (outputs_map db lines most (TookEach sinks s t) (λ role. TookParts role sinks s t) (TookFronts sinks s t) (WroteEach files r t) (λ role. WrotePart role files r t) (WroteFronts files r t)
    (λ text took. wrote_each sinks files r s begun t text took)
    (λ role text took. wrote_part sinks files r s begun t role text took)
    (λ text took. wrote_fronts sinks files r s begun t text took)
    status reader before after is)
