-- How packets that are read one after another make up a window, and windows a capture.
use Rattle.std.proofs.Common.{◌≡◌, ◌<◌, ◌≤◌, ◌+◌, ◌-◌, ◌^◌, ℕ, suc, Bool, true, false, ltb, List, [], ◌∷◌, ◌++◌, length, take, Option, Some, None, Result, Ok, Err, refl, sym, ap, ◌∙◌, subst, IfSome, min, append_assoc, append-nil, length-append, arith}
use Rattle.std.proofs.lemmas.Bool.Decides.{nat_tests}
use Rattle.std.proofs.lemmas.List.{take-append-le, take_at}
use Rattle.std.proofs.lemmas.List.Elements.{All-append, All-cons, All-nil}
use Rattle.std.proofs.lemmas.List.Sums.{sum_by_push}
use Rattle.db_model.specs.declared.limits.TheConstants.{STAMP_END}
use Rattle.db_model.specs.declared.packet.Packet.{Packet}
use Rattle.npd_host.specs.declared.host.CallKind.{CallKind}
use Rattle.npd_host.specs.Host.{Gave, NoneFalls}
use Rattle.npd_host.proofs.Transfers.{gave_none, gave_then}
use Rattle.pcap_in.specs.declared.form.Form.{Form}
use Rattle.pcap_in.specs.declared.state.State.{State}
use Rattle.pcap_in.specs.declared.state.State.TheVariants as state
use Rattle.pcap_in.specs.Capture.{Seen, whole_end, with_front, One, record_at, record_size, records_size, records}
use Rattle.pcap_in.specs.Laws.{RecordIsFront, RecordIsNumbered, PartHasNone}
use Rattle.pcap_in.specs.Reader.{Reader, is_usable, is_reading, left, moved_by}
use Rattle.pcap_in.specs.Reading.{OnlyRead, record_length}
use Rattle.pipeline.specs.declared.reading.Noted.{Noted}
use Rattle.pipeline.specs.declared.reading.Noted.TheVariants.{Full, Closes, Fails}
use Rattle.pipeline.specs.declared.reading.Room.{Room}
use Rattle.pipeline.specs.declared.status.Role.TheVariants.{Cap}
use Rattle.pipeline.specs.declared.status.Status.{Status}
use Rattle.pipeline.specs.declared.status.Status.TheVariants.{Done, Read, Capture, PacketLimit, NoMemory}
use Rattle.pipeline.specs.CaptureRead.{ClosesWith, IsCaptureEnd, FollowingTakes, LimitIs, LimitTakes}
use Rattle.pipeline.specs.Causes.{HasCause, HasNotedCause, reads_capture}
use Rattle.pipeline.specs.Taken.{GaveSome}
use Rattle.pipeline.specs.Window.{Place, captured_bytes, window_bytes, given_up, IsLight, AreNumbered, IsReadTo, Reads, IsCutShort, NotedIs, ReadsWindow, ReadsOne, NotesLimit}
use Rattle.pipeline.proofs.Causes.{cause_later}
use Rattle.pipeline.proofs.Told.{told_map}

-- ---- lists of packets

-- packets in front of packets
pub with_front-then : (xs ys : List Packet) (s : Seen) → with_front xs (with_front ys s) ≡ with_front (xs ++ ys) s
with_front-then xs ys s = rw append_assoc refl

records_size-append : (xs ys : List Packet) → records_size (xs ++ ys) ≡ records_size xs + records_size ys
records_size-append [] ys = omega arith
records_size-append (x ∷ xs) ys = let h = records_size-append xs ys in omega arith

AreNumbered-append : (number : ℕ) (xs ys : List Packet) → AreNumbered number xs → AreNumbered (number + length xs) ys → AreNumbered number (xs ++ ys)
AreNumbered-append number [] ys p q = let P : ℕ → Type 0 = λ n. AreNumbered n ys in subst P (let e : number + 0 ≡ number = omega arith in e) q
AreNumbered-append number (x ∷ xs) ys p q =
    let P : ℕ → Type 0 = λ n. AreNumbered n ys in
    (p.0, AreNumbered-append (number + 1) xs ys p.1 (subst P (let e : number + suc (length xs) ≡ (number + 1) + length xs = omega arith in e) q))

-- a packet behind a window that isn't full
pub light_more : (packets : List Packet) (packet : Packet) → IsLight packets → captured_bytes packets < window_bytes → IsLight (packets ++ packet ∷ [])
light_more packets packet light few k within = by_test (ltb k (length packets)) refl
  where
    by_test : (test : Bool) → ltb k (length packets) ≡ test → captured_bytes (take k (packets ++ packet ∷ [])) < window_bytes
    by_test true is =
        let below : k < length packets = grind (arith, nat_tests) in
        let same : take k (packets ++ packet ∷ []) ≡ take k packets = take-append-le k packets (packet ∷ []) (omega arith) in
        subst (λ (l : List Packet). captured_bytes l < window_bytes) (sym same) (light k below)
    by_test false is =
        let both = length-append packets (packet ∷ []) in
        let all : k ≡ length packets = grind (arith, nat_tests) in
        let same : take k (packets ++ packet ∷ []) ≡ packets = take_at packets (packet ∷ []) k (sym all) in
        subst (λ (l : List Packet). captured_bytes l < window_bytes) (sym same) few

pub light_none : IsLight []
light_none k within = absurd (omega arith)

pub captured_more : (packets : List Packet) (packet : Packet) → captured_bytes (packets ++ packet ∷ []) ≡ captured_bytes packets + length packet.bytes
captured_more packets packet = sum_by_push (λ (p : Packet). length p.bytes) packets packet

-- ---- readers

-- a reader that is reading is usable
pub usable_reading : (s : State) → is_reading s ≡ true → is_usable s ≡ true
usable_reading state.Reading e = refl
usable_reading (state.Broken offset code) e = refl
usable_reading state.Unusable e = absurd (cc)

-- ---- packets that were read

-- none
pub reads_none : (a : Place) → Reads [] a a
reads_none a = record {
  bytes = [];
  gave = gave_none a.reader.id.0 a.inputs;
  front = λ offset more.
      ap (λ (l : List ℕ). records a.reader.form a.reader.number offset (l ++ more)) (append-nil a.reader.kept)
      ∙ ap (λ (o : ℕ). records a.reader.form a.reader.number o (a.reader.kept ++ more)) (let e : offset ≡ offset + 0 = omega arith in e);
  id = refl;
  form = refl;
  number = omega arith;
  reading = λ h. h;
  sees = read_none (left a.reader a.inputs);
  numbered = tt;
  stamped = All-nil (λ (packet : Packet). packet.stamp < STAMP_END);
}
  where
    read_none : (now : Option Seen) → IfSome now (IsReadTo [] now)
    read_none None = tt
    read_none (Some seen) = record { rest = seen; left_is = refl; all = refl }

-- one, by what reading it says
pub reads_one : RecordIsFront → RecordIsNumbered → (packet : Packet) (a b : Place)
    → OnlyRead a.reader.id.0 a.inputs b.inputs (λ bytes. record_at a.reader.form a.reader.number (a.reader.kept ++ bytes) ≡ One packet b.reader.kept)
    → b.reader ≡ record (moved_by packet a.reader) { kept = b.reader.kept; state = state.Reading }
    → IfSome (left a.reader a.inputs) (λ seen. (rest : Seen) × (left b.reader b.inputs ≡ Some rest) × (seen ≡ with_front (packet ∷ []) rest))
    → packet.stamp < STAMP_END → a.reader.number + 1 < 2 ^ 64 → Reads (packet ∷ []) a b
reads_one front numbered packet a b read moved sees stamp fits =
    let number_is : b.reader.number ≡ a.reader.number + 1 = next_number b.reader.number a.reader.number (ap (λ (r : Reader). r.number) moved) fits in
    let state_is : b.reader.state ≡ state.Reading = ap (λ (r : Reader). r.state) moved in
    record {
      bytes = read.bytes;
      gave = read.gave;
      front = λ offset more.
          front a.reader.form a.reader.number offset (a.reader.kept ++ read.bytes) b.reader.kept more packet read.taken
          ∙ ap (λ (n : ℕ). with_front (packet ∷ []) (records a.reader.form n (offset + record_size packet) (b.reader.kept ++ more))) (sym number_is)
          ∙ ap (λ (o : ℕ). with_front (packet ∷ []) (records a.reader.form b.reader.number o (b.reader.kept ++ more))) (let e : offset + record_size packet ≡ offset + (record_size packet + 0) = omega arith in e);
      id = ap (λ (r : Reader). r.id) moved;
      form = ap (λ (r : Reader). r.form) moved;
      number = number_is;
      reading = λ h. ap is_reading state_is;
      sees = told_map (left a.reader a.inputs) (λ seen. (rest : Seen) × (left b.reader b.inputs ≡ Some rest) × (seen ≡ with_front (packet ∷ []) rest)) (IsReadTo (packet ∷ []) (left b.reader b.inputs))
          (λ seen is. record { rest = is.0; left_is = is.1; all = is.2 }) sees;
      numbered = (numbered a.reader.form a.reader.number (a.reader.kept ++ read.bytes) b.reader.kept packet read.taken, tt);
      stamped = All-cons (λ (packet : Packet). packet.stamp < STAMP_END) packet [] stamp (All-nil (λ (packet : Packet). packet.stamp < STAMP_END));
    }
  where
    next_number : (new old : ℕ) → new ≡ min (old + 1) (2 ^ 64 - 1) → old + 1 < 2 ^ 64 → new ≡ old + 1
    next_number new old e fits = grind arith

-- what is seen behind packets, and then behind more
sees_then : (before : Option Seen) (ps qs : List Packet) (mid now : Option Seen) → IfSome before (IsReadTo ps mid) → IfSome mid (IsReadTo qs now) → IfSome before (IsReadTo (ps ++ qs) now)
sees_then before ps qs mid now first more =
    told_map before (IsReadTo ps mid) (IsReadTo (ps ++ qs) now) (λ seen is.
    let Q : Option Seen → Type 0 = λ o. IfSome o (IsReadTo qs now) in
    let then = subst Q is.left_is more in
    record { rest = then.rest; left_is = then.left_is; all = is.all ∙ ap (with_front ps) then.all ∙ with_front-then ps qs then.rest }) first

-- some, and then more
pub reads_then : (ps qs : List Packet) (a b c : Place) → Reads ps a b → Reads qs b c → Reads (ps ++ qs) a c
reads_then ps qs a b c p q =
    record {
      bytes = p.bytes ++ q.bytes;
      gave = gave_then a.reader.id.0 a.inputs b.inputs c.inputs p.bytes q.bytes p.gave (rw p.id at q.gave);
      front = front;
      id = q.id ∙ p.id;
      form = q.form ∙ p.form;
      number = (let x = p.number in let y = q.number in let l = length-append ps qs in omega arith);
      reading = λ h. q.reading (p.reading h);
      sees = sees_then (left a.reader a.inputs) ps qs (left b.reader b.inputs) (left c.reader c.inputs) p.sees q.sees;
      numbered = AreNumbered-append a.reader.number ps qs p.numbered (let P : ℕ → Type 0 = λ n. AreNumbered n qs in subst P p.number q.numbered);
      stamped = All-append (λ (packet : Packet). packet.stamp < STAMP_END) ps qs p.stamped q.stamped;
    }
  where
    regroup : (kept xs ys more : List ℕ) → (kept ++ (xs ++ ys)) ++ more ≡ (kept ++ xs) ++ (ys ++ more)
    regroup kept xs ys more = simp append_assoc

    front : (offset : ℕ) (more : List ℕ) → records a.reader.form a.reader.number offset ((a.reader.kept ++ (p.bytes ++ q.bytes)) ++ more)
        ≡ with_front (ps ++ qs) (records a.reader.form c.reader.number (offset + records_size (ps ++ qs)) (c.reader.kept ++ more))
    front offset more =
        let at = offset + records_size ps in
        ap (records a.reader.form a.reader.number offset) (regroup a.reader.kept p.bytes q.bytes more)
        ∙ p.front offset (q.bytes ++ more)
        ∙ ap (λ (l : List ℕ). with_front ps (records a.reader.form b.reader.number at l)) (sym (append_assoc b.reader.kept q.bytes more))
        ∙ ap (λ (f : Form). with_front ps (records f b.reader.number at ((b.reader.kept ++ q.bytes) ++ more))) (sym p.form)
        ∙ ap (with_front ps) (q.front at more)
        ∙ with_front-then ps qs (records b.reader.form c.reader.number (at + records_size qs) (c.reader.kept ++ more))
        ∙ ap (λ (f : Form). with_front (ps ++ qs) (records f c.reader.number (at + records_size qs) (c.reader.kept ++ more))) p.form
        ∙ ap (λ (o : ℕ). with_front (ps ++ qs) (records a.reader.form c.reader.number o (c.reader.kept ++ more))) (let h = records_size-append ps qs in let e : at + records_size qs ≡ offset + records_size (ps ++ qs) = omega arith in e)

-- ---- what was given

-- the packets in the bytes that were given, where reading gave up behind these
pub record GivesPackets (packets : List Packet) (a b : Place) : Type 0 where
  pub given : List ℕ
  pub gave : Gave a.reader.id.0 a.inputs b.inputs given
  pub packets_are : (offset : ℕ) → (records a.reader.form a.reader.number offset (a.reader.kept ++ given)).packets ≡ packets

pub cut_short : PartHasNone → (packets : List Packet) (a b c : Place) → Reads packets a b → IsCutShort b c → GivesPackets packets a c
cut_short none packets a b c reads cut = record {
  given = reads.bytes ++ cut.bytes;
  gave = gave_then a.reader.id.0 a.inputs b.inputs c.inputs reads.bytes cut.bytes reads.gave (rw reads.id at cut.gave);
  packets_are = λ offset.
      let at = offset + records_size packets in
      let all = b.reader.kept ++ cut.bytes in
      let short : length all < record_length a.reader.form all = subst (λ (f : Form). length all < record_length f all) reads.form cut.short in
      ap (λ (l : List ℕ). (records a.reader.form a.reader.number offset l).packets) (sym (append_assoc a.reader.kept reads.bytes cut.bytes))
      ∙ ap (λ (s : Seen). s.packets) (reads.front offset cut.bytes)
      ∙ ap (λ (l : List Packet). packets ++ l) (none a.reader.form b.reader.number at all short)
      ∙ append-nil packets;
}

-- ---- the steps of a window

-- where reading gave up, by what its cause allows
pub gave_up : (name : Option (List ℕ)) (before now : CallKind → List ℕ → ℕ) (status : Status) (noted : Noted) → given_up status ≡ Ok noted → HasCause (reads_capture name) before now status → (status ≡ Read Cap) × (noted ≡ Fails (Read Cap))
gave_up name before now (Read Cap) noted e cause = (refl, (cc))
gave_up name before now NoMemory noted e cause = absurd (cc)
gave_up name before now status noted e cause = absurd cause

pub gave_up_memory : (status why : Status) → given_up status ≡ Err why → (status ≡ NoMemory) × (why ≡ NoMemory)
gave_up_memory NoMemory why e = (refl, (cc))
gave_up_memory status why e = absurd (cc)

some_given : (a b : Place) (What : List ℕ → Type 0) → OnlyRead a.reader.id.0 a.inputs b.inputs What → GaveSome a.reader.id.0 a.inputs b.inputs
some_given a b What read = record { bytes = read.bytes; gave = read.gave }

-- the capture ended
pub read_end : (status : Status) (old new : List Packet) (a b : Place) → new ≡ old → OnlyRead a.reader.id.0 a.inputs b.inputs (λ bytes. IsCaptureEnd status) → IfSome (left a.reader a.inputs) (ClosesWith status) → ReadsOne (Ok (Some (Closes status))) old new a b
read_end Done old new a b same read ends = (same, tt, record { gave = some_given a b _ read; ends = ends })
read_end (Capture offset code) old new a b same read ends = (same, tt, record { gave = some_given a b _ read; ends = ends })
read_end status old new a b same read ends = absurd read.taken

-- reading gave up
pub read_failed : (status : Status) (noted : Noted) (old new : List Packet) (a b : Place) → (status ≡ Read Cap) × (noted ≡ Fails (Read Cap)) → new ≡ old
    → OnlyRead a.reader.id.0 a.inputs b.inputs (λ bytes. FollowingTakes (Err status) a.reader.form a.reader.number (a.reader.kept ++ bytes) b.reader.kept) → ReadsOne (Ok (Some noted)) old new a b
read_failed status noted old new a b is same read =
    let P : Status → List ℕ → Type 0 = λ s bytes. FollowingTakes (Err s) a.reader.form a.reader.number (a.reader.kept ++ bytes) b.reader.kept in
    let Q : Noted → Type 0 = λ n. ReadsOne (Ok (Some n)) old new a b in
    subst Q (sym is.1) (same, record { bytes = read.bytes; gave = read.gave; short = subst (λ (s : Status). P s read.bytes) is.0 read.taken })

pub read_refused : (why : Status) (old new : List Packet) (a b : Place) → why ≡ NoMemory → new ≡ old → GaveSome a.reader.id.0 a.inputs b.inputs → ReadsOne (Err why) old new a b
read_refused why old new a b is same gave = let Q : Status → Type 0 = λ s. ReadsOne (Err s) old new a b in subst Q (sym is) (same, gave)

-- the limit was reached
abbrev pub noted_limit : Result Status Status → Result Noted Status
noted_limit (Ok status) = Ok (Closes status)
noted_limit (Err status) = given_up status

none_short : (form : Form) → length {A = ℕ} [] < record_length form []
none_short form = omega arith

pub limit_notes : (most : ℕ) (result : Result Status Status) (a b : Place) → OnlyRead a.reader.id.0 a.inputs b.inputs (λ bytes. LimitTakes most result (a.reader.kept ++ bytes)) → IfSome (left a.reader a.inputs) (LimitIs most result) → NotesLimit most (noted_limit result) a b
limit_notes most (Ok Done) a b read is = record { gave = some_given a b _ read; ends = is }
limit_notes most (Ok (PacketLimit max)) a b read is =
    (read.taken, record { gave = some_given a b _ read; ends = told_map (left a.reader a.inputs) (λ rest. (rest ≡ whole_end → ⊥) × (max ≡ most)) (λ rest. rest ≡ whole_end → ⊥) (λ rest more. more.0) is })
limit_notes most (Ok status) a b read is = absurd read.taken
limit_notes most (Err (Read Cap)) a b read is = record { bytes = read.bytes; gave = read.gave; short = rw read.taken (none_short a.reader.form) }
limit_notes most (Err NoMemory) a b read is = some_given a b _ read
limit_notes most (Err status) a b read is = absurd read.taken

-- ---- the end of a window

-- before the reading that ended it, these packets were read
module _ (room : Room) (packets : List Packet) (a m b : Place) (reads : Reads packets a m) (light : IsLight packets) (few : length packets ≤ min room.window room.left) where
  pub window_ends : (result : Result Noted Status) → NotedIs room result packets m b → ReadsWindow room result packets a b
  window_ends result noted = record { between = m; reads = reads; noted = noted; few = few; light = light }

  pub window_noted : (noted : Noted) (new : List Packet) → length packets < min room.window room.left → ReadsOne (Ok (Some noted)) packets new m b → ReadsWindow room (Ok noted) new a b
  window_noted (Closes Done) new fits is = rw is.0 (window_ends (Ok (Closes Done)) (tt, is.2))
  window_noted (Closes (Capture offset code)) new fits is = rw is.0 (window_ends (Ok (Closes (Capture offset code))) (omega arith, is.2))
  window_noted (Closes status) new fits is = absurd is.1
  window_noted (Fails (Read Cap)) new fits is = rw is.0 (window_ends (Ok (Fails (Read Cap))) is.1)
  window_noted noted new fits is = absurd is

  pub window_refused : (why : Status) (new : List Packet) → ReadsOne (Err why) packets new m b → ReadsWindow room (Err why) new a b
  window_refused NoMemory new is = rw is.0 (window_ends (Err NoMemory) is.1)
  window_refused why new is = absurd is

  pub window_limited : (result : Result Noted Status) → length packets ≡ room.left → NotesLimit room.most result m b → ReadsWindow room result packets a b
  window_limited (Ok (Closes Done)) all is = window_ends (Ok (Closes Done)) (tt, is)
  window_limited (Ok (Closes (PacketLimit max))) all is = window_ends (Ok (Closes (PacketLimit max))) ((all, is.0), is.1)
  window_limited (Ok (Fails (Read Cap))) all is = window_ends (Ok (Fails (Read Cap))) is
  window_limited (Err NoMemory) all is = window_ends (Err NoMemory) is
  window_limited (Ok noted) all is = absurd is
  window_limited (Err why) all is = absurd is

-- one packet more, in a window that isn't full
pub one_more : (packets new : List Packet) (a m b : Place) → Reads packets a m → IsLight packets → captured_bytes packets < window_bytes → ReadsOne (Ok None) packets new m b
    → Reads new a b × IsLight new × (length new ≡ length packets + 1)
one_more packets new a m b reads light room is =
    let packet = is.0 in
    rw is.1 (reads_then packets (packet ∷ []) a m b reads is.2, light_more packets packet light room, length-append packets (packet ∷ []))

-- ---- causes

-- a count that rose has risen since any earlier moment
pub noted_later : (noted : Noted) (name here : Option (List ℕ)) (before mid now : CallKind → List ℕ → ℕ) → here ≡ name → NoneFalls before mid → HasNotedCause here mid now noted → HasNotedCause name before now noted
noted_later Full name here before mid now same later cause = tt
noted_later (Closes status) name here before mid now same later cause = tt
noted_later (Fails status) name here before mid now same later cause =
    let P : Option (List ℕ) → Type 0 = λ n. HasCause (reads_capture n) mid now status in
    cause_later (reads_capture name) before mid now status later (subst P same cause)

-- nothing was noted
pub reads_on : (noted : Option Noted) (old new : List Packet) (a b : Place) → ((why : Noted) → noted ≡ Some why → ⊥) → ReadsOne (Ok noted) old new a b → ReadsOne (Ok None) old new a b
reads_on None old new a b going is = is
reads_on (Some why) old new a b going is = absurd (going why refl)
