-- How windows, in each of which packets were read, decoded and written, make up the whole.
use Rattle.std.proofs.Common.{◌≡◌, ◌<◌, ◌≤◌, ◌+◌, ℕ, List, [], ◌++◌, length, Option, Some, None, Result, Ok, Err, refl, sym, ap, ◌∙◌, subst, IfSome, min, append-nil, length-append, arith}
use Rattle.db_model.specs.declared.database.Database as model
use Rattle.db_model.specs.declared.packet.Packet.{Packet}
use Rattle.db_model.specs.Session.{Session, declared}
use Rattle.db_laws.specs.Laws.{SerialFront}
use Rattle.engine.specs.declared.ready.Ready as engine
use Rattle.engine.specs.Ready.{HaveTexts, texts_of}
use Rattle.engine.specs.Ready as ready
use Rattle.engine.specs.Texts.{text_if}
use Rattle.npd_host.specs.declared.host.InId.{InId}
use Rattle.npd_host.specs.declared.host.OutId.{OutId}
use Rattle.npd_host.specs.Host.{Outputs, Gave}
use Rattle.npd_host.proofs.Transfers.{gave_none, gave_then}
use Rattle.pcap_in.specs.Capture.{Seen, whole_end, broken_end, with_front, records}
use Rattle.pcap_in.specs.Laws.{PartHasNone}
use Rattle.pcap_in.specs.Reader.{left}
use Rattle.pipeline.specs.declared.reading.Noted.{Noted}
use Rattle.pipeline.specs.declared.reading.Noted.TheVariants.{Full, Closes, Fails}
use Rattle.pipeline.specs.declared.reading.Room.{Room}
use Rattle.pipeline.specs.declared.sinks.Sinks.{Sinks}
use Rattle.pipeline.specs.declared.status.Role.{Role}
use Rattle.pipeline.specs.declared.status.Role.TheVariants.{Db, Cap, Pdml, Psml, Trace, Out}
use Rattle.pipeline.specs.declared.status.Status.{Status}
use Rattle.pipeline.specs.declared.status.Status.TheVariants.{Done, Read, Write, Capture, PacketLimit, NoMemory}
use Rattle.pipeline.specs.CaptureRead.{ClosesWith, IsClosing}
use Rattle.pipeline.specs.Outputs.{packet_text, open_text, openings, open_texts, no_texts}
use Rattle.pipeline.specs.Packets.{Standing, place_of, texts_now, Passes, GivesUp, LeftIs, TakesOpen, Cut, Ends}
use Rattle.pipeline.specs.Ready.{ready_texts}
use Rattle.pipeline.specs.Serial.{serial_lines}
use Rattle.pipeline.specs.Taken.{TookEach, FailsTexts, GaveSome, wanted_of, is_there}
use Rattle.pipeline.specs.Window.{Place, EndsSo, IsReadTo, NotedIs, Reads, ReadsWindow}
use Rattle.pipeline.specs.Written.{sink_of}
use Rattle.pipeline.proofs.PacketTexts.{session_after, session_window, open_text-none, open_text-window}
use Rattle.pipeline.proofs.Taking.{each_alike, each_then, fails_alike, fails_then, fronts_none}
use Rattle.pipeline.proofs.Told.{told_all, told_map}
use Rattle.pipeline.proofs.Windows.{cut_short, reads_none, reads_then}

-- the texts of settled packets are those of the outputs that are there
module _ (db : model.Database) (sinks : Sinks) (s : Session) (packets : List Packet) (settled : List engine.Ready) (have : HaveTexts (wanted_of sinks) db s packets settled) where
  wanted_there : (sink : Option OutId) (text : List ℕ) → IfSome sink (λ k. text_if (is_there sink) text ≡ text)
  wanted_there None text = tt
  wanted_there (Some k) text = refl

  pub settled_alike : (role : Role) → IfSome (sink_of sinks role) (λ k. ready_texts settled role ≡ texts_now db serial_lines sinks packets s role)
  settled_alike Db = tt
  settled_alike Cap = tt
  settled_alike Out = tt
  settled_alike Pdml = told_map sinks.pdml _ _ (λ k e. have.pdml ∙ e) (wanted_there sinks.pdml (texts_of (packet_text Pdml db serial_lines) db s packets))
  settled_alike Psml = told_map sinks.psml _ _ (λ k e. have.psml ∙ e) (wanted_there sinks.psml (texts_of (packet_text Psml db serial_lines) db s packets))
  settled_alike Trace = told_all sinks.trace _ (λ k. have.trace)

-- ---- a window

module _ (db : model.Database) (sinks : Sinks) (room : Room) (packets : List Packet) (a b : Standing) where
  -- reading it was refused memory
  pub turn_unread : (why : Status) → ReadsWindow room (Err why) packets (place_of a) (place_of b) → b.outputs ≡ a.outputs → b.decoded ≡ a.decoded → GivesUp db serial_lines sinks room why a b
  turn_unread why window outputs decoded = record { packets = packets; read = Err why; reads = window; took = rw outputs (took why window.between window.noted); decoded = omega (arith, decoded) }
    where
      took : (why : Status) (m : Place) → NotedIs room (Err why) packets m (place_of b) → FailsTexts why sinks a.outputs a.outputs (texts_now db serial_lines sinks packets a.session)
      took NoMemory m noted = fronts_none sinks a.outputs (texts_now db serial_lines sinks packets a.session)
      took other m noted = absurd noted

  module _ (noted : Noted) (window : ReadsWindow room (Ok noted) packets (place_of a) (place_of b)) where
    -- decoding it was refused memory
    pub turn_unsettled : b.outputs ≡ a.outputs → b.decoded ≤ a.decoded + length packets → GivesUp db serial_lines sinks room NoMemory a b
    turn_unsettled outputs decoded = record { packets = packets; read = Ok noted; reads = window; took = rw outputs (fronts_none sinks a.outputs (texts_now db serial_lines sinks packets a.session)); decoded = decoded }

    module _ (settled : List engine.Ready) (have : HaveTexts (wanted_of sinks) db a.session packets settled) (decoded : b.decoded ≡ a.decoded + length packets) where
      -- writing it gave up
      pub turn_unwritten : (why : Status) → FailsTexts why sinks a.outputs b.outputs (ready_texts settled) → GivesUp db serial_lines sinks room why a b
      turn_unwritten why fails = record {
        packets = packets;
        read = Ok noted;
        reads = window;
        took = fails_alike sinks why a.outputs b.outputs (ready_texts settled) (texts_now db serial_lines sinks packets a.session) (settled_alike db sinks a.session packets settled have) fails;
        decoded = omega (arith, decoded);
      }

      -- it was written
      pub turn_passed : b.session ≡ ready.session_after db a.session packets → b.left + length packets ≡ a.left → TookEach sinks a.outputs b.outputs (ready_texts settled) → Passes db serial_lines sinks room noted a b
      turn_passed session left_is took = record {
        packets = packets;
        reads = window;
        session = session;
        left = left_is;
        took = each_alike sinks a.outputs b.outputs (ready_texts settled) (texts_now db serial_lines sinks packets a.session) (settled_alike db sinks a.session packets settled have) took;
        decoded = decoded;
      }

-- ---- windows

-- the packets so far: each was read, decoded once and written
pub record SoFar (db : model.Database) (lines : ℕ → List ℕ) (sinks : Sinks) (packets : List Packet) (a b : Standing) : Type 0 where
  pub reads : Reads packets (place_of a) (place_of b)
  pub took : TookEach sinks a.outputs b.outputs (open_texts db lines packets)
  pub session : b.session ≡ session_after db packets
  pub room : length packets + b.left ≡ a.left
  pub decoded : b.decoded ≡ a.decoded + length packets

pub record Reached (db : model.Database) (sinks : Sinks) (a b : Standing) : Type 0 where
  pub packets : List Packet
  pub far : SoFar db serial_lines sinks packets a b

-- what a window gave, whatever ended it
pub window_gave : (room : Room) (result : Result Noted Status) (packets : List Packet) (b c : Place) → ReadsWindow room result packets b c → GaveSome b.reader.id.0 b.inputs c.inputs
window_gave room result packets b c window = behind result window.between window.reads window.noted
  where
    both : (m : Place) → Reads packets b m → GaveSome m.reader.id.0 m.inputs c.inputs → GaveSome b.reader.id.0 b.inputs c.inputs
    both m reads some = record { bytes = reads.bytes ++ some.bytes; gave = gave_then b.reader.id.0 b.inputs m.inputs c.inputs reads.bytes some.bytes reads.gave (rw reads.id at some.gave) }

    behind : (result : Result Noted Status) (m : Place) → Reads packets b m → NotedIs room result packets m c → GaveSome b.reader.id.0 b.inputs c.inputs
    behind (Ok Full) m reads noted = record { bytes = reads.bytes; gave = subst (λ (p : Place). Gave b.reader.id.0 b.inputs p.inputs reads.bytes) (sym noted.0) reads.gave }
    behind (Ok (Closes status)) m reads noted = both m reads noted.1.gave
    behind (Ok (Fails (Read Cap))) m reads noted = both m reads (record { bytes = noted.bytes; gave = noted.gave })
    behind (Ok (Fails other)) m reads noted = absurd noted
    behind (Err NoMemory) m reads noted = both m reads noted
    behind (Err other) m reads noted = absurd noted

-- what was read of all that is seen, by what is left now
seen_far : (P : Seen → Type 0) (before : Option Seen) (packets : List Packet) (now : Option Seen) → IfSome before (IsReadTo packets now) → IfSome now P
    → IfSome before (λ seen. (rest : Seen) × (seen ≡ with_front packets rest) × P rest)
seen_far P before packets now read here =
    told_map before (IsReadTo packets now) (λ seen. (rest : Seen) × (seen ≡ with_front packets rest) × P rest) (λ seen is.
    let Q : Option Seen → Type 0 = λ o. IfSome o P in
    (is.rest, is.all, subst Q is.left_is here)) read

-- nothing is said of what is left
any : (now : Option Seen) → IfSome now (λ rest. Unit {0})
any None = tt
any (Some rest) = tt

-- the packets so far, and those of a window that was read behind them up to here
module _ (front : SerialFront) (db : model.Database) (lines : ℕ → List ℕ) (sinks : Sinks) (ps qs : List Packet) (a b : Standing) (far : SoFar db lines sinks ps a b) where
  text_more : (role : Role) → open_texts db lines (ps ++ qs) role ≡ open_texts db lines ps role ++ texts_now db lines sinks qs b.session role
  text_more role =
      open_text-window front role db lines ps qs
      ∙ ap (λ (s : Session). open_text role db lines ps ++ texts_of (packet_text role db lines) db s qs) (sym far.session)

  more_took : (outputs : Outputs) → TookEach sinks b.outputs outputs (texts_now db lines sinks qs b.session) → TookEach sinks a.outputs outputs (open_texts db lines (ps ++ qs))
  more_took outputs took =
      each_alike sinks a.outputs outputs (λ role. open_texts db lines ps role ++ texts_now db lines sinks qs b.session role) (open_texts db lines (ps ++ qs))
      (λ role. told_all (sink_of sinks role) (λ sink. open_texts db lines ps role ++ texts_now db lines sinks qs b.session role ≡ open_texts db lines (ps ++ qs) role) (λ sink. sym (text_more role)))
      (each_then sinks a.outputs b.outputs outputs (open_texts db lines ps) (texts_now db lines sinks qs b.session) far.took took)

  more_read : (m : Place) → Reads qs (place_of b) m → Reads (ps ++ qs) (place_of a) m
  more_read m reads = reads_then ps qs (place_of a) (place_of b) m far.reads reads

-- a full window more
pub passed : SerialFront → (db : model.Database) (lines : ℕ → List ℕ) (sinks : Sinks) (room : Room) (ps : List Packet) (a b c : Standing) → SoFar db lines sinks ps a b → (p : Passes db lines sinks room Full b c) → SoFar db lines sinks (ps ++ p.packets) a c
passed front db lines sinks room ps a b c far p =
    let qs = p.packets in
    let window = p.reads in
    let here : place_of c ≡ window.between = window.noted.0 in
    record {
      reads = subst (λ (m : Place). Reads (ps ++ qs) (place_of a) m) (sym here) (more_read front db lines sinks ps qs a b far window.between window.reads);
      took = more_took front db lines sinks ps qs a b far c.outputs p.took;
      session = p.session ∙ ap (λ (s : Session). ready.session_after db s qs) far.session ∙ sym (session_window front db ps qs);
      room = (let l = length-append ps qs in let h = p.left in let k = far.room in omega arith);
      decoded = (let l = length-append ps qs in let h = p.decoded in let k = far.decoded in omega arith);
    }

-- ---- the end

module _ (front : SerialFront) (short : PartHasNone) (db : model.Database) (lines : ℕ → List ℕ) (sinks : Sinks) (most : ℕ) (room : Room) (ps : List Packet) (a b c : Standing) (far : SoFar db lines sinks ps a b) (here : b.left ≡ room.left) (all : a.left ≡ most) (told : room.most ≡ most) where
  few_more : (qs : List Packet) → length qs ≤ min room.window room.left → length (ps ++ qs) ≤ most
  few_more qs few =
      let l = length-append ps qs in
      let h = far.room in
      let below : length qs ≤ room.left = grind arith in
      omega arith

  -- the capture ended in this window
  module _ (status : Status) (p : Passes db lines sinks room (Closes status) b c) where
    all_read : Reads (ps ++ p.packets) (place_of a) p.reads.between
    all_read = more_read front db lines sinks ps p.packets a b far p.reads.between p.reads.reads

    given_here : GaveSome a.reader.id.0 a.inputs c.inputs
    given_here =
        let reads = all_read in
        let some = p.reads.noted.1.gave in
        record { bytes = reads.bytes ++ some.bytes; gave = gave_then a.reader.id.0 a.inputs p.reads.between.inputs c.inputs reads.bytes some.bytes reads.gave (rw reads.id at some.gave) }

    closed_so : IsClosing status → IfSome (left a.reader a.inputs) (λ seen. (rest : Seen) × (seen ≡ with_front (ps ++ p.packets) rest) × LeftIs db lines sinks most (Ok status) (length (ps ++ p.packets)) rest) → Ends db lines sinks most (Ok status) a c
    closed_so closing sees = record {
      packets = ps ++ p.packets;
      given = given_here.bytes;
      few = few_more p.packets p.reads.few;
      sees = sees;
      gave = given_here.gave;
      cut = tt;
      took = (closing, more_took front db lines sinks ps p.packets a b far c.outputs p.took);
      decoded = (let l = length-append ps p.packets in let h = p.decoded in let k = far.decoded in omega arith);
    }

    seen_so : (P : Seen → Type 0) → IfSome (left p.reads.between.reader p.reads.between.inputs) P → IfSome (left a.reader a.inputs) (λ seen. (rest : Seen) × (seen ≡ with_front (ps ++ p.packets) rest) × P rest)
    seen_so P is = seen_far P (left a.reader a.inputs) (ps ++ p.packets) (left p.reads.between.reader p.reads.between.inputs) all_read.sees is

  pub closed : (status : Status) → Passes db lines sinks room (Closes status) b c → Ends db lines sinks most (Ok status) a c
  closed Done p = closed_so Done p tt (seen_so Done p (λ rest. rest ≡ whole_end) p.reads.noted.1.ends)
  closed (Capture offset code) p =
      let l = length-append ps p.packets in
      let h = far.room in
      let below = p.reads.noted.0 in
      let few : length (ps ++ p.packets) < most = omega arith in
      let now = left p.reads.between.reader p.reads.between.inputs in
      closed_so (Capture offset code) p tt
      (seen_so (Capture offset code) p (λ rest. (rest ≡ broken_end offset code) × (length (ps ++ p.packets) < most))
      (told_map now (ClosesWith (Capture offset code)) (λ rest. (rest ≡ broken_end offset code) × (length (ps ++ p.packets) < most)) (λ rest is. (is, few)) p.reads.noted.1.ends))
  closed (PacketLimit max) p =
      let l = length-append ps p.packets in
      let h = far.room in
      let reached = p.reads.noted.0.0 in
      let count : length (ps ++ p.packets) ≡ most = omega arith in
      let max_is : max ≡ most = p.reads.noted.0.1 ∙ told in
      let now = left p.reads.between.reader p.reads.between.inputs in
      closed_so (PacketLimit max) p tt
      (seen_so (PacketLimit max) p (λ rest. (rest ≡ whole_end → ⊥) × (length (ps ++ p.packets) ≡ most) × (max ≡ most))
      (told_map now (EndsSo (PacketLimit max)) (λ rest. (rest ≡ whole_end → ⊥) × (length (ps ++ p.packets) ≡ most) × (max ≡ most)) (λ rest more. (more, count, max_is)) p.reads.noted.1.ends))
  closed status p = absurd p.reads.noted.0

  -- reading gave up in this window, and its packets were written
  pub failed : a.reader.number ≡ 0 → a.reader.kept ≡ [] → (status : Status) → Passes db lines sinks room (Fails status) b c → Ends db lines sinks most (Err status) a c
  failed number kept (Read Cap) p =
      let m = p.reads.between in
      let reads = more_read front db lines sinks ps p.packets a b far m p.reads.reads in
      let gives = cut_short short (ps ++ p.packets) (place_of a) m (place_of c) reads p.reads.noted in
      record {
        packets = ps ++ p.packets;
        given = gives.given;
        few = few_more p.packets p.reads.few;
        sees = seen_far (λ rest. Unit {0}) (left a.reader a.inputs) (ps ++ p.packets) (left m.reader m.inputs) reads.sees (any (left m.reader m.inputs));
        gave = gives.gave;
        cut =
            ap (λ (n : ℕ). (records a.reader.form n 24 gives.given).packets) (sym number)
            ∙ ap (λ (k : List ℕ). (records a.reader.form a.reader.number 24 (k ++ gives.given)).packets) (sym kept)
            ∙ gives.packets_are 24;
        took = more_took front db lines sinks ps p.packets a b far c.outputs p.took;
        decoded = (let l = length-append ps p.packets in let h = p.decoded in let k = far.decoded in omega arith);
      }
  failed number kept status p = absurd p.reads.noted

  -- a window gave up
  gives_up : (why : Status) (p : GivesUp db lines sinks room why b c) → Cut db lines sinks most (Err why) a.reader.form (far.reads.bytes ++ (window_gave room p.read p.packets (place_of b) (place_of c) p.reads).bytes) (ps ++ p.packets)
      → TakesOpen db lines sinks most (Err why) a.outputs c.outputs (open_texts db lines (ps ++ p.packets)) → ((rest : Seen) → LeftIs db lines sinks most (Err why) (length (ps ++ p.packets)) rest) → Ends db lines sinks most (Err why) a c
  gives_up why p cut took left_is =
      let m = p.reads.between in
      let reads = more_read front db lines sinks ps p.packets a b far m p.reads.reads in
      let some = window_gave room p.read p.packets (place_of b) (place_of c) p.reads in
      record {
        packets = ps ++ p.packets;
        given = far.reads.bytes ++ some.bytes;
        few = few_more p.packets p.reads.few;
        sees = seen_far (LeftIs db lines sinks most (Err why) (length (ps ++ p.packets))) (left a.reader a.inputs) (ps ++ p.packets) (left m.reader m.inputs) reads.sees
            (told_map (left m.reader m.inputs) (λ rest. Unit {0}) (LeftIs db lines sinks most (Err why) (length (ps ++ p.packets))) (λ rest is. left_is rest) (any (left m.reader m.inputs)));
        gave = gave_then a.reader.id.0 a.inputs b.inputs c.inputs far.reads.bytes some.bytes far.reads.gave (subst (λ (i : InId). Gave i.0 b.inputs c.inputs some.bytes) far.reads.id some.gave);
        cut = cut;
        took = took;
        decoded = (let l = length-append ps p.packets in let h = p.decoded in let k = far.decoded in omega arith);
      }

  -- what was taken then
  fails_far : (why : Status) (p : GivesUp db lines sinks room why b c) → FailsTexts why sinks a.outputs c.outputs (open_texts db lines (ps ++ p.packets))
  fails_far why p =
      fails_then sinks why a.outputs b.outputs c.outputs (open_texts db lines ps) (texts_now db lines sinks p.packets b.session) no_texts (open_texts db lines (ps ++ p.packets)) far.took p.took
      (λ role. text_more front db lines sinks ps p.packets a b far role ∙ ap (λ (l : List ℕ). open_texts db lines ps role ++ l) (sym (append-nil (texts_now db lines sinks p.packets b.session role))))

  pub ended : (why : Status) → GivesUp db lines sinks room why b c → Ends db lines sinks most (Err why) a c
  ended (Write role) p = gives_up (Write role) p tt (fails_far (Write role) p) (λ rest. tt)
  ended NoMemory p = gives_up NoMemory p tt (fails_far NoMemory p) (λ rest. tt)
  ended why p = absurd p.took

-- ---- the beginning

-- before the first packet there are the openings
opens_with : (db : model.Database) (lines : ℕ → List ℕ) (sinks : Sinks) (role : Role) → IfSome (sink_of sinks role) (λ sink. openings db role ≡ open_texts db lines [] role)
opens_with db lines sinks role = told_all (sink_of sinks role) (λ sink. openings db role ≡ open_texts db lines [] role) (λ sink. sym (open_text-none role db lines))

-- the openings were written, and nothing else was done
pub begun : (db : model.Database) (lines : ℕ → List ℕ) (sinks : Sinks) (a : Standing) (outputs : Outputs) → a.session ≡ declared db → TookEach sinks a.outputs outputs (openings db) → SoFar db lines sinks [] a (record a { outputs = outputs })
unfolding session_after
begun db lines sinks a outputs session took = record {
  reads = reads_none (place_of a);
  took = each_alike sinks a.outputs outputs (openings db) (open_texts db lines []) (opens_with db lines sinks) took;
  session = session;
  room = omega arith;
  decoded = omega arith;
}

-- no packet was read
nothing_read : (db : model.Database) (lines : ℕ → List ℕ) (sinks : Sinks) (most : ℕ) (why : Status) (a : Standing) (outputs : Outputs) → Cut db lines sinks most (Err why) a.reader.form [] [] → TakesOpen db lines sinks most (Err why) a.outputs outputs (open_texts db lines [])
    → ((rest : Seen) → LeftIs db lines sinks most (Err why) 0 rest) → Ends db lines sinks most (Err why) a (record a { outputs = outputs })
nothing_read db lines sinks most why a outputs cut took left_is = record {
  packets = [];
  given = [];
  few = omega arith;
  sees = sees_all (left a.reader a.inputs);
  gave = gave_none a.reader.id.0 a.inputs;
  cut = cut;
  took = took;
  decoded = omega arith;
}
  where
    sees_all : (now : Option Seen) → IfSome now (λ seen. (rest : Seen) × (seen ≡ with_front [] rest) × LeftIs db lines sinks most (Err why) 0 rest)
    sees_all None = tt
    sees_all (Some seen) = (seen, refl, left_is seen)

-- writing the openings gave up
pub unopened : (db : model.Database) (lines : ℕ → List ℕ) (sinks : Sinks) (most : ℕ) (why : Status) (a : Standing) (outputs : Outputs) → FailsTexts why sinks a.outputs outputs (openings db) → Ends db lines sinks most (Err why) a (record a { outputs = outputs })
unopened db lines sinks most (Write role) a outputs fails = nothing_read db lines sinks most (Write role) a outputs tt (fails_alike sinks (Write role) a.outputs outputs (openings db) (open_texts db lines []) (opens_with db lines sinks) fails) (λ rest. tt)
unopened db lines sinks most NoMemory a outputs fails = nothing_read db lines sinks most NoMemory a outputs tt (fails_alike sinks NoMemory a.outputs outputs (openings db) (open_texts db lines []) (opens_with db lines sinks) fails) (λ rest. tt)
unopened db lines sinks most why a outputs fails = absurd fails

-- the same, whatever stands there at the end beside what was given and taken, and how much was decoded
pub ends_by : (db : model.Database) (lines : ℕ → List ℕ) (sinks : Sinks) (most : ℕ) (result : Result Status Status) (a b c : Standing) → c.inputs ≡ b.inputs → c.outputs ≡ b.outputs → c.decoded ≡ b.decoded → Ends db lines sinks most result a b → Ends db lines sinks most result a c
ends_by db lines sinks most result a b c inputs outputs decoded ends = record {
  packets = ends.packets;
  given = ends.given;
  few = ends.few;
  sees = ends.sees;
  gave = rw inputs ends.gave;
  cut = ends.cut;
  took = rw outputs ends.took;
  decoded = rw decoded ends.decoded;
}
