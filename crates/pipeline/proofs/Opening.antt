-- What is found of a capture that was opened, and of one of which less than a header was taken.
use Rattle.std.proofs.Common.{◌≡◌, ◌<◌, ℕ, List, [], ◌++◌, length, Option, Some, None, Ok, Err, sym, ap, ◌∙◌, subst, IfSome, IsTrue}
use Rattle.npd_host.specs.Host.{Inputs, OpensInput, FrontIs}
use Rattle.pcap_in.specs.declared.fail.CapFail.{CapFail}
use Rattle.pcap_in.specs.declared.fail.CapFail.TheVariants as fail
use Rattle.pcap_in.specs.Capture.{Broken, header}
use Rattle.pcap_in.specs.Reader.{Reader, is_usable, is_reading, InReach, Begins, TakesHeader}
use Rattle.pcap_in.specs.Reading.{OnlyRead}
use Rattle.pipeline.specs.CaptureRead.{IsBehindHeader, IsOpen, CaptureOpens, GaveOf}
use Rattle.pipeline.specs.Causes.{capture_status}
use Rattle.pipeline.proofs.Told.{told_here}

-- what the input holds before and after
pub front_of : (held : Option (List ℕ)) (bytes : List ℕ) (now : Option (List ℕ)) (given : List ℕ) → held ≡ Some bytes → FrontIs held now given → (rest : List ℕ) × (now ≡ Some rest) × (bytes ≡ given ++ rest)
front_of None bytes now given e front = absurd (never e)
  where
    never : ◌≡◌ {A = Option (List ℕ)} None (Some bytes) → ⊥
    never e = cc
front_of (Some held) bytes now given e front = let same : held ≡ bytes = cc in (front.0, front.1, sym same ∙ front.2)

behind_of : (file : Option (List ℕ)) (s t : Inputs) (reader : Reader) → s.held reader.id.0 ≡ file → OnlyRead reader.id.0 s t (TakesHeader (Ok reader)) → IfSome (s.held reader.id.0) (λ bytes. Begins (Ok reader) bytes t)
    → IfSome file (IsBehindHeader reader t)
behind_of None s t reader holds read begins = tt
behind_of (Some bytes) s t reader holds read begins =
    let parts = front_of (s.held reader.id.0) bytes (t.held reader.id.0) read.bytes holds read.gave.front in
    let is = told_here (s.held reader.id.0) bytes (λ b. Begins (Ok reader) b t) holds begins in
    record {
      head = read.bytes;
      rest = parts.0;
      header_is = is.0;
      sees = is.1;
      form = read.taken.1;
      long = read.taken.0;
      holds = parts.1;
      parts = parts.2;
    }

-- the input was opened, and a reader stands behind its header
pub opened : (name : List ℕ) (file : Option (List ℕ)) (r s t : Inputs) (id : ℕ) (reader : Reader) → OpensInput r s id name file → reader.id.0 ≡ id
    → OnlyRead id s t (TakesHeader (Ok reader)) → IfSome (s.held id) (λ bytes. Begins (Ok reader) bytes t)
    → reader.number ≡ 0 → reader.kept ≡ [] → IsTrue (is_reading reader.state) → IsTrue (is_usable reader.state) → InReach reader t → IsOpen reader name file r t
opened name file r s t id reader opens same read begins number kept reading usable reach =
    let o : OpensInput r s reader.id.0 name file = subst (λ (i : ℕ). OpensInput r s i name file) (sym same) opens in
    let only : OnlyRead reader.id.0 s t (TakesHeader (Ok reader)) = subst (λ (i : ℕ). OnlyRead i s t (TakesHeader (Ok reader))) (sym same) read in
    let is : IfSome (s.held reader.id.0) (λ bytes. Begins (Ok reader) bytes t) = subst (λ (i : ℕ). IfSome (s.held i) (λ bytes. Begins (Ok reader) bytes t)) (sym same) begins in
    record {
      fresh = o.fresh;
      named = ap (λ (f : ℕ → Option (List ℕ)). f reader.id.0) only.gave.names ∙ o.named;
      number = number;
      kept = kept;
      reading = reading;
      usable = usable;
      reach = reach;
      behind = behind_of file s t reader o.holds only is;
    }

-- reading gave up before the header was taken
cut_of : (name : List ℕ) (file : Option (List ℕ)) (r s t : Inputs) (id : ℕ) → OpensInput r s id name file → OnlyRead id s t (λ bytes. length bytes < 24)
    → IfSome file (λ bytes. (given : List ℕ) × GaveOf name r t bytes given × (length given < 24))
cut_of name None r s t id opens read = tt
cut_of name (Some bytes) r s t id opens read =
    let parts = front_of (s.held id) bytes (t.held id) read.bytes opens.holds read.gave.front in (
      read.bytes,
      record { id = id; rest = parts.0; fresh = opens.fresh; named = ap (λ (f : ℕ → Option (List ℕ)). f id) read.gave.names ∙ opens.named; holds = parts.1; parts = parts.2 },
      read.taken,
    )

broken_of : (file : Option (List ℕ)) (held : Option (List ℕ)) (t : Inputs) (offset code : ℕ) → held ≡ file → IfSome held (λ bytes. Begins (Err (fail.Broken offset code)) bytes t) → IfSome file (λ bytes. header bytes ≡ Err (Broken offset code))
broken_of None held t offset code e begins = tt
broken_of (Some bytes) held t offset code e begins = (told_here held bytes (λ b. Begins (Err (fail.Broken offset code)) b t) e begins).0

-- how it is told that no reader was begun
pub not_opened : (why : CapFail) (name : List ℕ) (file : Option (List ℕ)) (r s t : Inputs) (id : ℕ) → OpensInput r s id name file
    → OnlyRead id s t (TakesHeader (Err why)) → IfSome (s.held id) (λ bytes. Begins (Err why) bytes t) → CaptureOpens (Err (capture_status why)) name file r t
not_opened (fail.Broken offset code) name file r s t id opens read begins = broken_of file (s.held id) t offset code opens.holds begins
not_opened fail.ReadFault name file r s t id opens read begins = cut_of name file r s t id opens read
not_opened fail.NoMemory name file r s t id opens read begins = tt
