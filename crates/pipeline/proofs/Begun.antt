-- How named outputs are opened one after another, and what they have when open outputs took something.
use Rattle.std.proofs.Common.{◌≡◌, ◌<◌, ℕ, List, [], ◌++◌, length, Option, Some, None, Ok, Err, refl, sym, ap, ◌∙◌, subst, IfSome, append_assoc, append-nil}
use Rattle.std.specs.Prelude.{IsSomeAnd}
use Rattle.std.specs.Io.KnownBytes.{append_known}
use Rattle.npd_host.specs.declared.host.OutId.{OutId}
use Rattle.npd_host.specs.Host.{Outputs}
use Rattle.pipeline.specs.declared.sinks.OutputFiles.{OutputFiles}
use Rattle.pipeline.specs.declared.sinks.Sinks.{Sinks}
use Rattle.pipeline.specs.declared.status.Role.{Role}
use Rattle.pipeline.specs.declared.status.Role.TheVariants.{Db, Cap, Pdml, Psml, Trace, Out}
use Rattle.pipeline.specs.declared.status.Status.{Status}
use Rattle.pipeline.specs.declared.status.Status.TheVariants.{Done, Words, Open, Read, Write, Database, Capture, PacketLimit, NoMemory, Unbuilt}
use Rattle.pipeline.specs.Outputs.{no_texts}
use Rattle.pipeline.specs.Taken.{TookEach, TookFronts, TookParts, OpensNamed, OpensOutputs}
use Rattle.pipeline.specs.Written.{sink_of, IsNoSink, AreApart, Begins, listed, BegunEach, WroteEach, WroteFronts, WrotePart, before_role, output_of}
use Rattle.pipeline.proofs.Told.{told_all, told_map, none_is_some}

-- ---- what they have

taken_of : (taken now : Option (List ℕ)) (text : List ℕ) → IfSome taken (λ bytes. bytes ≡ []) → now ≡ append_known taken text → IfSome now (λ bytes. bytes ≡ text)
taken_of None now text empty e = rw e tt
taken_of (Some bytes) now text empty e = rw (e, empty) refl

begins_took : (o : Option OutId) (name : Option (List ℕ)) (r s t : Outputs) (text : List ℕ) → Begins o name [] r s → IfSome o (λ sink. t.taken sink.0 ≡ append_known (s.taken sink.0) text) → t.name ≡ s.name → Begins o name text r t
begins_took None None r s t text begun took names = tt
begins_took None (Some name) r s t text begun took names = absurd begun
begins_took (Some sink) None r s t text begun took names = absurd begun
begins_took (Some sink) (Some name) r s t text begun took names = record {
  fresh = begun.fresh;
  named = ap (λ (f : ℕ → Option (List ℕ)). f sink.0) names ∙ begun.named;
  taken = taken_of (s.taken sink.0) (t.taken sink.0) text begun.taken took;
}

-- what is said of a role that has an output is said of one that is named
begins_told : (o : Option OutId) (name : Option (List ℕ)) (r s : Outputs) (text : List ℕ) (P : Type 0) → Begins o name text r s → IfSome o (λ sink. P) → IfSome name (λ n. P)
begins_told None None r s text P begun h = tt
begins_told None (Some name) r s text P begun h = absurd begun
begins_told (Some sink) None r s text P begun h = absurd begun
begins_told (Some sink) (Some name) r s text P begun h = h

begins_match : (o : Option OutId) (name : Option (List ℕ)) (r s : Outputs) (text : List ℕ) (P : Type 0) → Begins o name text r s → IsSomeAnd o (λ sink. P) → IsSomeAnd name (λ n. P)
begins_match None None r s text P begun h = absurd h
begins_match None (Some name) r s text P begun h = absurd begun
begins_match (Some sink) None r s text P begun h = absurd begun
begins_match (Some sink) (Some name) r s text P begun h = h

module _ (sinks : Sinks) (files : OutputFiles) (r s : Outputs) (begun : BegunEach sinks files r s no_texts) where
  begun_took : (t : Outputs) (text : Role → List ℕ) → TookEach sinks s t text → BegunEach sinks files r t text
  begun_took t text took = record {
    opened = took.opened ∙ begun.opened;
    begun = λ role. begins_took (sink_of sinks role) (output_of files role) r s t (text role) (begun.begun role) (took.taken role) took.names;
    apart = begun.apart;
    others = λ id h. (ap (λ (f : ℕ → Option (List ℕ)). f id) took.names ∙ (begun.others id h).0, took.others id h ∙ (begun.others id h).1);
  }

  pub wrote_each : (t : Outputs) (text : Role → List ℕ) → TookEach sinks s t text → WroteEach files r t text
  wrote_each t text took = (sinks, begun_took t text took)

  pub wrote_fronts : (t : Outputs) (text : Role → List ℕ) → TookFronts sinks s t text → WroteFronts files r t text
  wrote_fronts t text took = record {
    front = took.front;
    back = took.back;
    parts = λ role. begins_told (sink_of sinks role) (output_of files role) r s [] (text role ≡ took.front role ++ took.back role) (begun.begun role) (took.parts role);
    wrote = wrote_each t took.front took.took;
  }

  pub wrote_part : (t : Outputs) (failed : Role) (text : Role → List ℕ) → TookParts failed sinks s t text → WrotePart failed files r t text
  unfolding wrote_fronts
  wrote_part t failed text took = record {
    fronts = wrote_fronts t text took.fronts;
    proper = begins_match (sink_of sinks failed) (output_of files failed) r s [] (0 < length (took.fronts.back failed)) (begun.begun failed) took.proper;
  }

-- ---- the opening

keeps_named : (o : Option OutId) (name : Option (List ℕ)) (text : List ℕ) (r s : Outputs) (id : ℕ) → Begins o name text r s → s.name id ≡ None → IfSome o (λ sink. id ≡ sink.0 → ⊥)
keeps_named None name text r s id begun none = tt
keeps_named (Some sink) None text r s id begun none = absurd begun
keeps_named (Some sink) (Some n) text r s id begun none = λ e. none_is_some (sym none ∙ ap s.name e ∙ begun.named)

-- one output more is opened, where it is named
module _ (k : Option OutId) (role : Role) (name : Option (List ℕ)) (s t : Outputs) (opens : OpensNamed (Ok k) role name s t) where
  opens_listed : t.opened ≡ s.opened ++ listed name
  opens_listed = by k opens
    where
      by : (o : Option OutId) → OpensNamed (Ok o) role name s t → t.opened ≡ s.opened ++ listed name
      by None h = rw (h.0, h.1) (sym (append-nil s.opened))
      by (Some sink) h = rw h.1 h.2.opened

  -- another id is left
  opens_other : (id : ℕ) → IfSome k (λ sink. id ≡ sink.0 → ⊥) → (t.name id ≡ s.name id) × (t.taken id ≡ s.taken id)
  opens_other id differs = by k opens differs
    where
      by : (o : Option OutId) → OpensNamed (Ok o) role name s t → IfSome o (λ sink. id ≡ sink.0 → ⊥) → (t.name id ≡ s.name id) × (t.taken id ≡ s.taken id)
      by None h d = rw h.1 (refl, refl)
      by (Some sink) h d = (h.2.names id d, h.2.others id d)

  -- the new id isn't one that was begun before
  opens_apart : (id : ℕ) (n : List ℕ) → s.name id ≡ Some n → IfSome k (λ sink. id ≡ sink.0 → ⊥)
  opens_apart id n named = by k opens
    where
      by : (o : Option OutId) → OpensNamed (Ok o) role name s t → IfSome o (λ sink. id ≡ sink.0 → ⊥)
      by None h = tt
      by (Some sink) h = λ e. none_is_some (sym h.2.fresh ∙ ap s.name (sym e) ∙ named)

  begins_still : (o : Option OutId) (n : Option (List ℕ)) (r : Outputs) → Begins o n [] r s → Begins o n [] r t
  begins_still None None r begun = tt
  begins_still None (Some n) r begun = absurd begun
  begins_still (Some sink) None r begun = absurd begun
  begins_still (Some sink) (Some n) r begun =
      let left = opens_other sink.0 (opens_apart sink.0 n begun.named) in
      record { fresh = begun.fresh; named = left.0 ∙ begun.named; taken = (let P : Option (List ℕ) → Type 0 = λ o. IfSome o (λ bytes. bytes ≡ []) in subst P (sym left.1) begun.taken) }

  begins_new : (r : Outputs) → ((id : ℕ) → s.name id ≡ None → r.name id ≡ None) → Begins k name [] r t
  begins_new r keeps = by k name opens
    where
      by : (o : Option OutId) (n : Option (List ℕ)) → OpensNamed (Ok o) role n s t → Begins o n [] r t
      by None None h = tt
      by None (Some n) h = absurd (none_is_some (sym h.0))
      by (Some sink) None h = absurd (none_is_some h.1)
      by (Some sink) (Some n) h = record { fresh = keeps sink.0 h.2.fresh; named = h.2.named ∙ sym h.1; taken = h.2.empty }

  -- the new one and one that was begun before have two ids
  apart_new : (o : Option OutId) (n : Option (List ℕ)) (r : Outputs) → Begins o n [] r s → IfSome o (λ x. IfSome k (λ y. y.0 ≡ x.0 → ⊥))
  apart_new None n r begun = tt
  apart_new (Some x) None r begun = absurd begun
  apart_new (Some x) (Some n) r begun = told_map k (λ y. x.0 ≡ y.0 → ⊥) (λ y. y.0 ≡ x.0 → ⊥) (λ y d e. d (sym e)) (opens_apart x.0 n begun.named)

  apart_old : (o : Option OutId) (n : Option (List ℕ)) (r : Outputs) → Begins o n [] r s → IfSome k (λ x. IfSome o (λ y. y.0 ≡ x.0 → ⊥))
  apart_old None n r begun = told_all k (λ x. Unit {0}) (λ x. tt)
  apart_old (Some y) None r begun = absurd begun
  apart_old (Some y) (Some n) r begun = opens_apart y.0 n begun.named

-- a fresh id is none of those that were begun
fresh_before : (sinks : Sinks) (files : OutputFiles) (r s : Outputs) → BegunEach sinks files r s no_texts → (id : ℕ) → s.name id ≡ None → r.name id ≡ None
fresh_before sinks files r s begun id none =
    sym (begun.others id (λ role. keeps_named (sink_of sinks role) (output_of files role) [] r s id (begun.begun role) none)).0 ∙ none

any_apart : (o : Option OutId) → IfSome o (λ x. Unit {0})
any_apart o = told_all o (λ x. Unit {0}) (λ x. tt)

abbrev sinks_of : Option OutId → Option OutId → Option OutId → Sinks
sinks_of pdml psml trace = record { pdml = pdml; psml = psml; trace = trace }

-- no output is opened yet
pub none_begun : (files : OutputFiles) (r : Outputs) → BegunEach (sinks_of None None None) (before_role Pdml files) r r no_texts
none_begun files r = record { opened = sym (append-nil r.opened); begun = begun; apart = apart; others = λ id h. (refl, refl) }
  where
    begun : (role : Role) → Begins (sink_of (sinks_of None None None) role) (output_of (before_role Pdml files) role) [] r r
    begun Db = tt
    begun Cap = tt
    begun Pdml = tt
    begun Psml = tt
    begun Trace = tt
    begun Out = tt

    apart : AreApart (sinks_of None None None)
    apart Db b d = tt
    apart Cap b d = tt
    apart Pdml b d = tt
    apart Psml b d = tt
    apart Trace b d = tt
    apart Out b d = tt

pub pdml_begun : (files : OutputFiles) (k : Option OutId) (r s t : Outputs) → BegunEach (sinks_of None None None) (before_role Pdml files) r s no_texts → OpensNamed (Ok k) Pdml files.pdml s t → BegunEach (sinks_of k None None) (before_role Psml files) r t no_texts
pdml_begun files k r s t before opens = record {
  opened = opens_listed k Pdml files.pdml s t opens ∙ ap (λ (l : List (List ℕ)). l ++ listed files.pdml) before.opened ∙ simp append-nil;
  begun = begun;
  apart = apart;
  others = others;
}
  where
    begun : (role : Role) → Begins (sink_of (sinks_of k None None) role) (output_of (before_role Psml files) role) [] r t
    begun Db = tt
    begun Cap = tt
    begun Pdml = begins_new k Pdml files.pdml s t opens r (fresh_before _ _ r s before)
    begun Psml = tt
    begun Trace = tt
    begun Out = tt

    apart : AreApart (sinks_of k None None)
    apart Db b d = tt
    apart Cap b d = tt
    apart Pdml Db d = any_apart k
    apart Pdml Cap d = any_apart k
    apart Pdml Pdml d = absurd (d refl)
    apart Pdml Psml d = any_apart k
    apart Pdml Trace d = any_apart k
    apart Pdml Out d = any_apart k
    apart Psml b d = tt
    apart Trace b d = tt
    apart Out b d = tt

    none : (id : ℕ) → IsNoSink (sinks_of None None None) id
    none id Db = tt
    none id Cap = tt
    none id Pdml = tt
    none id Psml = tt
    none id Trace = tt
    none id Out = tt

    others : (id : ℕ) → IsNoSink (sinks_of k None None) id → (t.name id ≡ r.name id) × (t.taken id ≡ r.taken id)
    others id h =
        let left = opens_other k Pdml files.pdml s t opens id (h Pdml) in
        let was = before.others id (none id) in
        (left.0 ∙ was.0, left.1 ∙ was.1)

pub psml_begun : (files : OutputFiles) (pdml k : Option OutId) (r s t : Outputs) → BegunEach (sinks_of pdml None None) (before_role Psml files) r s no_texts → OpensNamed (Ok k) Psml files.psml s t → BegunEach (sinks_of pdml k None) (before_role Trace files) r t no_texts
psml_begun files pdml k r s t before opens = record {
  opened = opens_listed k Psml files.psml s t opens ∙ ap (λ (l : List (List ℕ)). l ++ listed files.psml) before.opened ∙ simp (append_assoc, append-nil);
  begun = begun;
  apart = apart;
  others = others;
}
  where
    begun : (role : Role) → Begins (sink_of (sinks_of pdml k None) role) (output_of (before_role Trace files) role) [] r t
    begun Db = tt
    begun Cap = tt
    begun Pdml = begins_still k Psml files.psml s t opens pdml files.pdml r (before.begun Pdml)
    begun Psml = begins_new k Psml files.psml s t opens r (fresh_before _ _ r s before)
    begun Trace = tt
    begun Out = tt

    apart : AreApart (sinks_of pdml k None)
    apart Db b d = tt
    apart Cap b d = tt
    apart Pdml Db d = any_apart pdml
    apart Pdml Cap d = any_apart pdml
    apart Pdml Pdml d = absurd (d refl)
    apart Pdml Psml d = apart_new k Psml files.psml s t opens pdml files.pdml r (before.begun Pdml)
    apart Pdml Trace d = any_apart pdml
    apart Pdml Out d = any_apart pdml
    apart Psml Db d = any_apart k
    apart Psml Cap d = any_apart k
    apart Psml Pdml d = apart_old k Psml files.psml s t opens pdml files.pdml r (before.begun Pdml)
    apart Psml Psml d = absurd (d refl)
    apart Psml Trace d = any_apart k
    apart Psml Out d = any_apart k
    apart Trace b d = tt
    apart Out b d = tt

    none : (id : ℕ) → IsNoSink (sinks_of pdml k None) id → IsNoSink (sinks_of pdml None None) id
    none id h Db = tt
    none id h Cap = tt
    none id h Pdml = h Pdml
    none id h Psml = tt
    none id h Trace = tt
    none id h Out = tt

    others : (id : ℕ) → IsNoSink (sinks_of pdml k None) id → (t.name id ≡ r.name id) × (t.taken id ≡ r.taken id)
    others id h =
        let left = opens_other k Psml files.psml s t opens id (h Psml) in
        let was = before.others id (none id h) in
        (left.0 ∙ was.0, left.1 ∙ was.1)

pub trace_begun : (files : OutputFiles) (pdml psml k : Option OutId) (r s t : Outputs) → BegunEach (sinks_of pdml psml None) (before_role Trace files) r s no_texts → OpensNamed (Ok k) Trace files.trace s t → BegunEach (sinks_of pdml psml k) files r t no_texts
trace_begun files pdml psml k r s t before opens = record {
  opened = opens_listed k Trace files.trace s t opens ∙ ap (λ (l : List (List ℕ)). l ++ listed files.trace) before.opened ∙ simp (append_assoc, append-nil);
  begun = begun;
  apart = apart;
  others = others;
}
  where
    begun : (role : Role) → Begins (sink_of (sinks_of pdml psml k) role) (output_of files role) [] r t
    begun Db = tt
    begun Cap = tt
    begun Pdml = begins_still k Trace files.trace s t opens pdml files.pdml r (before.begun Pdml)
    begun Psml = begins_still k Trace files.trace s t opens psml files.psml r (before.begun Psml)
    begun Trace = begins_new k Trace files.trace s t opens r (fresh_before _ _ r s before)
    begun Out = tt

    apart : AreApart (sinks_of pdml psml k)
    apart Db b d = tt
    apart Cap b d = tt
    apart Pdml Db d = any_apart pdml
    apart Pdml Cap d = any_apart pdml
    apart Pdml Pdml d = absurd (d refl)
    apart Pdml Psml d = before.apart Pdml Psml d
    apart Pdml Trace d = apart_new k Trace files.trace s t opens pdml files.pdml r (before.begun Pdml)
    apart Pdml Out d = any_apart pdml
    apart Psml Db d = any_apart psml
    apart Psml Cap d = any_apart psml
    apart Psml Pdml d = before.apart Psml Pdml d
    apart Psml Psml d = absurd (d refl)
    apart Psml Trace d = apart_new k Trace files.trace s t opens psml files.psml r (before.begun Psml)
    apart Psml Out d = any_apart psml
    apart Trace Db d = any_apart k
    apart Trace Cap d = any_apart k
    apart Trace Pdml d = apart_old k Trace files.trace s t opens pdml files.pdml r (before.begun Pdml)
    apart Trace Psml d = apart_old k Trace files.trace s t opens psml files.psml r (before.begun Psml)
    apart Trace Trace d = absurd (d refl)
    apart Trace Out d = any_apart k
    apart Out b d = tt

    none : (id : ℕ) → IsNoSink (sinks_of pdml psml k) id → IsNoSink (sinks_of pdml psml None) id
    none id h Db = tt
    none id h Cap = tt
    none id h Pdml = h Pdml
    none id h Psml = h Psml
    none id h Trace = tt
    none id h Out = tt

    others : (id : ℕ) → IsNoSink (sinks_of pdml psml k) id → (t.name id ≡ r.name id) × (t.taken id ≡ r.taken id)
    others id h =
        let left = opens_other k Trace files.trace s t opens id (h Trace) in
        let was = before.others id (none id h) in
        (left.0 ∙ was.0, left.1 ∙ was.1)

-- the opening of one gave up, and those before it are opened
pub open_failed : (why : Status) (role : Role) (files : OutputFiles) (sinks : Sinks) (r s t : Outputs) → BegunEach sinks (before_role role files) r s no_texts → OpensNamed (Err why) role (output_of files role) s t → OpensOutputs (Err why) files r t
open_failed Done role files sinks r s t begun opens = absurd opens
open_failed (Words index code) role files sinks r s t begun opens = absurd opens
open_failed (Open which) role files sinks r s t begun opens = rw (opens.0, opens.2) (opens.1, (sinks, begun))
open_failed (Read which) role files sinks r s t begun opens = absurd opens
open_failed (Write which) role files sinks r s t begun opens = absurd opens
open_failed (Database line code) role files sinks r s t begun opens = absurd opens
open_failed (Capture offset code) role files sinks r s t begun opens = absurd opens
open_failed (PacketLimit max) role files sinks r s t begun opens = absurd opens
open_failed NoMemory role files sinks r s t begun opens = (role, rw opens (sinks, begun))
open_failed (Unbuilt which) role files sinks r s t begun opens = absurd opens
