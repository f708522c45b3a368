-- What open outputs took: nothing, one piece after another, fronts of them.
use Rattle.std.proofs.Common.{◌≡◌, ◌<◌, ◌+◌, ℕ, List, [], ◌∷◌, ◌++◌, length, take, drop, get_or, Option, Some, None, Result, Ok, Err, refl, sym, ap, ◌∙◌, subst, IfSome, append_assoc, append-nil, length-append, arith}
use Rattle.std.specs.Prelude.{IsSomeAnd}
use Rattle.std.proofs.lemmas.Grind.{flat_map-append}
use Rattle.std.proofs.lemmas.List.{take_more, take-append-drop}
use Rattle.std.specs.Io.KnownBytes.{append_known}
use Rattle.engine.specs.declared.ready.Ready.{Ready}
use Rattle.engine.specs.declared.texts.Texts.{Texts}
use Rattle.engine.specs.Texts.{text_if, Hold}
use Rattle.engine.specs.Trace.{trace_line}
use Rattle.npd_host.specs.declared.host.HostFail.{HostFail}
use Rattle.npd_host.specs.declared.host.HostFail.TheVariants as host
use Rattle.npd_host.specs.declared.host.OutId.{OutId}
use Rattle.npd_host.specs.Host.{Outputs, Took, TookPart}
use Rattle.pipeline.specs.declared.sinks.Sinks.{Sinks}
use Rattle.pipeline.specs.declared.status.Role.{Role}
use Rattle.pipeline.specs.declared.status.Role.TheVariants.{Db, Cap, Pdml, Psml, Trace, Out}
use Rattle.pipeline.specs.declared.status.Status.{Status}
use Rattle.pipeline.specs.declared.status.Status.TheVariants.{Done, Words, Open, Read, Write, Database, Capture, PacketLimit, NoMemory, Unbuilt}
use Rattle.pipeline.specs.Causes.{refusal}
use Rattle.pipeline.specs.Outputs.{no_texts}
use Rattle.pipeline.specs.Ready.{ready_text, ready_texts}
use Rattle.pipeline.specs.Taken.{TookEach, TookFronts, TookParts, FailsTexts, TakesTexts, only, pieces, is_there, wanted_of}
use Rattle.pipeline.specs.Written.{sink_of, AreApart}
use Rattle.pipeline.proofs.Told.{told_all, told_map, told_both, told_here, match_map, none_is_some}

append_known-nil : (taken : Option (List ℕ)) → taken ≡ append_known taken []
append_known-nil None = refl
append_known-nil (Some bytes) = ap Some (sym (append-nil bytes))

append_known-append : (taken : Option (List ℕ)) (xs ys : List ℕ) → append_known (append_known taken xs) ys ≡ append_known taken (xs ++ ys)
append_known-append None xs ys = refl
append_known-append (Some bytes) xs ys = ap Some (append_assoc bytes xs ys)

module _ (sinks : Sinks) where
  -- before the first piece nothing was taken
  pub each_none : (r : Outputs) → TookEach sinks r r no_texts
  each_none r = record {
    opened = refl;
    names = refl;
    taken = λ role. told_all (sink_of sinks role) (λ sink. r.taken sink.0 ≡ append_known (r.taken sink.0) []) (λ sink. append_known-nil (r.taken sink.0));
    others = λ id h. refl;
  }

  -- one piece and then another
  pub each_then : (r s t : Outputs) (xs ys : Role → List ℕ) → TookEach sinks r s xs → TookEach sinks s t ys → TookEach sinks r t (λ role. xs role ++ ys role)
  each_then r s t xs ys p q = record {
    opened = q.opened ∙ p.opened;
    names = q.names ∙ p.names;
    taken = λ role. told_both (sink_of sinks role) (λ sink. s.taken sink.0 ≡ append_known (r.taken sink.0) (xs role)) (λ sink. t.taken sink.0 ≡ append_known (s.taken sink.0) (ys role))
        (λ sink. t.taken sink.0 ≡ append_known (r.taken sink.0) (xs role ++ ys role))
        (λ sink a b. b ∙ ap (λ (o : Option (List ℕ)). append_known o (ys role)) a ∙ append_known-append (r.taken sink.0) (xs role) (ys role)) (p.taken role) (q.taken role);
    others = λ id h. q.others id h ∙ p.others id h;
  }

  -- the same text in other words, of each role that has an output
  pub each_alike : (r t : Outputs) (xs ys : Role → List ℕ) → ((role : Role) → IfSome (sink_of sinks role) (λ sink. xs role ≡ ys role)) → TookEach sinks r t xs → TookEach sinks r t ys
  each_alike r t xs ys same p = record {
    opened = p.opened;
    names = p.names;
    taken = λ role. told_both (sink_of sinks role) (λ sink. xs role ≡ ys role) (λ sink. t.taken sink.0 ≡ append_known (r.taken sink.0) (xs role)) (λ sink. t.taken sink.0 ≡ append_known (r.taken sink.0) (ys role))
        (λ sink e a. a ∙ ap (append_known (r.taken sink.0)) e) (same role) (p.taken role);
    others = p.others;
  }

  pub fronts_alike : (r t : Outputs) (xs ys : Role → List ℕ) → ((role : Role) → IfSome (sink_of sinks role) (λ sink. xs role ≡ ys role)) → TookFronts sinks r t xs → TookFronts sinks r t ys
  fronts_alike r t xs ys same p = record {
    front = p.front;
    back = p.back;
    parts = λ role. told_both (sink_of sinks role) (λ sink. xs role ≡ ys role) (λ sink. xs role ≡ p.front role ++ p.back role) (λ sink. ys role ≡ p.front role ++ p.back role)
        (λ sink e a. sym e ∙ a) (same role) (p.parts role);
    took = p.took;
  }

  pub fails_alike : (status : Status) (r t : Outputs) (xs ys : Role → List ℕ) → ((role : Role) → IfSome (sink_of sinks role) (λ sink. xs role ≡ ys role)) → FailsTexts status sinks r t xs → FailsTexts status sinks r t ys
  unfolding fronts_alike
  fails_alike Done r t xs ys same p = absurd p
  fails_alike (Words index code) r t xs ys same p = absurd p
  fails_alike (Open role) r t xs ys same p = absurd p
  fails_alike (Read role) r t xs ys same p = absurd p
  fails_alike (Write role) r t xs ys same p = record { fronts = fronts_alike r t xs ys same p.fronts; proper = p.proper }
  fails_alike (Database line code) r t xs ys same p = absurd p
  fails_alike (Capture offset code) r t xs ys same p = absurd p
  fails_alike (PacketLimit max) r t xs ys same p = absurd p
  fails_alike NoMemory r t xs ys same p = fronts_alike r t xs ys same p
  fails_alike (Unbuilt which) r t xs ys same p = absurd p

  pub takes_alike : {A : Type 0} (result : Result A Status) (r t : Outputs) (xs ys : Role → List ℕ) → ((role : Role) → IfSome (sink_of sinks role) (λ sink. xs role ≡ ys role)) → TakesTexts result sinks r t xs → TakesTexts result sinks r t ys
  takes_alike (Ok done) r t xs ys same p = each_alike r t xs ys same p
  takes_alike (Err status) r t xs ys same p = fails_alike status r t xs ys same p

  -- all of it is a front
  pub fronts_all : (r t : Outputs) (xs : Role → List ℕ) → TookEach sinks r t xs → TookFronts sinks r t xs
  fronts_all r t xs p = record {
    front = xs;
    back = no_texts;
    parts = λ role. told_all (sink_of sinks role) (λ sink. xs role ≡ xs role ++ []) (λ sink. sym (append-nil (xs role)));
    took = p;
  }

  -- so is nothing
  pub fronts_none : (r : Outputs) (xs : Role → List ℕ) → TookFronts sinks r r xs
  fronts_none r xs = record {
    front = no_texts;
    back = xs;
    parts = λ role. told_all (sink_of sinks role) (λ sink. xs role ≡ xs role) (λ sink. refl);
    took = each_none r;
  }

  -- whole pieces, then fronts of the next ones; more may follow
  pub fronts_then : (r s t : Outputs) (xs ys zs whole : Role → List ℕ) → TookEach sinks r s xs → TookFronts sinks s t ys → ((role : Role) → whole role ≡ xs role ++ (ys role ++ zs role)) → TookFronts sinks r t whole
  fronts_then r s t xs ys zs whole p q e = record {
    front = λ role. xs role ++ q.front role;
    back = λ role. q.back role ++ zs role;
    parts = λ role. told_map (sink_of sinks role) (λ sink. ys role ≡ q.front role ++ q.back role) (λ sink. whole role ≡ (xs role ++ q.front role) ++ (q.back role ++ zs role))
        (λ sink d. regroup (whole role) (xs role) (ys role) (zs role) (q.front role) (q.back role) (e role) d) (q.parts role);
    took = each_then r s t xs q.front p q.took;
  }
    where
      regroup : (all x y z f b : List ℕ) → all ≡ x ++ (y ++ z) → y ≡ f ++ b → all ≡ (x ++ f) ++ (b ++ z)
      regroup all x y z f b g d = g ∙ ap (λ (l : List ℕ). x ++ (l ++ z)) d ∙ ap (λ (l : List ℕ). x ++ l) (append_assoc f b z) ∙ sym (append_assoc x f (b ++ z))

  pub parts_then : (failed : Role) (r s t : Outputs) (xs ys zs whole : Role → List ℕ) → TookEach sinks r s xs → TookParts failed sinks s t ys → ((role : Role) → whole role ≡ xs role ++ (ys role ++ zs role)) → TookParts failed sinks r t whole
  unfolding fronts_then
  parts_then failed r s t xs ys zs whole p q e = record {
    fronts = fronts_then r s t xs ys zs whole p q.fronts e;
    proper = match_map (sink_of sinks failed) (λ sink. 0 < length (q.fronts.back failed)) (λ sink. 0 < length (q.fronts.back failed ++ zs failed))
        (λ sink h. longer (q.fronts.back failed) (zs failed) h) q.proper;
  }
    where
      longer : (b z : List ℕ) → 0 < length b → 0 < length (b ++ z)
      longer b z h = omega (arith, length-append b z)

  pub fails_then : (status : Status) (r s t : Outputs) (xs ys zs whole : Role → List ℕ) → TookEach sinks r s xs → FailsTexts status sinks s t ys → ((role : Role) → whole role ≡ xs role ++ (ys role ++ zs role)) → FailsTexts status sinks r t whole
  fails_then Done r s t xs ys zs whole p q e = absurd q
  fails_then (Words index code) r s t xs ys zs whole p q e = absurd q
  fails_then (Open role) r s t xs ys zs whole p q e = absurd q
  fails_then (Read role) r s t xs ys zs whole p q e = absurd q
  fails_then (Write role) r s t xs ys zs whole p q e = parts_then role r s t xs ys zs whole p q e
  fails_then (Database line code) r s t xs ys zs whole p q e = absurd q
  fails_then (Capture offset code) r s t xs ys zs whole p q e = absurd q
  fails_then (PacketLimit max) r s t xs ys zs whole p q e = absurd q
  fails_then NoMemory r s t xs ys zs whole p q e = fronts_then r s t xs ys zs whole p q e
  fails_then (Unbuilt which) r s t xs ys zs whole p q e = absurd q

  -- the last piece
  pub takes_last : {A : Type 0} (result : Result A Status) (r s t : Outputs) (xs ys whole : Role → List ℕ) → TookEach sinks r s xs → TakesTexts result sinks s t ys → ((role : Role) → whole role ≡ xs role ++ (ys role ++ [])) → TakesTexts result sinks r t whole
  takes_last (Ok done) r s t xs ys whole p q e =
      each_alike r t (λ role. xs role ++ ys role) whole
      (λ role. told_all (sink_of sinks role) (λ sink. xs role ++ ys role ≡ whole role) (λ sink. ap (λ (l : List ℕ). xs role ++ l) (sym (append-nil (ys role))) ∙ sym (e role))) (each_then r s t xs ys p q)
  takes_last (Err status) r s t xs ys whole p q e = fails_then status r s t xs ys no_texts whole p q e

-- ---- the piece of one role

pdml_psml : ◌≡◌ {A = Role} Pdml Psml → ⊥
pdml_psml e = cc

pdml_trace : ◌≡◌ {A = Role} Pdml Trace → ⊥
pdml_trace e = cc

psml_trace : ◌≡◌ {A = Role} Psml Trace → ⊥
psml_trace e = cc

same_taken : (o : Option OutId) (sink : OutId) (s t : Outputs) (bytes : List ℕ) → o ≡ Some sink → Took sink.0 s t bytes → IfSome o (λ k. t.taken k.0 ≡ append_known (s.taken k.0) bytes)
same_taken o sink s t bytes e took =
    let P : Option OutId → Type 0 = λ p. IfSome p (λ k. t.taken k.0 ≡ append_known (s.taken k.0) bytes) in
    subst P (sym e) took.taken

other_taken : (o : Option OutId) (sink : OutId) (s t : Outputs) (bytes : List ℕ) → IfSome o (λ y. y.0 ≡ sink.0 → ⊥) → Took sink.0 s t bytes → IfSome o (λ k. t.taken k.0 ≡ append_known (s.taken k.0) [])
other_taken None sink s t bytes differs took = tt
other_taken (Some k) sink s t bytes differs took = took.others k.0 differs ∙ append_known-nil (s.taken k.0)

module _ (sinks : Sinks) (apart : AreApart sinks) (sink : OutId) (s t : Outputs) where
  -- the output of another role is another one
  away : (role other : Role) → (role ≡ other → ⊥) → sink_of sinks role ≡ Some sink → IfSome (sink_of sinks other) (λ y. y.0 ≡ sink.0 → ⊥)
  away role other differs e = told_here (sink_of sinks role) sink (λ x. IfSome (sink_of sinks other) (λ y. y.0 ≡ x.0 → ⊥)) e (apart role other differs)

  one_taken : (role : Role) (text : Role → List ℕ) → sink_of sinks role ≡ Some sink → Took sink.0 s t (text role) → (other : Role) → IfSome (sink_of sinks other) (λ k. t.taken k.0 ≡ append_known (s.taken k.0) (only role text other))
  one_taken Db text e took other = absurd (none_is_some e)
  one_taken Cap text e took other = absurd (none_is_some e)
  one_taken Out text e took other = absurd (none_is_some e)
  one_taken Pdml text e took Pdml = same_taken sinks.pdml sink s t (text Pdml) e took
  one_taken Pdml text e took Psml = other_taken sinks.psml sink s t (text Pdml) (away Pdml Psml pdml_psml e) took
  one_taken Pdml text e took Trace = other_taken sinks.trace sink s t (text Pdml) (away Pdml Trace pdml_trace e) took
  one_taken Pdml text e took Db = tt
  one_taken Pdml text e took Cap = tt
  one_taken Pdml text e took Out = tt
  one_taken Psml text e took Pdml = other_taken sinks.pdml sink s t (text Psml) (away Psml Pdml (λ h. pdml_psml (sym h)) e) took
  one_taken Psml text e took Psml = same_taken sinks.psml sink s t (text Psml) e took
  one_taken Psml text e took Trace = other_taken sinks.trace sink s t (text Psml) (away Psml Trace psml_trace e) took
  one_taken Psml text e took Db = tt
  one_taken Psml text e took Cap = tt
  one_taken Psml text e took Out = tt
  one_taken Trace text e took Pdml = other_taken sinks.pdml sink s t (text Trace) (away Trace Pdml (λ h. pdml_trace (sym h)) e) took
  one_taken Trace text e took Psml = other_taken sinks.psml sink s t (text Trace) (away Trace Psml (λ h. psml_trace (sym h)) e) took
  one_taken Trace text e took Trace = same_taken sinks.trace sink s t (text Trace) e took
  one_taken Trace text e took Db = tt
  one_taken Trace text e took Cap = tt
  one_taken Trace text e took Out = tt

  pub one_took : (role : Role) (text : Role → List ℕ) → sink_of sinks role ≡ Some sink → Took sink.0 s t (text role) → TookEach sinks s t (only role text)
  one_took role text e took = record {
    opened = took.opened;
    names = took.names;
    taken = one_taken role text e took;
    others = λ id h. took.others id (told_here (sink_of sinks role) sink (λ k. id ≡ k.0 → ⊥) e (h role));
  }

  only_parts : (role : Role) (text : Role → List ℕ) (f b : List ℕ) → text role ≡ f ++ b → (other : Role) → only role text other ≡ only role (λ r. f) other ++ only role (λ r. b) other
  only_parts Db text f b h other = refl
  only_parts Cap text f b h other = refl
  only_parts Out text f b h other = refl
  only_parts Pdml text f b h Pdml = h
  only_parts Pdml text f b h Psml = refl
  only_parts Pdml text f b h Trace = refl
  only_parts Pdml text f b h Db = refl
  only_parts Pdml text f b h Cap = refl
  only_parts Pdml text f b h Out = refl
  only_parts Psml text f b h Pdml = refl
  only_parts Psml text f b h Psml = h
  only_parts Psml text f b h Trace = refl
  only_parts Psml text f b h Db = refl
  only_parts Psml text f b h Cap = refl
  only_parts Psml text f b h Out = refl
  only_parts Trace text f b h Pdml = refl
  only_parts Trace text f b h Psml = refl
  only_parts Trace text f b h Trace = h
  only_parts Trace text f b h Db = refl
  only_parts Trace text f b h Cap = refl
  only_parts Trace text f b h Out = refl

  only_itself : (role : Role) (text : Role → List ℕ) → sink_of sinks role ≡ Some sink → only role text role ≡ text role
  only_itself Db text e = absurd (none_is_some e)
  only_itself Cap text e = absurd (none_is_some e)
  only_itself Out text e = absurd (none_is_some e)
  only_itself Pdml text e = refl
  only_itself Psml text e = refl
  only_itself Trace text e = refl

  pub one_part : (role : Role) (text : Role → List ℕ) → sink_of sinks role ≡ Some sink → TookPart sink.0 s t (text role) → TookParts role sinks s t (only role text)
  one_part role text e part =
      let some : 0 < length (only role (λ r. part.back) role) = rw (only_itself role (λ r. part.back) e) part.proper in
      record {
        fronts = record {
          front = only role (λ r. part.front);
          back = only role (λ r. part.back);
          parts = λ other. told_all (sink_of sinks other) (λ k. only role text other ≡ only role (λ r. part.front) other ++ only role (λ r. part.back) other)
              (λ k. only_parts role text part.front part.back part.parts other);
          took = one_took role (λ r. part.front) e part.took;
        };
        proper = (let P : Option OutId → Type 0 = λ o. IsSomeAnd o (λ k. 0 < length (only role (λ r. part.back) role)) in subst P (sym e) some);
      }

-- the writing of the piece was refused
pub piece_refused : (sinks : Sinks) (apart : AreApart sinks) (sink : OutId) (s t : Outputs) (fail : HostFail) (role : Role) (text : Role → List ℕ) → sink_of sinks role ≡ Some sink → TookPart sink.0 s t (text role) → FailsTexts (refusal (Write role) fail) sinks s t (only role text)
piece_refused sinks apart sink s t host.Failed role text e part = one_part sinks apart sink s t role text e part
piece_refused sinks apart sink s t host.NoMemory role text e part = (one_part sinks apart sink s t role text e part).fronts

-- ---- the pieces of all roles

-- PDML, PSML and trace are all
pub all_pieces : (pdml psml trace : List ℕ) (role : Role) → pieces pdml psml trace role ≡ only Pdml (λ r. pdml) role ++ (only Psml (λ r. psml) role ++ only Trace (λ r. trace) role)
all_pieces pdml psml trace Db = refl
all_pieces pdml psml trace Cap = refl
all_pieces pdml psml trace Pdml = sym (append-nil pdml)
all_pieces pdml psml trace Psml = sym (append-nil psml)
all_pieces pdml psml trace Trace = refl
all_pieces pdml psml trace Out = refl

pub last_piece : (pdml psml trace : List ℕ) (role : Role) → pieces pdml psml trace role ≡ (only Pdml (λ r. pdml) role ++ only Psml (λ r. psml) role) ++ (only Trace (λ r. trace) role ++ [])
last_piece pdml psml trace role = all_pieces pdml psml trace role ∙ regroup (only Pdml (λ r. pdml) role) (only Psml (λ r. psml) role) (only Trace (λ r. trace) role)
  where
    regroup : (a b c : List ℕ) → a ++ (b ++ c) ≡ (a ++ b) ++ (c ++ [])
    regroup a b c = sym (append_assoc a b c) ∙ ap (λ (l : List ℕ). (a ++ b) ++ l) (sym (append-nil c))

-- the same pieces in other words
pub takes_pieces : {A : Type 0} (sinks : Sinks) (result : Result A Status) (r t : Outputs) (a b c x y z : List ℕ) → a ≡ x → b ≡ y → c ≡ z → TakesTexts result sinks r t (pieces a b c) → TakesTexts result sinks r t (pieces x y z)
takes_pieces sinks result r t a b c x y z e f g took =
    let P : List ℕ → List ℕ → List ℕ → Type 0 = λ k l m. TakesTexts result sinks r t (pieces k l m) in
    subst (λ (m : List ℕ). P x y m) g (subst (λ (l : List ℕ). P x l c) f (subst (λ (k : List ℕ). P k b c) e took))

-- of the outputs that are there the texts that are wanted are these, where the trace has none
module _ (sinks : Sinks) (texts : Texts) (text : Role → List ℕ) (hold : Hold (wanted_of sinks) texts (text Pdml) (text Psml)) (none : [] ≡ text Trace) where
  there : (sink : Option OutId) (of : List ℕ) → IfSome sink (λ k. text_if (is_there sink) of ≡ of)
  there None of = tt
  there (Some k) of = refl

  pub wanted_alike : (role : Role) → IfSome (sink_of sinks role) (λ k. pieces texts.pdml.items texts.psml.items [] role ≡ text role)
  wanted_alike Db = tt
  wanted_alike Cap = tt
  wanted_alike Out = tt
  wanted_alike Pdml = told_map sinks.pdml (λ k. text_if (is_there sinks.pdml) (text Pdml) ≡ text Pdml) (λ k. texts.pdml.items ≡ text Pdml) (λ k e. hold.pdml ∙ e) (there sinks.pdml (text Pdml))
  wanted_alike Psml = told_map sinks.psml (λ k. text_if (is_there sinks.psml) (text Psml) ≡ text Psml) (λ k. texts.psml.items ≡ text Psml) (λ k e. hold.psml ∙ e) (there sinks.psml (text Psml))
  wanted_alike Trace = told_all sinks.trace (λ k. [] ≡ text Trace) (λ k. none)

-- ---- the texts of packets that are settled

-- the piece of the trace is the line, where the trace is named
pub line_alike : (sinks : Sinks) (pdml psml line own : List ℕ) → IfSome sinks.trace (λ sink. line ≡ own) → (role : Role) → IfSome (sink_of sinks role) (λ sink. pieces pdml psml line role ≡ pieces pdml psml own role)
line_alike sinks pdml psml line own e Db = tt
line_alike sinks pdml psml line own e Cap = tt
line_alike sinks pdml psml line own e Pdml = told_all sinks.pdml (λ sink. pdml ≡ pdml) (λ sink. refl)
line_alike sinks pdml psml line own e Psml = told_all sinks.psml (λ sink. psml ≡ psml) (λ sink. refl)
line_alike sinks pdml psml line own e Trace = e
line_alike sinks pdml psml line own e Out = tt

-- the texts of the first packets, of one and of the others
pub ready_parts : (first others : List Ready) (one : Ready) (role : Role) → ready_texts (first ++ one ∷ others) role ≡ ready_texts first role ++ (ready_text one role ++ ready_texts others role)
ready_parts first others one Db = refl
ready_parts first others one Cap = refl
ready_parts first others one Pdml = flat_map-append (λ (y : Ready). y.texts.pdml.items) first (one ∷ others)
ready_parts first others one Psml = flat_map-append (λ (y : Ready). y.texts.psml.items) first (one ∷ others)
ready_parts first others one Trace = flat_map-append (λ (y : Ready). trace_line y.receipt) first (one ∷ others)
ready_parts first others one Out = refl

ready_more : (first : List Ready) (one : Ready) (role : Role) → ready_texts first role ++ ready_text one role ≡ ready_texts (first ++ one ∷ []) role
ready_more first one role = sym (ready_parts first [] one role ∙ ap (λ (l : List ℕ). ready_texts first role ++ l) (behind role))
  where
    behind : (role : Role) → ready_text one role ++ ready_texts [] role ≡ ready_text one role
    behind Db = refl
    behind Cap = refl
    behind Pdml = append-nil one.texts.pdml.items
    behind Psml = append-nil one.texts.psml.items
    behind Trace = append-nil (trace_line one.receipt)
    behind Out = refl

-- the packets are the first ones, one and the others
parts_at : (ready : List Ready) (i : ℕ) (one : Ready) → i < length ready → one ≡ get_or ready i one → ready ≡ take i ready ++ one ∷ drop (i + 1) ready
parts_at ready i one within is =
    sym (take-append-drop (i + 1) ready)
    ∙ ap (λ (l : List Ready). l ++ drop (i + 1) ready) (take_more ready i one within ∙ ap (λ (y : Ready). take i ready ++ y ∷ []) (sym is))
    ∙ append_assoc (take i ready) (one ∷ []) (drop (i + 1) ready)

module _ (sinks : Sinks) (ready : List Ready) (i : ℕ) (one : Ready) (within : i < length ready) (is : one ≡ get_or ready i one) (r s t : Outputs) (took : TookEach sinks r s (ready_texts (take i ready))) where
  -- one packet more was written
  pub ready_took : TookEach sinks s t (ready_text one) → TookEach sinks r t (ready_texts (take (i + 1) ready))
  ready_took next =
      let so : take (i + 1) ready ≡ take i ready ++ one ∷ [] = take_more ready i one within ∙ ap (λ (y : Ready). take i ready ++ y ∷ []) (sym is) in
      subst (λ (l : List Ready). TookEach sinks r t (ready_texts l)) (sym so)
      (each_alike sinks r t (λ role. ready_texts (take i ready) role ++ ready_text one role) (ready_texts (take i ready ++ one ∷ []))
      (λ role. told_all (sink_of sinks role) (λ sink. ready_texts (take i ready) role ++ ready_text one role ≡ ready_texts (take i ready ++ one ∷ []) role) (λ sink. ready_more (take i ready) one role))
      (each_then sinks r s t (ready_texts (take i ready)) (ready_text one) took next))

  -- the writing of one gave up
  pub ready_failed : (status : Status) → FailsTexts status sinks s t (ready_text one) → FailsTexts status sinks r t (ready_texts ready)
  ready_failed status fails =
      fails_then sinks status r s t (ready_texts (take i ready)) (ready_text one) (ready_texts (drop (i + 1) ready)) (ready_texts ready) took fails
      (λ role. ap (λ (l : List Ready). ready_texts l role) (parts_at ready i one within is) ∙ ready_parts (take i ready) (drop (i + 1) ready) one role)
