-- What settling one packet leaves, from the laws of decodings.
use Rattle.std.specs.Prelude.{◌≡◌, ◌≤◌, true, List, length, None}
use Rattle.std.proofs.Common.{sym, ap, subst, ◌∙◌}
use Rattle.db_model.specs.declared.database.Database.{Database}
use Rattle.db_model.specs.declared.packet.Packet.{Packet}
use Rattle.db_model.specs.declared.tree.Proto.{Proto}
use Rattle.db_model.specs.Decoding.{dec}
use Rattle.db_model.specs.Fitting.{log_fits}
use Rattle.db_model.specs.Objection.{IsChecked}
use Rattle.db_model.specs.Questions.{Log, Played}
use Rattle.db_model.specs.Replay.{after, Agrees, differs}
use Rattle.db_model.specs.Session.{Session}
use Rattle.db_laws.specs.Laws.{DecodingFits}
use Rattle.db_laws.proofs.LawsHold.{unchanged_decoding, differs_nowhere}
use Rattle.engine.specs.declared.texts.Wanted.{Wanted}
use Rattle.spec_core.specs.declared.slot.Speculation.{Speculation}
use Rattle.spec_core.specs.Settling.{IsDecoded}
use Rattle.spec_core.specs.Texts.{texts_of}

module _ (wanted : Wanted) (db : Database) (p : Packet) (x : Speculation) (d : IsDecoded wanted db p x) where
  -- a log that agrees: decoding here is what was decoded there, and its log leaves the session
  pub kept : (s : Session) → differs db p.stamp x.log s ≡ None → (x.texts ≡ texts_of wanted db p (dec db p s).result) × (after db p.stamp x.log s ≡ (dec db p s).session)
  kept s none =
      let agrees : Agrees db p.stamp x.log s = (differs_nowhere db p.stamp x.log s).0 none in
      let same = unchanged_decoding db p d.view s (subst (λ (l : Log). Agrees db p.stamp l s) d.log agrees) in (
        d.texts ∙ ap (λ (r : Played (List Proto)). texts_of wanted db p r.result) (sym same),
        ap (λ (l : Log). after db p.stamp l s) d.log ∙ ap (λ (r : Played (List Proto)). r.session) (sym same),
      )

  -- the same in a session of this database
  pub kept_in : (e : Database) (s : Session) → e ≡ db → differs e p.stamp x.log s ≡ None → (x.texts ≡ texts_of wanted db p (dec db p s).result) × (after e p.stamp x.log s ≡ (dec db p s).session)
  kept_in e s same none =
      let k = kept s (subst (λ (d : Database). differs d p.stamp x.log s ≡ None) same none) in
      (k.0, ap (λ (d : Database). after d p.stamp x.log s) same ∙ k.1)

  pub fits : DecodingFits → IsChecked db → log_fits db x.log ≡ true
  fits law h = subst (λ (l : Log). log_fits db l ≡ true) (sym d.log) (law.log db p d.view h)

  pub most : DecodingFits → IsChecked db → length x.log ≤ 1024
  most law h = subst (λ (l : Log). length l ≤ 1024) (sym d.log) (law.most db p d.view h)
