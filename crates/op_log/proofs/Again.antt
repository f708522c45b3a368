-- A log that is asked again, up to a place: what differs in the whole is what differs in the rest.
use Rattle.std.specs.Prelude.{◌≡◌, ℕ, suc, ◌+◌, ◌<◌, ◌≤◌, Bool, true, false, ◌&&◌, [], ◌∷◌, length, drop, ◌↔◌, Option, Some, None, unwrap_or}
use Rattle.std.proofs.Common.{refl, sym, ap, ◌∙◌, arith, get_or, zero-add}
use Rattle.std.proofs.lemmas.List.{drop_more, drop_all}
use Rattle.db_model.specs.declared.database.Database.{Database}
use Rattle.db_model.specs.declared.question.Question.{Question}
use Rattle.db_model.specs.declared.question.Answer.{Answer}
use Rattle.db_model.specs.Fitting.{question_fits, log_fits}
use Rattle.db_model.specs.Questions.{Log}
use Rattle.db_model.specs.Replay.{Agrees, Difference, differs, differs_by, later, same_answer}
use Rattle.db_model.specs.Session.{Session, ask}
use Rattle.db_laws.specs.Laws.{DiffersNowhere}
use Rattle.op_log.specs.declared.transcript.Check.{Check}
use Rattle.op_log.specs.declared.transcript.Check.TheVariants as answer
use Rattle.op_log.specs.Checked.{answer_of, unless, unless_same}

-- a difference so many places later
abbrev pub behind : ℕ → Option Difference → Option Difference
behind i None = None
behind i (Some d) = Some (record d { place = i + d.place })

behind_none : (o : Option Difference) → o ≡ behind 0 o
behind_none None = refl
behind_none (Some d) = ap (λ n. Some (record d { place = n })) (sym (zero-add d.place))

behind_later : (i : ℕ) (o : Option Difference) → behind i (later o) ≡ behind (i + 1) o
behind_later i None = refl
behind_later i (Some d) = let e : i + suc d.place ≡ i + 1 + d.place = omega arith in ap (λ n. Some (record d { place = n })) e

by_none : (b : Bool) (old new : Answer) → unless b old new ≡ None → b ≡ true
by_none true old new e = refl
by_none false old new e = (cc)

by_some : (b : Bool) (old new x y : Answer) → unless b old new ≡ Some (x, y) → (b ≡ false) × (old ≡ x) × (new ≡ y)
by_some true old new x y e = (cc)
by_some false old new x y e = (refl, ap (λ (o : Option (Answer × Answer)). (unwrap_or o (old, new)).0) e, ap (λ (o : Option (Answer × Answer)). (unwrap_or o (old, new)).1) e)

two : (a b : Bool) → a && b ≡ true → (a ≡ true) × (b ≡ true)
two true b h = (refl, h)
two false b h = (cc)

module _ (db : Database) (t : ℕ) (l : Log) where
  -- the rest from a place on, whose first pair was read
  rest_at : (i : ℕ) (e : Question × Answer) → i < length l → e ≡ get_or l i e → drop i l ≡ e ∷ drop (i + 1) l
  rest_at i e h p = drop_more l i e h ∙ ap (λ y. y ∷ drop (i + 1) l) (sym p)

  -- the difference of the whole is that of the rest, so many places later; and the questions of the rest fit
  pub record SoFar (s : Session) (i : ℕ) (s' : Session) : Type 0 where
    pub difference : differs db t l s ≡ behind i (differs db t (drop i l) s')
    pub fits : log_fits db (drop i l) ≡ true

  pub so_far_first : (s s' : Session) → s' ≡ s → log_fits db l ≡ true → SoFar s 0 s'
  so_far_first s s' e h = record { difference = behind_none (differs db t l s) ∙ ap (λ (x : Session). behind 0 (differs db t l x)) (sym e); fits = h }

  module _ (s : Session) (i : ℕ) (s' : Session) (h : SoFar s i s') (e : Question × Answer) (within : i < length l) (at : e ≡ get_or l i e) where
    abbrev found : Answer
    found = (ask db s' e.0 t).0

    abbrev next : Option Difference
    next = differs db t (drop (i + 1) l) (ask db s' e.0 t).1

    fits_both : (question_fits db e.0 ≡ true) × (log_fits db (drop (i + 1) l) ≡ true)
    fits_both = two (question_fits db e.0) (log_fits db (drop (i + 1) l)) (sym (ap (log_fits db) (rest_at i e within at)) ∙ h.fits)

    here : (b : Bool) → same_answer found e.1 ≡ b → differs db t l s ≡ behind i (differs_by b e.1 found next)
    here b k =
        h.difference ∙ ap (λ (m : Log). behind i (differs db t m s')) (rest_at i e within at)
        ∙ ap (λ x. behind i (differs_by x e.1 found next)) k

    pub so_far_fits : (d : Database) → d ≡ db → question_fits d e.0 ≡ true
    so_far_fits d k = ap (λ (x : Database). question_fits x e.0) k ∙ fits_both.0

    -- what was asked of a session of that database
    module _ (d : Database) (is : d ≡ db) (o : Option (Answer × Answer)) (asked : o ≡ unless_same e.1 (ask d s' e.0 t).0) where
      asked_here : o ≡ unless_same e.1 found
      asked_here = asked ∙ ap (λ (x : Database). unless_same e.1 (ask x s' e.0 t).0) is

      pub so_far_next : o ≡ None → (c : Session) → c ≡ (ask d s' e.0 t).1 → SoFar s (i + 1) c
      so_far_next n c k =
          let b = by_none (same_answer found e.1) e.1 found (sym asked_here ∙ n) in
          let m : (ask db s' e.0 t).1 ≡ c = sym (k ∙ ap (λ (x : Database). (ask x s' e.0 t).1) is) in
          record {
            difference = here true b ∙ behind_later i next ∙ ap (λ (x : Session). behind (i + 1) (differs db t (drop (i + 1) l) x)) m;
            fits = fits_both.1;
          }

      pub so_far_here : (old new : Answer) → o ≡ Some (old, new) → answer.Differs i old new ≡ answer_of (differs db t l s)
      so_far_here old new k =
          let b = by_some (same_answer found e.1) e.1 found old new (sym asked_here ∙ k) in
          let n : i + 0 ≡ i = omega arith in
          sym (ap answer_of (here false b.0) ∙ (ap (λ m. answer.Differs m e.1 found) n ∙ (ap (λ x. answer.Differs i x found) b.1 ∙ ap (λ x. answer.Differs i old x) b.2)))

  pub so_far_end : (s : Session) (i : ℕ) (s' : Session) → SoFar s i s' → length l ≤ i → answer.Agrees ≡ answer_of (differs db t l s)
  so_far_end s i s' h e = sym (ap answer_of (h.difference ∙ ap (λ (m : Log). behind i (differs db t m s')) (drop_all i l e)))

  -- ---- the answer

  no_difference : (o : Option Difference) → answer_of o ≡ answer.Agrees → o ≡ None
  no_difference None e = refl
  no_difference (Some d) e = (cc)

  pub agrees_where : DiffersNowhere → (s : Session) (c : Check) → c ≡ answer_of (differs db t l s) → (c ≡ answer.Agrees) ↔ Agrees db t l s
  agrees_where law s c e =
      ((λ h. (law db t l s).0 (no_difference (differs db t l s) (sym e ∙ h))), (λ h. e ∙ ap answer_of ((law db t l s).1 h)))
