-- A look-up that doesn't renew leaves the session, and has the answer of one that does.
use Rattle.std.specs.Prelude.{◌≡◌, ℕ, zero, suc, Bool, true, false, List, [], ◌∷◌, ◌++◌, slice_get, slice_set, Option, Some, None, Ok}
use Rattle.std.proofs.Common.{refl, sym, ap, ◌∙◌}
use Rattle.db_model.specs.declared.database.Database.{Database}
use Rattle.db_model.specs.declared.database.TableDecl.{TableDecl}
use Rattle.db_model.specs.declared.entry.Entry.{Entry}
use Rattle.db_model.specs.declared.entry.NewEntry.{NewEntry}
use Rattle.db_model.specs.declared.question.Answer.{Answer}
use Rattle.db_model.specs.declared.question.Answer.TheVariants.{Done}
use Rattle.db_model.specs.declared.question.Question.{Question}
use Rattle.db_model.specs.declared.question.Question.TheVariants.{Look, Add}
use Rattle.db_model.specs.Fitting.{question_fits}
use Rattle.db_model.specs.Over.{AnswersTo}
use Rattle.db_model.specs.Questions.{Log}
use Rattle.db_model.specs.Session.{Session, ask, look_in, add_in}
use Rattle.db_model.specs.Table.{Parts, KeyList, answered, look, matching_entry}
use Rattle.op_log.specs.Overlay.{AreAnswers, Twice}

set_same : {A : Type 0} (xs : List A) (n : ℕ) (x : A) → slice_get xs n ≡ Some x → slice_set xs n x ≡ xs
set_same [] n x e = (cc)
set_same (y ∷ xs) zero x e = let h : x ≡ y = (cc) in ap (λ z. z ∷ xs) h
set_same (y ∷ xs) (suc n) x e = ap (λ zs. y ∷ zs) (set_same xs n x e)

module _ (keys : KeyList) (t : ℕ) where
  left_by : (d : TableDecl) (table : Parts) (m : Option Entry) → (answered d table keys false t m).1 ≡ table
  left_by d table None = refl
  left_by d table (Some e) = refl

  same_by : (d : TableDecl) (table : Parts) (renew : Bool) (m : Option Entry) → (answered d table keys renew t m).0 ≡ (answered d table keys false t m).0
  same_by d table renew None = refl
  same_by d table renew (Some e) = refl

  left_in : (d : Option TableDecl) (table : Option Parts) (s : Session) (n : ℕ) → slice_get s n ≡ table → (look_in d table s n keys false t).1 ≡ s
  unfolding look
  left_in (Some d) (Some table) s n e = ap (slice_set s n) (left_by d table (matching_entry table keys t)) ∙ set_same s n table e
  left_in (Some d) None s n e = refl
  left_in None table s n e = refl

  same_in : (d : Option TableDecl) (table : Option Parts) (s : Session) (n : ℕ) (renew : Bool) → (look_in d table s n keys renew t).0 ≡ (look_in d table s n keys false t).0
  unfolding look
  same_in (Some d) (Some table) s n renew = same_by d table renew (matching_entry table keys t)
  same_in (Some d) None s n renew = refl
  same_in None table s n renew = refl

  module _ (db : Database) (s : Session) (n : ℕ) where
    pub plain_leaves : (ask db s (Look n keys false) t).1 ≡ s
    unfolding ask
    plain_leaves = left_in (slice_get db.tables n) (slice_get s n) s n refl

    pub plain_answer : (renew : Bool) → (ask db s (Look n keys renew) t).0 ≡ (ask db s (Look n keys false) t).0
    unfolding ask
    plain_answer renew = same_in (slice_get db.tables n) (slice_get s n) s n renew

    pub plain_fits : (renew : Bool) → question_fits db (Look n keys renew) ≡ true → question_fits db (Look n keys false) ≡ true
    unfolding question_fits
    plain_fits renew h = h

done_in : (d : Option TableDecl) (table : Option Parts) (s : Session) (n : ℕ) (e : NewEntry) (t : ℕ) → (add_in d table s n e t).0 ≡ Done
done_in (Some d) (Some table) s n e t = refl
done_in (Some d) None s n e t = refl
done_in None table s n e t = refl

-- an addition is done
pub add_done : (db : Database) (s : Session) (n : ℕ) (e : NewEntry) (t : ℕ) → (ask db s (Add n e) t).0 ≡ Done
unfolding ask
add_done db s n e t = done_in (slice_get db.tables n) (slice_get s n) s n e t

-- ---- what a session without a told list answers

module _ (db : Database) (t : ℕ) (s s' : Session) where
  -- a look-up that doesn't renew
  module _ (n : ℕ) (keys : KeyList) (q : Question) (is : q ≡ Look n keys false) (a : Answer) (h : AnswersTo db t q (Ok a) s None s' None) where
    pub looked_content : s' ≡ s
    looked_content = h.1.content ∙ ap (λ (x : Question). (ask db s x t).1) is ∙ plain_leaves keys t db s n

    pub looked_answers : (noted : Answer) → noted ≡ a → AreAnswers (ask db s (Look n keys false) t).0 (a, noted)
    looked_answers noted e =
        let k : a ≡ (ask db s (Look n keys false) t).0 = h.0 ∙ ap (λ (x : Question). (ask db s x t).0) is in
        (k, e ∙ k)

  -- an addition
  pub added_twice : (q : Question) (n : ℕ) (e : NewEntry) (a : Answer) → q ≡ Add n e → AnswersTo db t q (Ok a) s None s' None → Twice db t q s (Ok (Done, Done)) s'
  added_twice q n e a is h =
      let d : Done ≡ (ask db s q t).0 = sym (ap (λ (x : Question). (ask db s x t).0) is ∙ add_done db s n e t) in
      ((d, d), h.1.content)

  -- a look-up that doesn't renew, and one that does
  module _ (q : Question) (n : ℕ) (keys : KeyList) (renew : Bool) (is : q ≡ Look n keys renew) (r : Answer × Answer) (plain : AreAnswers (ask db s (Look n keys false) t).0 r) where
    answers : AreAnswers (ask db s q t).0 r
    answers =
        let e : (ask db s (Look n keys false) t).0 ≡ (ask db s q t).0 = sym (ap (λ (x : Question). (ask db s x t).0) is ∙ plain_answer keys t db s n renew) in
        (plain.0 ∙ e, plain.1 ∙ e)

    pub plainly_twice : renew ≡ false → s' ≡ s → Twice db t q s (Ok r) s'
    plainly_twice e h =
        let l : (ask db s q t).1 ≡ s = ap (λ (x : Question). (ask db s x t).1) is ∙ (ap (λ b. (ask db s (Look n keys b) t).1) e ∙ plain_leaves keys t db s n) in
        (answers, h ∙ sym l)

    pub renewed_twice : (d : Database) (c : Session) (a : Answer) → d ≡ db → c ≡ s → AnswersTo d t q (Ok a) c None s' None → Twice db t q s (Ok r) s'
    renewed_twice d c a e k h =
        (answers, h.1.content ∙ (ap (λ (x : Database). (ask x c q t).1) e ∙ ap (λ (x : Session). (ask db x q t).1) k))

-- an answer of which a copy was noted behind the others
pub noted_answers : (db : Database) (t : ℕ) (q asked : Question) (s s' : Session) (a noted : Answer) (l l' : Log) → asked ≡ q → Twice db t q s (Ok (a, noted)) s' → l' ≡ l ++ (asked, noted) ∷ [] → AnswersTo db t q (Ok a) s (Some l) s' (Some l')
noted_answers db t q asked s s' a noted l l' is h e =
    let p : (asked, noted) ≡ (q, a) = ap (λ (x : Question). (x, noted)) is ∙ ap (λ (x : Answer). (q, x)) (h.0.1 ∙ sym h.0.0) in
    (h.0.0, record { content = h.1; told = ap Some (e ∙ ap (λ (x : Question × Answer). l ++ x ∷ []) p) })
