-- The two passes over a text, byte by byte.
use Rattle.std.proofs.Common.{◌≡◌, ◌≤◌, ℕ, List, [], ◌∷◌, length, Option, Some, None, Result, Ok, Err, refl, sym, ap, subst, ◌∙◌, arith}
use Rattle.db_cause.specs.declared.cause.Cause.TheVariants as cause
use Rattle.db_cause.specs.Codes
use Rattle.db_text.specs.declared.fail.TextFail.{TextFail}
use Rattle.db_text.specs.declared.fail.TextFail.TheVariants as fail
use Rattle.db_text.specs.declared.mode.Mode.{Mode}
use Rattle.db_text.specs.declared.node.Node.{Node}
use Rattle.db_text.specs.declared.notes.Notes.{Notes}
use Rattle.db_text.specs.declared.parts.Parts.{Parts}
use Rattle.db_text.specs.Answer.{Answers}
use Rattle.db_text.specs.Outcome.{Answer, Told, Advanced, Built, at_end, outcome, built, text_outcome, text_built}
use Rattle.db_text.specs.Refusal.{IsText, IsRefused, faulty, too_deep_within}
use Rattle.db_text.specs.Text.{next_line}
use Rattle.db_text.proofs.Outcomes.{Tells, told, built_whole}

no_byte : (xs : List ℕ) → length xs ≡ 0 → xs ≡ []
no_byte [] h = refl
no_byte (x ∷ xs) h = absurd (omega (arith, h))

-- ---- the first pass

pub taken : (line : ℕ) (m : Mode) (n : Notes) (b : ℕ) (bs rest : List ℕ) (m' : Mode) (n' : Notes) → rest ≡ b ∷ bs → Advanced line m n b (Ok m') n' → outcome (next_line line b) m' n' bs ≡ outcome line m n rest
unfolding outcome
taken line m n b bs rest m' n' e a = sym (ap (outcome line m n) e ∙ a (λ x y. outcome (next_line line b) x y bs))

pub faulted : (line : ℕ) (m : Mode) (n : Notes) (b : ℕ) (bs rest : List ℕ) (f : TextFail) (n' : Notes) (o : Answer) → rest ≡ b ∷ bs → Advanced line m n b (Err f) n' → outcome line m n rest ≡ o → Told (Err f) o
unfolding outcome
faulted line m n b bs rest (fail.Fault at code) n' o e a h = sym h ∙ ap (outcome line m n) e ∙ a (λ x y. outcome (next_line line b) x y bs)
faulted line m n b bs rest fail.NoMemory n' o e a h = tt

pub at_its_end : (line : ℕ) (m : Mode) (n : Notes) (rest : List ℕ) (r : Result (Option ℕ) TextFail) (o : Answer) → length rest ≡ 0 → Told r (at_end line m n) → outcome line m n rest ≡ o → Told r o
unfolding outcome
at_its_end line m n rest r o e t h = subst (Told r) (sym (ap (outcome line m n) (no_byte rest e)) ∙ h) t

-- ---- the second pass

pub built_on : (line : ℕ) (m : Mode) (n : Notes) (q : Parts) (b : ℕ) (bs rest : List ℕ) (m' : Mode) (n' : Notes) (q' : Parts) → rest ≡ b ∷ bs → Built line m n q b (Some m') n' q' → built (next_line line b) m' n' q' bs ≡ built line m n q rest
unfolding built
built_on line m n q b bs rest m' n' q' e a = sym (ap (built line m n q) e ∙ a (λ x y z. built (next_line line b) x y z bs))

pub not_built : (line : ℕ) (m : Mode) (n : Notes) (q : Parts) (b : ℕ) (bs rest : List ℕ) (n' : Notes) (q' : Parts) → rest ≡ b ∷ bs → Built line m n q b None n' q' → built line m n q rest ≡ None
unfolding built
not_built line m n q b bs rest n' q' e a = ap (built line m n q) e ∙ a (λ x y z. built (next_line line b) x y z bs)

pub built_end : (line : ℕ) (m : Mode) (n : Notes) (q : Parts) (rest : List ℕ) → length rest ≡ 0 → built line m n q rest ≡ q.top
unfolding built
built_end line m n q rest e = ap (built line m n q) (no_byte rest e)

-- ---- the answer

module _ (bytes : List ℕ) (within : length bytes ≤ 1048576) where
  pub fault_by : (f : TextFail) → Told (Err f) (text_outcome bytes) → Answers bytes (Err f)
  fault_by (fail.Fault line code) h = faulty within (subst (Tells bytes) h (told bytes))
  fault_by fail.NoMemory h = tt

  pub deep_by : (line : ℕ) (o : Option ℕ) → text_outcome bytes ≡ Ok o → o ≡ Some line → IsRefused bytes line (Codes.code cause.TextTooDeep)
  deep_by line o h e =
      let t : Tells bytes (Ok (Some line)) = subst (Tells bytes) (h ∙ ap (λ x. Ok x) e) (told bytes) in
      too_deep_within within (record { element = t.0; spelled = t.1; deep = t.2 }) refl

  pub text_by : (n : Node) → text_outcome bytes ≡ Ok None → text_built bytes ≡ Some n → IsText bytes n
  text_by n h b =
      let t : Tells bytes (Ok None) = subst (Tells bytes) h (told bytes) in
      let same : t.0 ≡ n = let p = built_whole bytes t.0 t.1 in cc in
      subst (IsText bytes) same (record { within = within; spelled = t.1; deep = t.2 })

  pub is_built : text_outcome bytes ≡ Ok None → text_built bytes ≡ None → ⊥
  is_built h b =
      let t : Tells bytes (Ok None) = subst (Tells bytes) h (told bytes) in
      let p = built_whole bytes t.0 t.1 in
      cc

pub none_of : (o : Option Mode) → ((m : Mode) → o ≡ Some m → ⊥) → o ≡ None
none_of None f = refl
none_of (Some m) f = absurd (f m refl)
