-- The machine's outcome is the answer that the grammar gives, and each answer is that of the outcome.
use Rattle.std.proofs.Common.{◌≡◌, ℕ, List, [], ◌∷◌, ◌++◌, length, Option, Some, None, Ok, Err, inl, inr, refl, sym, ap, subst, ◌∙◌, append_assoc, append-nil, arith}
use Rattle.db_model.specs.declared.expression.Expr.{Expr}
use Rattle.expr_text.specs.declared.lexeme.Lexeme.{Lexeme}
use Rattle.expr_text.specs.declared.lexeme.Lexeme.TheVariants as lexeme
use Rattle.expr_text.specs.declared.state.State.{State}
use Rattle.expr_text.specs.declared.token.Token.{Token}
use Rattle.expr_text.specs.declared.token.Token.TheVariants as token
use Rattle.expr_text.specs.Lexing.{Placed, lexemes, AreTokens}
use Rattle.expr_text.specs.Machine.{start, step, fed, ended}
use Rattle.expr_text.specs.Outcome.{Answer, or_fault, after, at_end, outcome}
use Rattle.expr_text.specs.Refusal.{Viable, IsSpelled, IsSmall, IsText, IsFaulty, IsFaultyAt, IsFaultyFrom, IsRefused, too_long, faulty, too_large}
use Rattle.expr_text.proofs.Accepted.{accepted}
use Rattle.expr_text.proofs.Followed.{followed}
use Rattle.expr_text.proofs.Finishes.{fed-append, fed_none, alive, refused}

-- a lexeme that is a token behind others
AreTokens-push : (ps : List Placed) (ts : List Token) (p : Placed) (t : Token) → AreTokens ps ts → p.lexeme ≡ lexeme.Token t → AreTokens (ps ++ p ∷ []) (ts ++ t ∷ [])
AreTokens-push [] [] p t are e = (e, tt)
AreTokens-push [] (u ∷ ts) p t are e = absurd are
AreTokens-push (q ∷ ps) [] p t are e = absurd are
AreTokens-push (q ∷ ps) (u ∷ ts) p t are e = (are.0, AreTokens-push ps ts p t are.1 e)

fed-push : (front : List Token) (s : State) (t : Token) → fed (Some start) front ≡ Some s → fed (Some start) (front ++ t ∷ []) ≡ step s t
fed-push front s t q = fed-append (Some start) front (t ∷ []) ∙ ap (λ x. fed x (t ∷ [])) q

-- what an answer says of a text
abbrev pub Tells : List ℕ → Answer → Type 0
Tells bytes (Ok e) = IsSpelled bytes e
Tells bytes (Err f) = IsFaulty bytes f.0 f.1

-- ---- the outcome is right

module _ (bytes : List ℕ) where
  -- the first lexemes are tokens that the machine has taken
  record Taken (before ps : List Placed) (front : List Token) (s : State) : Type 0 where
    parts : lexemes bytes ≡ before ++ ps
    are : AreTokens before front
    taken : fed (Some start) front ≡ Some s

  faulty_here : (before ps : List Placed) (front : List Token) (s : State) (at code : ℕ) → Taken before ps front s → IsFaultyFrom (length bytes) front ps at code → IsFaulty bytes at code
  faulty_here before ps front s at code k f = record {
    before = before;
    from = ps;
    parts = k.parts;
    front = front;
    are = k.are;
    viable = alive front s k.taken;
    fault = f;
  }

  tells_end : (before : List Placed) (front : List Token) (s : State) → Taken before [] front s → (r : Option Expr) → ended (Some s) ≡ r → Tells bytes (at_end (length bytes) r)
  tells_end before front s k (Some e) h = record {
    tokens = front;
    are = subst (λ ps. AreTokens ps front) (sym (k.parts ∙ append-nil before)) k.are;
    spells = accepted e front (ap ended k.taken ∙ h);
  }
  tells_end before front s k None h =
      faulty_here before [] front s (length bytes) 2 k (
        λ e d.
            let p : ended (fed (Some start) front) ≡ Some e = followed d in
            let q : ended (fed (Some start) front) ≡ None = ap ended k.taken ∙ h in
            cc,
        refl,
        refl,
      )

  tells_token : (before ps : List Placed) (front : List Token) (s : State) (p : Placed) (t : Token) → Taken before (p ∷ ps) front s → p.lexeme ≡ lexeme.Token t
      → (next : State → Answer) → ((s' : State) → step s t ≡ Some s' → Tells bytes (next s')) → (r : Option State) → step s t ≡ r → Tells bytes (or_fault p.at 1 next r)
  tells_token before ps front s p t k e next f (Some s') h = f s' h
  tells_token before ps front s p t k e next f None h =
      faulty_here before (p ∷ ps) front s p.at 1 k
      (subst (λ l. IsFaultyAt (length bytes) front l p.at p.at 1) (sym e) (λ v. refused (front ++ t ∷ []) (fed-push front s t k.taken ∙ h) v, refl, refl))

  tells_text : (before ps : List Placed) (front : List Token) (s : State) (p : Placed) → Taken before (p ∷ ps) front s → p.lexeme ≡ lexeme.Unfinished
      → (r : Option State) → step s (token.Text []) ≡ r → Tells bytes (or_fault p.at 1 (λ _. Err (length bytes, 2)) r)
  tells_text before ps front s p k e (Some s') h =
      faulty_here before (p ∷ ps) front s (length bytes) 2 k
      (subst (λ l. IsFaultyAt (length bytes) front l p.at (length bytes) 2) (sym e) (inl (alive (front ++ token.Text [] ∷ []) s' (fed-push front s (token.Text []) k.taken ∙ h), refl, refl)))
  tells_text before ps front s p k e None h =
      faulty_here before (p ∷ ps) front s p.at 1 k
      (subst (λ l. IsFaultyAt (length bytes) front l p.at p.at 1) (sym e) (inr (λ v. refused (front ++ token.Text [] ∷ []) (fed-push front s (token.Text []) k.taken ∙ h) v, refl, refl)))

  tells_lexeme : (before ps : List Placed) (front : List Token) (s : State) (p : Placed) → Taken before (p ∷ ps) front s
      → (next : State → Answer) → ((t : Token) (s' : State) → p.lexeme ≡ lexeme.Token t → step s t ≡ Some s' → Tells bytes (next s')) → (l : Lexeme) → p.lexeme ≡ l → Tells bytes (after (length bytes) p.at s l next)
  tells_lexeme before ps front s p k next f (lexeme.Token t) e = tells_token before ps front s p t k e next (λ s' h. f t s' e h) (step s t) refl
  tells_lexeme before ps front s p k next f lexeme.Nothing e =
      faulty_here before (p ∷ ps) front s p.at 1 k (subst (λ l. IsFaultyAt (length bytes) front l p.at p.at 1) (sym e) (refl, refl))
  tells_lexeme before ps front s p k next f lexeme.TooGreat e =
      faulty_here before (p ∷ ps) front s p.at 3 k (subst (λ l. IsFaultyAt (length bytes) front l p.at p.at 3) (sym e) (refl, refl))
  tells_lexeme before ps front s p k next f lexeme.Unfinished e = tells_text before ps front s p k e (step s (token.Text [])) refl

  tells : (ps before : List Placed) (front : List Token) (s : State) → Taken before ps front s → Tells bytes (outcome (length bytes) s ps)
  unfolding outcome
  tells [] before front s k = tells_end before front s k (ended (Some s)) refl
  tells (p ∷ ps) before front s k =
      tells_lexeme before ps front s p k (λ s'. outcome (length bytes) s' ps)
      (λ t s' e h. tells ps (before ++ p ∷ []) (front ++ t ∷ []) s' (record {
        parts = k.parts ∙ sym (append_assoc before (p ∷ []) ps);
        are = AreTokens-push before front p t k.are e;
        taken = fed-push front s t k.taken ∙ h;
      }))
      p.lexeme refl

  pub told : Tells bytes (outcome (length bytes) start (lexemes bytes))
  told = tells (lexemes bytes) [] [] start (record { parts = refl; are = tt; taken = refl })

-- ---- each answer is that of the outcome

module _ (n : ℕ) where
  spelled_step : (here : ℕ) (ts : List Token) (e : Expr) (next : State → Answer) → ((s' : State) → ended (fed (Some s') ts) ≡ Some e → next s' ≡ Ok e)
      → (r : Option State) → ended (fed r ts) ≡ Some e → or_fault here 1 next r ≡ Ok e
  spelled_step here ts e next f (Some s') h = f s' h
  spelled_step here ts e next f None h = let q : ended (fed None ts) ≡ None = ap ended (fed_none ts) in cc

  spelled_outcome : (ps : List Placed) (ts : List Token) (s : State) (e : Expr) → AreTokens ps ts → ended (fed (Some s) ts) ≡ Some e → outcome n s ps ≡ Ok e
  unfolding outcome
  spelled_outcome [] [] s e are h = ap (at_end n) h
  spelled_outcome [] (t ∷ ts) s e are h = absurd are
  spelled_outcome (p ∷ ps) [] s e are h = absurd are
  spelled_outcome (p ∷ ps) (t ∷ ts) s e are h =
      ap (λ l. after n p.at s l (λ s'. outcome n s' ps)) are.0
      ∙ spelled_step p.at ts e (λ s'. outcome n s' ps) (λ s' q. spelled_outcome ps ts s' e are.1 q) (step s t) h

  front_step : (here : ℕ) (ts : List Token) (s' : State) (a : Answer) (next : State → Answer) → ((u : State) → fed (Some u) ts ≡ Some s' → next u ≡ a)
      → (r : Option State) → fed r ts ≡ Some s' → or_fault here 1 next r ≡ a
  front_step here ts s' a next f (Some u) h = f u h
  front_step here ts s' a next f None h = let q = fed_none ts in cc

  front_outcome : (before : List Placed) (front : List Token) (from : List Placed) (s s' : State) → AreTokens before front → fed (Some s) front ≡ Some s' → outcome n s (before ++ from) ≡ outcome n s' from
  unfolding outcome
  front_outcome [] [] from s s' are h = let e : s ≡ s' = cc in ap (λ u. outcome n u from) e
  front_outcome [] (t ∷ ts) from s s' are h = absurd are
  front_outcome (p ∷ ps) [] from s s' are h = absurd are
  front_outcome (p ∷ ps) (t ∷ ts) from s s' are h =
      ap (λ l. after n p.at s l (λ u. outcome n u (ps ++ from))) are.0
      ∙ front_step p.at ts s' (outcome n s' from) (λ u. outcome n u (ps ++ from)) (λ u q. front_outcome ps ts from u s' are.1 q) (step s t) h

  -- a fault that is told is the one that comes
  fault_end : (front : List Token) (s : State) (at code : ℕ) → fed (Some start) front ≡ Some s → IsFaultyFrom n front [] at code → (r : Option Expr) → ended (Some s) ≡ r → at_end n r ≡ Err (at, code)
  fault_end front s at code q f (Some e) h = absurd (f.0 e (accepted e front (ap ended q ∙ h)))
  fault_end front s at code q f None h = ap (λ x. Err (x, 2)) (sym f.1) ∙ ap (λ c. Err (at, c)) (sym f.2)

  fault_token : (front : List Token) (t : Token) (s : State) (here at code : ℕ) (next : State → Answer) → fed (Some start) front ≡ Some s → IsFaultyAt n front (lexeme.Token t) here at code
      → (r : Option State) → step s t ≡ r → or_fault here 1 next r ≡ Err (at, code)
  fault_token front t s here at code next q f (Some s') h = absurd (f.0 (alive (front ++ t ∷ []) s' (fed-push front s t q ∙ h)))
  fault_token front t s here at code next q f None h = ap (λ x. Err (x, 1)) (sym f.1) ∙ ap (λ c. Err (at, c)) (sym f.2)

  fault_text : (front : List Token) (s : State) (here at code : ℕ) → fed (Some start) front ≡ Some s → IsFaultyAt n front lexeme.Unfinished here at code
      → (r : Option State) → step s (token.Text []) ≡ r → or_fault here 1 (λ _. Err (n, 2)) r ≡ Err (at, code)
  fault_text front s here at code q (inl f) (Some s') h = ap (λ x. Err (x, 2)) (sym f.1) ∙ ap (λ c. Err (at, c)) (sym f.2)
  fault_text front s here at code q (inl f) None h = absurd (refused (front ++ token.Text [] ∷ []) (fed-push front s (token.Text []) q ∙ h) f.0)
  fault_text front s here at code q (inr f) (Some s') h = absurd (f.0 (alive (front ++ token.Text [] ∷ []) s' (fed-push front s (token.Text []) q ∙ h)))
  fault_text front s here at code q (inr f) None h = ap (λ x. Err (x, 1)) (sym f.1) ∙ ap (λ c. Err (at, c)) (sym f.2)

  fault_at : (front : List Token) (s : State) (here at code : ℕ) (next : State → Answer) → fed (Some start) front ≡ Some s → (l : Lexeme) → IsFaultyAt n front l here at code → after n here s l next ≡ Err (at, code)
  fault_at front s here at code next q (lexeme.Token t) f = fault_token front t s here at code next q f (step s t) refl
  fault_at front s here at code next q lexeme.Nothing f = ap (λ x. Err (x, 1)) (sym f.0) ∙ ap (λ c. Err (at, c)) (sym f.1)
  fault_at front s here at code next q lexeme.TooGreat f = ap (λ x. Err (x, 3)) (sym f.0) ∙ ap (λ c. Err (at, c)) (sym f.1)
  fault_at front s here at code next q lexeme.Unfinished f = fault_text front s here at code q f (step s (token.Text [])) refl

  fault_outcome : (from : List Placed) (front : List Token) (s : State) (at code : ℕ) → fed (Some start) front ≡ Some s → IsFaultyFrom n front from at code → outcome n s from ≡ Err (at, code)
  unfolding outcome
  fault_outcome [] front s at code q f = fault_end front s at code q f (ended (Some s)) refl
  fault_outcome (p ∷ ps) front s at code q f = fault_at front s p.at at code (λ s'. outcome n s' ps) q p.lexeme f

taken_by : (front : List Token) → Viable front → (r : Option State) → fed (Some start) front ≡ r → (s : State) × (fed (Some start) front ≡ Some s)
taken_by front v (Some s) h = (s, h)
taken_by front v None h = absurd (refused front h v)

pub spelled_is : (n : ℕ) (bytes : List ℕ) (e : Expr) → IsSpelled bytes e → outcome n start (lexemes bytes) ≡ Ok e
spelled_is n bytes e h = spelled_outcome n (lexemes bytes) h.tokens start e h.are (followed h.spells)

pub faulty_is : (bytes : List ℕ) (at code : ℕ) → IsFaulty bytes at code → outcome (length bytes) start (lexemes bytes) ≡ Err (at, code)
faulty_is bytes at code h =
    let k = taken_by h.front h.viable (fed (Some start) h.front) refl in
    ap (outcome (length bytes) start) h.parts
    ∙ front_outcome (length bytes) h.before h.front h.from start k.0 h.are k.1
    ∙ fault_outcome (length bytes) h.from h.front k.0 at code k.1 h.fault

-- ---- each answer excludes every other

pub one_text : (bytes : List ℕ) (e f : Expr) → IsSpelled bytes e → IsSpelled bytes f → e ≡ f
one_text bytes e f h g =
    let p = spelled_is 0 bytes e h in
    let q = spelled_is 0 bytes f g in
    cc

pub spelled_not_faulty : (bytes : List ℕ) (e : Expr) (at code : ℕ) → IsSpelled bytes e → IsFaulty bytes at code → ⊥
spelled_not_faulty bytes e at code h f =
    let p = spelled_is (length bytes) bytes e h in
    let q = faulty_is bytes at code f in
    cc

pub text_not_refused : (bytes : List ℕ) (e : Expr) (at code : ℕ) → IsText bytes e → IsRefused bytes at code → ⊥
text_not_refused bytes e at code h (too_long long a c) = let w = h.within in omega arith
text_not_refused bytes e at code h (faulty w f) = spelled_not_faulty bytes e at code h.spelled f
text_not_refused bytes e at code h (too_large w f a c) =
    f.large (subst IsSmall (one_text bytes e f.expression h.spelled f.spelled) h.small)

pub one_refusal : (bytes : List ℕ) (at code at' code' : ℕ) → IsRefused bytes at code → IsRefused bytes at' code' → (at ≡ at') × (code ≡ code')
one_refusal bytes at code at' code' (too_long l a c) (too_long l' a' c') = (a ∙ sym a', c ∙ sym c')
one_refusal bytes at code at' code' (too_long l a c) (faulty w f) = absurd (omega arith)
one_refusal bytes at code at' code' (too_long l a c) (too_large w f a' c') = absurd (omega arith)
one_refusal bytes at code at' code' (faulty w f) (too_long l a c) = absurd (omega arith)
one_refusal bytes at code at' code' (faulty w f) (faulty w' f') =
    let p = faulty_is bytes at code f in
    let q = faulty_is bytes at' code' f' in
    let same : ◌≡◌ {A = ℕ × ℕ} (at, code) (at', code') = cc in
    (ap (λ x. x.0) same, ap (λ x. x.1) same)
one_refusal bytes at code at' code' (faulty w f) (too_large w' f' a c) = absurd (spelled_not_faulty bytes f'.expression at code f'.spelled f)
one_refusal bytes at code at' code' (too_large w f a c) (too_long l a' c') = absurd (omega arith)
one_refusal bytes at code at' code' (too_large w f a c) (faulty w' f') = absurd (spelled_not_faulty bytes f.expression at' code' f.spelled f')
one_refusal bytes at code at' code' (too_large w f a c) (too_large w' f' a' c') = (a ∙ sym a', c ∙ sym c')
