-- Pieces of a text that stand for tokens, whatever comes behind them.
use Rattle.std.proofs.Common.{◌≡◌, ◌+◌, ◌==◌, ℕ, suc, pred, Bool, true, false, List, [], ◌∷◌, ◌++◌, length, take, refl, sym, ap, subst, ◌∙◌, append_assoc, arith}
use Rattle.std.specs.Prelude.{if◌then◌else◌, ◌||◌}
use Rattle.std.proofs.Math.Seq.{take-append_seam}
use Rattle.std.proofs.lemmas.Bool.{cond-true, cond-false, and_parts, or_parts, or_from}
use Rattle.std.specs.Char.{is_ascii_alphanumeric, is_ascii_alphabetic, is_ascii_digit, is_ascii_uppercase, is_ascii_lowercase}
use Rattle.std.specs.List.{prefix_len, list_all}
use Rattle.db_model.specs.Name.{begins_name, continues_name}
use Rattle.expr_text.specs.declared.lexeme.Lexeme.TheVariants as lexeme
use Rattle.expr_text.specs.declared.lexeme.Scanned.{Scanned}
use Rattle.expr_text.specs.declared.token.Token.{Token}
use Rattle.expr_text.specs.declared.token.Token.TheVariants as token
use Rattle.expr_text.specs.Lexing.{Placed, scanned, lexed, AreTokens, first, is_space, is_number, run}

-- the text is these tokens, wherever it stands
abbrev pub Are : List ℕ → List Token → Type 0
Are bs ts = (at : ℕ) → AreTokens (lexed at 0 false bs) ts

-- what may stand behind a name or a number: nothing, or a byte that goes on with neither
abbrev pub Boundary : List ℕ → Type 0
Boundary [] = Unit {0}
Boundary (b ∷ bs) = (continues_name b ≡ false) × ((b ≡ 0x2e) → ⊥)

abbrev pub Anything : List ℕ → Type 0
Anything bs = Unit {0}

-- the bytes are these tokens before each text that G admits
abbrev pub Lexes : (List ℕ → Type 0) → List ℕ → List Token → Type 0
Lexes G bs ts = (rest : List ℕ) (us : List Token) → G rest → Are rest us → Are (bs ++ rest) (ts ++ us)

pub loose : (bs : List ℕ) (ts : List Token) → Lexes Anything bs ts → Lexes Boundary bs ts
loose bs ts f rest us g h = f rest us tt h

pub joined : (G H : List ℕ → Type 0) (a b : List ℕ) (ts us : List Token) → Lexes G a ts → ((rest : List ℕ) → H rest → G (b ++ rest)) → Lexes H b us → Lexes H (a ++ b) (ts ++ us)
joined G H a b ts us f g h rest vs k are =
    let whole : Are (a ++ (b ++ rest)) (ts ++ (us ++ vs)) = f (b ++ rest) (us ++ vs) (g rest k) (h rest vs k are) in
    let bytes : a ++ (b ++ rest) ≡ (a ++ b) ++ rest = sym (append_assoc a b rest) in
    let tokens : ts ++ (us ++ vs) ≡ (ts ++ us) ++ vs = sym (append_assoc ts us vs) in
    subst (λ bs. Are bs ((ts ++ us) ++ vs)) bytes (subst (λ xs. Are (a ++ (b ++ rest)) xs) tokens whole)

-- ---- one token at the front

skipped : (w rest : List ℕ) (at : ℕ) (glued : Bool) (P : List Placed → Type 0) → ((to : ℕ) → P (lexed to 0 glued rest)) → P (lexed at (length w) glued (w ++ rest))
unfolding lexed
skipped [] rest at glued P h = h at
skipped (b ∷ w) rest at glued P h = skipped w rest (suc at) glued P h

-- a byte that goes on with no name is no letter, no digit and no `_`
pub record IsApart (b : ℕ) : Type 0 where
  pub letter : is_ascii_alphabetic b ≡ false
  pub digit : is_ascii_digit b ≡ false
  pub low_line : (b == 95) ≡ false

pub apart : (b : ℕ) → continues_name b ≡ false → IsApart b
apart b h =
    let p = or_parts (is_ascii_alphanumeric b) (b == 95) h in
    let q = or_parts (is_ascii_digit b || is_ascii_uppercase b) (is_ascii_lowercase b) p.0 in
    let r = or_parts (is_ascii_digit b) (is_ascii_uppercase b) q.0 in
    record { letter = or_from (is_ascii_uppercase b) (is_ascii_lowercase b) r.1 q.1; digit = r.0; low_line = p.1 }

pub begins_not : (b : ℕ) → continues_name b ≡ false → begins_name b ≡ false
begins_not b h = let a = apart b h in or_from (is_ascii_alphabetic b) (b == 95) a.letter a.low_line

abbrev after_front : ℕ → List ℕ → Scanned → List Placed
after_front at bs s = (record { lexeme = s.lexeme; at = at }) ∷ lexed (suc at) (pred s.size) (is_number s.lexeme) bs

unglued : (rest : List ℕ) (at : ℕ) → Boundary rest → lexed at 0 true rest ≡ lexed at 0 false rest
unfolding lexed
unglued [] at h = refl
unglued (b ∷ bs) at h =
    ap (λ s. if is_space b then lexed (suc at) 0 false bs else after_front at bs s)
    (cond-false (begins_name b) (scanned lexeme.Nothing 1) (first b bs) (begins_not b h.0))

front_is : (b : ℕ) (bs : List ℕ) (at : ℕ) → is_space b ≡ false → lexed at 0 false (b ∷ bs) ≡ after_front at bs (first b bs)
unfolding lexed
front_is b bs at h = cond-false (is_space b) (lexed (suc at) 0 false bs) (after_front at bs (first b bs)) h

-- how the text behind a token is read: after a number a name can't follow
abbrev pub Behind : Token → List ℕ → List Token → Type 0
Behind t rest ts = (at : ℕ) → AreTokens (lexed at 0 (is_number (lexeme.Token t)) rest) ts

pub behind_number : (n : ℕ) (rest : List ℕ) (ts : List Token) → Boundary rest → Are rest ts → Behind (token.Number n) rest ts
behind_number n rest ts h are at = subst (λ ps. AreTokens ps ts) (sym (unglued rest at h)) (are at)

pub behind : (t : Token) (rest : List ℕ) (ts : List Token) → is_number (lexeme.Token t) ≡ false → Are rest ts → Behind t rest ts
behind t rest ts q are at = subst (λ glued. AreTokens (lexed at 0 glued rest) ts) (sym q) (are at)

pub one_token : (b : ℕ) (w : List ℕ) (t : Token) (rest : List ℕ) (ts : List Token) → is_space b ≡ false → first b (w ++ rest) ≡ scanned (lexeme.Token t) (suc (length w)) → Behind t rest ts → Are (b ∷ (w ++ rest)) (t ∷ ts)
one_token b w t rest ts h e are at =
    subst (λ ps. AreTokens ps (t ∷ ts)) (sym (front_is b (w ++ rest) at h))
    (subst (λ s. AreTokens (after_front at (w ++ rest) s) (t ∷ ts)) (sym e)
    (refl, skipped w rest (suc at) (is_number (lexeme.Token t)) (λ ps. AreTokens ps ts) are))

-- ---- runs of bytes that pass a test

abbrev pub Stops : (ℕ → Bool) → List ℕ → Type 0
Stops test [] = Unit {0}
Stops test (b ∷ bs) = test b ≡ false

prefix_is : (test : ℕ → Bool) (w rest : List ℕ) → list_all test w ≡ true → Stops test rest → prefix_len test (w ++ rest) ≡ length w
prefix_is test [] [] h s = refl
prefix_is test [] (b ∷ bs) h s = cond-false (test b) (1 + prefix_len test bs) 0 s
prefix_is test (x ∷ w) rest h s =
    let p = and_parts (test x) (list_all test w) h in
    let q : prefix_len test (w ++ rest) ≡ length w = prefix_is test w rest p.1 s in
    cond-true (test x) (1 + prefix_len test (w ++ rest)) 0 p.0 ∙ omega (arith, q)

pub run_is : (test : ℕ → Bool) (w rest : List ℕ) → list_all test w ≡ true → Stops test rest → run test (w ++ rest) ≡ w
run_is test w rest h s = ap (λ n. take n (w ++ rest)) (prefix_is test w rest h s) ∙ take-append_seam w rest

pub stops_name : (rest : List ℕ) → Boundary rest → Stops continues_name rest
stops_name [] h = tt
stops_name (b ∷ bs) h = h.0

pub stops_digits : (rest : List ℕ) → Boundary rest → Stops is_ascii_digit rest
stops_digits [] h = tt
stops_digits (b ∷ bs) h = (apart b h.0).digit
