-- The lexemes of any text are tokens in form: a number is not too great, a name is a name, a text is of bytes.
use Rattle.std.proofs.Common.{◌≡◌, ◌≤◌, ◌<◌, ◌+◌, ◌*◌, ◌==◌, ℕ, zero, suc, pred, Bool, true, false, List, [], ◌∷◌, ◌++◌, length, drop, subst, arith}
use Rattle.std.proofs.lemmas.Bool.{cond_both, and_parts, leb-true}
use Rattle.std.proofs.lemmas.Bool.Decides.{nat_tests}
use Rattle.std.specs.Char.{digit_value, is_ascii_digit, is_ascii_hexdigit}
use Rattle.std.specs.Prelude.{if◌then◌else◌, ◌&&◌, ◌||◌, nat_le, nat_lt, Option, Some, None}
use Rattle.db_model.specs.declared.expression.Operator.TheVariants as op
use Rattle.db_model.specs.declared.naming.ReservedWord.{ReservedWord}
use Rattle.db_model.specs.declared.naming.ReservedWord.TheVariants as reserved_word
use Rattle.db_model.specs.declared.limits.TheConstants.{GREATEST_NUMBER}
use Rattle.db_model.specs.Forms.{is_between}
use Rattle.db_model.specs.Name.{begins_name, continues_name, is_name, reserved}
use Rattle.expr_text.specs.declared.lexeme.Lexeme.{Lexeme}
use Rattle.expr_text.specs.declared.lexeme.Lexeme.TheVariants as lexeme
use Rattle.expr_text.specs.declared.lexeme.Scanned.{Scanned}
use Rattle.expr_text.specs.declared.token.BinaryOp.TheVariants as binary
use Rattle.expr_text.specs.declared.token.Token.{Token}
use Rattle.expr_text.specs.declared.token.Token.TheVariants as token
use Rattle.expr_text.specs.Lexing.{scanned, one_of, run, follows, value_from, number_or_fault, numeral, hex_run, number, token_of, token_of_word, word, protocol, column, variable, plain, escape, high, low, sign_of, equality, two_or_one, sign, first, front_of, is_space, is_number, Placed, lexed, AreTokens}
use Rattle.expr_text.proofs.QuotedInText.{AreBytes}

abbrev pub IsFormed : Token → Type 0
IsFormed (token.Number n) = n ≤ GREATEST_NUMBER
IsFormed (token.Text b) = AreBytes b
IsFormed (token.Name name) = is_name name ≡ true
IsFormed (token.Protocol name) = is_name name ≡ true
IsFormed (token.Variable name) = is_name name ≡ true
IsFormed (token.Column table name) = (is_name table ≡ true) × (is_name name ≡ true)
IsFormed _ = Unit {0}

abbrev pub AreFormed : List Token → Type 0
AreFormed [] = Unit {0}
AreFormed (t ∷ ts) = IsFormed t × AreFormed ts

abbrev Fine : Lexeme → Type 0
Fine (lexeme.Token t) = IsFormed t
Fine lexeme.Nothing = Unit {0}
Fine lexeme.TooGreat = Unit {0}
Fine lexeme.Unfinished = Unit {0}

abbrev FineScanned : Scanned → Type 0
FineScanned s = Fine s.lexeme

abbrev FineOption : Option Token → Type 0
FineOption None = Unit {0}
FineOption (Some t) = IsFormed t

fine_one : (o : Option Token) (n : ℕ) → FineOption o → FineScanned (one_of o n)
fine_one None n h = tt
fine_one (Some t) n h = h

-- one of two tokens by a test
pick : (b : Bool) (t : Token) (o : Option Token) → IsFormed t → FineOption o → FineOption (if b then Some t else o)
pick b t o h k = cond_both b (Some t) o FineOption (λ _. h) (λ _. k)

-- ---- numbers

fine_number : (n : ℕ) → Fine (number_or_fault n)
fine_number n = cond_both (nat_le n GREATEST_NUMBER) (lexeme.Token (token.Number n)) lexeme.TooGreat Fine (λ t. leb-true n GREATEST_NUMBER t) (λ _. tt)

fine_numeral : (radix most : ℕ) (digits : List ℕ) → Fine (numeral radix most digits)
unfolding numeral
fine_numeral radix most digits = cond_both (nat_le (length digits) most) (number_or_fault (value_from radix 0 digits)) lexeme.TooGreat Fine (λ _. fine_number (value_from radix 0 digits)) (λ _. tt)

numbers : (bs : List ℕ) → FineScanned (number bs)
unfolding number
numbers bs =
    cond_both (nat_lt 0 (length (hex_run bs))) (scanned (numeral 16 8 (hex_run bs)) (2 + length (hex_run bs))) (scanned (numeral 10 10 (run is_ascii_digit bs)) (length (run is_ascii_digit bs))) FineScanned
    (λ _. fine_numeral 16 8 (hex_run bs)) (λ _. fine_numeral 10 10 (run is_ascii_digit bs))

-- ---- words and names

tokens_of : (w : ReservedWord) → IsFormed (token_of w)
tokens_of reserved_word.Or = tt
tokens_of reserved_word.And = tt
tokens_of reserved_word.Not = tt
tokens_of reserved_word.Lt = tt
tokens_of reserved_word.Le = tt
tokens_of reserved_word.Gt = tt
tokens_of reserved_word.Ge = tt
tokens_of reserved_word.Mod = tt
tokens_of reserved_word.BitAnd = tt
tokens_of reserved_word.BitOr = tt
tokens_of reserved_word.ToNumber = tt
tokens_of reserved_word.LengthOf = tt
tokens_of reserved_word.ToBytes = tt
tokens_of reserved_word.HasText = tt
tokens_of reserved_word.IsPresent = tt
tokens_of reserved_word.LookUp = tt
tokens_of reserved_word.RenewingLookUp = tt

token_of_words : (o : Option ReservedWord) → FineOption (token_of_word o)
token_of_words None = tt
token_of_words (Some w) = tokens_of w

words : (w : List ℕ) → FineScanned (word w)
unfolding word
words w =
    fine_one (if is_name w then Some (token.Name w) else token_of_word (reserved w)) (length w)
    (cond_both (is_name w) (Some (token.Name w)) (token_of_word (reserved w)) FineOption (λ t. t) (λ _. token_of_words (reserved w)))

protocols : (name : List ℕ) → FineScanned (protocol name)
unfolding protocol
protocols name =
    fine_one (if is_name name then Some (token.Protocol name) else None) (1 + length name)
    (cond_both (is_name name) (Some (token.Protocol name)) None FineOption (λ t. t) (λ _. tt))

columns : (table rest name : List ℕ) → is_name table ≡ true → FineScanned (column table rest name)
unfolding column
columns table rest name h =
    cond_both (follows 0x2e rest && is_name name) (scanned (lexeme.Token (token.Column table name)) (2 + length table + length name)) (scanned (lexeme.Token (token.Variable table)) (1 + length table)) FineScanned
    (λ t. (h, (and_parts (follows 0x2e rest) (is_name name) t).1)) (λ _. h)

variables : (bs : List ℕ) → FineScanned (variable bs)
unfolding variable
variables bs =
    let name = run continues_name bs in
    let rest = drop (length name) bs in
    cond_both (is_name name) (column name rest (run continues_name (drop 1 rest))) (scanned lexeme.Nothing 1) FineScanned
    (λ t. columns name rest (run continues_name (drop 1 rest)) t) (λ _. tt)

-- ---- texts

pushed : (w : List ℕ) (b : ℕ) → AreBytes w → b < 256 → AreBytes (w ++ b ∷ [])
pushed [] b h k = (k, tt)
pushed (x ∷ w) b h k = (h.0, pushed w b h.1 k)

printable : (b : ℕ) → is_between 0x20 0x7e b ≡ true → b < 256
printable b h = grind (arith, nat_tests)

bar_or_quote : (b : ℕ) → (b == 0x5c || b == 0x27) ≡ true → b < 256
bar_or_quote b h = grind (arith, nat_tests)

hex_value : (b : ℕ) → is_ascii_hexdigit b ≡ true → digit_value b < 16
hex_value b h = grind (arith, nat_tests)

mutual
  unfolding plain escape high low

  plains : (bs w : List ℕ) (n : ℕ) → AreBytes w → FineScanned (plain w n bs)
  plains [] w n h = tt
  plains (b ∷ bs) w n h =
      cond_both (b == 0x27) _ _ FineScanned (λ _. h)
      (λ _. cond_both (b == 0x5c) _ _ FineScanned (λ _. escapes bs w (suc n) h)
      (λ _. cond_both (is_between 0x20 0x7e b) _ _ FineScanned (λ t. plains bs (w ++ b ∷ []) (suc n) (pushed w b h (printable b t))) (λ _. tt)))

  escapes : (bs w : List ℕ) (n : ℕ) → AreBytes w → FineScanned (escape w n bs)
  escapes [] w n h = tt
  escapes (b ∷ bs) w n h =
      cond_both (b == 0x5c || b == 0x27) _ _ FineScanned (λ t. plains bs (w ++ b ∷ []) (suc n) (pushed w b h (bar_or_quote b t)))
      (λ _. cond_both (b == 0x78) _ _ FineScanned (λ _. highs bs w (suc n) h) (λ _. tt))

  highs : (bs w : List ℕ) (n : ℕ) → AreBytes w → FineScanned (high w n bs)
  highs [] w n h = tt
  highs (b ∷ bs) w n h = cond_both (is_ascii_hexdigit b) _ _ FineScanned (λ t. lows bs w (digit_value b) (suc n) h (hex_value b t)) (λ _. tt)

  lows : (bs w : List ℕ) (digit n : ℕ) → AreBytes w → digit < 16 → FineScanned (low w digit n bs)
  lows [] w digit n h k = tt
  lows (b ∷ bs) w digit n h k =
      cond_both (is_ascii_hexdigit b) _ _ FineScanned
      (λ t. plains bs (w ++ (16 * digit + digit_value b) ∷ []) (suc n) (pushed w (16 * digit + digit_value b) h (omega (arith, hex_value b t)))) (λ _. tt)

-- ---- signs

sign_ofs : (b : ℕ) → FineOption (sign_of b)
unfolding sign_of
sign_ofs b =
    pick (b == 0x28) token.Open _ tt
    (pick (b == 0x29) token.Close _ tt
    (pick (b == 0x5b) token.OpenBracket _ tt
    (pick (b == 0x3a) token.Colon _ tt
    (pick (b == 0x5d) token.CloseBracket _ tt
    (pick (b == 0x2c) token.Comma _ tt
    (pick (b == 0x2b) (token.Operator (binary.Plain op.Add)) _ tt
    (pick (b == 0x2d) (token.Operator (binary.Plain op.Sub)) _ tt
    (pick (b == 0x2a) (token.Operator (binary.Plain op.Mul)) _ tt
    (pick (b == 0x2f) (token.Operator (binary.Plain op.Div)) None tt tt)))))))))

equalities : (b : ℕ) → FineOption (equality b)
unfolding equality
equalities b =
    pick (b == 0x3d) (token.Operator (binary.Plain op.Eq)) _ tt
    (pick (b == 0x21) (token.Operator (binary.Plain op.Ne)) None tt tt)

two_or_ones : (o : Option Token) (b : ℕ) → FineOption o → FineScanned (two_or_one o b)
two_or_ones None b h = fine_one (sign_of b) 1 (sign_ofs b)
two_or_ones (Some t) b h = h

signs : (b : ℕ) (bs : List ℕ) → FineScanned (sign b bs)
unfolding sign
signs b bs =
    cond_both (follows 0x3d bs) (two_or_one (equality b) b) (one_of (sign_of b) 1) FineScanned
    (λ _. two_or_ones (equality b) b (equalities b)) (λ _. fine_one (sign_of b) 1 (sign_ofs b))

-- ---- the whole text

firsts : (b : ℕ) (bs : List ℕ) → FineScanned (first b bs)
unfolding first
firsts b bs =
    cond_both (is_ascii_digit b) _ _ FineScanned (λ _. numbers (b ∷ bs))
    (λ _. cond_both (begins_name b) _ _ FineScanned (λ _. words (run continues_name (b ∷ bs)))
    (λ _. cond_both (b == 0x27) _ _ FineScanned (λ _. plains bs [] 1 tt)
    (λ _. cond_both (b == 0x23) _ _ FineScanned (λ _. protocols (run continues_name bs))
    (λ _. cond_both (b == 0x24) _ _ FineScanned (λ _. variables bs) (λ _. signs b bs)))))

fronts : (glued : Bool) (b : ℕ) (bs : List ℕ) → FineScanned (front_of glued b bs)
fronts glued b bs = cond_both (glued && begins_name b) (scanned lexeme.Nothing 1) (first b bs) FineScanned (λ _. tt) (λ _. firsts b bs)

fine_token : (l : Lexeme) (t : Token) → Fine l → l ≡ lexeme.Token t → IsFormed t
fine_token l t h e = subst Fine e h

one_more : (p : Placed) (ps : List Placed) (ts : List Token) → Fine p.lexeme → ((us : List Token) → AreTokens ps us → AreFormed us) → AreTokens (p ∷ ps) ts → AreFormed ts
one_more p ps [] h k are = absurd are
one_more p ps (t ∷ ts) h k are = (fine_token p.lexeme t h are.0, k ts are.1)

pub formed : (bs : List ℕ) (at skip : ℕ) (glued : Bool) (ts : List Token) → AreTokens (lexed at skip glued bs) ts → AreFormed ts
unfolding lexed
formed [] at skip glued [] are = tt
formed [] at skip glued (t ∷ ts) are = absurd are
formed (b ∷ bs) at (suc skip) glued ts are = formed bs (suc at) skip glued ts are
formed (b ∷ bs) at zero glued ts are =
    let s = front_of glued b bs in
    let p : Placed = record { lexeme = s.lexeme; at = at } in
    let ps = lexed (suc at) (pred s.size) (is_number s.lexeme) bs in
    cond_both (is_space b) (lexed (suc at) 0 false bs) (p ∷ ps) (λ qs. AreTokens qs ts → AreFormed ts)
    (λ _. formed bs (suc at) 0 false ts)
    (λ _. one_more p ps ts (fronts glued b bs) (λ us. formed bs (suc at) (pred s.size) (is_number s.lexeme) us))
    are
