-- The tokens of a text, each with its place, and what stands where no token does.
use Rattle.std.specs.Prelude.{◌≡◌, ℕ, zero, suc, pred, ◌+◌, ◌*◌, Bool, true, false, ◌&&◌, ◌||◌, ◌==◌, nat_lt, nat_le, if◌then◌else◌, List, [], ◌∷◌, ◌++◌, length, take, drop, Option, Some, None}
use Rattle.std.specs.Char.{digit_value, is_ascii_digit, is_ascii_hexdigit}
use Rattle.std.specs.List.{prefix_len}
use Rattle.db_model.specs.declared.expression.Operator.{Operator}
use Rattle.db_model.specs.declared.expression.Operator.TheVariants as op
use Rattle.db_model.specs.declared.naming.ReservedWord.{ReservedWord}
use Rattle.db_model.specs.declared.naming.ReservedWord.TheVariants as reserved_word
use Rattle.db_model.specs.declared.limits.TheConstants.{GREATEST_NUMBER}
use Rattle.db_model.specs.Forms.{is_between}
use Rattle.db_model.specs.Name.{begins_name, continues_name, is_name, reserved}
use Rattle.expr_text.specs.declared.lexeme.Lexeme.{Lexeme}
use Rattle.expr_text.specs.declared.lexeme.Lexeme.TheVariants as lexeme
use Rattle.expr_text.specs.declared.lexeme.Scanned.{Scanned}
use Rattle.expr_text.specs.declared.token.BinaryOp.TheVariants as binary
use Rattle.expr_text.specs.declared.token.Call.TheVariants as call
use Rattle.expr_text.specs.declared.token.Token.{Token}
use Rattle.expr_text.specs.declared.token.Token.TheVariants as token

abbrev pub scanned : Lexeme → ℕ → Scanned
scanned l size = record { lexeme = l; size = size }

-- a token with its size, or a byte that begins none
abbrev pub one_of : Option Token → ℕ → Scanned
one_of None size = scanned lexeme.Nothing size
one_of (Some t) size = scanned (lexeme.Token t) size

-- the longest front of the bytes whose bytes pass a test
abbrev pub run : (ℕ → Bool) → List ℕ → List ℕ
run test bs = take (prefix_len test bs) bs

-- the next byte is this one
abbrev pub follows : ℕ → List ℕ → Bool
follows byte [] = false
follows byte (b ∷ bs) = b == byte

-- ---- numbers

abbrev pub value_from : ℕ → ℕ → List ℕ → ℕ
value_from radix n [] = n
value_from radix n (d ∷ ds) = value_from radix (n * radix + digit_value d) ds

abbrev pub number_or_fault : ℕ → Lexeme
number_or_fault n = if nat_le n GREATEST_NUMBER then lexeme.Token (token.Number n) else lexeme.TooGreat

-- a number of these digits, unless it has more of them than it may or is too great
unfoldable pub numeral : ℕ → ℕ → List ℕ → Lexeme
numeral radix most digits = if nat_le (length digits) most then number_or_fault (value_from radix 0 digits) else lexeme.TooGreat

-- the hex digits behind `0x`
unfoldable pub hex_run : List ℕ → List ℕ
hex_run (a ∷ (b ∷ bs)) = if a == 0x30 && b == 0x78 then run is_ascii_hexdigit bs else []
hex_run _ = []

-- decimal where no hex digit stands behind `0x`
unfoldable pub number : List ℕ → Scanned
number bs =
    let hex = hex_run bs in
    let digits = run is_ascii_digit bs in
    if nat_lt 0 (length hex) then scanned (numeral 16 8 hex) (2 + length hex) else scanned (numeral 10 10 digits) (length digits)

-- ---- words and names

-- the token of a reserved word
abbrev pub token_of : ReservedWord → Token
token_of reserved_word.Or = token.Operator binary.Or
token_of reserved_word.And = token.Operator binary.And
token_of reserved_word.Not = token.Not
token_of reserved_word.Lt = token.Operator (binary.Plain op.Lt)
token_of reserved_word.Le = token.Operator (binary.Plain op.Le)
token_of reserved_word.Gt = token.Operator (binary.Plain op.Gt)
token_of reserved_word.Ge = token.Operator (binary.Plain op.Ge)
token_of reserved_word.Mod = token.Operator (binary.Plain op.Mod)
token_of reserved_word.BitAnd = token.Operator (binary.Plain op.BitAnd)
token_of reserved_word.BitOr = token.Operator (binary.Plain op.BitOr)
token_of reserved_word.ToNumber = token.Call call.ToNumber
token_of reserved_word.LengthOf = token.Call call.LengthOf
token_of reserved_word.ToBytes = token.Call call.ToBytes
token_of reserved_word.HasText = token.Call call.HasText
token_of reserved_word.IsPresent = token.IsPresent
token_of reserved_word.LookUp = token.LookUp false
token_of reserved_word.RenewingLookUp = token.LookUp true

abbrev pub token_of_word : Option ReservedWord → Option Token
token_of_word None = None
token_of_word (Some w) = Some (token_of w)

-- a name, or else a reserved word; a word that is too long is neither
unfoldable pub word : List ℕ → Scanned
word w = one_of (if is_name w then Some (token.Name w) else token_of_word (reserved w)) (length w)

-- `#` with a name right behind it
unfoldable pub protocol : List ℕ → Scanned
protocol name = one_of (if is_name name then Some (token.Protocol name) else None) (1 + length name)

-- `$` with a name right behind it, and maybe a `.` and a name right behind that
unfoldable pub column : List ℕ → List ℕ → List ℕ → Scanned
column table rest name = if follows 0x2e rest && is_name name then scanned (lexeme.Token (token.Column table name)) (2 + length table + length name) else scanned (lexeme.Token (token.Variable table)) (1 + length table)

unfoldable pub variable : List ℕ → Scanned
variable bs =
    let name = run continues_name bs in
    let rest = drop (length name) bs in
    if is_name name then column name rest (run continues_name (drop 1 rest)) else scanned lexeme.Nothing 1

-- ---- texts

-- A text whose bytes so far are w, of n bytes with its first quote, goes on. `escape` is behind a `\`, `high` and `low` at
-- the two digits behind `\x`. A byte or an escape that no text has makes the whole no token.
unfoldable mutual
  pub plain : List ℕ → ℕ → List ℕ → Scanned
  plain w n [] = scanned lexeme.Unfinished n
  plain w n (b ∷ bs) =
      if b == 0x27 then scanned (lexeme.Token (token.Text w)) (suc n)
      else (if b == 0x5c then escape w (suc n) bs
      else (if is_between 0x20 0x7e b then plain (w ++ b ∷ []) (suc n) bs else scanned lexeme.Nothing n))

  pub escape : List ℕ → ℕ → List ℕ → Scanned
  escape w n [] = scanned lexeme.Unfinished n
  escape w n (b ∷ bs) =
      if b == 0x5c || b == 0x27 then plain (w ++ b ∷ []) (suc n) bs
      else (if b == 0x78 then high w (suc n) bs else scanned lexeme.Nothing n)

  pub high : List ℕ → ℕ → List ℕ → Scanned
  high w n [] = scanned lexeme.Unfinished n
  high w n (b ∷ bs) = if is_ascii_hexdigit b then low w (digit_value b) (suc n) bs else scanned lexeme.Nothing n

  pub low : List ℕ → ℕ → ℕ → List ℕ → Scanned
  low w h n [] = scanned lexeme.Unfinished n
  low w h n (b ∷ bs) = if is_ascii_hexdigit b then plain (w ++ (16 * h + digit_value b) ∷ []) (suc n) bs else scanned lexeme.Nothing n

-- ---- signs

abbrev pub plain_sign : Operator → Option Token
plain_sign o = Some (token.Operator (binary.Plain o))

-- signs of one byte
unfoldable pub sign_of : ℕ → Option Token
sign_of b =
    if b == 0x28 then Some token.Open
    else (if b == 0x29 then Some token.Close
    else (if b == 0x5b then Some token.OpenBracket
    else (if b == 0x3a then Some token.Colon
    else (if b == 0x5d then Some token.CloseBracket
    else (if b == 0x2c then Some token.Comma
    else (if b == 0x2b then plain_sign op.Add
    else (if b == 0x2d then plain_sign op.Sub
    else (if b == 0x2a then plain_sign op.Mul
    else (if b == 0x2f then plain_sign op.Div
    else None)))))))))

-- `==` and `!=`
unfoldable pub equality : ℕ → Option Token
equality b =
    if b == 0x3d then plain_sign op.Eq
    else (if b == 0x21 then plain_sign op.Ne else None)

abbrev pub two_or_one : Option Token → ℕ → Scanned
two_or_one None b = one_of (sign_of b) 1
two_or_one (Some t) b = scanned (lexeme.Token t) 2

unfoldable pub sign : ℕ → List ℕ → Scanned
sign b bs = if follows 0x3d bs then two_or_one (equality b) b else one_of (sign_of b) 1

-- ---- the whole text

-- the lexeme at the front of the bytes, as long as possible
unfoldable pub first : ℕ → List ℕ → Scanned
first b bs =
    if is_ascii_digit b then number (b ∷ bs)
    else (if begins_name b then word (run continues_name (b ∷ bs))
    else (if b == 0x27 then plain [] 1 bs
    else (if b == 0x23 then protocol (run continues_name bs)
    else (if b == 0x24 then variable bs
    else sign b bs))))

abbrev pub is_space : ℕ → Bool
is_space b = b == 0x20 || b == 9 || b == 10 || b == 13

abbrev pub is_number : Lexeme → Bool
is_number (lexeme.Token (token.Number n)) = true
is_number _ = false

-- a lexeme with its place
pub record Placed : Type 0 where
  pub lexeme : Lexeme
  pub at : ℕ

-- where a number ends right before, a letter or `_` begins no token
abbrev pub front_of : Bool → ℕ → List ℕ → Scanned
front_of glued b bs = if glued && begins_name b then scanned lexeme.Nothing 1 else first b bs

-- The lexemes of the bytes from the place `at` on, where the first `skip` bytes still belong to the last lexeme.
-- `glued`: that one is a number, and no space came since.
unfoldable pub lexed : ℕ → ℕ → Bool → List ℕ → List Placed
lexed at skip glued [] = []
lexed at (suc skip) glued (b ∷ bs) = lexed (suc at) skip glued bs
lexed at zero glued (b ∷ bs) =
    if is_space b then lexed (suc at) 0 false bs
    else (let l = front_of glued b bs in record { lexeme = l.lexeme; at = at } ∷ lexed (suc at) (pred l.size) (is_number l.lexeme) bs)

abbrev pub lexemes : List ℕ → List Placed
lexemes bytes = lexed 0 0 false bytes

-- the lexemes are these tokens
abbrev pub AreTokens : List Placed → List Token → Type 0
AreTokens [] [] = Unit {0}
AreTokens [] (t ∷ ts) = ⊥
AreTokens (p ∷ ps) [] = ⊥
AreTokens (p ∷ ps) (t ∷ ts) = (p.lexeme ≡ lexeme.Token t) × AreTokens ps ts
