-- Names and the words before a parenthesis, as tokens of a text.
use Rattle.std.proofs.Common.{◌≡◌, ◌+◌, ℕ, suc, Bool, true, false, List, [], ◌∷◌, ◌++◌, length, drop, refl, ap, ◌∙◌, append_assoc, length-append, arith}
use Rattle.std.proofs.Math.Seq.{drop-append_seam}
use Rattle.std.proofs.lemmas.Bool.{cond-true, cond-false, and_parts, and_from, and_left, ne_eqb}
use Rattle.std.proofs.lemmas.Bool.Decides.{nat_tests}
use Rattle.std.specs.Char.{is_ascii_digit}
use Rattle.std.specs.List.{list_all}
use Rattle.std.specs.Prelude.{if◌then◌else◌, ◌&&◌, not, codes, nat_le, Some, None}
use Rattle.db_model.specs.Name.{begins_name, continues_name, is_word, is_reserved, is_name, reserved, spelling}
use Rattle.expr_text.specs.declared.lexeme.Lexeme.TheVariants as lexeme
use Rattle.expr_text.specs.declared.lexeme.Scanned.{Scanned}
use Rattle.expr_text.specs.declared.token.Call.TheVariants as call
use Rattle.expr_text.specs.declared.token.Token.{Token}
use Rattle.expr_text.specs.declared.token.Token.TheVariants as token
use Rattle.expr_text.specs.Lexing.{scanned, one_of, token_of_word, first, number, word, protocol, column, variable, follows, is_space, is_number, run}
use Rattle.expr_text.specs.Printing.{protocol_text, variable_text, column_text, look_up_name}
use Rattle.expr_text.proofs.Pieces.{Boundary, Lexes, behind, one_token, Stops, run_is, stops_name}

-- ---- words

not_digit : (b : ℕ) → begins_name b ≡ true → is_ascii_digit b ≡ false
not_digit b h = grind (arith, nat_tests)

not_space : (b : ℕ) → begins_name b ≡ true → is_space b ≡ false
not_space b h = grind (arith, nat_tests)

also_continues : (b : ℕ) → begins_name b ≡ true → continues_name b ≡ true
also_continues b h = grind (arith, nat_tests)

first_word : (b : ℕ) (w rest : List ℕ) → begins_name b ≡ true → list_all continues_name w ≡ true → Boundary rest → first b (w ++ rest) ≡ word (b ∷ w)
unfolding first
first_word b w rest h k s =
    cond-false (is_ascii_digit b) (number (b ∷ (w ++ rest))) _ (not_digit b h)
    ∙ cond-true (begins_name b) (word (run continues_name (b ∷ (w ++ rest)))) _ h
    ∙ ap word (run_is continues_name (b ∷ w) rest (and_from (continues_name b) (list_all continues_name w) (also_continues b h) k) (stops_name rest s))

word_piece : (b : ℕ) (w : List ℕ) (t : Token) → begins_name b ≡ true → list_all continues_name w ≡ true → word (b ∷ w) ≡ scanned (lexeme.Token t) (suc (length w)) → is_number (lexeme.Token t) ≡ false → Lexes Boundary (b ∷ w) (t ∷ [])
word_piece b w t h k e q rest us s are = one_token b w t rest us (not_space b h) (first_word b w rest h k s ∙ e) (behind t rest us q are)

pub number_call_piece : Lexes Boundary (codes "buf2int") (token.Call call.ToNumber ∷ [])
unfolding word is_name reserved spelling
number_call_piece = word_piece 98 (codes "uf2int") (token.Call call.ToNumber) refl refl refl refl

pub length_call_piece : Lexes Boundary (codes "buflen") (token.Call call.LengthOf ∷ [])
unfolding word is_name reserved spelling
length_call_piece = word_piece 98 (codes "uflen") (token.Call call.LengthOf) refl refl refl refl

pub bytes_call_piece : Lexes Boundary (codes "int2buf") (token.Call call.ToBytes ∷ [])
unfolding word is_name reserved spelling
bytes_call_piece = word_piece 105 (codes "nt2buf") (token.Call call.ToBytes) refl refl refl refl

pub text_call_piece : Lexes Boundary (codes "hasstring") (token.Call call.HasText ∷ [])
unfolding word is_name reserved spelling
text_call_piece = word_piece 104 (codes "asstring") (token.Call call.HasText) refl refl refl refl

pub presence_piece : Lexes Boundary (codes "ispresent") (token.IsPresent ∷ [])
unfolding word is_name reserved spelling
presence_piece = word_piece 105 (codes "spresent") token.IsPresent refl refl refl refl

pub look_up_piece : (renew : Bool) → Lexes Boundary (look_up_name renew) (token.LookUp renew ∷ [])
unfolding word is_name reserved spelling look_up_name
look_up_piece true = word_piece 99 (codes "heckupdatelookuptable") (token.LookUp true) refl refl refl refl
look_up_piece false = word_piece 99 (codes "hecklookuptable") (token.LookUp false) refl refl refl refl

-- ---- names

-- the bytes of a name
record IsNamed (b : ℕ) (w : List ℕ) : Type 0 where
  begins : begins_name b ≡ true
  continues : list_all continues_name w ≡ true

named_parts : (b : ℕ) (w : List ℕ) → is_name (b ∷ w) ≡ true → IsNamed b w
unfolding is_name
named_parts b w h =
    let p = and_parts (is_word (b ∷ w)) (not (is_reserved (b ∷ w))) h in
    let q = and_parts (begins_name b && list_all continues_name w) (nat_le (length w) 63) p.0 in
    let r = and_parts (begins_name b) (list_all continues_name w) q.0 in
    record { begins = r.0; continues = r.1 }

nothing_unnamed : is_name [] ≡ true → ⊥
unfolding is_name
nothing_unnamed h = cc

all_continue : (name : List ℕ) → is_name name ≡ true → list_all continues_name name ≡ true
all_continue [] h = refl
all_continue (b ∷ w) h =
    let n = named_parts b w h in
    and_from (continues_name b) (list_all continues_name w) (also_continues b n.begins) n.continues

word_name : (w : List ℕ) → is_name w ≡ true → word w ≡ scanned (lexeme.Token (token.Name w)) (length w)
unfolding word
word_name w h = ap (λ o. one_of o (length w)) (cond-true (is_name w) (Some (token.Name w)) (token_of_word (reserved w)) h)

pub name_piece : (name : List ℕ) → is_name name ≡ true → Lexes Boundary name (token.Name name ∷ [])
name_piece [] h = absurd (nothing_unnamed h)
name_piece (b ∷ w) h = let n = named_parts b w h in word_piece b w (token.Name (b ∷ w)) n.begins n.continues (word_name (b ∷ w) h) refl

protocol_name : (w : List ℕ) → is_name w ≡ true → protocol w ≡ scanned (lexeme.Token (token.Protocol w)) (suc (length w))
unfolding protocol
protocol_name w h = ap (λ o. one_of o (1 + length w)) (cond-true (is_name w) (Some (token.Protocol w)) None h) ∙ ap (λ n. scanned (lexeme.Token (token.Protocol w)) n) (omega arith)

pub protocol_piece : (name : List ℕ) → is_name name ≡ true → Lexes Boundary (protocol_text name) (token.Protocol name ∷ [])
unfolding first protocol_text
protocol_piece name h rest us s are =
    one_token 0x23 name (token.Protocol name) rest us refl
    (ap protocol (run_is continues_name name rest (all_continue name h) (stops_name rest s)) ∙ protocol_name name h)
    (behind (token.Protocol name) rest us refl are)

-- what a `$` begins, from the name behind it and what stands behind that
abbrev variable_or : List ℕ → List ℕ → Scanned
variable_or name rest = if is_name name then column name rest (run continues_name (drop 1 rest)) else scanned lexeme.Nothing 1

variable_is : (name rest : List ℕ) → is_name name ≡ true → Stops continues_name rest → variable (name ++ rest) ≡ column name rest (run continues_name (drop 1 rest))
unfolding variable
variable_is name rest h s =
    let r : run continues_name (name ++ rest) ≡ name = run_is continues_name name rest (all_continue name h) s in
    ap (λ n. variable_or n (drop (length n) (name ++ rest))) r
    ∙ ap (λ more. variable_or name more) (drop-append_seam name rest)
    ∙ cond-true (is_name name) (column name rest (run continues_name (drop 1 rest))) (scanned lexeme.Nothing 1) h

no_point : (rest : List ℕ) → Boundary rest → follows 0x2e rest ≡ false
no_point [] s = refl
no_point (b ∷ bs) s = ne_eqb b 0x2e s.1

column_not : (table rest name : List ℕ) → Boundary rest → column table rest name ≡ scanned (lexeme.Token (token.Variable table)) (suc (length table))
unfolding column
column_not table rest name s =
    cond-false (follows 0x2e rest && is_name name) _ (scanned (lexeme.Token (token.Variable table)) (1 + length table)) (and_left (follows 0x2e rest) (is_name name) (no_point rest s))
    ∙ ap (λ n. scanned (lexeme.Token (token.Variable table)) n) (omega arith)

pub variable_piece : (name : List ℕ) → is_name name ≡ true → Lexes Boundary (variable_text name) (token.Variable name ∷ [])
unfolding first variable_text
variable_piece name h rest us s are =
    one_token 0x24 name (token.Variable name) rest us refl
    (variable_is name rest h (stops_name rest s) ∙ column_not name rest (run continues_name (drop 1 rest)) s)
    (behind (token.Variable name) rest us refl are)

column_so : (table name rest : List ℕ) → is_name name ≡ true → column table (0x2e ∷ rest) name ≡ scanned (lexeme.Token (token.Column table name)) (2 + length table + length name)
unfolding column
column_so table name rest h = cond-true (is_name name) (scanned (lexeme.Token (token.Column table name)) (2 + length table + length name)) _ h

pub column_piece : (table name : List ℕ) → is_name table ≡ true → is_name name ≡ true → Lexes Boundary (column_text table name) (token.Column table name ∷ [])
unfolding first column_text
column_piece table name h k rest us s are =
    let w : List ℕ = table ++ 0x2e ∷ name in
    let whole : w ++ rest ≡ table ++ 0x2e ∷ (name ++ rest) = append_assoc table (0x2e ∷ name) rest in
    let size : 2 + length table + length name ≡ suc (length w) = omega (arith, length-append table (0x2e ∷ name)) in
    one_token 0x24 w (token.Column table name) rest us refl
    (ap variable whole
    ∙ variable_is table (0x2e ∷ (name ++ rest)) h refl
    ∙ ap (λ n. column table (0x2e ∷ (name ++ rest)) n) (run_is continues_name name rest (all_continue name k) (stops_name rest s))
    ∙ column_so table name (name ++ rest) k
    ∙ ap (λ n. scanned (lexeme.Token (token.Column table name)) n) size)
    (behind (token.Column table name) rest us refl are)
