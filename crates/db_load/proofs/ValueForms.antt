-- What an attribute's value means has its form, also where the value is missing or has none.
use Rattle.std.specs.Prelude.{◌≡◌, ℕ, zero, suc, ◌+◌, ◌<◌, ◌%◌, Bool, true, false, ◌&&◌, ◌==◌, if◌then◌else◌, nat_lt, nat_le, List, [], ◌∷◌, length, take, unwrap_or, Option, Some, None, Result, Ok, Err}
use Rattle.std.specs.Char.{is_ascii_digit}
use Rattle.std.proofs.Common.{refl, arith, le-leb}
use Rattle.std.proofs.lemmas.Bool.{and_from, and_parts}
use Rattle.hex.specs.Hex.{decode_of, decode_pairs, pair_value, ◌>>=◌}
use Rattle.hex.specs.declared.error.FromHexError.{FromHexError}
use Rattle.hex.specs.declared.error.FromHexError.TheVariants.{OddLength}
use denote.Hole.Carrier.{hidden}
use Rattle.db_model.specs.declared.element.FieldForm.TheVariants as form
use Rattle.db_model.specs.declared.expression.Expr as expr
use Rattle.db_model.specs.declared.expression.Expr.{Expr, end_of-Expr, more_of-Expr}
use Rattle.db_model.specs.declared.expression.Expr.TheBlock.{hidden-the_row-Expr-0, hidden-the_row-Expr-1}
use Rattle.db_model.specs.declared.expression.Literal.{Literal}
use Rattle.db_model.specs.declared.expression.Literal.TheVariants as literal
use Rattle.db_model.specs.declared.value.Ty.{Ty}
use Rattle.db_model.specs.declared.value.Ty.TheVariants as ty
use Rattle.db_model.specs.Folds.{fold_expr}
use Rattle.db_model.specs.Forms.{is_number, is_text, if_there, form_step, is_expression}
use Rattle.db_model.specs.Name.{is_name, reserved, spelling}
use Rattle.db_model.specs.Names.{Text}
use Rattle.db_model.specs.Shape as shape
use Rattle.db_text.specs.declared.node.Attribute.{Attribute}
use Rattle.db_load.specs.declared.word.Word.TheVariants as word
use Rattle.db_load.specs.Forms as forms
use Rattle.db_load.specs.Meaning.{form_by, at}
use Rattle.db_load.specs.Parsed.{literal_step, literal_in, literal_of}
use Rattle.db_load.specs.Values.{no_name, name_in, name_by, optional_name_by, variable_name_by, section_by, text_by, filled_by, separator_by, optional_number_by, number_by, mask_by, expr_by, literal_by, token_by, is_word}
use Rattle.db_load.specs.Whole.{size_by}
use Rattle.expr_text.specs.declared.lexeme.Lexeme.{Lexeme}
use Rattle.expr_text.specs.declared.lexeme.Lexeme.TheVariants as lexeme
use Rattle.expr_text.specs.declared.lexeme.Scanned.{Scanned}
use Rattle.expr_text.specs.declared.token.Token.TheVariants as token
use Rattle.expr_text.specs.Lexing as lexing
use Rattle.expr_text.specs.Numbers.{value_in, value_of_all, number_of}
use Rattle.expr_text.specs.Parsed.{parsed}

pub both : {a b : Bool} → a ≡ true → b ≡ true → (a && b) ≡ true
both {a} {b} p q = and_from a b p q

-- what each side of a choice passes, the choice passes
pub by_test : {A : Type 0} (P : A → Bool) (b : Bool) (x y : A) → (b ≡ true → P x ≡ true) → (b ≡ false → P y ≡ true) → P (if b then x else y) ≡ true
by_test P true x y p q = p refl
by_test P false x y p q = q refl

-- ---- names and texts

no_name_ok : is_name no_name ≡ true
unfolding is_name reserved spelling
no_name_ok = refl

name_in_ok : (t : Text) → is_name (name_in t) ≡ true
name_in_ok t = by_test is_name (is_name t) t no_name (λ e. e) (λ e. no_name_ok)

pub name_ok : (t : Option Text) → is_name (name_by t) ≡ true
name_ok None = no_name_ok
name_ok (Some t) = name_in_ok t

pub optional_name_ok : (t : Option Text) → if_there is_name (optional_name_by t) ≡ true
optional_name_ok None = refl
optional_name_ok (Some t) = by_test (λ (o : Option Text). if_there is_name o) (is_name t) (Some t) None (λ e. e) (λ e. refl)

pub variable_name_ok : (t : Option Text) → is_name (variable_name_by t) ≡ true
variable_name_ok None = no_name_ok
variable_name_ok (Some []) = no_name_ok
variable_name_ok (Some (b ∷ name)) = by_test is_name (b == 0x24) (name_in name) no_name (λ e. name_in_ok name) (λ e. no_name_ok)

pub section_ok : (t : Option Text) → shape.is_section (section_by t) ≡ true
section_ok None = refl
section_ok (Some t) = by_test shape.is_section (forms.is_section t) t no_name (λ e. e) (λ e. refl)

pub text_ok : (t : Option Text) → if_there is_text (text_by t) ≡ true
text_ok None = refl
text_ok (Some t) = by_test (λ (o : Option Text). if_there is_text o) (is_text t) (Some t) None (λ e. e) (λ e. refl)

pub filled_ok : (t : Option Text) → is_text (filled_by t) ≡ true
filled_ok None = refl
filled_ok (Some t) = by_test (λ (o : Option Text). is_text (unwrap_or o [])) (is_text t) (Some t) None (λ e. e) (λ e. refl)

pub separator_ok : (t : Option Text) → (is_text (separator_by t) && nat_le (length (separator_by t)) 8) ≡ true
separator_ok None = refl
separator_ok (Some t) = by_test (λ (s : Text). is_text s && nat_le (length s) 8) (is_text t && nat_le (length t) 8) t [] (λ e. e) (λ e. refl)

-- ---- numbers and masks

in_range : (n : ℕ) → if_there is_number (value_in (lexing.number_or_fault n)) ≡ true
in_range n = by_test (λ (l : Lexeme). if_there is_number (value_in l)) (nat_le n 4294967295) (lexeme.Token (token.Number n)) lexeme.TooGreat (λ e. e) (λ e. refl)

numeral_ok : (radix most : ℕ) (ds : Text) → if_there is_number (value_in (lexing.numeral radix most ds)) ≡ true
unfolding lexing.numeral
numeral_ok radix most ds = by_test (λ (l : Lexeme). if_there is_number (value_in l)) (nat_le (length ds) most) (lexing.number_or_fault (lexing.value_from radix 0 ds)) lexeme.TooGreat (λ e. in_range (lexing.value_from radix 0 ds)) (λ e. refl)

all_ok : (size : ℕ) (s : Scanned) → if_there is_number (value_in s.lexeme) ≡ true → if_there is_number (value_of_all size s) ≡ true
all_ok size s h = by_test (λ (o : Option ℕ). if_there is_number o) (s.size == size) (value_in s.lexeme) None (λ e. h) (λ e. refl)

token_ok : (bs : Text) → if_there is_number (value_in (lexing.number bs).lexeme) ≡ true
unfolding lexing.number
token_ok bs =
    by_test (λ (s : Scanned). if_there is_number (value_in s.lexeme)) (nat_lt 0 (length (lexing.hex_run bs)))
    (lexing.scanned (lexing.numeral 16 8 (lexing.hex_run bs)) (2 + length (lexing.hex_run bs)))
    (lexing.scanned (lexing.numeral 10 10 (lexing.run is_ascii_digit bs)) (length (lexing.run is_ascii_digit bs)))
    (λ e. numeral_ok 16 8 (lexing.hex_run bs)) (λ e. numeral_ok 10 10 (lexing.run is_ascii_digit bs))

numbers_ok : (t : Text) → if_there is_number (number_of t) ≡ true
unfolding number_of
numbers_ok [] = refl
numbers_ok (b ∷ bs) = by_test (λ (o : Option ℕ). if_there is_number o) (is_ascii_digit b) (value_of_all (length (b ∷ bs)) (lexing.number (b ∷ bs))) None (λ e. all_ok (length (b ∷ bs)) (lexing.number (b ∷ bs)) (token_ok (b ∷ bs))) (λ e. refl)

pub number_ok : (t : Option Text) → if_there is_number (optional_number_by t) ≡ true
number_ok None = refl
number_ok (Some t) = numbers_ok t

abbrev has_bytes : List ℕ → Bool
has_bytes m = nat_le 1 (length m)

-- some bytes, of which there is one
abbrev is_filled : Result (List ℕ) FromHexError → Bool
is_filled (Ok bytes) = has_bytes (take 262144 bytes)
is_filled (Err e) = true

front_kept : (most byte : ℕ) (bytes : List ℕ) → 0 < most → has_bytes (take most (byte ∷ bytes)) ≡ true
front_kept zero byte bytes h = absurd (omega arith)
front_kept (suc most) byte bytes h = le-leb 1 (suc (length (take most bytes))) (omega arith)

one_more : (byte : ℕ) (r : Result (List ℕ) FromHexError) → is_filled (r >>= (λ bytes. Ok (byte ∷ bytes))) ≡ true
one_more byte (Ok bytes) = front_kept 262144 byte bytes (omega arith)
one_more byte (Err e) = refl

first_byte : (high : Result ℕ FromHexError) (r : Result (List ℕ) FromHexError) → is_filled (high >>= (λ byte. r >>= (λ bytes. Ok (byte ∷ bytes)))) ≡ true
first_byte (Ok byte) r = one_more byte r
first_byte (Err e) r = refl

pairs_fill : (ds : List ℕ) → nat_lt 0 (length ds) ≡ true → is_filled (decode_pairs 0 ds) ≡ true
unfolding decode_pairs
pairs_fill [] h = (cc)
pairs_fill (digit ∷ []) h = refl
pairs_fill (high ∷ low ∷ rest) h = first_byte (pair_value high low 0) (decode_pairs 2 rest)

of_result : (r : Result (List ℕ) FromHexError) → is_filled r ≡ true → if_there has_bytes (forms.mask_by r) ≡ true
of_result (Ok bytes) h = h
of_result (Err e) h = refl

mask_in_ok : (o : Option Text) → if_there has_bytes (forms.mask_in o) ≡ true
mask_in_ok None = refl
mask_in_ok (Some ds) = by_test (λ (o : Option (List ℕ)). if_there has_bytes o) (nat_lt 0 (length ds)) (forms.mask_by (decode_of ds)) None (λ e. of_result (decode_of ds) (by_test is_filled (length ds % 2 == 1) (Err OddLength) (decode_pairs 0 ds) (λ odd. refl) (λ even. pairs_fill ds e))) (λ e. refl)

pub mask_ok : (t : Option Text) → if_there (λ (m : List ℕ). nat_le 1 (length m)) (mask_by t) ≡ true
unfolding forms.mask_of
mask_ok None = refl
mask_ok (Some t) = mask_in_ok (forms.behind_0x t)

-- a size stands exactly where the type is buf
pub size_ok : (of : Ty) (t : Option Text) → shape.size_by of (size_by of t) ≡ true
size_ok ty.Num t = refl
size_ok ty.Buf t = refl
size_ok ty.Proto t = refl

-- ---- expressions

number_is_expression : is_expression (expr.Number 0) ≡ true
unfolding is_expression hidden-the_row-Expr-0 hidden-the_row-Expr-1 hidden
number_is_expression = refl

form_of : (e : Expr) → is_expression e ≡ true → fold_expr Bool form_step e ≡ true
unfolding is_expression
form_of e h = (and_parts (fold_expr Bool form_step e) _ h).0

-- the literal of an expression in its form has its form
literal_formed : (e : Expr) → fold_expr Bool form_step e ≡ true → if_there shape.literal_is_shaped (fold_expr (Option Literal) literal_step e) ≡ true
literal_formed (expr.Number n) h = refl
literal_formed (expr.Text t) h = refl
literal_formed (expr.Protocol name) h = h
literal_formed (expr.Field name) h = refl
literal_formed (expr.Variable name) h = refl
literal_formed (expr.Column table column) h = refl
literal_formed (expr.Not' s (more_of-Expr x end_of-Expr)) h = refl
literal_formed (expr.And' s (more_of-Expr x end_of-Expr) t (more_of-Expr y end_of-Expr)) h = refl
literal_formed (expr.Or' s (more_of-Expr x end_of-Expr) t (more_of-Expr y end_of-Expr)) h = refl
literal_formed (expr.Binary' op s (more_of-Expr x end_of-Expr) t (more_of-Expr y end_of-Expr)) h = refl
literal_formed (expr.Slice' s (more_of-Expr x end_of-Expr) t (more_of-Expr y end_of-Expr) u (more_of-Expr z end_of-Expr)) h = refl
literal_formed (expr.ToNumber' s (more_of-Expr x end_of-Expr)) h = refl
literal_formed (expr.LengthOf' s (more_of-Expr x end_of-Expr)) h = refl
literal_formed (expr.ToBytes' s (more_of-Expr x end_of-Expr) size) h = refl
literal_formed (expr.HasText' s (more_of-Expr x end_of-Expr) text) h = refl
literal_formed (expr.IsPresent name) h = refl
literal_formed (expr.LookUp' table renew s keys) h = refl

or_number : (o : Option Literal) → if_there shape.literal_is_shaped o ≡ true → shape.literal_is_shaped (unwrap_or o (literal.Number 0)) ≡ true
or_number None h = refl
or_number (Some l) h = h

-- the form of a field, where its expression is one
field_form : (fixed bit variable token padding : Bool) (size bits mask align : ℕ) (e : Expr) (t : List ℕ) → is_expression e ≡ true
    → shape.has_form (if fixed then form.Fixed size else (if bit then form.Bit bits mask else (if variable then form.Variable e else (if token then form.TokenEnded t else (if padding then form.Padding align else form.Line))))) ≡ true
field_form true bit variable token padding size bits mask align e t h = refl
field_form false true variable token padding size bits mask align e t h = refl
field_form false false true token padding size bits mask align e t h = h
field_form false false false true padding size bits mask align e t h = refl
field_form false false false false true size bits mask align e t h = refl
field_form false false false false false size bits mask align e t h = refl

-- an expression that is read is well formed
abbrev pub ReadsFormed : Type 0
ReadsFormed = (t : Text) (e : Expr) → parsed t ≡ Some e → is_expression e ≡ true

module _ (formed : ReadsFormed) where
  read_or_number : (t : Text) (o : Option Expr) → parsed t ≡ o → is_expression (unwrap_or o (expr.Number 0)) ≡ true
  read_or_number t None e = number_is_expression
  read_or_number t (Some x) e = formed t x e

  pub expr_ok : (t : Option Text) → is_expression (expr_by t) ≡ true
  expr_ok None = number_is_expression
  expr_ok (Some t) = read_or_number t (parsed t) refl

  read_literal : (t : Text) (o : Option Expr) → parsed t ≡ o → if_there shape.literal_is_shaped (literal_in o) ≡ true
  read_literal t None e = refl
  read_literal t (Some x) e = literal_formed x (form_of x (formed t x e))

  pub literal_ok : (t : Option Text) → shape.literal_is_shaped (literal_by t) ≡ true
  literal_ok None = refl
  literal_ok (Some t) = or_number (literal_of t) (read_literal t (parsed t) refl)

  pub form_ok : (a : List Attribute) → shape.has_form (form_by a) ≡ true
  form_ok a = field_form
      (is_word (at a word.Type) word.Fixed) (is_word (at a word.Type) word.Bit) (is_word (at a word.Type) word.Variable) (is_word (at a word.Type) word.TokenEnded) (is_word (at a word.Type) word.Padding)
      (number_by (at a word.Size)) (number_by (at a word.Size)) (number_by (at a word.Mask)) (number_by (at a word.Align)) (expr_by (at a word.Expr)) (token_by (at a word.Token)) (expr_ok (at a word.Expr))
