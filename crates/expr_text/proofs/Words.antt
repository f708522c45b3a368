-- The signs and the words of a canonical text.
use Rattle.std.proofs.Common.{◌≡◌, ℕ, Bool, true, false, List, [], ◌∷◌, refl, sym, subst}
use Rattle.std.specs.Prelude.{if◌then◌else◌, codes, Some, None}
use Rattle.db_model.specs.Name.{is_name, reserved, spelling}
use Rattle.db_model.specs.declared.expression.Operator.{Operator}
use Rattle.db_model.specs.declared.expression.Operator.TheVariants as op
use Rattle.expr_text.specs.declared.lexeme.Lexeme.TheVariants as lexeme
use Rattle.expr_text.specs.declared.token.BinaryOp.TheVariants as binary
use Rattle.expr_text.specs.declared.token.Token.{Token}
use Rattle.expr_text.specs.declared.token.Token.TheVariants as token
use Rattle.expr_text.specs.Lexing.{scanned, one_of, lexed, first, word, follows, sign, sign_of, equality, two_or_one}
use Rattle.expr_text.specs.Printing.{operator_text}
use Rattle.expr_text.proofs.Pieces.{Anything, Lexes, one_token}

-- ---- words and operators with a space on each side

abbrev Piece : List ℕ → Token → Type 0
Piece bs t = Lexes Anything bs (t ∷ [])

pub and_piece : Piece (codes " and ") (token.Operator binary.And)
unfolding lexed first word is_name reserved spelling
and_piece rest us g h at = (refl, h _)

pub or_piece : Piece (codes " or ") (token.Operator binary.Or)
unfolding lexed first word is_name reserved spelling
or_piece rest us g h at = (refl, h _)

pub not_piece : Piece (codes "not ") token.Not
unfolding lexed first word is_name reserved spelling
not_piece rest us g h at = (refl, h _)

pub comma_piece : Piece (codes ", ") token.Comma
unfolding lexed first sign sign_of equality
comma_piece rest us g h at = (refl, h _)

pub operator_piece : (o : Operator) → Piece (operator_text o) (token.Operator (binary.Plain o))
unfolding lexed first word is_name reserved spelling sign sign_of equality operator_text
operator_piece op.Add rest us g h at = (refl, h _)
operator_piece op.Sub rest us g h at = (refl, h _)
operator_piece op.Mul rest us g h at = (refl, h _)
operator_piece op.Div rest us g h at = (refl, h _)
operator_piece op.Mod rest us g h at = (refl, h _)
operator_piece op.BitAnd rest us g h at = (refl, h _)
operator_piece op.BitOr rest us g h at = (refl, h _)
operator_piece op.Lt rest us g h at = (refl, h _)
operator_piece op.Le rest us g h at = (refl, h _)
operator_piece op.Gt rest us g h at = (refl, h _)
operator_piece op.Ge rest us g h at = (refl, h _)
operator_piece op.Eq rest us g h at = (refl, h _)
operator_piece op.Ne rest us g h at = (refl, h _)

-- ---- signs

alone : (b : ℕ) (t : Token) (bs : List ℕ) → equality b ≡ None → sign_of b ≡ Some t → (f : Bool) → (if f then two_or_one (equality b) b else one_of (sign_of b) 1) ≡ scanned (lexeme.Token t) 1
alone b t bs h e true = subst (λ x. two_or_one x b ≡ scanned (lexeme.Token t) 1) (sym h) (subst (λ x. one_of x 1 ≡ scanned (lexeme.Token t) 1) (sym e) refl)
alone b t bs h e false = subst (λ x. one_of x 1 ≡ scanned (lexeme.Token t) 1) (sym e) refl

sign_is : (b : ℕ) (t : Token) (bs : List ℕ) → equality b ≡ None → sign_of b ≡ Some t → sign b bs ≡ scanned (lexeme.Token t) 1
unfolding sign
sign_is b t bs h e = alone b t bs h e (follows 0x3d bs)

pub open_piece : Piece (codes "(") token.Open
unfolding first sign_of equality
open_piece rest us g h = one_token 0x28 [] token.Open rest us refl (sign_is 0x28 token.Open rest refl refl) h

pub close_piece : Piece (codes ")") token.Close
unfolding first sign_of equality
close_piece rest us g h = one_token 0x29 [] token.Close rest us refl (sign_is 0x29 token.Close rest refl refl) h

pub open_bracket_piece : Piece (codes "[") token.OpenBracket
unfolding first sign_of equality
open_bracket_piece rest us g h = one_token 0x5b [] token.OpenBracket rest us refl (sign_is 0x5b token.OpenBracket rest refl refl) h

pub colon_piece : Piece (codes ":") token.Colon
unfolding first sign_of equality
colon_piece rest us g h = one_token 0x3a [] token.Colon rest us refl (sign_is 0x3a token.Colon rest refl refl) h

pub close_bracket_piece : Piece (codes "]") token.CloseBracket
unfolding first sign_of equality
close_bracket_piece rest us g h = one_token 0x5d [] token.CloseBracket rest us refl (sign_is 0x5d token.CloseBracket rest refl refl) h
