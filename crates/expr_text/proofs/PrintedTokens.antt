-- The tokens of a canonical text: what a step prints of parts that read back reads back.
use Rattle.std.proofs.Common.{◌≡◌, ◌≤◌, ◌==◌, ℕ, suc, Bool, true, false, List, [], ◌∷◌, ◌++◌, refl, sym, subst, ◌∙◌, append_assoc, arith}
use Rattle.std.proofs.lemmas.Bool.{eqb-false}
use Rattle.std.specs.Fmt.{decimal}
use Rattle.std.specs.Prelude.{if◌then◌else◌, codes}
use Rattle.db_model.specs.declared.expression.Expr.{Expr}
use Rattle.db_model.specs.declared.expression.Expr.TheVariants as expr
use Rattle.db_model.specs.declared.expression.Operator.{Operator}
use Rattle.db_model.specs.declared.expression.Operator.TheVariants as op
use Rattle.db_model.specs.declared.limits.TheConstants.{GREATEST_NUMBER}
use Rattle.db_model.specs.Name.{continues_name, is_name, spelling}
use Rattle.expr_text.specs.declared.token.BinaryOp.{BinaryOp}
use Rattle.expr_text.specs.declared.token.BinaryOp.TheVariants as binary_op
use Rattle.expr_text.specs.declared.token.Call.TheVariants as call
use Rattle.expr_text.specs.declared.token.Token.{Token}
use Rattle.expr_text.specs.declared.token.Token.TheVariants as token
use Rattle.expr_text.specs.Grammar.{Reads, ReadsKeys, number, text, protocol, variable, column, field, group, to_number, length_of, to_bytes, has_text, is_present, look_up, slice, binary, negated, tighter, last, key}
use Rattle.expr_text.specs.Printing.{Printed, compound, simple, operand, in_parentheses, arguments, quoted, operator_text, look_up_name, protocol_text, variable_text, column_text, negation, conjunction, disjunction, slice_text, number_call, length_call, bytes_call, text_call, presence_call, look_up_call}
use Rattle.expr_text.specs.Tokens.{level_of, left_level_of, joined_by}
use Rattle.expr_text.proofs.Accepted.{lower}
use Rattle.expr_text.proofs.Levels.{sides}
use Rattle.expr_text.proofs.NamesInText.{number_call_piece, length_call_piece, bytes_call_piece, text_call_piece, presence_piece, look_up_piece, name_piece, protocol_piece, variable_piece, column_piece}
use Rattle.expr_text.proofs.NumbersInText.{number_piece}
use Rattle.expr_text.proofs.Pieces.{Anything, Boundary, Lexes, loose, joined}
use Rattle.expr_text.proofs.QuotedInText.{AreBytes, text_piece}
use Rattle.expr_text.proofs.Words.{and_piece, or_piece, not_piece, comma_piece, operator_piece, open_piece, close_piece, open_bracket_piece, colon_piece, close_bracket_piece}

-- a printed text reads back as the expression
pub record IsRead (e : Expr) (p : Printed) : Type 0 where
  pub tokens : List Token
  pub reads : (rest : List Token) → Reads (if p.is_compound then 1 else 7) e (tokens ++ rest) rest
  pub lexes : Lexes Boundary p.bytes tokens

-- so does an operand, which is no operation
pub record IsOperand (e : Expr) (bytes : List ℕ) : Type 0 where
  pub tokens : List Token
  pub reads : (rest : List Token) → Reads 7 e (tokens ++ rest) rest
  pub lexes : Lexes Boundary bytes tokens

-- and the keys of a look-up
pub record AreRead (keys : List Expr) (ps : List Printed) : Type 0 where
  pub tokens : List Token
  pub reads : (rest : List Token) → ReadsKeys keys (tokens ++ token.Close ∷ rest) rest
  pub lexes : Lexes Boundary (arguments ps) tokens

-- ---- pieces together

starts : (b : ℕ) → continues_name b ≡ false → (b == 0x2e) ≡ false → (bs : List ℕ) → Boundary (b ∷ bs)
starts b h k bs = (h, eqb-false b 0x2e k)

-- a sign between two parts
between : (H : List ℕ → Type 0) (a sign b : List ℕ) (ts us : List Token) (t : Token) → Lexes Boundary a ts → ((rest : List ℕ) → Boundary (sign ++ rest)) → Lexes Anything sign (t ∷ []) → Lexes H b us → Lexes H (a ++ (sign ++ b)) (ts ++ t ∷ us)
between H a sign b ts us t f s g h =
    joined Boundary H a (sign ++ b) ts (t ∷ us) f (λ rest _. subst Boundary (sym (append_assoc sign b rest)) (s (b ++ rest)))
    (joined Anything H sign b (t ∷ []) us g (λ _ _. tt) h)

-- a sign behind a part
before : (a sign : List ℕ) (ts : List Token) (t : Token) → Lexes Boundary a ts → ((rest : List ℕ) → Boundary (sign ++ rest)) → Lexes Anything sign (t ∷ []) → Lexes Anything (a ++ sign) (ts ++ t ∷ [])
before a sign ts t f s g = joined Boundary Anything a sign ts (t ∷ []) f (λ rest _. s rest) g

enclosed : (a : List ℕ) (ts : List Token) → Lexes Boundary a ts → Lexes Anything (in_parentheses a) (token.Open ∷ (ts ++ token.Close ∷ []))
unfolding in_parentheses
enclosed a ts f =
    joined Anything Anything (codes "(") (a ++ codes ")") (token.Open ∷ []) (ts ++ token.Close ∷ []) open_piece (λ _ _. tt)
    (before a (codes ")") ts token.Close f (starts 0x29 refl refl) close_piece)

called : (name a : List ℕ) (ts : List Token) (t : Token) → Lexes Boundary name (t ∷ []) → Lexes Boundary a ts → Lexes Boundary (name ++ in_parentheses a) (t ∷ token.Open ∷ (ts ++ token.Close ∷ []))
unfolding in_parentheses
called name a ts t f g =
    joined Boundary Boundary name (in_parentheses a) (t ∷ []) (token.Open ∷ (ts ++ token.Close ∷ [])) f
    (λ rest _. starts 0x28 refl refl ((a ++ codes ")") ++ rest))
    (loose (in_parentheses a) (token.Open ∷ (ts ++ token.Close ∷ [])) (enclosed a ts g))

-- ---- operands and arguments

pub argument : (e : Expr) (p : Printed) (r : IsRead e p) (rest : List Token) → Reads 1 e (r.tokens ++ rest) rest
argument e p r rest = whole p.is_compound (r.reads rest)
  where
    whole : (c : Bool) → Reads (if c then 1 else 7) e (r.tokens ++ rest) rest → Reads 1 e (r.tokens ++ rest) rest
    whole true d = d
    whole false d = lower 1 7 (omega arith) d

closed : (ts rest : List Token) → (ts ++ token.Close ∷ []) ++ rest ≡ ts ++ token.Close ∷ rest
closed ts rest = append_assoc ts (token.Close ∷ []) rest

operand_of : (e : Expr) (c : Bool) (bytes : List ℕ) → IsRead e (record { is_compound = c; bytes = bytes }) → IsOperand e (operand (record { is_compound = c; bytes = bytes }))
operand_of e true bytes r = record {
  tokens = token.Open ∷ (r.tokens ++ token.Close ∷ []);
  reads = λ rest. tighter (group (subst (λ ts. Reads 1 e ts (token.Close ∷ rest)) (sym (closed r.tokens rest)) (r.reads (token.Close ∷ rest))));
  lexes = loose (in_parentheses bytes) (token.Open ∷ (r.tokens ++ token.Close ∷ [])) (enclosed bytes r.tokens r.lexes);
}
operand_of e false bytes r = record { tokens = r.tokens; reads = r.reads; lexes = r.lexes }

pub as_operand : (e : Expr) (p : Printed) → IsRead e p → IsOperand e (operand p)
as_operand e p r = operand_of e p.is_compound p.bytes r

-- ---- the simple ones

one : (e : Expr) (bytes : List ℕ) (t : Token) → ((rest : List Token) → Reads 8 e (t ∷ rest) rest) → Lexes Boundary bytes (t ∷ []) → IsRead e (simple bytes)
one e bytes t d f = record { tokens = t ∷ []; reads = λ rest. tighter (d rest); lexes = f }

pub number_read : (n : ℕ) → n ≤ GREATEST_NUMBER → IsRead (expr.Number n) (simple (decimal n))
number_read n h = one (expr.Number n) (decimal n) (token.Number n) (λ _. number) (number_piece n h)

pub text_read : (b : List ℕ) → AreBytes b → IsRead (expr.Text b) (simple (quoted b))
text_read b h = one (expr.Text b) (quoted b) (token.Text b) (λ _. text) (loose (quoted b) (token.Text b ∷ []) (text_piece b h))

pub protocol_read : (name : List ℕ) → is_name name ≡ true → IsRead (expr.Protocol name) (simple (protocol_text name))
protocol_read name h = one (expr.Protocol name) (protocol_text name) (token.Protocol name) (λ _. protocol) (protocol_piece name h)

pub field_read : (name : List ℕ) → is_name name ≡ true → IsRead (expr.Field name) (simple name)
field_read name h = one (expr.Field name) name (token.Name name) (λ _. field) (name_piece name h)

pub variable_read : (name : List ℕ) → is_name name ≡ true → IsRead (expr.Variable name) (simple (variable_text name))
variable_read name h = one (expr.Variable name) (variable_text name) (token.Variable name) (λ _. variable) (variable_piece name h)

pub column_read : (table name : List ℕ) → is_name table ≡ true → is_name name ≡ true → IsRead (expr.Column table name) (simple (column_text table name))
column_read table name h k = one (expr.Column table name) (column_text table name) (token.Column table name) (λ _. column) (column_piece table name h k)

-- ---- operations

pub not_read : (a : Expr) (bytes : List ℕ) → IsOperand a bytes → IsRead (expr.Not a) (compound (negation bytes))
unfolding negation spelling
not_read a bytes r = record {
  tokens = token.Not ∷ r.tokens;
  reads = λ rest. lower 1 3 (omega arith) (negated (lower 3 7 (omega arith) (r.reads rest)));
  lexes = joined Anything Boundary (codes "not ") bytes (token.Not ∷ []) r.tokens not_piece (λ _ _. tt) r.lexes;
}

operation : (o : BinaryOp) (a b : Expr) (left sign right : List ℕ) → IsOperand a left → IsOperand b right → ((rest : List ℕ) → Boundary (sign ++ rest)) → Lexes Anything sign (token.Operator o ∷ []) → IsRead (joined_by o a b) (compound (left ++ (sign ++ right)))
operation o a b left sign right x y s f = record {
  tokens = x.tokens ++ token.Operator o ∷ y.tokens;
  reads = λ rest.
      let k = sides o in
      subst (λ ts. Reads 1 (joined_by o a b) ts rest) (sym (append_assoc x.tokens (token.Operator o ∷ y.tokens) rest))
      (lower 1 (level_of o) k.some
      (binary (lower (left_level_of o) 7 k.bound (x.reads (token.Operator o ∷ (y.tokens ++ rest)))) (lower (suc (level_of o)) 7 (let m = k.most in omega arith) (y.reads rest))));
  lexes = between Boundary left sign right x.tokens y.tokens (token.Operator o) x.lexes s f y.lexes;
}

pub and_read : (a b : Expr) (left right : List ℕ) → IsOperand a left → IsOperand b right → IsRead (expr.And a b) (compound (conjunction left right))
unfolding conjunction spelling
and_read a b left right x y = operation binary_op.And a b left (codes " and ") right x y (λ rest. starts 0x20 refl refl (codes "and " ++ rest)) and_piece

pub or_read : (a b : Expr) (left right : List ℕ) → IsOperand a left → IsOperand b right → IsRead (expr.Or a b) (compound (disjunction left right))
unfolding disjunction spelling
or_read a b left right x y = operation binary_op.Or a b left (codes " or ") right x y (λ rest. starts 0x20 refl refl (codes "or " ++ rest)) or_piece

no_point : ◌≡◌ {A = ℕ} 0x20 0x2e → ⊥
no_point = eqb-false 0x20 0x2e refl

spaced : (o : Operator) (rest : List ℕ) → Boundary (operator_text o ++ rest)
unfolding operator_text spelling
spaced op.Add rest = (refl, no_point)
spaced op.Sub rest = (refl, no_point)
spaced op.Mul rest = (refl, no_point)
spaced op.Div rest = (refl, no_point)
spaced op.Mod rest = (refl, no_point)
spaced op.BitAnd rest = (refl, no_point)
spaced op.BitOr rest = (refl, no_point)
spaced op.Lt rest = (refl, no_point)
spaced op.Le rest = (refl, no_point)
spaced op.Gt rest = (refl, no_point)
spaced op.Ge rest = (refl, no_point)
spaced op.Eq rest = (refl, no_point)
spaced op.Ne rest = (refl, no_point)

pub binary_read : (o : Operator) (a b : Expr) (left right : List ℕ) → IsOperand a left → IsOperand b right → IsRead (expr.Binary o a b) (compound (left ++ (operator_text o ++ right)))
binary_read o a b left right x y = operation (binary_op.Plain o) a b left (operator_text o) right x y (spaced o) (operator_piece o)

-- ---- slices and calls

pub slice_read : (b from count : Expr) (base : List ℕ) (p q : Printed) → IsOperand b base → IsRead from p → IsRead count q → IsRead (expr.Slice b from count) (simple (slice_text base p.bytes q.bytes))
unfolding slice_text
slice_read b from count base p q x y z =
    let inner : List Token = z.tokens ++ token.CloseBracket ∷ [] in
    let middle : List Token = y.tokens ++ token.Colon ∷ inner in
    record {
      tokens = x.tokens ++ token.OpenBracket ∷ middle;
      reads = λ rest.
          let vs : inner ++ rest ≡ z.tokens ++ token.CloseBracket ∷ rest = append_assoc z.tokens (token.CloseBracket ∷ []) rest in
          let us : middle ++ rest ≡ y.tokens ++ token.Colon ∷ (inner ++ rest) = append_assoc y.tokens (token.Colon ∷ inner) rest in
          let ts : (x.tokens ++ token.OpenBracket ∷ middle) ++ rest ≡ x.tokens ++ token.OpenBracket ∷ (middle ++ rest) = append_assoc x.tokens (token.OpenBracket ∷ middle) rest in
          subst (λ l. Reads 7 (expr.Slice b from count) l rest) (sym ts)
          (slice (x.reads (token.OpenBracket ∷ (middle ++ rest)))
          (subst (λ l. Reads 1 from l (token.Colon ∷ (inner ++ rest))) (sym us) (argument from p y (token.Colon ∷ (inner ++ rest))))
          (subst (λ l. Reads 1 count l (token.CloseBracket ∷ rest)) (sym vs) (argument count q z (token.CloseBracket ∷ rest))));
      lexes =
          between Boundary base (codes "[") _ x.tokens middle token.OpenBracket x.lexes (starts 0x5b refl refl) open_bracket_piece
          (between Boundary p.bytes (codes ":") _ y.tokens inner token.Colon y.lexes (starts 0x3a refl refl) colon_piece
          (loose (q.bytes ++ codes "]") inner (before q.bytes (codes "]") z.tokens token.CloseBracket z.lexes (starts 0x5d refl refl) close_bracket_piece)));
    }

pub to_number_read : (a : Expr) (p : Printed) → IsRead a p → IsRead (expr.ToNumber a) (simple (number_call p.bytes))
unfolding number_call spelling
to_number_read a p r = record {
  tokens = token.Call call.ToNumber ∷ token.Open ∷ (r.tokens ++ token.Close ∷ []);
  reads = λ rest. tighter (to_number (subst (λ ts. Reads 1 a ts (token.Close ∷ rest)) (sym (closed r.tokens rest)) (argument a p r (token.Close ∷ rest))));
  lexes = called (codes "buf2int") p.bytes r.tokens (token.Call call.ToNumber) number_call_piece r.lexes;
}

pub length_of_read : (a : Expr) (p : Printed) → IsRead a p → IsRead (expr.LengthOf a) (simple (length_call p.bytes))
unfolding length_call spelling
length_of_read a p r = record {
  tokens = token.Call call.LengthOf ∷ token.Open ∷ (r.tokens ++ token.Close ∷ []);
  reads = λ rest. tighter (length_of (subst (λ ts. Reads 1 a ts (token.Close ∷ rest)) (sym (closed r.tokens rest)) (argument a p r (token.Close ∷ rest))));
  lexes = called (codes "buflen") p.bytes r.tokens (token.Call call.LengthOf) length_call_piece r.lexes;
}

-- two arguments, and the parenthesis behind them
pair_closed : (ts : List Token) (t : Token) (rest : List Token) → ((ts ++ token.Comma ∷ t ∷ []) ++ token.Close ∷ []) ++ rest ≡ ts ++ token.Comma ∷ t ∷ token.Close ∷ rest
pair_closed ts t rest = closed (ts ++ token.Comma ∷ t ∷ []) rest ∙ append_assoc ts (token.Comma ∷ t ∷ []) (token.Close ∷ rest)

pair_lexes : (a b : List ℕ) (ts : List Token) (t : Token) → Lexes Boundary a ts → Lexes Boundary b (t ∷ []) → Lexes Boundary (a ++ (codes ", " ++ b)) (ts ++ token.Comma ∷ t ∷ [])
pair_lexes a b ts t f g = between Boundary a (codes ", ") b ts (t ∷ []) token.Comma f (λ rest. starts 0x2c refl refl (0x20 ∷ rest)) comma_piece g

pub to_bytes_read : (a : Expr) (size : ℕ) (p : Printed) → IsRead a p → size ≤ GREATEST_NUMBER → IsRead (expr.ToBytes a size) (simple (bytes_call p.bytes size))
unfolding bytes_call spelling
to_bytes_read a size p r h = record {
  tokens = token.Call call.ToBytes ∷ token.Open ∷ ((r.tokens ++ token.Comma ∷ token.Number size ∷ []) ++ token.Close ∷ []);
  reads = λ rest.
      tighter (to_bytes (subst (λ ts. Reads 1 a ts (token.Comma ∷ token.Number size ∷ token.Close ∷ rest)) (sym (pair_closed r.tokens (token.Number size) rest))
      (argument a p r (token.Comma ∷ token.Number size ∷ token.Close ∷ rest))));
  lexes = called (codes "int2buf") (p.bytes ++ (codes ", " ++ decimal size)) (r.tokens ++ token.Comma ∷ token.Number size ∷ []) (token.Call call.ToBytes) bytes_call_piece
      (pair_lexes p.bytes (decimal size) r.tokens (token.Number size) r.lexes (number_piece size h));
}

pub has_text_read : (a : Expr) (b : List ℕ) (p : Printed) → IsRead a p → AreBytes b → IsRead (expr.HasText a b) (simple (text_call p.bytes b))
unfolding text_call spelling
has_text_read a b p r h = record {
  tokens = token.Call call.HasText ∷ token.Open ∷ ((r.tokens ++ token.Comma ∷ token.Text b ∷ []) ++ token.Close ∷ []);
  reads = λ rest.
      tighter (has_text (subst (λ ts. Reads 1 a ts (token.Comma ∷ token.Text b ∷ token.Close ∷ rest)) (sym (pair_closed r.tokens (token.Text b) rest))
      (argument a p r (token.Comma ∷ token.Text b ∷ token.Close ∷ rest))));
  lexes = called (codes "hasstring") (p.bytes ++ (codes ", " ++ quoted b)) (r.tokens ++ token.Comma ∷ token.Text b ∷ []) (token.Call call.HasText) text_call_piece
      (pair_lexes p.bytes (quoted b) r.tokens (token.Text b) r.lexes (loose (quoted b) (token.Text b ∷ []) (text_piece b h)));
}

pub is_present_read : (name : List ℕ) → is_name name ≡ true → IsRead (expr.IsPresent name) (simple (presence_call name))
unfolding presence_call spelling
is_present_read name h = record {
  tokens = token.IsPresent ∷ token.Open ∷ token.Name name ∷ token.Close ∷ [];
  reads = λ rest. tighter is_present;
  lexes = called (codes "ispresent") name (token.Name name ∷ []) token.IsPresent presence_piece (name_piece name h);
}

-- ---- look-ups

pub no_keys : AreRead [] []
no_keys = record { tokens = []; reads = λ rest. last; lexes = λ rest us g h. h }

more_starts : (ps : List Printed) (rest : List ℕ) → Boundary rest → Boundary (arguments ps ++ rest)
more_starts [] rest h = h
more_starts (p ∷ ps) rest h = (refl, eqb-false 0x2c 0x2e refl)

pub more_keys : (e : Expr) (keys : List Expr) (p : Printed) (ps : List Printed) → IsRead e p → AreRead keys ps → AreRead (e ∷ keys) (p ∷ ps)
more_keys e keys p ps r k = record {
  tokens = token.Comma ∷ (r.tokens ++ k.tokens);
  reads = λ rest.
      key (subst (λ ts. Reads 1 e ts (k.tokens ++ token.Close ∷ rest)) (sym (append_assoc r.tokens k.tokens (token.Close ∷ rest))) (argument e p r (k.tokens ++ token.Close ∷ rest))) (k.reads rest);
  lexes = joined Anything Boundary (codes ", ") (p.bytes ++ arguments ps) (token.Comma ∷ []) (r.tokens ++ k.tokens) comma_piece (λ _ _. tt)
      (joined Boundary Boundary p.bytes (arguments ps) r.tokens k.tokens r.lexes (more_starts ps) k.lexes);
}

pub look_up_read : (table : List ℕ) (renew : Bool) (keys : List Expr) (ps : List Printed) → is_name table ≡ true → AreRead keys ps → IsRead (expr.LookUp table renew keys) (simple (look_up_call renew table (arguments ps)))
unfolding look_up_call
look_up_read table renew keys ps h k = record {
  tokens = token.LookUp renew ∷ token.Open ∷ token.Name table ∷ (k.tokens ++ token.Close ∷ []);
  reads = λ rest. tighter (look_up (subst (λ ts. ReadsKeys keys ts rest) (sym (closed k.tokens rest)) (k.reads rest)));
  lexes = called (look_up_name renew) (table ++ arguments ps) (token.Name table ∷ k.tokens) (token.LookUp renew) (look_up_piece renew)
      (joined Boundary Boundary table (arguments ps) (token.Name table ∷ []) k.tokens (name_piece table h) (more_starts ps) k.lexes);
}
