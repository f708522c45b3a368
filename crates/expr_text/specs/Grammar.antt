-- The grammar of expressions, over tokens. It has one rule for each alternative, and a level for each line:
--   Or = And { "or" And }            1      Sum  = Term { ("+" | "-" | "bitwor") Term }           5
--   And = Not { "and" Not }          2      Term = Slice { ("*" | "/" | "mod" | "bitwand") Slice } 6
--   Not = "not" Not | Comparison     3      Slice = Prim { "[" Or ":" Or "]" }                     7
--   Comparison = Sum [ ("==" | ..) Sum ]  4      Prim = the rules of level 8
-- A rule for { } that has its own level on the left says that operators group to the left.
use Rattle.std.specs.Prelude.{ℕ, suc, Bool, List, [], ◌∷◌}
use Rattle.db_model.specs.declared.expression.Expr.{Expr}
use Rattle.db_model.specs.declared.expression.Expr.TheVariants as expr
use Rattle.expr_text.specs.declared.token.BinaryOp.{BinaryOp}
use Rattle.expr_text.specs.declared.token.Call.TheVariants as call
use Rattle.expr_text.specs.declared.token.Token.{Token}
use Rattle.expr_text.specs.declared.token.Token.TheVariants as token
use Rattle.expr_text.specs.Tokens.{level_of, left_level_of, joined_by}

mutual
  -- `Reads level e ts rest`: of the tokens ts the first ones are an expression e of that level, and rest are those behind it
  pub data Reads : ℕ → Expr → List Token → List Token → Type 0 where
    number : {n : ℕ} {rest : List Token} → Reads 8 (expr.Number n) (token.Number n ∷ rest) rest
    text : {b : List ℕ} {rest : List Token} → Reads 8 (expr.Text b) (token.Text b ∷ rest) rest
    protocol : {name : List ℕ} {rest : List Token} → Reads 8 (expr.Protocol name) (token.Protocol name ∷ rest) rest
    variable : {name : List ℕ} {rest : List Token} → Reads 8 (expr.Variable name) (token.Variable name ∷ rest) rest
    column : {table column : List ℕ} {rest : List Token} → Reads 8 (expr.Column table column) (token.Column table column ∷ rest) rest
    field : {name : List ℕ} {rest : List Token} → Reads 8 (expr.Field name) (token.Name name ∷ rest) rest
    group : {e : Expr} {ts rest : List Token} → Reads 1 e ts (token.Close ∷ rest) → Reads 8 e (token.Open ∷ ts) rest
    to_number : {e : Expr} {ts rest : List Token} → Reads 1 e ts (token.Close ∷ rest) → Reads 8 (expr.ToNumber e) (token.Call call.ToNumber ∷ token.Open ∷ ts) rest
    length_of : {e : Expr} {ts rest : List Token} → Reads 1 e ts (token.Close ∷ rest) → Reads 8 (expr.LengthOf e) (token.Call call.LengthOf ∷ token.Open ∷ ts) rest
    to_bytes : {e : Expr} {size : ℕ} {ts rest : List Token} → Reads 1 e ts (token.Comma ∷ token.Number size ∷ token.Close ∷ rest) → Reads 8 (expr.ToBytes e size) (token.Call call.ToBytes ∷ token.Open ∷ ts) rest
    has_text : {e : Expr} {b : List ℕ} {ts rest : List Token} → Reads 1 e ts (token.Comma ∷ token.Text b ∷ token.Close ∷ rest) → Reads 8 (expr.HasText e b) (token.Call call.HasText ∷ token.Open ∷ ts) rest
    is_present : {name : List ℕ} {rest : List Token} → Reads 8 (expr.IsPresent name) (token.IsPresent ∷ token.Open ∷ token.Name name ∷ token.Close ∷ rest) rest
    look_up : {table : List ℕ} {renew : Bool} {keys : List Expr} {ts rest : List Token} → ReadsKeys keys ts rest → Reads 8 (expr.LookUp table renew keys) (token.LookUp renew ∷ token.Open ∷ token.Name table ∷ ts) rest
    slice : {b from count : Expr} {ts us vs rest : List Token} → Reads 7 b ts (token.OpenBracket ∷ us) → Reads 1 from us (token.Colon ∷ vs) → Reads 1 count vs (token.CloseBracket ∷ rest) → Reads 7 (expr.Slice b from count) ts rest
    binary : {o : BinaryOp} {a b : Expr} {ts us rest : List Token} → Reads (left_level_of o) a ts (token.Operator o ∷ us) → Reads (suc (level_of o)) b us rest → Reads (level_of o) (joined_by o a b) ts rest
    negated : {e : Expr} {ts rest : List Token} → Reads 3 e ts rest → Reads 3 (expr.Not e) (token.Not ∷ ts) rest
    tighter : {l : ℕ} {e : Expr} {ts rest : List Token} → Reads (suc l) e ts rest → Reads l e ts rest

  -- the keys of a look-up, each behind a comma, and the parenthesis that closes it
  pub data ReadsKeys : List Expr → List Token → List Token → Type 0 where
    last : {rest : List Token} → ReadsKeys [] (token.Close ∷ rest) rest
    key : {e : Expr} {keys : List Expr} {ts us rest : List Token} → Reads 1 e ts us → ReadsKeys keys us rest → ReadsKeys (e ∷ keys) (token.Comma ∷ ts) rest

-- the tokens spell the expression
abbrev pub Spells : Expr → List Token → Type 0
Spells e ts = Reads 1 e ts []
