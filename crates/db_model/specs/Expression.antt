-- What an expression gives: a value or a reason, and the state after it. Operands are evaluated from the left, and the first reason is the reason of the whole.
use Rattle.std.specs.Prelude.{ℕ, zero, suc, ◌+◌, ◌-◌, ◌*◌, ◌/◌, ◌%◌, ◌^◌, Bool, true, false, not, ◌||◌, if◌then◌else◌, nat_lt, nat_le, ◌==◌, List, [], ◌∷◌, ◌++◌, map, length, take, drop, slice_get, slice_set, bit_and, bit_or, bytes_eq, Option, Some, None, Result, Ok, Err}
use Rattle.db_model.specs.declared.database.Database.{Database}
use Rattle.db_model.specs.declared.database.TableDecl.{TableDecl}
use Rattle.db_model.specs.declared.database.ColumnDecl.{ColumnDecl}
use Rattle.db_model.specs.declared.env.Env.{Env}
use Rattle.db_model.specs.declared.expression.Expr.{Expr, Expr-F}
use Rattle.db_model.specs.declared.expression.Expr.TheOpen as layer
use Rattle.db_model.specs.declared.expression.Operator.{Operator}
use Rattle.db_model.specs.declared.expression.Operator.TheVariants as op
use Rattle.db_model.specs.declared.question.Question.{Question}
use Rattle.db_model.specs.declared.question.Question.TheVariants.{Look}
use Rattle.db_model.specs.declared.question.Answer.{Answer}
use Rattle.db_model.specs.declared.question.Answer.TheVariants.{Miss, Hit, Done}
use Rattle.db_model.specs.declared.tree.Reason.{Reason}
use Rattle.db_model.specs.declared.tree.Reason.TheVariants as reason
use Rattle.db_model.specs.declared.value.Ty.{Ty}
use Rattle.db_model.specs.declared.value.Ty.TheVariants as ty
use Rattle.db_model.specs.declared.value.Value.{Value}
use Rattle.db_model.specs.declared.value.Value.TheVariants.{Num, Buf, Proto}
use Rattle.db_model.specs.declared.limits.TheConstants.{GREATEST_NUMBER, MOST_NUMBER_BYTES}
use Rattle.db_model.specs.Folds.{fold_expr}
use Rattle.db_model.specs.Names.{Text, protocol_at, variable_at, table_at, column_at}
use Rattle.db_model.specs.Numbers.{big_endian, to_bytes, occurs}
use Rattle.db_model.specs.Questions.{Asks, Gives, Asking, Step, pure, ◌then◌, on_ok}
use Rattle.db_model.specs.Replay.{same_value}
use Rattle.db_model.specs.Special.{Special, Packet, PacketLength, CurrentOffset, ProtoOffset, LinkType, special}

-- ---- values

-- a value as a number, as bytes and as a protocol; one of another type is 0, no bytes and protocol 0
abbrev pub num : Value → ℕ
num (Num n) = n
num (Buf b) = 0
num (Proto p) = 0

abbrev pub buf : Value → List ℕ
buf (Num n) = []
buf (Buf b) = b
buf (Proto p) = []

abbrev pub proto : Value → ℕ
proto (Num n) = 0
proto (Buf b) = 0
proto (Proto p) = p

abbrev pub declared_or_first : ℕ → ℕ → ℕ
declared_or_first protocols p = if nat_lt p protocols then p else 0

-- a value taken as one of a type: itself where it is of the type, and then a protocol that isn't one of the declared ones is the first
abbrev pub taken_as : ℕ → Ty → Value → Value
taken_as protocols ty.Num v = Num (num v)
taken_as protocols ty.Buf v = Buf (buf v)
taken_as protocols ty.Proto v = Proto (declared_or_first protocols (proto v))

abbrev pub truth : Bool → Value
truth true = Num 1
truth false = Num 0

abbrev pub is_so : ℕ → Bool
is_so n = not (n == 0)

-- the value, unless the test fails
abbrev pub when : {A : Type 0} → Bool → Reason → A → Result A Reason
when true r v = Ok v
when false r v = Err r

abbrev pub in_range : ℕ → Result Value Reason
in_range n = when (nat_le n GREATEST_NUMBER) reason.Range (Num n)

-- the operators that evaluate both sides
abbrev pub binary : Operator → Value → Value → Result Value Reason
binary op.Add x y = in_range (num x + num y)
binary op.Sub x y = when (nat_le (num y) (num x)) reason.Range (Num (num x - num y))
binary op.Mul x y = in_range (num x * num y)
binary op.Div x y = when (is_so (num y)) reason.Zero (Num (num x / num y))
binary op.Mod x y = when (is_so (num y)) reason.Zero (Num (num x % num y))
binary op.BitAnd x y = Ok (Num (bit_and (num x) (num y)))
binary op.BitOr x y = Ok (Num (bit_or (num x) (num y)))
binary op.Lt x y = Ok (truth (nat_lt (num x) (num y)))
binary op.Le x y = Ok (truth (nat_le (num x) (num y)))
binary op.Gt x y = Ok (truth (nat_lt (num y) (num x)))
binary op.Ge x y = Ok (truth (nat_le (num y) (num x)))
binary op.Eq x y = Ok (truth (same_value x y))
binary op.Ne x y = Ok (truth (not (same_value x y)))

abbrev pub slice : List ℕ → ℕ → ℕ → Result Value Reason
slice b from count = when (nat_le (from + count) (length b)) reason.Slice (Buf (take count (drop from b)))

abbrev pub to_number : List ℕ → Result Value Reason
to_number [] = Err reason.Size
to_number (b ∷ bs) = when (nat_le (suc (length bs)) MOST_NUMBER_BYTES) reason.Size (Num (big_endian (b ∷ bs)))

abbrev pub in_bytes : ℕ → ℕ → Result Value Reason
in_bytes size n = when (nat_lt n (256 ^ size)) reason.Range (Buf (to_bytes size n))

-- ---- fields that were decoded

-- field number n is one of the protocol's fields of this name
abbrev pub is_named : Text → Option Text → Bool
is_named name None = false
is_named name (Some other) = bytes_eq name other

abbrev pub named : List Text → Text → ℕ → Bool
named fields name n = is_named name (slice_get fields n)

module _ (fields : List Text) where
  -- the value of the last decoded field of the name
  abbrev pub last_of : Text → List (ℕ × List ℕ) → Option (List ℕ) → Option (List ℕ)
  last_of name [] so_far = so_far
  last_of name (f ∷ fs) so_far = last_of name fs (if named fields name f.0 then Some f.1 else so_far)

  abbrev pub is_present : Text → List (ℕ × List ℕ) → Bool
  is_present name [] = false
  is_present name (f ∷ fs) = named fields name f.0 || is_present name fs

-- ---- evaluation

abbrev pub Eval : Type 0 → Type 0
Eval A = Step Env (Result A Reason)

abbrev pub give : {A : Type 0} → A → Eval A
give a = pure (Ok a)

abbrev pub fail : {A : Type 0} → Reason → Eval A
fail r = pure (Err r)

-- a result that is already there
abbrev pub result : {A : Type 0} → Result A Reason → Eval A
result r = pure r

infixl 10 ◌>>=◌
abbrev pub ◌>>=◌ : {A B : Type 0} → Eval A → (A → Eval B) → Eval B
p >>= f = p then on_ok f

-- an option's value, or a reason
abbrev pub or_fail : {A : Type 0} → Reason → Option A → Eval A
or_fail r None = fail r
or_fail r (Some a) = give a

-- a question takes one of the questions that are left
abbrev pub answer_at : Question → Env → ℕ → Asks (Result Answer Reason × Env)
answer_at q z zero = Gives (Err reason.Questions, z)
answer_at q z (suc n) = Asking q (λ a. Gives (Ok a, record z { questions = n }))

abbrev pub asks : Question → Eval Answer
asks q = λ z. answer_at q z z.questions

-- a hit is 1, and sets the row last hit of its table
abbrev pub hit_as_number : ℕ → Answer → Eval Value
hit_as_number table Miss = give (Num 0)
hit_as_number table (Hit row) = λ z. Gives (Ok (Num 1), record z { hits = slice_set z.hits table (Some row) })
hit_as_number table Done = give (Num 0)

-- the keys, each checked for its size right after it is evaluated, behind those that are there. One that isn't there has no size
abbrev pub keys_from : List (List ℕ) → List ℕ → List (Eval Value) → Eval (List (List ℕ))
keys_from done [] ps = give done
keys_from done (size ∷ sizes) [] = fail reason.KeySize
keys_from done (size ∷ sizes) (p ∷ ps) = p >>= (λ v. result (when (length (buf v) == size) reason.KeySize (buf v)) >>= (λ k. keys_from (done ++ k ∷ []) sizes ps))

abbrev pub key_sizes : Option TableDecl → List ℕ
key_sizes None = []
key_sizes (Some d) = map (λ k. k.size) d.keys

abbrev pub columns_of : Option TableDecl → List ColumnDecl
columns_of None = []
columns_of (Some d) = d.columns

-- a value of a row or of the variables; there is one wherever the name is declared
abbrev pub value_or_zero : Option Value → Value
value_or_zero None = Num 0
value_or_zero (Some v) = v

-- the row last hit of a table
abbrev pub row_hit : Option (Option (List Value)) → Eval (List Value)
row_hit None = fail reason.NoHit
row_hit (Some None) = fail reason.NoHit
row_hit (Some (Some row)) = give row

-- the special variables: the captured bytes and how many they are, the position, the origin, the link type
abbrev pub special_value : Special → Env → Value
special_value Packet z = Buf z.packet.bytes
special_value PacketLength z = Num (length z.packet.bytes)
special_value CurrentOffset z = Num z.at
special_value ProtoOffset z = Num z.origin
special_value LinkType z = Num z.packet.link

-- the keys, then one question. A table that isn't declared has nothing to hit
abbrev pub look_up : Option TableDecl → ℕ → Bool → List (Eval Value) → Eval Value
look_up None n renew ks = give (Num 0)
look_up (Some d) n renew ks = keys_from [] (key_sizes (Some d)) ks >>= (λ keys. asks (Look n keys renew) >>= hit_as_number n)

module _ (db : Database) (fields : List Text) where
  abbrev pub variable_by : Option Special → Text → Eval Value
  variable_by None name = λ z. Gives (Ok (value_or_zero (slice_get z.vars (variable_at db name))), z)
  variable_by (Some s) name = λ z. Gives (Ok (special_value s z), z)

  -- one layer of an expression, with what its parts give
  abbrev pub value : Expr-F (Eval Value) → Eval Value
  value (layer.Number n) = give (Num n)
  value (layer.Text b) = give (Buf b)
  value (layer.Protocol name) = give (Proto (protocol_at db name))
  value (layer.Field name) = (λ z. or_fail reason.NoField (last_of fields name z.present None) z) >>= (λ b. give (Buf b))
  value (layer.Variable name) = variable_by (special name) name
  value (layer.Column table column) = (λ z. row_hit (slice_get z.hits (table_at db table)) z) >>= (λ row. give (value_or_zero (slice_get row (column_at (slice_get db.tables (table_at db table)) column))))
  value (layer.Not a) = a >>= (λ x. give (truth (not (is_so (num x)))))
  value (layer.And a b) = a >>= (λ x. if is_so (num x) then b >>= (λ y. give (truth (is_so (num y)))) else give (Num 0))
  value (layer.Or a b) = a >>= (λ x. if is_so (num x) then give (Num 1) else b >>= (λ y. give (truth (is_so (num y)))))
  value (layer.Binary o a b) = a >>= (λ x. b >>= (λ y. result (binary o x y)))
  value (layer.Slice b from count) = b >>= (λ x. from >>= (λ y. count >>= (λ n. result (slice (buf x) (num y) (num n)))))
  value (layer.ToNumber b) = b >>= (λ x. result (to_number (buf x)))
  value (layer.LengthOf b) = b >>= (λ x. give (Num (length (buf x))))
  value (layer.ToBytes a size) = a >>= (λ x. result (in_bytes size (num x)))
  value (layer.HasText b text) = b >>= (λ x. give (truth (occurs text (buf x))))
  value (layer.IsPresent name) = λ z. Gives (Ok (truth (is_present fields name z.present)), z)
  value (layer.LookUp table renew ks) = look_up (slice_get db.tables (table_at db table)) (table_at db table) renew ks

  -- what an expression gives
  unfoldable pub val : Expr → Eval Value
  val = fold_expr (Eval Value) value
