-- What the machine accepts, the grammar reads: whatever is open was read from the tokens so far.
use Rattle.std.proofs.Common.{◌≡◌, ◌≤◌, ◌+◌, ◌-◌, ℕ, zero, suc, Bool, true, false, nat_le, if◌then◌else◌, List, [], ◌∷◌, ◌++◌, Option, Some, None, refl, sym, ap, subst, ◌∙◌, arith, append_assoc, append-nil}
use Rattle.std.proofs.lemmas.Bool.{leb-true}
use Rattle.db_model.specs.declared.expression.Expr.{Expr}
use Rattle.expr_text.specs.declared.machine.Begun.{Begun}
use Rattle.expr_text.specs.declared.machine.Begun.TheVariants as begun
use Rattle.expr_text.specs.declared.machine.Mode.{Mode}
use Rattle.expr_text.specs.declared.machine.Mode.TheVariants as mode
use Rattle.expr_text.specs.declared.machine.Next.TheVariants as next
use Rattle.expr_text.specs.declared.machine.Wanted.TheVariants as wanted_as
use Rattle.expr_text.specs.declared.state.State.{State}
use Rattle.expr_text.specs.declared.token.Call.TheVariants as call
use Rattle.expr_text.specs.declared.token.Token.{Token}
use Rattle.expr_text.specs.declared.token.Token.TheVariants as token
use Rattle.expr_text.specs.Tokens.{level_of, left_level_of}
use Rattle.expr_text.specs.Grammar.{Reads, ReadsKeys, number, text, protocol, variable, column, field, group, to_number, length_of, to_bytes, has_text, is_present, look_up, slice, binary, negated, tighter, last, key, Spells}
use Rattle.expr_text.specs.Machine.{Stack, Joined, at, frame, joined, start, wanted_by, wanted, binds, built, join, when, begin, go_on, close_in, close, colon_in, colon, close_bracket_in, close_bracket, comma_in, comma, open_call, open_present, present_name, open_look_up, table_name, key_or_end, size, searched, closes, step_in, step, alone, end_in, fed, ended}
use Rattle.expr_text.proofs.Levels.{sides}

-- ---- an expression of a level is one of each looser level

up : ℕ → ℕ → ℕ
up zero l = l
up (suc n) l = suc (up n l)

up_is : (n l : ℕ) → up n l ≡ n + l
unfolding up
up_is zero l = omega arith
up_is (suc n) l = ap suc (up_is n l) ∙ omega arith

lower_by : (n l : ℕ) {e : Expr} {ts rest : List Token} → Reads (up n l) e ts rest → Reads l e ts rest
unfolding up
lower_by zero l d = d
lower_by (suc n) l d = lower_by n l (tighter d)

pub lower : (l p : ℕ) {e : Expr} {ts rest : List Token} → l ≤ p → Reads p e ts rest → Reads l e ts rest
lower l p {e} {ts} {rest} h d =
    let q : p ≡ up (p - l) l = omega arith ∙ sym (up_is (p - l) l) in
    lower_by (p - l) l (subst (λ n. Reads n e ts rest) q d)

-- ---- what was read

-- keys that were read from ts to us, whatever keys come then
abbrev SoFar : List Expr → List Token → List Token → Type 0
SoFar es ts us = (fs : List Expr) (rest : List Token) → ReadsKeys fs us rest → ReadsKeys (es ++ fs) ts rest

wanted_most : (b : Begun) → wanted_by b ≤ 7
wanted_most (begun.Operand o) = let s = sides o in omega (arith, s.most)
wanted_most begun.Negated = omega arith
wanted_most begun.Parenthesis = omega arith
wanted_most begun.Start = omega arith
wanted_most begun.Length = omega arith
wanted_most (begun.Argument f) = omega arith
wanted_most (begun.Key table renew) = omega arith

wanted_bound : (k : Stack) → wanted k ≤ 7
wanted_bound [] = omega arith
wanted_bound (f ∷ k) = wanted_most f.kind

by_if : (P : Joined → Type 0) (t : Bool) (x y : Joined) → (t ≡ true → P x) → P y → P (if t then x else y)
by_if P true x y f h = f refl
by_if P false x y f h = h

module _ (all : List Token) where
  -- what was begun, with its parts, waits at ts, behind what `W` says of what stands before it and an open stack that wants this level
  abbrev WaitsIn : Begun → List Expr → ℕ → (List Token → Type 0) → List Token → Type 0
  WaitsIn (begun.Operand o) (a ∷ []) least W ts = (from : List Token) × Reads (left_level_of o) a from (token.Operator o ∷ ts) × (least ≤ level_of o) × W from
  WaitsIn (begun.Operand o) _ least W ts = ⊥
  WaitsIn begun.Negated parts least W ts = (least ≤ 3) × W (token.Not ∷ ts)
  WaitsIn begun.Parenthesis parts least W ts = W (token.Open ∷ ts)
  WaitsIn begun.Start (b ∷ []) least W ts = (from : List Token) × Reads 7 b from (token.OpenBracket ∷ ts) × W from
  WaitsIn begun.Start _ least W ts = ⊥
  WaitsIn begun.Length (b ∷ (o ∷ [])) least W ts = (from : List Token) × (mid : List Token) × Reads 7 b from (token.OpenBracket ∷ mid) × Reads 1 o mid (token.Colon ∷ ts) × W from
  WaitsIn begun.Length _ least W ts = ⊥
  WaitsIn (begun.Argument f) parts least W ts = W (token.Call f ∷ token.Open ∷ ts)
  WaitsIn (begun.Key table renew) keys least W ts = (from : List Token) × SoFar keys from (token.Comma ∷ ts) × W (token.LookUp renew ∷ token.Open ∷ token.Name table ∷ from)

  -- what stands behind an open stack that waits at ts
  abbrev Waits : Stack → List Token → Type 0
  Waits [] ts = ts ≡ all
  Waits (f ∷ k) ts = WaitsIn f.kind f.parts (wanted k) (Waits k) ts

  -- an expression of at least this level was read
  abbrev Behind : ℕ → List Token → Joined → Type 0
  Behind l rest j = (from : List Token) × Reads l j.value from rest × Waits j.stack from

  abbrev In : Mode → Stack → List Token → Type 0
  In (mode.Wants wanted_as.Expression) k ts = Waits k ts
  In (mode.Behind next.Any e) k ts = Behind 7 ts (joined e k)
  In (mode.Wants (wanted_as.CallOpens f)) k ts = Waits k (token.Call f ∷ ts)
  In (mode.Wants wanted_as.PresentOpens) k ts = Waits k (token.IsPresent ∷ ts)
  In (mode.Wants wanted_as.PresentName) k ts = Waits k (token.IsPresent ∷ token.Open ∷ ts)
  In (mode.Wants (wanted_as.LookUpOpens renew)) k ts = Waits k (token.LookUp renew ∷ ts)
  In (mode.Wants (wanted_as.TableName renew)) k ts = Waits k (token.LookUp renew ∷ token.Open ∷ ts)
  In (mode.Keys table renew keys) k ts = (from : List Token) × SoFar keys from ts × Waits k (token.LookUp renew ∷ token.Open ∷ token.Name table ∷ from)
  In (mode.Behind next.Size e) k ts = (from : List Token) × Reads 1 e from (token.Comma ∷ ts) × Waits k (token.Call call.ToBytes ∷ token.Open ∷ from)
  In (mode.Behind next.Searched e) k ts = (from : List Token) × Reads 1 e from (token.Comma ∷ ts) × Waits k (token.Call call.HasText ∷ token.Open ∷ from)
  In (mode.Behind next.Closes e) k ts = (rest : List Token) → ts ≡ token.Close ∷ rest → Behind 7 rest (joined e k)

  abbrev IfIn : Option State → List Token → Type 0
  IfIn None ts = Unit {0}
  IfIn (Some s) ts = In s.mode s.stack ts

  -- ---- joining

  -- an expression that a frame made, of a level that is wanted behind the frame
  record Made (l least : ℕ) (W : List Token → Type 0) (rest : List Token) (e : Expr) : Type 0 where
    level : ℕ
    enough : l ≤ level
    allowed : least ≤ level
    from : List Token
    reads : Reads level e from rest
    waits : W from

  makes : (b : Begun) (parts : List Expr) (l p least : ℕ) (W : List Token → Type 0) (e : Expr) (from rest : List Token) → wanted_by b ≤ p → binds l b ≡ true → Reads p e from rest → WaitsIn b parts least W from
      → Made l least W rest (built b parts e)
  makes (begun.Operand o) [] l p least W e from rest q t d w = absurd w
  makes (begun.Operand o) (a ∷ []) l p least W e from rest q t d w =
      let more : suc (level_of o) ≤ p = q in
      record { level = level_of o; enough = leb-true _ _ t; allowed = w.2; from = w.0; reads = binary w.1 (lower (suc (level_of o)) p more d); waits = w.3 }
  makes (begun.Operand o) (a ∷ (b ∷ parts)) l p least W e from rest q t d w = absurd w
  makes begun.Negated parts l p least W e from rest q t d w =
      let more : 3 ≤ p = q in
      record { level = 3; enough = leb-true _ _ t; allowed = w.0; from = token.Not ∷ from; reads = negated (lower 3 p more d); waits = w.1 }
  makes begun.Parenthesis parts l p least W e from rest q t d w = cc
  makes begun.Start parts l p least W e from rest q t d w = cc
  makes begun.Length parts l p least W e from rest q t d w = cc
  makes (begun.Argument f) parts l p least W e from rest q t d w = cc
  makes (begun.Key table renew) parts l p least W e from rest q t d w = cc

  keeps_join : (l p : ℕ) (e : Expr) (k : Stack) (from rest : List Token) → l ≤ p → wanted k ≤ p → Reads p e from rest → Waits k from → Behind l rest (join l e k)
  keeps_join l p e [] from rest h q d w = (from, lower l p h d, w)
  keeps_join l p e (f ∷ k) from rest h q d w =
      by_if (Behind l rest) (binds l f.kind) (join l (built f.kind f.parts e) k) (joined e (f ∷ k))
      (λ t. let m = makes f.kind f.parts l p (wanted k) (Waits k) e from rest q t d w in keeps_join l m.level (built f.kind f.parts e) k m.from rest m.enough m.allowed m.reads m.waits)
      (from, lower l p h d, w)

  joins : (l : ℕ) (e : Expr) (k : Stack) (rest : List Token) → l ≤ 7 → Behind 7 rest (joined e k) → Behind l rest (join l e k)
  joins l e k rest h b = keeps_join l 7 e k b.0 rest h (wanted_bound k) b.1 b.2

  -- ---- one token

  by_when : (t : Bool) (s : Option State) (rest : List Token) → (t ≡ true → IfIn s rest) → IfIn (when t s) rest
  by_when true s rest f = f refl
  by_when false s rest f = tt

  -- a complete part of level 8
  part : (e : Expr) (k : Stack) (from rest : List Token) → Reads 8 e from rest → Waits k from → Behind 7 rest (joined e k)
  part e k from rest d w = (from, tighter d, w)

  keeps_begin : (k : Stack) (t : Token) (rest : List Token) → Waits k (t ∷ rest) → IfIn (begin k t) rest
  keeps_begin k (token.Number n) rest w = part _ k _ rest number w
  keeps_begin k (token.Text b) rest w = part _ k _ rest text w
  keeps_begin k (token.Name name) rest w = part _ k _ rest field w
  keeps_begin k (token.Protocol name) rest w = part _ k _ rest protocol w
  keeps_begin k (token.Variable name) rest w = part _ k _ rest variable w
  keeps_begin k (token.Column table name) rest w = part _ k _ rest column w
  keeps_begin k token.Not rest w = by_when (nat_le (wanted k) 3) (at (mode.Wants wanted_as.Expression) (frame begun.Negated [] ∷ k)) rest (λ t. (leb-true _ _ t, w))
  keeps_begin k token.Open rest w = w
  keeps_begin k (token.Call f) rest w = w
  keeps_begin k token.IsPresent rest w = w
  keeps_begin k (token.LookUp renew) rest w = w
  keeps_begin k _ rest w = tt

  abbrev BehindIn : Begun → List Expr → Expr → Stack → List Token → Type 0
  BehindIn b parts e k rest = (from : List Token) × Reads 1 e from rest × WaitsIn b parts (wanted k) (Waits k) from

  keeps_close_in : (b : Begun) (parts : List Expr) (e : Expr) (k : Stack) (rest : List Token) → BehindIn b parts e k (token.Close ∷ rest) → IfIn (close_in b parts e k) rest
  keeps_close_in begun.Parenthesis parts e k rest b = part _ k _ rest (group b.1) b.2
  keeps_close_in (begun.Argument call.ToNumber) parts e k rest b = part _ k _ rest (to_number b.1) b.2
  keeps_close_in (begun.Argument call.LengthOf) parts e k rest b = part _ k _ rest (length_of b.1) b.2
  keeps_close_in (begun.Argument call.ToBytes) parts e k rest b = tt
  keeps_close_in (begun.Argument call.HasText) parts e k rest b = tt
  keeps_close_in (begun.Key table renew) keys e k rest b =
      let w = b.2 in
      part _ k _ rest (look_up (w.1 (e ∷ []) rest (key b.1 last))) w.2
  keeps_close_in _ parts e k rest b = tt

  keeps_close : (e : Expr) (k : Stack) (rest : List Token) → Behind 1 (token.Close ∷ rest) (joined e k) → IfIn (close e k) rest
  keeps_close e [] rest b = tt
  keeps_close e (f ∷ k) rest b = keeps_close_in f.kind f.parts e k rest b

  keeps_comma_in : (b : Begun) (parts : List Expr) (e : Expr) (k : Stack) (rest : List Token) → BehindIn b parts e k (token.Comma ∷ rest) → IfIn (comma_in b parts e k) rest
  keeps_comma_in (begun.Argument call.ToNumber) parts e k rest b = tt
  keeps_comma_in (begun.Argument call.LengthOf) parts e k rest b = tt
  keeps_comma_in (begun.Argument call.ToBytes) parts e k rest b = b
  keeps_comma_in (begun.Argument call.HasText) parts e k rest b = b
  keeps_comma_in (begun.Key table renew) keys e k rest b =
      let w = b.2 in
      (w.0, λ fs r ks. rw (append_assoc keys (e ∷ []) fs) (w.1 (e ∷ fs) r (key b.1 ks)), w.2)
  keeps_comma_in _ parts e k rest b = tt

  keeps_comma : (e : Expr) (k : Stack) (rest : List Token) → Behind 1 (token.Comma ∷ rest) (joined e k) → IfIn (comma e k) rest
  keeps_comma e [] rest b = tt
  keeps_comma e (f ∷ k) rest b = keeps_comma_in f.kind f.parts e k rest b

  keeps_colon_in : (b : Begun) (parts : List Expr) (e : Expr) (k : Stack) (rest : List Token) → BehindIn b parts e k (token.Colon ∷ rest) → IfIn (colon_in b parts e k) rest
  keeps_colon_in begun.Start [] e k rest b = absurd b.2
  keeps_colon_in begun.Start (c ∷ []) e k rest b = let w = b.2 in (w.0, b.0, w.1, b.1, w.2)
  keeps_colon_in begun.Start (c ∷ (d ∷ parts)) e k rest b = absurd b.2
  keeps_colon_in _ parts e k rest b = tt

  keeps_colon : (e : Expr) (k : Stack) (rest : List Token) → Behind 1 (token.Colon ∷ rest) (joined e k) → IfIn (colon e k) rest
  keeps_colon e [] rest b = tt
  keeps_colon e (f ∷ k) rest b = keeps_colon_in f.kind f.parts e k rest b

  keeps_close_bracket_in : (b : Begun) (parts : List Expr) (e : Expr) (k : Stack) (rest : List Token) → BehindIn b parts e k (token.CloseBracket ∷ rest) → IfIn (close_bracket_in b parts e k) rest
  keeps_close_bracket_in begun.Length [] e k rest b = absurd b.2
  keeps_close_bracket_in begun.Length (c ∷ []) e k rest b = absurd b.2
  keeps_close_bracket_in begun.Length (c ∷ (o ∷ [])) e k rest b = let w = b.2 in (w.0, slice w.2 w.3 b.1, w.4)
  keeps_close_bracket_in begun.Length (c ∷ (o ∷ (d ∷ parts))) e k rest b = absurd b.2
  keeps_close_bracket_in _ parts e k rest b = tt

  keeps_close_bracket : (e : Expr) (k : Stack) (rest : List Token) → Behind 1 (token.CloseBracket ∷ rest) (joined e k) → IfIn (close_bracket e k) rest
  keeps_close_bracket e [] rest b = tt
  keeps_close_bracket e (f ∷ k) rest b = keeps_close_bracket_in f.kind f.parts e k rest b

  keeps_go_on : (e : Expr) (k : Stack) (t : Token) (rest : List Token) → Behind 7 (t ∷ rest) (joined e k) → IfIn (go_on e k t) rest
  keeps_go_on e k (token.Operator o) rest b =
      let s = sides o in
      let j = join (left_level_of o) e k in
      let c = joins (left_level_of o) e k (token.Operator o ∷ rest) s.bound b in
      by_when (nat_le (wanted j.stack) (level_of o)) (at (mode.Wants wanted_as.Expression) (frame (begun.Operand o) (j.value ∷ []) ∷ j.stack)) rest (λ t. (c.0, c.1, leb-true _ _ t, c.2))
  keeps_go_on e k token.OpenBracket rest b = b
  keeps_go_on e k token.Close rest b = let j = join 1 e k in keeps_close j.value j.stack rest (joins 1 e k (token.Close ∷ rest) (omega arith) b)
  keeps_go_on e k token.Comma rest b = let j = join 1 e k in keeps_comma j.value j.stack rest (joins 1 e k (token.Comma ∷ rest) (omega arith) b)
  keeps_go_on e k token.Colon rest b = let j = join 1 e k in keeps_colon j.value j.stack rest (joins 1 e k (token.Colon ∷ rest) (omega arith) b)
  keeps_go_on e k token.CloseBracket rest b = let j = join 1 e k in keeps_close_bracket j.value j.stack rest (joins 1 e k (token.CloseBracket ∷ rest) (omega arith) b)
  keeps_go_on e k _ rest b = tt

  keeps_open_call : (k : Stack) (t : Token) (rest : List Token) → (f : _) → Waits k (token.Call f ∷ t ∷ rest) → IfIn (open_call f k t) rest
  keeps_open_call k token.Open rest f w = w
  keeps_open_call k _ rest f w = tt

  keeps_open_present : (k : Stack) (t : Token) (rest : List Token) → Waits k (token.IsPresent ∷ t ∷ rest) → IfIn (open_present k t) rest
  keeps_open_present k token.Open rest w = w
  keeps_open_present k _ rest w = tt

  keeps_present_name : (k : Stack) (t : Token) (rest : List Token) → Waits k (token.IsPresent ∷ token.Open ∷ t ∷ rest) → IfIn (present_name k t) rest
  keeps_present_name k (token.Name name) rest w = λ then_ q. part _ k _ then_ is_present (subst (λ x. Waits k (token.IsPresent ∷ token.Open ∷ token.Name name ∷ x)) q w)
  keeps_present_name k _ rest w = tt

  keeps_open_look_up : (renew : Bool) (k : Stack) (t : Token) (rest : List Token) → Waits k (token.LookUp renew ∷ t ∷ rest) → IfIn (open_look_up renew k t) rest
  keeps_open_look_up renew k token.Open rest w = w
  keeps_open_look_up renew k _ rest w = tt

  keeps_table_name : (renew : Bool) (k : Stack) (t : Token) (rest : List Token) → Waits k (token.LookUp renew ∷ token.Open ∷ t ∷ rest) → IfIn (table_name renew k t) rest
  keeps_table_name renew k (token.Name table) rest w = (rest, λ fs r ks. ks, w)
  keeps_table_name renew k _ rest w = tt

  keeps_key_or_end : (table : List ℕ) (renew : Bool) (keys : List Expr) (k : Stack) (t : Token) (rest : List Token) → In (mode.Keys table renew keys) k (t ∷ rest) → IfIn (key_or_end table renew keys k t) rest
  keeps_key_or_end table renew keys k token.Comma rest w = w
  keeps_key_or_end table renew keys k token.Close rest w = part _ k _ rest (look_up (rw (← append-nil keys) (w.1 [] rest last))) w.2
  keeps_key_or_end table renew keys k _ rest w = tt

  keeps_size : (e : Expr) (k : Stack) (t : Token) (rest : List Token) → In (mode.Behind next.Size e) k (t ∷ rest) → IfIn (size e k t) rest
  keeps_size e k (token.Number n) rest w = λ then_ q. part _ k _ then_ (to_bytes (subst (λ x. Reads 1 e w.0 (token.Comma ∷ token.Number n ∷ x)) q w.1)) w.2
  keeps_size e k _ rest w = tt

  keeps_searched : (e : Expr) (k : Stack) (t : Token) (rest : List Token) → In (mode.Behind next.Searched e) k (t ∷ rest) → IfIn (searched e k t) rest
  keeps_searched e k (token.Text b) rest w = λ then_ q. part _ k _ then_ (has_text (subst (λ x. Reads 1 e w.0 (token.Comma ∷ token.Text b ∷ x)) q w.1)) w.2
  keeps_searched e k _ rest w = tt

  keeps_closes : (e : Expr) (k : Stack) (t : Token) (rest : List Token) → In (mode.Behind next.Closes e) k (t ∷ rest) → IfIn (closes e k t) rest
  keeps_closes e k token.Close rest w = w rest refl
  keeps_closes e k _ rest w = tt

  keeps : (m : Mode) (k : Stack) (t : Token) (rest : List Token) → In m k (t ∷ rest) → IfIn (step_in m k t) rest
  keeps (mode.Wants wanted_as.Expression) k t rest w = keeps_begin k t rest w
  keeps (mode.Behind next.Any e) k t rest w = keeps_go_on e k t rest w
  keeps (mode.Wants (wanted_as.CallOpens f)) k t rest w = keeps_open_call k t rest f w
  keeps (mode.Wants wanted_as.PresentOpens) k t rest w = keeps_open_present k t rest w
  keeps (mode.Wants wanted_as.PresentName) k t rest w = keeps_present_name k t rest w
  keeps (mode.Wants (wanted_as.LookUpOpens renew)) k t rest w = keeps_open_look_up renew k t rest w
  keeps (mode.Wants (wanted_as.TableName renew)) k t rest w = keeps_table_name renew k t rest w
  keeps (mode.Keys table renew keys) k t rest w = keeps_key_or_end table renew keys k t rest w
  keeps (mode.Behind next.Size e) k t rest w = keeps_size e k t rest w
  keeps (mode.Behind next.Searched e) k t rest w = keeps_searched e k t rest w
  keeps (mode.Behind next.Closes e) k t rest w = keeps_closes e k t rest w

  -- ---- all tokens

  keeps_all : (s : Option State) (ts : List Token) → IfIn s ts → IfIn (fed s ts) []
  keeps_all s [] h = h
  keeps_all None (t ∷ ts) h = keeps_all None ts tt
  keeps_all (Some s) (t ∷ ts) h = keeps_all (step s t) ts (keeps s.mode s.stack t ts h)

  alone_spells : (e v : Expr) (k : Stack) → Behind 1 [] (joined v k) → alone (joined v k) ≡ Some e → Spells e all
  alone_spells e v [] b q = let same : v ≡ e = cc in subst (λ x. Spells x all) same (subst (λ ts. Reads 1 v ts []) b.2 b.1)
  alone_spells e v (f ∷ k) b q = cc

  end_spells : (e : Expr) (m : Mode) (k : Stack) → In m k [] → end_in m k ≡ Some e → Spells e all
  end_spells e (mode.Behind next.Any v) k w q = let j = join 1 v k in alone_spells e j.value j.stack (joins 1 v k [] (omega arith) w) q
  end_spells e _ k w q = cc

  ended_spells : (e : Expr) (s : Option State) → IfIn s [] → ended s ≡ Some e → Spells e all
  ended_spells e None h q = cc
  ended_spells e (Some s) h q = end_spells e s.mode s.stack h q

-- what the machine makes of the tokens is the expression that they spell
pub accepted : (e : Expr) (ts : List Token) → ended (fed (Some start) ts) ≡ Some e → Spells e ts
accepted e ts q = ended_spells ts e (fed (Some start) ts) (keeps_all ts (Some start) ts refl) q
