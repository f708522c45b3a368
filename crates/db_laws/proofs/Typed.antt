-- The value of a typed expression has its type, and the state after it fits.
use Rattle.std.specs.Prelude.{◌≡◌, ℕ, zero, suc, ◌<◌, Bool, ◌&&◌, true, false, not, ◌||◌, if◌then◌else◌, ◌==◌, List, [], ◌∷◌, ◌++◌, map, length, slice_get, slice_set, bytes_eq, Option, Some, None, Result, Ok, Err}
use Rattle.std.proofs.Common.{refl, ap, subst, ◌∙◌, arith}
use Rattle.std.specs.List.{list_any}
use Rattle.std.proofs.lemmas.Bool.Decides.{Decides-ltb}
use Rattle.std.proofs.lemmas.List.{length-map}
use Rattle.db_model.specs.declared.database.ColumnDecl.{ColumnDecl}
use Rattle.db_model.specs.declared.database.Database.{Database}
use Rattle.db_model.specs.declared.database.Protocol.{Protocol}
use Rattle.db_model.specs.declared.database.SumTemplate.{SumTemplate}
use Rattle.db_model.specs.declared.database.TableDecl.{TableDecl}
use Rattle.db_model.specs.declared.database.VarDecl.{VarDecl}
use Rattle.db_model.specs.declared.env.Env.{Env}
use Rattle.db_model.specs.declared.expression.Expr as expr
use Rattle.db_model.specs.declared.expression.Expr.{Expr, Row_of-Expr, end_of-Expr, more_of-Expr}
use Rattle.db_model.specs.declared.expression.Literal.{Literal}
use Rattle.db_model.specs.declared.expression.Literal.TheVariants as literal
use Rattle.db_model.specs.declared.expression.Operator.{Operator}
use Rattle.db_model.specs.declared.expression.Operator.TheVariants as op
use Rattle.db_model.specs.declared.expression.TypeFault.TheVariants as fault
use Rattle.db_model.specs.declared.question.Answer.{Answer}
use Rattle.db_model.specs.declared.question.Answer.TheVariants.{Miss, Hit, Done}
use Rattle.db_model.specs.declared.question.Question.{Question}
use Rattle.db_model.specs.declared.question.Question.TheVariants.{Look}
use Rattle.db_model.specs.declared.tree.Reason.{Reason}
use Rattle.db_model.specs.declared.tree.Reason.TheVariants as reason
use Rattle.db_model.specs.declared.value.Ty.{Ty}
use Rattle.db_model.specs.declared.value.Ty.TheVariants as ty
use Rattle.db_model.specs.declared.value.Value.{Value}
use Rattle.db_model.specs.declared.value.Value.TheVariants as value
use Rattle.db_model.specs.Expression.{Eval, give, fail, result, when, ◌>>=◌, or_fail, answer_at, asks, hit_as_number, keys_from, key_sizes, columns_of, row_hit, look_up, special_value, variable_by, value_or_zero, last_of, val, num, buf, proto, is_so, truth, in_range, binary, slice, to_number, in_bytes}
use Rattle.db_model.specs.Expression as meaning
use Rattle.db_model.specs.Fitting.{is_of_type, row_fits, is_declared, has_type, row_declared, answer_fits, table_of}
use Rattle.db_model.specs.Folds.{fold_expr, fold_exprs}
use Rattle.db_model.specs.Decoding.{literal}
use Rattle.db_laws.specs.Laws.{TypedValues, StartFits}
use Rattle.db_model.specs.Lines.{Lines, over, at_line, lines_in}
use Rattle.db_model.specs.NameFaults.{fault_41, literal_is_unknown, item_41, protocol_41}
use Rattle.db_model.specs.Numbering.{field_names}
use Rattle.db_model.specs.TypeFaults.{fault_42, literal_is_wrong, own_42}
use Rattle.db_model.proofs.Accepted.{append_front, append_back, no_faults}
use Rattle.db_model.specs.Names.{Text, startproto, place, protocol_at, variable_at, table_at, column_at}
use Rattle.db_model.specs.Questions.{Asks, Gives, Asking, and_then, ◌then◌, on_ok}
use Rattle.db_model.specs.declared.expression.Special.{Special}
use Rattle.db_model.specs.declared.expression.Special.TheVariants.{Packet, PacketLength, CurrentOffset, ProtoOffset, LinkType}
use Rattle.db_model.specs.Special.{special}
use Rattle.db_model.specs.Typed.{variables_fit, last_hit_fits, hits_fit, env_fits, Gets, IsTyped}
use Rattle.db_model.specs.Typing.{is_among, is_protocol, has_undeclared, has_wrong_arity, typed_if, operator_ty, declared_ty, column_ty, columns_in, variable_ty, ty_of, or_mistyped, type_of}
use Rattle.db_laws.proofs.Fitted.{not_false, and_both, and_first, and_second, two}
use Rattle.db_laws.proofs.Includes.{line_none}
use Rattle.db_laws.proofs.Proper.{OnValue}

pub gets_then : {A B : Type 0} (db : Database) (P : A → Type 0) (Q : B → Type 0) (f : A → Asks B) → ((a : A) → P a → Gets db Q (f a)) → (x : Asks A) → Gets db P x → Gets db Q (and_then x f)
gets_then db P Q f g (Gives a) h = g a h
gets_then db P Q f g (Asking q k) h = λ a m. gets_then db P Q f g (k a) (h a m)

-- ---- places

variable_typed : (db : Database) (ds : List VarDecl) (vs : List Value) (n : ℕ) (t : Ty) → variables_fit db ds vs ≡ true → declared_ty (slice_get ds n) ≡ Some t → has_type db t (value_or_zero (slice_get vs n)) ≡ true
variable_typed db [] vs n t h e = (cc)
variable_typed db (d ∷ ds) [] n t h e = (cc)
variable_typed db (d ∷ ds) (v ∷ vs) zero t h e = let m : d.ty ≡ t = cc in subst (λ x. has_type db x v ≡ true) m (and_first (has_type db d.ty v) (variables_fit db ds vs) h)
variable_typed db (d ∷ ds) (v ∷ vs) (suc n) t h e = variable_typed db ds vs n t (and_second (has_type db d.ty v) (variables_fit db ds vs) h) e

column_typed : (db : Database) (cs : List ColumnDecl) (vs : List Value) (n : ℕ) (t : Ty) → row_fits cs vs ≡ true → row_declared db vs ≡ true → column_ty (slice_get cs n) ≡ Some t → has_type db t (value_or_zero (slice_get vs n)) ≡ true
column_typed db [] vs n t h k e = (cc)
column_typed db (c ∷ cs) [] n t h k e = (cc)
column_typed db (c ∷ cs) (v ∷ vs) zero t h k e =
    let m : c.ty ≡ t = cc in
    let a = and_first (is_of_type c.ty v) _ (and_first _ (row_fits cs vs) h) in
    and_both (is_of_type t v) (is_declared db v) (subst (λ x. is_of_type x v ≡ true) m a) (and_first (is_declared db v) (row_declared db vs) k)
column_typed db (c ∷ cs) (v ∷ vs) (suc n) t h k e = column_typed db cs vs n t (and_second _ (row_fits cs vs) h) (and_second (is_declared db v) (row_declared db vs) k) e

set_hits : (db : Database) (ds : List TableDecl) (hs : List (Option (List Value))) (n : ℕ) (d : TableDecl) (row : List Value) → hits_fit db ds hs ≡ true → slice_get ds n ≡ Some d → last_hit_fits db d (Some row) ≡ true → hits_fit db ds (slice_set hs n (Some row)) ≡ true
set_hits db [] [] n d row h e k = (cc)
set_hits db [] (x ∷ hs) n d row h e k = (cc)
set_hits db (c ∷ ds) [] n d row h e k = (cc)
set_hits db (c ∷ ds) (x ∷ hs) zero d row h e k =
    let m : d ≡ c = cc in
    and_both (last_hit_fits db c (Some row)) (hits_fit db ds hs) (subst (λ y. last_hit_fits db y (Some row) ≡ true) m k) (and_second (last_hit_fits db c x) (hits_fit db ds hs) h)
set_hits db (c ∷ ds) (x ∷ hs) (suc n) d row h e k =
    and_both (last_hit_fits db c x) (hits_fit db ds (slice_set hs n (Some row))) (and_first (last_hit_fits db c x) (hits_fit db ds hs) h) (set_hits db ds hs n d row (and_second (last_hit_fits db c x) (hits_fit db ds hs) h) e k)

hit_at : (db : Database) (ds : List TableDecl) (hs : List (Option (List Value))) (n : ℕ) (d : TableDecl) (row : List Value) → hits_fit db ds hs ≡ true → slice_get ds n ≡ Some d → slice_get hs n ≡ Some (Some row) → last_hit_fits db d (Some row) ≡ true
hit_at db [] hs n d row h e k = (cc)
hit_at db (c ∷ ds) [] n d row h e k = (cc)
hit_at db (c ∷ ds) (x ∷ hs) zero d row h e k =
    let m : c ≡ d = cc in
    let l : x ≡ Some row = cc in
    subst (λ y. last_hit_fits db y (Some row) ≡ true) m (subst (λ y. last_hit_fits db c y ≡ true) l (and_first (last_hit_fits db c x) (hits_fit db ds hs) h))
hit_at db (c ∷ ds) (x ∷ hs) (suc n) d row h e k = hit_at db ds hs n d row (and_second (last_hit_fits db c x) (hits_fit db ds hs) h) e k

-- the place of a name that stands among others is below their number
place_below : (name : Text) (names : List Text) → is_among name names ≡ true → place name names < length names
place_below name [] h = (cc)
place_below name (x ∷ names) h = by (bytes_eq name x) h (place_below name names)
  where
    by : (b : Bool) → (b || list_any (bytes_eq name) names) ≡ true → (list_any (bytes_eq name) names ≡ true → place name names < length names) → (if b then zero else suc (place name names)) < suc (length names)
    by true k ih = omega arith
    by false k ih = omega (arith, ih k)

-- ---- evaluations that keep a fitting state

module _ (db : Database) where
  abbrev pub Fitting : {A : Type 0} → (A → Type 0) → Result A Reason × Env → Type 0
  Fitting P r = OnValue P r.0 × (env_fits db r.1 ≡ true)

  abbrev pub KeepsFit : {A : Type 0} → (A → Type 0) → Eval A → Type 0
  KeepsFit P p = (z : Env) → env_fits db z ≡ true → Gets db (Fitting P) (p z)

  pub fit_then : {A B : Type 0} (P : A → Type 0) (Q : B → Type 0) (p : Eval A) (f : A → Eval B) → KeepsFit P p → ((a : A) → P a → KeepsFit Q (f a)) → KeepsFit Q (p >>= f)
  fit_then {A} {B} P Q p f h g z k = gets_then db (Fitting P) (Fitting Q) (λ r. on_ok f r.0 r.1) (λ r m. on r.0 m.0 r.1 m.1) (p z) (h z k)
    where
      on : (r : Result A Reason) → OnValue P r → (y : Env) → env_fits db y ≡ true → Gets db (Fitting Q) (on_ok f r y)
      on (Ok a) m y l = g a m y l
      on (Err e) m y l = (tt, l)

  abbrev pub SomeValue : {A : Type 0} → A → Type 0
  SomeValue a = Unit {0}

  pub fit_any : {A B : Type 0} (Q : B → Type 0) (p : Eval A) (f : A → Eval B) → KeepsFit {A = A} SomeValue p → ((a : A) → KeepsFit Q (f a)) → KeepsFit Q (p >>= f)
  fit_any Q p f h g = fit_then SomeValue Q p f h (λ a k. g a)

  pub fit_result : {A : Type 0} (P : A → Type 0) (r : Result A Reason) → OnValue P r → KeepsFit P (result r)
  fit_result P r h z k = (h, k)

  pub no_value : {A : Type 0} (r : Result A Reason) → OnValue {A = A} SomeValue r
  no_value (Ok a) = tt
  no_value (Err e) = tt

  abbrev pub AllFit : List (Eval Value) → Type 0
  AllFit [] = Unit {0}
  AllFit (p ∷ ps) = KeepsFit {A = Value} SomeValue p × AllFit ps

  pub fit_keys : (sizes : List ℕ) (ps : List (Eval Value)) (before : List (List ℕ)) → AllFit ps → KeepsFit {A = List (List ℕ)} SomeValue (keys_from before sizes ps)
  fit_keys [] ps before h z k = (tt, k)
  fit_keys (size ∷ sizes) [] before h z k = (tt, k)
  fit_keys (size ∷ sizes) (p ∷ ps) before h z k =
      fit_any SomeValue p (λ v. result (when (length (buf v) == size) reason.KeySize (buf v)) >>= (λ w. keys_from (before ++ w ∷ []) sizes ps)) h.0
      (λ v. fit_any SomeValue (result (when (length (buf v) == size) reason.KeySize (buf v))) (λ w. keys_from (before ++ w ∷ []) sizes ps)
      (fit_result SomeValue (when (length (buf v) == size) reason.KeySize (buf v)) (no_value (when (length (buf v) == size) reason.KeySize (buf v))))
      (λ w. fit_keys sizes ps (before ++ w ∷ []) h.1)) z k

  abbrev pub Answered : Question → Answer → Type 0
  Answered q a = answer_fits db (slice_get db.tables (table_of q)) a ≡ true

  pub fit_asks : (q : Question) → KeepsFit (Answered q) (asks q)
  unfolding env_fits
  fit_asks q z k = by z.questions
    where
      by : (n : ℕ) → Gets db (Fitting (Answered q)) (answer_at q z n)
      by zero = (tt, k)
      by (suc n) = λ a m. (m, k)

  abbrev IsNum : Value → Type 0
  IsNum v = has_type db ty.Num v ≡ true

  fit_found : (n : ℕ) (d : TableDecl) (a : Answer) → slice_get db.tables n ≡ Some d → answer_fits db (Some d) a ≡ true → KeepsFit IsNum (hit_as_number n a)
  unfolding env_fits
  fit_found n d Miss e h z k = (refl, k)
  fit_found n d (Hit row) e h z k =
      let a = two (variables_fit db db.variables z.vars) (hits_fit db db.tables z.hits) k in
      (refl, and_both (variables_fit db db.variables z.vars) (hits_fit db db.tables (slice_set z.hits n (Some row))) a.0 (set_hits db db.tables z.hits n d row a.1 e h))
  fit_found n d Done e h z k = (refl, k)

  fit_look : (d : Option TableDecl) (n : ℕ) (renew : Bool) (ks : List (Eval Value)) → slice_get db.tables n ≡ d → AllFit ks → KeepsFit IsNum (look_up d n renew ks)
  fit_look None n renew ks e h z k = (refl, k)
  fit_look (Some d) n renew ks e h z k =
      fit_any IsNum (keys_from [] (key_sizes (Some d)) ks) (λ keys. asks (Look n keys renew) >>= hit_as_number n) (fit_keys (key_sizes (Some d)) ks [] h)
      (λ keys. fit_then (Answered (Look n keys renew)) IsNum (asks (Look n keys renew)) (hit_as_number n) (fit_asks (Look n keys renew)) (λ a m. fit_found n d a e (subst (λ x. answer_fits db x a ≡ true) e m))) z k

  -- ---- types

  cast : (a t : Ty) (v : Value) → Some a ≡ Some t → has_type db a v ≡ true → has_type db t v ≡ true
  cast a t v e h = let m : a ≡ t = cc in subst (λ x. has_type db x v ≡ true) m h

  if_typed : (b : Bool) (a t : Ty) (v : Value) → typed_if b a ≡ Some t → has_type db a v ≡ true → has_type db t v ≡ true
  if_typed true a t v e h = cast a t v e h
  if_typed false a t v e h = (cc)

  operator_typed : (o : Operator) (a b : Option Ty) (t : Ty) (v : Value) → operator_ty o a b ≡ Some t → IsNum v → has_type db t v ≡ true
  operator_typed op.Add a b t v e h = if_typed _ ty.Num t v e h
  operator_typed op.Sub a b t v e h = if_typed _ ty.Num t v e h
  operator_typed op.Mul a b t v e h = if_typed _ ty.Num t v e h
  operator_typed op.Div a b t v e h = if_typed _ ty.Num t v e h
  operator_typed op.Mod a b t v e h = if_typed _ ty.Num t v e h
  operator_typed op.BitAnd a b t v e h = if_typed _ ty.Num t v e h
  operator_typed op.BitOr a b t v e h = if_typed _ ty.Num t v e h
  operator_typed op.Lt a b t v e h = if_typed _ ty.Num t v e h
  operator_typed op.Le a b t v e h = if_typed _ ty.Num t v e h
  operator_typed op.Gt a b t v e h = if_typed _ ty.Num t v e h
  operator_typed op.Ge a b t v e h = if_typed _ ty.Num t v e h
  operator_typed op.Eq a b t v e h = if_typed _ ty.Num t v e h
  operator_typed op.Ne a b t v e h = if_typed _ ty.Num t v e h

  truth_num : (b : Bool) → IsNum (truth b)
  truth_num true = refl
  truth_num false = refl

  when_so : (t : Ty) (b : Bool) (r : Reason) (v : Value) → has_type db t v ≡ true → OnValue (λ x. has_type db t x ≡ true) (when b r v)
  when_so t true r v h = h
  when_so t false r v h = tt

  binary_num : (o : Operator) (x y : Value) → OnValue IsNum (binary o x y)
  binary_num op.Add x y = when_so ty.Num _ reason.Range _ refl
  binary_num op.Sub x y = when_so ty.Num _ reason.Range _ refl
  binary_num op.Mul x y = when_so ty.Num _ reason.Range _ refl
  binary_num op.Div x y = when_so ty.Num _ reason.Zero _ refl
  binary_num op.Mod x y = when_so ty.Num _ reason.Zero _ refl
  binary_num op.BitAnd x y = refl
  binary_num op.BitOr x y = refl
  binary_num op.Lt x y = truth_num _
  binary_num op.Le x y = truth_num _
  binary_num op.Gt x y = truth_num _
  binary_num op.Ge x y = truth_num _
  binary_num op.Eq x y = truth_num _
  binary_num op.Ne x y = truth_num _

  abbrev IsBuf : Value → Type 0
  IsBuf v = has_type db ty.Buf v ≡ true

  number_num : (b : List ℕ) → OnValue IsNum (to_number b)
  number_num [] = tt
  number_num (b ∷ bs) = when_so ty.Num _ reason.Size _ refl

  -- where P is enough for Q
  pub weaker : {A : Type 0} (P Q : A → Type 0) → ((a : A) → P a → Q a) → (p : Eval A) → KeepsFit P p → KeepsFit Q p
  weaker {A} P Q g p h z k = gets_map (p z) (h z k)
    where
      on : (r : Result A Reason) → OnValue P r → OnValue Q r
      on (Ok a) m = g a m
      on (Err e) m = tt

      gets_map : (x : Asks (Result A Reason × Env)) → Gets db (Fitting P) x → Gets db (Fitting Q) x
      gets_map (Gives r) m = (on r.0 m.0, m.1)
      gets_map (Asking q c) m = λ a l. gets_map (c a) (m a l)

  module _ (fields : List Text) where
    abbrev gives : Expr → Eval Value
    gives e = fold_expr (Eval Value) (meaning.value db fields) e

    -- the value has the expression's type, where that has one and its names are declared
    abbrev Typed : Expr → Value → Type 0
    Typed e v = (t : Ty) → has_undeclared db fields e ≡ false → ty_of db e ≡ Some t → has_type db t v ≡ true

    variable_fit : (s : Option Special) (name : Text) → KeepsFit (λ v. (t : Ty) → variable_ty db s name ≡ Some t → has_type db t v ≡ true) (variable_by db fields s name)
    unfolding env_fits
    variable_fit None name z k = ((λ t e. variable_typed db db.variables z.vars (variable_at db name) t (and_first (variables_fit db db.variables z.vars) (hits_fit db db.tables z.hits) k) e), k)
    variable_fit (Some Packet) name z k = ((λ t e. cast ty.Buf t (special_value Packet z) e refl), k)
    variable_fit (Some PacketLength) name z k = ((λ t e. cast ty.Num t (special_value PacketLength z) e refl), k)
    variable_fit (Some CurrentOffset) name z k = ((λ t e. cast ty.Num t (special_value CurrentOffset z) e refl), k)
    variable_fit (Some ProtoOffset) name z k = ((λ t e. cast ty.Num t (special_value ProtoOffset z) e refl), k)
    variable_fit (Some LinkType) name z k = ((λ t e. cast ty.Num t (special_value LinkType z) e refl), k)

    abbrev RowOf : ℕ → List Value → Type 0
    RowOf n row = (d : TableDecl) → slice_get db.tables n ≡ Some d → last_hit_fits db d (Some row) ≡ true

    row_fit : (n : ℕ) → KeepsFit (RowOf n) (λ z. row_hit (slice_get z.hits n) z)
    unfolding env_fits
    row_fit n z k = by (slice_get z.hits n) refl
      where
        by : (o : Option (Option (List Value))) → slice_get z.hits n ≡ o → Gets db (Fitting (RowOf n)) (row_hit o z)
        by None e = (tt, k)
        by (Some None) e = (tt, k)
        by (Some (Some row)) e = ((λ d g. hit_at db db.tables z.hits n d row (and_second (variables_fit db db.variables z.vars) (hits_fit db db.tables z.hits) k) g e), k)

    column_value : (d : Option TableDecl) (n : ℕ) (column : Text) (row : List Value) (t : Ty) → slice_get db.tables n ≡ d → RowOf n row → column_ty (slice_get (columns_in d) (column_at d column)) ≡ Some t → has_type db t (value_or_zero (slice_get row (column_at d column))) ≡ true
    column_value None n column row t g h e = (cc)
    column_value (Some d) n column row t g h e =
        let a = two (row_fits d.columns row) (row_declared db row) (h d g) in
        column_typed db d.columns row (column_at (Some d) column) t a.0 a.1 e

    field_fit : (o : Option (List ℕ)) → KeepsFit {A = List ℕ} SomeValue (or_fail reason.NoField o)
    field_fit None z k = (tt, k)
    field_fit (Some b) z k = (tt, k)

    protocol_typed : (name : Text) → not (is_protocol db name) ≡ false → has_type db ty.Proto (value.Proto (protocol_at db name)) ≡ true
    protocol_typed name u =
        (Decides-ltb (protocol_at db name) (length db.protocols)).1 (omega (arith, place_below name (map (λ d. d.name) db.protocols) (not_false (is_protocol db name) u), length-map db.protocols (λ (d : Protocol). d.name)))

    if_fit : (b : Bool) (P : Value → Type 0) (p q : Eval Value) → KeepsFit P p → KeepsFit P q → KeepsFit P (if b then p else q)
    if_fit true P p q h g = h
    if_fit false P p q h g = g

    num_given : (v : Value) → IsNum v → KeepsFit IsNum (give v)
    num_given v h = fit_result IsNum (Ok v) h

    as_kept : (e : Expr) → KeepsFit (Typed e) (gives e) → KeepsFit {A = Value} SomeValue (gives e)
    as_kept e h = weaker (Typed e) SomeValue (λ v k. tt) (gives e) h

    mutual
      typed : (e : Expr) → KeepsFit (Typed e) (gives e)
      typed (expr.Number n) = λ z k. ((λ t u e. cast ty.Num t (value.Num n) e refl), k)
      typed (expr.Text b) = λ z k. ((λ t u e. cast ty.Buf t (value.Buf b) e refl), k)
      typed (expr.Protocol name) = λ z k. ((λ t u e. cast ty.Proto t (value.Proto (protocol_at db name)) e (protocol_typed name u)), k)
      typed (expr.Field name) = fit_any (Typed (expr.Field name)) (λ z. or_fail reason.NoField (last_of fields name z.present None) z) (λ b. give (value.Buf b)) (λ z. field_fit (last_of fields name z.present None) z) (λ b z k. ((λ t u e. cast ty.Buf t (value.Buf b) e refl), k))
      typed (expr.Variable name) = weaker _ (Typed (expr.Variable name)) (λ v h t u e. h t e) (variable_by db fields (special name) name) (variable_fit (special name) name)
      typed (expr.Column table column) =
          fit_then (RowOf (table_at db table)) (Typed (expr.Column table column)) (λ z. row_hit (slice_get z.hits (table_at db table)) z) _ (row_fit (table_at db table))
          (λ row h z k. ((λ t u e. column_value (slice_get db.tables (table_at db table)) (table_at db table) column row t refl h e), k))
      typed (expr.Not' s (more_of-Expr a end_of-Expr)) = weaker IsNum (Typed (expr.Not' s (more_of-Expr a end_of-Expr))) (λ v h t u e. if_typed _ ty.Num t v e h) _ (fit_any IsNum (gives a) _ (as_kept a (typed a)) (λ x. num_given _ (truth_num _)))
      typed (expr.And' s (more_of-Expr a end_of-Expr) r (more_of-Expr b end_of-Expr)) = weaker IsNum (Typed (expr.And' s (more_of-Expr a end_of-Expr) r (more_of-Expr b end_of-Expr))) (λ v h t u e. if_typed _ ty.Num t v e h) _
          (fit_any IsNum (gives a) _ (as_kept a (typed a)) (λ x. if_fit (is_so (num x)) IsNum _ _ (fit_any IsNum (gives b) _ (as_kept b (typed b)) (λ y. num_given _ (truth_num _))) (num_given (value.Num 0) refl)))
      typed (expr.Or' s (more_of-Expr a end_of-Expr) r (more_of-Expr b end_of-Expr)) = weaker IsNum (Typed (expr.Or' s (more_of-Expr a end_of-Expr) r (more_of-Expr b end_of-Expr))) (λ v h t u e. if_typed _ ty.Num t v e h) _
          (fit_any IsNum (gives a) _ (as_kept a (typed a)) (λ x. if_fit (is_so (num x)) IsNum _ _ (num_given (value.Num 1) refl) (fit_any IsNum (gives b) _ (as_kept b (typed b)) (λ y. num_given _ (truth_num _)))))
      typed (expr.Binary' o s (more_of-Expr a end_of-Expr) r (more_of-Expr b end_of-Expr)) = weaker IsNum (Typed (expr.Binary' o s (more_of-Expr a end_of-Expr) r (more_of-Expr b end_of-Expr))) (λ v h t u e. operator_typed o _ _ t v e h) _
          (fit_any IsNum (gives a) _ (as_kept a (typed a)) (λ x. fit_any IsNum (gives b) _ (as_kept b (typed b)) (λ y. fit_result IsNum (binary o x y) (binary_num o x y))))
      typed (expr.Slice' s (more_of-Expr a end_of-Expr) r (more_of-Expr b end_of-Expr) q (more_of-Expr c end_of-Expr)) = weaker IsBuf (Typed (expr.Slice' s (more_of-Expr a end_of-Expr) r (more_of-Expr b end_of-Expr) q (more_of-Expr c end_of-Expr))) (λ v h t u e. if_typed _ ty.Buf t v e h) _
          (fit_any IsBuf (gives a) _ (as_kept a (typed a)) (λ x. fit_any IsBuf (gives b) _ (as_kept b (typed b)) (λ y. fit_any IsBuf (gives c) _ (as_kept c (typed c)) (λ n. fit_result IsBuf (slice (buf x) (num y) (num n)) (when_so ty.Buf _ reason.Slice _ refl)))))
      typed (expr.ToNumber' s (more_of-Expr a end_of-Expr)) = weaker IsNum (Typed (expr.ToNumber' s (more_of-Expr a end_of-Expr))) (λ v h t u e. if_typed _ ty.Num t v e h) _ (fit_any IsNum (gives a) _ (as_kept a (typed a)) (λ x. fit_result IsNum (to_number (buf x)) (number_num (buf x))))
      typed (expr.LengthOf' s (more_of-Expr a end_of-Expr)) = weaker IsNum (Typed (expr.LengthOf' s (more_of-Expr a end_of-Expr))) (λ v h t u e. if_typed _ ty.Num t v e h) _ (fit_any IsNum (gives a) _ (as_kept a (typed a)) (λ x. num_given (value.Num (length (buf x))) refl))
      typed (expr.ToBytes' s (more_of-Expr a end_of-Expr) size) = weaker IsBuf (Typed (expr.ToBytes' s (more_of-Expr a end_of-Expr) size)) (λ v h t u e. if_typed _ ty.Buf t v e h) _ (fit_any IsBuf (gives a) _ (as_kept a (typed a)) (λ x. fit_result IsBuf (in_bytes size (num x)) (when_so ty.Buf _ reason.Range _ refl)))
      typed (expr.HasText' s (more_of-Expr a end_of-Expr) text) = weaker IsNum (Typed (expr.HasText' s (more_of-Expr a end_of-Expr) text)) (λ v h t u e. if_typed _ ty.Num t v e h) _ (fit_any IsNum (gives a) _ (as_kept a (typed a)) (λ x. num_given _ (truth_num _)))
      typed (expr.IsPresent name) = λ z k. ((λ t u e. cast ty.Num t _ e (truth_num _)), k)
      typed (expr.LookUp' table renew s keys) = weaker IsNum (Typed (expr.LookUp' table renew s keys)) (λ v h t u e. if_typed _ ty.Num t v e h) _ (fit_look (slice_get db.tables (table_at db table)) (table_at db table) renew (fold_exprs (Eval Value) (meaning.value db fields) keys) refl (all_kept keys))

      all_kept : {m : _} (es : Row_of-Expr m) → AllFit (fold_exprs (Eval Value) (meaning.value db fields) es)
      all_kept end_of-Expr = tt
      all_kept (more_of-Expr e rest) = (as_kept e (typed e), all_kept rest)

-- an expression keeps a state that fits, typed or not
pub val_keeps : (db : Database) (fields : List Text) (e : Expr) → KeepsFit db {A = Value} (SomeValue db) (val db fields e)
unfolding val
val_keeps db fields e = as_kept db fields e (typed db fields e)

-- and where it has a type, its value has it
pub val_typed : (db : Database) (fields : List Text) (e : Expr) (t : Ty) → has_undeclared db fields e ≡ false → ty_of db e ≡ Some t → KeepsFit db (λ v. has_type db t v ≡ true) (val db fields e)
unfolding val
val_typed db fields e t u k = weaker db (Typed db fields e) (λ v. has_type db t v ≡ true) (λ v h. h t u k) _ (typed db fields e)

pub typed_values : TypedValues
unfolding type_of val
typed_values db fields e t z h k = by (has_undeclared db fields e) (has_wrong_arity db e) (ty_of db e) refl refl h
  where
    on : (r : Result Value Reason) → OnValue (Typed db fields e) r → has_undeclared db fields e ≡ false → ty_of db e ≡ Some t → IsTyped db t r
    on (Ok v) f p q = f t p q
    on (Err s) f p q = tt

    gets_typed : (x : Asks (Result Value Reason × Env)) → Gets db (Fitting db (Typed db fields e)) x → has_undeclared db fields e ≡ false → ty_of db e ≡ Some t → Gets db (λ r. IsTyped db t r.0 × (env_fits db r.1 ≡ true)) x
    gets_typed (Gives r) f p q = (on r.0 f.0 p q, f.1)
    gets_typed (Asking q c) f p g = λ a l. gets_typed (c a) (f a l) p g

    by : (a b : Bool) (o : Option Ty) → has_undeclared db fields e ≡ a → ty_of db e ≡ o → (if a then Err fault.Undeclared else (if b then Err fault.Arity else or_mistyped o)) ≡ Ok t → Gets db (λ r. IsTyped db t r.0 × (env_fits db r.1 ≡ true)) (gives db fields e z)
    by true b o p q g = (cc)
    by false true o p q g = (cc)
    by false false None p q g = (cc)
    by false false (Some s) p q g = let m : s ≡ t = cc in gets_typed (gives db fields e z) (typed db fields e z k) p (q ∙ ap Some m)

-- ---- the state with which a decoding begins

never : (b : Bool) → b ≡ true → (b && true) ≡ false → ⊥
never true g e = (cc)
never false g e = (cc)

module _ (db : Database) where
  literal_typed : (t : Ty) (l : Literal) → literal_is_unknown db l ≡ false → literal_is_wrong db t l ≡ false → has_type db t (literal db l) ≡ true
  literal_typed ty.Num (literal.Number n) h k = refl
  literal_typed ty.Num (literal.Text b) h k = (cc)
  literal_typed ty.Num (literal.Protocol name) h k = absurd (never (is_protocol db name) (not_false (is_protocol db name) h) k)
  literal_typed ty.Buf (literal.Number n) h k = (cc)
  literal_typed ty.Buf (literal.Text b) h k = refl
  literal_typed ty.Buf (literal.Protocol name) h k = absurd (never (is_protocol db name) (not_false (is_protocol db name) h) k)
  literal_typed ty.Proto (literal.Number n) h k = (cc)
  literal_typed ty.Proto (literal.Text b) h k = (cc)
  literal_typed ty.Proto (literal.Protocol name) h k = protocol_typed db [] name h

  abbrev unknown : VarDecl → Lines
  unknown v = at_line v.line (literal_is_unknown db v.value)

  abbrev wrong : VarDecl → Lines
  wrong v = at_line v.line (literal_is_wrong db v.ty v.value)

  first_variables : (ds : List VarDecl) → over unknown ds ≡ [] → over wrong ds ≡ [] → variables_fit db ds (map (λ v. literal db v.value) ds) ≡ true
  first_variables [] h k = refl
  first_variables (d ∷ ds) h k =
      and_both (has_type db d.ty (literal db d.value)) (variables_fit db ds (map (λ v. literal db v.value) ds))
      (literal_typed d.ty d.value (line_none d.line (literal_is_unknown db d.value) (append_front (unknown d) (over unknown ds) h)) (line_none d.line (literal_is_wrong db d.ty d.value) (append_front (wrong d) (over wrong ds) k)))
      (first_variables ds (append_back (unknown d) (over unknown ds) h) (append_back (wrong d) (over wrong ds) k))

  no_hits : (ds : List TableDecl) → hits_fit db ds (map (λ d. None) ds) ≡ true
  no_hits [] = refl
  no_hits (d ∷ ds) = no_hits ds

pub start_fits : StartFits
unfolding env_fits fault_41 fault_42
start_fits db p c =
    let names = no_faults db c.accepted in
    let rest = over (λ (t : SumTemplate). over (item_41 db) t.items) db.sum_templates ++ over (protocol_41 db) db.protocols in
    let first = at_line db.line (not (is_protocol db startproto)) in
    let a = append_front (over (unknown db) db.variables) rest (append_back first (over (unknown db) db.variables ++ rest) names.none_41) in
    let b = append_front (over (wrong db) db.variables) (over (λ (q : Protocol). lines_in (own_42 db (field_names q)) q) db.protocols) names.none_42 in
    and_both (variables_fit db db.variables (map (λ v. literal db v.value) db.variables)) (hits_fit db db.tables (map (λ d. None) db.tables)) (first_variables db db.variables a b) (no_hits db db.tables)
