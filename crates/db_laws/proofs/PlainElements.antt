-- Each element of a checked database does the same where the data values of updates stand as they were evaluated.
use Rattle.std.specs.Prelude.{◌≡◌, ℕ, zero, suc, Bool, true, false, not, if◌then◌else◌, nat_lt, List, [], ◌∷◌, ◌++◌, map, length, slice_get, slice_set, unwrap_or, Option, Some, None, Err}
use Rattle.std.proofs.Common.{refl, sym, ap, subst}
use Rattle.db_model.specs.declared.database.ColumnDecl.{ColumnDecl}
use Rattle.db_model.specs.declared.database.Database.{Database}
use Rattle.db_model.specs.declared.database.TableDecl.{TableDecl}
use Rattle.db_model.specs.declared.database.VarDecl.{VarDecl}
use Rattle.db_model.specs.declared.element.Element as element
use Rattle.db_model.specs.declared.element.Element.TheOpen as layer
use Rattle.db_model.specs.declared.element.Element.{Element, Row_of-Element, end_of-Element, more_of-Element, Row_of-Case, end_of-Case, more_of-Case, Held-Element-Switch-3, None', Some'}
use Rattle.db_model.specs.declared.element.FieldForm.{FieldForm}
use Rattle.db_model.specs.declared.element.FieldForm.TheVariants as form
use Rattle.db_model.specs.declared.element.LoopControl.{LoopControl}
use Rattle.db_model.specs.declared.element.LoopControl.TheVariants as control
use Rattle.db_model.specs.declared.element.LoopKind.{LoopKind}
use Rattle.db_model.specs.declared.element.LoopKind.TheVariants as loop_kind
use Rattle.db_model.specs.declared.element.UpdateKey.{UpdateKey}
use Rattle.db_model.specs.declared.element.UpdateValue.{UpdateValue}
use Rattle.db_model.specs.declared.entry.Validity.{Validity}
use Rattle.db_model.specs.declared.env.Way.TheVariants.{Next, Break, Continue, Chose}
use Rattle.db_model.specs.declared.expression.Expr.{Expr}
use Rattle.db_model.specs.declared.expression.TypeFault.TheVariants as fault
use Rattle.db_model.specs.declared.field_kind.FieldKind.TheVariants.{Variable}
use Rattle.db_model.specs.declared.question.Answer.{Answer}
use Rattle.db_model.specs.declared.question.Question.{Question}
use Rattle.db_model.specs.declared.question.Question.TheVariants.{Add}
use Rattle.db_model.specs.declared.tree.Reason.TheVariants as reason
use Rattle.db_model.specs.declared.value.Ty.{Ty}
use Rattle.db_model.specs.declared.value.Ty.TheVariants as ty
use Rattle.db_model.specs.declared.value.Value.{Value}
use Rattle.db_model.specs.declared.value.Value.TheVariants as value
use Rattle.db_model.specs.Elements.{masks_of, fits_column, row_from, holds, Part, total, each, or_next, choose, control_by, number, field, set_variable, added, update, loop_by, does, means}
use Rattle.db_model.specs.Expression.{Eval, result, when, ◌>>=◌, give, taken_as, val, num, proto, is_so, keys_from, key_sizes, asks}
use Rattle.db_model.specs.Extent.{kind_of}
use Rattle.db_model.specs.Fitting.{has_type}
use Rattle.db_model.specs.Folds.{ElementOf, CaseOf, BranchOf, fold_row, fold_cases, fold_held, noted_row, noted_cases, noted_held}
use Rattle.db_model.specs.Lines.{Lines, joined, over, over_option, at_line, inside, lines_of}
use Rattle.db_model.specs.NameFaults.{own_41}
use Rattle.db_model.specs.Names.{Text, variable_at, table_at}
use Rattle.db_model.specs.Numbering.{Counts, plus, a_block, counts_of}
use Rattle.db_model.specs.Questions.{◌then◌}
use Rattle.db_model.specs.Runs.{Run, evaluated, leave, next, go, place_field, count, looped, before_limit, under_limit}
use Rattle.db_model.specs.TypeFaults.{isnt_wanted, column_wants, is_wrong, own_42, own_47, update_misses}
use Rattle.db_model.specs.Typed.{variables_fit, hits_fit, env_fits}
use Rattle.db_model.specs.Typing.{same_ty, declared_ty, columns_in, has_undeclared, has_wrong_arity, ty_of, or_mistyped, type_of, is_table}
use Rattle.db_model.proofs.Accepted.{append_front, append_back}
use Rattle.db_laws.specs.Laws.{TakenAsItself}
use Rattle.db_laws.specs.Plain.{plain_row, plain_added, plain_update, plain_does, plain_means}
use Rattle.db_laws.proofs.Fitted.{not_false, and_both, and_first, and_second, two}
use Rattle.db_laws.proofs.Includes.{line_none}
use Rattle.db_laws.proofs.Kept.{or_first}
use Rattle.db_laws.proofs.PlainRuns.{AlikeEvals, same_eval, evals_then, AlikeRuns, alike_leave, alike_go, runs_then, alike_evaluated, alike_block, alike_place, alike_count, alike_if, alike_looped, alike_limit}
use Rattle.db_laws.proofs.Typed.{KeepsFit, SomeValue, fit_any, fit_result, no_value, AllFit, fit_keys, Answered, fit_asks, weaker, val_keeps, val_typed}

pub taken_itself : TakenAsItself
taken_itself db ty.Num (value.Num n) h = refl
taken_itself db ty.Num (value.Buf b) h = (cc)
taken_itself db ty.Num (value.Proto p) h = (cc)
taken_itself db ty.Buf (value.Num n) h = (cc)
taken_itself db ty.Buf (value.Buf b) h = refl
taken_itself db ty.Buf (value.Proto p) h = (cc)
taken_itself db ty.Proto (value.Num n) h = (cc)
taken_itself db ty.Proto (value.Buf b) h = (cc)
taken_itself db ty.Proto (value.Proto p) h = by (nat_lt p (length db.protocols)) h
  where
    by : (b : Bool) → b ≡ true → value.Proto (if b then p else 0) ≡ value.Proto p
    by true g = refl
    by false g = (cc)

same_is : (t s : Ty) → same_ty t s ≡ true → s ≡ t
same_is ty.Num ty.Num e = refl
same_is ty.Num ty.Buf e = (cc)
same_is ty.Num ty.Proto e = (cc)
same_is ty.Buf ty.Num e = (cc)
same_is ty.Buf ty.Buf e = refl
same_is ty.Buf ty.Proto e = (cc)
same_is ty.Proto ty.Num e = (cc)
same_is ty.Proto ty.Buf e = (cc)
same_is ty.Proto ty.Proto e = refl

module _ (db : Database) (fields blocks : List Text) where
  -- an expression without a fault has the type that is wanted
  wanted_type : (e : Expr) (t : Ty) → has_undeclared db fields e ≡ false → has_wrong_arity db e ≡ false → is_wrong db fields (Some t) e ≡ false → ty_of db e ≡ Some t
  unfolding type_of
  wanted_type e t u a w = by (has_undeclared db fields e) (has_wrong_arity db e) (ty_of db e) u a w
    where
      by : (b c : Bool) (o : Option Ty) → b ≡ false → c ≡ false → isnt_wanted (Some t) (if b then Err fault.Undeclared else (if c then Err fault.Arity else or_mistyped o)) ≡ false → o ≡ Some t
      by true c o u a w = (cc)
      by false true o u a w = (cc)
      by false false None u a w = (cc)
      by false false (Some s) u a w = ap Some (same_is t s (not_false (same_ty t s) w))

  -- ---- assignments

  set_variable_fits : (ds : List VarDecl) (vs : List Value) (n : ℕ) (v : Value) → variables_fit db ds vs ≡ true → ((t : Ty) → declared_ty (slice_get ds n) ≡ Some t → has_type db t v ≡ true) → variables_fit db ds (slice_set vs n v) ≡ true
  set_variable_fits [] [] n v h k = refl
  set_variable_fits [] (x ∷ vs) n v h k = (cc)
  set_variable_fits (d ∷ ds) [] n v h k = (cc)
  set_variable_fits (d ∷ ds) (x ∷ vs) zero v h k = and_both (has_type db d.ty v) (variables_fit db ds vs) (k d.ty refl) (and_second (has_type db d.ty x) (variables_fit db ds vs) h)
  set_variable_fits (d ∷ ds) (x ∷ vs) (suc n) v h k = and_both (has_type db d.ty x) (variables_fit db ds (slice_set vs n v)) (and_first (has_type db d.ty x) (variables_fit db ds vs) h) (set_variable_fits ds vs n v (and_second (has_type db d.ty x) (variables_fit db ds vs) h) k)

  abbrev OfVariable : Option Ty → Value → Type 0
  OfVariable o v = (t : Ty) → o ≡ Some t → has_type db t v ≡ true

  assigned_type : (o : Option Ty) (e : Expr) → has_undeclared db fields e ≡ false → has_wrong_arity db e ≡ false → is_wrong db fields o e ≡ false → KeepsFit db (OfVariable o) (val db fields e)
  assigned_type None e u a w = weaker db (SomeValue db) (OfVariable None) (λ v h t k. (cc)) (val db fields e) (val_keeps db fields e)
  assigned_type (Some s) e u a w = weaker db (λ v. has_type db s v ≡ true) (OfVariable (Some s)) (λ v h t k. let m : s ≡ t = cc in subst (λ x. has_type db x v ≡ true) m h) (val db fields e) (val_typed db fields e s u (wanted_type e s u a w))

  set_alike : (n : ℕ) (v : Value) → OfVariable (declared_ty (slice_get db.variables n)) v → AlikeRuns db (set_variable db fields n v) (set_variable db fields n v)
  unfolding env_fits
  set_alike n v h z e =
      let a = two (variables_fit db db.variables z.env.vars) (hits_fit db db.tables z.env.hits) e in
      (refl, and_both (variables_fit db db.variables (slice_set z.env.vars n v)) (hits_fit db db.tables z.env.hits) (set_variable_fits db.variables z.env.vars n v a.0 h) a.1)

  -- ---- updates

  abbrev unknown_values : List UpdateValue → Lines
  unknown_values vs = over (λ (v : UpdateValue). at_line v.line (has_undeclared db fields v.value)) vs

  abbrev arity_values : List UpdateValue → Lines
  arity_values vs = over (λ (v : UpdateValue). at_line v.line (has_wrong_arity db v.value)) vs

  abbrev wrong_values : List ColumnDecl → List UpdateValue → Lines
  wrong_values cs vs = over (λ (w : Option Ty × UpdateValue). at_line w.1.line (is_wrong db fields w.0 w.1.value)) (column_wants cs vs)

  abbrev given : List UpdateValue → List (Eval Value)
  given vs = map (λ v. val db fields v.value) vs

  row_alike : (cs : List ColumnDecl) (vs : List UpdateValue) (before : List Value) → unknown_values vs ≡ [] → arity_values vs ≡ [] → wrong_values cs vs ≡ [] → AlikeEvals db (SomeValue db) (row_from (length db.protocols) before cs (given vs)) (plain_row before cs (given vs))
  row_alike [] vs before u a w = λ z e. (refl, (tt, e))
  row_alike (c ∷ cs) [] before u a w = λ z e. (refl, (tt, e))
  row_alike (c ∷ cs) (v ∷ vs) before u a w =
      let unknown = line_none v.line (has_undeclared db fields v.value) (append_front (at_line v.line (has_undeclared db fields v.value)) (unknown_values vs) u) in
      let arity = line_none v.line (has_wrong_arity db v.value) (append_front (at_line v.line (has_wrong_arity db v.value)) (arity_values vs) a) in
      let wrong = line_none v.line (is_wrong db fields (Some c.ty) v.value) (append_front (at_line v.line (is_wrong db fields (Some c.ty) v.value)) (wrong_values cs vs) w) in
      evals_then db (λ x. has_type db c.ty x ≡ true) (SomeValue db) (val db fields v.value) (val db fields v.value)
      (λ x. real (taken_as (length db.protocols) c.ty x)) plain
      (same_eval db (λ x. has_type db c.ty x ≡ true) (val db fields v.value) (val_typed db fields v.value c.ty unknown (wanted_type v.value c.ty unknown arity wrong)))
      (λ x h. subst (λ y. AlikeEvals db (SomeValue db) (real y) (plain x)) (sym (taken_itself db c.ty x h)) (checked x
      (λ y. row_alike cs vs (before ++ y ∷ []) (append_back (at_line v.line (has_undeclared db fields v.value)) (unknown_values vs) u) (append_back (at_line v.line (has_wrong_arity db v.value)) (arity_values vs) a) (append_back (at_line v.line (is_wrong db fields (Some c.ty) v.value)) (wrong_values cs vs) w))))
    where
      real : Value → Eval (List Value)
      real y = result (when (fits_column c.size y) reason.DataSize y) >>= (λ x. row_from (length db.protocols) (before ++ x ∷ []) cs (given vs))

      plain : Value → Eval (List Value)
      plain y = result (when (fits_column c.size y) reason.DataSize y) >>= (λ x. plain_row (before ++ x ∷ []) cs (given vs))

      checked : (x : Value) → ((y : Value) → AlikeEvals db (SomeValue db) (row_from (length db.protocols) (before ++ y ∷ []) cs (given vs)) (plain_row (before ++ y ∷ []) cs (given vs))) → AlikeEvals db (SomeValue db) (real x) (plain x)
      checked x more =
          evals_then db (SomeValue db) (SomeValue db) (result (when (fits_column c.size x) reason.DataSize x)) (result (when (fits_column c.size x) reason.DataSize x))
          (λ y. row_from (length db.protocols) (before ++ y ∷ []) cs (given vs)) (λ y. plain_row (before ++ y ∷ []) cs (given vs))
          (same_eval db (SomeValue db) (result (when (fits_column c.size x) reason.DataSize x)) (fit_result db (SomeValue db) (when (fits_column c.size x) reason.DataSize x) (no_value db (when (fits_column c.size x) reason.DataSize x))))
          (λ y k. more y)

  keys_fit : (keys : List UpdateKey) → AllFit db (map (λ k. val db fields k.value) keys)
  keys_fit [] = tt
  keys_fit (k ∷ ks) = (val_keeps db fields k.value, keys_fit ks)

  asked : (q : Question) → AlikeEvals db {A = Answer} (SomeValue db) (asks q) (asks q)
  asked q = same_eval db (SomeValue db) (asks q) (weaker db (Answered db q) (SomeValue db) (λ x m. tt) (asks q) (fit_asks db q))

  added_alike : (d : Option TableDecl) (n : ℕ) (validity : Validity) (keep hit : Option ℕ) (keys : List UpdateKey) (row : List UpdateValue) → unknown_values row ≡ [] → arity_values row ≡ [] → wrong_values (columns_in d) row ≡ [] → AlikeEvals db {A = Answer} (SomeValue db) (added db fields d n validity keep hit keys row) (plain_added db fields d n validity keep hit keys row)
  added_alike None n validity keep hit keys row u a w = λ z e. (refl, (tt, e))
  added_alike (Some d) n validity keep hit keys row u a w =
      let given_keys = map (λ (k : UpdateKey). val db fields k.value) keys in
      evals_then db (SomeValue db) (SomeValue db) (keys_from [] (key_sizes (Some d)) given_keys) (keys_from [] (key_sizes (Some d)) given_keys) _ _
      (same_eval db (SomeValue db) (keys_from [] (key_sizes (Some d)) given_keys) (fit_keys db (key_sizes (Some d)) given_keys [] (keys_fit keys)))
      (λ ks k. evals_then db (SomeValue db) (SomeValue db) (row_from (length db.protocols) [] d.columns (given row)) (plain_row [] d.columns (given row)) _ _ (row_alike d.columns row [] u a w)
      (λ vs l. asked (Add n (record { keys = ks; masks = masks_of (key_sizes (Some d)) (map (λ k. k.mask) keys); validity = validity; keep = unwrap_or keep 0; hit = unwrap_or hit 0; row = vs }))))

  -- ---- forms of elements

  number_keeps : (e : Expr) → KeepsFit db {A = ℕ} (SomeValue db) (number db fields e)
  number_keeps e = fit_any db (SomeValue db) (val db fields e) (λ v. give (num v)) (val_keeps db fields e) (λ v z k. (tt, k))

  from_number : (e : Expr) (f g : ℕ → Run) → ((n : ℕ) → AlikeRuns db (f n) (g n)) → AlikeRuns db (evaluated (number db fields e) f) (evaluated (number db fields e) g)
  from_number e f g h = alike_evaluated db (SomeValue db) (number db fields e) (number db fields e) f g (same_eval db (SomeValue db) (number db fields e) (number_keeps e)) (λ n k. h n)

  field_alike : (f : FieldForm) (n : ℕ) → AlikeRuns db (field db fields f n) (field db fields f n)
  field_alike (form.Fixed s) n = alike_place db (kind_of (form.Fixed s)) n 0
  field_alike (form.Bit s mask) n = alike_place db (kind_of (form.Bit s mask)) n 0
  field_alike (form.Variable e) n = from_number e (place_field Variable n) (place_field Variable n) (λ k. alike_place db Variable n k)
  field_alike (form.TokenEnded token) n = alike_place db (kind_of (form.TokenEnded token)) n 0
  field_alike form.Line n = alike_place db (kind_of form.Line) n 0
  field_alike (form.Padding align) n = alike_place db (kind_of (form.Padding align)) n 0

  loop_alike : (k : LoopKind) (e : Expr) (p q : Run) → AlikeRuns db p q → AlikeRuns db (loop_by db fields k e p) (loop_by db fields k e q)
  loop_alike loop_kind.Size e p q h = from_number e (λ n. under_limit n (looped before_limit p)) (λ n. under_limit n (looped before_limit q)) (λ n. alike_limit db n (looped before_limit p) (looped before_limit q) (alike_looped db before_limit p q (λ z k. (tt, k)) h))
  loop_alike loop_kind.Count e p q h = from_number e (λ n. count n p) (λ n. count n q) (λ n. alike_count db n p q h)
  loop_alike loop_kind.While e p q h = alike_looped db (number db fields e) p q (number_keeps e) h

  control_alike : (c : LoopControl) → AlikeRuns db (control_by c) (control_by c)
  control_alike control.Break = alike_leave db Break
  control_alike control.Continue = alike_leave db Continue

  -- ---- parts

  abbrev pub AllAlike : List Part → List Part → Type 0
  AllAlike [] [] = Unit {0}
  AllAlike [] (y ∷ ys) = ⊥
  AllAlike (x ∷ xs) [] = ⊥
  AllAlike (x ∷ xs) (y ∷ ys) = (x.note ≡ y.note) × (((at : Counts) → AlikeRuns db (x.means at) (y.means at)) × AllAlike xs ys)

  total_same : (xs ys : List Part) → AllAlike xs ys → total xs ≡ total ys
  total_same [] [] h = refl
  total_same [] (y ∷ ys) h = absurd h
  total_same (x ∷ xs) [] h = absurd h
  total_same (x ∷ xs) (y ∷ ys) h = λ i. plus (h.0 i) (total_same xs ys h.1.1 i)

  pub each_alike : (xs ys : List Part) → AllAlike xs ys → (at : Counts) → AlikeRuns db (each xs at) (each ys at)
  each_alike [] [] h at = alike_leave db Next
  each_alike [] (y ∷ ys) h at = absurd h
  each_alike (x ∷ xs) [] h at = absurd h
  each_alike (x ∷ xs) (y ∷ ys) h at =
      runs_then db (x.means at) (y.means at) (go (each xs (plus at x.note))) (go (each ys (plus at y.note))) (h.1.0 at)
      (λ w. alike_go db w.0 w.1 (each xs (plus at x.note)) (each ys (plus at y.note)) (subst (λ c. AlikeRuns db (each xs (plus at x.note)) (each ys (plus at c))) h.0 (each_alike xs ys h.1.1 (plus at x.note))))

  abbrev AlikeBranch : Option (BranchOf Part) → Option (BranchOf Part) → Type 0
  AlikeBranch None None = Unit {0}
  AlikeBranch None (Some c) = ⊥
  AlikeBranch (Some b) None = ⊥
  AlikeBranch (Some b) (Some c) = AllAlike b.body c.body

  or_next_alike : (b c : Option (BranchOf Part)) → AlikeBranch b c → (at : Counts) → AlikeRuns db (or_next b at) (or_next c at)
  or_next_alike None None h at = alike_leave db Next
  or_next_alike None (Some c) h at = absurd h
  or_next_alike (Some b) None h at = absurd h
  or_next_alike (Some b) (Some c) h at = each_alike b.body c.body h at

  -- the same counts before a list
  moved : (b c : Option (BranchOf Part)) (at : Counts) (m n : Counts) → m ≡ n → AlikeBranch b c → AlikeRuns db (or_next b (plus at m)) (or_next c (plus at n))
  moved b c at m n e h = subst (λ k. AlikeRuns db (or_next b (plus at m)) (or_next c (plus at k))) e (or_next_alike b c h (plus at m))

  abbrev SameCase : CaseOf Part → CaseOf Part → Type 0
  SameCase c d = ((v : ℕ) → holds c v ≡ holds d v) × AllAlike c.body d.body

  abbrev AlikeCases : List (CaseOf Part) → List (CaseOf Part) → Type 0
  AlikeCases [] [] = Unit {0}
  AlikeCases [] (d ∷ ds) = ⊥
  AlikeCases (c ∷ cs) [] = ⊥
  AlikeCases (c ∷ cs) (d ∷ ds) = SameCase c d × AlikeCases cs ds

  choose_alike : (v : ℕ) (cs ds : List (CaseOf Part)) (b c : Option (BranchOf Part)) → AlikeCases cs ds → AlikeBranch b c → (at : Counts) → AlikeRuns db (choose v cs b at) (choose v ds c at)
  choose_alike v [] [] b c h k at = or_next_alike b c k at
  choose_alike v [] (y ∷ ds) b c h k at = absurd h
  choose_alike v (x ∷ cs) [] b c h k at = absurd h
  choose_alike v (x ∷ cs) (y ∷ ds) b c h k at =
      subst (λ t. AlikeRuns db (choose v (x ∷ cs) b at) (if t then each y.body at else choose v ds c (plus at (total y.body)))) (h.0.0 v)
      (alike_if db (holds x v) (each x.body at) (each y.body at) (choose v cs b (plus at (total x.body))) (choose v ds c (plus at (total y.body))) (each_alike x.body y.body h.0.1 at)
      (subst (λ t. AlikeRuns db (choose v cs b (plus at (total x.body))) (choose v ds c (plus at t))) (total_same x.body y.body h.0.1) (choose_alike v cs ds b c h.1 k (plus at (total x.body)))))

  -- ---- elements

  -- the lines of a place, for each kind of fault of which an element could be different, are none
  pub record Faultless (f : (ElementOf Lines → Lines) → Lines) : Type 0 where
    pub names : f (own_41 db fields blocks) ≡ []
    pub types : f (own_42 db fields) ≡ []
    pub tables : f (own_47 db) ≡ []

  pub fault_front : (f g : (ElementOf Lines → Lines) → Lines) → Faultless (λ own. f own ++ g own) → Faultless f
  fault_front f g h = record { names = append_front (f (own_41 db fields blocks)) (g (own_41 db fields blocks)) h.names; types = append_front (f (own_42 db fields)) (g (own_42 db fields)) h.types; tables = append_front (f (own_47 db)) (g (own_47 db)) h.tables }

  pub fault_back : (f g : (ElementOf Lines → Lines) → Lines) → Faultless (λ own. f own ++ g own) → Faultless g
  fault_back f g h = record { names = append_back (f (own_41 db fields blocks)) (g (own_41 db fields blocks)) h.names; types = append_back (f (own_42 db fields)) (g (own_42 db fields)) h.types; tables = append_back (f (own_47 db)) (g (own_47 db)) h.tables }

  -- what each kind of fault says in the parts of an element
  abbrev row_lines : {m : _} → Row_of-Element m → (ElementOf Lines → Lines) → Lines
  row_lines xs own = joined (fold_row Lines (λ x. own x ++ inside x) xs)

  abbrev case_lines : {m : _} → Row_of-Case m → (ElementOf Lines → Lines) → Lines
  case_lines cs own = over (λ (c : CaseOf Lines). joined c.body) (fold_cases Lines (λ x. own x ++ inside x) cs)

  abbrev held_lines : Held-Element-Switch-3 → (ElementOf Lines → Lines) → Lines
  held_lines x own = over_option (λ (b : BranchOf Lines). joined b.body) (fold_held Lines (λ x. own x ++ inside x) x)

  -- the lines of one layer
  abbrev own_lines : ((ElementOf Lines → Lines) → ElementOf Lines) → (ElementOf Lines → Lines) → Lines
  own_lines x own = own (x own)

  module _ (include other : Text → Run) (inc : (name : Text) → AlikeRuns db (include name) (other name)) where
    abbrev real_row : {m : _} → Row_of-Element m → List Part
    real_row xs = noted_row Counts counts_of (Counts → Run) (does db fields include) xs

    abbrev plain_rows : {m : _} → Row_of-Element m → List Part
    plain_rows xs = noted_row Counts counts_of (Counts → Run) (plain_does db fields other) xs

    assign_alike : (line : ℕ) (name : Text) (e : Expr) → Faultless (λ own. own (layer.Assign line name e) ++ []) → AlikeRuns db (evaluated (val db fields e) (set_variable db fields (variable_at db name))) (evaluated (val db fields e) (set_variable db fields (variable_at db name)))
    assign_alike line name e h =
        let o = declared_ty (slice_get db.variables (variable_at db name)) in
        let u = or_first (has_undeclared db fields e) _ (line_none line _ (append_front (own_41 db fields blocks (layer.Assign line name e)) [] h.names)) in
        let w = line_none line (is_wrong db fields o e) (append_front (own_42 db fields (layer.Assign line name e)) [] h.types) in
        let a = line_none line (has_wrong_arity db e) (append_front (own_47 db (layer.Assign line name e)) [] h.tables) in
        alike_evaluated db (OfVariable o) (val db fields e) (val db fields e) (set_variable db fields (variable_at db name)) (set_variable db fields (variable_at db name)) (same_eval db (OfVariable o) (val db fields e) (assigned_type o e u a w)) (λ v k. set_alike (variable_at db name) v k)

    update_alike : (line : ℕ) (table : Text) (validity : Validity) (keep hit : Option ℕ) (keys : List UpdateKey) (row : List UpdateValue) → Faultless (λ own. own (layer.Update line table validity keep hit keys row) ++ []) → AlikeRuns db (update db fields table validity keep hit keys row) (plain_update db fields table validity keep hit keys row)
    update_alike line table validity keep hit keys row h =
        let d = slice_get db.tables (table_at db table) in
        let unknown_keys = over (λ (k : UpdateKey). at_line k.line (has_undeclared db fields k.value)) keys in
        let arity_keys = over (λ (k : UpdateKey). at_line k.line (has_wrong_arity db k.value)) keys in
        let wrong_keys = over (λ (k : UpdateKey). at_line k.line (is_wrong db fields (Some ty.Buf) k.value)) keys in
        let u = append_back unknown_keys (unknown_values row) (append_back (at_line line (not (is_table db table))) (unknown_keys ++ unknown_values row) (append_front (own_41 db fields blocks (layer.Update line table validity keep hit keys row)) [] h.names)) in
        let w = append_back wrong_keys (wrong_values (columns_in d) row) (append_front (own_42 db fields (layer.Update line table validity keep hit keys row)) [] h.types) in
        let a = append_back arity_keys (arity_values row) (append_back (at_line line (update_misses d validity keep hit keys row)) (arity_keys ++ arity_values row) (append_front (own_47 db (layer.Update line table validity keep hit keys row)) [] h.tables)) in
        alike_evaluated db {A = Answer} (SomeValue db) (added db fields d (table_at db table) validity keep hit keys row) (plain_added db fields d (table_at db table) validity keep hit keys row) (λ x. next) (λ x. next) (added_alike d (table_at db table) validity keep hit keys row u a w) (λ x k. alike_leave db Next)

    mutual
      unfolding means plain_means

      pub element_alike : (x : Element) → Faultless (λ own. lines_of own x) → (at : Counts) → AlikeRuns db (means db fields include x at) (plain_means db fields other x at)
      element_alike (element.Field line name f longname show) h at = field_alike f at.fields
      element_alike (element.Block' line name longname s body) h at =
          alike_block db at.blocks _ _ (each_alike (real_row body) (plain_rows body) (row_elements body (fault_back (own_lines (λ own. layer.Block line name longname (fold_row Lines (λ x. own x ++ inside x) body))) (row_lines body) h)) (plus at a_block))
      element_alike (element.IncludeBlock line name) h at = inc name
      element_alike (element.Loop' line lk e s body) h at =
          loop_alike lk e _ _ (each_alike (real_row body) (plain_rows body) (row_elements body (fault_back (own_lines (λ own. layer.Loop line lk e (fold_row Lines (λ x. own x ++ inside x) body))) (row_lines body) h)) at)
      element_alike (element.LoopCtrl line c) h at = control_alike c
      element_alike (element.Switch' line e s cases held) h at =
          let l = fault_back (own_lines (λ own. layer.Switch line e (fold_cases Lines (λ x. own x ++ inside x) cases) (fold_held Lines (λ x. own x ++ inside x) held))) (λ own. case_lines cases own ++ held_lines held own) h in
          from_number e _ _ (λ v. choose_alike v _ _ _ _ (case_elements cases (fault_front (case_lines cases) (held_lines held) l)) (held_elements held (fault_back (case_lines cases) (held_lines held) l)) at)
      element_alike (element.If' line e true_line s body held) h at =
          let l = fault_back (own_lines (λ own. layer.If line e true_line (fold_row Lines (λ x. own x ++ inside x) body) (fold_held Lines (λ x. own x ++ inside x) held))) (λ own. row_lines body own ++ held_lines held own) h in
          let so = row_elements body (fault_front (row_lines body) (held_lines held) l) in
          from_number e _ _ (λ v. alike_if db (is_so v) _ _ _ _ (each_alike (real_row body) (plain_rows body) so at)
          (moved _ _ at (total (real_row body)) (total (plain_rows body)) (total_same (real_row body) (plain_rows body) so) (held_elements held (fault_back (row_lines body) (held_lines held) l))))
      element_alike (element.Assign line name e) h at = assign_alike line name e h
      element_alike (element.Update line table validity keep hit keys row) h at = update_alike line table validity keep hit keys row h
      element_alike (element.NextProto line e) h at = alike_evaluated db (SomeValue db) (val db fields e) (val db fields e) (λ v. leave (Chose (proto v))) (λ v. leave (Chose (proto v))) (same_eval db (SomeValue db) (val db fields e) (val_keeps db fields e)) (λ v k. alike_leave db (Chose (proto v)))

      row_elements : {m : _} (xs : Row_of-Element m) → Faultless (row_lines xs) → AllAlike (real_row xs) (plain_rows xs)
      row_elements end_of-Element h = tt
      row_elements (more_of-Element x rest) h = (refl, (element_alike x (fault_front (λ own. lines_of own x) (row_lines rest) h), row_elements rest (fault_back (λ own. lines_of own x) (row_lines rest) h)))

      case_elements : {m : _} (xs : Row_of-Case m) → Faultless (case_lines xs) → AlikeCases (noted_cases Counts counts_of (Counts → Run) (does db fields include) xs) (noted_cases Counts counts_of (Counts → Run) (plain_does db fields other) xs)
      case_elements end_of-Case h = tt
      case_elements (more_of-Case line value maxvalue s body rest) h = ((λ v. refl, row_elements body (fault_front (row_lines body) (case_lines rest) h)), case_elements rest (fault_back (row_lines body) (case_lines rest) h))

      held_elements : (x : Held-Element-Switch-3) → Faultless (held_lines x) → AlikeBranch (noted_held Counts counts_of (Counts → Run) (does db fields include) x) (noted_held Counts counts_of (Counts → Run) (plain_does db fields other) x)
      held_elements None' h = tt
      held_elements (Some' line s body) h = row_elements body h
