-- The one form of the four kinds of fault is each of them.
use Rattle.std.specs.Prelude.{◌≡◌, ℕ, zero, suc, Bool, false, ◌||◌, List, [], ◌∷◌, ◌++◌, map, slice_get, drop, length, get_or, ◌+◌, ◌<◌, ◌≤◌, Option, Some}
use Rattle.std.specs.Option.{option_map}
use Rattle.std.proofs.Common.{refl, ap, sym, ◌∙◌, append-nil, arith}
use Rattle.std.proofs.lemmas.List.{at_drop_more, at_drop_all}
use Rattle.db_cause.specs.declared.cause.Cause.{Cause}
use Rattle.db_model.specs.declared.database.ColumnDecl.{ColumnDecl}
use Rattle.db_model.specs.declared.database.Database.{Database}
use Rattle.db_model.specs.declared.element.Element.TheOpen as layer
use Rattle.db_model.specs.declared.element.FieldForm.{FieldForm}
use Rattle.db_model.specs.declared.element.FieldForm.TheVariants as form
use Rattle.db_model.specs.declared.element.UpdateKey.{UpdateKey}
use Rattle.db_model.specs.declared.element.UpdateValue.{UpdateValue}
use Rattle.db_model.specs.declared.entry.Validity.{Validity}
use Rattle.db_model.specs.declared.expression.Expr.{Expr}
use Rattle.db_model.specs.declared.fault.Fault.{Fault}
use Rattle.db_model.specs.declared.value.Ty.{Ty}
use Rattle.db_model.specs.declared.value.Ty.TheVariants.{Num}
use Rattle.db_check.specs.declared.kind.Kind.{Kind}
use Rattle.db_check.specs.declared.kind.Kind.TheVariants as kind
use Rattle.db_model.specs.Folds.{CaseOf, ElementOf}
use Rattle.db_model.specs.Lines.{Lines, over, at_line, inside}
use Rattle.db_model.specs.NameFaults.{own_41, form_is_unknown}
use Rattle.db_model.specs.Names.{Text, table_at}
use Rattle.db_model.specs.NumberFaults.{own_43}
use Rattle.db_model.specs.TypeFaults.{own_42, own_47, is_wrong, form_is_wrong, form_misses, column_wants}
use Rattle.db_model.specs.Typing.{columns_in, has_undeclared, has_wrong_arity}
use Rattle.db_check.specs.Own.{own_of, form_fails, lacks_template, key_lines, value_lines, update_fails, fails, case_fails}
use Rattle.db_check.specs.Layer.{own_at}
use Rattle.db_model.proofs.Layers.{fold_case, fold_case_list}
use Rattle.db_model.specs.declared.element.Branch.{Branch}
use Rattle.db_model.specs.declared.element.Case.{Case}
use Rattle.db_model.specs.declared.element.Element as element
use Rattle.db_check.specs.First.{first}
use Rattle.db_check.proofs.FirstFault.{first_append}
use Rattle.db_model.specs.LeastFault.{earlier}
use Rattle.db_model.proofs.LeastFault.{earlier_none, earlier_assoc}

-- nothing is wrong
over_nothing : {A : Type 0} (f : A → Lines) (xs : List A) → ((x : A) → f x ≡ []) → over f xs ≡ []
over_nothing f [] h = refl
over_nothing f (x ∷ xs) h = (λ i. h x i ++ over f xs) ∙ over_nothing f xs h

and_nothing : (l m : Lines) → m ≡ [] → l ++ m ≡ l
and_nothing l m e = ap (λ n. l ++ n) e ∙ append-nil l

-- what doesn't ask the wanted type is asked of the values alone
values_alone : (test : Expr → Bool) (cs : List ColumnDecl) (vs : List UpdateValue) → over (λ (w : Option Ty × UpdateValue). at_line w.1.line (test w.1.value)) (column_wants cs vs) ≡ over (λ (v : UpdateValue). at_line v.line (test v.value)) vs
values_alone test cs [] = none cs
  where
    none : (cs : List ColumnDecl) → over (λ (w : Option Ty × UpdateValue). at_line w.1.line (test w.1.value)) (column_wants cs []) ≡ []
    none [] = refl
    none (c ∷ cs) = refl
values_alone test [] (v ∷ vs) = ap (λ l. at_line v.line (test v.value) ++ l) (values_alone test [] vs)
values_alone test (c ∷ cs) (v ∷ vs) = ap (λ l. at_line v.line (test v.value) ++ l) (values_alone test cs vs)

module _ (db : Database) (fields blocks : List Text) where
  abbrev columns : Text → List ColumnDecl
  columns table = columns_in (slice_get db.tables (table_at db table))

  form_41 : (f : FieldForm) → form_fails db fields blocks kind.Names f ≡ form_is_unknown db fields blocks f
  form_41 (form.Fixed size) = refl
  form_41 (form.Bit size mask) = refl
  form_41 (form.Variable e) = refl
  form_41 (form.TokenEnded token) = refl
  form_41 form.Line = refl
  form_41 (form.Padding align) = refl

  form_42 : (f : FieldForm) → form_fails db fields blocks kind.Types f ≡ form_is_wrong db fields f
  form_42 (form.Fixed size) = refl
  form_42 (form.Bit size mask) = refl
  form_42 (form.Variable e) = refl
  form_42 (form.TokenEnded token) = refl
  form_42 form.Line = refl
  form_42 (form.Padding align) = refl

  form_47 : (f : FieldForm) → form_fails db fields blocks kind.Tables f ≡ form_misses db f
  form_47 (form.Fixed size) = refl
  form_47 (form.Bit size mask) = refl
  form_47 (form.Variable e) = refl
  form_47 (form.TokenEnded token) = refl
  form_47 form.Line = refl
  form_47 (form.Padding align) = refl

  abbrev update_own : Kind → ℕ → Text → Validity → Option ℕ → Option ℕ → List UpdateKey → List UpdateValue → Lines
  update_own k line table validity keep hit keys row = at_line line (update_fails db fields blocks k table validity keep hit keys row)

  pub are_41 : (x : ElementOf Lines) → own_of db fields blocks kind.Names x ≡ own_41 db fields blocks x
  are_41 (layer.Field line name f longname show) = ap (λ b. at_line line (b || lacks_template db fields blocks show)) (form_41 f)
  are_41 (layer.Block line name longname body) = refl
  are_41 (layer.IncludeBlock line name) = refl
  are_41 (layer.Loop line k e body) = refl
  are_41 (layer.LoopCtrl line c) = refl
  are_41 (layer.Switch line e cases other) = and_nothing (at_line line (has_undeclared db fields e)) _ (over_nothing (λ (c : CaseOf Lines). at_line c.line false) cases (λ c. refl))
  are_41 (layer.If line e true_line so other) = refl
  are_41 (layer.Assign line name e) = refl
  are_41 (layer.Update line table validity keep hit keys row) = ap (λ l. update_own kind.Names line table validity keep hit keys row ++ (over (key_lines db fields blocks kind.Names) keys ++ l)) (values_alone (has_undeclared db fields) (columns table) row)
  are_41 (layer.NextProto line e) = refl

  pub are_42 : (x : ElementOf Lines) → own_of db fields blocks kind.Types x ≡ own_42 db fields x
  are_42 (layer.Field line name f longname show) = ap (at_line line) (form_42 f)
  are_42 (layer.Block line name longname body) = refl
  are_42 (layer.IncludeBlock line name) = refl
  are_42 (layer.Loop line k e body) = refl
  are_42 (layer.LoopCtrl line c) = refl
  are_42 (layer.Switch line e cases other) = and_nothing (at_line line (is_wrong db fields (Some Num) e)) _ (over_nothing (λ (c : CaseOf Lines). at_line c.line false) cases (λ c. refl))
  are_42 (layer.If line e true_line so other) = refl
  are_42 (layer.Assign line name e) = refl
  are_42 (layer.Update line table validity keep hit keys row) = refl
  are_42 (layer.NextProto line e) = refl

  pub are_43 : (x : ElementOf Lines) → own_of db fields blocks kind.Numbers x ≡ own_43 x
  are_43 (layer.Field line name f longname show) = refl
  are_43 (layer.Block line name longname body) = refl
  are_43 (layer.IncludeBlock line name) = refl
  are_43 (layer.Loop line k e body) = refl
  are_43 (layer.LoopCtrl line c) = refl
  are_43 (layer.Switch line e cases other) = refl
  are_43 (layer.If line e true_line so other) = refl
  are_43 (layer.Assign line name e) = refl
  are_43 (layer.Update line table validity keep hit keys row) =
      and_nothing (update_own kind.Numbers line table validity keep hit keys row) _
      ((λ i. over_nothing (λ (k : UpdateKey). at_line k.line false) keys (λ k. refl) i ++ over (value_lines db fields blocks kind.Numbers) (column_wants (columns table) row))
      ∙ over_nothing (λ (w : Option Ty × UpdateValue). at_line w.1.line false) (column_wants (columns table) row) (λ w. refl))
  are_43 (layer.NextProto line e) = refl

  pub are_47 : (x : ElementOf Lines) → own_of db fields blocks kind.Tables x ≡ own_47 db x
  are_47 (layer.Field line name f longname show) = ap (at_line line) (form_47 f)
  are_47 (layer.Block line name longname body) = refl
  are_47 (layer.IncludeBlock line name) = refl
  are_47 (layer.Loop line k e body) = refl
  are_47 (layer.LoopCtrl line c) = refl
  are_47 (layer.Switch line e cases other) = and_nothing (at_line line (has_wrong_arity db e)) _ (over_nothing (λ (c : CaseOf Lines). at_line c.line false) cases (λ c. refl))
  are_47 (layer.If line e true_line so other) = refl
  are_47 (layer.Assign line name e) = refl
  are_47 (layer.Update line table validity keep hit keys row) = ap (λ l. update_own kind.Tables line table validity keep hit keys row ++ (over (key_lines db fields blocks kind.Tables) keys ++ l)) (values_alone (has_wrong_arity db) (columns table) row)
  are_47 (layer.NextProto line e) = refl

-- the type that the value at a place of a row has to have, in front of those behind it
wants_at : (cs : List ColumnDecl) (i : ℕ) (v : UpdateValue) (vs : List UpdateValue) → column_wants (drop i cs) (v ∷ vs) ≡ (option_map (λ (c : ColumnDecl). c.ty) (slice_get cs i), v) ∷ column_wants (drop (suc i) cs) vs
wants_at [] zero v vs = refl
wants_at [] (suc i) v vs = refl
wants_at (c ∷ cs) zero v vs = refl
wants_at (c ∷ cs) (suc i) v vs = wants_at cs i v vs

pub wants_next : (f : Option Ty × UpdateValue → Lines) (why : Cause) (cs : List ColumnDecl) (vs : List UpdateValue) (i : ℕ) (v : UpdateValue) (wanted : Option Ty) (found one next whole : Option Fault) → i < length vs → v ≡ get_or vs i v → wanted ≡ option_map (λ (c : ColumnDecl). c.ty) (slice_get cs i) → one ≡ first why (f (wanted, v)) → next ≡ earlier found one
    → earlier found (first why (over f (column_wants (drop i cs) (drop i vs)))) ≡ whole → earlier next (first why (over f (column_wants (drop (i + 1) cs) (drop (i + 1) vs)))) ≡ whole
wants_next f why cs vs i v wanted found one next whole h e w o n k =
    let rest : Lines = over f (column_wants (drop (i + 1) cs) (drop (i + 1) vs)) in
    let more : suc i ≡ i + 1 = omega arith in
    let here : over f (column_wants (drop i cs) (drop i vs)) ≡ f (wanted, v) ++ rest =
    ap (λ l. over f (column_wants (drop i cs) l)) (at_drop_more (λ (l : List UpdateValue). l) vs i v h ∙ ap (λ y. y ∷ drop (i + 1) vs) (sym e))
    ∙ (ap (over f) (wants_at cs i v (drop (i + 1) vs))
    ∙ (λ j. f (sym w j, v) ++ over f (column_wants (drop (more j) cs) (drop (i + 1) vs)))) in
    ap (λ a. earlier a (first why rest)) (n ∙ ap (earlier found) o)
    ∙ (earlier_assoc found (first why (f (wanted, v))) (first why rest)
    ∙ (ap (earlier found) (sym (ap (first why) here ∙ first_append why (f (wanted, v)) rest)) ∙ k))

pub wants_end : (f : Option Ty × UpdateValue → Lines) (why : Cause) (cs : List ColumnDecl) (vs : List UpdateValue) (i : ℕ) (found whole : Option Fault) → length vs ≤ i → earlier found (first why (over f (column_wants (drop i cs) (drop i vs)))) ≡ whole → found ≡ whole
wants_end f why cs vs i found whole h w =
    sym (earlier_none found) ∙ (ap (earlier found) (sym (ap (first why) (at_drop_all (λ (l : List UpdateValue). over f (column_wants (drop i cs) l)) vs i h ∙ ap (over f) (wants_none (drop i cs))))) ∙ w)
  where
    wants_none : (cs : List ColumnDecl) → column_wants cs [] ≡ []
    wants_none [] = refl
    wants_none (c ∷ cs) = refl

-- a switch with its cases
module _ (db : Database) (fields blocks : List Text) (k : Kind) where
  abbrev own : ElementOf Lines → Lines
  own = own_of db fields blocks k

  cases_own : (cs : List Case) → over (λ (c : CaseOf Lines). at_line c.line (case_fails k c.value c.maxvalue)) (map (fold_case Lines (λ y. own y ++ inside y)) cs) ≡ over (λ (c : Case). at_line c.line (case_fails k c.value c.maxvalue)) cs
  cases_own [] = refl
  cases_own (c ∷ cs) = ap (λ l. at_line c.line (case_fails k c.value c.maxvalue) ++ l) (cases_own cs)

  pub own_switch : (line : ℕ) (e : Expr) (cs : List Case) (other : Option Branch) → own_at own (element.Switch line e cs other) ≡ at_line line (fails db fields blocks k (Some Num) e) ++ over (λ (c : Case). at_line c.line (case_fails k c.value c.maxvalue)) cs
  own_switch line e cs other = ap (λ l. at_line line (fails db fields blocks k (Some Num) e) ++ l) (ap (over (λ (c : CaseOf Lines). at_line c.line (case_fails k c.value c.maxvalue))) (fold_case_list Lines (λ y. own y ++ inside y) cs) ∙ cases_own cs)
