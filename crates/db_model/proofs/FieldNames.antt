-- The names of the fields in an element, by its parts.
use Rattle.std.specs.Prelude.{◌≡◌, ℕ, ◌+◌, ◌<◌, Bool, true, false, ◌||◌, List, [], ◌∷◌, ◌++◌, map, length, drop, bytes_eq, Option, Some, None}
use Rattle.std.specs.Option.{option_map}
use Rattle.std.proofs.Common.{refl, sym, ap, ◌∙◌, append-nil, append_assoc}
use Rattle.std.proofs.Math.ListN.{get_or}
use Rattle.std.proofs.lemmas.List.{at_drop_more}
use Rattle.db_model.specs.declared.element.Branch.{Branch}
use Rattle.db_model.specs.declared.element.Case.{Case}
use Rattle.db_model.specs.declared.element.Element as element
use Rattle.db_model.specs.declared.element.Element.{Element}
use Rattle.std.proofs.lemmas.List.Folds.{list_any-append}
use Rattle.db_model.specs.declared.element.FieldForm.{FieldForm}
use Rattle.db_model.specs.declared.element.LoopControl.{LoopControl}
use Rattle.db_model.specs.declared.element.LoopKind.{LoopKind}
use Rattle.db_model.specs.declared.element.UpdateKey.{UpdateKey}
use Rattle.db_model.specs.declared.element.UpdateValue.{UpdateValue}
use Rattle.db_model.specs.declared.entry.Validity.{Validity}
use Rattle.db_model.specs.Typing.{is_among}
use Rattle.db_model.specs.declared.expression.Expr.{Expr}
use Rattle.db_model.specs.Names.{Text}
use Rattle.db_model.specs.Numbering.{all_names, case_names, branch_names, names_of, names_in, names_step}
use Rattle.db_model.proofs.Layers.{fold_block, fold_loop, fold_switch, fold_if, fold_case, fold_branch}
use Rattle.db_model.specs.FieldNames.{names_of_cases, names_of_other}

pub names_block : (line : ℕ) (name : Text) (longname : Option (List ℕ)) (body : List Element) → names_of (element.Block line name longname body) ≡ names_in body
unfolding names_of
names_block line name longname body = fold_block (List Text) names_step line name longname body

pub names_loop : (line : ℕ) (kind : LoopKind) (e : Expr) (body : List Element) → names_of (element.Loop line kind e body) ≡ names_in body
unfolding names_of
names_loop line kind e body = fold_loop (List Text) names_step line kind e body

cases_are : (cs : List Case) → case_names (map (fold_case (List Text) names_step) cs) ≡ names_of_cases cs
unfolding names_of
cases_are [] = refl
cases_are (c ∷ cs) = ap (λ l. names_in c.body ++ l) (cases_are cs)

other_is : (b : Option Branch) → branch_names (option_map (fold_branch (List Text) names_step) b) ≡ names_of_other b
unfolding names_of
other_is None = refl
other_is (Some b) = refl

pub names_switch : (line : ℕ) (e : Expr) (cs : List Case) (other : Option Branch) → names_of (element.Switch line e cs other) ≡ (names_of_cases cs ++ names_of_other other)
unfolding names_of
names_switch line e cs other = fold_switch (List Text) names_step line e cs other ∙ (λ i. cases_are cs i ++ other_is other i)

pub names_if : (line : ℕ) (e : Expr) (true_line : ℕ) (so : List Element) (other : Option Branch) → names_of (element.If line e true_line so other) ≡ (names_in so ++ names_of_other other)
unfolding names_of
names_if line e true_line so other = fold_if (List Text) names_step line e true_line so other ∙ ap (λ l. names_in so ++ l) (other_is other)

pub names_field : (line : ℕ) (name : Text) (form : FieldForm) (longname : Option (List ℕ)) (show : Option Text) → names_of (element.Field line name form longname show) ≡ (name ∷ [])
unfolding names_of
names_field line name form longname show = refl

pub names_include : (line : ℕ) (name : Text) → names_of (element.IncludeBlock line name) ≡ []
unfolding names_of
names_include line name = refl

pub names_control : (line : ℕ) (kind : LoopControl) → names_of (element.LoopCtrl line kind) ≡ []
unfolding names_of
names_control line kind = refl

pub names_assign : (line : ℕ) (name : Text) (value : Expr) → names_of (element.Assign line name value) ≡ []
unfolding names_of
names_assign line name value = refl

pub names_update : (line : ℕ) (table : Text) (validity : Validity) (keep hit : Option ℕ) (keys : List UpdateKey) (row : List UpdateValue) → names_of (element.Update line table validity keep hit keys row) ≡ []
unfolding names_of
names_update line table validity keep hit keys row = refl

pub names_next : (line : ℕ) (proto : Expr) → names_of (element.NextProto line proto) ≡ []
unfolding names_of
names_next line proto = refl

-- a name stands in one of two lists
pub among_either : (name : Text) (a b : List Text) → is_among name (a ++ b) ≡ (is_among name a || is_among name b)
among_either name a b = list_any-append (bytes_eq name) a b

pub among_one : (name own : Text) → is_among name (own ∷ []) ≡ bytes_eq name own
among_one name own = by (bytes_eq name own)
  where
    by : (b : Bool) → (b || false) ≡ b
    by true = refl
    by false = refl

pub here_is : (name : Text) (a b : List Text) → is_among name a ≡ true → is_among name (a ++ b) ≡ true
here_is name a b h = among_either name a b ∙ ap (λ x. x || is_among name b) h

pub there_is : (name : Text) (a b : List Text) → is_among name a ≡ false → is_among name (a ++ b) ≡ is_among name b
there_is name a b h = among_either name a b ∙ ap (λ x. x || is_among name b) h

pub empty_is : (name : Text) (x y : Element) → x ≡ y → names_of y ≡ [] → false ≡ is_among name (names_of x)
empty_is name x y e h = sym (ap (λ l. is_among name l) (ap names_of e ∙ h))

-- the names of an element that is another
pub names_are : (x y : Element) (l : List Text) → x ≡ y → names_of y ≡ l → l ≡ names_of x
names_are x y l e h = sym (ap names_of e ∙ h)

pub none_behind : (have : List Text) (x y : Element) → x ≡ y → names_of y ≡ [] → have ≡ have ++ names_of x
none_behind have x y e h = sym (append-nil have) ∙ ap (λ l. have ++ l) (names_are x y [] e h)

-- two lists behind what was there
pub both_behind : (have more a b l : List Text) → more ≡ have ++ a → a ++ b ≡ l → more ++ b ≡ have ++ l
both_behind have more a b l e h = ap (λ m. m ++ b) e ∙ append_assoc have a b ∙ ap (λ m. have ++ m) h

-- a walk over parts that have names: what is there, with the names of the parts that are left
pub walk_on : {X : Type 0} (f : X → List Text) (xs : List X) (i : ℕ) (d : X) (have more all : List Text) → i < length xs → d ≡ get_or xs i d → have ++ all_names (map f (drop i xs)) ≡ all → more ≡ have ++ f d → more ++ all_names (map f (drop (i + 1) xs)) ≡ all
walk_on f xs i d have more all within e h g =
    both_behind have more (f d) (all_names (map f (drop (i + 1) xs))) (f (get_or xs i d) ++ all_names (map f (drop (i + 1) xs))) g (ap (λ y. f y ++ all_names (map f (drop (i + 1) xs))) e)
    ∙ ap (λ l. have ++ l) (sym (at_drop_more (λ l. all_names (map f l)) xs i d within)) ∙ h
