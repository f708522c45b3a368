-- The operations of an element do what the element does, wherever they stand, where its numbers are in their limits and the operations of each included block do what that does.
use Rattle.std.specs.Prelude.{◌≡◌, ℕ, Bool, true, false, not, ◌||◌, ◌&&◌, if◌then◌else◌, nat_le, nat_lt, ◌^◌, ◌==◌, List, [], ◌∷◌, ◌++◌, slice_get, Option}
use Rattle.std.proofs.Common.{refl, sym, ap, subst}
use Rattle.db_model.specs.declared.database.Database.{Database}
use Rattle.db_model.specs.declared.element.Element as element
use Rattle.db_model.specs.declared.element.Element.{Element, Row_of-Element, end_of-Element, more_of-Element, Row_of-Case, end_of-Case, more_of-Case, Held-Element-Switch-3, None', Some'}
use Rattle.db_model.specs.declared.element.FieldForm.{FieldForm}
use Rattle.db_model.specs.declared.element.FieldForm.TheVariants as form
use Rattle.db_model.specs.BlockFaults.{includes_step, includes_of, includes_in}
use Rattle.db_model.specs.Elements.{field, does, means, parts, total, each, or_next, choose, Part}
use Rattle.db_model.specs.Extent.{kind_of}
use Rattle.db_model.specs.Folds.{CaseOf, BranchOf, ElementOf, fold_row, fold_cases, fold_held, noted_row, noted_cases, noted_held}
use Rattle.db_model.specs.Forms.{is_between}
use Rattle.db_model.specs.Lines.{Lines, joined, over, over_option, at_line, inside, lines_of}
use Rattle.db_model.specs.Names.{Text, variable_at, table_at}
use Rattle.db_model.specs.NumberFaults.{own_43, form_is_outside}
use Rattle.db_model.specs.Numbering.{Counts, plus, a_block, names_of_protocol, counts_of, all_names, case_names, branch_names}
use Rattle.db_model.specs.Expression as value
use Rattle.db_model.specs.Expression.{is_so}
use Rattle.db_model.specs.Runs.{Run, next, leave, evaluated, place_field}
use Rattle.db_model.specs.declared.env.Way.TheVariants.{Chose}
use Rattle.db_model.specs.declared.field_kind.FieldKind.TheVariants.{Variable}
use Rattle.db_model.specs.declared.limits.TheConstants.{MOST_BIT_SIZE, LEAST_ALIGNMENT, MOST_ALIGNMENT}
use Rattle.db_model.proofs.Accepted.{append_front, append_back}
use Rattle.db_laws.proofs.Includes.{Each, line_none}
use Rattle.pdl_code.specs.declared.code.Op.TheVariants.{Field, SizedField, Assign, Update, NextProto, Leave, Loop}
use Rattle.pdl_code.specs.declared.code.ProtoCode.{ProtoCode}
use Rattle.pdl_code.specs.Coding.{Ops, Coded, all_in, codes, other_codes, around, resolved, update_code, is_sound, field_op, field_code, include_of, coded, code_of, codes_in}
use Rattle.pdl_code.specs.Does.{number, set_variable, loop_by, act}
use Rattle.pdl_code.proofs.Expressions.{same_value, same_number, same_loop, same_added}
use Rattle.pdl_code.proofs.Choices.{CasesDo, OtherDoes, one_switch}
use Rattle.pdl_code.proofs.Pieces.{Piece, nothing, one_then, one_plain, one_block, one_loop, one_test}

each_front : (P : Text → Type 0) (ms ns : List Text) → Each P (ms ++ ns) → Each P ms
each_front P [] ns h = tt
each_front P (m ∷ ms) ns h = (h.0, each_front P ms ns h.1)

each_back : (P : Text → Type 0) (ms ns : List Text) → Each P (ms ++ ns) → Each P ns
each_back P [] ns h = h
each_back P (m ∷ ms) ns h = each_back P ms ns h.1

-- a field whose numbers are in their limits can be read
is_inside : (b : Bool) → not b ≡ false → b ≡ true
is_inside true e = refl
is_inside false e = (cc)

bit_inside : (a b c : Bool) → (not a || (b || c)) ≡ false → (a && not b) ≡ true
bit_inside true true c e = (cc)
bit_inside true false c e = refl
bit_inside false b c e = (cc)

sound : (f : FieldForm) → form_is_outside f ≡ false → is_sound f ≡ true
sound (form.Fixed s) e = refl
sound (form.Bit s mask) e = bit_inside (is_between 1 MOST_BIT_SIZE s) (mask == 0) (nat_le (256 ^ s) mask) e
sound (form.Variable e) k = refl
sound (form.TokenEnded token) e = refl
sound form.Line e = refl
sound (form.Padding align) e = is_inside (is_between LEAST_ALIGNMENT MOST_ALIGNMENT align) e

-- the lines of the numbers that are out of their limits
abbrev step_43 : ElementOf Lines → Lines
step_43 l = own_43 l ++ inside l

-- the operations of an included block do what it does
abbrev pub Included : Database → ℕ → ProtoCode → (Text → Run) → Text → Type 0
Included db q code include name = Piece db code (include_of db q name) (include name)

module _ (db : Database) (q : ℕ) (fields : List Text) (named : names_of_protocol db q ≡ fields) (code : ProtoCode) (include : Text → Run) where
  abbrev row_codes : {m : _} → Row_of-Element m → List Coded
  row_codes xs = noted_row Counts counts_of (Counts → Ops) (coded db q) xs

  abbrev row_parts : {m : _} → Row_of-Element m → List Part
  row_parts xs = noted_row Counts counts_of (Counts → Run) (does db fields include) xs

  abbrev cases_codes : {m : _} → Row_of-Case m → List (CaseOf Coded)
  cases_codes xs = noted_cases Counts counts_of (Counts → Ops) (coded db q) xs

  abbrev cases_parts : {m : _} → Row_of-Case m → List (CaseOf Part)
  cases_parts xs = noted_cases Counts counts_of (Counts → Run) (does db fields include) xs

  abbrev held_codes : Held-Element-Switch-3 → Option (BranchOf Coded)
  held_codes x = noted_held Counts counts_of (Counts → Ops) (coded db q) x

  abbrev held_parts : Held-Element-Switch-3 → Option (BranchOf Part)
  held_parts x = noted_held Counts counts_of (Counts → Run) (does db fields include) x

  -- they have as many fields and blocks
  same_total : {m : _} (xs : Row_of-Element m) → all_in (row_codes xs) ≡ total (row_parts xs)
  same_total end_of-Element = refl
  same_total (more_of-Element x rest) = ap (λ n. plus (counts_of x) n) (same_total rest)

  -- operations do a run under another name
  as_run : (ops : Ops) (p r : Run) → p ≡ r → Piece db code ops p → Piece db code ops r
  as_run ops p r e x = subst (λ y. Piece db code ops y) e x

  a_field : (f : FieldForm) (n : ℕ) → Piece db code (field_op db q f n ∷ []) (field db fields f n)
  a_field (form.Fixed s) n = one_plain db code (Field n (kind_of (form.Fixed s))) tt
  a_field (form.Bit s mask) n = one_plain db code (Field n (kind_of (form.Bit s mask))) tt
  a_field (form.Variable e) n = as_run (SizedField n (resolved db q e) ∷ []) (act db (SizedField n (resolved db q e))) (field db fields (form.Variable e) n) (ap (λ p. evaluated p (place_field Variable n)) (same_number db q fields named e)) (one_plain db code (SizedField n (resolved db q e)) tt)
  a_field (form.TokenEnded token) n = one_plain db code (Field n (kind_of (form.TokenEnded token))) tt
  a_field form.Line n = one_plain db code (Field n (kind_of form.Line)) tt
  a_field (form.Padding align) n = one_plain db code (Field n (kind_of (form.Padding align))) tt

  one_field : (line : ℕ) (f : FieldForm) (n : ℕ) → at_line line (form_is_outside f) ++ [] ≡ [] → Piece db code (field_code db q f n) (field db fields f n)
  one_field line f n k =
      let e : is_sound f ≡ true = sound f (line_none line (form_is_outside f) (append_front (at_line line (form_is_outside f)) [] k)) in
      subst (λ (b : Bool). Piece db code (if b then field_op db q f n ∷ [] else []) (field db fields f n)) (sym e) (a_field f n)

  mutual
    unfolding means code_of

    pub of_element : (x : Element) → Each (Included db q code include) (includes_of x) → lines_of own_43 x ≡ [] → (at : Counts) → Piece db code (code_of db q x at) (means db fields include x at)
    of_element (element.Field line name f longname show) h k at = one_field line f at.fields k
    of_element (element.Block' line name longname s body) h k at = one_block db code at.blocks (codes (row_codes body) (plus at a_block)) (each (row_parts body) (plus at a_block)) (of_row body h k (plus at a_block))
    of_element (element.IncludeBlock line name) h k at = h.0
    of_element (element.Loop' line kind e s body) h k at =
        as_run (around (Loop kind (resolved db q e)) (codes (row_codes body) at)) (loop_by db kind (resolved db q e) (each (row_parts body) at)) (means db fields include (element.Loop' line kind e s body) at) (same_loop db q fields named kind e (each (row_parts body) at))
        (one_loop db code kind (resolved db q e) (codes (row_codes body) at) (each (row_parts body) at) (of_row body h k at))
    of_element (element.LoopCtrl line kind) h k at = one_plain db code (Leave kind) tt
    of_element (element.Switch' line e s cases other) h k at =
        let front = case_names (fold_cases (List Text) includes_step cases) in
        let back = branch_names (fold_held (List Text) includes_step other) in
        let in_cases : Lines = over (λ (c : CaseOf Lines). joined c.body) (fold_cases Lines step_43 cases) in
        let in_other : Lines = over_option (λ (b : BranchOf Lines). joined b.body) (fold_held Lines step_43 other) in
        let own : Lines = over (λ (c : CaseOf Lines). at_line c.line (nat_lt c.maxvalue c.value)) (fold_cases Lines step_43 cases) in
        let within : in_cases ++ in_other ≡ [] = append_back own (in_cases ++ in_other) k in
        as_run (code_of db q (element.Switch' line e s cases other) at) (evaluated (number db (resolved db q e)) (λ v. choose v (cases_parts cases) (held_parts other) at)) (means db fields include (element.Switch' line e s cases other) at) (ap (λ p. evaluated p (λ v. choose v (cases_parts cases) (held_parts other) at)) (same_number db q fields named e))
        (one_switch db code (resolved db q e) (cases_codes cases) (cases_parts cases) (held_codes other) (held_parts other) (of_cases cases (each_front (Included db q code include) front back h) (append_front in_cases in_other within)) (of_held other (each_back (Included db q code include) front back h) (append_back in_cases in_other within)) at)
    of_element (element.If' line e true_line s body other) h k at =
        let front = all_names (fold_row (List Text) includes_step body) in
        let back = branch_names (fold_held (List Text) includes_step other) in
        let in_body : Lines = joined (fold_row Lines step_43 body) in
        let in_other : Lines = over_option (λ (b : BranchOf Lines). joined b.body) (fold_held Lines step_43 other) in
        let second : Piece db code (other_codes (held_codes other) (plus at (all_in (row_codes body)))) (or_next (held_parts other) (plus at (total (row_parts body)))) =
        subst (λ n. Piece db code (other_codes (held_codes other) (plus at (all_in (row_codes body)))) (or_next (held_parts other) (plus at n))) (same_total body) (of_held other (each_back (Included db q code include) front back h) (append_back in_body in_other k) (plus at (all_in (row_codes body)))) in
        as_run (code_of db q (element.If' line e true_line s body other) at) (evaluated (number db (resolved db q e)) (λ v. if is_so v then each (row_parts body) at else or_next (held_parts other) (plus at (total (row_parts body))))) (means db fields include (element.If' line e true_line s body other) at) (ap (λ p. evaluated p (λ v. if is_so v then each (row_parts body) at else or_next (held_parts other) (plus at (total (row_parts body))))) (same_number db q fields named e))
        (one_test db code (resolved db q e) (codes (row_codes body) at) (other_codes (held_codes other) (plus at (all_in (row_codes body)))) (each (row_parts body) at) (or_next (held_parts other) (plus at (total (row_parts body)))) (of_row body (each_front (Included db q code include) front back h) (append_front in_body in_other k) at) second)
    of_element (element.Assign line name value) h k at =
        as_run (Assign (variable_at db name) (resolved db q value) ∷ []) (act db (Assign (variable_at db name) (resolved db q value))) (means db fields include (element.Assign line name value) at) (ap (λ p. evaluated p (set_variable (variable_at db name))) (same_value db q fields named value))
        (one_plain db code (Assign (variable_at db name) (resolved db q value)) tt)
    of_element (element.Update line table validity keep hit keys row) h k at =
        as_run (Update (update_code db q table validity keep hit keys row) ∷ []) (act db (Update (update_code db q table validity keep hit keys row))) (means db fields include (element.Update line table validity keep hit keys row) at) (ap (λ p. evaluated p (λ a. next)) (same_added db q fields named (slice_get db.tables (table_at db table)) table validity keep hit keys row))
        (one_plain db code (Update (update_code db q table validity keep hit keys row)) tt)
    of_element (element.NextProto line proto) h k at =
        as_run (NextProto (resolved db q proto) ∷ []) (act db (NextProto (resolved db q proto))) (means db fields include (element.NextProto line proto) at) (ap (λ p. evaluated p (λ v. leave (Chose (value.proto v)))) (same_value db q fields named proto))
        (one_plain db code (NextProto (resolved db q proto)) tt)

    of_row : {m : _} (xs : Row_of-Element m) → Each (Included db q code include) (all_names (fold_row (List Text) includes_step xs)) → joined (fold_row Lines step_43 xs) ≡ [] → (at : Counts) → Piece db code (codes (row_codes xs) at) (each (row_parts xs) at)
    of_row end_of-Element h k at = nothing db code
    of_row (more_of-Element x rest) h k at =
        let back = all_names (fold_row (List Text) includes_step rest) in
        let later : Lines = joined (fold_row Lines step_43 rest) in
        one_then db code (code_of db q x at) (codes (row_codes rest) (plus at (counts_of x))) (means db fields include x at) (each (row_parts rest) (plus at (counts_of x)))
        (of_element x (each_front (Included db q code include) (includes_of x) back h) (append_front (lines_of own_43 x) later k) at) (of_row rest (each_back (Included db q code include) (includes_of x) back h) (append_back (lines_of own_43 x) later k) (plus at (counts_of x)))

    of_cases : {m : _} (xs : Row_of-Case m) → Each (Included db q code include) (case_names (fold_cases (List Text) includes_step xs)) → over (λ (c : CaseOf Lines). joined c.body) (fold_cases Lines step_43 xs) ≡ [] → CasesDo db code (cases_codes xs) (cases_parts xs)
    of_cases end_of-Case h k = tt
    of_cases (more_of-Case line value maxvalue s body rest) h k =
        let front = all_names (fold_row (List Text) includes_step body) in
        let back = case_names (fold_cases (List Text) includes_step rest) in
        let in_body : Lines = joined (fold_row Lines step_43 body) in
        let later : Lines = over (λ (c : CaseOf Lines). joined c.body) (fold_cases Lines step_43 rest) in
        (record { value = refl; maxvalue = refl; has = same_total body; body = λ at. of_row body (each_front (Included db q code include) front back h) (append_front in_body later k) at }, of_cases rest (each_back (Included db q code include) front back h) (append_back in_body later k))

    of_held : (x : Held-Element-Switch-3) → Each (Included db q code include) (branch_names (fold_held (List Text) includes_step x)) → over_option (λ (b : BranchOf Lines). joined b.body) (fold_held Lines step_43 x) ≡ [] → OtherDoes db code (held_codes x) (held_parts x)
    of_held None' h k at = nothing db code
    of_held (Some' line s body) h k at = of_row body h k at

  -- a list
  pub of_list : (xs : List Element) → Each (Included db q code include) (includes_in xs) → over (lines_of own_43) xs ≡ [] → (at : Counts) → Piece db code (codes_in db q xs at) (each (parts db fields include xs) at)
  of_list [] h k at = nothing db code
  of_list (x ∷ xs) h k at =
      one_then db code (code_of db q x at) (codes_in db q xs (plus at (counts_of x))) (means db fields include x at) (each (parts db fields include xs) (plus at (counts_of x)))
      (of_element x (each_front (Included db q code include) (includes_of x) (includes_in xs) h) (append_front (lines_of own_43 x) (over (lines_of own_43) xs) k) at) (of_list xs (each_back (Included db q code include) (includes_of x) (includes_in xs) h) (append_back (lines_of own_43 x) (over (lines_of own_43) xs) k) (plus at (counts_of x)))
