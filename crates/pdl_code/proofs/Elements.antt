-- An element by its parts: its counts and its operations.
use Rattle.std.specs.Prelude.{◌≡◌, ℕ, ◌+◌, List, [], ◌∷◌, map, Option, Some, None}
use Rattle.std.specs.Option.{option_map}
use Rattle.std.proofs.Common.{refl, sym, ap, ◌∙◌, arith}
use Rattle.db_model.specs.declared.database.Database.{Database}
use Rattle.db_model.specs.declared.element.Branch.{Branch}
use Rattle.db_model.specs.declared.element.Case.{Case}
use Rattle.db_model.specs.declared.element.Element as element
use Rattle.db_model.specs.declared.element.Element.{Element}
use Rattle.db_model.specs.declared.element.FieldForm.{FieldForm}
use Rattle.db_model.specs.declared.element.LoopControl.{LoopControl}
use Rattle.db_model.specs.declared.element.LoopKind.{LoopKind}
use Rattle.db_model.specs.declared.element.UpdateKey.{UpdateKey}
use Rattle.db_model.specs.declared.element.UpdateValue.{UpdateValue}
use Rattle.db_model.specs.declared.entry.Validity.{Validity}
use Rattle.db_model.specs.declared.expression.Expr.{Expr}
use Rattle.db_model.specs.Names.{Text, variable_at}
use Rattle.db_model.specs.Numbering.{Counts, none, plus, a_field, a_block, case_counts, branch_counts, counts_step, counts_of, counts_in}
use Rattle.db_model.proofs.Layers.{fold_block, fold_loop, fold_switch, fold_if, fold_case, fold_branch, noted_block, noted_loop, noted_switch, noted_if, noted_case, noted_branch}
use Rattle.pdl_code.specs.declared.code.Op.TheVariants.{Assign, Update, NextProto, Leave, Block, Loop}
use Rattle.pdl_code.specs.Coding.{Ops, all_in, other_codes, around, if_code, switch_code, range_of, case_codes, behind_cases, resolved, update_code, field_code, include_of, coded, code_of, coded_parts, codes_in}
use Rattle.pdl_code.specs.Parts.{case_range, counts_in_cases, counts_in_other, codes_in_cases, codes_in_other}

pub plus_none : (a : Counts) → plus a none ≡ a
plus_none a = let f : a.fields + 0 ≡ a.fields = omega arith in let b : a.blocks + 0 ≡ a.blocks = omega arith in λ i. record { fields = f i; blocks = b i }

pub none_plus : (a : Counts) → plus none a ≡ a
none_plus a = let f : 0 + a.fields ≡ a.fields = omega arith in let b : 0 + a.blocks ≡ a.blocks = omega arith in λ i. record { fields = f i; blocks = b i }

pub plus_assoc : (a b c : Counts) → plus (plus a b) c ≡ plus a (plus b c)
plus_assoc a b c =
    let f : a.fields + b.fields + c.fields ≡ a.fields + (b.fields + c.fields) = omega arith in
    let g : a.blocks + b.blocks + c.blocks ≡ a.blocks + (b.blocks + c.blocks) = omega arith in
    λ i. record { fields = f i; blocks = g i }

-- ---- counts

pub counts_field : (line : ℕ) (name : Text) (f : FieldForm) (longname : Option (List ℕ)) (show : Option Text) → counts_of (element.Field line name f longname show) ≡ a_field
unfolding counts_of
counts_field line name f longname show = refl

pub counts_block : (line : ℕ) (name : Text) (longname : Option (List ℕ)) (body : List Element) → counts_of (element.Block line name longname body) ≡ plus a_block (counts_in body)
unfolding counts_of
counts_block line name longname body = fold_block Counts counts_step line name longname body

pub counts_include : (line : ℕ) (name : Text) → counts_of (element.IncludeBlock line name) ≡ none
unfolding counts_of
counts_include line name = refl

pub counts_loop : (line : ℕ) (kind : LoopKind) (e : Expr) (body : List Element) → counts_of (element.Loop line kind e body) ≡ counts_in body
unfolding counts_of
counts_loop line kind e body = fold_loop Counts counts_step line kind e body

pub counts_control : (line : ℕ) (kind : LoopControl) → counts_of (element.LoopCtrl line kind) ≡ none
unfolding counts_of
counts_control line kind = refl

cases_counted : (cs : List Case) → case_counts (map (fold_case Counts counts_step) cs) ≡ counts_in_cases cs
unfolding counts_of
cases_counted [] = refl
cases_counted (c ∷ cs) = ap (λ n. plus (counts_in c.body) n) (cases_counted cs)

other_counted : (b : Option Branch) → branch_counts (option_map (fold_branch Counts counts_step) b) ≡ counts_in_other b
unfolding counts_of
other_counted None = refl
other_counted (Some b) = refl

pub counts_switch : (line : ℕ) (e : Expr) (cs : List Case) (other : Option Branch) → counts_of (element.Switch line e cs other) ≡ plus (counts_in_cases cs) (counts_in_other other)
unfolding counts_of
counts_switch line e cs other = fold_switch Counts counts_step line e cs other ∙ (λ i. plus (cases_counted cs i) (other_counted other i))

pub counts_if : (line : ℕ) (e : Expr) (true_line : ℕ) (so : List Element) (other : Option Branch) → counts_of (element.If line e true_line so other) ≡ plus (counts_in so) (counts_in_other other)
unfolding counts_of
counts_if line e true_line so other = fold_if Counts counts_step line e true_line so other ∙ ap (λ n. plus (counts_in so) n) (other_counted other)

pub counts_assign : (line : ℕ) (name : Text) (value : Expr) → counts_of (element.Assign line name value) ≡ none
unfolding counts_of
counts_assign line name value = refl

pub counts_update : (line : ℕ) (table : Text) (validity : Validity) (keep hit : Option ℕ) (keys : List UpdateKey) (row : List UpdateValue) → counts_of (element.Update line table validity keep hit keys row) ≡ none
unfolding counts_of
counts_update line table validity keep hit keys row = refl

pub counts_next : (line : ℕ) (proto : Expr) → counts_of (element.NextProto line proto) ≡ none
unfolding counts_of
counts_next line proto = refl

-- ---- operations

module _ (db : Database) (q : ℕ) where
  all_counted : (xs : List Element) → all_in (coded_parts db q xs) ≡ counts_in xs
  all_counted [] = refl
  all_counted (x ∷ xs) = ap (λ n. plus (counts_of x) n) (all_counted xs)

  pub code_field : (line : ℕ) (name : Text) (f : FieldForm) (longname : Option (List ℕ)) (show : Option Text) → code_of db q (element.Field line name f longname show) ≡ (λ at. field_code db q f at.fields)
  unfolding code_of
  code_field line name f longname show = refl

  pub code_block : (line : ℕ) (name : Text) (longname : Option (List ℕ)) (body : List Element) → code_of db q (element.Block line name longname body) ≡ (λ at. around (Block at.blocks) (codes_in db q body (plus at a_block)))
  unfolding code_of
  code_block line name longname body = noted_block Counts counts_of (Counts → Ops) (coded db q) line name longname body

  pub code_include : (line : ℕ) (name : Text) → code_of db q (element.IncludeBlock line name) ≡ (λ at. include_of db q name)
  unfolding code_of
  code_include line name = refl

  pub code_loop : (line : ℕ) (kind : LoopKind) (e : Expr) (body : List Element) → code_of db q (element.Loop line kind e body) ≡ (λ at. around (Loop kind (resolved db q e)) (codes_in db q body at))
  unfolding code_of
  code_loop line kind e body = noted_loop Counts counts_of (Counts → Ops) (coded db q) line kind e body

  pub code_control : (line : ℕ) (kind : LoopControl) → code_of db q (element.LoopCtrl line kind) ≡ (λ at. Leave kind ∷ [])
  unfolding code_of
  code_control line kind = refl

  ranges_are : (cs : List Case) → map range_of (map (noted_case Counts counts_of (Counts → Ops) (coded db q)) cs) ≡ map case_range cs
  ranges_are [] = refl
  ranges_are (c ∷ cs) = ap (λ l. case_range c ∷ l) (ranges_are cs)

  cases_are : (cs : List Case) (at : Counts) → case_codes (map (noted_case Counts counts_of (Counts → Ops) (coded db q)) cs) at ≡ codes_in_cases db q cs at
  unfolding code_of
  cases_are [] at = refl
  cases_are (c ∷ cs) at =
      ap (λ n. codes_in db q c.body at ∷ case_codes (map (noted_case Counts counts_of (Counts → Ops) (coded db q)) cs) (plus at n)) (all_counted c.body)
      ∙ ap (λ l. codes_in db q c.body at ∷ l) (cases_are cs (plus at (counts_in c.body)))

  behind_are : (cs : List Case) (at : Counts) → behind_cases (map (noted_case Counts counts_of (Counts → Ops) (coded db q)) cs) at ≡ plus at (counts_in_cases cs)
  unfolding code_of
  behind_are [] at = sym (plus_none at)
  behind_are (c ∷ cs) at =
      ap (λ n. behind_cases (map (noted_case Counts counts_of (Counts → Ops) (coded db q)) cs) (plus at n)) (all_counted c.body)
      ∙ behind_are cs (plus at (counts_in c.body))
      ∙ plus_assoc at (counts_in c.body) (counts_in_cases cs)

  other_is : (b : Option Branch) (at : Counts) → other_codes (option_map (noted_branch Counts counts_of (Counts → Ops) (coded db q)) b) at ≡ codes_in_other db q b at
  unfolding code_of
  other_is None at = refl
  other_is (Some b) at = refl

  pub code_switch : (line : ℕ) (e : Expr) (cs : List Case) (other : Option Branch) → code_of db q (element.Switch line e cs other) ≡ (λ at. switch_code (resolved db q e) (map case_range cs) (codes_in_cases db q cs at) (codes_in_other db q other (plus at (counts_in_cases cs))))
  unfolding code_of
  code_switch line e cs other =
      let there : (at : Counts) → other_codes (option_map (noted_branch Counts counts_of (Counts → Ops) (coded db q)) other) (behind_cases (map (noted_case Counts counts_of (Counts → Ops) (coded db q)) cs) at) ≡ codes_in_other db q other (plus at (counts_in_cases cs)) = λ at. ap (λ n. other_codes (option_map (noted_branch Counts counts_of (Counts → Ops) (coded db q)) other) n) (behind_are cs at) ∙ other_is other (plus at (counts_in_cases cs)) in
      noted_switch Counts counts_of (Counts → Ops) (coded db q) line e cs other
      ∙ (λ i at. switch_code (resolved db q e) (ranges_are cs i) (cases_are cs at i) (there at i))

  pub code_if : (line : ℕ) (e : Expr) (true_line : ℕ) (so : List Element) (other : Option Branch) → code_of db q (element.If line e true_line so other) ≡ (λ at. if_code (resolved db q e) (codes_in db q so at) (codes_in_other db q other (plus at (counts_in so))))
  unfolding code_of
  code_if line e true_line so other =
      let there : (at : Counts) → other_codes (option_map (noted_branch Counts counts_of (Counts → Ops) (coded db q)) other) (plus at (all_in (coded_parts db q so))) ≡ codes_in_other db q other (plus at (counts_in so)) = λ at. ap (λ n. other_codes (option_map (noted_branch Counts counts_of (Counts → Ops) (coded db q)) other) (plus at n)) (all_counted so) ∙ other_is other (plus at (counts_in so)) in
      noted_if Counts counts_of (Counts → Ops) (coded db q) line e true_line so other
      ∙ (λ i at. if_code (resolved db q e) (codes_in db q so at) (there at i))

  pub code_assign : (line : ℕ) (name : Text) (value : Expr) → code_of db q (element.Assign line name value) ≡ (λ at. Assign (variable_at db name) (resolved db q value) ∷ [])
  unfolding code_of
  code_assign line name value = refl

  pub code_update : (line : ℕ) (table : Text) (validity : Validity) (keep hit : Option ℕ) (keys : List UpdateKey) (row : List UpdateValue) → code_of db q (element.Update line table validity keep hit keys row) ≡ (λ at. Update (update_code db q table validity keep hit keys row) ∷ [])
  unfolding code_of
  code_update line table validity keep hit keys row = refl

  pub code_next : (line : ℕ) (proto : Expr) → code_of db q (element.NextProto line proto) ≡ (λ at. NextProto (resolved db q proto) ∷ [])
  unfolding code_of
  code_next line proto = refl
