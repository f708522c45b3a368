-- The faults of numbers: one that is out of its limits (43), and a bit field that isn't followed by its like (44).
use Rattle.std.specs.Prelude.{ℕ, ◌+◌, ◌%◌, ◌^◌, Bool, false, not, ◌||◌, ◌&&◌, nat_lt, nat_le, ◌==◌, List, [], ◌∷◌, ◌++◌, map, length, drop, Option, Some, None}
use Rattle.db_model.specs.declared.database.ColumnDecl.{ColumnDecl}
use Rattle.db_model.specs.declared.database.Database.{Database}
use Rattle.db_model.specs.declared.database.KeyDecl.{KeyDecl}
use Rattle.db_model.specs.declared.database.NamedBlock.{NamedBlock}
use Rattle.db_model.specs.declared.database.Protocol.{Protocol}
use Rattle.db_model.specs.declared.database.ShowTemplate.{ShowTemplate}
use Rattle.db_model.specs.declared.database.ShowType.{ShowType}
use Rattle.db_model.specs.declared.database.ShowType.TheVariants.{Hex, Dec, Ascii}
use Rattle.db_model.specs.declared.database.TableDecl.{TableDecl}
use Rattle.db_model.specs.declared.element.Element.{Element}
use Rattle.db_model.specs.declared.element.Element.TheOpen as layer
use Rattle.db_model.specs.declared.element.FieldForm.{FieldForm}
use Rattle.db_model.specs.declared.element.FieldForm.TheVariants as form
use Rattle.db_model.specs.declared.limits.TheConstants.{MOST_EXACT, MOST_EXACT_OVER_ALL, MOST_MASKED, MOST_KEY_SIZE, MOST_COLUMN_SIZE, MOST_FIXED, MOST_BIT_SIZE, MOST_TOKEN, LEAST_ALIGNMENT, MOST_ALIGNMENT, MOST_DECIMAL_GROUP, MOST_GROUP, MOST_PROTOCOLS, MOST_VARIABLES, MOST_TABLES, MOST_SHOW_TEMPLATES, MOST_SUM_TEMPLATES}
use Rattle.db_model.specs.Folds.{CaseOf, BranchOf, ElementOf, fold_element}
use Rattle.db_model.specs.Forms.{is_between}
use Rattle.db_model.specs.Lines.{Lines, over, over_option, at_line, lines_in}
use Rattle.db_model.specs.Numbering.{fields_in, blocks_in}

-- ---- limits

abbrev pub is_outside : ℕ → ℕ → ℕ → Bool
is_outside low high n = not (is_between low high n)

abbrev pub form_is_outside : FieldForm → Bool
form_is_outside (form.Fixed size) = is_outside 1 MOST_FIXED size
form_is_outside (form.Bit size mask) = is_outside 1 MOST_BIT_SIZE size || (mask == 0 || nat_le (256 ^ size) mask)
form_is_outside (form.Variable e) = false
form_is_outside (form.TokenEnded token) = is_outside 1 MOST_TOKEN (length token)
form_is_outside form.Line = false
form_is_outside (form.Padding align) = is_outside LEAST_ALIGNMENT MOST_ALIGNMENT align

abbrev pub is_zero : Option ℕ → Bool
is_zero None = false
is_zero (Some n) = n == 0

abbrev pub own_43 : ElementOf Lines → Lines
own_43 (layer.Field line name f longname show) = at_line line (form_is_outside f)
own_43 (layer.Block line name longname body) = []
own_43 (layer.IncludeBlock line name) = []
own_43 (layer.Loop line k e body) = []
own_43 (layer.LoopCtrl line c) = []
own_43 (layer.Switch line e cases other) = over (λ (c : CaseOf Lines). at_line c.line (nat_lt c.maxvalue c.value)) cases
own_43 (layer.If line e true_line so other) = []
own_43 (layer.Assign line name e) = []
own_43 (layer.Update line table validity keep hit keys row) = at_line line (is_zero keep || is_zero hit)
own_43 (layer.NextProto line e) = []

abbrev pub key_43 : KeyDecl → Lines
key_43 k = at_line k.line (is_outside 1 MOST_KEY_SIZE k.size)

abbrev pub size_is_outside : Option ℕ → Bool
size_is_outside None = false
size_is_outside (Some n) = is_outside 1 MOST_COLUMN_SIZE n

abbrev pub column_43 : ColumnDecl → Lines
column_43 c = at_line c.line (size_is_outside c.size)

-- tables with the exact entries of those before them
abbrev pub tables_43 : ℕ → List TableDecl → Lines
tables_43 before [] = []
tables_43 before (t ∷ ts) =
    at_line t.line (is_outside 1 MOST_EXACT t.exact_entries || (nat_lt MOST_EXACT_OVER_ALL (before + t.exact_entries) || nat_lt MOST_MASKED t.mask_entries))
    ++ (over key_43 t.keys ++ (over column_43 t.columns ++ tables_43 (before + t.exact_entries) ts))

abbrev pub group_is_outside : ShowType → ℕ → Bool
group_is_outside Hex n = nat_lt MOST_GROUP n
group_is_outside Dec n = is_outside 1 MOST_DECIMAL_GROUP n
group_is_outside Ascii n = nat_lt MOST_GROUP n

abbrev pub template_43 : ShowTemplate → Lines
template_43 t = at_line t.line (group_is_outside t.show_type t.group)

-- the line of the first declaration too many
abbrev pub first_line : Lines → Lines
first_line [] = []
first_line (l ∷ ls) = l ∷ []

abbrev pub too_many : ℕ → Lines → Lines
too_many most lines = first_line (drop most lines)

-- fault 43: a number that is out of its limits
unfoldable pub fault_43 : Database → Lines
fault_43 db =
    tables_43 0 db.tables
    ++ (over template_43 db.show_templates
    ++ (over (lines_in own_43) db.protocols
    ++ (too_many MOST_PROTOCOLS (map (λ d. d.line) db.protocols)
    ++ (too_many MOST_VARIABLES (map (λ d. d.line) db.variables)
    ++ (too_many MOST_TABLES (map (λ d. d.line) db.tables)
    ++ (too_many MOST_SHOW_TEMPLATES (map (λ d. d.line) db.show_templates)
    ++ too_many MOST_SUM_TEMPLATES (map (λ d. d.line) db.sum_templates)))))))

-- ---- bit fields in a row

-- an element of a list: its line, size and mask where it is a bit field, and the lines that are wrong inside it
pub record InRow : Type 0 where
  pub line : ℕ
  pub bit : Option (ℕ × ℕ)
  pub within : Lines

abbrev pub is_of_size : ℕ → Option (ℕ × ℕ) → Bool
is_of_size size None = false
is_of_size size (Some b) = b.0 == size

abbrev pub is_bit_of : ℕ → List InRow → Bool
is_bit_of size [] = false
is_bit_of size (x ∷ xs) = is_of_size size x.bit

-- a bit field whose mask has bit 0 clear, with no bit field of its size right behind it
abbrev pub is_unfollowed : Option (ℕ × ℕ) → List InRow → Bool
is_unfollowed None rest = false
is_unfollowed (Some b) rest = b.1 % 2 == 0 && not (is_bit_of b.0 rest)

abbrev pub row_44 : List InRow → Lines
row_44 [] = []
row_44 (x ∷ xs) = at_line x.line (is_unfollowed x.bit xs) ++ (x.within ++ row_44 xs)

abbrev pub bit_by : FieldForm → Option (ℕ × ℕ)
bit_by (form.Fixed size) = None
bit_by (form.Bit size mask) = Some (size, mask)
bit_by (form.Variable e) = None
bit_by (form.TokenEnded token) = None
bit_by form.Line = None
bit_by (form.Padding align) = None

abbrev pub plain : ℕ → Lines → InRow
plain line within = record { line = line; bit = None; within = within }

abbrev pub in_row : ElementOf InRow → InRow
in_row (layer.Field line name f longname show) = record { line = line; bit = bit_by f; within = [] }
in_row (layer.Block line name longname body) = plain line (row_44 body)
in_row (layer.IncludeBlock line name) = plain line []
in_row (layer.Loop line k e body) = plain line (row_44 body)
in_row (layer.LoopCtrl line c) = plain line []
in_row (layer.Switch line e cases other) = plain line (over (λ (c : CaseOf InRow). row_44 c.body) cases ++ over_option (λ (b : BranchOf InRow). row_44 b.body) other)
in_row (layer.If line e true_line so other) = plain line (row_44 so ++ over_option (λ (b : BranchOf InRow). row_44 b.body) other)
in_row (layer.Assign line name e) = plain line []
in_row (layer.Update line table validity keep hit keys row) = plain line []
in_row (layer.NextProto line e) = plain line []

abbrev pub list_44 : List Element → Lines
list_44 xs = row_44 (map (fold_element InRow in_row) xs)

-- fault 44: a bit field whose mask has bit 0 clear, not followed at once, in its list, by a bit field of the same size
unfoldable pub fault_44 : Database → Lines
fault_44 db = over (λ (p : Protocol). list_44 (fields_in p.format) ++ over (λ (b : NamedBlock). list_44 b.body) (blocks_in p.format)) db.protocols
