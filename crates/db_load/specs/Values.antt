-- What the value of an attribute means. Each meaning is total: a value that is missing or hasn't its form, which is a fault, means some value of its kind.
use Rattle.std.specs.Prelude.{ℕ, Bool, false, ◌&&◌, ◌==◌, nat_le, if◌then◌else◌, List, [], ◌∷◌, length, bytes_eq, unwrap_or, Option, Some, None}
use Rattle.db_model.specs.declared.database.HeaderPart.{HeaderPart}
use Rattle.db_model.specs.declared.database.HeaderPart.TheVariants as header
use Rattle.db_model.specs.declared.database.ShowType.{ShowType}
use Rattle.db_model.specs.declared.database.ShowType.TheVariants as show
use Rattle.db_model.specs.declared.element.LoopControl.{LoopControl}
use Rattle.db_model.specs.declared.element.LoopControl.TheVariants as control
use Rattle.db_model.specs.declared.element.LoopKind.{LoopKind}
use Rattle.db_model.specs.declared.element.LoopKind.TheVariants as loop
use Rattle.db_model.specs.declared.entry.Validity.{Validity}
use Rattle.db_model.specs.declared.entry.Validity.TheVariants as validity
use Rattle.db_model.specs.declared.expression.Expr as expr
use Rattle.db_model.specs.declared.expression.Expr.{Expr}
use Rattle.db_model.specs.declared.expression.Literal.{Literal}
use Rattle.db_model.specs.declared.expression.Literal.TheVariants as literal
use Rattle.db_model.specs.declared.value.Ty.{Ty}
use Rattle.db_model.specs.declared.value.Ty.TheVariants as ty
use Rattle.db_model.specs.Forms.{is_text}
use Rattle.db_model.specs.Name.{is_name}
use Rattle.db_model.specs.Names.{Text}
use Rattle.db_load.specs.declared.word.Word.{Word}
use Rattle.db_load.specs.declared.word.Word.TheVariants as word
use Rattle.db_load.specs.Forms.{mask_of, is_section}
use Rattle.db_load.specs.Parsed.{literal_of, quoted_of}
use Rattle.expr_text.specs.Numbers.{number_of}
use Rattle.expr_text.specs.Parsed.{parsed}
use Rattle.db_load.specs.Words.{spelled}

-- ---- names and texts

-- the name that stands where none has its form
abbrev pub no_name : Text
no_name = 0x78 ∷ []

abbrev pub name_in : Text → Text
name_in t = if is_name t then t else no_name

abbrev pub name_by : Option Text → Text
name_by None = no_name
name_by (Some t) = name_in t

abbrev pub optional_name_by : Option Text → Option Text
optional_name_by None = None
optional_name_by (Some t) = if is_name t then Some t else None

abbrev pub variable_name_in : Text → Text
variable_name_in [] = no_name
variable_name_in (b ∷ name) = if b == 0x24 then name_in name else no_name

-- a variable's name without its `$`
abbrev pub variable_name_by : Option Text → Text
variable_name_by None = no_name
variable_name_by (Some t) = variable_name_in t

abbrev pub section_by : Option Text → Text
section_by None = no_name
section_by (Some t) = if is_section t then t else no_name

abbrev pub text_by : Option Text → Option Text
text_by None = None
text_by (Some t) = if is_text t then Some t else None

abbrev pub filled_by : Option Text → Text
filled_by t = unwrap_or (text_by t) []

abbrev pub separator_by : Option Text → Text
separator_by None = []
separator_by (Some t) = if is_text t && nat_le (length t) 8 then t else []

-- ---- numbers, masks and expressions

abbrev pub optional_number_by : Option Text → Option ℕ
optional_number_by None = None
optional_number_by (Some t) = number_of t

abbrev pub number_by : Option Text → ℕ
number_by t = unwrap_or (optional_number_by t) 0

abbrev pub mask_by : Option Text → Option (List ℕ)
mask_by None = None
mask_by (Some t) = mask_of t

abbrev pub expr_by : Option Text → Expr
expr_by None = expr.Number 0
expr_by (Some t) = unwrap_or (parsed t) (expr.Number 0)

abbrev pub literal_by : Option Text → Literal
literal_by None = literal.Number 0
literal_by (Some t) = unwrap_or (literal_of t) (literal.Number 0)

-- a token is written as one text in quotes
abbrev pub token_by : Option Text → List ℕ
token_by None = []
token_by (Some t) = unwrap_or (quoted_of t) []

-- ---- words

abbrev pub is_word : Option Text → Word → Bool
is_word None w = false
is_word (Some t) w = bytes_eq t (spelled w)

abbrev pub ty_by : Option Text → Ty
ty_by t = if is_word t word.Buf then ty.Buf else (if is_word t word.Proto then ty.Proto else ty.Num)

abbrev pub show_type_by : Option Text → ShowType
show_type_by t = if is_word t word.Dec then show.Dec else (if is_word t word.Ascii then show.Ascii else show.Hex)

abbrev pub header_part_by : Option Text → HeaderPart
header_part_by t = if is_word t word.Timestamp then header.Timestamp else (if is_word t word.Len then header.Len else header.Num)

abbrev pub loop_kind_by : Option Text → LoopKind
loop_kind_by t = if is_word t word.Count then loop.Count else (if is_word t word.While then loop.While else loop.Size)

abbrev pub loop_control_by : Option Text → LoopControl
loop_control_by t = if is_word t word.Continue then control.Continue else control.Break

abbrev pub validity_by : Option Text → Validity
validity_by t = if is_word t word.KeepMaxTime then validity.MaxTime else (if is_word t word.UpdateOnHit then validity.UpdateOnHit else (if is_word t word.AddOnHit then validity.AddOnHit else validity.Forever))
