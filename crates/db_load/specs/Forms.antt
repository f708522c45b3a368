-- The forms of the values of attributes.
use Rattle.std.specs.Prelude.{ℕ, Bool, true, false, ◌&&◌, if◌then◌else◌, nat_le, nat_lt, ◌==◌, List, [], ◌∷◌, take, length, bytes_eq, is_some, Option, Some, None, Result, Ok, Err}
use Rattle.hex.specs.Hex.{decode_of}
use Rattle.hex.specs.declared.error.FromHexError.{FromHexError}
use Rattle.db_model.specs.Forms.{is_text}
use Rattle.db_model.specs.Name.{is_name}
use Rattle.db_model.specs.Names.{Text}
use Rattle.db_load.specs.declared.rule.Form.{Form}
use Rattle.db_load.specs.declared.rule.Form.TheVariants as form
use Rattle.db_load.specs.declared.word.Word.{Word}
use Rattle.db_load.specs.declared.word.Word.TheVariants as word
use Rattle.db_load.specs.Parsed.{literal_of, quoted_of}
use Rattle.expr_text.specs.Numbers.{number_of}
use Rattle.expr_text.specs.Parsed.{parsed}
use Rattle.db_load.specs.Words.{spelled}

-- ---- masks

-- the digits behind `0x`
abbrev pub behind_0x : Text → Option Text
behind_0x (a ∷ (b ∷ ds)) = if a == 0x30 && b == 0x78 then Some ds else None
behind_0x _ = None

-- what hex digits are as bytes, where there are two a byte
abbrev pub mask_by : Result (List ℕ) FromHexError → Option (List ℕ)
mask_by (Ok bytes) = Some (take 262144 bytes)
mask_by (Err e) = None

abbrev pub mask_in : Option Text → Option (List ℕ)
mask_in None = None
mask_in (Some ds) = if nat_lt 0 (length ds) then mask_by (decode_of ds) else None

-- `0x` and hex digits, an even number of them and not none. Of a mask that is longer than any key only the front is kept
unfoldable pub mask_of : Text → Option (List ℕ)
mask_of t = mask_in (behind_0x t)

-- ---- the other forms

-- a text that isn't empty
abbrev pub is_section : Text → Bool
is_section t = nat_lt 0 (length t) && is_text t

-- `$` and a name
abbrev pub is_variable_name : Text → Bool
is_variable_name [] = false
is_variable_name (b ∷ name) = b == 0x24 && is_name name

-- one of a few words
abbrev pub is_choice : Text → List Word → Bool
is_choice t [] = false
is_choice t (w ∷ ws) = if bytes_eq t (spelled w) then true else is_choice t ws

-- whether a value of this form is an expression or a part of one
unfoldable pub is_parsed : Form → Bool
is_parsed form.Text = false
is_parsed form.FilledText = false
is_parsed form.Name = false
is_parsed form.VariableName = false
is_parsed form.Number = false
is_parsed form.Expr = true
is_parsed form.Literal = true
is_parsed form.Quoted = true
is_parsed form.Separator = false
is_parsed form.Mask = false
is_parsed form.ValueType = false
is_parsed form.VariableValidity = false
is_parsed form.ShowType = false
is_parsed form.HeaderPart = false
is_parsed form.FieldType = false
is_parsed form.LoopType = false
is_parsed form.LoopControl = false
is_parsed form.UpdateAction = false
is_parsed form.EntryValidity = false

-- whether a value has the form
unfoldable pub has_form : Form → Text → Bool
has_form form.Text t = is_text t
has_form form.FilledText t = is_section t
has_form form.Name t = is_name t
has_form form.VariableName t = is_variable_name t
has_form form.Number t = is_some (number_of t)
has_form form.Expr t = is_some (parsed t)
has_form form.Literal t = is_some (literal_of t)
has_form form.Quoted t = is_some (quoted_of t)
has_form form.Separator t = is_text t && nat_le (length t) 8
has_form form.Mask t = is_some (mask_of t)
has_form form.ValueType t = is_choice t (word.Num ∷ word.Buf ∷ word.Proto ∷ [])
has_form form.VariableValidity t = is_choice t (word.Packet ∷ [])
has_form form.ShowType t = is_choice t (word.Hex ∷ word.Dec ∷ word.Ascii ∷ [])
has_form form.HeaderPart t = is_choice t (word.Num ∷ word.Timestamp ∷ word.Len ∷ [])
has_form form.FieldType t = is_choice t (word.Fixed ∷ word.Bit ∷ word.Variable ∷ word.TokenEnded ∷ word.Line ∷ word.Padding ∷ [])
has_form form.LoopType t = is_choice t (word.Size ∷ word.Count ∷ word.While ∷ [])
has_form form.LoopControl t = is_choice t (word.Break ∷ word.Continue ∷ [])
has_form form.UpdateAction t = is_choice t (word.Add ∷ [])
has_form form.EntryValidity t = is_choice t (word.KeepForever ∷ word.KeepMaxTime ∷ word.UpdateOnHit ∷ word.AddOnHit ∷ [])
