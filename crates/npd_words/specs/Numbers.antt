-- Numbers in words, and the values that an option may have.
use Rattle.std.specs.Prelude.{ℕ, Bool, true, false, ◌&&◌, if◌then◌else◌, nat_le, nat_lt, length, Option, Some, None}
use Rattle.std.specs.Char.{is_ascii_digit}
use Rattle.std.specs.List.{list_all}
use Rattle.std.specs.Str.Parse.{digits_value}
use Rattle.db_model.specs.Names.{Text}
use Rattle.db_model.specs.declared.limits.TheConstants.{GREATEST_NUMBER}
use Rattle.npd_words.specs.declared.row.Form.{Form}
use Rattle.npd_words.specs.declared.row.Form.TheVariants as form

-- 1 to 10 decimal digits
abbrev pub are_digits : Text → Bool
are_digits t = nat_lt 0 (length t) && (nat_le (length t) 10 && list_all is_ascii_digit t)

-- the number that a text is: 1 to 10 decimal digits, at most 4,294,967,295
unfoldable pub number_of : Text → Option ℕ
number_of t = if are_digits t && nat_le (digits_value 10 t) GREATEST_NUMBER then Some (digits_value 10 t) else None

abbrev pub is_within : ℕ → ℕ → Option ℕ → Bool
is_within least most None = false
is_within least most (Some n) = nat_le least n && nat_le n most

-- whether a text that isn't empty may be the value: any name, and a number in its range
abbrev pub fits : Form → Text → Bool
fits form.Input t = true
fits form.Output t = true
fits (form.Number least most) t = is_within least most (number_of t)
