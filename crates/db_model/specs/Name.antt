-- Which texts are names: a letter or `_`, then letters, digits or `_`, at most 64 bytes in all, and no reserved
-- word of the expression language.
use Rattle.std.specs.Prelude.{Bool, true, false, ◌||◌, ◌&&◌, not, if◌then◌else◌, ◌==◌, nat_le, bytes_eq, ℕ, List, [], ◌∷◌, length, codes, Option, Some, None}
use Rattle.std.specs.Char.{is_ascii_alphabetic, is_ascii_alphanumeric}
use Rattle.std.specs.List.{list_all}
use Rattle.db_model.specs.declared.naming.ReservedWord.{ReservedWord}
use Rattle.db_model.specs.declared.naming.ReservedWord.TheVariants as word

-- the first byte of a name
abbrev pub begins_name : ℕ → Bool
begins_name byte = is_ascii_alphabetic byte || byte == 95

-- each further byte of a name
abbrev pub continues_name : ℕ → Bool
continues_name byte = is_ascii_alphanumeric byte || byte == 95

-- the reserved words of the expression language, the operators and then the functions
unfoldable pub spelling : ReservedWord → List ℕ
spelling word.Or = codes "or"
spelling word.And = codes "and"
spelling word.Not = codes "not"
spelling word.Lt = codes "lt"
spelling word.Le = codes "le"
spelling word.Gt = codes "gt"
spelling word.Ge = codes "ge"
spelling word.Mod = codes "mod"
spelling word.BitAnd = codes "bitwand"
spelling word.BitOr = codes "bitwor"
spelling word.ToNumber = codes "buf2int"
spelling word.LengthOf = codes "buflen"
spelling word.ToBytes = codes "int2buf"
spelling word.HasText = codes "hasstring"
spelling word.IsPresent = codes "ispresent"
spelling word.LookUp = codes "checklookuptable"
spelling word.RenewingLookUp = codes "checkupdatelookuptable"

abbrev pub reserved_words : List ReservedWord
reserved_words =
    word.Or ∷ word.And ∷ word.Not ∷ word.Lt ∷ word.Le ∷ word.Gt ∷ word.Ge ∷ word.Mod ∷ word.BitAnd ∷ word.BitOr
    ∷ word.ToNumber ∷ word.LengthOf ∷ word.ToBytes ∷ word.HasText ∷ word.IsPresent ∷ word.LookUp ∷ word.RenewingLookUp ∷ []

-- the first of these words that a text is
abbrev pub among : List ReservedWord → List ℕ → Option ReservedWord
among [] text = None
among (word ∷ words) text = if bytes_eq text (spelling word) then Some word else among words text

-- the reserved word that a text is
unfoldable pub reserved : List ℕ → Option ReservedWord
reserved = among reserved_words

abbrev pub is_some_word : Option ReservedWord → Bool
is_some_word None = false
is_some_word (Some word) = true

abbrev pub is_reserved : List ℕ → Bool
is_reserved text = is_some_word (reserved text)

-- a run of 1 to 64 bytes as names have them
abbrev pub is_word : List ℕ → Bool
is_word [] = false
is_word (byte ∷ bytes) = begins_name byte && list_all continues_name bytes && nat_le (length bytes) 63

unfoldable pub is_name : List ℕ → Bool
is_name text = is_word text && not (is_reserved text)
