-- A short value lies in place, a longer one in memory of its own. Contracts see both as their list.
use Rattle.std.specs.Prelude.{ℕ, List, ◌≤◌, length, take}
use Rattle.db_model.specs.declared.bytes.Held.{Held}
use Rattle.db_model.specs.declared.bytes.Held.TheVariants.{Short, Long}

abbrev pub bytes_held : Held → List ℕ
bytes_held (Short few) = take few.len few.bytes
bytes_held (Long bytes) = bytes.items

-- no more than there are
abbrev pub IsHeld : Held → Type 0
IsHeld (Short few) = few.len ≤ 24
IsHeld (Long bytes) = length bytes.items ≤ 262144
