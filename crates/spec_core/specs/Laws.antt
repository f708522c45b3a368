-- The laws of the core, for the layers above it.
use Rattle.std.specs.Prelude.{List, ◌++◌, Result}
use Rattle.db_model.specs.declared.no_memory.NoMemory.{NoMemory}
use Rattle.spec_core.specs.declared.committed.Committed.{Committed}
use Rattle.spec_core.specs.declared.slot.Ready.{Ready}
use Rattle.spec_core.specs.Commits.{Commits}
use Rattle.spec_core.specs.Later.{Later}
use Rattle.spec_core.specs.Machine.{Run, Machine, IsSound}
use Rattle.spec_core.specs.Legal.{AreLegal}
use Rattle.spec_core.specs.Whole.{IsWhole, HaveTexts, receipts_of}
use Rattle.spec_core.specs.Windows.{Follows, joined}

-- what is drained of a window and then of the one that follows it is what is drained of both as one
abbrev pub WindowsJoin : Type 0
WindowsJoin = (r next : Run) (ys zs : List Ready) → Follows r next → IsWhole r ys → IsWhole next zs → IsWhole (joined r next) (ys ++ zs)

-- the receipts of what is drained are legal
abbrev pub LegalReceipts : Type 0
LegalReceipts = (r : Run) (ys : List Ready) → IsWhole r ys → AreLegal r (receipts_of ys)

-- the texts of what is drained are those of decoding the packets one by one
abbrev pub DrainedTexts : Type 0
DrainedTexts = (r : Run) (ys : List Ready) → IsWhole r ys → HaveTexts r ys

-- however many commits there are, they leave what one leaves
pub record CommitsLater : Type 0 where
  pub none : (m : Machine) → Later m m
  pub one : (m n : Machine) (answer : Result Committed NoMemory) → IsSound m → Commits m answer n → Later m n
  pub more : (m n k : Machine) → Later m n → Later n k → Later m k
