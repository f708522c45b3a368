-- How one packet is settled, over plain values.
use Rattle.std.specs.Prelude.{◌≡◌, ℕ, ◌+◌, ◌≤◌}
use Rattle.db_model.specs.declared.database.Database.{Database}
use Rattle.db_model.specs.declared.packet.Packet.{Packet}
use Rattle.db_model.specs.Decoding.{dec}
use Rattle.db_model.specs.Session.{Session}
use Rattle.engine.specs.declared.receipt.Outcome.{Outcome}
use Rattle.engine.specs.declared.texts.Wanted.{Wanted}
use Rattle.engine.specs.declared.receipt.Outcome.TheVariants.{Kept, Again, Direct}
use Rattle.spec_core.specs.declared.slot.Speculation.{Speculation}
use Rattle.spec_core.specs.Texts.{texts_of}

-- the packet was decoded from some view
pub record IsDecoded (wanted : Wanted) (db : Database) (p : Packet) (s : Speculation) : Type 0 where
  pub view : Session
  pub log : s.log ≡ (dec db p view).log
  pub texts : s.texts ≡ texts_of wanted db p (dec db p view).result

-- how many decodings settling it took
abbrev pub spent : Outcome → ℕ
spent Kept = 0
spent (Again index old new) = 1
spent (Direct why) = 1

-- one decoding at most
abbrev pub AtMostOne : ℕ → ℕ → Type 0
AtMostOne old new = (old ≤ new) × (new ≤ old + 1)
