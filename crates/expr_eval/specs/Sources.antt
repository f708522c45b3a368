-- What operands are read from: of a state, what no evaluation changes.
use Rattle.std.specs.Prelude.{ℕ, List}
use Rattle.db_model.specs.declared.env.Env.{Env}
use Rattle.db_model.specs.declared.value.Value.{Value}

pub record Sources : Type 0 where
  pub bytes : List ℕ
  pub present : List (ℕ × List ℕ)
  pub vars : List Value

-- the packet's bytes, the decoded fields and the variables of a state
abbrev pub sources : Env → Sources
sources z = record { bytes = z.packet.bytes; present = z.present; vars = z.vars }
