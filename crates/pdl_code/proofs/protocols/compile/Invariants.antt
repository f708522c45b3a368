use Rattle.std.proofs.Common.{◌≡◌, ◌++◌, drop}
use Rattle.pdl_code.specs.Coding.{protocol_codes}
use Rattle.pdl_code.proofs.protocols.compile.Given as goal

abbrev pub invariant-loop-number : goal.invariant-loop-number
invariant-loop-number l = l.protocols ++ protocol_codes l.db l.number (drop l.number l.declared) ≡ protocol_codes l.db 0 l.declared
