use Rattle.std.proofs.Common.{◌≡◌, ◌++◌, drop, length}
use Rattle.pdl_code.specs.Coding.{block_codes, block_starts}
use Rattle.pdl_code.specs.Parts.{counts}
use Rattle.pdl_code.proofs.protocols.named.Given as goal

abbrev pub invariant-loop-block : goal.invariant-loop-block
invariant-loop-block l = record {
  written : l.ops ++ block_codes l.scope.db.now l.scope.protocol (drop l.block-index l.blocks) (counts l.to) ≡ l.fn.ops ++ block_codes l.scope.db.now l.scope.protocol l.blocks (counts l.fn.at);
  begun : l.starts ++ block_starts l.scope.db.now l.scope.protocol (length l.ops) (drop l.block-index l.blocks) (counts l.to) ≡ block_starts l.scope.db.now l.scope.protocol (length l.fn.ops) l.blocks (counts l.fn.at);
}
