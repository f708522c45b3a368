use Rattle.std.proofs.Common.{◌≡◌, drop, length}
use Rattle.pdl_code.specs.Parts.{jumps_to, AllBelow}
use Rattle.pdl_code.proofs.written.write_jumps.Given as goal

abbrev pub invariant-loop-place : goal.invariant-loop-place
invariant-loop-place l = record {
  written : jumps_to l.end (drop l.place-index l.places) l.ops ≡ jumps_to l.end l.places l.fn.ops;
  long : length l.ops ≡ l.end;
  below : AllBelow l.end (drop l.place-index l.places);
}
