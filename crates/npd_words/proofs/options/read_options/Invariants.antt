use Rattle.std.proofs.Common.{◌≡◌, ◌+◌, [], map, length, false}
use Rattle.std.specs.Prelude.{string_bytes}
use Rattle.npd_words.specs.Occurrences.{occurrences}
use Rattle.npd_words.specs.Options.{options}
use Rattle.npd_words.proofs.options.read_options.Given as goal

abbrev pub invariant-loop-word : goal.invariant-loop-word
invariant-loop-word l = record {
  place : l.cursor.index + length l.rest ≡ 1 + length l.words;
  read : options l.rows (occurrences (map string_bytes l.rest) l.cursor.is_taken l.cursor.index) l.given.items
      ≡ options l.rows (occurrences (map string_bytes l.words) false 1) [];
}

abbrev pub decreases-loop-word : goal.decreases-loop-word
decreases-loop-word l = length l.rest
