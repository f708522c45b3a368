use Rattle.std.proofs.Common.{◌≡◌, ℕ, List, [], ◌∷◌, ◌++◌, ap, ◌∙◌, refl, slice_index, arith}
use Rattle.show.proofs.Digits.{hex_more, hex_done}
use Rattle.show.proofs.text.push_hex.Goals as goal

pub loop-byte-preserved : goal.loop-byte-preserved
loop-byte-preserved c =
    let i = c.loop-byte.byte-index in
    let bs = c.args.bytes.now in
    record {
      text = hex_more bs i (slice_index bs i) c.loop-byte.text.items c.push_reserved.new.self.items c.push_reserved-in-loop-byte.new.self.items _ (omega arith) refl c.loop-byte.invariant.text
          (c.push_reserved.ensures.items ∙ ap (λ (d : ℕ). c.loop-byte.text.items ++ d ∷ []) c.hex_digit.ensures)
          (c.push_reserved-in-loop-byte.ensures.items ∙ ap (λ (d : ℕ). c.push_reserved.new.self.items ++ d ∷ []) c.hex_digit-in-loop-byte.ensures);
      room = omega arith;
    }

pub returns : goal.returns
returns c = hex_done c.args.bytes.now c.loop-byte.byte-index c.loop-byte.text.items _ (omega arith) c.loop-byte.invariant.text
