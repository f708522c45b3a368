use Rattle.std.proofs.Common.{◌≡◌, List, ℕ, None, OnOk, codes, map, subst}
use Rattle.show.specs.Shown.{character}
use Rattle.pdml_out.proofs.Added.{line_added}
use Rattle.pdml_out.proofs.lines.push_payload_field.Goals as goal

pub returns : goal.returns
returns c =
    let value = c.args.value.now in
    let e = line_added (codes "data") None c.args.pos c.args.size value (map character value) c.args.text.now.items c.push_payload_beginning.new.text.items c.push_numbers.new.text.items c.push_hex_and_characters.new.text.items c.in_ok-push_payload_beginning.ensures c.in_ok-push_numbers.ensures c.in_ok-push_hex_and_characters.ensures in
    subst (λ (l : List ℕ). OnOk c.push.result (c.push.new.text.items ≡ l)) e c.push.ensures
