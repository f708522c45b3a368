use Rattle.std.proofs.Common.{◌≡◌, List, ℕ, ◌++◌, OnOk, codes, refl, subst}
use Rattle.std.specs.Option.{option_copied}
use Rattle.pdml_out.specs.Pdml.{numbers}
use Rattle.pdml_out.proofs.Added.{block_added}
use Rattle.pdml_out.proofs.lines.push_block_line.Goals as goal

pub returns : goal.returns
returns c =
    let text = c.push_block_beginning.new.text.items ++ numbers c.args.pos c.args.size (codes "\">\n") in
    subst (λ (l : List ℕ). OnOk c.push_numbers.result (c.push_numbers.new.text.items ≡ l)) (block_added (option_copied c.args.label) c.args.pos c.args.size c.args.text.now.items c.push_block_beginning.new.text.items text c.in_ok-push_block_beginning.ensures refl) c.push_numbers.ensures
