use Rattle.std.proofs.Common.{◌≡◌, ℕ, List, ◌++◌, length, sym, ap, ◌∙◌, arith, append-nil}
use Rattle.std.proofs.lemmas.Bool.Decides.{nat_tests}
use Rattle.show.specs.Shown.{group_shown, group_size}
use Rattle.show.proofs.GroupLemmas.{no_group}
use Rattle.show.proofs.Writing.{written-empty}
use Rattle.show.proofs.value.push_by.Goals as goal

pub returns-then-is_empty : goal.returns-then-is_empty
returns-then-is_empty c =
    let t = c.args.template.now in
    let bytes = c.args.bytes.now in
    let none : length bytes ≡ 0 = grind (arith, nat_tests) in
    sym (ap (λ (l : List ℕ). c.args.text.now.items ++ l) (no_group c.args.form (group_shown t.show_type) t.separator (group_size t.group (length bytes)) bytes none ∙ written-empty c.args.form) ∙ append-nil c.args.text.now.items)
