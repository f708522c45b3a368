use Rattle.std.proofs.Common.{ℕ, List, ◌∙◌, sym, bytes_eq}
use Rattle.std.specs.Prelude.{bit_and, nat_eq}
use Rattle.db_model.specs.Table.{masked}
use Rattle.table_list.proofs.Zips.{compared_apart, compared_end}
use Rattle.table_list.proofs.search.are_masked.Goals as goal

pub returns-then-own-min : goal.returns-then-own-min
returns-then-own-min c = sym (compared_apart bytes_eq (λ (p : List ℕ × List ℕ). masked p.0 p.1) c.args.masks.now c.args.keys.now c.args.own.now (λ e. c.if-own-min.true (e ∙ sym c.min.ensures)))

pub returns : goal.returns
returns c = sym (compared_end bytes_eq (λ (p : List ℕ × List ℕ). masked p.0 p.1) c.args.masks.now c.args.keys.now c.args.own.now c.loop-i.i c.loop-i-test.false (c.if-own-min.false ∙ c.min.ensures)) ∙ c.loop-i.invariant
