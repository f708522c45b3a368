use Rattle.std.proofs.Common.{◌∙◌, ◌&&◌, ap, sym}
use Rattle.db_model.specs.declared.entry.Entry.{Entry}
use Rattle.db_model.specs.Table.{live, matches}
use Rattle.table_list.proofs.Walks.{find_here}
use Rattle.table_list.proofs.search.first_match.Goals as goal

pub returns-then-is_match-clause-entry : goal.returns-then-is_match-clause-entry
returns-then-is_match-clause-entry c =
    let e = c.index-masked-i.result in
    find_here (λ (e : Entry). live e c.args.t && matches e c.args.keys.now) c.args.masked.now c.loop-i.i e _ c.loop-i-test.true c.index-masked-i.is
    (ap (λ b. b && matches e c.args.keys.now) (sym c.is_live.ensures ∙ c.if-is_live.true) ∙ (sym c.is_match.ensures ∙ c.if-is_match.true)) c.loop-i.invariant
