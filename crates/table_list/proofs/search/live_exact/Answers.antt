use Rattle.std.proofs.Common.{◌∙◌, sym}
use Rattle.db_model.specs.declared.entry.Entry.{Entry}
use Rattle.db_model.specs.Table.{same_keys}
use Rattle.table_list.proofs.Walks.{live_here}
use Rattle.table_list.proofs.search.live_exact.Goals as goal

pub returns-then-is_live-clause-entry : goal.returns-then-is_live-clause-entry
returns-then-is_live-clause-entry c = live_here (λ (e : Entry). same_keys c.args.keys.now e.keys) c.args.t c.args.exact.now c.loop-i.i c.index-exact-i.result _ c.loop-i-test.true c.index-exact-i.is (sym c.eq.ensures ∙ c.if-eq.true) c.loop-i.invariant (sym c.is_live.ensures ∙ c.if-is_live.true)
