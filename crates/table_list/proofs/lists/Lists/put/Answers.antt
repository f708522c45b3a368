use Rattle.std.proofs.Common.{◌∙◌, List, sym, ap}
use Rattle.db_model.specs.declared.entry.Entry.{Entry}
use Rattle.table_list.specs.Lists.{content}
use Rattle.table_list.proofs.Parts.{parts, put_masked, put_exact}
use Rattle.table_list.proofs.lists.Lists.put.Goals as goal

pub returns-then-is_some-clause-content : goal.returns-then-is_some-clause-content
returns-then-is_some-clause-content c =
    ap (parts c.args.self.now.exact.items) c.put.ensures.items
    ∙ put_masked c.args.declaration.now (content c.args.self.now) c.args.entry (sym c.is_some.ensures ∙ c.if-is_some.true)

pub returns-else-is_some-clause-content : goal.returns-else-is_some-clause-content
returns-else-is_some-clause-content c =
    ap (λ (es : List Entry). parts es c.args.self.now.masked.items) c.put-else-is_some.ensures.items
    ∙ put_exact c.args.declaration.now (content c.args.self.now) c.args.entry (sym c.is_some.ensures ∙ c.if-is_some.false)
