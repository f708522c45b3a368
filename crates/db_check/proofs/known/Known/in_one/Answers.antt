use Rattle.std.proofs.Common.{◌∙◌, List, ap}
use Rattle.db_model.specs.Names.{Text}
use Rattle.db_model.specs.Numbering.{names_at}
use Rattle.db_check.specs.First.{first}
use Rattle.db_check.specs.Known.{lines_by}
use Rattle.db_check.specs.Own.{cause_of}
use Rattle.db_check.proofs.known.Known.in_one.Goals as goal

pub returns : goal.returns
returns c =
    let db = c.args.self.now.database.now in
    c.in_scope.ensures ∙ ap (λ (l : List Text). first (cause_of c.args.kind) (lines_by db l c.args.kind c.args.protocol.now)) (c.fields_at-fields.ensures db c.requires.known.index_is ∙ ap names_at c.requires.there)
