use Rattle.std.specs.Prelude.{map, get_or, []}
use Rattle.std.proofs.Common.{ap, sym, ◌∙◌}
use Rattle.std.proofs.Math.ListN.{get_or-map}
use Rattle.db_load.specs.declared.word.TheConstants.{SPELLED}
use Rattle.db_load.proofs.Spelling.{at_its_place}
use Rattle.db_load.proofs.word.Word.spelled.Goals as goal

pub returns : goal.returns
returns c =
    sym (get_or-map (λ t. t.now) c.words.result.now c.from.result _)
    ∙ (ap (λ ts. get_or ts c.from.result []) c.words.ensures
    ∙ (ap (λ i. get_or (map (λ t. t.now) SPELLED) i []) c.from.ensures
    ∙ at_its_place c.args.self))
