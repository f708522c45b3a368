use Rattle.std.proofs.Common.{◌≤◌, List, length, map, ap, ◌∙◌, arith}
use Rattle.std.proofs.lemmas.List.{take_all}
use Rattle.db_model.specs.declared.database.Database.{Database}
use Rattle.db_model.specs.declared.database.Protocol.{Protocol}
use Rattle.show.specs.Labels.{labels_of, labels_of_protocol}
use Rattle.show.proofs.labels.Labels.of.Goals as goal

pub returns : goal.returns
unfolding labels_of
returns c =
    let db = c.database-database.result.now in
    let all : length db.protocols ≤ c.loop-protocol.protocol-index = omega (arith, ap length c.as_slice-protocol-items.ensures) in
    c.loop-protocol.invariant ∙ ap (λ (ps : List Protocol). map (labels_of_protocol db.show_templates) ps) (take_all c.loop-protocol.protocol-index db.protocols all)
    ∙ ap (λ (d : Database). map (labels_of_protocol d.show_templates) d.protocols) c.database-database.ensures.database
