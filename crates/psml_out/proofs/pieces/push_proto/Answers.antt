use Rattle.std.proofs.Common.{◌≡◌, List, ℕ, ◌++◌, OnOk, refl, ap, subst, ◌∙◌}
use Rattle.std.specs.List.{flat_map}
use Rattle.show.specs.Markup.{escaped}
use Rattle.psml_out.specs.declared.summaries.Content.{Content}
use Rattle.psml_out.specs.Summaries.{summaries_of}
use Rattle.psml_out.specs.Psml.{content_text}
use Rattle.psml_out.proofs.BySection.{proto_found}
use Rattle.psml_out.proofs.pieces.push_proto.Goals as goal

pub returns : goal.returns
returns c =
    let source = c.args.source.now in
    let proto = c.args.proto.now in
    let e = ap (flat_map (content_text source.db.now source.packet.now proto)) c.contents_of-contents.ensures ∙ proto_found source.db.now source.packet.now c.args.section proto (summaries_of source.db.now) refl c.requires in
    subst (λ (l : List ℕ). OnOk c.push_contents.result (c.push_contents.new.text.items ≡ c.args.text.now.items ++ escaped l)) e c.push_contents.ensures
