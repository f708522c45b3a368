use Rattle.std.proofs.Common.{◌≡◌, ◌∙◌, Some, None, sym, ap, ℕ, Option, slice_get, length, bytes_eq, unwrap_or}
use Rattle.std.specs.Map.{lookup}
use Rattle.std.proofs.lemmas.List.{length-map}
use Rattle.db_model.specs.declared.database.Protocol.{Protocol}
use Rattle.db_model.specs.NameIndex.{block_names, block_number_at}
use Rattle.db_model.specs.Numbering.{blocks_in}
use Rattle.db_model.proofs.Placed.{place_at, none_missing}
use Rattle.db_model.proofs.name_index.NameIndex.block_at.Goals as goal

pub returns-in-Some-get : goal.returns-in-Some-get
returns-in-Some-get c =
    let name = c.args.name.now in
    let d = c.in-Some.declared.now in
    let n = c.in-Some-get.places.now in
    let there : slice_get c.args.database.now.protocols c.args.protocol ≡ Some d = sym c.in-Some.ensures.value in
    let held : slice_get c.args.self.now.blocks c.args.protocol ≡ Some n = sym c.in-Some-get.ensures.value in
    c.place_of.ensures ∙ ap (λ (k : ℕ). unwrap_or (lookup (bytes_eq name) n) k) (ap length c.named_blocks.ensures ∙ sym (length-map (blocks_in d.format) _))
    ∙ place_at block_names c.args.database.now.protocols c.args.self.now.blocks c.args.protocol d n name c.requires.blocks there held
    ∙ ap (λ (o : Option Protocol). block_number_at o name) (sym there)

pub returns-in-None-get : goal.returns-in-None-get
returns-in-None-get c =
    absurd (none_missing block_names c.args.database.now.protocols c.args.self.now.blocks c.args.protocol c.in-Some.declared.now c.requires.blocks (sym c.in-Some.ensures.value) (sym c.in-None-get.ensures.value))
