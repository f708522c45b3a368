use Rattle.std.proofs.Common.{◌≡◌, ◌∙◌, Some, None, sym, ap, ℕ, Option, slice_get, length, bytes_eq, unwrap_or}
use Rattle.std.specs.Map.{lookup}
use Rattle.std.proofs.lemmas.List.{length-map}
use Rattle.db_model.specs.declared.database.TableDecl.{TableDecl}
use Rattle.db_model.specs.Names.{column_at}
use Rattle.db_model.specs.NameIndex.{column_names}
use Rattle.db_model.proofs.Placed.{place_at, none_missing}
use Rattle.db_model.proofs.name_index.NameIndex.column_at.Goals as goal

pub returns-in-Some-get : goal.returns-in-Some-get
returns-in-Some-get c =
    let name = c.args.name.now in
    let d = c.in-Some.declared.now in
    let n = c.in-Some-get.places.now in
    let there : slice_get c.args.database.now.tables c.args.table ≡ Some d = sym c.in-Some.ensures.value in
    let held : slice_get c.args.self.now.columns c.args.table ≡ Some n = sym c.in-Some-get.ensures.value in
    c.place_of.ensures ∙ ap (λ (k : ℕ). unwrap_or (lookup (bytes_eq name) n) k) (ap length c.as_slice.ensures ∙ sym (length-map d.columns _))
    ∙ place_at column_names c.args.database.now.tables c.args.self.now.columns c.args.table d n name c.requires.columns there held
    ∙ ap (λ (o : Option TableDecl). column_at o name) (sym there)

pub returns-in-None-get : goal.returns-in-None-get
returns-in-None-get c =
    absurd (none_missing column_names c.args.database.now.tables c.args.self.now.columns c.args.table c.in-Some.declared.now c.requires.columns (sym c.in-Some.ensures.value) (sym c.in-None-get.ensures.value))
