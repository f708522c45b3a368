use Rattle.db_model.specs.declared.database.VarDecl.{VarDecl}
use Rattle.db_model.proofs.Placed.{is_within, place_known}
use Rattle.db_model.proofs.name_index.NameIndex.variable_at.Goals as goal

pub returns-clause-within : goal.returns-clause-within
returns-clause-within c =
    let name = λ (d : VarDecl). d.name in
    let xs = c.args.database.now.variables in
    is_within name xs c.args.name.now c.place_of.result (place_known name xs c.as_slice.result.now c.args.self.now.variables c.args.name.now c.place_of.result c.requires.variables c.as_slice.ensures c.place_of.ensures)
