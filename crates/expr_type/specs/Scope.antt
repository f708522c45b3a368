-- What an expression may name, known by name.
use Rattle.db_model.specs.NameIndex.{IsIndex, IsPlaces}
use Rattle.expr_type.specs.declared.scope.Scope.{Scope}

-- the index is the database's, and the places of the fields are theirs
pub record IsScope (s : Scope) : Type 0 where
  pub index_is : IsIndex s.database.now s.names.now
  pub places_are : IsPlaces s.fields.now s.places.now
