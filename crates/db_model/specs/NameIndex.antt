-- Names resolved before a run: what an index of a database knows by name, and when it is that database's.
use Rattle.std.specs.Prelude.{◌≡◌, ℕ, zero, List, [], ◌∷◌, map, length, slice_get, bytes_eq, unwrap_or, Option, Some, None}
use Rattle.std.specs.Map.{lookup}
use Rattle.db_model.specs.declared.database.Database.{Database}
use Rattle.db_model.specs.declared.database.NamedBlock.{NamedBlock}
use Rattle.db_model.specs.declared.database.Protocol.{Protocol}
use Rattle.db_model.specs.declared.database.TableDecl.{TableDecl}
use Rattle.db_model.specs.declared.name_index.NameIndex.{NameIndex}
use Rattle.db_model.specs.Names.{Text, place}
use Rattle.db_model.specs.Numbering.{blocks_in, field_names}

-- names with their numbers
abbrev pub Numbers : Type 0
Numbers = List (Text × ℕ)

-- they give each of these names its place
abbrev pub IsPlaces : List Text → Numbers → Type 0
IsPlaces names numbers = (name : Text) → unwrap_or (lookup (bytes_eq name) numbers) (length names) ≡ place name names

-- each of the lists has its own
abbrev pub AllPlaces : List (List Text) → List Numbers → Type 0
AllPlaces [] [] = Unit {0}
AllPlaces [] (n ∷ ns) = ⊥
AllPlaces (names ∷ more) [] = ⊥
AllPlaces (names ∷ more) (n ∷ ns) = IsPlaces names n × AllPlaces more ns

-- the names of a table's data columns, and of a protocol's named blocks
abbrev pub column_names : TableDecl → List Text
column_names d = map (λ c. c.name) d.columns

abbrev pub block_names : Protocol → List Text
block_names p = map (λ (b : NamedBlock). b.name) (blocks_in p.format)

-- the number of a named block of a protocol
abbrev pub block_number_at : Option Protocol → Text → ℕ
block_number_at None name = zero
block_number_at (Some p) name = place name (block_names p)

-- an index is a database's where it says of each name what the declarations say
pub record IsIndex (db : Database) (index : NameIndex) : Type 0 where
  pub protocols : IsPlaces (map (λ d. d.name) db.protocols) index.protocols
  pub variables : IsPlaces (map (λ d. d.name) db.variables) index.variables
  pub tables : IsPlaces (map (λ d. d.name) db.tables) index.tables
  pub columns : AllPlaces (map column_names db.tables) index.columns
  pub blocks : AllPlaces (map block_names db.protocols) index.blocks
  pub fields : index.fields ≡ map field_names db.protocols
