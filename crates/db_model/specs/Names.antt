-- Names and where they are declared. A use of a name means its first declaration of the kind that is used; where there is none, its place is the number of declarations, at which nothing stands.
use Rattle.std.specs.Prelude.{ℕ, zero, suc, if◌then◌else◌, List, [], ◌∷◌, map, bytes_eq, codes, Option, Some, None}
use Rattle.db_model.specs.declared.database.Database.{Database}
use Rattle.db_model.specs.declared.database.TableDecl.{TableDecl}

-- a name is its bytes
abbrev pub Text : Type 0
Text = List ℕ

-- the place of the first of the names that is this one
abbrev pub place : Text → List Text → ℕ
place name [] = zero
place name (other ∷ names) = if bytes_eq name other then zero else suc (place name names)

-- the numbers of a protocol, a variable and a table
abbrev pub protocol_at : Database → Text → ℕ
protocol_at db name = place name (map (λ d. d.name) db.protocols)

abbrev pub variable_at : Database → Text → ℕ
variable_at db name = place name (map (λ d. d.name) db.variables)

abbrev pub table_at : Database → Text → ℕ
table_at db name = place name (map (λ d. d.name) db.tables)

-- the number of a data column of a table
abbrev pub column_at : Option TableDecl → Text → ℕ
column_at None name = zero
column_at (Some d) name = place name (map (λ c. c.name) d.columns)

-- the protocol with which a decoding begins
abbrev pub startproto : Text
startproto = codes "startproto"
