-- A protocol of a database whose names are known.
use Rattle.std.specs.Prelude.{◌≡◌, slice_get, Some}
use Rattle.db_model.specs.NameIndex.{IsIndex}
use Rattle.db_check.specs.declared.home.Home.{Home}

pub record IsHome (h : Home) : Type 0 where
  pub index_is : IsIndex h.database.now h.names.now
  pub protocol_is : slice_get h.database.now.protocols h.number ≡ Some h.protocol.now
