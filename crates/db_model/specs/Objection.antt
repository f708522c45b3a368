-- The objection to a database: of all faults the one with the least line, and on that line the one with the least code.
use Rattle.std.specs.Prelude.{◌≡◌, ℕ, true, List, ◌++◌, map, Option, None}
use Rattle.db_model.specs.declared.database.Database.{Database}
use Rattle.db_model.specs.declared.fault.Fault.{Fault}
use Rattle.db_model.specs.BlockFaults.{fault_45, fault_46}
use Rattle.db_model.specs.LeastFault.{least}
use Rattle.db_model.specs.Lines.{Lines}
use Rattle.db_model.specs.NameFaults.{fault_40, fault_41}
use Rattle.db_model.specs.NumberFaults.{fault_43, fault_44}
use Rattle.db_model.specs.Shape.{is_shaped}
use Rattle.db_model.specs.TypeFaults.{fault_42, fault_47}

abbrev pub coded : ℕ → Lines → List Fault
coded code lines = map (λ line. record { line = line; code = code }) lines

-- all faults that stand in a database
unfoldable pub faults : Database → List Fault
faults db =
    coded 40 (fault_40 db) ++ (coded 41 (fault_41 db) ++ (coded 42 (fault_42 db) ++ (coded 43 (fault_43 db)
    ++ (coded 44 (fault_44 db) ++ (coded 45 (fault_45 db) ++ (coded 46 (fault_46 db) ++ coded 47 (fault_47 db)))))))

unfoldable pub objection : Database → Option Fault
objection db = least (faults db)

-- a database that a decoder may be given: shaped, and without a fault
pub record IsChecked (db : Database) : Type 0 where
  pub shaped : is_shaped db ≡ true
  pub accepted : objection db ≡ None
