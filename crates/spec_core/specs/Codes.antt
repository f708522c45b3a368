-- Machines and jobs are told apart by their fields.
use Rattle.std.specs.Prelude.{ℕ, Bool, List, Option, refl}
use Rattle.std.specs.Coded.{Coded, code_by, coded×, coded_list, coded_ℕ, coded_bool, coded_option}
use Rattle.db_model.specs.declared.database.Database.{Database}
use Rattle.db_model.specs.declared.entry.Entry.{Entry}
use Rattle.db_model.specs.declared.packet.Packet.{Packet}
use Rattle.db_model.specs.Table.{Parts}
use Rattle.session.specs.State.{parts_code}
use Rattle.spec_core.specs.declared.slot.Slot.{Slot}
use Rattle.spec_core.specs.Jobs.{Known}
use Rattle.spec_core.specs.Machine.{Machine}

abbrev pub known_code : Coded Database → Coded Entry → Coded Packet → Coded Known
known_code db e p =
    code_by (((ℕ × (ℕ × ℕ)) × (Bool × Bool)) × (Option Packet × (Database × List Parts)))
    (coded× (coded× (coded× coded_ℕ (coded× coded_ℕ coded_ℕ)) (coded× coded_bool coded_bool)) (coded× (coded_option p) (coded× db (coded_list (parts_code e)))))
    (λ k. (((k.number, (k.taken.v, k.taken.c)), (k.wanted.pdml, k.wanted.psml)), (k.packet, (k.view.database, k.view.content))))
    (λ t. record { number = t.0.0.0; taken = record { v = t.0.0.1.0; c = t.0.0.1.1 }; wanted = record { pdml = t.0.1.0; psml = t.0.1.1 }; packet = t.1.0; view = record { database = t.1.1.0; content = t.1.1.1 } })
    (λ _. refl)

abbrev pub machine_code : Coded Database → Coded Entry → Coded Packet → Coded Slot → Coded Machine
machine_code db e p s =
    code_by (((Database × (Bool × Bool)) × (List Parts × (ℕ × List Packet))) × ((ℕ × (ℕ × ℕ)) × (Bool × List Slot)))
    (coded× (coded× (coded× db (coded× coded_bool coded_bool)) (coded× (coded_list (parts_code e)) (coded× coded_ℕ (coded_list p)))) (coded× (coded× coded_ℕ (coded× coded_ℕ coded_ℕ)) (coded× coded_bool (coded_list s))))
    (λ m. (((m.run.db, (m.run.wanted.pdml, m.run.wanted.psml)), (m.run.base, (m.run.first, m.run.packets))), ((m.shown, (m.done, m.given)), (m.halted, m.slots))))
    (λ t. record { run = record { db = t.0.0.0; wanted = record { pdml = t.0.0.1.0; psml = t.0.0.1.1 }; base = t.0.1.0; first = t.0.1.1.0; packets = t.0.1.1.1 }; shown = t.1.0.0; done = t.1.0.1.0; given = t.1.0.1.1; halted = t.1.1.0; slots = t.1.1.1 })
    (λ _. refl)
