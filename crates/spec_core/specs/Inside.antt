-- What a core is seen as, and what its fields keep.
use Rattle.std.specs.Prelude.{◌≡◌, ◌+◌, ◌<◌, ◌≤◌, ◌^◌, length, vec_len, vec_capacity}
use Rattle.std.specs.Arc.{arc_value}
use Rattle.spec_core.specs.declared.machine.Core.TheInside.{Inside}
use Rattle.spec_core.specs.Machine.{Machine, Run, IsSound, state_at}

abbrev pub run_of : Inside → Run
run_of k = record { db = k.decoder.engine; wanted = k.decoder.wanted; base = (arc_value k.base).content; first = k.first; packets = arc_value k.packets }

abbrev pub machine_of : Inside → Machine
machine_of k = record { run = run_of k; shown = k.shown; done = k.done; given = k.given; halted = k.halted; slots = k.slots.items }

pub record Invariant (k : Inside) : Type 0 where
  pub sound : IsSound (machine_of k)
  pub numbers : k.first + length (arc_value k.packets) < 2 ^ 64
  pub database : k.session.database ≡ k.decoder.engine
  pub content : k.session.content ≡ state_at (run_of k) k.done
  pub view_database : (arc_value k.published).database ≡ k.decoder.engine
  pub view_content : (arc_value k.published).content ≡ state_at (run_of k) k.shown
  pub empty : vec_len k.ready ≡ 0
  pub room : length k.slots.items ≤ vec_capacity k.ready
