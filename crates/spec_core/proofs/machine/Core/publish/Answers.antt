use Rattle.std.proofs.Common.{◌∙◌, ap}
use Rattle.session.specs.State.{State, View}
use Rattle.spec_core.specs.Inside.{machine_of}
use Rattle.spec_core.proofs.Steps.{publish_sound}
use Rattle.spec_core.proofs.machine.Core.publish.Goals as goal

pub invariant_of-self-2 : goal.invariant_of-self-2
invariant_of-self-2 c =
    let inv = c.self.invariant in
    let same = c.in_ok-self-inside.ensures.same in
    let view = c.in_ok-self-inside.ensures.view in
    record {
      sound = publish_sound (machine_of c.self.inside) inv.sound;
      numbers = inv.numbers;
      database = ap (λ (s : State). s.database) same ∙ inv.database;
      content = ap (λ (s : State). s.content) same ∙ inv.content;
      view_database = ap (λ (v : View). v.database) view ∙ inv.database;
      view_content = ap (λ (v : View). v.content) view ∙ inv.content;
      empty = inv.empty;
      room = inv.room;
    }
