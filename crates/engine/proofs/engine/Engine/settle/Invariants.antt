use Rattle.std.proofs.Common.{◌≡◌, ◌+◌, take}
use Rattle.engine.specs.Ready.{Settles, session_after}
use Rattle.engine.proofs.engine.Engine.settle.Given as goal

abbrev pub invariant-loop-packet : goal.invariant-loop-packet
invariant-loop-packet g l = record {
  database : g.A.Answers.database l.answers ≡ l.self;
  settles : Settles l.wanted l.self (g.A.Answers.content l.fn.answers) (take l.packet-index l.packets) l.ready.items;
  session : g.A.Answers.content l.answers ≡ session_after l.self (g.A.Answers.content l.fn.answers) (take l.packet-index l.packets);
  steps : l.steps ≡ l.fn.steps + l.packet-index;
}
