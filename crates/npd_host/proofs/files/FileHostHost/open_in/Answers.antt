use Rattle.std.proofs.Common.{refl, arith}
use Rattle.npd_host.proofs.Untold.{OpensInput-untold, counts-kept, counts-push}
use Rattle.npd_host.proofs.files.FileHostHost.open_in.Goals as goal

pub invariant_of-self-in-Some : goal.invariant_of-self-in-Some
invariant_of-self-in-Some g c = record {
  inputs = rw (c.push.ensures.pushed, c.in_ok-word.ensures.name, c.room.ensures.same) (counts-push _ _ _ (counts-kept _ _ _ c.add.ensures.kept c.self.invariant.inputs) c.in_ok-add.ensures.added);
  outputs = counts-kept _ _ _ c.add.ensures.kept c.self.invariant.outputs;
}

pub invariant_of-self-in-None-1 : goal.invariant_of-self-in-None-1
invariant_of-self-in-None-1 g c = record {
  inputs = rw c.room.ensures.same (counts-kept _ _ _ c.raise.ensures.kept (counts-kept _ _ _ c.add.ensures.kept c.self.invariant.inputs));
  outputs = counts-kept _ _ _ c.raise.ensures.kept (counts-kept _ _ _ c.add.ensures.kept c.self.invariant.outputs);
}

pub returns-in-Some-clause-given : goal.returns-in-Some-clause-given
returns-in-Some-clause-given g c =
    rw (c.push.ensures.place, c.push.ensures.pushed, c.in_ok-word.ensures.name, c.room.ensures.same, ← c.self.view_is) (OpensInput-untold c.self.inside.inputs.items c.args.name.now)

pub returns-in-Some-clause-frame : goal.returns-in-Some-clause-frame
returns-in-Some-clause-frame g c = rw (← c.self.view_is) (record {
  outputs = refl;
  files = refl;
  later = λ kind name. omega (arith, c.add.ensures.same kind name);
})

pub returns-in-None-clause-frame : goal.returns-in-None-clause-frame
returns-in-None-clause-frame g c = rw (← c.self.view_is) (record {
  outputs = refl;
  files = refl;
  later = λ kind name. omega (arith, c.add.ensures.same kind name, c.raise.ensures.later kind name);
})
