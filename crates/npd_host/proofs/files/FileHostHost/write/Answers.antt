use Rattle.std.proofs.Common.{refl, arith, ap, sym, ◌∙◌}
use Rattle.npd_host.specs.FileHost.{FileState}
use Rattle.npd_host.proofs.Untold.{Took-untold, written-back}
use Rattle.npd_host.proofs.files.FileHostHost.write.Goals as goal

pub returns-in-Some-clause-took : goal.returns-in-Some-clause-took
returns-in-Some-clause-took g c = Took-untold c.args.id.0 c.args.self.now.outputs _ _ (written-back c.self.inside.outputs.len c.self.inside.outputs.items c.write.new.outputs c.args.self.now.outputs (sym c.self.inside.outputs.ok.0) (c.write.ensures.same ∙ c.deref_mut.ensures.value) (ap (λ (s : FileState). s.outputs) c.self.view_is))

pub returns-in-Some-clause-frame : goal.returns-in-Some-clause-frame
returns-in-Some-clause-frame g c = rw (← c.self.view_is) (record {
  inputs = refl;
  files = refl;
  later = λ kind name. omega arith;
})

pub returns-in-None-clause-frame : goal.returns-in-None-clause-frame
returns-in-None-clause-frame g c = rw (← c.self.view_is) (record {
  inputs = refl;
  files = refl;
  later = c.raise.ensures.later;
})
