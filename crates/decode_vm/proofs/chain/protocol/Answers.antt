use Rattle.std.proofs.Common.{◌∙◌, sym, ap, slice_get}
use Rattle.db_model.specs.declared.database.Database.{Database}
use Rattle.decode_vm.proofs.Chains.{code_there, entering_placed, has_run, protocol_ends, undeclared}
use Rattle.decode_vm.proofs.chain.protocol.Goals as goal

pub unreachable-requires : goal.unreachable-requires
unreachable-requires g c = code_there c.args.db.now c.args.code.now c.requires.code c.args.number c.in-Some._declared.now (ap (λ (y : Database). slice_get y.protocols c.args.number) (sym c.database.ensures.database) ∙ sym c.in-Some.ensures.value) (sym c.in_default-get.ensures.value)

pub run-requires-clause-placed : goal.run-requires-clause-placed
run-requires-clause-placed g c = entering_placed c.clear.new.self c.args.frame c.requires.placed

pub run-requires-clause-runs : goal.run-requires-clause-runs
run-requires-clause-runs g c = has_run c.args.db.now c.args.code.now c.requires.code c.args.number c.in-Some._declared.now (ap (λ (y : Database). slice_get y.protocols c.args.number) (sym c.database.ensures.database) ∙ sym c.in-Some.ensures.value) c.in-Some-get.code.now (sym c.in-Some-get.ensures.value) c.args.frame c.clear.new.self c.clear.ensures c.requires.fit

pub returns-clause-ends : goal.returns-clause-ends
returns-clause-ends g c = protocol_ends c.args.db.now c.args.code.now c.requires.code c.args.number c.in-Some._declared.now (ap (λ (y : Database). slice_get y.protocols c.args.number) (sym c.database.ensures.database) ∙ sym c.in-Some.ensures.value) c.in-Some-get.code.now (sym c.in-Some-get.ensures.value) c.args.frame c.clear.new.self c.clear.ensures c.requires.fit (g.A.Answers.content c.args.answers.now) (g.A.Answers.told c.args.answers.now) c.run.result (g.A.Answers.content c.run.new.answers) (g.A.Answers.told c.run.new.answers) c.run.ensures.ends

pub returns-in_default-clause-ends : goal.returns-in_default-clause-ends
returns-in_default-clause-ends g c =
    undeclared c.args.db.now c.args.number c.args.frame c.clear.new.self c.new.result (g.A.Answers.content c.args.answers.now) (g.A.Answers.told c.args.answers.now) (ap (λ (y : Database). slice_get y.protocols c.args.number) (sym c.database.ensures.database) ∙ sym c.in_default.ensures.value) c.clear.ensures c.new.ensures

pub returns-in_default-clause-placed : goal.returns-in_default-clause-placed
returns-in_default-clause-placed g c = entering_placed c.clear.new.self c.args.frame c.requires.placed
