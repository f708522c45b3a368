use Rattle.std.proofs.Common.{◌∙◌}
use Rattle.db_check.specs.First.{first}
use Rattle.db_check.proofs.FirstFault.{step_on, at_end}
use Rattle.db_model.specs.Lines.{at_line}
use Rattle.db_model.specs.NameFaults.{block_names}
use Rattle.db_check.specs.Own.{cause_of, key_lines}
use Rattle.db_check.proofs.own.of_keys.Goals as goal

pub loop-key-preserved : goal.loop-key-preserved
loop-key-preserved c = step_on (key_lines c.args.around.now.scope.database.now c.args.around.now.scope.fields.now (block_names c.args.around.now.protocol.now) c.args.kind) (cause_of c.args.kind) c.args.keys.now c.loop-key.key-index c.key-item.result c.loop-key.found c.at_line.result c.earlier-found.result _ c.loop-key-test.true c.key-item.is (c.at_line.ensures ∙ (λ i. first (c.cause.ensures i) (at_line c.key-item.result.line (c.fails-wrong.ensures i)))) c.earlier-found.ensures c.loop-key.invariant

pub returns : goal.returns
returns c = at_end (key_lines c.args.around.now.scope.database.now c.args.around.now.scope.fields.now (block_names c.args.around.now.protocol.now) c.args.kind) (cause_of c.args.kind) c.args.keys.now c.loop-key.key-index c.loop-key.found _ c.loop-key-test.false c.loop-key.invariant
