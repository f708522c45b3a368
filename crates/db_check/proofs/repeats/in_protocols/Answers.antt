use Rattle.std.proofs.Common.{◌∙◌, ap, map, []}
use Rattle.db_cause.specs.declared.cause.Cause.TheVariants as cause
use Rattle.db_model.specs.declared.database.NamedBlock.{NamedBlock}
use Rattle.db_model.specs.NameFaults.{repeated, repeated_blocks}
use Rattle.db_check.specs.First.{first}
use Rattle.db_check.proofs.FirstFault.{step_on}
use Rattle.db_check.proofs.repeats.in_protocols.Goals as goal

pub loop-protocol-preserved : goal.loop-protocol-preserved
loop-protocol-preserved c = step_on repeated_blocks cause.DeclaredAgain c.args.protocols.now c.loop-protocol.protocol-index c.protocol-item.result c.loop-protocol.found c.in_ok-again.again c.earlier-found.result _ c.loop-protocol-test.true c.protocol-item.is
    (c.in_ok-again.ensures ∙ ap (λ l. first cause.DeclaredAgain (repeated [] (map (λ (b : NamedBlock). (b.name, b.line)) l))) c.named_blocks.ensures) c.earlier-found.ensures c.loop-protocol.invariant
