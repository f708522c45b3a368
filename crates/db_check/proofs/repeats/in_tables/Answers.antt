use Rattle.db_cause.specs.declared.cause.Cause.TheVariants as cause
use Rattle.db_check.proofs.FirstFault.{step_on, at_end}
use Rattle.db_model.specs.NameFaults.{repeated_in_table}
use Rattle.db_check.proofs.repeats.in_tables.Goals as goal

pub loop-table-preserved : goal.loop-table-preserved
loop-table-preserved c = step_on repeated_in_table cause.DeclaredAgain c.args.tables.now c.loop-table.table-index c.table-item.result c.loop-table.found c.in_ok-of_table.field-0 c.earlier-found.result _ c.loop-table-test.true c.table-item.is (c.in_ok-of_table.ensures) c.earlier-found.ensures c.loop-table.invariant

pub returns : goal.returns
returns c = at_end repeated_in_table cause.DeclaredAgain c.args.tables.now c.loop-table.table-index c.loop-table.found _ c.loop-table-test.false c.loop-table.invariant
