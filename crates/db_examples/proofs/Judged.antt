-- Which of the sample databases are accepted, and what is said of the others, computed.
use denote.Hole.Carrier.{hidden}
use Rattle.std.proofs.Common.{refl}
use Rattle.db_model.specs.declared.element.Element.TheBlock.{hidden-the_row-Element-0, hidden-the_row-Case-1}
use Rattle.db_model.specs.declared.expression.Expr.TheBlock.{hidden-the_row-Expr-0, hidden-the_row-Expr-1}
use Rattle.db_model.specs.BlockFaults.{fault_45, fault_46}
use Rattle.db_examples.specs.Examples.{DatabasesAreJudged, SizesAreTyped}
use Rattle.db_model.specs.Forms.{is_expression}
use Rattle.db_model.specs.Name.{is_name, reserved, spelling}
use Rattle.db_model.specs.NameFaults.{fault_40, fault_41}
use Rattle.db_model.specs.NumberFaults.{fault_43, fault_44}
use Rattle.db_model.specs.Numbering.{counts_of, names_of, field_names}
use Rattle.db_model.specs.Objection.{faults, objection}
use Rattle.db_examples.specs.SessionSample.{sessions_db}
use Rattle.db_model.specs.Shape.{is_shaped}
use Rattle.db_examples.specs.TableSample.{table_db}
use Rattle.db_model.specs.TypeFaults.{fault_42, fault_47}
use Rattle.db_model.specs.Typing.{type_of}

pub databases_are_judged : DatabasesAreJudged
unfolding is_shaped is_expression objection faults fault_40 fault_41 fault_42 fault_43 fault_44 fault_45 fault_46 fault_47 type_of counts_of names_of field_names sessions_db table_db hidden-the_row-Element-0 hidden-the_row-Case-1 hidden-the_row-Expr-0 hidden-the_row-Expr-1 hidden is_name reserved spelling
databases_are_judged = record {
  sessions_shaped = refl;
  sessions_accepted = refl;
  table_shaped = refl;
  table_accepted = refl;
  frame_accepted = refl;
  unfollowed = refl;
  looping = refl;
  no_start = refl;
}

pub sizes_are_typed : SizesAreTyped
unfolding type_of hidden-the_row-Expr-0 hidden-the_row-Expr-1 hidden
sizes_are_typed = record { four = refl; five = refl; none = refl }
