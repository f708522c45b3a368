-- The examples of faults, computed.
use denote.Hole.Carrier.{hidden}
use Rattle.std.proofs.Common.{refl}
use Rattle.db_model.specs.declared.element.Element.TheBlock.{hidden-the_row-Element-0, hidden-the_row-Case-1}
use Rattle.db_model.specs.declared.expression.Expr.TheBlock.{hidden-the_row-Expr-0, hidden-the_row-Expr-1}
use Rattle.db_model.specs.BlockFaults.{fault_45, fault_46}
use Rattle.db_model.specs.NameFaults.{fault_40, fault_41}
use Rattle.db_model.specs.NumberFaults.{fault_43, fault_44}
use Rattle.db_model.specs.Numbering.{counts_of, names_of, field_names}
use Rattle.db_model.specs.Objection.{faults, objection}
use Rattle.db_model.specs.TypeFaults.{fault_42, fault_47}
use Rattle.db_model.specs.Typing.{type_of}
use Rattle.db_examples.specs.FaultExamples.{BitGroups, EntriesAreBounded, TimesOfUpdates, LeastLineFirst, FaultsAreFound, CirclesAreFound, BlocksNest, ChainsOfIncludes}

-- what computing them opens
abbrev pub opened : Unit {0}
unfolding objection faults fault_40 fault_41 fault_42 fault_43 fault_44 fault_45 fault_46 fault_47 type_of counts_of names_of field_names hidden-the_row-Element-0 hidden-the_row-Case-1 hidden-the_row-Expr-0 hidden-the_row-Expr-1 hidden
opened = tt

pub bit_groups : BitGroups
unfolding opened
bit_groups = refl

pub entries_are_bounded : EntriesAreBounded
unfolding opened
entries_are_bounded = refl

pub times_of_updates : TimesOfUpdates
unfolding opened
times_of_updates = refl

pub least_line_first : LeastLineFirst
unfolding opened
least_line_first = refl

pub faults_are_found : FaultsAreFound
unfolding opened
faults_are_found = refl

pub circles_are_found : CirclesAreFound
unfolding opened
circles_are_found = refl

pub blocks_nest : BlocksNest
unfolding opened
blocks_nest = refl

pub chains_of_includes : ChainsOfIncludes
unfolding opened
chains_of_includes = refl
