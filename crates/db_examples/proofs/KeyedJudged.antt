-- The database with one table is shaped and accepted, computed.
use denote.Hole.Carrier.{hidden}
use Rattle.std.proofs.Common.{refl}
use Rattle.db_model.specs.declared.element.Element.TheBlock.{hidden-the_row-Element-0, hidden-the_row-Case-1}
use Rattle.db_model.specs.declared.expression.Expr.TheBlock.{hidden-the_row-Expr-0, hidden-the_row-Expr-1}
use Rattle.db_model.specs.BlockFaults.{fault_45, fault_46}
use Rattle.db_model.specs.Forms.{is_expression}
use Rattle.db_model.specs.Name.{is_name, reserved, spelling}
use Rattle.db_model.specs.NameFaults.{fault_40, fault_41}
use Rattle.db_model.specs.NumberFaults.{fault_43, fault_44}
use Rattle.db_model.specs.Numbering.{counts_of, names_of, field_names}
use Rattle.db_model.specs.Objection.{faults, objection}
use Rattle.db_model.specs.Shape.{is_shaped}
use Rattle.db_examples.specs.KeyedSample.{keyed_db, start}
use Rattle.std.specs.Prelude.{◌≡◌, ℕ, true, List, [], ◌∷◌, None}
use Rattle.std.proofs.Common.{ap, ◌∙◌}
use Rattle.db_model.specs.declared.database.Database.{Database}
use Rattle.db_model.specs.declared.database.Protocol.{Protocol}
use Rattle.db_model.specs.declared.database.ShowTemplate.{ShowTemplate}
use Rattle.db_model.specs.declared.database.SumTemplate.{SumTemplate}
use Rattle.db_model.specs.declared.database.TableDecl.{TableDecl}
use Rattle.db_model.specs.declared.database.VarDecl.{VarDecl}
use Rattle.db_examples.specs.TableSample.{one_table}
use Rattle.db_model.specs.TypeFaults.{fault_42, fault_47}
use Rattle.db_model.specs.Typing.{type_of}

pub keyed_shaped : is_shaped keyed_db ≡ true
unfolding is_shaped is_expression objection faults fault_40 fault_41 fault_42 fault_43 fault_44 fault_45 fault_46 fault_47 type_of counts_of names_of field_names keyed_db hidden-the_row-Element-0 hidden-the_row-Case-1 hidden-the_row-Expr-0 hidden-the_row-Expr-1 hidden is_name reserved spelling
keyed_shaped = refl

pub keyed_accepted : objection keyed_db ≡ None
unfolding is_shaped is_expression objection faults fault_40 fault_41 fault_42 fault_43 fault_44 fault_45 fault_46 fault_47 type_of counts_of names_of field_names keyed_db hidden-the_row-Element-0 hidden-the_row-Case-1 hidden-the_row-Expr-0 hidden-the_row-Expr-1 hidden is_name reserved spelling
keyed_accepted = refl

abbrev pub made : ℕ → List VarDecl → List TableDecl → List ShowTemplate → List SumTemplate → List Protocol → Database
made line vs ts ss ms ps = record { line = line; name = None; version = None; creator = None; date = None; variables = vs; tables = ts; show_templates = ss; sum_struct = None; sum_templates = ms; protocols = ps }

-- made one by one, its parts are those of the sample
pub keyed_made : (vs : List VarDecl) (ts : List TableDecl) (ss : List ShowTemplate) (ms : List SumTemplate) (ps : List Protocol) (t : TableDecl) (p : Protocol)
    → vs ≡ [] → ts ≡ t ∷ [] → t ≡ one_table → ss ≡ [] → ms ≡ [] → ps ≡ p ∷ [] → p ≡ start
    → made 1 vs ts ss ms ps ≡ keyed_db
unfolding keyed_db
keyed_made vs ts ss ms ps t p v e et s m f ep = λ i. made 1 (v i) ((e ∙ ap (λ x. x ∷ []) et) i) (s i) (m i) ((f ∙ ap (λ x. x ∷ []) ep) i)
