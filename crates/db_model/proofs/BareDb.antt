-- The smallest database is shaped, and nothing is wrong with it.
use Rattle.std.specs.Prelude.{◌≡◌, true, List, [], ◌∷◌, None}
use Rattle.std.proofs.Common.{refl, ◌∙◌}
use Rattle.db_model.specs.declared.database.Database.{Database}
use Rattle.db_model.specs.declared.database.Protocol.{Protocol}
use Rattle.db_model.specs.declared.database.ShowTemplate.{ShowTemplate}
use Rattle.db_model.specs.declared.database.SumTemplate.{SumTemplate}
use Rattle.db_model.specs.declared.database.TableDecl.{TableDecl}
use Rattle.db_model.specs.declared.database.VarDecl.{VarDecl}
use Rattle.db_model.specs.Bare.{bare}
use Rattle.db_model.specs.BlockFaults.{fault_45, fault_46}
use Rattle.db_model.specs.Name.{is_name, reserved, spelling}
use Rattle.db_model.specs.NameFaults.{fault_40, fault_41}
use Rattle.db_model.specs.Names.{Text, startproto}
use Rattle.db_model.specs.NumberFaults.{fault_43, fault_44}
use Rattle.db_model.specs.Numbering.{field_names}
use Rattle.db_model.specs.Objection.{faults, objection}
use Rattle.db_model.specs.Shape.{is_shaped}
use Rattle.db_model.specs.TypeFaults.{fault_42, fault_47}

pub bare_shaped : is_shaped bare ≡ true
unfolding is_shaped is_name reserved spelling
bare_shaped = refl

pub bare_accepted : objection bare ≡ None
unfolding objection faults fault_40 fault_41 fault_42 fault_43 fault_44 fault_45 fault_46 fault_47 field_names
bare_accepted = refl

-- the parts of it, made one by one
abbrev pub made : Text → List VarDecl → List TableDecl → List ShowTemplate → List SumTemplate → List Protocol → Database
made name vs ts ss ms ps = record { line = 1; name = None; version = None; creator = None; date = None; variables = vs; tables = ts; show_templates = ss; sum_struct = None; sum_templates = ms; protocols = ps }

abbrev pub start : Text → Protocol
start name = record { line = 1; name = name; longname = None; showsum = None; execute_code = None; format = None; encapsulation = None }

pub made_bare : (name : Text) (vs : List VarDecl) (ts : List TableDecl) (ss : List ShowTemplate) (ms : List SumTemplate) (ps : List Protocol)
    → name ≡ startproto → vs ≡ [] → ts ≡ [] → ss ≡ [] → ms ≡ [] → ps ≡ start name ∷ [] → made name vs ts ss ms ps ≡ bare
made_bare name vs ts ss ms ps e v t s m p = (λ i. made (e i) (v i) (t i) (s i) (m i) (p i)) ∙ (λ i. made startproto [] [] [] [] (start (e i) ∷ []))
