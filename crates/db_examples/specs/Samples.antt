-- Words with which databases are written down as values, and the smallest samples.
use Rattle.std.specs.Prelude.{ℕ, List, [], ◌∷◌, codes, Option, Some, None}
use Rattle.db_model.specs.declared.database.Database.{Database}
use Rattle.db_model.specs.declared.database.ElementList.{ElementList}
use Rattle.db_model.specs.declared.database.ExecuteCode.{ExecuteCode}
use Rattle.db_model.specs.declared.database.Format.{Format}
use Rattle.db_model.specs.declared.database.NamedBlock.{NamedBlock}
use Rattle.db_model.specs.declared.database.Protocol.{Protocol}
use Rattle.db_model.specs.declared.element.Element as element
use Rattle.db_model.specs.declared.element.Element.{Element}
use Rattle.db_model.specs.declared.element.FieldForm.TheVariants as form
use Rattle.db_model.specs.declared.expression.Expr as expr
use Rattle.db_model.specs.declared.expression.Expr.{Expr}
use Rattle.db_model.specs.Folds.{CaseOf, BranchOf}
use Rattle.db_model.specs.Names.{Text}

-- ---- elements

abbrev pub fixed : ℕ → Text → ℕ → Element
fixed line name size = element.Field line name (form.Fixed size) None None

abbrev pub shown : ℕ → Text → ℕ → Text → Element
shown line name size show = element.Field line name (form.Fixed size) None (Some show)

abbrev pub bits : ℕ → Text → ℕ → ℕ → Element
bits line name size mask = element.Field line name (form.Bit size mask) None None

abbrev pub case : ℕ → ℕ → List Element → CaseOf Element
case line value body = record { line = line; value = value; maxvalue = value; body = body }

abbrev pub branch : ℕ → List Element → BranchOf Element
branch line body = record { line = line; body = body }

abbrev pub list : ℕ → List Element → Option ElementList
list line xs = Some (record { line = line; elements = xs })

-- ---- protocols

abbrev pub protocol : ℕ → Text → Option ExecuteCode → Option Format → Option ElementList → Protocol
protocol line name code format encapsulation = record { line = line; name = name; longname = None; showsum = None; execute_code = code; format = format; encapsulation = encapsulation }

abbrev pub fields : ℕ → List Element → List NamedBlock → Option Format
fields line xs blocks = Some (record { line = line; fields = list line xs; blocks = blocks })

abbrev pub named_block : ℕ → Text → List Element → NamedBlock
named_block line name body = record { line = line; name = name; longname = None; body = body }

abbrev pub database : List Protocol → Database
database ps = record {
  line = 1;
  name = None;
  version = None;
  creator = None;
  date = None;
  variables = [];
  tables = [];
  show_templates = [];
  sum_struct = None;
  sum_templates = [];
  protocols = ps;
}

-- ---- the smallest samples

-- a frame of which two bytes are a field
abbrev pub frame_db : Database
frame_db = database
    (protocol 2 (codes "startproto") None None (list 2 (element.NextProto 2 (expr.Protocol (codes "frame")) ∷ []))
    ∷ protocol 3 (codes "frame") None (fields 3 (fixed 3 (codes "head") 2 ∷ []) []) None
    ∷ [])

-- a bit field that isn't followed by its like
abbrev pub unfollowed_db : Database
unfollowed_db = database (protocol 2 (codes "startproto") None (fields 2 (bits 3 (codes "a") 1 0xf0 ∷ fixed 4 (codes "b") 1 ∷ []) []) None ∷ [])

-- two blocks that include each other
abbrev pub looping_db : Database
looping_db = database
    (protocol 2 (codes "startproto") None
    (fields 2 (element.IncludeBlock 2 (codes "x") ∷ [])
    (named_block 3 (codes "x") (element.IncludeBlock 3 (codes "y") ∷ []) ∷ named_block 4 (codes "y") (element.IncludeBlock 4 (codes "x") ∷ []) ∷ []))
    None
    ∷ [])

-- a database without protocols
abbrev pub empty_db : Database
empty_db = database []
