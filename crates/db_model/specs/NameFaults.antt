-- The faults of names: one that is declared twice (40), and one that is used and isn't declared (41).
use Rattle.std.specs.Prelude.{ℕ, Bool, false, not, ◌||◌, List, [], ◌∷◌, ◌++◌, map, codes, Option, Some, None}
use Rattle.db_model.specs.declared.database.Database.{Database}
use Rattle.db_model.specs.declared.database.Protocol.{Protocol}
use Rattle.db_model.specs.declared.database.SumItem.{SumItem}
use Rattle.db_model.specs.declared.database.SumItem.TheVariants as item
use Rattle.db_model.specs.declared.database.SumStruct.{SumStruct}
use Rattle.db_model.specs.declared.database.SumTemplate.{SumTemplate}
use Rattle.db_model.specs.declared.database.TableDecl.{TableDecl}
use Rattle.db_model.specs.declared.database.VarDecl.{VarDecl}
use Rattle.db_model.specs.declared.element.Element.TheOpen as layer
use Rattle.db_model.specs.declared.element.FieldForm.{FieldForm}
use Rattle.db_model.specs.declared.element.FieldForm.TheVariants as form
use Rattle.db_model.specs.declared.element.UpdateKey.{UpdateKey}
use Rattle.db_model.specs.declared.element.UpdateValue.{UpdateValue}
use Rattle.db_model.specs.declared.expression.Expr.{Expr}
use Rattle.db_model.specs.declared.expression.Literal.{Literal}
use Rattle.db_model.specs.declared.expression.Literal.TheVariants as literal
use Rattle.db_model.specs.Folds.{ElementOf}
use Rattle.db_model.specs.Forms.{if_there}
use Rattle.db_model.specs.Lines.{Lines, over, over_option, at_line, lines_in}
use Rattle.db_model.specs.Names.{Text, startproto}
use Rattle.db_model.specs.Numbering.{field_names, blocks_in}
use Rattle.db_model.specs.Special.{special_names}
use Rattle.db_model.specs.Typing.{is_among, is_table, is_protocol, has_undeclared}

-- ---- declared before, in the same space

-- a declaration is its name and its line
abbrev pub Declared : Type 0
Declared = Text × ℕ

-- the lines of the declarations whose name stands among those before
abbrev pub repeated : List Text → List Declared → Lines
repeated names [] = []
repeated names (d ∷ ds) = at_line d.1 (is_among d.0 names) ++ repeated (d.0 ∷ names) ds

-- the name that no protocol may have
abbrev pub payload_name : Text
payload_name = codes "payload"

-- the keys and the data of one table are one space
abbrev pub repeated_in_table : TableDecl → Lines
repeated_in_table t = repeated [] (map (λ k. (k.name, k.line)) t.keys ++ map (λ c. (c.name, c.line)) t.columns)

abbrev pub repeated_blocks : Protocol → Lines
repeated_blocks p = repeated [] (map (λ b. (b.name, b.line)) (blocks_in p.format))

abbrev pub repeated_sections : SumStruct → Lines
repeated_sections s = repeated [] (map (λ d. (d.name, d.line)) s.sections)

-- fault 40: a name that is declared before it in the same space, or may not be declared
unfoldable pub fault_40 : Database → Lines
fault_40 db =
    repeated (payload_name ∷ []) (map (λ d. (d.name, d.line)) db.protocols)
    ++ (repeated special_names (map (λ d. (d.name, d.line)) db.variables)
    ++ (repeated [] (map (λ d. (d.name, d.line)) db.tables)
    ++ (over repeated_in_table db.tables
    ++ (repeated [] (map (λ d. (d.name, d.line)) db.show_templates)
    ++ (repeated [] (map (λ d. (d.name, d.line)) db.sum_templates)
    ++ (over_option repeated_sections db.sum_struct
    ++ over repeated_blocks db.protocols))))))

-- ---- used and not declared

module _ (db : Database) (fields blocks : List Text) where
  abbrev pub is_unknown : Expr → Bool
  is_unknown = has_undeclared db fields

  abbrev pub form_is_unknown : FieldForm → Bool
  form_is_unknown (form.Fixed size) = false
  form_is_unknown (form.Bit size mask) = false
  form_is_unknown (form.Variable e) = is_unknown e
  form_is_unknown (form.TokenEnded token) = false
  form_is_unknown form.Line = false
  form_is_unknown (form.Padding align) = false

  abbrev pub is_template : Text → Bool
  is_template name = is_among name (map (λ d. d.name) db.show_templates)

  abbrev pub own_41 : ElementOf Lines → Lines
  own_41 (layer.Field line name f longname show) = at_line line (form_is_unknown f || not (if_there is_template show))
  own_41 (layer.Block line name longname body) = []
  own_41 (layer.IncludeBlock line name) = at_line line (not (is_among name blocks))
  own_41 (layer.Loop line k e body) = at_line line (is_unknown e)
  own_41 (layer.LoopCtrl line c) = []
  own_41 (layer.Switch line e cases other) = at_line line (is_unknown e)
  own_41 (layer.If line e true_line so other) = at_line line (is_unknown e)
  own_41 (layer.Assign line name e) = at_line line (is_unknown e || (is_among name special_names || not (is_among name (map (λ d. d.name) db.variables))))
  own_41 (layer.Update line table validity keep hit keys row) = at_line line (not (is_table db table)) ++ (over (λ (k : UpdateKey). at_line k.line (is_unknown k.value)) keys ++ over (λ (v : UpdateValue). at_line v.line (is_unknown v.value)) row)
  own_41 (layer.NextProto line e) = at_line line (is_unknown e)

abbrev pub literal_is_unknown : Database → Literal → Bool
literal_is_unknown db (literal.Number n) = false
literal_is_unknown db (literal.Text b) = false
literal_is_unknown db (literal.Protocol name) = not (is_protocol db name)

abbrev pub sections_of : Option SumStruct → List Text
sections_of None = []
sections_of (Some s) = map (λ d. d.name) s.sections

abbrev pub item_41 : Database → SumItem → Lines
item_41 db (item.Section line name) = at_line line (not (is_among name (sections_of db.sum_struct)))
item_41 db (item.Text line value) = []
item_41 db (item.ProtoField line name) = []
item_41 db (item.PacketHdr line value) = []

abbrev pub block_names : Protocol → List Text
block_names p = map (λ b. b.name) (blocks_in p.format)

abbrev pub protocol_41 : Database → Protocol → Lines
protocol_41 db p =
    at_line p.line (not (if_there (λ name. is_among name (map (λ d. d.name) db.sum_templates)) p.showsum))
    ++ lines_in (own_41 db (field_names p) (block_names p)) p

-- fault 41: a name that is used and isn't declared, a special variable that is assigned, or no protocol to begin with
unfoldable pub fault_41 : Database → Lines
fault_41 db =
    at_line db.line (not (is_protocol db startproto))
    ++ (over (λ (v : VarDecl). at_line v.line (literal_is_unknown db v.value)) db.variables
    ++ (over (λ (t : SumTemplate). over (item_41 db) t.items) db.sum_templates
    ++ over (protocol_41 db) db.protocols))
