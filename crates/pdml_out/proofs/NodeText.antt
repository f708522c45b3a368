-- The lines of a node, by its parts.
use Rattle.std.specs.Prelude.{◌≡◌, ℕ, List, Option, ◌++◌, codes}
use Rattle.std.specs.List.{flat_map}
use Rattle.std.proofs.Common.{refl, sym, ap, ◌∙◌, append_assoc}
use Rattle.std.proofs.lemmas.List.Folds.{flat_map-map}
use Rattle.db_model.specs.declared.database.Database.{Database}
use Rattle.db_model.specs.declared.tree.Node as node
use Rattle.db_model.specs.declared.tree.Node.{Node}
use Rattle.db_model.specs.declared.tree.Reason.{Reason}
use Rattle.show.specs.declared.labels.ProtocolLabels.{ProtocolLabels}
use Rattle.show.specs.declared.naming.BlockNaming.{BlockNaming}
use Rattle.show.specs.declared.naming.FieldNaming.{FieldNaming}
use Rattle.show.specs.Labels.{field_at, block_at, labels_of}
use Rattle.show.proofs.NodeLayers.{fold_block}
use Rattle.pdml_out.specs.Pdml.{field_text, block_named, block_line, block_lines, note_line, node_step, node_text, nodes_text}

field_is : (db : Database) (q field pos size : ℕ) (value : List ℕ) → node_text db q (node.Field field pos size value) ≡ field_text db (field_at (labels_of db) q field) pos size value
unfolding node_text
field_is db q field pos size value = refl

note_is : (db : Database) (q : ℕ) (reason : Reason) (pos : ℕ) → node_text db q (node.Note reason pos) ≡ note_line reason pos
unfolding node_text
note_is db q reason pos = refl

block_is : (db : Database) (q block pos size : ℕ) (ns : List Node) → node_text db q (node.Block block pos size ns) ≡ block_lines (block_named (block_at (labels_of db) q block)) pos size (nodes_text db q ns)
unfolding node_text
block_is db q block pos size ns =
    fold_block (List ℕ) (node_step db q) block pos size ns
    ∙ ap (λ (l : List ℕ). block_lines (block_named (block_at (labels_of db) q block)) pos size l) (flat_map-map (λ (l : List ℕ). l) (node_text db q) ns)

-- the text of a field that was found by its number
pub field_found : (db : Database) (labels : List ProtocolLabels) (found : Option FieldNaming) (n : Node) (q field pos size : ℕ) (value bytes : List ℕ) → labels ≡ labels_of db → found ≡ field_at labels q field → bytes ≡ value → n ≡ node.Field field pos size value → field_text db found pos size bytes ≡ node_text db q n
field_found db labels found n q field pos size value bytes own is same e =
    ap (λ (l : Option FieldNaming). field_text db l pos size bytes) (is ∙ ap (λ (ls : List ProtocolLabels). field_at ls q field) own)
    ∙ ap (λ (v : List ℕ). field_text db (field_at (labels_of db) q field) pos size v) same ∙ sym (ap (node_text db q) e ∙ field_is db q field pos size value)

-- the line of a block that was found by its number, its nodes and its end
pub block_found : (db : Database) (labels : List ProtocolLabels) (found : Option BlockNaming) (n : Node) (q block pos size : ℕ) (ns inner : List Node) (t0 t1 t2 : List ℕ) → labels ≡ labels_of db → found ≡ block_at labels q block → inner ≡ ns → n ≡ node.Block block pos size ns → t1 ≡ t0 ++ block_line (block_named found) pos size → t2 ≡ t1 ++ nodes_text db q inner → t2 ++ codes "</block>\n" ≡ t0 ++ node_text db q n
block_found db labels found n q block pos size ns inner t0 t1 t2 own is same e opened within =
    let line : List ℕ = block_line (block_named found) pos size in
    let label = is ∙ ap (λ (ls : List ProtocolLabels). block_at ls q block) own in
    ap (λ (l : List ℕ). l ++ codes "</block>\n") (within ∙ ap (λ (l : List ℕ). l ++ nodes_text db q inner) opened)
    ∙ append_assoc (t0 ++ line) (nodes_text db q inner) (codes "</block>\n")
    ∙ append_assoc t0 line (nodes_text db q inner ++ codes "</block>\n")
    ∙ ap (λ (l : List ℕ). t0 ++ l)
    (ap (λ (l : Option BlockNaming). block_lines (block_named l) pos size (nodes_text db q inner)) label
    ∙ ap (λ (k : List Node). block_lines (block_named (block_at (labels_of db) q block)) pos size (nodes_text db q k)) same
    ∙ sym (ap (node_text db q) e ∙ block_is db q block pos size ns))

pub note_found : (db : Database) (n : Node) (q : ℕ) (reason : Reason) (pos : ℕ) → n ≡ node.Note reason pos → note_line reason pos ≡ node_text db q n
note_found db n q reason pos e = sym (ap (node_text db q) e ∙ note_is db q reason pos)
