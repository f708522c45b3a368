-- The show templates of a checked database can be shown.
use Rattle.std.specs.Prelude.{◌≡◌, ℕ, zero, suc, ◌≤◌, Bool, true, false, List, [], ◌∷◌, ◌++◌, map, slice_get, Option, Some, None}
use Rattle.std.proofs.Common.{refl, sym, ap, ◌∙◌, arith}
use Rattle.std.proofs.lemmas.Bool.Decides.{nat_tests}
use Rattle.db_model.specs.declared.database.Database.{Database}
use Rattle.db_model.specs.declared.database.ShowTemplate.{ShowTemplate}
use Rattle.db_model.specs.declared.database.ShowType.{ShowType}
use Rattle.db_model.specs.declared.database.ShowType.TheVariants.{Hex, Dec, Ascii}
use Rattle.db_model.specs.declared.limits.TheConstants.{MOST_DECIMAL_GROUP, MOST_PROTOCOLS, MOST_VARIABLES, MOST_TABLES, MOST_SHOW_TEMPLATES, MOST_SUM_TEMPLATES}
use Rattle.db_model.specs.Lines.{Lines, over, at_line, lines_in}
use Rattle.db_model.specs.NumberFaults.{own_43, tables_43, template_43, too_many, fault_43, group_is_outside}
use Rattle.db_model.specs.Objection.{IsChecked, objection}
use Rattle.db_model.proofs.Accepted.{append_front, append_back, no_faults}
use Rattle.show.specs.Shown.{IsShowable}

none_over : (ts : List ShowTemplate) (n : ℕ) (t : ShowTemplate) → over template_43 ts ≡ [] → slice_get ts n ≡ Some t → template_43 t ≡ []
none_over [] n t e is = (cc)
none_over (x ∷ ts) zero t e is = let same : x ≡ t = cc in ap template_43 (sym same) ∙ append_front (template_43 x) (over template_43 ts) e
none_over (x ∷ ts) (suc n) t e is = none_over ts n t (append_back (template_43 x) (over template_43 ts) e) is

not_at_line : (line : ℕ) (b : Bool) → at_line line b ≡ [] → b ≡ false
not_at_line line true e = (cc)
not_at_line line false e = refl

within : (kind : ShowType) (n : ℕ) → group_is_outside kind n ≡ false → kind ≡ Dec → (1 ≤ n) × (n ≤ MOST_DECIMAL_GROUP)
within Hex n e is = absurd (cc)
within Dec n e is = grind (arith, nat_tests)
within Ascii n e is = absurd (cc)

of_lines : (t : ShowTemplate) → template_43 t ≡ [] → IsShowable (Some t)
of_lines t e = within t.show_type t.group (not_at_line t.line (group_is_outside t.show_type t.group) e)

templates_of : (db : Database) → objection db ≡ None → over template_43 db.show_templates ≡ []
unfolding fault_43
templates_of db e =
    let few : Lines = too_many MOST_PROTOCOLS (map (λ d. d.line) db.protocols) ++ (too_many MOST_VARIABLES (map (λ d. d.line) db.variables) ++ (too_many MOST_TABLES (map (λ d. d.line) db.tables) ++ (too_many MOST_SHOW_TEMPLATES (map (λ d. d.line) db.show_templates) ++ too_many MOST_SUM_TEMPLATES (map (λ d. d.line) db.sum_templates)))) in
    let rest : Lines = over (lines_in own_43) db.protocols ++ few in
    append_front (over template_43 db.show_templates) rest (append_back (tables_43 0 db.tables) (over template_43 db.show_templates ++ rest) (no_faults db e).none_43)

-- a template that was found among those of a checked database
pub is_showable : (db : Database) (n : ℕ) (found : Option ShowTemplate) → IsChecked db → slice_get db.show_templates n ≡ found → IsShowable found
is_showable db n None checked is = tt
is_showable db n (Some t) checked is = of_lines t (none_over db.show_templates n t (templates_of db checked.accepted) is)
