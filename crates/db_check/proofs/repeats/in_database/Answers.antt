use Rattle.std.proofs.Common.{◌∙◌, ap, sym, map, [], ◌∷◌}
use Rattle.db_cause.specs.declared.cause.Cause.TheVariants as cause
use Rattle.db_model.specs.declared.database.Protocol.{Protocol}
use Rattle.db_model.specs.declared.database.ShowTemplate.{ShowTemplate}
use Rattle.db_model.specs.declared.database.SumTemplate.{SumTemplate}
use Rattle.db_model.specs.declared.database.TableDecl.{TableDecl}
use Rattle.db_model.specs.declared.database.VarDecl.{VarDecl}
use Rattle.db_model.specs.LeastFault.{earlier}
use Rattle.db_model.specs.Lines.{over}
use Rattle.db_model.specs.NameFaults.{payload_name, repeated, repeated_in_table, repeated_blocks}
use Rattle.db_model.specs.Special.{special_names}
use Rattle.db_check.specs.First.{first}
use Rattle.db_check.proofs.Whole.{all_40}
use Rattle.db_check.proofs.repeats.in_database.Goals as goal

pub returns : goal.returns
returns c =
    let protocols = c.in_ok-protocols.ensures ∙ ap (λ l. first cause.DeclaredAgain (repeated (payload_name ∷ []) (map (λ (d : Protocol). (d.name, d.line)) l))) c.as_slice.ensures in
    let variables = c.in_ok-variables.ensures ∙ ap (λ l. first cause.DeclaredAgain (repeated special_names (map (λ (d : VarDecl). (d.name, d.line)) l))) c.as_slice-2.ensures in
    let tables = c.in_ok-tables.ensures ∙ ap (λ l. first cause.DeclaredAgain (repeated [] (map (λ (d : TableDecl). (d.name, d.line)) l))) c.as_slice-3.ensures in
    let columns = c.in_ok-columns.ensures ∙ ap (λ l. first cause.DeclaredAgain (over repeated_in_table l)) c.as_slice-4.ensures in
    let shows = c.in_ok-shows.ensures ∙ ap (λ l. first cause.DeclaredAgain (repeated [] (map (λ (d : ShowTemplate). (d.name, d.line)) l))) c.as_slice-5.ensures in
    let sums = c.in_ok-sums.ensures ∙ ap (λ l. first cause.DeclaredAgain (repeated [] (map (λ (d : SumTemplate). (d.name, d.line)) l))) c.as_slice-6.ensures in
    let blocks = c.in_ok-blocks.ensures ∙ ap (λ l. first cause.DeclaredAgain (over repeated_blocks l)) c.as_slice-7.ensures in
    let sections_on = c.earlier.ensures ∙ (λ i. earlier (c.in_ok-sections.ensures i) (blocks i)) in
    let sums_on = c.earlier-inner.ensures ∙ (λ i. earlier (sums i) (sections_on i)) in
    let shows_on = c.earlier-templates.ensures ∙ (λ i. earlier (shows i) (sums_on i)) in
    let columns_on = c.earlier-2.ensures ∙ (λ i. earlier (columns i) (shows_on i)) in
    let tables_on = c.earlier-in_tables.ensures ∙ (λ i. earlier (tables i) (columns_on i)) in
    let variables_on = c.earlier-3.ensures ∙ (λ i. earlier (variables i) (tables_on i)) in
    (c.earlier-4.ensures ∙ (λ i. earlier (protocols i) (variables_on i))) ∙ sym (all_40 c.args.database.now)
