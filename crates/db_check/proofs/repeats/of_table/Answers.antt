use Rattle.std.proofs.Common.{◌∙◌, ap, sym, map, []}
use Rattle.db_cause.specs.declared.cause.Cause.TheVariants as cause
use Rattle.db_model.specs.declared.database.ColumnDecl.{ColumnDecl}
use Rattle.db_model.specs.declared.database.KeyDecl.{KeyDecl}
use Rattle.db_model.specs.LeastFault.{earlier}
use Rattle.db_model.specs.NameFaults.{repeated}
use Rattle.db_check.specs.First.{first}
use Rattle.db_check.proofs.Again.{table_again}
use Rattle.db_check.proofs.repeats.of_table.Goals as goal

pub returns : goal.returns
returns c =
    c.earlier.ensures
    ∙ ((λ i. earlier ((c.in_ok-again.ensures ∙ ap (λ l. first cause.DeclaredAgain (repeated [] (map (λ (k : KeyDecl). (k.name, k.line)) l))) c.as_slice-keys.ensures) i)
    ((c.in_ok-columns.ensures ∙ (λ j. first cause.DeclaredAgain (repeated (map (λ (k : KeyDecl). k.name) (c.as_slice-keys.ensures j)) (map (λ (d : ColumnDecl). (d.name, d.line)) (c.as_slice.ensures j))))) i))
    ∙ sym (table_again c.args.table.now))
