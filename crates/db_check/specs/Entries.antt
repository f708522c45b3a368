-- The faults of one table, behind tables with so many exact entries.
use Rattle.std.specs.Prelude.{ℕ, ◌+◌, Bool, ◌||◌, nat_lt, ◌++◌, map}
use Rattle.db_model.specs.declared.database.Database.{Database}
use Rattle.db_model.specs.declared.database.TableDecl.{TableDecl}
use Rattle.db_model.specs.declared.limits.TheConstants.{MOST_EXACT, MOST_EXACT_OVER_ALL, MOST_MASKED, MOST_PROTOCOLS, MOST_VARIABLES, MOST_TABLES, MOST_SHOW_TEMPLATES, MOST_SUM_TEMPLATES}
use Rattle.db_model.specs.Lines.{Lines, over, at_line}
use Rattle.db_model.specs.NumberFaults.{is_outside, key_43, column_43, too_many}

abbrev pub too_many_entries : ℕ → TableDecl → Bool
too_many_entries before t = is_outside 1 MOST_EXACT t.exact_entries || (nat_lt MOST_EXACT_OVER_ALL (before + t.exact_entries) || nat_lt MOST_MASKED t.mask_entries)

abbrev pub table_lines : ℕ → TableDecl → Lines
table_lines before t = at_line t.line (too_many_entries before t) ++ (over key_43 t.keys ++ over column_43 t.columns)

-- the first declarations too many
abbrev pub excess_lines : Database → Lines
excess_lines db =
    too_many MOST_PROTOCOLS (map (λ d. d.line) db.protocols)
    ++ (too_many MOST_VARIABLES (map (λ d. d.line) db.variables)
    ++ (too_many MOST_TABLES (map (λ d. d.line) db.tables)
    ++ (too_many MOST_SHOW_TEMPLATES (map (λ d. d.line) db.show_templates)
    ++ too_many MOST_SUM_TEMPLATES (map (λ d. d.line) db.sum_templates))))
