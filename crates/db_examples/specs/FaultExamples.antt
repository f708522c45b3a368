-- Worked examples of the faults of a database: the lines at which one of a kind stands, all faults by line and code, or the one that is answered.
use Rattle.std.specs.Prelude.{ℕ, zero, suc, ◌+◌, ◌/◌, ◌%◌, List, [], ◌∷◌, ◌++◌, codes, Option, Some, None}
use Rattle.db_model.specs.declared.database.Database.{Database}
use Rattle.db_model.specs.declared.database.NamedBlock.{NamedBlock}
use Rattle.db_model.specs.declared.database.TableDecl.{TableDecl}
use Rattle.db_model.specs.declared.element.Element as element
use Rattle.db_model.specs.declared.element.Element.{Element}
use Rattle.db_model.specs.declared.element.LoopKind.TheVariants as kind
use Rattle.db_model.specs.declared.entry.Validity.{Validity}
use Rattle.db_model.specs.declared.entry.Validity.TheVariants.{Forever, MaxTime, UpdateOnHit, AddOnHit}
use Rattle.db_model.specs.declared.expression.Expr as expr
use Rattle.db_model.specs.declared.expression.Operator.TheVariants as op
use Rattle.db_model.specs.declared.fault.Fault.{Fault}
use Rattle.db_model.specs.BlockFaults.{fault_45, fault_46}
use Rattle.db_model.specs.Lines.{Lines}
use Rattle.db_model.specs.Names.{Text}
use Rattle.db_model.specs.NumberFaults.{fault_43, fault_44}
use Rattle.db_model.specs.Objection.{faults, objection}
use Rattle.db_model.specs.TypeFaults.{fault_47}
use Rattle.db_examples.specs.Cases.{AreAlike, in_block, times, choice}
use Rattle.db_examples.specs.Samples.{fixed, bits, case, branch, protocol, fields, named_block, database}
use Rattle.db_examples.specs.TableSample.{one_table}
use Rattle.db_examples.specs.ValueExamples.{special_db, wrong_arity}

-- a database of one protocol, at line 2, with these fields and named blocks
abbrev pub of_blocks : List Element → List NamedBlock → Database
of_blocks xs blocks = record (database (protocol 2 (codes "startproto") None (fields 2 xs blocks) None ∷ [])) { tables = one_table ∷ [] }

abbrev pub of_elements : List Element → Database
of_elements xs = of_blocks xs []

abbrev pub at : ℕ → ℕ → Fault
at line code = record { line = line; code = code }

-- ---- bit fields

-- a bit field of one byte whose mask has bit 0 clear, one of two bytes, and one whose mask has bit 0
abbrev pub high : ℕ → Element
high line = bits line (codes "h") 1 0xf0

abbrev pub high_of_two : ℕ → Element
high_of_two line = bits line (codes "h") 2 0xf0

abbrev pub low : ℕ → Element
low line = bits line (codes "l") 1 0x0f

abbrev pub groups : List (Lines × Lines)
groups =
    (fault_44 (of_elements (high 3 ∷ low 4 ∷ [])), [])
    ∷ (fault_44 (of_elements (high 3 ∷ high 4 ∷ low 5 ∷ [])), [])
    -- one that has bit 0 wants nothing behind it
    ∷ (fault_44 (of_elements (low 3 ∷ low 4 ∷ fixed 5 (codes "a") 1 ∷ [])), [])
    -- the last of its list, before another field, before one of another size
    ∷ (fault_44 (of_elements (high 3 ∷ high 4 ∷ [])), 4 ∷ [])
    ∷ (fault_44 (of_elements (high 3 ∷ fixed 4 (codes "a") 1 ∷ low 5 ∷ [])), 3 ∷ [])
    ∷ (fault_44 (of_elements (high_of_two 3 ∷ low 4 ∷ [])), 3 ∷ [])
    ∷ (fault_44 (of_elements (high 3 ∷ high_of_two 4 ∷ bits 5 (codes "l") 2 0x0f ∷ [])), 3 ∷ [])
    -- one in a block isn't in its list; nor is what stands behind the block in that of the block
    ∷ (fault_44 (of_elements (high 3 ∷ element.Block 4 (codes "x") None (low 5 ∷ []) ∷ [])), 3 ∷ [])
    ∷ (fault_44 (of_elements (element.Block 3 (codes "x") None (high 4 ∷ []) ∷ low 5 ∷ [])), 4 ∷ [])
    -- each list by itself: of loops, cases, the default, both branches and named blocks
    ∷ (
      fault_44 (of_blocks
          (element.Loop 3 kind.Count (expr.Number 1) (high 4 ∷ [])
          ∷ element.Switch 5 (expr.Number 1) (case 6 1 (high 7 ∷ []) ∷ case 8 2 (high 9 ∷ low 10 ∷ []) ∷ []) (Some (branch 11 (high 12 ∷ [])))
          ∷ element.If 13 (expr.Number 1) 14 (high 15 ∷ []) (Some (branch 16 (high 17 ∷ [])))
          ∷ []) (named_block 18 (codes "x") (high 19 ∷ []) ∷ [])),
      4 ∷ 7 ∷ 12 ∷ 15 ∷ 17 ∷ 19 ∷ [],
    )
    ∷ []

abbrev pub BitGroups : Type 0
BitGroups = AreAlike groups

-- ---- the entries of tables

abbrev pub table_of : ℕ → ℕ → ℕ → TableDecl
table_of line exact masked = record one_table { line = line; exact_entries = exact; mask_entries = masked }

abbrev pub with_tables : List TableDecl → Database
with_tables ts = record (database []) { tables = ts }

-- four tables of 65,536 entries are as many as all may have
abbrev pub four_full : List TableDecl
four_full = table_of 2 65536 0 ∷ table_of 3 65536 0 ∷ table_of 4 65536 0 ∷ table_of 5 65536 1024 ∷ []

abbrev pub entries : List (Lines × Lines)
entries =
    (fault_43 (with_tables four_full), [])
    -- each table behind them has too many
    ∷ (fault_43 (with_tables (four_full ++ table_of 6 1 0 ∷ table_of 7 1 0 ∷ [])), 6 ∷ 7 ∷ [])
    ∷ (fault_43 (with_tables (table_of 2 65535 0 ∷ four_full)), 5 ∷ [])
    -- one table alone
    ∷ (fault_43 (with_tables (table_of 2 0 0 ∷ table_of 3 1 1 ∷ table_of 4 65537 0 ∷ table_of 5 1 1025 ∷ [])), 2 ∷ 4 ∷ 5 ∷ [])
    ∷ []

abbrev pub EntriesAreBounded : Type 0
EntriesAreBounded = AreAlike entries

-- ---- the times of updates

-- an update at line 3 with a keep time, a hit time and a mask, where it has them
abbrev pub update_with : Validity → Option ℕ → Option ℕ → Option (List ℕ) → Lines
update_with validity keep hit mask = fault_47 (of_elements (element.Update 3 (codes "t") validity keep hit (record { line = 3; value = expr.Text (1 ∷ []); mask = mask } ∷ []) (record { line = 3; value = expr.Text (2 ∷ []) } ∷ []) ∷ []))

abbrev pub one : Option ℕ
one = Some 1

abbrev pub mask : Option (List ℕ)
mask = Some (0xf0 ∷ [])

abbrev pub times_of_updates : List (Lines × Lines)
times_of_updates =
    (update_with Forever None None None, [])
    ∷ (update_with Forever None None mask, [])
    ∷ (update_with Forever one None None, 3 ∷ [])
    ∷ (update_with Forever None one None, 3 ∷ [])
    ∷ (update_with MaxTime one None None, [])
    ∷ (update_with MaxTime None None None, 3 ∷ [])
    ∷ (update_with MaxTime one one None, 3 ∷ [])
    -- both times
    ∷ (update_with UpdateOnHit one one None, [])
    ∷ (update_with UpdateOnHit one one mask, [])
    ∷ (update_with UpdateOnHit one None None, 3 ∷ [])
    ∷ (update_with UpdateOnHit None one None, 3 ∷ [])
    ∷ (update_with UpdateOnHit None None None, 3 ∷ [])
    -- a hit time and a mask
    ∷ (update_with AddOnHit None one mask, [])
    ∷ (update_with AddOnHit None one None, 3 ∷ [])
    ∷ (update_with AddOnHit None None mask, 3 ∷ [])
    ∷ (update_with AddOnHit one one mask, 3 ∷ [])
    -- a mask has two digits for each byte of its key
    ∷ (update_with Forever None None (Some (0xf0 ∷ 0xf0 ∷ [])), 3 ∷ [])
    ∷ []

abbrev pub TimesOfUpdates : Type 0
TimesOfUpdates = AreAlike times_of_updates

-- ---- the order of faults

abbrev pub verdicts : List (Option Fault × Option Fault)
verdicts =
    -- the least line, whatever its code: 47 at line 3, and a protocol that is declared twice at line 9
    (
      objection (record (database
          (protocol 2 (codes "startproto") None (fields 2 (element.If 3 wrong_arity 3 [] None ∷ []) []) None
          ∷ protocol 9 (codes "startproto") None None None
          ∷ [])) { tables = one_table ∷ [] }),
      Some (at 3 47),
    )
    -- on one line the least code: a bit field that is too wide (43) and isn't followed (44), in whatever order they stand
    ∷ (objection (of_elements (bits 3 (codes "a") 5 0xf0 ∷ [])), Some (at 3 43))
    ∷ (objection (of_elements (high 3 ∷ [])), Some (at 3 44))
    ∷ (objection (of_elements (fixed 3 (codes "a") 0 ∷ high 3 ∷ [])), Some (at 3 43))
    ∷ (objection (of_elements (high 3 ∷ fixed 3 (codes "a") 0 ∷ [])), Some (at 3 43))
    -- a special variable is declared
    ∷ (objection special_db, Some (at 2 40))
    -- no protocol to begin with, and a name `payload`
    ∷ (objection (database (protocol 2 (codes "payload") None None None ∷ [])), Some (at 1 41))
    ∷ []

abbrev pub LeastLineFirst : Type 0
LeastLineFirst = AreAlike verdicts

-- ---- all faults

abbrev pub lists_of_faults : List (List Fault × List Fault)
lists_of_faults =
    -- a name that isn't declared and a wrong number of keys are faults of their own; then no type is wanted
    (faults (of_elements (element.If 3 (expr.Binary op.Add wrong_arity (expr.Variable (codes "y"))) 3 [] None ∷ [])), at 3 41 ∷ at 3 47 ∷ [])
    ∷ (faults (of_elements (element.If 3 wrong_arity 3 [] None ∷ [])), at 3 47 ∷ [])
    ∷ (faults (of_elements (element.If 3 (expr.Text []) 3 [] None ∷ [])), at 3 42 ∷ [])
    -- a special variable is assigned; it has its own type, and not the declared one
    ∷ (faults (record special_db { protocols = protocol 3 (codes "startproto") None (fields 3 (element.Assign 4 (codes "linktype") (expr.Text []) ∷ element.If 5 (expr.Variable (codes "linktype")) 5 [] None ∷ []) []) None ∷ [] }), at 2 40 ∷ at 4 41 ∷ [])
    ∷ []

abbrev pub FaultsAreFound : Type 0
FaultsAreFound = AreAlike lists_of_faults

-- ---- included blocks

abbrev pub include : ℕ → Text → Element
include line name = element.IncludeBlock line name

-- so many blocks in one another, and this in the innermost
abbrev pub nested : ℕ → List Element → List Element
nested zero body = body
nested (suc n) body = in_block (nested n body) ∷ []

-- a named block `p` at line 5
abbrev pub p_of : List Element → List NamedBlock
p_of body = named_block 5 (codes "p") body ∷ []

abbrev pub depths : List (List Fault × List Fault)
depths =
    (faults (of_elements (nested 64 [])), [])
    ∷ (faults (of_elements (nested 65 [])), at 2 46 ∷ [])
    -- a loop adds a level; a condition and a switch add none
    ∷ (faults (of_elements (nested 63 (times 1 [] ∷ []))), [])
    ∷ (faults (of_elements (nested 63 (times 1 (in_block [] ∷ []) ∷ []))), at 2 46 ∷ [])
    ∷ (faults (of_elements (nested 63 (choice (expr.Number 1) (in_block [] ∷ []) (element.Switch 3 (expr.Number 1) (case 3 1 (times 1 [] ∷ []) ∷ []) (Some (branch 3 (in_block [] ∷ []))) ∷ []) ∷ []))), [])
    ∷ (faults (of_elements (nested 64 (choice (expr.Number 1) [] (in_block [] ∷ []) ∷ []))), at 2 46 ∷ [])
    ∷ (faults (of_elements (nested 64 (element.Switch 3 (expr.Number 1) (case 3 1 (times 1 [] ∷ []) ∷ []) None ∷ []))), at 2 46 ∷ [])
    -- a named block counts itself, whether it is included or not
    ∷ (faults (of_blocks [] (p_of (nested 63 []))), [])
    ∷ (faults (of_blocks [] (p_of (nested 64 []))), at 2 46 ∷ [])
    -- and is counted where it is included
    ∷ (faults (of_blocks (nested 32 (include 3 (codes "p") ∷ [])) (p_of (nested 31 []))), [])
    ∷ (faults (of_blocks (nested 33 (include 3 (codes "p") ∷ [])) (p_of (nested 31 []))), at 2 46 ∷ [])
    -- one that isn't declared adds no level, and one that is adds one
    ∷ (faults (of_blocks (nested 64 (include 3 (codes "q") ∷ [])) (p_of [])), at 3 41 ∷ [])
    ∷ (faults (of_blocks (nested 64 (include 3 (codes "p") ∷ [])) (p_of [])), at 2 46 ∷ [])
    -- the first block of a name counts
    ∷ (faults (of_blocks (nested 63 (include 3 (codes "p") ∷ [])) (p_of [] ++ named_block 6 (codes "p") (nested 9 []) ∷ [])), at 6 40 ∷ [])
    ∷ []

abbrev pub BlocksNest : Type 0
BlocksNest = AreAlike depths

-- names of two letters, one for each number
abbrev pub numbered : ℕ → Text
numbered n = (97 + n / 10) ∷ (97 + n % 10) ∷ []

-- so many blocks and one, each of which includes the one before it, and the first one this
abbrev pub chain_to : List Element → ℕ → List NamedBlock
chain_to last zero = named_block 5 (numbered 0) last ∷ []
chain_to last (suc n) = chain_to last n ++ named_block 5 (numbered (suc n)) (include 5 (numbered n) ∷ []) ∷ []

-- a block `x` that is empty, and another of that name that includes the first
abbrev pub x_twice : List NamedBlock
x_twice = named_block 3 (codes "x") [] ∷ named_block 4 (codes "x") (include 4 (codes "x") ∷ []) ∷ []

abbrev pub chains : List (List Fault × List Fault)
chains =
    -- the second `x` doesn't include itself, so the chain of 65 beside it is a fault
    (faults (of_blocks [] (x_twice ++ chain_to [] 64)), at 4 40 ∷ at 2 46 ∷ [])
    -- 64 blocks may be included in one another, whatever the last one names
    ∷ (faults (of_blocks (include 3 (numbered 63) ∷ []) (chain_to (include 6 (codes "nowhere") ∷ []) 63)), at 6 41 ∷ [])
    ∷ []

abbrev pub ChainsOfIncludes : Type 0
ChainsOfIncludes = AreAlike chains

abbrev pub circles : List (Lines × Lines)
circles =
    -- at once, through another, and not one that only includes such a one
    (fault_45 (of_blocks [] (named_block 3 (codes "x") (include 3 (codes "x") ∷ []) ∷ named_block 4 (codes "y") (include 4 (codes "x") ∷ []) ∷ [])), 3 ∷ [])
    ∷ (fault_45 (of_blocks [] (named_block 3 (codes "x") (include 3 (codes "y") ∷ []) ∷ named_block 4 (codes "y") (in_block (include 4 (codes "z") ∷ []) ∷ []) ∷ named_block 5 (codes "z") (include 5 (codes "x") ∷ []) ∷ named_block 6 (codes "w") (include 6 (codes "z") ∷ []) ∷ [])), 3 ∷ 4 ∷ 5 ∷ [])
    -- the first of a name counts, and a later one is never included
    ∷ (fault_45 (of_blocks [] x_twice), [])
    ∷ (fault_45 (of_blocks [] (named_block 3 (codes "x") (include 3 (codes "x") ∷ []) ∷ named_block 4 (codes "x") [] ∷ [])), 3 ∷ [])
    -- a protocol with such a block has no fault 46
    ∷ (fault_46 (of_blocks [] (named_block 3 (codes "x") (include 3 (codes "x") ∷ []) ∷ [])), [])
    ∷ []

abbrev pub CirclesAreFound : Type 0
CirclesAreFound = AreAlike circles
