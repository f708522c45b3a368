-- The examples of tables, updates and logs, computed.
use denote.Hole.Carrier.{hidden}
use Rattle.std.proofs.Common.{refl}
use Rattle.db_model.specs.declared.element.Element.TheBlock.{hidden-the_row-Element-0, hidden-the_row-Case-1}
use Rattle.db_model.specs.declared.expression.Expr.TheBlock.{hidden-the_row-Expr-0, hidden-the_row-Expr-1}
use Rattle.db_model.specs.Chain.{chain}
use Rattle.db_model.specs.Decoding.{decoding, dec}
use Rattle.db_model.specs.Elements.{means, list}
use Rattle.db_model.specs.Expression.{val}
use Rattle.db_model.specs.Extent.{extent}
use Rattle.db_model.specs.Numbering.{counts_of, names_of, field_names}
use Rattle.db_model.specs.Session.{ask}
use Rattle.db_model.specs.Table.{put, add, look}
use Rattle.db_examples.specs.TableSample.{table_db}
use Rattle.db_examples.specs.TableExamples.{TablesAnswer, UpdatesAsk, OneMaskOfTwo, LogsDiffer}

-- what computing them opens
abbrev pub opened : Unit {0}
unfolding put add look ask extent val counts_of names_of field_names means list chain decoding dec table_db hidden-the_row-Element-0 hidden-the_row-Case-1 hidden-the_row-Expr-0 hidden-the_row-Expr-1 hidden
opened = tt

pub tables_answer : TablesAnswer
unfolding opened
tables_answer = refl

pub updates_ask : UpdatesAsk
unfolding opened
updates_ask = refl

pub one_mask_of_two : OneMaskOfTwo
unfolding opened
one_mask_of_two = refl

pub logs_differ : LogsDiffer
unfolding opened
logs_differ = refl
