-- The examples of single rules, computed.
use denote.Hole.Carrier.{hidden}
use Rattle.std.proofs.Common.{refl}
use Rattle.db_model.specs.declared.element.Element.TheBlock.{hidden-the_row-Element-0, hidden-the_row-Case-1}
use Rattle.db_model.specs.declared.expression.Expr.TheBlock.{hidden-the_row-Expr-0, hidden-the_row-Expr-1}
use Rattle.db_model.specs.Chain.{chain}
use Rattle.db_model.specs.Decoding.{decoding, dec}
use Rattle.db_model.specs.Elements.{means, list}
use Rattle.db_model.specs.Expression.{val}
use Rattle.db_model.specs.Extent.{extent}
use Rattle.db_model.specs.Numbering.{counts_of, names_of, field_names}
use Rattle.db_examples.specs.RuleExamples.{RenewalKeepsPlace, LeastDeadlineGoes, RoomKeepsAll, ExactFirst, KeyBeforeQuestion, BlockBeforeBody, BreakRestoresLimit, NoteIsInnermost, EndBeforeProtocols}
use Rattle.db_examples.specs.RuleSamples.{broken_loop_db, short_block_db, block_db, self_db}
use Rattle.db_model.specs.Session.{ask}
use Rattle.db_model.specs.Table.{put, add, look}
use Rattle.db_examples.specs.TableSample.{table_db}

-- what computing them opens
abbrev pub opened : Unit {0}
unfolding put add look ask extent val counts_of names_of field_names means list chain decoding dec table_db broken_loop_db short_block_db block_db self_db hidden-the_row-Element-0 hidden-the_row-Case-1 hidden-the_row-Expr-0 hidden-the_row-Expr-1 hidden
opened = tt

pub renewal_keeps_place : RenewalKeepsPlace
unfolding opened
renewal_keeps_place = refl

pub least_deadline_goes : LeastDeadlineGoes
unfolding opened
least_deadline_goes = record { first = refl; second = refl; third = refl }

pub room_keeps_all : RoomKeepsAll
unfolding opened
room_keeps_all = refl

pub exact_first : ExactFirst
unfolding opened
exact_first = record { exact = refl; masked = refl }

pub key_before_question : KeyBeforeQuestion
unfolding opened
key_before_question = refl

pub block_before_body : BlockBeforeBody
unfolding opened
block_before_body = refl

pub break_restores_limit : BreakRestoresLimit
unfolding opened
break_restores_limit = refl

pub note_is_innermost : NoteIsInnermost
unfolding opened
note_is_innermost = refl

pub end_before_protocols : EndBeforeProtocols
unfolding opened
end_before_protocols = record { ends = refl; noted = refl }
