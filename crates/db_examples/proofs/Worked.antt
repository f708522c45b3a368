-- The worked examples, computed.
use Rattle.std.proofs.Common.{refl}
use denote.Hole.Carrier.{hidden}
use Rattle.db_model.specs.declared.element.Element.TheBlock.{hidden-the_row-Element-0, hidden-the_row-Case-1}
use Rattle.db_model.specs.declared.expression.Expr.TheBlock.{hidden-the_row-Expr-0, hidden-the_row-Expr-1}
use Rattle.db_model.specs.Chain.{chain}
use Rattle.db_model.specs.Decoding.{decoding, dec}
use Rattle.db_model.specs.Elements.{means, list}
use Rattle.db_examples.specs.Examples.{SessionIsHit, EmptyPacket, ShortPacket, TurnsEnd, RightSideAlone, DeadlineIsEnd, FullTable, TimeRunsBackwards, MaskedAddsOnHit, FirstFrame, ExpressionsGive}
use Rattle.db_model.specs.Expression.{val}
use Rattle.db_model.specs.Extent.{extent}
use Rattle.db_model.specs.Numbering.{counts_of, names_of, field_names}
use Rattle.db_model.specs.Session.{ask}
use Rattle.db_examples.specs.SessionSample.{sessions_db}
use Rattle.db_model.specs.Table.{put, add, look}
use Rattle.db_examples.specs.TableSample.{table_db}

-- what computing them opens
abbrev pub opened : Unit {0}
unfolding put add look ask extent val counts_of names_of field_names means list chain decoding dec sessions_db table_db hidden-the_row-Element-0 hidden-the_row-Case-1 hidden-the_row-Expr-0 hidden-the_row-Expr-1 hidden
opened = tt

pub first_frame : FirstFrame
unfolding opened
first_frame = refl

pub session_is_hit : SessionIsHit
unfolding opened
session_is_hit = record { request = refl; request_answers = refl; answer = refl; answer_answers = refl; stray = refl; stray_answers = refl }

pub empty_packet : EmptyPacket
unfolding opened
empty_packet = refl

pub short_packet : ShortPacket
unfolding opened
short_packet = refl

pub right_side_alone : RightSideAlone
unfolding opened
right_side_alone = record { second = refl; nothing_asked = refl; third = refl }

pub deadline_is_end : DeadlineIsEnd
unfolding opened
deadline_is_end = record { before = refl; at = refl }

pub full_table : FullTable
unfolding opened
full_table = record { first_gone = refl; second_there = refl; third_there = refl; first_kept = refl; second_kept = refl; third_dropped = refl }

pub time_runs_backwards : TimeRunsBackwards
unfolding opened
time_runs_backwards = record { now = refl; later = refl; again = refl }

pub masked_adds_on_hit : MaskedAddsOnHit
unfolding opened
masked_adds_on_hit = record { first = refl; second = refl; third = refl; left = refl }

pub expressions_give : ExpressionsGive
unfolding opened
expressions_give = record { sum = refl; below_zero = refl; by_zero = refl; slice = refl; slice_past = refl; to_number = refl; no_bytes = refl; too_few_bytes = refl; both = refl }

pub turns_end : TurnsEnd
unfolding opened
turns_end = refl
