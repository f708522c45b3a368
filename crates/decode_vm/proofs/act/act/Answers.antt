use Rattle.std.proofs.Common.{Some, sym, ap, subst, ◌∙◌}
use Rattle.db_model.specs.declared.element.LoopKind.{LoopKind}
use Rattle.pdl_code.specs.declared.code.Op.TheVariants.{Loop}
use Rattle.pdl_code.specs.Sound.{IsSound}
use Rattle.decode_vm.proofs.Acts.{op_there, block_there, act_leave, act_jump, act_field, act_block, act_include}
use Rattle.decode_vm.proofs.Entered.{while_begun}
use Rattle.decode_vm.proofs.Turns.{moves_over}
use Rattle.decode_vm.proofs.act.act.Goals as goal

pub unreachable-requires : goal.unreachable-requires
unreachable-requires g c = op_there c.args.program.now.db.now c.args.program.now.code.now c.args.pc c.args.m.now (g.A.Answers.content c.args.answers.now) (g.A.Answers.told c.args.answers.now) c.requires.mode c.requires.running (sym c.in_default.ensures.value)

pub place_field-requires-clause-kind : goal.place_field-requires-clause-kind
place_field-requires-clause-kind g c = subst IsSound (sym c.get-in-Field.ensures.kind) c.get-in-Field.ensures.sound

pub sized_field-requires-clause-stands : goal.sized_field-requires-clause-stands
sized_field-requires-clause-stands g c = sym c.in-Some.ensures.value ∙ ap Some c.in-SizedField.is

pub assign-requires-clause-stands : goal.assign-requires-clause-stands
assign-requires-clause-stands g c = sym c.in-Some.ensures.value ∙ ap Some c.in-Assign.is

pub next_proto-requires-clause-stands : goal.next_proto-requires-clause-stands
next_proto-requires-clause-stands g c = sym c.in-Some.ensures.value ∙ ap Some c.in-NextProto.is

pub test-requires-clause-stands : goal.test-requires-clause-stands
test-requires-clause-stands g c = sym c.in-Some.ensures.value ∙ ap Some c.in-Test.is

pub switch-requires-clause-stands : goal.switch-requires-clause-stands
switch-requires-clause-stands g c = sym c.in-Some.ensures.value ∙ ap Some c.in-Switch.is

pub begin_count-requires-clause-stands : goal.begin_count-requires-clause-stands
begin_count-requires-clause-stands g c = sym c.in-Some.ensures.value ∙ (ap Some c.in-Loop.is ∙ ap (λ (k : LoopKind). Some (Loop k c.in-Loop.value c.in-Loop.after)) c.in-Count.is)

pub begin_size-requires-clause-stands : goal.begin_size-requires-clause-stands
begin_size-requires-clause-stands g c = sym c.in-Some.ensures.value ∙ (ap Some c.in-Loop.is ∙ ap (λ (k : LoopKind). Some (Loop k c.in-Loop.value c.in-Loop.after)) c.in-Size.is)

pub returns-in-While-clause-moves : goal.returns-in-While-clause-moves
returns-in-While-clause-moves g c =
    while_begun c.args.program.now.db.now c.args.program.now.code.now c.args.pc c.in-Loop.after c.in-Loop.value c.args.m.now c.begin_while.new.m (g.A.Answers.content c.args.answers.now) (g.A.Answers.told c.args.answers.now) c.requires.mode
    (sym c.in-Some.ensures.value ∙ (ap Some c.in-Loop.is ∙ ap (λ (k : LoopKind). Some (Loop k c.in-Loop.value c.in-Loop.after)) c.in-While.is)) c.begin_while.ensures

pub add_entry-requires-clause-stands : goal.add_entry-requires-clause-stands
add_entry-requires-clause-stands g c = sym c.in-Some.ensures.value ∙ ap Some c.in-Update.is

pub begin_size-requires-clause-position : goal.begin_size-requires-clause-position
begin_size-requires-clause-position g c = c.requires.sound.position

pub include-requires : goal.include-requires
include-requires g c =
    block_there c.args.program.now.db.now c.args.program.now.code.now c.args.pc c.in-Include.block c.args.m.now (g.A.Answers.content c.args.answers.now) (g.A.Answers.told c.args.answers.now) c.requires.mode c.requires.running (sym c.in-Some.ensures.value ∙ ap Some c.in-Include.is)

pub returns-in-End-clause-moves : goal.returns-in-End-clause-moves
returns-in-End-clause-moves g c =
    moves_over c.args.program.now.db.now c.args.program.now.code.now c.args.pc c.args.m.now (g.A.Answers.content c.args.answers.now) (g.A.Answers.told c.args.answers.now) c.requires.mode (sym c.in-Some.ensures.value ∙ ap Some c.in-End.is)

pub returns-in-Leave-clause-moves : goal.returns-in-Leave-clause-moves
returns-in-Leave-clause-moves g c =
    act_leave c.args.program.now.db.now c.args.program.now.code.now c.args.pc c.args.m.now (g.A.Answers.content c.args.answers.now) (g.A.Answers.told c.args.answers.now) c.requires.mode c.in-Leave.kind c.way_of.result (sym c.in-Some.ensures.value ∙ ap Some c.in-Leave.is) c.way_of.ensures

pub returns-in-Jump-clause-moves : goal.returns-in-Jump-clause-moves
returns-in-Jump-clause-moves g c =
    act_jump c.args.program.now.db.now c.args.program.now.code.now c.args.pc c.args.m.now (g.A.Answers.content c.args.answers.now) (g.A.Answers.told c.args.answers.now) c.requires.mode c.in-Jump.to c.behind.result (sym c.in-Some.ensures.value ∙ ap Some c.in-Jump.is) c.behind.ensures

pub returns-in-Field-clause-moves : goal.returns-in-Field-clause-moves
returns-in-Field-clause-moves g c =
    act_field c.args.program.now.db.now c.args.program.now.code.now c.args.pc c.args.m.now (g.A.Answers.content c.args.answers.now) (g.A.Answers.told c.args.answers.now) c.requires.mode c.in-Field.number c.in-Field.kind c.get-in-Field.result.now c.behind-in-Field.result c.place_field.result c.place_field.new.m (sym c.in-Some.ensures.value ∙ ap Some c.in-Field.is) c.get-in-Field.ensures.kind c.behind-in-Field.ensures c.place_field.ensures

pub returns-in-Block-clause-moves : goal.returns-in-Block-clause-moves
returns-in-Block-clause-moves g c =
    act_block c.args.program.now.db.now c.args.program.now.code.now c.args.pc c.args.m.now (g.A.Answers.content c.args.answers.now) (g.A.Answers.told c.args.answers.now) c.requires.mode c.in-Block.number c.in-Block.after c.behind-body.result c.behind-in-Block.result c.open.result c.open.new.m (sym c.in-Some.ensures.value ∙ ap Some c.in-Block.is) c.behind-body.ensures c.behind-in-Block.ensures c.open.ensures

pub returns-in-Include-clause-moves : goal.returns-in-Include-clause-moves
returns-in-Include-clause-moves g c =
    act_include c.args.program.now.db.now c.args.program.now.code.now c.args.pc c.args.m.now (g.A.Answers.content c.args.answers.now) (g.A.Answers.told c.args.answers.now) c.requires.mode c.in-Include.block c.include.result c.include.new.m (sym c.in-Some.ensures.value ∙ ap Some c.in-Include.is) c.requires.running c.include.ensures
