use Rattle.std.proofs.Common.{ap, ◌∙◌}
use Rattle.decode_vm.specs.declared.machine.Again.{Again}
use Rattle.decode_vm.specs.declared.machine.Mode.TheVariants.{Turn}
use Rattle.decode_vm.specs.Machine.{counted, sized}
use Rattle.decode_vm.proofs.Entered.{steps_by}
use Rattle.decode_vm.proofs.Moves.{moves_counted, moves_sized}
use Rattle.decode_vm.proofs.turn.turn.Goals as goal

pub returns-in-Count-clause-moves : goal.returns-in-Count-clause-moves
returns-in-Count-clause-moves g c =
    let db = c.args.program.now.db.now in
    let m = c.args.m.now in
    steps_by db c.args.program.now.code.now m (counted c.in-Count.left c.args.body c.args.after m) c.count.new.m (g.A.Answers.content c.args.answers.now) (g.A.Answers.told c.args.answers.now) c.count.result
    (moves_counted db c.args.program.now.code.now c.in-Count.left c.args.body c.args.after m (g.A.Answers.content c.args.answers.now) (g.A.Answers.told c.args.answers.now) (c.requires.mode ∙ ap (λ (a : Again). Turn a c.args.body c.args.after) c.in-Count.is)) c.count.ensures

pub returns-in-Size-clause-moves : goal.returns-in-Size-clause-moves
returns-in-Size-clause-moves g c =
    let db = c.args.program.now.db.now in
    let m = c.args.m.now in
    steps_by db c.args.program.now.code.now m (sized c.in-Size.old c.args.body c.args.after m) c.fill.new.m (g.A.Answers.content c.args.answers.now) (g.A.Answers.told c.args.answers.now) c.fill.result
    (moves_sized db c.args.program.now.code.now c.in-Size.old c.args.body c.args.after m (g.A.Answers.content c.args.answers.now) (g.A.Answers.told c.args.answers.now) (c.requires.mode ∙ ap (λ (a : Again). Turn a c.args.body c.args.after) c.in-Size.is)) c.fill.ensures
