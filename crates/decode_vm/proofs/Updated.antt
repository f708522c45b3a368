-- What a machine makes of an update.
use Rattle.std.specs.Prelude.{◌≡◌, ℕ, List, slice_get, Option, Some, None, Result, Ok, Err}
use Rattle.std.proofs.Common.{refl}
use Rattle.db_model.specs.declared.database.Database.{Database}
use Rattle.pdl_code.specs.declared.code.UpdateCode.{UpdateCode}
use Rattle.db_model.specs.declared.env.Env.{Env}
use Rattle.db_model.specs.declared.no_memory.NoMemory.{NoMemory}
use Rattle.db_model.specs.declared.question.Answer.{Answer}
use Rattle.db_model.specs.declared.question.Answer.TheVariants.{Done}
use Rattle.db_model.specs.Expression.{Eval}
use Rattle.db_model.specs.Over.{point}
use Rattle.db_model.specs.Questions.{Log, ◌then◌}
use Rattle.db_model.specs.Runs.{Run, next, go}
use Rattle.db_model.specs.Session.{Session}
use Rattle.pdl_code.specs.declared.code.Op.{Op}
use Rattle.pdl_code.specs.declared.code.Op.TheVariants.{Update}
use Rattle.pdl_code.specs.declared.code.ProtoCode.{ProtoCode}
use Rattle.pdl_code.specs.Does.{Does}
use Rattle.pdl_code.proofs.Inversion.{invert}
use Rattle.expr_eval.specs.declared.end.EvalEnd.{EvalEnd}
use Rattle.expr_eval.specs.Evaluates.{Evaluates, itself}
use Rattle.decode_vm.specs.declared.machine.Machine.{Machine}
use Rattle.decode_vm.specs.declared.machine.Mode.TheVariants as mode
use Rattle.decode_vm.specs.Left.{Moves, StepsTo}
use Rattle.decode_vm.specs.Machine.{place_behind, in_mode, at_env}
use Rattle.decode_vm.specs.Values.{Settled}
use Rattle.decode_vm.proofs.Added.{added_to}
use Rattle.decode_vm.proofs.Fits.{ran_next}
use Rattle.decode_vm.proofs.Moves.{Begins}
use Rattle.decode_vm.proofs.Operations.{failed, ended_at, begins_part, part_some}
use Rattle.decode_vm.proofs.Settled.{settled}

module _ (db : Database) (code : ProtoCode) (pc : ℕ) (u : UpdateCode) (m : Machine) (at : m.mode ≡ mode.At pc) (stands : slice_get code.ops pc ≡ Some (Update u)) where
  abbrev addition : Eval Answer
  addition = added_to db u (slice_get db.tables u.table)

  abbrev here : Op
  here = Update u

  begins_update : (v : Answer) → Begins db code addition (λ g. (rest : Run) × (g v ≡ next then go rest) × Does db code (place_behind code pc 0) rest) m
  begins_update v = begins_part db code addition (λ a. next) here pc v m at (λ r d. invert db code here pc r stands d) refl

  module _ (c : Session) (l : Option Log) (env : Env) (c' : Session) (l' : Option Log) (value : Result Answer EvalEnd) (h : Evaluates db addition itself (point m.frame.env c l) value (point env c' l')) where
    pub update_failed : {B : Type 0} (r : Result B NoMemory) (e : NoMemory) (n : Machine) → r ≡ Err e → Settled value (at_env env m) (Err e) n → StepsTo db code m c l r n c' l'
    update_failed r e n x s = failed db code addition _ m c l c' l' (begins_update Done) r e n x (settled db addition m c l env c' l' value (Err e) n h s)

    pub update_done : (v : Answer) (x : Option Answer) (d : ℕ) (o : Machine) → x ≡ Some v → Settled value (at_env env m) (Ok x) o → d ≡ place_behind code pc 0 → Moves db code m c l (in_mode (mode.At d) o) c' l'
    update_done v x d o e s p =
        part_some db code addition (λ a. next) here pc v x m o (in_mode (mode.At d) o) c l c' l' at stands (begins_update v) e (settled db addition m c l env c' l' value (Ok x) o h s)
        (ran_next db code (place_behind code pc 0) d o p)

    pub update_ended : (x : Option Answer) (n : Machine) → x ≡ None → Settled value (at_env env m) (Ok x) n → Moves db code m c l n c' l'
    update_ended x n e s = ended_at db code addition _ m c l c' l' (begins_update Done) pc x n at e (settled db addition m c l env c' l' value (Ok x) n h s)
