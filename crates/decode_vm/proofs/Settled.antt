-- What a machine makes of an evaluation.
use Rattle.std.specs.Prelude.{[], Option, Some, None, Result, Ok, Err}
use Rattle.std.proofs.Common.{sym, subst, append-nil}
use Rattle.db_model.specs.declared.database.Database.{Database}
use Rattle.db_model.specs.declared.env.Env.{Env}
use Rattle.db_model.specs.declared.no_memory.NoMemory.{NoMemory}
use Rattle.db_model.specs.Expression.{Eval}
use Rattle.db_model.specs.Over.{point, Ends}
use Rattle.db_model.specs.Questions.{Log, play}
use Rattle.db_model.specs.Runs.{within}
use Rattle.db_model.specs.Session.{Session}
use Rattle.db_model.proofs.Over.{within_ends, within_refused}
use Rattle.expr_eval.specs.declared.end.EvalEnd.{EvalEnd}
use Rattle.expr_eval.specs.declared.end.EvalEnd.TheVariants as end
use Rattle.expr_eval.specs.Evaluates.{Evaluates, itself}
use Rattle.decode_vm.specs.declared.machine.Machine.{Machine}
use Rattle.decode_vm.specs.Machine.{at_env}
use Rattle.decode_vm.specs.Values.{Settled, Valued}

module _ {A : Type 0} (db : Database) (q : Eval A) (m : Machine) (c : Session) (l : Option Log) (env : Env) (c' : Session) (l' : Option Log) where
  pub settled : (value : Result A EvalEnd) (o : Result (Option A) NoMemory) (n : Machine) → Evaluates db q itself (point m.frame.env c l) value (point env c' l') → Settled value (at_env env m) o n → Valued db q m c l o n c' l'
  settled (Ok v) (Ok (Some u)) n e s = record {
    env = env;
    stays = e.stays;
    ends = subst (λ x. Ends db m.frame.env.packet.stamp (within q) (point m.frame c l) (Ok (Ok x)) (point (at_env env m).frame c' l')) (sym s.0) (within_ends db m.frame.env.packet.stamp q m.frame (Ok v) env c l c' l' e.ends);
    is = s.1;
  }
  settled (Ok v) (Ok None) n e s = absurd s
  settled (Ok v) (Err f) n e s = absurd s
  settled (Err (end.Fault r)) (Ok (Some u)) n e s = absurd s
  settled (Err (end.Fault r)) (Ok None) n e s = record {
    reason = r;
    env = env;
    stays = e.stays;
    ends = within_ends db m.frame.env.packet.stamp q m.frame (Err r) env c l c' l' e.ends;
    is = s;
  }
  settled (Err (end.Fault r)) (Err f) n e s =
      let w = within_ends db m.frame.env.packet.stamp q m.frame (Err r) env c l c' l' e.ends in
      record { ends = record { ends = record { done = (play db m.frame.env.packet.stamp (within q m.frame) c).log; rest = []; is_prefix = sym (append-nil (play db m.frame.env.packet.stamp (within q m.frame) c).log); follows = w.ends.follows } } }
  settled (Err end.NoMemory) (Ok (Some u)) n e s = absurd s
  settled (Err end.NoMemory) (Ok None) n e s = absurd s
  settled (Err end.NoMemory) (Err f) n e s = record { ends = within_refused db m.frame.env.packet.stamp q m.frame f env n.frame c l c' l' e.ends }
