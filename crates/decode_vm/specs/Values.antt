-- What the evaluation of an expression in a machine gives: a value; or a reason, with which the decoding ends; or memory was refused.
use Rattle.std.specs.Prelude.{◌≡◌, Option, Some, None, Result, Ok, Err}
use Rattle.db_model.specs.declared.database.Database.{Database}
use Rattle.db_model.specs.declared.env.Env.{Env}
use Rattle.db_model.specs.declared.no_memory.NoMemory.{NoMemory}
use Rattle.db_model.specs.declared.tree.Reason.{Reason}
use Rattle.db_model.specs.Expression.{Eval}
use Rattle.db_model.specs.Over.{point, Ends}
use Rattle.db_model.specs.Questions.{Log}
use Rattle.db_model.specs.Runs.{within}
use Rattle.db_model.specs.Session.{Session}
use Rattle.expr_eval.specs.declared.end.EvalEnd.{EvalEnd}
use Rattle.expr_eval.specs.declared.end.EvalEnd.TheVariants as end
use Rattle.expr_eval.specs.Evaluates.{Stays}
use Rattle.decode_vm.specs.declared.machine.Machine.{Machine}
use Rattle.decode_vm.specs.Machine.{at_env, halted}

-- what a machine makes of an evaluation's outcome
abbrev pub Settled : {A : Type 0} → Result A EvalEnd → Machine → Result (Option A) NoMemory → Machine → Type 0
Settled (Ok v) m (Ok (Some u)) n = (u ≡ v) × (n ≡ m)
Settled (Ok v) m (Ok None) n = ⊥
Settled (Ok v) m (Err e) n = ⊥
Settled (Err (end.Fault r)) m (Ok (Some u)) n = ⊥
Settled (Err (end.Fault r)) m (Ok None) n = n ≡ halted r m
Settled (Err (end.Fault r)) m (Err e) n = Unit {0}
Settled (Err end.NoMemory) m (Ok (Some u)) n = ⊥
Settled (Err end.NoMemory) m (Ok None) n = ⊥
Settled (Err end.NoMemory) m (Err e) n = Unit {0}

module _ {A : Type 0} (db : Database) (q : Eval A) (m : Machine) (c : Session) (l : Option Log) where
  pub record Gave (v : A) (n : Machine) (c' : Session) (l' : Option Log) : Type 0 where
    pub env : Env
    pub stays : Stays m.frame.env env
    pub ends : Ends db m.frame.env.packet.stamp (within q) (point m.frame c l) (Ok (Ok v)) (point (at_env env m).frame c' l')
    pub is : n ≡ at_env env m

  pub record Halts (n : Machine) (c' : Session) (l' : Option Log) : Type 0 where
    pub reason : Reason
    pub env : Env
    pub stays : Stays m.frame.env env
    pub ends : Ends db m.frame.env.packet.stamp (within q) (point m.frame c l) (Ok (Err reason)) (point (at_env env m).frame c' l')
    pub is : n ≡ halted reason (at_env env m)

  pub record Fails (e : NoMemory) (n : Machine) (c' : Session) (l' : Option Log) : Type 0 where
    pub ends : Ends db m.frame.env.packet.stamp (within q) (point m.frame c l) (Err e) (point n.frame c' l')

  abbrev pub Valued : Result (Option A) NoMemory → Machine → Session → Option Log → Type 0
  Valued (Ok (Some v)) n c' l' = Gave v n c' l'
  Valued (Ok None) n c' l' = Halts n c' l'
  Valued (Err e) n c' l' = Fails e n c' l'
