-- Which questions an update may ask.
use Rattle.std.specs.Prelude.{◌≡◌, ℕ, List, [], slice_get, Option, Some, Result, Ok}
use Rattle.std.proofs.Common.{refl, sym, ap, subst, ◌∙◌, append-nil}
use Rattle.db_model.specs.declared.database.Database.{Database}
use Rattle.pdl_code.specs.declared.code.UpdateCode.{UpdateCode}
use Rattle.db_model.specs.declared.env.Env.{Env}
use Rattle.db_model.specs.declared.env.Frame.{Frame}
use Rattle.db_model.specs.declared.env.Way.TheVariants.{Next}
use Rattle.db_model.specs.declared.tree.Node.{Node}
use Rattle.db_model.specs.declared.tree.Reason.{Reason}
use Rattle.pdl_code.specs.Does.{added}
use Rattle.db_model.specs.Expression.{Eval, ◌>>=◌}
use Rattle.db_model.specs.Over.{Point}
use Rattle.db_model.specs.Questions.{Gives, Log, ◌then◌, on_ok}
use Rattle.db_model.specs.Runs.{Run, next, go, within, or_halt, evaluated}
use Rattle.db_model.specs.Session.{Session}
use Rattle.pdl_code.specs.declared.code.Op.TheVariants.{Update}
use Rattle.pdl_code.specs.declared.code.ProtoCode.{ProtoCode}
use Rattle.pdl_code.specs.Means.{DoesPlain}
use Rattle.pdl_code.proofs.Inversion.{invert}
use Rattle.expr_eval.specs.Evaluates.{Evaluates, itself}
use Rattle.decode_vm.specs.declared.machine.Machine.{Machine}
use Rattle.decode_vm.specs.declared.machine.Mode.TheVariants as mode
use Rattle.decode_vm.specs.Left.{AllFit, Rest, onto, Doing, Running}
use Rattle.decode_vm.specs.Machine.{in_mode, Ran}
use Rattle.decode_vm.proofs.Ahead.{fit_first, fit_then}
use Rattle.decode_vm.proofs.Positions.{keeps_same}

-- an evaluation with which a run begins
pub fit_evaluation : {A : Type 0} (db : Database) (q : Eval A) (f : A → Run) (rest : Run) (ns : List Node) (k : Rest) (z : Frame) → AllFit db (((evaluated q f then go rest) then onto ns k) z) → AllFit db (q z.env)
fit_evaluation {A} db q f rest ns k z h =
    fit_first db (q z.env) (λ r. Gives (r.0, record z { env = r.1 }))
    (fit_first db (within q z) (λ r. or_halt f r.0 r.1)
    (fit_first db (evaluated q f z) (λ r. go rest r.0 r.1)
    (fit_first db ((evaluated q f then go rest) z) (λ r. onto ns k r.0 r.1) h)))

-- behind a value
pub fit_value : {A B : Type 0} (db : Database) (p : Eval A) (g : A → Eval B) (m n : Point Env) (v : A) → AllFit db ((p >>= g) m.held) → Evaluates db p itself m (Ok v) n → AllFit db (g v n.held)
fit_value {A} {B} db p g m n v h e =
    subst (λ (r : Result A Reason × Env). AllFit db (on_ok g r.0 r.1)) e.ends.ends.gave (fit_then db m.held.packet.stamp (p m.held) (λ r. on_ok g r.0 r.1) m.content h)

module _ (db : Database) (code : ProtoCode) where
  pub fit_update : (pc : ℕ) (u : UpdateCode) (m : Machine) (c : Session) (l : Option Log) → m.mode ≡ mode.At pc → slice_get code.ops pc ≡ Some (Update u) → Running db code m c l
      → AllFit db (added db (slice_get db.tables u.table) u m.frame.env)
  fit_update pc u m c l e s r =
      let a = r.left in
      let q = added db (slice_get db.tables u.table) u in
      let g : DoesPlain db code (Update u) pc a.run = invert db code (Update u) pc a.run s (subst (λ y. Doing db code m.frame.env.turns y a.run) e a.doing) in
      fit_evaluation db q (λ x. next) g.rest m.nodes a.rest m.frame (subst (λ (p : Run). AllFit db ((p then onto m.nodes a.rest) m.frame)) g.is a.ahead.fit)

  -- nothing but the place changes
  pub ran_next : (after d : ℕ) (o : Machine) → d ≡ after → Ran next after o (in_mode (mode.At d) o)
  ran_next after d o e = record {
    way = Next;
    nodes = [];
    frame = o.frame;
    gave = refl;
    keeps = keeps_same o.frame;
    is = ap (λ (x : ℕ). in_mode (mode.At x) o) e ∙ ap (λ ns. record o { mode = mode.At after; nodes = ns }) (sym (append-nil o.nodes));
  }
