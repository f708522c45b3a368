use Rattle.std.proofs.Common.{◌≡◌, ◌∙◌, sym, ap, refl, rules, ℕ, List, map, length, Err, None, Some, slice_get, drop, [], ◌+◌, subst, arith}
use Rattle.db_model.specs.declared.value.Value.{Value}
use Rattle.db_model.specs.declared.database.KeyDecl.{KeyDecl}
use Rattle.pdl_code.specs.declared.code.KeyCode.{KeyCode}
use Rattle.db_model.specs.Over.{point}
use Rattle.db_model.specs.Expression.{Eval}
use Rattle.expr_code.specs.Meaning.{code_val}
use Rattle.expr_eval.specs.declared.end.EvalEnd.TheVariants.{NoMemory as Refused}
use Rattle.expr_eval.proofs.Steps.{packet_stays, recast, refused, drop_some, drop_past, drop_beyond, drop_leaves, drop_all, drop_at}
use Rattle.decode_vm.proofs.Updates.{KeysLeft, keys_begin, key_unevaluated, key_unmade, key_made, keys_end, key_missing, keys_at}
use Rattle.decode_vm.proofs.update.keys_of.Goals as goal

pub returns-then-parts-sizes-clause-value : goal.returns-then-parts-sizes-clause-value
returns-then-parts-sizes-clause-value g c =
    let db = c.args.db.now in
    let sizes = map (λ (k : KeyDecl). k.size) c.args.sizes.now in
    let parts = map (λ (k : KeyCode). code_val db k.value) c.args.parts.now in
    let m = point c.args.env.now (g.A.Answers.content c.args.answers.now) (g.A.Answers.told c.args.answers.now) in
    let n = point c.loop-i.env (g.A.Answers.content c.loop-i.answers) (g.A.Answers.told c.loop-i.answers) in
    let i = c.loop-i.i in
    let end : i ≡ length c.args.parts.now = omega arith in
    let all : drop i parts ≡ [] = ap (λ (j : ℕ). drop j parts) end ∙ drop_all (λ (k : KeyCode). code_val db k.value) c.args.parts.now in
    let s = subst (λ (r : List (Eval Value)). KeysLeft db sizes parts m c.loop-i.keys (drop i sizes) r n) all c.loop-i.invariant.so_far in
    key_missing db sizes parts m c.loop-i.keys (drop i sizes) n (drop_leaves (λ (k : KeyDecl). k.size) c.args.sizes.now i (omega arith)) s

pub loop-i-init : goal.loop-i-init
loop-i-init g c =
    record {
      database = refl;
      packet = refl;
      so_far = rw c.new-keys.ensures (keys_begin _ _ _ _);
    }

pub returns-in_err-value-clause-value : goal.returns-in_err-value-clause-value
returns-in_err-value-clause-value g c =
    let db = c.args.db.now in
    let sizes = map (λ (k : KeyDecl). k.size) c.args.sizes.now in
    let parts = map (λ (k : KeyCode). code_val db k.value) c.args.parts.now in
    let m = point c.args.env.now (g.A.Answers.content c.args.answers.now) (g.A.Answers.told c.args.answers.now) in
    let n = point c.loop-i.env (g.A.Answers.content c.loop-i.answers) (g.A.Answers.told c.loop-i.answers) in
    let i = c.loop-i.i in
    let k = point c.eval.new.env (g.A.Answers.content c.eval.new.answers) (g.A.Answers.told c.eval.new.answers) in
    let size = c.in-Some.declaration.now.size in
    let p = code_val db c.index-parts-i.result.value in
    let found : slice_get c.args.sizes.now i ≡ Some c.in-Some.declaration.now = sym c.in-Some.ensures in
    let s = keys_at db sizes parts m c.loop-i.keys i size p n (drop_some (λ (k : KeyDecl). k.size) c.args.sizes.now i c.in-Some.declaration.now found) (drop_at (λ (k : KeyCode). code_val db k.value) c.args.parts.now i c.index-parts-i.result c.loop-i-test.true c.index-parts-i.is) c.loop-i.invariant.so_far in
    let r : c.from_residual.result ≡ Err c.in_err-value.field-0.0 = search rules in
    recast db r (key_unevaluated db sizes parts m c.loop-i.keys size (drop (i + 1) sizes) p (drop (i + 1) parts) n s c.in_err-value.field-0.0 k c.in_err-value.ensures.value)

pub returns-in_err-key-clause-value : goal.returns-in_err-key-clause-value
returns-in_err-key-clause-value g c =
    let db = c.args.db.now in
    let sizes = map (λ (k : KeyDecl). k.size) c.args.sizes.now in
    let parts = map (λ (k : KeyCode). code_val db k.value) c.args.parts.now in
    let m = point c.args.env.now (g.A.Answers.content c.args.answers.now) (g.A.Answers.told c.args.answers.now) in
    let n = point c.loop-i.env (g.A.Answers.content c.loop-i.answers) (g.A.Answers.told c.loop-i.answers) in
    let i = c.loop-i.i in
    let k = point c.eval.new.env (g.A.Answers.content c.eval.new.answers) (g.A.Answers.told c.eval.new.answers) in
    let size = c.in-Some.declaration.now.size in
    let p = code_val db c.index-parts-i.result.value in
    let found : slice_get c.args.sizes.now i ≡ Some c.in-Some.declaration.now = sym c.in-Some.ensures in
    let s = keys_at db sizes parts m c.loop-i.keys i size p n (drop_some (λ (k : KeyDecl). k.size) c.args.sizes.now i c.in-Some.declaration.now found) (drop_at (λ (k : KeyCode). code_val db k.value) c.args.parts.now i c.index-parts-i.result c.loop-i-test.true c.index-parts-i.is) c.loop-i.invariant.so_far in
    let r : c.from_residual-in_err-key.result ≡ Err c.in_err-key.field-0.0 = search rules in
    recast db r (key_unmade db sizes parts m c.loop-i.keys size (drop (i + 1) sizes) p (drop (i + 1) parts) n s c.in_ok-value.value c.in_err-key.field-0.0 k c.in_ok-value.ensures.value c.in_err-key.ensures)

pub returns-in_err-push-clause-value : goal.returns-in_err-push-clause-value
returns-in_err-push-clause-value g c =
    let db = c.args.db.now in
    let sizes = map (λ (k : KeyDecl). k.size) c.args.sizes.now in
    let parts = map (λ (k : KeyCode). code_val db k.value) c.args.parts.now in
    let m = point c.args.env.now (g.A.Answers.content c.args.answers.now) (g.A.Answers.told c.args.answers.now) in
    let n = point c.loop-i.env (g.A.Answers.content c.loop-i.answers) (g.A.Answers.told c.loop-i.answers) in
    let i = c.loop-i.i in
    let k = point c.eval.new.env (g.A.Answers.content c.eval.new.answers) (g.A.Answers.told c.eval.new.answers) in
    let size = c.in-Some.declaration.now.size in
    let p = code_val db c.index-parts-i.result.value in
    let found : slice_get c.args.sizes.now i ≡ Some c.in-Some.declaration.now = sym c.in-Some.ensures in
    let s = keys_at db sizes parts m c.loop-i.keys i size p n (drop_some (λ (k : KeyDecl). k.size) c.args.sizes.now i c.in-Some.declaration.now found) (drop_at (λ (k : KeyCode). code_val db k.value) c.args.parts.now i c.index-parts-i.result c.loop-i-test.true c.index-parts-i.is) c.loop-i.invariant.so_far in
    let r : c.from_residual-in_err-push.result ≡ Err Refused = search rules in
    recast db r ((key_made db sizes parts m c.loop-i.keys size (drop (i + 1) sizes) p (drop (i + 1) parts) n s c.in_ok-value.value c.in_ok-key.field-0 k c.in_ok-value.ensures.value c.in_ok-key.ensures).goes (Err Refused) k (refused db _))

pub loop-i-preserved : goal.loop-i-preserved
loop-i-preserved g c =
    let db = c.args.db.now in
    let sizes = map (λ (k : KeyDecl). k.size) c.args.sizes.now in
    let parts = map (λ (k : KeyCode). code_val db k.value) c.args.parts.now in
    let m = point c.args.env.now (g.A.Answers.content c.args.answers.now) (g.A.Answers.told c.args.answers.now) in
    let n = point c.loop-i.env (g.A.Answers.content c.loop-i.answers) (g.A.Answers.told c.loop-i.answers) in
    let i = c.loop-i.i in
    let k = point c.eval.new.env (g.A.Answers.content c.eval.new.answers) (g.A.Answers.told c.eval.new.answers) in
    let size = c.in-Some.declaration.now.size in
    let p = code_val db c.index-parts-i.result.value in
    let found : slice_get c.args.sizes.now i ≡ Some c.in-Some.declaration.now = sym c.in-Some.ensures in
    let s = keys_at db sizes parts m c.loop-i.keys i size p n (drop_some (λ (k : KeyDecl). k.size) c.args.sizes.now i c.in-Some.declaration.now found) (drop_at (λ (k : KeyCode). code_val db k.value) c.args.parts.now i c.index-parts-i.result c.loop-i-test.true c.index-parts-i.is) c.loop-i.invariant.so_far in
    record {
      database = search rules;
      packet = packet_stays c.loop-i.env c.eval.new.env c.eval.ensures.stays ∙ c.loop-i.invariant.packet;
      so_far = rw c.in_ok-push.ensures.pushed (key_made db sizes parts m c.loop-i.keys size (drop (i + 1) sizes) p (drop (i + 1) parts) n s c.in_ok-value.value c.in_ok-key.field-0 k c.in_ok-value.ensures.value c.in_ok-key.ensures);
    }

pub returns-in-None : goal.returns-in-None
returns-in-None g c =
    let db = c.args.db.now in
    let sizes = map (λ (k : KeyDecl). k.size) c.args.sizes.now in
    let parts = map (λ (k : KeyCode). code_val db k.value) c.args.parts.now in
    let m = point c.args.env.now (g.A.Answers.content c.args.answers.now) (g.A.Answers.told c.args.answers.now) in
    let n = point c.loop-i.env (g.A.Answers.content c.loop-i.answers) (g.A.Answers.told c.loop-i.answers) in
    let i = c.loop-i.i in
    let past : slice_get c.args.sizes.now i ≡ None = sym c.in-None.ensures in
    let s = subst (λ (l : List ℕ). KeysLeft db sizes parts m c.loop-i.keys l (drop i parts) n) (drop_past (λ (k : KeyDecl). k.size) c.args.sizes.now i past) c.loop-i.invariant.so_far in
    record {
      database = c.loop-i.invariant.database ∙ c.requires.database;
      value = keys_end db sizes parts m c.loop-i.keys (drop i parts) n s;
    }

pub returns : goal.returns
returns g c =
    let db = c.args.db.now in
    let sizes = map (λ (k : KeyDecl). k.size) c.args.sizes.now in
    let parts = map (λ (k : KeyCode). code_val db k.value) c.args.parts.now in
    let m = point c.args.env.now (g.A.Answers.content c.args.answers.now) (g.A.Answers.told c.args.answers.now) in
    let n = point c.loop-i.env (g.A.Answers.content c.loop-i.answers) (g.A.Answers.told c.loop-i.answers) in
    let i = c.loop-i.i in
    let none : drop i sizes ≡ [] = drop_beyond (λ (k : KeyDecl). k.size) c.args.sizes.now i (omega arith) in
    let s = subst (λ (l : List ℕ). KeysLeft db sizes parts m c.loop-i.keys l (drop i parts) n) none c.loop-i.invariant.so_far in
    record {
      database = c.loop-i.invariant.database ∙ c.requires.database;
      value = keys_end db sizes parts m c.loop-i.keys (drop i parts) n s;
    }
