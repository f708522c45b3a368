use Rattle.std.proofs.Common.{◌≡◌, ◌∙◌, sym, ap, refl, rules, ℕ, List, map, length, Ok, Err, None, Some, slice_get, drop, [], ◌+◌, subst, arith}
use Rattle.db_model.specs.declared.value.Value.{Value}
use Rattle.db_model.specs.declared.database.ColumnDecl.{ColumnDecl}
use Rattle.db_model.specs.Over.{point}
use Rattle.db_model.specs.Expression.{Eval}
use Rattle.expr_code.specs.Meaning.{code_val}
use Rattle.expr_eval.specs.declared.end.EvalEnd.TheVariants.{NoMemory as Refused}
use Rattle.expr_eval.proofs.Steps.{packet_stays, recast, refused, drop_all, drop_at}
use Rattle.expr_eval.specs.Evaluates.{Gave}
use Rattle.db_model.specs.declared.database.Database.{Database}
use Rattle.decode_vm.proofs.Updates.{as_column, some_from, none_from, past_from, some_left_from, RowLeft, row_begin, data_unevaluated, data_unmade, data_made, row_end, data_missing, row_at}
use Rattle.decode_vm.proofs.update.row_of.Goals as goal

pub returns-then-parts-columns-clause-value : goal.returns-then-parts-columns-clause-value
returns-then-parts-columns-clause-value g c =
    let db = c.args.db.now in
    let columns = c.args.columns.now in
    let protocols = length db.protocols in
    let parts = map (code_val db) c.args.parts.now in
    let m = point c.args.env.now (g.A.Answers.content c.args.answers.now) (g.A.Answers.told c.args.answers.now) in
    let n = point c.loop-i.env (g.A.Answers.content c.loop-i.answers) (g.A.Answers.told c.loop-i.answers) in
    let i = c.loop-i.i in
    let end : i ≡ length c.args.parts.now = omega arith in
    let all : drop i parts ≡ [] = ap (λ (j : ℕ). drop j parts) end ∙ drop_all (code_val db) c.args.parts.now in
    let s = subst (λ (r : List (Eval Value)). RowLeft db protocols columns parts m c.loop-i.row (drop i columns) r n) all c.loop-i.invariant.so_far in
    data_missing db protocols columns parts m c.loop-i.row (drop i columns) n (some_left_from columns i (omega arith)) s

pub loop-i-init : goal.loop-i-init
loop-i-init g c =
    record {
      database = refl;
      packet = refl;
      so_far = rw c.new-row.ensures (row_begin _ _ _ _ _);
    }

pub returns-in_err-value-clause-value : goal.returns-in_err-value-clause-value
returns-in_err-value-clause-value g c =
    let db = c.args.db.now in
    let columns = c.args.columns.now in
    let protocols = length db.protocols in
    let parts = map (code_val db) c.args.parts.now in
    let m = point c.args.env.now (g.A.Answers.content c.args.answers.now) (g.A.Answers.told c.args.answers.now) in
    let n = point c.loop-i.env (g.A.Answers.content c.loop-i.answers) (g.A.Answers.told c.loop-i.answers) in
    let i = c.loop-i.i in
    let k = point c.eval.new.env (g.A.Answers.content c.eval.new.answers) (g.A.Answers.told c.eval.new.answers) in
    let column = c.in-Some.column.now in
    let p = code_val db c.index-parts-i.result in
    let found : slice_get c.args.columns.now i ≡ Some c.in-Some.column.now = sym c.in-Some.ensures in
    let s = row_at db protocols columns parts m c.loop-i.row i column p n (some_from columns i c.in-Some.column.now found) (drop_at (code_val db) c.args.parts.now i c.index-parts-i.result c.loop-i-test.true c.index-parts-i.is) c.loop-i.invariant.so_far in
    let r : c.from_residual.result ≡ Err c.in_err-value.field-0.0 = search rules in
    recast db r (data_unevaluated db protocols columns parts m c.loop-i.row column (drop (i + 1) columns) p (drop (i + 1) parts) n s c.in_err-value.field-0.0 k c.in_err-value.ensures.value)

pub returns-in_err-data-clause-value : goal.returns-in_err-data-clause-value
returns-in_err-data-clause-value g c =
    let db = c.args.db.now in
    let columns = c.args.columns.now in
    let protocols = length db.protocols in
    let parts = map (code_val db) c.args.parts.now in
    let m = point c.args.env.now (g.A.Answers.content c.args.answers.now) (g.A.Answers.told c.args.answers.now) in
    let n = point c.loop-i.env (g.A.Answers.content c.loop-i.answers) (g.A.Answers.told c.loop-i.answers) in
    let i = c.loop-i.i in
    let k = point c.eval.new.env (g.A.Answers.content c.eval.new.answers) (g.A.Answers.told c.eval.new.answers) in
    let column = c.in-Some.column.now in
    let p = code_val db c.index-parts-i.result in
    let found : slice_get c.args.columns.now i ≡ Some c.in-Some.column.now = sym c.in-Some.ensures in
    let s = row_at db protocols columns parts m c.loop-i.row i column p n (some_from columns i c.in-Some.column.now found) (drop_at (code_val db) c.args.parts.now i c.index-parts-i.result c.loop-i-test.true c.index-parts-i.is) c.loop-i.invariant.so_far in
    let r : c.from_residual-in_err-data.result ≡ Err c.in_err-data.field-0.0 = search rules in
    recast db r (data_unmade db protocols columns parts m c.loop-i.row column (drop (i + 1) columns) p (drop (i + 1) parts) n s c.in_ok-value.value c.in_err-data.field-0.0 k c.in_ok-value.ensures.value (subst (λ (y : ℕ). Gave (λ (b : Value). b) (as_column y column c.in_ok-value.value) (Err c.in_err-data.field-0.0)) (c.len-protocols.ensures ∙ ap (λ (d : Database). length d.protocols) c.database.ensures.database) c.in_err-data.ensures))

pub returns-in_err-push-clause-value : goal.returns-in_err-push-clause-value
returns-in_err-push-clause-value g c =
    let db = c.args.db.now in
    let columns = c.args.columns.now in
    let protocols = length db.protocols in
    let parts = map (code_val db) c.args.parts.now in
    let m = point c.args.env.now (g.A.Answers.content c.args.answers.now) (g.A.Answers.told c.args.answers.now) in
    let n = point c.loop-i.env (g.A.Answers.content c.loop-i.answers) (g.A.Answers.told c.loop-i.answers) in
    let i = c.loop-i.i in
    let k = point c.eval.new.env (g.A.Answers.content c.eval.new.answers) (g.A.Answers.told c.eval.new.answers) in
    let column = c.in-Some.column.now in
    let p = code_val db c.index-parts-i.result in
    let found : slice_get c.args.columns.now i ≡ Some c.in-Some.column.now = sym c.in-Some.ensures in
    let s = row_at db protocols columns parts m c.loop-i.row i column p n (some_from columns i c.in-Some.column.now found) (drop_at (code_val db) c.args.parts.now i c.index-parts-i.result c.loop-i-test.true c.index-parts-i.is) c.loop-i.invariant.so_far in
    let r : c.from_residual-in_err-push.result ≡ Err Refused = search rules in
    recast db r ((data_made db protocols columns parts m c.loop-i.row column (drop (i + 1) columns) p (drop (i + 1) parts) n s c.in_ok-value.value c.in_ok-data.field-0 k c.in_ok-value.ensures.value (subst (λ (y : ℕ). Gave (λ (b : Value). b) (as_column y column c.in_ok-value.value) (Ok c.in_ok-data.field-0)) (c.len-protocols.ensures ∙ ap (λ (d : Database). length d.protocols) c.database.ensures.database) c.in_ok-data.ensures)).goes (Err Refused) k (refused db _))

pub loop-i-preserved : goal.loop-i-preserved
loop-i-preserved g c =
    let db = c.args.db.now in
    let columns = c.args.columns.now in
    let protocols = length db.protocols in
    let parts = map (code_val db) c.args.parts.now in
    let m = point c.args.env.now (g.A.Answers.content c.args.answers.now) (g.A.Answers.told c.args.answers.now) in
    let n = point c.loop-i.env (g.A.Answers.content c.loop-i.answers) (g.A.Answers.told c.loop-i.answers) in
    let i = c.loop-i.i in
    let k = point c.eval.new.env (g.A.Answers.content c.eval.new.answers) (g.A.Answers.told c.eval.new.answers) in
    let column = c.in-Some.column.now in
    let p = code_val db c.index-parts-i.result in
    let found : slice_get c.args.columns.now i ≡ Some c.in-Some.column.now = sym c.in-Some.ensures in
    let s = row_at db protocols columns parts m c.loop-i.row i column p n (some_from columns i c.in-Some.column.now found) (drop_at (code_val db) c.args.parts.now i c.index-parts-i.result c.loop-i-test.true c.index-parts-i.is) c.loop-i.invariant.so_far in
    record {
      database = search rules;
      packet = packet_stays c.loop-i.env c.eval.new.env c.eval.ensures.stays ∙ c.loop-i.invariant.packet;
      so_far = rw c.in_ok-push.ensures.pushed (data_made db protocols columns parts m c.loop-i.row column (drop (i + 1) columns) p (drop (i + 1) parts) n s c.in_ok-value.value c.in_ok-data.field-0 k c.in_ok-value.ensures.value (subst (λ (y : ℕ). Gave (λ (b : Value). b) (as_column y column c.in_ok-value.value) (Ok c.in_ok-data.field-0)) (c.len-protocols.ensures ∙ ap (λ (d : Database). length d.protocols) c.database.ensures.database) c.in_ok-data.ensures));
    }

pub returns-in-None : goal.returns-in-None
returns-in-None g c =
    let db = c.args.db.now in
    let columns = c.args.columns.now in
    let protocols = length db.protocols in
    let parts = map (code_val db) c.args.parts.now in
    let m = point c.args.env.now (g.A.Answers.content c.args.answers.now) (g.A.Answers.told c.args.answers.now) in
    let n = point c.loop-i.env (g.A.Answers.content c.loop-i.answers) (g.A.Answers.told c.loop-i.answers) in
    let i = c.loop-i.i in
    let past : slice_get c.args.columns.now i ≡ None = sym c.in-None.ensures in
    let s = subst (λ (l : List ColumnDecl). RowLeft db protocols columns parts m c.loop-i.row l (drop i parts) n) (none_from columns i past) c.loop-i.invariant.so_far in
    record {
      database = c.loop-i.invariant.database ∙ c.requires.database;
      value = row_end db protocols columns parts m c.loop-i.row (drop i parts) n s;
    }

pub returns : goal.returns
returns g c =
    let db = c.args.db.now in
    let columns = c.args.columns.now in
    let protocols = length db.protocols in
    let parts = map (code_val db) c.args.parts.now in
    let m = point c.args.env.now (g.A.Answers.content c.args.answers.now) (g.A.Answers.told c.args.answers.now) in
    let n = point c.loop-i.env (g.A.Answers.content c.loop-i.answers) (g.A.Answers.told c.loop-i.answers) in
    let i = c.loop-i.i in
    let none : drop i columns ≡ [] = past_from columns i (omega arith) in
    let s = subst (λ (l : List ColumnDecl). RowLeft db protocols columns parts m c.loop-i.row l (drop i parts) n) none c.loop-i.invariant.so_far in
    record {
      database = c.loop-i.invariant.database ∙ c.requires.database;
      value = row_end db protocols columns parts m c.loop-i.row (drop i parts) n s;
    }
