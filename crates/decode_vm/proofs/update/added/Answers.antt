use Rattle.std.proofs.Common.{◌≡◌, ◌∙◌, sym, ap, refl, subst, rules, List, map, length, Ok, Err, Some, slice_get, []}
use Rattle.db_model.specs.declared.database.ColumnDecl.{ColumnDecl}
use Rattle.db_model.specs.declared.database.Database.{Database}
use Rattle.db_model.specs.declared.database.KeyDecl.{KeyDecl}
use Rattle.pdl_code.specs.declared.code.KeyCode.{KeyCode}
use Rattle.expr_code.specs.declared.code.ExprCode.{ExprCode}
use Rattle.db_model.specs.Elements.{masks_of, row_from}
use Rattle.db_model.specs.Expression.{keys_from}
use Rattle.expr_code.specs.Meaning.{code_val}
use Rattle.db_model.specs.Over.{point}
use Rattle.expr_eval.specs.declared.end.EvalEnd.TheVariants.{NoMemory as Refused}
use Rattle.expr_eval.specs.Evaluates.{Evaluates, itself}
use Rattle.expr_eval.proofs.Steps.{recast}
use Rattle.decode_vm.proofs.Added.{not_declared, no_keys, no_row, no_masks, asked, fit_ask}
use Rattle.decode_vm.proofs.update.added.Goals as goal

pub ask-requires-clause-fit : goal.ask-requires-clause-fit
ask-requires-clause-fit g c =
    let db = c.args.db.now in
    let m = point c.args.env.now (g.A.Answers.content c.args.answers.now) (g.A.Answers.told c.args.answers.now) in
    let d = c.in-Some.declared.now in
    let found : slice_get db.tables c.args.update.now.table ≡ Some d = ap (λ (y : Database). slice_get y.tables c.args.update.now.table) (sym c.database.ensures.database) ∙ sym c.in-Some.ensures.value in
    let n = point c.keys_of.new.env (g.A.Answers.content c.keys_of.new.answers) (g.A.Answers.told c.keys_of.new.answers) in
    let h = subst (λ (ks : List KeyCode). Evaluates db (keys_from [] (map (λ (k : KeyDecl). k.size) d.keys) (map (λ (k : KeyCode). code_val db k.value) ks)) itself m (Ok c.in_ok-these-in-Some.these) n) c.as_slice-keys.ensures
    (subst (λ (s : List KeyDecl). Evaluates db (keys_from [] (map (λ (k : KeyDecl). k.size) s) (map (λ (k : KeyCode). code_val db k.value) c.as_slice-keys.result.now)) itself m (Ok c.in_ok-these-in-Some.these) n) c.as_slice-sizes.ensures c.in_ok-these-in-Some.ensures.value) in
    let k = point c.row_of.new.env (g.A.Answers.content c.row_of.new.answers) (g.A.Answers.told c.row_of.new.answers) in
    let i = subst (λ (vs : List ExprCode). Evaluates db (row_from (length db.protocols) [] d.columns (map (code_val db) vs)) itself n (Ok c.in_ok-values-in-Some.values) k) c.as_slice.ensures
    (subst (λ (s : List ColumnDecl). Evaluates db (row_from (length db.protocols) [] s (map (code_val db) c.as_slice.result.now)) itself n (Ok c.in_ok-values-in-Some.values) k) c.as_slice-columns.ensures c.in_ok-values-in-Some.ensures.value) in
    let ms = subst (λ (ks : List KeyCode). c.in_ok-masks-in-Some.field-0 ≡ masks_of (map (λ (k : KeyDecl). k.size) d.keys) (map (λ (k : KeyCode). k.mask) ks)) c.as_slice-keys.ensures
    (subst (λ (s : List KeyDecl). c.in_ok-masks-in-Some.field-0 ≡ masks_of (map (λ (k : KeyDecl). k.size) s) (map (λ (k : KeyCode). k.mask) c.as_slice-keys.result.now)) c.as_slice-sizes.ensures c.in_ok-masks-in-Some.ensures) in
    let same_keys : c.these.inside.items.items ≡ c.in_ok-these-in-Some.these = search rules in
    fit_ask db c.args.update.now d (slice_get db.tables c.args.update.now.table) found m c.in_ok-these-in-Some.these n h c.in_ok-values-in-Some.values k i c.in_ok-masks-in-Some.field-0 c.unwrap_or.result c.unwrap_or-in-Some.result ms c.unwrap_or.ensures c.unwrap_or-in-Some.ensures
    (g.A.Answers.database c.row_of.new.answers) c.in_ok-values-in-Some.ensures.database c.these.inside.items.items same_keys c.in_ok-values-in-Some.values refl c.requires.fit

pub returns-in_ok-masks-in-Some-clause-value : goal.returns-in_ok-masks-in-Some-clause-value
returns-in_ok-masks-in-Some-clause-value g c =
    let db = c.args.db.now in
    let m = point c.args.env.now (g.A.Answers.content c.args.answers.now) (g.A.Answers.told c.args.answers.now) in
    let d = c.in-Some.declared.now in
    let found : slice_get db.tables c.args.update.now.table ≡ Some d = ap (λ (y : Database). slice_get y.tables c.args.update.now.table) (sym c.database.ensures.database) ∙ sym c.in-Some.ensures.value in
    let n = point c.keys_of.new.env (g.A.Answers.content c.keys_of.new.answers) (g.A.Answers.told c.keys_of.new.answers) in
    let h = subst (λ (ks : List KeyCode). Evaluates db (keys_from [] (map (λ (k : KeyDecl). k.size) d.keys) (map (λ (k : KeyCode). code_val db k.value) ks)) itself m (Ok c.in_ok-these-in-Some.these) n) c.as_slice-keys.ensures
    (subst (λ (s : List KeyDecl). Evaluates db (keys_from [] (map (λ (k : KeyDecl). k.size) s) (map (λ (k : KeyCode). code_val db k.value) c.as_slice-keys.result.now)) itself m (Ok c.in_ok-these-in-Some.these) n) c.as_slice-sizes.ensures c.in_ok-these-in-Some.ensures.value) in
    let k = point c.row_of.new.env (g.A.Answers.content c.row_of.new.answers) (g.A.Answers.told c.row_of.new.answers) in
    let i = subst (λ (vs : List ExprCode). Evaluates db (row_from (length db.protocols) [] d.columns (map (code_val db) vs)) itself n (Ok c.in_ok-values-in-Some.values) k) c.as_slice.ensures
    (subst (λ (s : List ColumnDecl). Evaluates db (row_from (length db.protocols) [] s (map (code_val db) c.as_slice.result.now)) itself n (Ok c.in_ok-values-in-Some.values) k) c.as_slice-columns.ensures c.in_ok-values-in-Some.ensures.value) in
    let ms = subst (λ (ks : List KeyCode). c.in_ok-masks-in-Some.field-0 ≡ masks_of (map (λ (k : KeyDecl). k.size) d.keys) (map (λ (k : KeyCode). k.mask) ks)) c.as_slice-keys.ensures
    (subst (λ (s : List KeyDecl). c.in_ok-masks-in-Some.field-0 ≡ masks_of (map (λ (k : KeyDecl). k.size) s) (map (λ (k : KeyCode). k.mask) c.as_slice-keys.result.now)) c.as_slice-sizes.ensures c.in_ok-masks-in-Some.ensures) in
    let same_keys : c.these.inside.items.items ≡ c.in_ok-these-in-Some.these = search rules in
    asked db c.args.update.now d (slice_get db.tables c.args.update.now.table) found m c.in_ok-these-in-Some.these n h c.in_ok-values-in-Some.values k i c.in_ok-masks-in-Some.field-0 c.unwrap_or.result c.unwrap_or-in-Some.result ms c.unwrap_or.ensures c.unwrap_or-in-Some.ensures
    (g.A.Answers.database c.row_of.new.answers) c.in_ok-values-in-Some.ensures.database c.these.inside.items.items same_keys c.in_ok-values-in-Some.values refl
    c.ask.result (point c.ask.new.env (g.A.Answers.content c.ask.new.answers) (g.A.Answers.told c.ask.new.answers)) c.ask.ensures.value

pub returns-in_err-these-in-Some-clause-value : goal.returns-in_err-these-in-Some-clause-value
returns-in_err-these-in-Some-clause-value g c =
    let db = c.args.db.now in
    let m = point c.args.env.now (g.A.Answers.content c.args.answers.now) (g.A.Answers.told c.args.answers.now) in
    let d = c.in-Some.declared.now in
    let found : slice_get db.tables c.args.update.now.table ≡ Some d = ap (λ (y : Database). slice_get y.tables c.args.update.now.table) (sym c.database.ensures.database) ∙ sym c.in-Some.ensures.value in
    let n = point c.keys_of.new.env (g.A.Answers.content c.keys_of.new.answers) (g.A.Answers.told c.keys_of.new.answers) in
    let h = subst (λ (ks : List KeyCode). Evaluates db (keys_from [] (map (λ (k : KeyDecl). k.size) d.keys) (map (λ (k : KeyCode). code_val db k.value) ks)) itself m (Err c.in_err-these-in-Some.field-0.0) n) c.as_slice-keys.ensures
    (subst (λ (s : List KeyDecl). Evaluates db (keys_from [] (map (λ (k : KeyDecl). k.size) s) (map (λ (k : KeyCode). code_val db k.value) c.as_slice-keys.result.now)) itself m (Err c.in_err-these-in-Some.field-0.0) n) c.as_slice-sizes.ensures c.in_err-these-in-Some.ensures.value) in
    let r : c.from_residual.result ≡ Err c.in_err-these-in-Some.field-0.0 = search rules in
    recast db r (no_keys db c.args.update.now d (slice_get db.tables c.args.update.now.table) found m c.in_err-these-in-Some.field-0.0 n h)

pub returns-in_err-values-in-Some-clause-value : goal.returns-in_err-values-in-Some-clause-value
returns-in_err-values-in-Some-clause-value g c =
    let db = c.args.db.now in
    let m = point c.args.env.now (g.A.Answers.content c.args.answers.now) (g.A.Answers.told c.args.answers.now) in
    let d = c.in-Some.declared.now in
    let found : slice_get db.tables c.args.update.now.table ≡ Some d = ap (λ (y : Database). slice_get y.tables c.args.update.now.table) (sym c.database.ensures.database) ∙ sym c.in-Some.ensures.value in
    let n = point c.keys_of.new.env (g.A.Answers.content c.keys_of.new.answers) (g.A.Answers.told c.keys_of.new.answers) in
    let h = subst (λ (ks : List KeyCode). Evaluates db (keys_from [] (map (λ (k : KeyDecl). k.size) d.keys) (map (λ (k : KeyCode). code_val db k.value) ks)) itself m (Ok c.in_ok-these-in-Some.these) n) c.as_slice-keys.ensures
    (subst (λ (s : List KeyDecl). Evaluates db (keys_from [] (map (λ (k : KeyDecl). k.size) s) (map (λ (k : KeyCode). code_val db k.value) c.as_slice-keys.result.now)) itself m (Ok c.in_ok-these-in-Some.these) n) c.as_slice-sizes.ensures c.in_ok-these-in-Some.ensures.value) in
    let k = point c.row_of.new.env (g.A.Answers.content c.row_of.new.answers) (g.A.Answers.told c.row_of.new.answers) in
    let i = subst (λ (vs : List ExprCode). Evaluates db (row_from (length db.protocols) [] d.columns (map (code_val db) vs)) itself n (Err c.in_err-values-in-Some.field-0.0) k) c.as_slice.ensures
    (subst (λ (s : List ColumnDecl). Evaluates db (row_from (length db.protocols) [] s (map (code_val db) c.as_slice.result.now)) itself n (Err c.in_err-values-in-Some.field-0.0) k) c.as_slice-columns.ensures c.in_err-values-in-Some.ensures.value) in
    let r : c.from_residual-in_err-values-in-Some.result ≡ Err c.in_err-values-in-Some.field-0.0 = search rules in
    recast db r (no_row db c.args.update.now d (slice_get db.tables c.args.update.now.table) found m c.in_ok-these-in-Some.these n h c.in_err-values-in-Some.field-0.0 k i)

pub returns-in_err-masks-in-Some-clause-value : goal.returns-in_err-masks-in-Some-clause-value
returns-in_err-masks-in-Some-clause-value g c =
    let db = c.args.db.now in
    let m = point c.args.env.now (g.A.Answers.content c.args.answers.now) (g.A.Answers.told c.args.answers.now) in
    let d = c.in-Some.declared.now in
    let found : slice_get db.tables c.args.update.now.table ≡ Some d = ap (λ (y : Database). slice_get y.tables c.args.update.now.table) (sym c.database.ensures.database) ∙ sym c.in-Some.ensures.value in
    let n = point c.keys_of.new.env (g.A.Answers.content c.keys_of.new.answers) (g.A.Answers.told c.keys_of.new.answers) in
    let h = subst (λ (ks : List KeyCode). Evaluates db (keys_from [] (map (λ (k : KeyDecl). k.size) d.keys) (map (λ (k : KeyCode). code_val db k.value) ks)) itself m (Ok c.in_ok-these-in-Some.these) n) c.as_slice-keys.ensures
    (subst (λ (s : List KeyDecl). Evaluates db (keys_from [] (map (λ (k : KeyDecl). k.size) s) (map (λ (k : KeyCode). code_val db k.value) c.as_slice-keys.result.now)) itself m (Ok c.in_ok-these-in-Some.these) n) c.as_slice-sizes.ensures c.in_ok-these-in-Some.ensures.value) in
    let k = point c.row_of.new.env (g.A.Answers.content c.row_of.new.answers) (g.A.Answers.told c.row_of.new.answers) in
    let i = subst (λ (vs : List ExprCode). Evaluates db (row_from (length db.protocols) [] d.columns (map (code_val db) vs)) itself n (Ok c.in_ok-values-in-Some.values) k) c.as_slice.ensures
    (subst (λ (s : List ColumnDecl). Evaluates db (row_from (length db.protocols) [] s (map (code_val db) c.as_slice.result.now)) itself n (Ok c.in_ok-values-in-Some.values) k) c.as_slice-columns.ensures c.in_ok-values-in-Some.ensures.value) in
    let r : c.from_residual-in_err-masks-in-Some.result ≡ Err Refused = search rules in
    recast db r (no_masks db c.args.update.now d (slice_get db.tables c.args.update.now.table) found m c.in_ok-these-in-Some.these n h c.in_ok-values-in-Some.values k i)

pub returns-in-None-clause-value : goal.returns-in-None-clause-value
returns-in-None-clause-value g c =
    let db = c.args.db.now in
    not_declared db c.args.update.now (slice_get db.tables c.args.update.now.table) (point c.args.env.now (g.A.Answers.content c.args.answers.now) (g.A.Answers.told c.args.answers.now))
    (ap (λ (y : Database). slice_get y.tables c.args.update.now.table) (sym c.database.ensures.database) ∙ sym c.in-None.ensures.value)
