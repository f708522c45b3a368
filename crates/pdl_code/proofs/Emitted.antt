-- What emitting one form wrote, from what its parts wrote.
use Rattle.std.specs.Prelude.{◌≡◌, ℕ, ◌-◌, ◌<◌, ◌≤◌, List, [], ◌∷◌, ◌++◌, map, length, slice_set, Option}
use Rattle.std.proofs.Common.{refl, sym, ap, subst, ◌∙◌}
use Rattle.db_model.specs.declared.element.Branch.{Branch}
use Rattle.db_model.specs.declared.element.Case.{Case}
use Rattle.db_model.specs.declared.element.Element.{Element}
use Rattle.db_model.specs.declared.element.LoopKind.{LoopKind}
use Rattle.db_model.specs.declared.expression.Expr.{Expr}
use Rattle.db_model.specs.declared.field_kind.CaseRange.{CaseRange}
use Rattle.expr_code.specs.declared.code.ExprCode.{ExprCode}
use Rattle.db_model.specs.Numbering.{Counts, plus, a_block, counts_in}
use Rattle.pdl_code.specs.declared.code.Op.TheVariants.{End, Switch, Block, Loop}
use Rattle.pdl_code.specs.declared.place.Place.{Place}
use Rattle.pdl_code.specs.declared.scope.Scope.{Scope}
use Rattle.pdl_code.specs.declared.written.Bodies.{Bodies}
use Rattle.pdl_code.specs.Coding.{Ops, around, if_code, switch_code}
use Rattle.pdl_code.specs.Parts.{counts, Wrote, case_range, counts_in_cases, counts_in_other, ends, jumps_to, test_at, switch_at, AllBelow}
use Rattle.pdl_code.specs.Written.{Writing, resolved, codes_in, codes_in_cases, codes_in_other, WroteList, WroteBody, WroteBlock, WroteLoop, WroteCases, WroteOther}
use Rattle.pdl_code.proofs.Elements.{plus_assoc}
use Rattle.pdl_code.proofs.Room.{around_written, middle_within, start_first, if_written, ends_within, switch_start, switch_within, switch_written}

module _ (scope : Scope) where
  abbrev pub WroteSwitch : Expr → List Case → Option Branch → Writing
  WroteSwitch e cs b =
      let other : Counts → Ops = λ n. codes_in_other scope b (plus n (counts_in_cases cs)) in
      let code : Counts → Ops = λ n. switch_code (resolved scope e) (map case_range cs) (codes_in_cases scope cs n) (other n) in
      Wrote (plus (counts_in_cases cs) (counts_in_other b)) code

  abbrev pub WroteTest : Expr → List Element → Option Branch → Writing
  WroteTest e xs b =
      let code : Counts → Ops = λ n. if_code (resolved scope e) (codes_in scope xs n) (codes_in_other scope b (plus n (counts_in xs))) in
      Wrote (plus (counts_in xs) (counts_in_other b)) code

  pub block_wrote : (xs : List Element) (ops now new : Ops) (start n : ℕ) (at inside to : Place) → start ≡ length ops → counts inside ≡ plus (counts at) a_block → WroteBody scope xs ops now inside to → n ≡ length now → new ≡ slice_set now start (Block at.blocks (n - start - 1)) → WroteBlock scope xs ops new at to
  block_wrote xs ops now new start n at inside to s e w m f = record {
    place = w.place ∙ ap (λ k. plus k (counts_in xs)) e ∙ plus_assoc (counts at) a_block (counts_in xs);
    ops = f ∙ around_written (Block at.blocks) ops now (codes_in scope xs (counts inside)) start n s w.ops m ∙ ap (λ k. ops ++ around (Block at.blocks) (codes_in scope xs k)) e;
  }

  pub loop_wrote : (xs : List Element) (kind : LoopKind) (value : Expr) (copy : ExprCode) (ops now new : Ops) (start n : ℕ) (at to : Place) → copy ≡ resolved scope value → start ≡ length ops → WroteBody scope xs ops now at to → n ≡ length now → new ≡ slice_set now start (Loop kind copy (n - start - 1)) → WroteLoop scope kind value xs ops new at to
  loop_wrote xs kind value copy ops now new start n at to v s w m f = record {
    place = w.place;
    ops = f ∙ around_written (Loop kind copy) ops now (codes_in scope xs (counts at)) start n s w.ops m ∙ ap (λ x. ops ++ around (Loop kind x) (codes_in scope xs (counts at))) v;
  }

  module _ (so : List Element) (other : Option Branch) (ops c1 c2 c3 c4 : Ops) (start middle : ℕ) (at between to : Place) (s : start ≡ length ops) (e1 : c1 ≡ ops ++ End ∷ []) (w1 : WroteList scope so c1 c2 at between) (m : middle ≡ length c2) (e3 : c3 ≡ c2 ++ End ∷ []) (w2 : WroteOther scope other c3 c4 between to) where
    pub test_order : start ≤ middle
    test_order = start_first ops (codes_in scope so (counts at)) (codes_in_other scope other (counts between)) c1 c2 c3 c4 start middle s e1 w1.ops m e3 w2.ops

    pub test_within : middle < length c4
    test_within = middle_within ops (codes_in scope so (counts at)) (codes_in_other scope other (counts between)) c1 c2 c3 c4 start middle s e1 w1.ops m e3 w2.ops

    pub test_wrote : (value : Expr) (copy : ExprCode) (new : Ops) → copy ≡ resolved scope value → new ≡ test_at start middle copy c4 → WroteTest value so other ops new at to
    test_wrote value copy new v f = record {
      place = w2.place ∙ ap (λ k. plus k (counts_in_other other)) w1.place ∙ plus_assoc (counts at) (counts_in so) (counts_in_other other);
      ops = f ∙ ap (λ x. test_at start middle x c4) v ∙ if_written ops (codes_in scope so (counts at)) (codes_in_other scope other (counts between)) c1 c2 c3 c4 start middle s e1 w1.ops m e3 w2.ops (resolved scope value) (length c4) refl ∙ ap (λ k. ops ++ if_code (resolved scope value) (codes_in scope so (counts at)) (codes_in_other scope other k)) w1.place;
    }

  module _ (cases : List Case) (other : Option Branch) (ops c1 c2 c3 : Ops) (start middle : ℕ) (at to : Place) (bodies : Bodies) (s : start ≡ length ops) (e1 : c1 ≡ ops ++ End ∷ []) (w1 : WroteCases scope cases c1 c2 at bodies) (m : middle ≡ length c2) (w2 : WroteOther scope other c2 c3 bodies.to to) where
    pub switch_order : start < middle
    switch_order = subst (λ n. start < n) (sym m) (switch_start ops c1 c2 c3 (codes_in_other scope other (counts bodies.to)) (codes_in_cases scope cases (counts at)) start s e1 w1.ops w2.ops)

    pub switch_inside : start < length c3
    switch_inside = switch_within ops c1 c2 c3 (codes_in_other scope other (counts bodies.to)) (codes_in_cases scope cases (counts at)) start s e1 w1.ops w2.ops

    pub switch_ends : AllBelow (length c3) bodies.ends
    switch_ends = subst (λ l. AllBelow (length c3) l) (sym w1.end) (ends_within ops c1 c2 c3 (codes_in_other scope other (counts bodies.to)) (codes_in_cases scope cases (counts at)) start s e1 w1.ops w2.ops)

    pub switch_wrote : (value : Expr) (copy : ExprCode) (ranges : List CaseRange) (new : Ops) → copy ≡ resolved scope value → ranges ≡ map case_range cases → new ≡ switch_at start middle copy ranges bodies c3 → WroteSwitch value cases other ops new at to
    switch_wrote value copy ranges new v r f =
        let e : ExprCode = resolved scope value in
        let all : List CaseRange = map case_range cases in
        record {
          place = w2.place ∙ ap (λ k. plus k (counts_in_other other)) w1.place ∙ plus_assoc (counts at) (counts_in_cases cases) (counts_in_other other);
          ops =
              f
              ∙ ap (λ x. switch_at start middle x ranges bodies c3) v
              ∙ ap (λ x. switch_at start middle e x bodies c3) r
              ∙ ap (λ l. slice_set (jumps_to (length c3) l c3) start (Switch e (record { ranges = all; targets = bodies.begins; otherwise = middle - start - 1 }))) w1.end
              ∙ ap (λ l. slice_set (jumps_to (length c3) (ends (length c1) (codes_in_cases scope cases (counts at))) c3) start (Switch e (record { ranges = all; targets = l; otherwise = middle - start - 1 }))) w1.begin
              ∙ switch_written ops c1 c2 c3 (codes_in_other scope other (counts bodies.to)) (codes_in_cases scope cases (counts at)) start s e1 w1.ops w2.ops e all middle (jumps_to (length c3) (ends (length c1) (codes_in_cases scope cases (counts at))) c3) m refl
              ∙ ap (λ k. ops ++ switch_code e all (codes_in_cases scope cases (counts at)) (codes_in_other scope other k)) w1.place;
        }
