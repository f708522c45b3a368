-- A switch: the case that its operation jumps to is the one that is chosen.
use Rattle.std.specs.Prelude.{◌≡◌, ℕ, suc, ◌+◌, Bool, true, false, cond, not, ◌&&◌, if◌then◌else◌, nat_lt, nat_le, List, [], ◌∷◌, ◌++◌, map, length, Option, Some, None}
use Rattle.std.specs.List.{position_or_len}
use Rattle.std.proofs.Common.{refl, sym, ap, subst, ◌∙◌, arith, append_assoc, length-append}
use Rattle.std.proofs.lemmas.Bool.Decides.{nat_tests}
use Rattle.db_model.specs.declared.database.Database.{Database}
use Rattle.db_model.specs.declared.field_kind.CaseRange.{CaseRange}
use Rattle.db_model.specs.Elements.{holds, Part, total, each, or_next, choose}
use Rattle.db_model.specs.Folds.{CaseOf, BranchOf}
use Rattle.db_model.specs.Numbering.{Counts, plus}
use Rattle.db_model.specs.Questions.{◌then◌}
use Rattle.db_model.specs.Runs.{Run, go, evaluated}
use Rattle.encap.specs.Choice.{case_holds}
use Rattle.expr_code.specs.declared.code.ExprCode.{ExprCode}
use Rattle.pdl_code.specs.declared.code.Choice.{Choice}
use Rattle.pdl_code.specs.declared.code.Op.{Op}
use Rattle.pdl_code.specs.declared.code.Op.TheVariants.{Jump}
use Rattle.pdl_code.specs.declared.code.ProtoCode.{ProtoCode}
use Rattle.pdl_code.specs.Coding.{Ops, Coded, all_in, codes, other_codes, bodies, begins, switch_code, range_of, case_codes, behind_cases}
use Rattle.pdl_code.specs.Does.{number, target_at, target, Does, jumps, switches}
use Rattle.pdl_code.proofs.Algebra.{evaluated_go}
use Rattle.pdl_code.proofs.Pieces.{Piece, at_place, as_run}
use Rattle.pdl_code.proofs.Standing.{HasAt, has_front, has_back}

-- ---- the target of the first range that holds a number

-- a switch with these ranges, targets and default
abbrev choice_of : List CaseRange → List ℕ → ℕ → Choice
choice_of ranges targets otherwise = record { ranges = ranges; targets = targets; otherwise = otherwise }

lt_more : (k n : ℕ) → nat_lt (1 + k) (suc n) ≡ nat_lt k n
lt_more k n = grind (arith, nat_tests)

target_first : (c : CaseRange) (cs : List CaseRange) (d : ℕ) (ds : List ℕ) (otherwise v : ℕ) → target (choice_of (c ∷ cs) (d ∷ ds) otherwise) v ≡ (if case_holds v c then d else target (choice_of cs ds otherwise) v)
target_first c cs d ds otherwise v = by (case_holds v c)
  where
    k : ℕ
    k = position_or_len (case_holds v) cs

    at : (b : Bool) → target_at (d ∷ ds) otherwise (cond b (Some (suc k)) None) ≡ target_at ds otherwise (cond b (Some k) None)
    at true = refl
    at false = refl

    by : (b : Bool) → target_at (d ∷ ds) otherwise (cond (nat_lt (cond (not b) (1 + k) 0) (suc (length cs))) (Some (cond (not b) (1 + k) 0)) None) ≡ (if b then d else target (choice_of cs ds otherwise) v)
    by true = let e : nat_lt 0 (suc (length cs)) ≡ true = grind (arith, nat_tests) in ap (λ b. target_at (d ∷ ds) otherwise (cond b (Some 0) None)) e
    by false =
        let n : 1 + k ≡ suc k = omega arith in
        ap (λ b. target_at (d ∷ ds) otherwise (cond b (Some (1 + k)) None)) (lt_more k (length cs))
        ∙ ap (λ m. target_at (d ∷ ds) otherwise (cond (nat_lt k (length cs)) (Some m) None)) n
        ∙ at (nat_lt k (length cs))

module _ (db : Database) (code : ProtoCode) where
  -- the operations of a case do what the case does
  pub record CaseDoes (c : CaseOf Coded) (p : CaseOf Part) : Type 0 where
    pub value : c.value ≡ p.value
    pub maxvalue : c.maxvalue ≡ p.maxvalue
    pub has : all_in c.body ≡ total p.body
    pub body : (at : Counts) → Piece db code (codes c.body at) (each p.body at)

  abbrev pub CasesDo : List (CaseOf Coded) → List (CaseOf Part) → Type 0
  CasesDo [] [] = Unit {0}
  CasesDo [] (p ∷ ps) = ⊥
  CasesDo (c ∷ cs) [] = ⊥
  CasesDo (c ∷ cs) (p ∷ ps) = CaseDoes c p × CasesDo cs ps

  -- the default
  abbrev pub OtherDoes : Option (BranchOf Coded) → Option (BranchOf Part) → Type 0
  OtherDoes other q = (at : Counts) → Piece db code (other_codes other at) (or_next q at)

  either : (b : Bool) (start from to : ℕ) (p q r : Run) → Does db code (start + from) (p then go r) → Does db code (start + to) (q then go r) → Does db code (start + (if b then from else to)) ((if b then p else q) then go r)
  either true start from to p q r x y = x
  either false start from to p q r x y = y

  module _ (other : Option (BranchOf Coded)) (q : Option (BranchOf Part)) (other_does : OtherDoes other q) (start otherwise more : ℕ) (r : Run) (v : ℕ) where
    -- from the place at which some cases begin
    chosen : (cs : List (CaseOf Coded)) (ps : List (CaseOf Part)) → CasesDo cs ps → (at : Counts) (place from : ℕ) → place ≡ start + from → start + otherwise ≡ place + length (bodies (case_codes cs at) more) → more ≡ length (other_codes other (behind_cases cs at)) → HasAt code.ops place (bodies (case_codes cs at) more ++ other_codes other (behind_cases cs at)) → Does db code (place + length (bodies (case_codes cs at) more) + more) r → Does db code (start + target (choice_of (map range_of cs) (begins from (case_codes cs at)) otherwise) v) (choose v ps q at then go r)
    chosen [] [] x at place from f o m h d =
        let there : place + length {A = Op} [] + more ≡ place + length (other_codes other at) = omega (arith, m) in
        let here : place ≡ start + otherwise = omega (arith, o) in
        at_place db code place (start + otherwise) (or_next q at then go r) here ((other_does at).piece place r h (at_place db code (place + length {A = Op} [] + more) (place + length (other_codes other at)) r there d))
    chosen [] (p ∷ ps) x at place from f o m h d = absurd x
    chosen (c ∷ cs) [] x at place from f o m h d = absurd x
    chosen (c ∷ cs) (p ∷ ps) x at place from f o m h d =
        let b : Ops = codes c.body at in
        let next_at : Counts = plus at (all_in c.body) in
        let rest : Ops = bodies (case_codes cs next_at) more in
        let last : Ops = other_codes other (behind_cases cs next_at) in
        let jump : Op = Jump (length rest + more) in
        let h' : HasAt code.ops place (b ++ jump ∷ (rest ++ last)) = subst (λ l. HasAt code.ops place l) (append_assoc b (jump ∷ rest) last) h in
        let tail : HasAt code.ops (place + length b) (jump ∷ (rest ++ last)) = has_back code.ops place b (jump ∷ (rest ++ last)) h' in
        let l : length (b ++ jump ∷ rest) ≡ length b + (1 + length rest) = omega (arith, length-append b (jump ∷ rest)) in
        let end : place + length (b ++ jump ∷ rest) + more ≡ place + length b + 1 + (length rest + more) = omega (arith, l) in
        let end' : place + length (b ++ jump ∷ rest) + more ≡ place + length b + 1 + length rest + more = omega (arith, l) in
        let first : Does db code place (each p.body at then go r) =
        (x.0.body at).piece place r (has_front code.ops place b (jump ∷ (rest ++ last)) h')
        (jumps (place + length b) (length rest + more) r tail.0 (at_place db code (place + length (b ++ jump ∷ rest) + more) (place + length b + 1 + (length rest + more)) r end d)) in
        let second : Does db code (start + target (choice_of (map range_of cs) (begins (from + length b + 1) (case_codes cs next_at)) otherwise) v) (choose v ps q next_at then go r) =
        chosen cs ps x.1 next_at (place + length b + 1) (from + length b + 1) (omega (arith, f)) (omega (arith, o, l)) m tail.1 (at_place db code (place + length (b ++ jump ∷ rest) + more) (place + length b + 1 + length rest + more) r end' d) in
        let to : ℕ = target (choice_of (map range_of cs) (begins (from + length b + 1) (case_codes cs next_at)) otherwise) v in
        let test : case_holds v (range_of c) ≡ holds p v = λ i. nat_le (x.0.value i) v && nat_le v (x.0.maxvalue i) in
        let goes : target (choice_of (range_of c ∷ map range_of cs) (from ∷ begins (from + length b + 1) (case_codes cs next_at)) otherwise) v ≡ (if holds p v then from else to) =
        target_first (range_of c) (map range_of cs) from (begins (from + length b + 1) (case_codes cs next_at)) otherwise v ∙ ap (λ t. if t then from else to) test in
        let second' : Does db code (start + to) (choose v ps q (plus at (total p.body)) then go r) = subst (λ n. Does db code (start + to) (choose v ps q (plus at n) then go r)) x.0.has second in
        at_place db code (start + (if holds p v then from else to)) (start + target (choice_of (range_of c ∷ map range_of cs) (from ∷ begins (from + length b + 1) (case_codes cs next_at)) otherwise) v) (choose v (p ∷ ps) q at then go r) (ap (λ n. start + n) (sym goes))
        (either (holds p v) start from to (each p.body at) (choose v ps q (plus at (total p.body))) r (at_place db code place (start + from) (each p.body at then go r) f first) second')

  pub one_switch : (e : ExprCode) (cs : List (CaseOf Coded)) (ps : List (CaseOf Part)) (other : Option (BranchOf Coded)) (q : Option (BranchOf Part)) → CasesDo cs ps → OtherDoes other q → (at : Counts) → Piece db code (switch_code e (map range_of cs) (case_codes cs at) (other_codes other (behind_cases cs at))) (evaluated (number db e) (λ v. choose v ps q at))
  one_switch e cs ps other q x y at =
      let last : Ops = other_codes other (behind_cases cs at) in
      let all : Ops = bodies (case_codes cs at) (length last) in
      record {
        piece = λ pc r h d.
            as_run db code pc (evaluated (number db e) (λ v. choose v ps q at then go r)) (evaluated (number db e) (λ v. choose v ps q at) then go r) (sym (evaluated_go (number db e) (λ v. choose v ps q at) r))
            (switches pc e (choice_of (map range_of cs) (begins 0 (case_codes cs at)) (length all)) (λ v. choose v ps q at then go r) h.0 (λ v.
            let l : pc + length (switch_code e (map range_of cs) (case_codes cs at) last) ≡ pc + 1 + length all + length last = omega (arith, length-append all last) in
            chosen other q y (pc + 1) (length all) (length last) r v cs ps x at (pc + 1) 0 (omega arith) refl refl h.1
            (at_place db code (pc + length (switch_code e (map range_of cs) (case_codes cs at) last)) (pc + 1 + length all + length last) r l d)));
      }
