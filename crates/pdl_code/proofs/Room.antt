-- Operations that are written over the room that was left for them.
use Rattle.std.specs.Prelude.{◌≡◌, ℕ, ◌+◌, ◌-◌, ◌<◌, ◌≤◌, List, [], ◌∷◌, ◌++◌, length, slice_set, Result, IfOk}
use Rattle.std.proofs.Common.{refl, sym, ap, subst, ◌∙◌, arith, append_assoc, append-nil, length-append, length-set}
use Rattle.std.proofs.Math.Seq.{set-append_seam}
use Rattle.db_model.specs.declared.element.Element.{Element}
use Rattle.expr_code.specs.declared.code.ExprCode.{ExprCode}
use Rattle.db_model.specs.declared.field_kind.CaseRange.{CaseRange}
use Rattle.db_model.specs.declared.no_memory.NoMemory.{NoMemory}
use Rattle.db_model.specs.Numbering.{Counts, none, counts_of}
use Rattle.pdl_code.specs.declared.code.Op.{Op}
use Rattle.pdl_code.specs.declared.code.Op.TheVariants.{End, Jump, Test, Switch}
use Rattle.pdl_code.specs.declared.place.Place.{Place}
use Rattle.pdl_code.specs.declared.scope.Scope.{Scope}
use Rattle.pdl_code.specs.Coding.{Ops, ended, around, if_code, bodies, begins, switch_code, code_of}
use Rattle.pdl_code.specs.Parts.{counts, Wrote, open_bodies, ends, jumps_to, AllBelow}
use Rattle.pdl_code.specs.Written.{WroteElement}
use Rattle.pdl_code.proofs.Elements.{plus_none}

-- ---- what was written, under other names

pub as_element : (s : Scope) (x y : Element) (has : Counts) (code : Counts → Ops) (before after : Ops) (at : Place) (r : Result Place NoMemory) → x ≡ y → counts_of y ≡ has → code_of s.db.now s.protocol y ≡ code → IfOk r (λ to. Wrote has code before after at to) → IfOk r (λ to. WroteElement s x before after at to)
as_element s x y has code before after at r e f g h =
    subst (λ c. IfOk r (λ to. Wrote (counts_of x) c before after at to)) (sym g ∙ ap (code_of s.db.now s.protocol) (sym e))
    (subst (λ n. IfOk r (λ to. Wrote n code before after at to)) (sym f ∙ ap counts_of (sym e)) h)

-- nothing was written
pub wrote_nothing : (code : Counts → Ops) (ops : Ops) (at : Place) → code (counts at) ≡ [] → Wrote none code ops ops at at
wrote_nothing code ops at e = record { place = sym (plus_none (counts at)); ops = sym (append-nil ops) ∙ ap (λ l. ops ++ l) (sym e) }

-- ---- a block or a loop

pub room_within : (base now rest : Ops) (start : ℕ) → start ≡ length base → now ≡ base ++ End ∷ rest → start < length now
room_within base now rest start s e = let l = ap length e ∙ length-append base (End ∷ rest) in omega arith

pub around_written : (o : ℕ → Op) (base now body : Ops) (start n : ℕ) → start ≡ length base → now ≡ base ++ End ∷ ended body → n ≡ length now → slice_set now start (o (n - start - 1)) ≡ base ++ around o body
around_written o base now body start n s e m =
    let l = ap length e ∙ length-append base (End ∷ ended body) in
    let b : length (ended body) ≡ length body + 1 = omega (arith, length-append body (End ∷ [])) in
    let d : n - start - 1 ≡ length body + 1 = omega arith in
    ap (λ l. slice_set l start (o (n - start - 1))) e
    ∙ ap (λ k. slice_set (base ++ End ∷ ended body) k (o (n - start - 1))) s
    ∙ set-append_seam base End (ended body) (o (n - start - 1))
    ∙ ap (λ k. base ++ o k ∷ ended body) d

-- ---- a test

two_writes : (c a b : Ops) (x y i j : Op) → slice_set (slice_set (c ++ x ∷ (a ++ y ∷ b)) (length c) i) (length (c ++ i ∷ a)) j ≡ c ++ i ∷ (a ++ j ∷ b)
two_writes c a b x y i j =
    ap (λ l. slice_set l (length (c ++ i ∷ a)) j) (set-append_seam c x (a ++ y ∷ b) i ∙ sym (append_assoc c (i ∷ a) (y ∷ b)))
    ∙ set-append_seam (c ++ i ∷ a) y b j
    ∙ append_assoc c (i ∷ a) (j ∷ b)

module _ (base so other c1 c2 c3 c4 : Ops) (start middle : ℕ) (s : start ≡ length base) (e1 : c1 ≡ base ++ End ∷ []) (e2 : c2 ≡ c1 ++ so) (m : middle ≡ length c2) (e3 : c3 ≡ c2 ++ End ∷ []) (e4 : c4 ≡ c3 ++ other) where
  l1 : length c1 ≡ length base + 1
  l1 = ap length e1 ∙ length-append base (End ∷ [])

  l2 : length c2 ≡ length c1 + length so
  l2 = ap length e2 ∙ length-append c1 so

  l3 : length c3 ≡ length c2 + 1
  l3 = ap length e3 ∙ length-append c2 (End ∷ [])

  l4 : length c4 ≡ length c3 + length other
  l4 = ap length e4 ∙ length-append c3 other

  pub start_within : start < length c4
  start_within = omega (arith, l1, l2, l3, l4, s)

  pub middle_within : middle < length c4
  middle_within = omega (arith, l3, l4, m)

  pub start_first : start ≤ middle
  start_first = omega (arith, l1, l2, s, m)

  pub if_written : (v : ExprCode) (end : ℕ) → end ≡ length c4 → slice_set (slice_set c4 start (Test v (middle - start))) middle (Jump (end - middle - 1)) ≡ base ++ if_code v so other
  if_written v end n =
      let i = Test v (middle - start) in
      let j = Jump (end - middle - 1) in
      let d1 : middle - start ≡ length so + 1 = omega (arith, l1, l2, s, m) in
      let d2 : end - middle - 1 ≡ length other = omega (arith, l3, l4, m, n) in
      let at : middle ≡ length (base ++ i ∷ so) = omega (arith, l1, l2, s, m, length-append base (i ∷ so)) in
      let all : c4 ≡ (((base ++ End ∷ []) ++ so) ++ End ∷ []) ++ other = cc in
      let flat : (((base ++ End ∷ []) ++ so) ++ End ∷ []) ++ other ≡ base ++ End ∷ (so ++ End ∷ other) = simp append_assoc in
      ap (λ l. slice_set (slice_set l start i) middle j) (all ∙ flat)
      ∙ ap (λ k. slice_set (slice_set (base ++ End ∷ (so ++ End ∷ other)) k i) middle j) s
      ∙ ap (λ k. slice_set (slice_set (base ++ End ∷ (so ++ End ∷ other)) (length base) i) k j) at
      ∙ two_writes base so other End End i j
      ∙ ap (λ k. base ++ Test v k ∷ (so ++ j ∷ other)) d1
      ∙ ap (λ k. base ++ Test v (length so + 1) ∷ (so ++ Jump k ∷ other)) d2

-- ---- a switch

pub same_length : (bs : List Ops) (more : ℕ) → length (bodies bs more) ≡ length (open_bodies bs)
same_length [] more = refl
same_length (b ∷ bs) more = omega (arith, same_length bs more, length-append b (Jump (length (bodies bs more) + more) ∷ bodies bs more), length-append b (End ∷ open_bodies bs))

-- the jumps behind the bodies, once the end is known
pub jumps_written : (bs : List Ops) (pre other : Ops) (from end : ℕ) → from ≡ length pre → end ≡ length pre + length (open_bodies bs) + length other → jumps_to end (ends from bs) (pre ++ (open_bodies bs ++ other)) ≡ pre ++ (bodies bs (length other) ++ other)
jumps_written [] pre other from end f n = refl
jumps_written (b ∷ bs) pre other from end f n =
    let rest : Ops = open_bodies bs ++ other in
    let j : Op = Jump (end - (from + length b) - 1) in
    let pre' : Ops = (pre ++ b) ++ j ∷ [] in
    let lb : length (b ++ End ∷ open_bodies bs) ≡ length b + (1 + length (open_bodies bs)) = omega (arith, length-append b (End ∷ open_bodies bs)) in
    let at : from + length b ≡ length (pre ++ b) = omega (arith, f, length-append pre b) in
    let n' : from + length b + 1 ≡ length pre' = omega (arith, at, length-append (pre ++ b) (j ∷ [])) in
    let d : end - (from + length b) - 1 ≡ length (bodies bs (length other)) + length other = omega (arith, f, n, lb, same_length bs (length other)) in
    let whole : pre ++ ((b ++ End ∷ open_bodies bs) ++ other) ≡ (pre ++ b) ++ End ∷ rest = ap (λ l. pre ++ l) (append_assoc b (End ∷ open_bodies bs) other) ∙ sym (append_assoc pre b (End ∷ rest)) in
    let one : slice_set (pre ++ ((b ++ End ∷ open_bodies bs) ++ other)) (from + length b) j ≡ pre' ++ rest =
    ap (λ l. slice_set l (from + length b) j) whole
    ∙ ap (λ k. slice_set ((pre ++ b) ++ End ∷ rest) k j) at
    ∙ set-append_seam (pre ++ b) End rest j
    ∙ sym (append_assoc (pre ++ b) (j ∷ []) rest) in
    let last : pre' ++ (bodies bs (length other) ++ other) ≡ pre ++ ((b ++ j ∷ bodies bs (length other)) ++ other) =
    append_assoc (pre ++ b) (j ∷ []) (bodies bs (length other) ++ other)
    ∙ append_assoc pre b (j ∷ (bodies bs (length other) ++ other))
    ∙ ap (λ l. pre ++ l) (sym (append_assoc b (j ∷ bodies bs (length other)) other)) in
    ap (λ l. jumps_to end (ends (from + length b + 1) bs) l) one
    ∙ jumps_written bs pre' other (from + length b + 1) end n' (omega (arith, n', f, n, lb))
    ∙ last
    ∙ ap (λ k. pre ++ ((b ++ Jump k ∷ bodies bs (length other)) ++ other)) d

pub ends_below : (bs : List Ops) (from n : ℕ) → from + length (open_bodies bs) ≤ n → AllBelow n (ends from bs)
ends_below [] from n h = tt
ends_below (b ∷ bs) from n h =
    let l : length (b ++ End ∷ open_bodies bs) ≡ length b + (1 + length (open_bodies bs)) = omega (arith, length-append b (End ∷ open_bodies bs)) in
    (omega (arith, h, l), ends_below bs (from + length b + 1) n (omega (arith, h, l)))

-- writing jumps keeps the length
pub jumps_length : (end : ℕ) (ps : List ℕ) (ops : Ops) → length (jumps_to end ps ops) ≡ length ops
jumps_length end [] ops = refl
jumps_length end (p ∷ ps) ops = jumps_length end ps (slice_set ops p (Jump (end - p - 1))) ∙ length-set ops p (Jump (end - p - 1))

module _ (base c1 c2 c3 other : Ops) (cases : List Ops) (start : ℕ) (s : start ≡ length base) (e1 : c1 ≡ base ++ End ∷ []) (e2 : c2 ≡ c1 ++ open_bodies cases) (e3 : c3 ≡ c2 ++ other) where
  k1 : length c1 ≡ length base + 1
  k1 = ap length e1 ∙ length-append base (End ∷ [])

  k2 : length c2 ≡ length c1 + length (open_bodies cases)
  k2 = ap length e2 ∙ length-append c1 (open_bodies cases)

  k3 : length c3 ≡ length c2 + length other
  k3 = ap length e3 ∙ length-append c2 other

  pub ends_within : AllBelow (length c3) (ends (length c1) cases)
  ends_within = ends_below cases (length c1) (length c3) (omega (arith, k2, k3))

  pub switch_start : start < length c2
  switch_start = omega (arith, k1, k2, s)

  pub switch_within : start < length c3
  switch_within = omega (arith, k1, k2, k3, s)

  pub switch_written : (v : ExprCode) (ranges : List CaseRange) (middle : ℕ) (c4 : Ops) → middle ≡ length c2 → c4 ≡ jumps_to (length c3) (ends (length c1) cases) c3 → slice_set c4 start (Switch v (record { ranges = ranges; targets = begins 0 cases; otherwise = middle - start - 1 })) ≡ base ++ switch_code v ranges cases other
  switch_written v ranges middle c4 m e4 =
      let last : Ops = bodies cases (length other) ++ other in
      let op : Op = Switch v (record { ranges = ranges; targets = begins 0 cases; otherwise = middle - start - 1 }) in
      let whole : c3 ≡ (base ++ End ∷ []) ++ (open_bodies cases ++ other) = e3 ∙ ap (λ l. l ++ other) (e2 ∙ ap (λ l. l ++ open_bodies cases) e1) ∙ append_assoc (base ++ End ∷ []) (open_bodies cases) other in
      let first : length c1 ≡ length (base ++ End ∷ []) = ap length e1 in
      let written : c4 ≡ (base ++ End ∷ []) ++ last =
      e4 ∙ ap (λ l. jumps_to (length c3) (ends (length c1) cases) l) whole
      ∙ jumps_written cases (base ++ End ∷ []) other (length c1) (length c3) first (omega (arith, k1, k2, k3, first)) in
      let d : middle - start - 1 ≡ length (bodies cases (length other)) = omega (arith, k1, k2, s, m, same_length cases (length other)) in
      ap (λ l. slice_set l start op) (written ∙ append_assoc base (End ∷ []) last)
      ∙ ap (λ k. slice_set (base ++ End ∷ last) k op) s
      ∙ set-append_seam base End last op
      ∙ ap (λ k. base ++ Switch v (record { ranges = ranges; targets = begins 0 cases; otherwise = k }) ∷ last) d
