-- One step of a walk along elements, cases, named blocks or protocols: what is written, with what the rest will write.
use Rattle.std.specs.Prelude.{◌≡◌, ℕ, ◌+◌, ◌<◌, suc, List, [], ◌∷◌, ◌++◌, length, drop}
use Rattle.std.proofs.Common.{sym, ap, ◌∙◌, arith, append_assoc}
use Rattle.std.proofs.Math.ListN.{get_or}
use Rattle.std.proofs.lemmas.List.{at_drop_more}
use Rattle.db_model.specs.declared.database.Database.{Database}
use Rattle.db_model.specs.declared.database.NamedBlock.{NamedBlock}
use Rattle.db_model.specs.declared.database.Protocol.{Protocol}
use Rattle.db_model.specs.declared.element.Case.{Case}
use Rattle.db_model.specs.declared.element.Element.{Element}
use Rattle.db_model.specs.Numbering.{Counts, plus, a_block, counts_of, counts_in}
use Rattle.pdl_code.specs.declared.code.BlockStart.{BlockStart}
use Rattle.pdl_code.specs.declared.code.Op.TheVariants.{End}
use Rattle.pdl_code.specs.declared.code.ProtoCode.{ProtoCode}
use Rattle.pdl_code.specs.Coding.{Ops, ended, begins, code_of, codes_in, block_codes, block_starts, proto_code, protocol_codes}
use Rattle.pdl_code.specs.Parts.{open_bodies, ends, counts_in_cases, codes_in_cases}
use Rattle.pdl_code.proofs.Elements.{plus_assoc}

-- ---- elements

module _ (db : Database) (q : ℕ) (xs : List Element) (i : ℕ) (x : Element) (within : i < length xs) (is : x ≡ get_or xs i x) (n m : Counts) (step : m ≡ plus n (counts_of x)) where
  pub elements_counted : (all : Counts) → plus n (counts_in (drop i xs)) ≡ all → plus m (counts_in (drop (i + 1) xs)) ≡ all
  elements_counted all h =
      ap (λ k. plus k (counts_in (drop (i + 1) xs))) step
      ∙ plus_assoc n (counts_of x) (counts_in (drop (i + 1) xs))
      ∙ ap (λ y. plus n (plus (counts_of y) (counts_in (drop (i + 1) xs)))) is
      ∙ ap (λ k. plus n k) (sym (at_drop_more counts_in xs i x within))
      ∙ h

  pub elements_written : (ops more all : Ops) → more ≡ ops ++ code_of db q x n → ops ++ codes_in db q (drop i xs) n ≡ all → more ++ codes_in db q (drop (i + 1) xs) m ≡ all
  elements_written ops more all e h =
      ap (λ k. more ++ codes_in db q (drop (i + 1) xs) k) step
      ∙ ap (λ l. l ++ codes_in db q (drop (i + 1) xs) (plus n (counts_of x))) e
      ∙ append_assoc ops (code_of db q x n) (codes_in db q (drop (i + 1) xs) (plus n (counts_of x)))
      ∙ ap (λ y. ops ++ (code_of db q y n ++ codes_in db q (drop (i + 1) xs) (plus n (counts_of y)))) is
      ∙ ap (λ l. ops ++ l) (sym (at_drop_more (λ l. codes_in db q l n) xs i x within))
      ∙ h

-- ---- cases

module _ (db : Database) (q : ℕ) (xs : List Case) (i : ℕ) (x : Case) (within : i < length xs) (is : x ≡ get_or xs i x) (n m : Counts) (step : m ≡ plus n (counts_in x.body)) where
  pub cases_counted : (all : Counts) → plus n (counts_in_cases (drop i xs)) ≡ all → plus m (counts_in_cases (drop (i + 1) xs)) ≡ all
  cases_counted all h =
      ap (λ k. plus k (counts_in_cases (drop (i + 1) xs))) step
      ∙ plus_assoc n (counts_in x.body) (counts_in_cases (drop (i + 1) xs))
      ∙ ap (λ (y : Case). plus n (plus (counts_in y.body) (counts_in_cases (drop (i + 1) xs)))) is
      ∙ ap (λ k. plus n k) (sym (at_drop_more counts_in_cases xs i x within))
      ∙ h

  -- the rest, by the first of it
  left_is : codes_in_cases db q (drop i xs) n ≡ codes_in db q x.body n ∷ codes_in_cases db q (drop (i + 1) xs) m
  left_is =
      at_drop_more (λ l. codes_in_cases db q l n) xs i x within
      ∙ ap (λ (y : Case). codes_in db q y.body n ∷ codes_in_cases db q (drop (i + 1) xs) (plus n (counts_in y.body))) (sym is)
      ∙ ap (λ k. codes_in db q x.body n ∷ codes_in_cases db q (drop (i + 1) xs) k) (sym step)

  pub cases_written : (ops body more all : Ops) → body ≡ ops ++ codes_in db q x.body n → more ≡ body ++ End ∷ [] → ops ++ open_bodies (codes_in_cases db q (drop i xs) n) ≡ all → more ++ open_bodies (codes_in_cases db q (drop (i + 1) xs) m) ≡ all
  cases_written ops body more all e f h =
      let rest : Ops = open_bodies (codes_in_cases db q (drop (i + 1) xs) m) in
      ap (λ l. l ++ rest) (f ∙ ap (λ l. l ++ End ∷ []) e)
      ∙ append_assoc (ops ++ codes_in db q x.body n) (End ∷ []) rest
      ∙ append_assoc ops (codes_in db q x.body n) (End ∷ rest)
      ∙ ap (λ l. ops ++ open_bodies l) (sym left_is)
      ∙ h

  pub begins_written : (from next : ℕ) (done more all : List ℕ) → more ≡ done ++ from ∷ [] → next ≡ from + length (codes_in db q x.body n) + 1 → done ++ begins from (codes_in_cases db q (drop i xs) n) ≡ all → more ++ begins next (codes_in_cases db q (drop (i + 1) xs) m) ≡ all
  begins_written from next done more all e f h =
      let rest : List ℕ = begins (from + length (codes_in db q x.body n) + 1) (codes_in_cases db q (drop (i + 1) xs) m) in
      ap (λ k. more ++ begins k (codes_in_cases db q (drop (i + 1) xs) m)) f
      ∙ ap (λ l. l ++ rest) e
      ∙ append_assoc done (from ∷ []) rest
      ∙ ap (λ l. done ++ begins from l) (sym left_is)
      ∙ h

  pub ends_written : (from next place : ℕ) (done more all : List ℕ) → more ≡ done ++ place ∷ [] → place ≡ from + length (codes_in db q x.body n) → next ≡ from + length (codes_in db q x.body n) + 1 → done ++ ends from (codes_in_cases db q (drop i xs) n) ≡ all → more ++ ends next (codes_in_cases db q (drop (i + 1) xs) m) ≡ all
  ends_written from next place done more all e p f h =
      let rest : List ℕ = ends (from + length (codes_in db q x.body n) + 1) (codes_in_cases db q (drop (i + 1) xs) m) in
      ap (λ k. more ++ ends k (codes_in_cases db q (drop (i + 1) xs) m)) f
      ∙ ap (λ l. l ++ rest) (e ∙ ap (λ k. done ++ k ∷ []) p)
      ∙ append_assoc done ((from + length (codes_in db q x.body n)) ∷ []) rest
      ∙ ap (λ l. done ++ ends from l) (sym left_is)
      ∙ h

-- ---- named blocks

module _ (db : Database) (q : ℕ) (xs : List NamedBlock) (i : ℕ) (x : NamedBlock) (within : i < length xs) (is : x ≡ get_or xs i x) (n k m : Counts) (inside : k ≡ plus n a_block) (step : m ≡ plus k (counts_in x.body)) where
  behind : m ≡ plus (plus n a_block) (counts_in x.body)
  behind = step ∙ ap (λ c. plus c (counts_in x.body)) inside

  pub blocks_written : (ops body more all : Ops) → body ≡ ops ++ codes_in db q x.body k → more ≡ body ++ End ∷ [] → ops ++ block_codes db q (drop i xs) n ≡ all → more ++ block_codes db q (drop (i + 1) xs) m ≡ all
  blocks_written ops body more all e f h =
      let rest : Ops = block_codes db q (drop (i + 1) xs) (plus (plus n a_block) (counts_in x.body)) in
      let own : Ops = codes_in db q x.body (plus n a_block) in
      ap (λ c. more ++ block_codes db q (drop (i + 1) xs) c) behind
      ∙ ap (λ l. l ++ rest) (f ∙ ap (λ l. l ++ End ∷ []) (e ∙ ap (λ c. ops ++ codes_in db q x.body c) inside) ∙ append_assoc ops own (End ∷ []))
      ∙ append_assoc ops (ended own) rest
      ∙ ap (λ (y : NamedBlock). ops ++ (ended (codes_in db q y.body (plus n a_block)) ++ block_codes db q (drop (i + 1) xs) (plus (plus n a_block) (counts_in y.body)))) is
      ∙ ap (λ l. ops ++ l) (sym (at_drop_more (λ l. block_codes db q l n) xs i x within))
      ∙ h

  pub starts_written : (from next : ℕ) (done more all : List BlockStart) (start : BlockStart) → more ≡ done ++ start ∷ [] → start ≡ record { number = n.blocks; at = from } → next ≡ from + length (ended (codes_in db q x.body (plus n a_block))) → done ++ block_starts db q from (drop i xs) n ≡ all → more ++ block_starts db q next (drop (i + 1) xs) m ≡ all
  starts_written from next done more all start e s f h =
      let rest : List BlockStart = block_starts db q (from + length (ended (codes_in db q x.body (plus n a_block)))) (drop (i + 1) xs) (plus (plus n a_block) (counts_in x.body)) in
      ap (λ c. more ++ block_starts db q next (drop (i + 1) xs) c) behind
      ∙ ap (λ k. more ++ block_starts db q k (drop (i + 1) xs) (plus (plus n a_block) (counts_in x.body))) f
      ∙ ap (λ l. l ++ rest) (e ∙ ap (λ y. done ++ y ∷ []) s)
      ∙ append_assoc done (record { number = n.blocks; at = from } ∷ []) rest
      ∙ ap (λ (y : NamedBlock). done ++ (record { number = n.blocks; at = from } ∷ block_starts db q (from + length (ended (codes_in db q y.body (plus n a_block)))) (drop (i + 1) xs) (plus (plus n a_block) (counts_in y.body)))) is
      ∙ ap (λ l. done ++ l) (sym (at_drop_more (λ l. block_starts db q from l n) xs i x within))
      ∙ h

-- ---- protocols

pub protocols_written : (db : Database) (xs : List Protocol) (i : ℕ) (x : Protocol) (done more all : List ProtoCode) (c : ProtoCode) → i < length xs → x ≡ get_or xs i x → c ≡ proto_code db i x → more ≡ done ++ c ∷ [] → done ++ protocol_codes db i (drop i xs) ≡ all → more ++ protocol_codes db (i + 1) (drop (i + 1) xs) ≡ all
protocols_written db xs i x done more all c within is e f h =
    let next : i + 1 ≡ suc i = omega arith in
    ap (λ l. l ++ protocol_codes db (i + 1) (drop (i + 1) xs)) (f ∙ ap (λ y. done ++ y ∷ []) (e ∙ ap (proto_code db i) is))
    ∙ append_assoc done (proto_code db i (get_or xs i x) ∷ []) (protocol_codes db (i + 1) (drop (i + 1) xs))
    ∙ ap (λ k. done ++ (proto_code db i (get_or xs i x) ∷ protocol_codes db k (drop (i + 1) xs))) next
    ∙ ap (λ l. done ++ l) (sym (at_drop_more (λ l. protocol_codes db i l) xs i x within))
    ∙ h
