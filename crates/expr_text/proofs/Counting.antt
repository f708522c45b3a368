-- Nodes and depth of an expression, by its parts.
use Rattle.std.proofs.Common.{◌≡◌, ℕ, Bool, ◌+◌, ◌^◌, max, ◌≤◌, ◌<◌, List, [], ◌∷◌, length, get_or, drop, map, sum, fold, sym, ap, ◌∙◌, arith}
use Rattle.std.proofs.lemmas.List.{at_drop_all, at_drop_more}
use Rattle.db_model.specs.declared.expression.Expr as expr
use Rattle.db_model.specs.declared.expression.Expr.{Expr}
use Rattle.db_model.specs.declared.expression.Operator.{Operator}
use Rattle.db_model.specs.Forms.{nodes_of, nodes_step, depth_of, depth_step, deepest}
use Rattle.expr_text.specs.Sizes.{capped}
use Rattle.db_model.proofs.Layers.{fold_not, fold_and, fold_or, fold_binary, fold_slice, fold_to_number, fold_length_of, fold_to_bytes, fold_has_text, fold_look_up}

nodes_not : (a : Expr) → nodes_of (expr.Not a) ≡ 1 + nodes_of a
nodes_not a = fold_not ℕ nodes_step a

nodes_and : (a b : Expr) → nodes_of (expr.And a b) ≡ 1 + (nodes_of a + nodes_of b)
nodes_and a b = fold_and ℕ nodes_step a b

nodes_or : (a b : Expr) → nodes_of (expr.Or a b) ≡ 1 + (nodes_of a + nodes_of b)
nodes_or a b = fold_or ℕ nodes_step a b

nodes_binary : (o : Operator) (a b : Expr) → nodes_of (expr.Binary o a b) ≡ 1 + (nodes_of a + nodes_of b)
nodes_binary o a b = fold_binary ℕ nodes_step o a b

nodes_slice : (a b c : Expr) → nodes_of (expr.Slice a b c) ≡ 1 + (nodes_of a + (nodes_of b + nodes_of c))
nodes_slice a b c = fold_slice ℕ nodes_step a b c

nodes_to_number : (a : Expr) → nodes_of (expr.ToNumber a) ≡ 1 + nodes_of a
nodes_to_number a = fold_to_number ℕ nodes_step a

nodes_length_of : (a : Expr) → nodes_of (expr.LengthOf a) ≡ 1 + nodes_of a
nodes_length_of a = fold_length_of ℕ nodes_step a

nodes_to_bytes : (a : Expr) (size : ℕ) → nodes_of (expr.ToBytes a size) ≡ 1 + nodes_of a
nodes_to_bytes a size = fold_to_bytes ℕ nodes_step a size

nodes_has_text : (a : Expr) (text : List ℕ) → nodes_of (expr.HasText a text) ≡ 1 + nodes_of a
nodes_has_text a text = fold_has_text ℕ nodes_step a text

depth_not : (a : Expr) → depth_of (expr.Not a) ≡ 1 + depth_of a
depth_not a = fold_not ℕ depth_step a

depth_and : (a b : Expr) → depth_of (expr.And a b) ≡ 1 + max (depth_of a) (depth_of b)
depth_and a b = fold_and ℕ depth_step a b

depth_or : (a b : Expr) → depth_of (expr.Or a b) ≡ 1 + max (depth_of a) (depth_of b)
depth_or a b = fold_or ℕ depth_step a b

depth_binary : (o : Operator) (a b : Expr) → depth_of (expr.Binary o a b) ≡ 1 + max (depth_of a) (depth_of b)
depth_binary o a b = fold_binary ℕ depth_step o a b

depth_slice : (a b c : Expr) → depth_of (expr.Slice a b c) ≡ 1 + max (depth_of a) (max (depth_of b) (depth_of c))
depth_slice a b c = fold_slice ℕ depth_step a b c

depth_to_number : (a : Expr) → depth_of (expr.ToNumber a) ≡ 1 + depth_of a
depth_to_number a = fold_to_number ℕ depth_step a

depth_length_of : (a : Expr) → depth_of (expr.LengthOf a) ≡ 1 + depth_of a
depth_length_of a = fold_length_of ℕ depth_step a

depth_to_bytes : (a : Expr) (size : ℕ) → depth_of (expr.ToBytes a size) ≡ 1 + depth_of a
depth_to_bytes a size = fold_to_bytes ℕ depth_step a size

depth_has_text : (a : Expr) (text : List ℕ) → depth_of (expr.HasText a text) ≡ 1 + depth_of a
depth_has_text a text = fold_has_text ℕ depth_step a text

nodes_look_up : (table : List ℕ) (renew : Bool) (keys : List Expr) → nodes_of (expr.LookUp table renew keys) ≡ 1 + sum (map nodes_of keys)
nodes_look_up table renew keys = fold_look_up ℕ nodes_step table renew keys

depth_look_up : (table : List ℕ) (renew : Bool) (keys : List Expr) → depth_of (expr.LookUp table renew keys) ≡ 1 + deepest (map depth_of keys)
depth_look_up table renew keys = fold_look_up ℕ depth_step table renew keys

-- ---- capped

pub capped_not : (a : Expr) → capped (1 + capped (nodes_of a)) ≡ capped (nodes_of (expr.Not a))
capped_not a = let e = nodes_not a in omega arith

pub capped_and : (a b : Expr) → capped (1 + capped (capped (nodes_of a) + capped (nodes_of b))) ≡ capped (nodes_of (expr.And a b))
capped_and a b = let e = nodes_and a b in omega arith

pub capped_or : (a b : Expr) → capped (1 + capped (capped (nodes_of a) + capped (nodes_of b))) ≡ capped (nodes_of (expr.Or a b))
capped_or a b = let e = nodes_or a b in omega arith

pub capped_binary : (o : Operator) (a b : Expr) → capped (1 + capped (capped (nodes_of a) + capped (nodes_of b))) ≡ capped (nodes_of (expr.Binary o a b))
capped_binary o a b = let e = nodes_binary o a b in omega arith

pub capped_slice : (a b c : Expr) → capped (1 + capped (capped (nodes_of a) + capped (capped (nodes_of b) + capped (nodes_of c)))) ≡ capped (nodes_of (expr.Slice a b c))
capped_slice a b c = let e = nodes_slice a b c in omega arith

pub capped_to_number : (a : Expr) → capped (1 + capped (nodes_of a)) ≡ capped (nodes_of (expr.ToNumber a))
capped_to_number a = let e = nodes_to_number a in omega arith

pub capped_length_of : (a : Expr) → capped (1 + capped (nodes_of a)) ≡ capped (nodes_of (expr.LengthOf a))
capped_length_of a = let e = nodes_length_of a in omega arith

pub capped_to_bytes : (a : Expr) (size : ℕ) → capped (1 + capped (nodes_of a)) ≡ capped (nodes_of (expr.ToBytes a size))
capped_to_bytes a size = let e = nodes_to_bytes a size in omega arith

pub capped_has_text : (a : Expr) (text : List ℕ) → capped (1 + capped (nodes_of a)) ≡ capped (nodes_of (expr.HasText a text))
capped_has_text a text = let e = nodes_has_text a text in omega arith

pub capped_look_up : (table : List ℕ) (renew : Bool) (keys : List Expr) → capped (1 + capped (sum (map nodes_of keys))) ≡ capped (nodes_of (expr.LookUp table renew keys))
capped_look_up table renew keys = let e = nodes_look_up table renew keys in omega arith

pub deep_not : (a : Expr) → capped (1 + capped (depth_of a)) ≡ capped (depth_of (expr.Not a))
deep_not a = let e = depth_not a in omega arith

pub deep_and : (a b : Expr) → capped (1 + max (capped (depth_of a)) (capped (depth_of b))) ≡ capped (depth_of (expr.And a b))
deep_and a b = let e = depth_and a b in omega arith

pub deep_or : (a b : Expr) → capped (1 + max (capped (depth_of a)) (capped (depth_of b))) ≡ capped (depth_of (expr.Or a b))
deep_or a b = let e = depth_or a b in omega arith

pub deep_binary : (o : Operator) (a b : Expr) → capped (1 + max (capped (depth_of a)) (capped (depth_of b))) ≡ capped (depth_of (expr.Binary o a b))
deep_binary o a b = let e = depth_binary o a b in omega arith

pub deep_slice : (a b c : Expr) → capped (1 + max (capped (depth_of a)) (max (capped (depth_of b)) (capped (depth_of c)))) ≡ capped (depth_of (expr.Slice a b c))
deep_slice a b c = let e = depth_slice a b c in omega arith

pub deep_to_number : (a : Expr) → capped (1 + capped (depth_of a)) ≡ capped (depth_of (expr.ToNumber a))
deep_to_number a = let e = depth_to_number a in omega arith

pub deep_length_of : (a : Expr) → capped (1 + capped (depth_of a)) ≡ capped (depth_of (expr.LengthOf a))
deep_length_of a = let e = depth_length_of a in omega arith

pub deep_to_bytes : (a : Expr) (size : ℕ) → capped (1 + capped (depth_of a)) ≡ capped (depth_of (expr.ToBytes a size))
deep_to_bytes a size = let e = depth_to_bytes a size in omega arith

pub deep_has_text : (a : Expr) (text : List ℕ) → capped (1 + capped (depth_of a)) ≡ capped (depth_of (expr.HasText a text))
deep_has_text a text = let e = depth_has_text a text in omega arith

pub deep_look_up : (table : List ℕ) (renew : Bool) (keys : List Expr) → capped (1 + capped (deepest (map depth_of keys))) ≡ capped (depth_of (expr.LookUp table renew keys))
deep_look_up table renew keys = let e = depth_look_up table renew keys in omega arith

-- what is capped alike has its greatest capped alike
pub capped_fold : (a b : ℕ) (xs : List ℕ) → capped a ≡ capped b → capped (fold max a xs) ≡ capped (fold max b xs)
capped_fold a b [] h = h
capped_fold a b (x ∷ xs) h = let e : capped (max a x) ≡ capped (max b x) = omega arith in capped_fold (max a x) (max b x) xs e

-- ---- one more key

pub deep_step : (keys : List Expr) (i : ℕ) (x : Expr) (m : ℕ) → i < length keys → x ≡ get_or keys i x
    → capped (fold max (max m (capped (depth_of x))) (map depth_of (drop (i + 1) keys))) ≡ capped (fold max m (map depth_of (drop i keys)))
deep_step keys i x m h e =
    let q : capped (fold max m (map depth_of (drop i keys))) ≡ capped (fold max (max m (depth_of x)) (map depth_of (drop (i + 1) keys))) = at_drop_more (λ ys. capped (fold max m (map depth_of ys))) keys i x h ∙ ap (λ (y : Expr). capped (fold max (max m (depth_of y)) (map depth_of (drop (i + 1) keys)))) (sym e) in
    let r : capped (max m (capped (depth_of x))) ≡ capped (max m (depth_of x)) = omega arith in
    capped_fold (max m (capped (depth_of x))) (max m (depth_of x)) (map depth_of (drop (i + 1) keys)) r ∙ sym q

sum_from : (a : ℕ) (ns : List ℕ) → fold ◌+◌ a ns ≡ a + sum ns
sum_from a [] = omega arith
sum_from a (n ∷ ns) =
    let p : fold ◌+◌ a (n ∷ ns) ≡ a + n + sum ns = sum_from (a + n) ns in
    let q : sum (n ∷ ns) ≡ 0 + n + sum ns = sum_from (0 + n) ns in
    omega arith

pub sum_step : (keys : List Expr) (i : ℕ) (x : Expr) (t : ℕ) → i < length keys → x ≡ get_or keys i x
    → capped (capped (t + capped (nodes_of x)) + sum (map nodes_of (drop (i + 1) keys))) ≡ capped (t + sum (map nodes_of (drop i keys)))
sum_step keys i x t h e =
    let q : sum (map nodes_of (drop i keys)) ≡ sum (map nodes_of (x ∷ drop (i + 1) keys)) = at_drop_more (λ ys. sum (map nodes_of ys)) keys i x h ∙ ap (λ (y : Expr). sum (map nodes_of (y ∷ drop (i + 1) keys))) (sym e) in
    let r : sum (map nodes_of (x ∷ drop (i + 1) keys)) ≡ 0 + nodes_of x + sum (map nodes_of (drop (i + 1) keys)) = sum_from (0 + nodes_of x) (map nodes_of (drop (i + 1) keys)) in
    omega arith

pub sum_end : (keys : List Expr) (i t : ℕ) → length keys ≤ i → t < 2 ^ 32 → capped (t + sum (map nodes_of (drop i keys))) ≡ t
sum_end keys i t h b = at_drop_all (λ ys. capped (t + sum (map nodes_of ys))) keys i h ∙ omega arith

pub deep_end : (keys : List Expr) (i m : ℕ) → length keys ≤ i → m < 2 ^ 32 → capped (fold max m (map depth_of (drop i keys))) ≡ m
deep_end keys i m h b = at_drop_all (λ ys. capped (fold max m (map depth_of ys))) keys i h ∙ omega arith

-- ---- what is said of an expression, by what is said of its parts

module _ (f : Expr → ℕ) where
  pub one_part : (x y a b : Expr) (r n : ℕ) → x ≡ y → capped (1 + capped (f a)) ≡ capped (f y) → b ≡ a → n ≡ capped (f b) → r ≡ capped (1 + n) → r ≡ capped (f x)
  one_part x y a b r n is form same part whole =
      whole ∙ ap (λ k. capped (1 + k)) (part ∙ ap (λ z. capped (f z)) same) ∙ form ∙ ap (λ z. capped (f z)) (sym is)

  pub two_parts : (g : ℕ → ℕ → ℕ) (x y a a' b b' : Expr) (r s n m : ℕ) → x ≡ y → capped (1 + g (capped (f a)) (capped (f b))) ≡ capped (f y)
      → a' ≡ a → n ≡ capped (f a') → b' ≡ b → m ≡ capped (f b') → s ≡ g n m → r ≡ capped (1 + s) → r ≡ capped (f x)
  two_parts g x y a a' b b' r s n m is form same part same' part' both whole =
      whole
      ∙ ap (λ k. capped (1 + k)) (both ∙ ap (λ k. g k m) (part ∙ ap (λ z. capped (f z)) same) ∙ ap (λ k. g (capped (f a)) k) (part' ∙ ap (λ z. capped (f z)) same'))
      ∙ form ∙ ap (λ z. capped (f z)) (sym is)

  pub three_parts : (g : ℕ → ℕ → ℕ) (x y a a' b b' d d' : Expr) (r s t n m p : ℕ) → x ≡ y → capped (1 + g (capped (f a)) (g (capped (f b)) (capped (f d)))) ≡ capped (f y)
      → a' ≡ a → n ≡ capped (f a') → b' ≡ b → m ≡ capped (f b') → d' ≡ d → p ≡ capped (f d') → t ≡ g m p → s ≡ g n t → r ≡ capped (1 + s) → r ≡ capped (f x)
  three_parts g x y a a' b b' d d' r s t n m p is form same part same' part' same'' part'' both all whole =
      whole
      ∙ ap (λ k. capped (1 + k))
      (all
      ∙ ap (λ k. g k t) (part ∙ ap (λ z. capped (f z)) same)
      ∙ ap (λ k. g (capped (f a)) k) (both ∙ ap (λ k. g k p) (part' ∙ ap (λ z. capped (f z)) same') ∙ ap (λ k. g (capped (f b)) k) (part'' ∙ ap (λ z. capped (f z)) same'')))
      ∙ form ∙ ap (λ z. capped (f z)) (sym is)

  pub key_parts : (h : List Expr → ℕ) (x y : Expr) (ks ks' : List Expr) (r n : ℕ) → x ≡ y → capped (1 + capped (h ks)) ≡ capped (f y) → ks' ≡ ks → n ≡ capped (h ks') → r ≡ capped (1 + n) → r ≡ capped (f x)
  key_parts h x y ks ks' r n is form same part whole =
      whole ∙ ap (λ k. capped (1 + k)) (part ∙ ap (λ z. capped (h z)) same) ∙ form ∙ ap (λ z. capped (f z)) (sym is)
