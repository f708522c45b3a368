-- The canonical text of each form of an expression, by its parts.
use Rattle.std.specs.Prelude.{◌≡◌, ◌<◌, ◌+◌, ℕ, Bool, List, ◌++◌, length, drop, map, codes, OnOk, Result, Ok, Err}
use Rattle.std.proofs.Common.{get_or, sym, ap, subst, ◌∙◌}
use Rattle.std.proofs.lemmas.List.{append_assoc, at_drop_more}
use Rattle.db_model.specs.declared.expression.Expr as expr
use Rattle.db_model.specs.declared.expression.Expr.{Expr}
use Rattle.db_model.specs.declared.expression.Operator.{Operator}
use Rattle.db_model.specs.declared.naming.ReservedWord.TheVariants as word
use Rattle.db_model.specs.Names.{Text}
use Rattle.db_model.proofs.Layers.{fold_not, fold_and, fold_or, fold_binary, fold_slice, fold_to_number, fold_length_of, fold_to_bytes, fold_has_text, fold_look_up}
use Rattle.expr_text.specs.Printing.{Printed, escaped, all_escaped, spaced, compound, simple, operand, arguments, negation, conjunction, disjunction, operator_text, slice_text, number_call, length_call, bytes_call, text_call, look_up_call, printed_step, printing}

pub printing_not : (a : Expr) → printing (expr.Not a) ≡ compound (negation (operand (printing a)))
printing_not a = fold_not Printed printed_step a

pub printing_and : (a b : Expr) → printing (expr.And a b) ≡ compound (conjunction (operand (printing a)) (operand (printing b)))
printing_and a b = fold_and Printed printed_step a b

pub printing_or : (a b : Expr) → printing (expr.Or a b) ≡ compound (disjunction (operand (printing a)) (operand (printing b)))
printing_or a b = fold_or Printed printed_step a b

pub printing_binary : (o : Operator) (a b : Expr) → printing (expr.Binary o a b) ≡ compound (operand (printing a) ++ (operator_text o ++ operand (printing b)))
printing_binary o a b = fold_binary Printed printed_step o a b

pub printing_slice : (a b c : Expr) → printing (expr.Slice a b c) ≡ simple (slice_text (operand (printing a)) (printing b).bytes (printing c).bytes)
printing_slice a b c = fold_slice Printed printed_step a b c

pub printing_to_number : (a : Expr) → printing (expr.ToNumber a) ≡ simple (number_call (printing a).bytes)
printing_to_number a = fold_to_number Printed printed_step a

pub printing_length_of : (a : Expr) → printing (expr.LengthOf a) ≡ simple (length_call (printing a).bytes)
printing_length_of a = fold_length_of Printed printed_step a

pub printing_to_bytes : (a : Expr) (size : ℕ) → printing (expr.ToBytes a size) ≡ simple (bytes_call (printing a).bytes size)
printing_to_bytes a size = fold_to_bytes Printed printed_step a size

pub printing_has_text : (a : Expr) (b : List ℕ) → printing (expr.HasText a b) ≡ simple (text_call (printing a).bytes b)
printing_has_text a b = fold_has_text Printed printed_step a b

pub printing_look_up : (table : Text) (renew : Bool) (keys : List Expr) → printing (expr.LookUp table renew keys) ≡ simple (look_up_call renew table (arguments (map printing keys)))
printing_look_up table renew keys = fold_look_up Printed printed_step table renew keys

-- ---- what is said of an expression of a form

pub is_of_form : (x y : Expr) (p : Printed) (b : Bool) → x ≡ y → printing y ≡ p → b ≡ p.is_compound → b ≡ (printing x).is_compound
is_of_form x y p b e h k = k ∙ sym (ap (λ q. q.is_compound) (ap printing e ∙ h))

pub adds_form : {T E : Type 0} (x y : Expr) (p : Printed) (r : Result T E) (before after : List ℕ) → x ≡ y → printing y ≡ p → OnOk r (after ≡ before ++ p.bytes) → OnOk r (after ≡ before ++ (printing x).bytes)
adds_form x y p r before after e h k = subst (λ q. OnOk r (after ≡ before ++ q.bytes)) (sym (ap printing e ∙ h)) k

on_ok : {T E : Type 0} {P Q : Type 0} (r : Result T E) → (P → Q) → OnOk r P → OnOk r Q
on_ok (Ok v) f p = f p
on_ok (Err e) f p = tt

-- ---- pieces one behind another

pub two_pieces : {T E : Type 0} (r : Result T E) (t0 t1 t2 a s b : List ℕ) → t1 ≡ t0 ++ (a ++ s) → OnOk r (t2 ≡ t1 ++ b) → OnOk r (t2 ≡ t0 ++ (a ++ (s ++ b)))
two_pieces r t0 t1 t2 a s b h k = on_ok r (λ e. e ∙ (ap (λ t. t ++ b) h ∙ (append_assoc t0 (a ++ s) b ∙ ap (λ t. t0 ++ t) (append_assoc a s b)))) k

pub then_pieces : (t0 t1 t2 p q : List ℕ) → t1 ≡ t0 ++ p → t2 ≡ t1 ++ q → t2 ≡ t0 ++ (p ++ q)
then_pieces t0 t1 t2 p q h k = k ∙ (ap (λ t. t ++ q) h ∙ append_assoc t0 p q)

pub three_pieces : {T E : Type 0} (r : Result T E) (t0 t1 t2 t3 a s b u d v : List ℕ) → t1 ≡ t0 ++ (a ++ s) → t2 ≡ t1 ++ (b ++ u) → OnOk r (t3 ≡ t2 ++ (d ++ v)) → OnOk r (t3 ≡ t0 ++ (a ++ (s ++ (b ++ (u ++ (d ++ v))))))
three_pieces r t0 t1 t2 t3 a s b u d v h i k = on_ok r (λ e. then_pieces t0 t1 t3 (a ++ s) (b ++ (u ++ (d ++ v))) h (then_pieces t1 t2 t3 (b ++ u) (d ++ v) i e ∙ ap (λ t. t1 ++ t) (append_assoc b u (d ++ v))) ∙ ap (λ t. t0 ++ t) (append_assoc a s (b ++ (u ++ (d ++ v))))) k

pub adds_conjunction : {T E : Type 0} (r : Result T E) (t0 t1 t2 a b : List ℕ) → t1 ≡ t0 ++ (a ++ spaced word.And) → OnOk r (t2 ≡ t1 ++ b) → OnOk r (t2 ≡ t0 ++ conjunction a b)
unfolding conjunction
adds_conjunction r t0 t1 t2 a b h k = two_pieces r t0 t1 t2 a (spaced word.And) b h k

pub adds_disjunction : {T E : Type 0} (r : Result T E) (t0 t1 t2 a b : List ℕ) → t1 ≡ t0 ++ (a ++ spaced word.Or) → OnOk r (t2 ≡ t1 ++ b) → OnOk r (t2 ≡ t0 ++ disjunction a b)
unfolding disjunction
adds_disjunction r t0 t1 t2 a b h k = two_pieces r t0 t1 t2 a (spaced word.Or) b h k

pub adds_slice : {T E : Type 0} (r : Result T E) (t0 t1 t2 t3 a b d : List ℕ) → t1 ≡ t0 ++ (a ++ codes "[") → t2 ≡ t1 ++ (b ++ codes ":") → OnOk r (t3 ≡ t2 ++ (d ++ codes "]")) → OnOk r (t3 ≡ t0 ++ slice_text a b d)
unfolding slice_text
adds_slice r t0 t1 t2 t3 a b d h i k = three_pieces r t0 t1 t2 t3 a (codes "[") b (codes ":") d (codes "]") h i k

-- ---- one more of a list

pub more_escaped : (t0 t1 bytes : List ℕ) (i : ℕ) → i < length bytes → t1 ≡ t0 ++ escaped (get_or bytes i 0) → t1 ++ all_escaped (drop (i + 1) bytes) ≡ t0 ++ all_escaped (drop i bytes)
more_escaped t0 t1 bytes i h q =
    ap (λ t. t ++ all_escaped (drop (i + 1) bytes)) q
    ∙ append_assoc t0 (escaped (get_or bytes i 0)) (all_escaped (drop (i + 1) bytes))
    ∙ sym (at_drop_more (λ bs. t0 ++ all_escaped bs) bytes i 0 h)

pub more_arguments : (t0 t1 t2 : List ℕ) (keys : List Expr) (i : ℕ) (x : Expr) → i < length keys → x ≡ get_or keys i x → t1 ≡ t0 ++ codes ", " → t2 ≡ t1 ++ (printing x).bytes
    → t2 ++ arguments (map printing (drop (i + 1) keys)) ≡ t0 ++ arguments (map printing (drop i keys))
more_arguments t0 t1 t2 keys i x h e p q =
    let rest : List ℕ = arguments (map printing (drop (i + 1) keys)) in
    ap (λ t. t ++ rest) (then_pieces t0 t1 t2 (codes ", ") (printing x).bytes p q)
    ∙ append_assoc t0 (codes ", " ++ (printing x).bytes) rest
    ∙ ap (λ t. t0 ++ t) (append_assoc (codes ", ") (printing x).bytes rest)
    ∙ ap (λ y. t0 ++ (codes ", " ++ ((printing y).bytes ++ rest))) e
    ∙ sym (at_drop_more (λ ks. t0 ++ arguments (map printing ks)) keys i x h)
