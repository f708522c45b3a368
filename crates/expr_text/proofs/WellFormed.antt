-- The expression that formed tokens spell is well formed.
use Rattle.std.proofs.Common.{◌≡◌, ◌≤◌, ℕ, Bool, true, false, List, [], ◌∷◌, map, ◌∙◌, refl, arith}
use Rattle.std.proofs.lemmas.Bool.{and_from, and_parts, le-leb, leb-true}
use Rattle.std.specs.List.{list_all}
use Rattle.std.specs.Prelude.{◌&&◌, nat_le}
use Rattle.db_model.proofs.Layers.{fold_number, fold_text, fold_protocol, fold_field, fold_variable, fold_column, fold_not, fold_and, fold_or, fold_binary, fold_slice, fold_to_number, fold_length_of, fold_to_bytes, fold_has_text, fold_is_present, fold_look_up}
use Rattle.db_model.specs.declared.expression.Expr.{Expr}
use Rattle.db_model.specs.declared.limits.TheConstants.{GREATEST_NUMBER}
use Rattle.db_model.specs.Folds.{fold_expr}
use Rattle.db_model.specs.Forms.{is_byte, form_step, is_expression}
use Rattle.db_model.specs.Name.{is_name}
use Rattle.expr_text.specs.declared.token.BinaryOp.{BinaryOp}
use Rattle.expr_text.specs.declared.token.BinaryOp.TheVariants as binary_op
use Rattle.expr_text.specs.declared.token.Token.{Token}
use Rattle.expr_text.specs.Grammar.{Reads, ReadsKeys, number, text, protocol, variable, column, field, group, to_number, length_of, to_bytes, has_text, is_present, look_up, slice, binary, negated, tighter, last, key}
use Rattle.expr_text.specs.Refusal.{IsSpelled, IsText}
use Rattle.expr_text.specs.Sizes.{small}
use Rattle.expr_text.specs.Tokens.{joined_by}
use Rattle.expr_text.proofs.Answered.{small_so}
use Rattle.expr_text.proofs.FormsOfTokens.{AreFormed, formed}
use Rattle.expr_text.proofs.QuotedInText.{AreBytes}

abbrev pub form : Expr → Bool
form = fold_expr Bool form_step

bytes_all : (b : List ℕ) → AreBytes b → list_all is_byte b ≡ true
bytes_all [] h = refl
bytes_all (x ∷ b) h = and_from (is_byte x) (list_all is_byte b) (le-leb x 255 (let w = h.0 in omega arith)) (bytes_all b h.1)

pub all_bytes : (b : List ℕ) → list_all is_byte b ≡ true → AreBytes b
all_bytes [] h = tt
all_bytes (x ∷ b) h =
    let p = and_parts (is_byte x) (list_all is_byte b) h in
    let q : x ≤ 255 = leb-true x 255 p.0 in
    (omega arith, all_bytes b p.1)

-- an expression is formal, and so are the tokens behind it
record Formal (e : Expr) (rest : List Token) : Type 0 where
  is : form e ≡ true
  more : AreFormed rest

record Formals (keys : List Expr) (rest : List Token) : Type 0 where
  are : list_all (λ b. b) (map form keys) ≡ true
  more : AreFormed rest

joined_form : (o : BinaryOp) (a b : Expr) → form a ≡ true → form b ≡ true → form (joined_by o a b) ≡ true
joined_form binary_op.Or a b x y = fold_or Bool form_step a b ∙ and_from (form a) (form b) x y
joined_form binary_op.And a b x y = fold_and Bool form_step a b ∙ and_from (form a) (form b) x y
joined_form (binary_op.Plain o) a b x y = fold_binary Bool form_step o a b ∙ and_from (form a) (form b) x y

mutual
  formal : {l : ℕ} {e : Expr} {ts rest : List Token} → Reads l e ts rest → AreFormed ts → Formal e rest
  formal (number {n}) f = record { is = fold_number Bool form_step n ∙ le-leb n GREATEST_NUMBER f.0; more = f.1 }
  formal (text {b}) f = record { is = fold_text Bool form_step b ∙ bytes_all b f.0; more = f.1 }
  formal (protocol {name}) f = record { is = fold_protocol Bool form_step name ∙ f.0; more = f.1 }
  formal (variable {name}) f = record { is = fold_variable Bool form_step name ∙ f.0; more = f.1 }
  formal (column {table} {column = name}) f = record { is = fold_column Bool form_step table name ∙ and_from (is_name table) (is_name name) f.0.0 f.0.1; more = f.1 }
  formal (field {name}) f = record { is = fold_field Bool form_step name ∙ f.0; more = f.1 }
  formal (group d) f = let x = formal d f.1 in record { is = x.is; more = x.more.1 }
  formal (to_number {e = a} d) f = let x = formal d f.1.1 in record { is = fold_to_number Bool form_step a ∙ x.is; more = x.more.1 }
  formal (length_of {e = a} d) f = let x = formal d f.1.1 in record { is = fold_length_of Bool form_step a ∙ x.is; more = x.more.1 }
  formal (to_bytes {e = a} {size} d) f =
      let x = formal d f.1.1 in
      record { is = fold_to_bytes Bool form_step a size ∙ and_from (form a) (nat_le size GREATEST_NUMBER) x.is (le-leb size GREATEST_NUMBER x.more.1.0); more = x.more.1.1.1 }
  formal (has_text {e = a} {b} d) f =
      let x = formal d f.1.1 in
      record { is = fold_has_text Bool form_step a b ∙ and_from (form a) (list_all is_byte b) x.is (bytes_all b x.more.1.0); more = x.more.1.1.1 }
  formal (is_present {name}) f = record { is = fold_is_present Bool form_step name ∙ f.1.1.0; more = f.1.1.1.1 }
  formal (look_up {table} {renew} {keys} d) f =
      let x = formals d f.1.1.1 in
      record { is = fold_look_up Bool form_step table renew keys ∙ and_from (is_name table) (list_all (λ b. b) (map form keys)) f.1.1.0 x.are; more = x.more }
  formal (slice {b} {from} {count} d1 d2 d3) f =
      let x = formal d1 f in
      let y = formal d2 x.more.1 in
      let z = formal d3 y.more.1 in
      record { is = fold_slice Bool form_step b from count ∙ and_from (form b) (form from && form count) x.is (and_from (form from) (form count) y.is z.is); more = z.more.1 }
  formal (binary {o} {a} {b} d1 d2) f =
      let x = formal d1 f in
      let y = formal d2 x.more.1 in
      record { is = joined_form o a b x.is y.is; more = y.more }
  formal (negated {e = a} d) f = let x = formal d f.1 in record { is = fold_not Bool form_step a ∙ x.is; more = x.more }
  formal (tighter d) f = formal d f

  formals : {keys : List Expr} {ts rest : List Token} → ReadsKeys keys ts rest → AreFormed ts → Formals keys rest
  formals last f = record { are = refl; more = f.1 }
  formals (key {e} {keys} d ds) f =
      let x = formal d f.1 in
      let y = formals ds x.more in
      record { are = and_from (form e) (list_all (λ b. b) (map form keys)) x.is y.are; more = y.more }

pub spelled_form : (bytes : List ℕ) (e : Expr) → IsSpelled bytes e → form e ≡ true
spelled_form bytes e s = (formal s.spells (formed bytes 0 0 false s.tokens s.are)).is

pub well_formed : (bytes : List ℕ) (e : Expr) → IsText bytes e → is_expression e ≡ true
unfolding is_expression
well_formed bytes e h = and_from (form e) (small e) (spelled_form bytes e h.spelled) (small_so e h.small)
