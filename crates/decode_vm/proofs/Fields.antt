-- How a field is placed.
use Rattle.std.specs.Prelude.{◌≡◌, ℕ, zero, suc, ◌+◌, ◌-◌, ◌%◌, ◌≤◌, Bool, true, false, if◌then◌else◌, nat_le, ◌==◌, List, [], ◌∷◌, Option, Some, None, Result, Ok, Err, OnOk}
use Rattle.std.proofs.Common.{refl, sym, ap, subst, ◌∙◌, arith}
use Rattle.std.proofs.lemmas.Bool.{leb-true}
use Rattle.db_model.specs.declared.field_kind.FieldKind.{FieldKind}
use Rattle.db_model.specs.declared.field_kind.FieldKind.TheVariants.{Fixed, Bit, Variable, TokenEnded, Line, Padding}
use Rattle.db_model.specs.declared.env.Way.TheVariants.{Next, Stop}
use Rattle.db_model.specs.declared.tree.Node.TheVariants.{Field, Note}
use Rattle.db_model.specs.declared.tree.Reason.{Reason}
use Rattle.db_model.specs.declared.tree.Reason.TheVariants as reason
use Rattle.db_model.specs.Extent.{size, extent, step_by}
use Rattle.db_model.specs.Runs.{Run, halt, spend_node, node_at, field_value, add_field}
use Rattle.fields.specs.declared.outcome.Extent.TheVariants.{Size, Short}
use Rattle.fields.specs.Outcome.{outcome}
use Rattle.decode_vm.specs.declared.machine.Machine.{Machine}
use Rattle.decode_vm.specs.Field.{IsSized, behind_field, fielded}
use Rattle.decode_vm.specs.Machine.{at_frame, halted, Ran}
use Rattle.decode_vm.specs.Sound.{Rising}
use Rattle.decode_vm.proofs.Positions.{keeps_same}

-- what follows from a success
pub on_ok : {A E P Q : Type 0} (o : Result A E) → (P → Q) → OnOk o P → OnOk o Q
on_ok (Ok a) f h = f h
on_ok (Err e) f h = h

pub rising_end : (limit : ℕ) (os : List ℕ) (end : ℕ) → Rising limit os end → limit ≤ end
rising_end limit [] end h = h
rising_end limit (o ∷ os) end h = let r = rising_end o os end h.1 in omega (arith, h.0)

pub ran_halted : (p : Run) (r : Reason) (after : ℕ) (m : Machine) → p m.frame ≡ halt r m.frame → Ran p after m (halted r m)
ran_halted p r after m e = record { way = Stop r; nodes = Note r m.frame.env.at ∷ []; frame = m.frame; gave = e; keeps = keeps_same m.frame; is = refl }

pub ran_same : (p q : Run) (after : ℕ) (m n : Machine) → p m.frame ≡ q m.frame → Ran q after m n → Ran p after m n
ran_same p q after m n e h = record { way = h.way; nodes = h.nodes; frame = h.frame; gave = e ∙ h.gave; keeps = h.keeps; is = h.is }

-- the position moves by no more than the size
pub step_within : (kind : FieldKind) (n : ℕ) → step_by kind n ≤ n
step_within (Fixed s) n = omega arith
step_within (Bit s mask) n = by (◌==◌ (mask % 2) 0)
  where
    by : (b : Bool) → (if b then zero else n) ≤ n
    by true = omega arith
    by false = omega arith
step_within Variable n = omega arith
step_within (TokenEnded token) n = omega arith
step_within Line n = omega arith
step_within (Padding align) n = omega arith

pub ran_field : (kind : FieldKind) (number size after left : ℕ) (m : Machine) → m.frame.nodes ≡ suc left → m.frame.env.at + size ≤ m.frame.env.limit
    → Ran (spend_node (add_field kind number size)) after m (fielded kind number size after (at_frame (record m.frame { nodes = left }) m))
ran_field kind number size after left m e h = record {
  way = Next;
  nodes = Field number m.frame.env.at size (field_value kind size m.frame.env) ∷ [];
  frame = record { env = behind_field kind number size m.frame.env; nodes = left };
  gave = ap (λ x. node_at (add_field kind number size) m.frame x) e;
  keeps = record { packet = refl; origin = refl; limit = refl; turns = refl; nodes = omega arith; forward = omega arith; within = λ k. omega (arith, step_within kind size) };
  is = refl;
}

pub ran_no_node : (p : Run) (after : ℕ) (m : Machine) → m.frame.nodes ≡ zero → Ran (spend_node p) after m (halted reason.Nodes m)
ran_no_node p after m e = ran_halted (spend_node p) reason.Nodes after m (ap (λ x. node_at p m.frame x) e)

-- ---- extents

pub extent_some : (kind : FieldKind) (bytes : List ℕ) (at limit origin n s : ℕ) → extent kind bytes at limit origin n ≡ Some s → (s ≤ limit - at) × IsSized kind s
unfolding extent
extent_some kind bytes at limit origin n s e = by (nat_le (size kind bytes at limit origin n) (limit - at)) refl e
  where
    sized : (kind : FieldKind) → size kind bytes at limit origin n ≡ s → IsSized kind s
    sized (Fixed x) f = tt
    sized (Bit x mask) f = sym f
    sized Variable f = tt
    sized (TokenEnded token) f = tt
    sized Line f = tt
    sized (Padding align) f = tt

    by : (b : Bool) → nat_le (size kind bytes at limit origin n) (limit - at) ≡ b → (if b then Some (size kind bytes at limit origin n) else None) ≡ Some s → (s ≤ limit - at) × IsSized kind s
    by true f g =
        let x : size kind bytes at limit origin n ≡ s = cc in
        (subst (λ y. y ≤ limit - at) x (leb-true (size kind bytes at limit origin n) (limit - at) f), sized kind x)
    by false f g = (cc)

pub outcome_size : (o : Option ℕ) (s : ℕ) → outcome o ≡ Size s → o ≡ Some s
outcome_size None s e = (cc)
outcome_size (Some x) s e = (cc)

pub outcome_short : (o : Option ℕ) → outcome o ≡ Short → o ≡ None
outcome_short None e = refl
outcome_short (Some x) e = (cc)
