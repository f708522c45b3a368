-- The receipts of what is drained.
use Rattle.std.specs.Prelude.{◌≡◌, ℕ, zero, suc, List, [], ◌∷◌, length, slice_get, Some}
use Rattle.std.proofs.Common.{refl, ap, subst, ◌∙◌}
use Rattle.engine.specs.declared.receipt.Receipt.{Receipt}
use Rattle.spec_core.specs.declared.slot.Ready.{Ready}
use Rattle.spec_core.specs.Laws.{LegalReceipts}
use Rattle.spec_core.specs.Machine.{IsLegal}
use Rattle.spec_core.specs.Whole.{receipts_of}

receipts_length : (ys : List Ready) → length (receipts_of ys) ≡ length ys
receipts_length [] = refl
receipts_length (y ∷ ys) = ap suc (receipts_length ys)

-- whose receipt stands at a place
receipt_of : (ys : List Ready) (i : ℕ) (q : Receipt) → slice_get (receipts_of ys) i ≡ Some q → (y : Ready) × (slice_get ys i ≡ Some y) × (y.receipt ≡ q)
receipt_of [] i q h = absurd (cc)
receipt_of (y ∷ ys) zero q h = (y, refl, cc)
receipt_of (y ∷ ys) (suc i) q h = receipt_of ys i q h

pub legal_receipts : LegalReceipts
legal_receipts r ys w = record {
  all = receipts_length ys ∙ w.all;
  each = λ i q h. (let x = receipt_of ys i q h in subst (IsLegal r i) x.2 (w.each i x.0 x.1).receipt);
  v_rises = λ i j p q t u lt h k e f. (let x = receipt_of ys i p h in let y = receipt_of ys j q k in
      w.v_rises i j x.0 y.0 t u lt x.1 y.1 (ap (λ (z : Receipt). z.taken) x.2 ∙ e) (ap (λ (z : Receipt). z.taken) y.2 ∙ f));
  c_rises = λ i j p q t u lt h k e f. (let x = receipt_of ys i p h in let y = receipt_of ys j q k in
      w.c_rises i j x.0 y.0 t u lt x.1 y.1 (ap (λ (z : Receipt). z.taken) x.2 ∙ e) (ap (λ (z : Receipt). z.taken) y.2 ∙ f));
}
