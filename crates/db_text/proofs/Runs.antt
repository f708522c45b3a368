-- Runs of bytes in one list.
use Rattle.std.proofs.Common.{◌≡◌, ◌≤◌, ℕ, suc, List, [], ◌∷◌, ◌++◌, ◌==◌, reverse, length, take, drop, refl, sym, ap, ◌∙◌, arith}
use Rattle.std.proofs.lemmas.Bool.{ne_eqb}
use Rattle.std.proofs.lemmas.List.{length-append, take-append-le, drop-append-le, length-reverse}
use Rattle.std.proofs.Math.Seq.{take-append_seam, drop-append_seam}
use Rattle.db_text.specs.Machine.{Stack, added, is_empty}
use Rattle.db_text.specs.Runs.{runs, AreWithin}

pub within_more : (starts : List ℕ) (n m : ℕ) → n ≤ m → AreWithin starts n → AreWithin starts m
within_more [] n m h w = tt
within_more (s ∷ starts) n m h w = let l = w.0 in (omega (arith, l, h), w.1)

-- a run begins at the end
pub opened : (starts bytes : List ℕ) (b : ℕ) → runs (length bytes ∷ starts) (bytes ++ b ∷ []) ≡ (b ∷ []) ∷ runs starts bytes
opened starts bytes b = ap (λ x. x ∷ runs starts (take (length bytes) (bytes ++ b ∷ []))) (drop-append_seam bytes (b ∷ [])) ∙ ap (λ x. (b ∷ []) ∷ runs starts x) (take-append_seam bytes (b ∷ []))

pub pushed_within : (starts bytes : List ℕ) (b : ℕ) → AreWithin starts (length bytes) → AreWithin starts (length (bytes ++ b ∷ []))
pushed_within starts bytes b w = let l = length-append bytes (b ∷ []) in within_more starts (length bytes) (length (bytes ++ b ∷ [])) (omega (arith, l)) w

-- the last run goes on
pub added_runs : (starts bytes : List ℕ) (b : ℕ) → AreWithin starts (length bytes) → runs starts (bytes ++ b ∷ []) ≡ added b (runs starts bytes)
added_runs [] bytes b w = refl
added_runs (s ∷ starts) bytes b w =
    ap (λ x. x ∷ runs starts (take s (bytes ++ b ∷ []))) (drop-append-le s bytes (b ∷ []) w.0)
    ∙ ap (λ x. (drop s bytes ++ b ∷ []) ∷ runs starts x) (take-append-le s bytes (b ∷ []) w.0)

pub length_runs : (starts bytes : List ℕ) → length (runs starts bytes) ≡ length starts
length_runs [] bytes = refl
length_runs (s ∷ starts) bytes = ap suc (length_runs starts (take s bytes))

pub depth_of : (starts bytes : List ℕ) → length starts ≡ length (runs (reverse starts) bytes)
depth_of starts bytes = sym (length_runs (reverse starts) bytes ∙ length-reverse starts)

pub empty_of : (k : Stack) → (length k == 0) ≡ is_empty k
empty_of [] = refl
empty_of (w ∷ k) = ne_eqb (length (w ∷ k)) 0 (omega arith)
