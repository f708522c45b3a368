use Rattle.std.proofs.Common.{◌≡◌, ◌++◌, List, ℕ, [], decimal, ap, ◌∙◌, append_assoc}
use Rattle.std.specs.Prelude.{codes}
use Rattle.npd_top.specs.CheckRun.{totals_line}
use Rattle.npd_top.proofs.totals.totals_line.Goals as goal

-- pieces that were added one after the other
joined : (a p b q c r e t0 t1 t2 t3 t4 : List ℕ) → t0 ≡ [] → t1 ≡ t0 ++ (a ++ p) → t2 ≡ t1 ++ (b ++ q) → t3 ≡ t2 ++ (c ++ r) → t4 ≡ t3 ++ e → t4 ≡ a ++ (p ++ (b ++ (q ++ (c ++ (r ++ e)))))
joined a p b q c r e t0 t1 t2 t3 t4 h0 h1 h2 h3 h4 =
    h4 ∙ ap (λ (l : List ℕ). l ++ e) (h3 ∙ ap (λ (l : List ℕ). l ++ (c ++ r)) (h2 ∙ ap (λ (l : List ℕ). l ++ (b ++ q)) (h1 ∙ ap (λ (l : List ℕ). l ++ (a ++ p)) h0)))
    ∙ simp append_assoc

pub returns : goal.returns
unfolding totals_line
returns c =
    let t = c.args.totals.now in
    joined (codes "protocols ") (decimal t.protocols) (codes " tables ") (decimal t.tables) (codes " variables ") (decimal t.variables) (codes "\n") _ _ _ _ _
    c.new-text.ensures.items
    c.in_ok-push_count.ensures
    c.in_ok-push_count-2.ensures
    c.in_ok-push_count-3.ensures
    c.in_ok-push.ensures
