-- The lines of sections, one behind another.
use Rattle.std.specs.Prelude.{◌≡◌, ℕ, ◌+◌, List, [], ◌∷◌, ◌++◌, codes, map}
use Rattle.std.specs.List.{flat_map, range_with_len}
use Rattle.std.proofs.Common.{sym, ap, ◌∙◌, arith, append-nil, append_assoc}
use Rattle.std.proofs.lemmas.Grind.{flat_map-append}
use Rattle.std.proofs.lemmas.List.FromFn.{map-range_with_len_more}
use Rattle.show.specs.Markup.{escaped}
use Rattle.psml_out.specs.Psml.{section_line}

-- the line of a text that stands behind its tag
pub closed : (t0 t1 t2 text : List ℕ) → t1 ≡ t0 ++ codes "<section>" → t2 ≡ t1 ++ escaped text → t2 ++ codes "</section>\n" ≡ t0 ++ section_line text
unfolding section_line
closed t0 t1 t2 text opened written =
    ap (λ (l : List ℕ). l ++ codes "</section>\n") (written ∙ ap (λ (l : List ℕ). l ++ escaped text) opened)
    ∙ append_assoc (t0 ++ codes "<section>") (escaped text) (codes "</section>\n")
    ∙ append_assoc t0 (codes "<section>") (escaped text ++ codes "</section>\n")

-- the line of one section more
pub one_more : (f : ℕ → List ℕ) (n : ℕ) (t0 t1 t2 : List ℕ) → t1 ≡ t0 ++ flat_map section_line (map f (range_with_len 0 n)) → t2 ≡ t1 ++ section_line (f n) → t2 ≡ t0 ++ flat_map section_line (map f (range_with_len 0 (n + 1)))
one_more f n t0 t1 t2 before added =
    let texts : List (List ℕ) = map f (range_with_len 0 n) in
    added ∙ ap (λ (l : List ℕ). l ++ section_line (f n)) before
    ∙ append_assoc t0 (flat_map section_line texts) (section_line (f n))
    ∙ ap (λ (l : List ℕ). t0 ++ (flat_map section_line texts ++ l)) (sym (append-nil (section_line (f n))))
    ∙ ap (λ (l : List ℕ). t0 ++ l) (sym (flat_map-append section_line texts (f n ∷ [])))
    ∙ ap (λ (l : List (List ℕ)). t0 ++ flat_map section_line l) (sym (map-range_with_len_more f 0 n n (omega arith)))
