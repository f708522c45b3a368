-- Each state that the machine comes to can be ended, so the bytes that it has taken go on to a text.
use Rattle.std.proofs.Common.{◌≡◌, ◌≢◌, ◌<◌, ◌≤◌, ◌==◌, if◌then◌else◌, ℕ, zero, suc, Bool, true, false, List, [], ◌∷◌, ◌++◌, length, take, drop, Option, refl, sym, ap, subst, ◌∙◌, arith, append_assoc}
use Rattle.std.specs.List.{slice_get}
use Rattle.std.proofs.lemmas.Bool.{eq-eqb, ne_eqb}
use Rattle.std.proofs.lemmas.List.{length-append, length-take-le, take-append-drop}
use Rattle.db_text.specs.declared.mode.Entity.TheVariants as entities
use Rattle.db_text.specs.declared.mode.Fixed.{Fixed}
use Rattle.db_text.specs.declared.mode.Fixed.TheVariants as fixed
use Rattle.db_text.specs.declared.mode.Mode.{Mode}
use Rattle.db_text.specs.declared.mode.Mode.TheVariants as mode
use Rattle.db_text.specs.declared.notes.Notes.{Notes}
use Rattle.db_text.specs.declared.parts.Parts.{Parts}
use Rattle.db_text.specs.Text.{Placed, place, next_line, placed, line_behind, Quote, double, single}
use Rattle.db_text.specs.Grammar.{Stands}
use Rattle.db_text.specs.Machine.{Stack, notes, State, at, go, when, fixed_text, behind, fixed_next, is_empty, popped, top_of, closed, moved, fed}
use Rattle.db_text.proofs.ByteTests.{itself, at_seam, length_push}
use Rattle.db_text.proofs.Followed.{byte_by, closing_on, closed_next}
use Rattle.db_text.proofs.Accepted.{In, BeforeFixed, ClosingOf}

placed_stands : (w : List ℕ) (line : ℕ) (more : List ℕ) → Stands w (placed line (w ++ more)) (placed (line_behind line w) more)
placed_stands [] line more = refl
placed_stands (b ∷ w) line more = (place line b, placed (next_line line b) (w ++ more), refl, refl, placed_stands w (next_line line b) more)

-- the state is ended by some bytes that begin on this line
abbrev Finish : Option State → ℕ → Type 0
Finish s line = (more : List ℕ) × (deep : Option ℕ) × (q : Parts) × (fed s (placed line more) ≡ at mode.Between (notes [] true deep) q)

-- ---- outside of tags

finish_name : (w : List ℕ) (read v : List ℕ) → w ≡ read ++ v → (k : Stack) (seen : Bool) (deep : Option ℕ) (q : Parts) (line : ℕ)
    → ((l : ℕ) → Finish (at mode.Between (notes k (is_empty k) deep) (closed w q q.frames)) l) → Finish (at (mode.Closing (length read)) (notes (w ∷ k) seen deep) q) line
finish_name w read v e k seen deep q line f =
    let l = line_behind line v in
    let r = f (next_line l 0x3E) in
    let n = notes (w ∷ k) seen deep in (
      v ++ 0x3E ∷ r.0,
      r.1,
      r.2,
      closing_on w read v (placed line (v ++ 0x3E ∷ r.0)) (placed l (0x3E ∷ r.0)) e (placed_stands v line (0x3E ∷ r.0)) k seen deep q
          ∙ ap (λ o. fed (moved n q o) (placed (next_line l 0x3E) r.0)) (closed_next w 0x3E)
          ∙ r.3,
    )

finish_between : (k : Stack) (seen : Bool) (deep : Option ℕ) (q : Parts) (line : ℕ) → Finish (at mode.Between (notes k seen deep) q) line
finish_between [] true deep q line = ([], deep, q, refl)
finish_between [] false deep q line = (0x3C ∷ 0x61 ∷ 0x2F ∷ 0x3E ∷ [], _, _, refl)
finish_between (w ∷ k) seen deep q line =
    let r = finish_name w [] w refl k seen deep q line (λ l. finish_between k (is_empty k) deep (closed w q q.frames) l) in
    (0x3C ∷ 0x2F ∷ r.0, r.1, r.2, r.3)

between : (n : Notes) (q : Parts) (line : ℕ) → Finish (at mode.Between n q) line
between n q line = finish_between n.names n.seen n.deep q line

-- ---- in tags

finish_slash : (n : Notes) (q : Parts) (line : ℕ) → Finish (at mode.Slash n q) line
finish_slash n q line =
    let r = finish_between (popped n.names) (is_empty (popped n.names)) n.deep (closed (top_of n.names) q q.frames) line in
    (0x3E ∷ r.0, r.1, r.2, r.3)

finish_tag : (n : Notes) (q : Parts) (line : ℕ) → Finish (at mode.BehindValue n q) line
finish_tag n q line = let r = finish_slash n q line in (0x2F ∷ r.0, r.1, r.2, r.3)

finish_value : (quote : ℕ) → Quote quote → (n : Notes) (q : Parts) (line : ℕ) → Finish (at (mode.Value quote) n q) line
finish_value _ double n q line = let r = finish_tag n _ line in (0x22 ∷ r.0, r.1, r.2, r.3)
finish_value _ single n q line = let r = finish_tag n _ line in (0x27 ∷ r.0, r.1, r.2, r.3)

finish_equals : (n : Notes) (q : Parts) (line : ℕ) → Finish (at mode.AfterEquals n q) line
finish_equals n q line = let r = finish_value 0x22 double n q line in (0x22 ∷ r.0, r.1, r.2, r.3)

-- ---- fixed bytes

fixed_on : (w : Fixed) (read v : List ℕ) (c : ℕ) (ts us : List Placed) → fixed_text w ≡ read ++ c ∷ v → Stands (c ∷ v) ts us → (n : Notes) (q : Parts) → fed (at (mode.Fixed w (length read)) n q) ts ≡ fed (moved n q (behind w)) us
fixed_on w read [] c ts us e h n q =
    let l : suc (length read) ≡ length (fixed_text w) = sym (length_push read c) ∙ ap length (sym e) in
    byte_by (mode.Fixed w (length read)) n q c h.2 h.3
    ∙ ap (λ o. fed (moved n q (fixed_next w (length read) c o)) h.1) (ap (λ x. slice_get x (length read)) e ∙ at_seam read [] c)
    ∙ ap (λ t. fed (moved n q (when t (if suc (length read) == length (fixed_text w) then behind w else go (mode.Fixed w (suc (length read)))))) h.1) (itself c)
    ∙ ap (λ t. fed (moved n q (if t then behind w else go (mode.Fixed w (suc (length read))))) h.1) (eq-eqb _ _ l)
    ∙ ap (fed (moved n q (behind w))) h.4
fixed_on w read (d ∷ v) c ts us e h n q =
    let m : length (fixed_text w) ≡ length (read ++ c ∷ d ∷ v) = ap length e in
    let k : length (read ++ c ∷ d ∷ v) ≡ _ = length-append read (c ∷ d ∷ v) in
    let l : suc (length read) ≢ length (fixed_text w) = omega (arith, m, k) in
    byte_by (mode.Fixed w (length read)) n q c h.2 h.3
    ∙ ap (λ o. fed (moved n q (fixed_next w (length read) c o)) h.1) (ap (λ x. slice_get x (length read)) e ∙ at_seam read (d ∷ v) c)
    ∙ ap (λ t. fed (moved n q (when t (if suc (length read) == length (fixed_text w) then behind w else go (mode.Fixed w (suc (length read)))))) h.1) (itself c)
    ∙ ap (λ t. fed (moved n q (if t then behind w else go (mode.Fixed w (suc (length read))))) h.1) (ne_eqb _ _ l)
    ∙ ap (λ r. fed (at (mode.Fixed w r) n q) h.1) (sym (length_push read c))
    ∙ fixed_on w (read ++ c ∷ []) v d h.1 us (e ∙ sym (append_assoc read (c ∷ []) (d ∷ v))) h.4 n q

fixed_drop : (w : Fixed) (read : ℕ) → read < length (fixed_text w) → (n : Notes) (q : Parts) (line : ℕ) → ((l : ℕ) → Finish (moved n q (behind w)) l) → (d : List ℕ) → drop read (fixed_text w) ≡ d → Finish (at (mode.Fixed w read) n q) line
fixed_drop w read lt n q line f [] e =
    let p : take read (fixed_text w) ++ drop read (fixed_text w) ≡ fixed_text w = take-append-drop read (fixed_text w) in
    let m : length (take read (fixed_text w) ++ []) ≡ length (fixed_text w) = ap (λ x. length (take read (fixed_text w) ++ x)) (sym e) ∙ ap length p in
    let k : length (take read (fixed_text w) ++ []) ≡ _ = length-append (take read (fixed_text w)) [] in
    let t : length (take read (fixed_text w)) ≡ read = length-take-le read (fixed_text w) (omega (arith, lt)) in
    absurd (omega (arith, lt, m, k, t))
fixed_drop w read lt n q line f (c ∷ v) e =
    let p : fixed_text w ≡ take read (fixed_text w) ++ (c ∷ v) = sym (take-append-drop read (fixed_text w)) ∙ ap (λ x. take read (fixed_text w) ++ x) e in
    let t : length (take read (fixed_text w)) ≡ read = length-take-le read (fixed_text w) (omega (arith, lt)) in
    let l = line_behind line (c ∷ v) in
    let r = f l in (
      (c ∷ v) ++ r.0,
      r.1,
      r.2,
      ap (λ i. fed (at (mode.Fixed w i) n q) (placed line ((c ∷ v) ++ r.0))) (sym t)
          ∙ fixed_on w (take read (fixed_text w)) v c (placed line ((c ∷ v) ++ r.0)) (placed l r.0) p (placed_stands (c ∷ v) line r.0) n q
          ∙ r.3,
    )

finish_comment : (n : Notes) (q : Parts) (line : ℕ) → Finish (at (mode.Comment 0) n q) line
finish_comment n q line = let r = between n q line in (0x2D ∷ 0x2D ∷ 0x3E ∷ r.0, r.1, r.2, r.3)

finish_marked : (n : Notes) (q : Parts) (line : ℕ) → Finish (at mode.Marked n q) line
finish_marked n q line = let r = between n q line in (0x20 ∷ r.0, r.1, r.2, r.3)

finish_declaration : (n : Notes) (q : Parts) (line : ℕ) → Finish (at mode.Declaration n q) line
finish_declaration n q line = let r = between n q line in (0x3F ∷ 0x3E ∷ r.0, r.1, r.2, r.3)

-- the quotes that a value is in are the two that there are
abbrev Quoted : Fixed → Type 0
Quoted fixed.Mark = Unit {0}
Quoted fixed.Declaration = Unit {0}
Quoted fixed.Comment = Unit {0}
Quoted (fixed.Entity quote e) = Quote quote

finish_behind : (w : Fixed) → Quoted w → (n : Notes) (q : Parts) (line : ℕ) → Finish (moved n q (behind w)) line
finish_behind fixed.Mark u n q line = finish_marked n q line
finish_behind fixed.Declaration u n q line = finish_declaration n q line
finish_behind fixed.Comment u n q line = finish_comment n q line
finish_behind (fixed.Entity quote e) u n q line = finish_value quote u n _ line

quoted_by : (all : List Placed) (w : Fixed) (names : Stack) (seen : Bool) (q : Parts) (from : List Placed) → BeforeFixed all w names seen q from → Quoted w
quoted_by all fixed.Mark names seen q from b = tt
quoted_by all fixed.Declaration names seen q from b = tt
quoted_by all fixed.Comment names seen q from b = tt
quoted_by all (fixed.Entity quote e) names seen q from b = b.quote_of

finish_fixed : (w : Fixed) (read : ℕ) → read < length (fixed_text w) → Quoted w → (n : Notes) (q : Parts) (line : ℕ) → Finish (at (mode.Fixed w read) n q) line
finish_fixed w read lt u n q line = fixed_drop w read lt n q line (λ l. finish_behind w u n q l) (drop read (fixed_text w)) refl

finish_hyphens : (hyphen : ℕ) → hyphen ≤ 3 → (n : Notes) (q : Parts) (line : ℕ) → Finish (at (mode.Comment hyphen) n q) line
finish_hyphens zero h n q line = finish_comment n q line
finish_hyphens (suc zero) h n q line = let r = between n q line in (0x2D ∷ 0x3E ∷ r.0, r.1, r.2, r.3)
finish_hyphens (suc (suc zero)) h n q line = let r = between n q line in (0x3E ∷ r.0, r.1, r.2, r.3)
finish_hyphens (suc (suc (suc zero))) h n q line = let r = between n q line in (0x3E ∷ r.0, r.1, r.2, r.3)
finish_hyphens (suc (suc (suc (suc m)))) h n q line = absurd (omega (arith, h))

finish_less : (l : ℕ) (first : Bool) (n : Notes) (q : Parts) (line : ℕ) → Finish (at (mode.Less l first) n q) line
finish_less l first n q line = let r = finish_comment n q line in (0x21 ∷ 0x2D ∷ 0x2D ∷ r.0, r.1, r.2, r.3)

finish_closing : (all : List Placed) (names : Stack) (seen : Bool) (deep : Option ℕ) (q : Parts) (read : ℕ) → ClosingOf all names q.frames read [] → (line : ℕ) → Finish (at (mode.Closing read) (notes names seen deep) q) line
finish_closing all [] seen deep q read c line = absurd c
finish_closing all (w ∷ k) seen deep q read c line =
    let t : length (take read w) ≡ read = length-take-le read w c.2 in
    subst (λ i. Finish (at (mode.Closing i) (notes (w ∷ k) seen deep) q) line) t
    (finish_name w (take read w) (drop read w) (sym (take-append-drop read w)) k seen deep q line (λ l. finish_between k (is_empty k) deep (closed w q q.frames) l))

finish_closed : (n : Notes) (q : Parts) (line : ℕ) → Finish (at mode.Closed n q) line
finish_closed n q line =
    let r = finish_between (popped n.names) (is_empty (popped n.names)) n.deep (closed (top_of n.names) q q.frames) line in
    (0x3E ∷ r.0, r.1, r.2, r.3)

pub finish : (all : List Placed) (m : Mode) (n : Notes) (q : Parts) (line : ℕ) → In all m n.names n.seen q [] → Finish (at m n q) line
finish all mode.Start n q line w = let r = between n q line in (0x20 ∷ r.0, r.1, r.2, r.3)
finish all mode.Marked n q line w = finish_marked n q line
finish all (mode.Less l first) n q line w = finish_less l first n q line
finish all (mode.Fixed f read) n q line w = finish_fixed f read w.2 (quoted_by all f n.names n.seen q w.0 w.3) n q line
finish all mode.Declaration n q line w = finish_declaration n q line
finish all mode.DeclarationEnds n q line w = let r = between n q line in (0x3E ∷ r.0, r.1, r.2, r.3)
finish all mode.Between n q line w = between n q line
finish all (mode.Comment hyphen) n q line w = finish_hyphens hyphen w.1 n q line
finish all mode.Name n q line w = let r = finish_slash n q line in (0x2F ∷ r.0, r.1, r.2, r.3)
finish all mode.Tag n q line w = let r = finish_slash n q line in (0x2F ∷ r.0, r.1, r.2, r.3)
finish all mode.AttributeName n q line w = let r = finish_equals n q line in (0x3D ∷ r.0, r.1, r.2, r.3)
finish all mode.BeforeEquals n q line w = let r = finish_equals n q line in (0x3D ∷ r.0, r.1, r.2, r.3)
finish all mode.AfterEquals n q line w = finish_equals n q line
finish all (mode.Value quote) n q line w = finish_value quote w.quote_of n q line
finish all (mode.Ampersand quote) n q line w = let r = finish_fixed (fixed.Entity quote entities.Less) 2 (omega arith) w.2.quote_of n q line in (0x6C ∷ r.0, r.1, r.2, r.3)
finish all (mode.AmpersandA quote) n q line w = let r = finish_fixed (fixed.Entity quote entities.Ampersand) 3 (omega arith) w.2.quote_of n q line in (0x6D ∷ r.0, r.1, r.2, r.3)
finish all mode.BehindValue n q line w = finish_tag n q line
finish all mode.Slash n q line w = finish_slash n q line
finish all (mode.Closing read) n q line w = finish_closing all n.names n.seen n.deep q read w.0 line
finish all mode.Closed n q line w = finish_closed n q line
