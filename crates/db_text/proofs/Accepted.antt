-- What the machine accepts, the grammar reads: whatever is open was read from the bytes so far.
use Rattle.std.proofs.Common.{◌≡◌, ◌≢◌, ◌<◌, ◌≤◌, ◌==◌, ◌&&◌, if◌then◌else◌, ℕ, zero, suc, Bool, true, false, List, [], ◌∷◌, ◌++◌, length, take, codes, Option, Some, None, refl, sym, ap, subst, ◌∙◌, arith, append-nil}
use Rattle.std.specs.List.{list_all, slice_get}
use Rattle.std.proofs.lemmas.Bool.{eqb-false}
use Rattle.std.proofs.lemmas.Option.{slice_get_within}
use Rattle.db_text.specs.declared.mode.Fixed.{Fixed}
use Rattle.db_text.specs.declared.mode.Fixed.TheVariants as fixed
use Rattle.db_text.specs.declared.mode.Mode.{Mode}
use Rattle.db_text.specs.declared.mode.Mode.TheVariants as mode
use Rattle.db_text.specs.declared.mode.Move.{Move}
use Rattle.db_text.specs.declared.node.Node.{Node}
use Rattle.db_text.specs.declared.notes.Notes.{Notes}
use Rattle.db_text.specs.declared.frame.Frame.{Frame}
use Rattle.db_text.specs.declared.parts.Parts.{Parts}
use Rattle.db_text.specs.Text.{Placed, is_space, is_letter, is_name_byte, is_name, is_declared, has_double, Quote, double, single, is_char}
use Rattle.db_text.specs.Tree.{attribute_of, element_of}
use Rattle.db_text.specs.Grammar.{Stands, Spaces, no_space, space, Gap, gap, Mark, no_mark, mark, Declaration, no_declaration, declaration, Comment, comment, Misc, no_misc, misc_space, misc_comment, Chars, no_char, char, entity, one_attribute, Attributes, no_attribute, attribute, Opening, opening, Element, empty, nested, Content, no_content, content_space, content_comment, content_element, Document, document}
use Rattle.db_text.specs.Machine.{Stack, notes, parts, State, state, at, start, go, when, place_in, front, begin, between, opens, closes, less, fixed_text, behind, fixed_next, in_declaration, in_comment, tag, in_name, in_tag, before_equals, in_attribute_name, after_equals, in_value, ampersand, ampersand_a, slash, ending, closing_next, decide, is_empty, top_of, put, attributed, moved, step, fed}
use Rattle.db_text.proofs.ByteTests.{both, conj, no, same, take_push, take_whole, take_past, name_push, declared_push, quiet_push, free_of_quiet}

-- ---- bytes that stand behind others

stands_push : (w : List ℕ) (from : List Placed) (p : Placed) (ts : List Placed) (b : ℕ) → Stands w from (p ∷ ts) → p.byte ≡ b → Stands (w ++ b ∷ []) from ts
stands_push [] from p ts b h e = (p, ts, h, e, refl)
stands_push (c ∷ w) from p ts b h e = (h.0, h.1, h.2, h.3, stands_push w h.1 p ts b h.4 e)

stands_append : (w v : List ℕ) (from us ts : List Placed) → Stands w from us → Stands v us ts → Stands (w ++ v) from ts
stands_append [] v from us ts h g = subst (λ x. Stands v x ts) (sym h) g
stands_append (b ∷ w) v from us ts h g = (h.0, h.1, h.2, h.3, stands_append w v h.1 us ts h.4 g)

gap_spaces : {ts rest : List Placed} → Gap ts rest → Spaces ts rest
gap_spaces (gap d h) = space d h

abbrev pub Clean : Parts → Type 0
Clean q = (q.word ≡ []) × (q.value ≡ [])

abbrev pub hyphens : ℕ → List ℕ
hyphens zero = []
hyphens (suc n) = 0x2D ∷ hyphens n

module _ (all : List Placed) where
  -- ---- what was read

  -- the front of the text, where no element has begun
  pub record Front (ts : List Placed) : Type 0 where
    pub us : List Placed
    pub vs : List Placed
    pub marked : Mark all us
    pub declared : Declaration us vs
    pub misc : Misc vs ts

  -- what stands behind the open elements, in front of ts
  abbrev pub Below : Stack → List Frame → List Placed → Type 0
  Below [] [] ts = Front ts
  Below [] (f ∷ fs) ts = ⊥
  Below (w ∷ k) [] ts = ⊥
  Below (w ∷ k) (f ∷ fs) ts =
      (from : List Placed) × (us : List Placed) × (greater : Placed) × Opening w f.attributes f.line from (greater ∷ us) × (greater.byte ≡ 0x3E) × Content f.children us ts × Below k fs from

  pub record After (top : Option Node) (ts : List Placed) : Type 0 where
    pub n : Node
    pub top_is : top ≡ Some n
    pub ws : List Placed
    pub xs : List Placed
    pub before : Front ws
    pub element : Element n ws xs
    pub misc : Misc xs ts

  abbrev pub Outside : Stack → Bool → Parts → List Placed → Type 0
  Outside [] true q ts = After q.top ts
  Outside [] false q ts = Below [] q.frames ts
  Outside (w ∷ k) seen q ts = Below (w ∷ k) q.frames ts

  pub record Fresh (names : Stack) (seen : Bool) (q : Parts) (from : List Placed) : Type 0 where
    pub marked : Mark all from
    pub names_are : names ≡ []
    pub seen_is : seen ≡ false
    pub frames_are : q.frames ≡ []
    pub clean : Clean q

  -- the innermost element has begun, and its attributes were read up to ts
  abbrev pub TagOf : Stack → List Frame → List Placed → Type 0
  TagOf [] fs ts = ⊥
  TagOf (w ∷ k) [] ts = ⊥
  TagOf (w ∷ k) (f ∷ fs) ts =
      (p : Placed) × (us : List Placed) × (vs : List Placed) × (p.byte ≡ 0x3C) × (p.line ≡ f.line) × (is_name w ≡ true) × Stands w us vs × Attributes f.attributes vs ts × (f.children ≡ []) × Below k fs (p ∷ us)

  abbrev pub NameOf : Stack → List Frame → List Placed → Type 0
  NameOf [] fs ts = ⊥
  NameOf (w ∷ k) [] ts = ⊥
  NameOf (w ∷ k) (f ∷ fs) ts =
      (p : Placed) × (us : List Placed) × (p.byte ≡ 0x3C) × (p.line ≡ f.line) × (is_name w ≡ true) × Stands w us ts × (f.attributes ≡ []) × (f.children ≡ []) × Below k fs (p ∷ us)

  -- and the name of a further attribute
  abbrev pub WordOf : Stack → List Frame → List ℕ → List Placed → Type 0
  WordOf names fs word ts = (us : List Placed) × (vs : List Placed) × TagOf names fs us × Gap us vs × (is_name word ≡ true) × Stands word vs ts

  pub record InValue (quote : ℕ) (names : Stack) (fs : List Frame) (word value : List ℕ) (ts : List Placed) : Type 0 where
    pub ws : List Placed
    pub equals : Placed
    pub xs : List Placed
    pub open_ : Placed
    pub ys : List Placed
    pub word_of : WordOf names fs word ws
    pub to_equals : Spaces ws (equals ∷ xs)
    pub equals_is : equals.byte ≡ 0x3D
    pub to_quote : Spaces xs (open_ ∷ ys)
    pub quote_is : open_.byte ≡ quote
    pub quote_of : Quote quote
    pub chars : Chars quote value ys ts

  abbrev pub SlashOf : Stack → List Frame → List Placed → Type 0
  SlashOf [] fs ts = ⊥
  SlashOf (w ∷ k) [] ts = ⊥
  SlashOf (w ∷ k) (f ∷ fs) ts = (from : List Placed) × (us : List Placed) × Opening w f.attributes f.line from us × Stands (0x2F ∷ []) us ts × (f.children ≡ []) × Below k fs from

  abbrev pub ClosingOf : Stack → List Frame → ℕ → List Placed → Type 0
  ClosingOf [] fs read ts = ⊥
  ClosingOf (w ∷ k) fs read ts = (from : List Placed) × Stands (0x3C ∷ 0x2F ∷ take read w) from ts × (read ≤ length w) × Below (w ∷ k) fs from

  abbrev pub ClosedOf : Stack → List Frame → List Placed → Type 0
  ClosedOf [] fs ts = ⊥
  ClosedOf (w ∷ k) fs ts = (from : List Placed) × (us : List Placed) × Stands (0x3C ∷ 0x2F ∷ w) from us × Spaces us ts × Below (w ∷ k) fs from

  abbrev pub BeforeFixed : Fixed → Stack → Bool → Parts → List Placed → Type 0
  BeforeFixed fixed.Mark names seen q from = Fresh names seen q from × (from ≡ all)
  BeforeFixed fixed.Declaration names seen q from = Fresh names seen q from
  BeforeFixed fixed.Comment names seen q from = Outside names seen q from × Clean q
  BeforeFixed (fixed.Entity quote e) names seen q from = InValue quote names q.frames q.word q.value from

  pub record InComment (hyphen : ℕ) (names : Stack) (seen : Bool) (q : Parts) (ts : List Placed) : Type 0 where
    pub from : List Placed
    pub us : List Placed
    pub vs : List Placed
    pub content : List ℕ
    pub outside : Outside names seen q from
    pub clean : Clean q
    pub begun : Stands (codes "<!--") from us
    pub quiet : has_double (content ++ 0x2D ∷ []) ≡ false
    pub stands : Stands content us vs
    pub behind_ : Stands (hyphens hyphen) vs ts

  pub record InDeclaration (names : Stack) (seen : Bool) (q : Parts) (ts : List Placed) : Type 0 where
    pub from : List Placed
    pub us : List Placed
    pub content : List ℕ
    pub fresh : Fresh names seen q from
    pub begun : Stands (codes "<?xml") from us
    pub declared : list_all is_declared content ≡ true
    pub stands : Stands content us ts

  abbrev pub In : Mode → Stack → Bool → Parts → List Placed → Type 0
  In mode.Start names seen q ts = Fresh names seen q ts × (ts ≡ all)
  In mode.Marked names seen q ts = Fresh names seen q ts
  In (mode.Less line first) names seen q ts = (p : Placed) × (p.byte ≡ 0x3C) × (p.line ≡ line) × Outside names seen q (p ∷ ts) × Clean q × (first ≡ true → Fresh names seen q (p ∷ ts))
  In (mode.Fixed w read) names seen q ts = (from : List Placed) × Stands (take read (fixed_text w)) from ts × (read < length (fixed_text w)) × BeforeFixed w names seen q from
  In mode.Declaration names seen q ts = InDeclaration names seen q ts
  In mode.DeclarationEnds names seen q ts = (p : Placed) × InDeclaration names seen q (p ∷ ts) × (p.byte ≡ 0x3F)
  In mode.Between names seen q ts = Outside names seen q ts × Clean q
  In (mode.Comment hyphen) names seen q ts = InComment hyphen names seen q ts × (hyphen ≤ 3)
  In mode.Name names seen q ts = NameOf names q.frames ts × Clean q
  In mode.Tag names seen q ts = (us : List Placed) × TagOf names q.frames us × Gap us ts × Clean q
  In mode.AttributeName names seen q ts = WordOf names q.frames q.word ts × (q.value ≡ [])
  In mode.BeforeEquals names seen q ts = (ws : List Placed) × WordOf names q.frames q.word ws × Spaces ws ts × (q.value ≡ [])
  In mode.AfterEquals names seen q ts = (ws : List Placed) × (p : Placed) × (xs : List Placed) × WordOf names q.frames q.word ws × Spaces ws (p ∷ xs) × (p.byte ≡ 0x3D) × Spaces xs ts × (q.value ≡ [])
  In (mode.Value quote) names seen q ts = InValue quote names q.frames q.word q.value ts
  In (mode.Ampersand quote) names seen q ts = (from : List Placed) × Stands (0x26 ∷ []) from ts × InValue quote names q.frames q.word q.value from
  In (mode.AmpersandA quote) names seen q ts = (from : List Placed) × Stands (0x26 ∷ 0x61 ∷ []) from ts × InValue quote names q.frames q.word q.value from
  In mode.BehindValue names seen q ts = TagOf names q.frames ts × Clean q
  In mode.Slash names seen q ts = SlashOf names q.frames ts × Clean q
  In (mode.Closing read) names seen q ts = ClosingOf names q.frames read ts × Clean q
  In mode.Closed names seen q ts = ClosedOf names q.frames ts × Clean q

  abbrev pub IfIn : Option State → List Placed → Type 0
  IfIn None ts = Unit {0}
  IfIn (Some s) ts = In s.mode s.notes.names s.notes.seen s.parts ts

  -- what was read is known behind this move
  abbrev pub Moves : Notes → Parts → List Placed → Option Move → Type 0
  Moves n q ts v = IfIn (moved n q v) ts

  by_if : (n : Notes) (q : Parts) (ts : List Placed) (t : Bool) (x y : Option Move) → (t ≡ true → Moves n q ts x) → (t ≡ false → Moves n q ts y) → Moves n q ts (if t then x else y)
  by_if n q ts true x y f g = f refl
  by_if n q ts false x y f g = g refl

  by_when : (n : Notes) (q : Parts) (ts : List Placed) (t : Bool) (x : Option Move) → (t ≡ true → Moves n q ts x) → Moves n q ts (when t x)
  by_when n q ts true x f = f refl
  by_when n q ts false x f = tt

  -- ---- outside of tags

  below_space : (k : Stack) (fs : List Frame) (p : Placed) (ts : List Placed) → is_space p.byte ≡ true → Below k fs (p ∷ ts) → Below k fs ts
  below_space [] [] p ts h b = record { us = b.us; vs = b.vs; marked = b.marked; declared = b.declared; misc = misc_space b.misc h }
  below_space [] (f ∷ fs) p ts h b = absurd b
  below_space (w ∷ k) [] p ts h b = absurd b
  below_space (w ∷ k) (f ∷ fs) p ts h b = (b.0, b.1, b.2, b.3, b.4, content_space b.5 h, b.6)

  below_comment : (k : Stack) (fs : List Frame) (from ts : List Placed) → Comment from ts → Below k fs from → Below k fs ts
  below_comment [] [] from ts c b = record { us = b.us; vs = b.vs; marked = b.marked; declared = b.declared; misc = misc_comment b.misc c }
  below_comment [] (f ∷ fs) from ts c b = absurd b
  below_comment (w ∷ k) [] from ts c b = absurd b
  below_comment (w ∷ k) (f ∷ fs) from ts c b = (b.0, b.1, b.2, b.3, b.4, content_comment b.5 c, b.6)

  outside_space : (names : Stack) (seen : Bool) (q : Parts) (p : Placed) (ts : List Placed) → is_space p.byte ≡ true → Outside names seen q (p ∷ ts) → Outside names seen q ts
  outside_space [] true q p ts h o = record { n = o.n; top_is = o.top_is; ws = o.ws; xs = o.xs; before = o.before; element = o.element; misc = misc_space o.misc h }
  outside_space [] false q p ts h o = below_space [] q.frames p ts h o
  outside_space (w ∷ k) seen q p ts h o = below_space (w ∷ k) q.frames p ts h o

  outside_comment : (names : Stack) (seen : Bool) (q : Parts) (from ts : List Placed) → Comment from ts → Outside names seen q from → Outside names seen q ts
  outside_comment [] true q from ts c o = record { n = o.n; top_is = o.top_is; ws = o.ws; xs = o.xs; before = o.before; element = o.element; misc = misc_comment o.misc c }
  outside_comment [] false q from ts c o = below_comment [] q.frames from ts c o
  outside_comment (w ∷ k) seen q from ts c o = below_comment (w ∷ k) q.frames from ts c o

  fresh_below : (fs : List Frame) (from : List Placed) → Mark all from → fs ≡ [] → Below [] fs from
  fresh_below [] from m e = record { us = from; vs = from; marked = m; declared = no_declaration; misc = no_misc }
  fresh_below (f ∷ fs) from m e = cc

  fresh_outside : (names : Stack) (seen : Bool) (q : Parts) (from : List Placed) → Fresh names seen q from → Outside names seen q from
  fresh_outside [] true q from f = let e = f.seen_is in cc
  fresh_outside [] false q from f = fresh_below q.frames from f.marked f.frames_are
  fresh_outside (w ∷ k) seen q from f = let e = f.names_are in cc

  declared_below : (fs : List Frame) (from ts : List Placed) → Mark all from → Declaration from ts → fs ≡ [] → Below [] fs ts
  declared_below [] from ts m d e = record { us = from; vs = ts; marked = m; declared = d; misc = no_misc }
  declared_below (f ∷ fs) from ts m d e = cc

  declared_outside : (names : Stack) (seen : Bool) (q : Parts) (from ts : List Placed) → Fresh names seen q from → Declaration from ts → Outside names seen q ts
  declared_outside [] true q from ts f d = let e = f.seen_is in cc
  declared_outside [] false q from ts f d = declared_below q.frames from ts f.marked d f.frames_are
  declared_outside (w ∷ k) seen q from ts f d = let e = f.names_are in cc

  -- ---- one byte

  module _ (n : Notes) (q : Parts) (p : Placed) (rest : List Placed) where
    keeps_space : Outside n.names n.seen q (p ∷ rest) → Clean q → is_space p.byte ≡ true → Moves n q rest (go mode.Between)
    keeps_space o c h = (outside_space n.names n.seen q p rest h o, c)

    keeps_front : Fresh n.names n.seen q (p ∷ rest) → Moves n q rest (front p.line p.byte)
    keeps_front f =
        let o = fresh_outside n.names n.seen q (p ∷ rest) f in
        by_if n q rest (is_space p.byte) _ _ (keeps_space o f.clean)
        (λ x. by_when n q rest (p.byte == 0x3C) _ (λ t. (p, same _ _ t, refl, o, f.clean, λ u. f)))

    keeps_start : In mode.Start n.names n.seen q (p ∷ rest) → Moves n q rest (begin p.line p.byte)
    keeps_start w =
        let o = fresh_outside n.names n.seen q (p ∷ rest) w.0 in
        by_if n q rest (is_space p.byte) _ _ (keeps_space o w.0.clean)
        (λ x. by_if n q rest (p.byte == 0x3C) _ _ (λ t. (p, same _ _ t, refl, o, w.0.clean, λ u. w.0))
        (λ y. by_when n q rest (p.byte == 0xEF) _ (λ t. (p ∷ rest, (p, rest, refl, same _ _ t, refl), omega arith, (w.0, w.1)))))

    keeps_between : In mode.Between n.names n.seen q (p ∷ rest) → Moves n q rest (between p.line p.byte)
    keeps_between w =
        by_if n q rest (is_space p.byte) _ _ (keeps_space w.0 w.1)
        (λ x. by_when n q rest (p.byte == 0x3C) _ (λ t. (p, same _ _ t, refl, w.0, w.1, λ u. absurd (no u))))

  -- ---- behind a `<`

  keeps_opens : (names : Stack) (seen : Bool) (deep : Option ℕ) (q : Parts) (line : ℕ) (x p : Placed) (rest : List Placed) → x.byte ≡ 0x3C → x.line ≡ line → is_letter p.byte ≡ true → Outside names seen q (x ∷ p ∷ rest) → Clean q
      → Moves (notes names seen deep) q rest (opens line (place_in names seen) p.byte)
  keeps_opens [] true deep q line x p rest e l h o c = tt
  keeps_opens [] false deep q line x p rest e l h o c = ((x, p ∷ rest, e, l, conj h refl, (p, rest, refl, refl, refl), refl, refl, o), c)
  keeps_opens (w ∷ k) seen deep q line x p rest e l h o c = ((x, p ∷ rest, e, l, conj h refl, (p, rest, refl, refl, refl), refl, refl, o), c)

  keeps_slashed : (names : Stack) (seen : Bool) (deep : Option ℕ) (q : Parts) (x p : Placed) (rest : List Placed) → x.byte ≡ 0x3C → p.byte ≡ 0x2F → Outside names seen q (x ∷ p ∷ rest) → Clean q
      → Moves (notes names seen deep) q rest (closes (place_in names seen))
  keeps_slashed [] true deep q x p rest e h o c = tt
  keeps_slashed [] false deep q x p rest e h o c = tt
  keeps_slashed (w ∷ k) seen deep q x p rest e h o c = ((x ∷ p ∷ rest, (x, p ∷ rest, refl, e, (p, rest, refl, h, refl)), omega arith, o), c)

  keeps_less : (n : Notes) (q : Parts) (line : ℕ) (first : Bool) (p : Placed) (rest : List Placed) → In (mode.Less line first) n.names n.seen q (p ∷ rest) → Moves n q rest (less line first (place_in n.names n.seen) p.byte)
  keeps_less n q line first p rest w =
      let x = w.0 in
      by_if n q rest (is_letter p.byte) _ _ (λ t. keeps_opens n.names n.seen n.deep q line x p rest w.1 w.2 t w.3 w.4)
      (λ u. by_if n q rest (p.byte == 0x21) _ _ (λ t. (x ∷ p ∷ rest, (x, p ∷ rest, refl, w.1, (p, rest, refl, same _ _ t, refl)), omega arith, (w.3, w.4)))
      (λ u. by_if n q rest (p.byte == 0x2F) _ _ (λ t. keeps_slashed n.names n.seen n.deep q x p rest w.1 (same _ _ t) w.3 w.4)
      (λ u. by_when n q rest (p.byte == 0x3F && first) _ (λ t.
      let b = both (p.byte == 0x3F) first t in
      (x ∷ p ∷ rest, (x, p ∷ rest, refl, w.1, (p, rest, refl, same _ _ b.0, refl)), omega arith, w.5 b.1)))))

  -- ---- fixed bytes

  keeps_behind : (n : Notes) (q : Parts) (from rest : List Placed) (w : Fixed) → Stands (fixed_text w) from rest → BeforeFixed w n.names n.seen q from → Moves n q rest (behind w)
  keeps_behind n q from rest fixed.Mark h f = record {
    marked = mark (subst (λ x. Stands (0xEF ∷ 0xBB ∷ 0xBF ∷ []) x rest) f.1 h);
    names_are = f.0.names_are;
    seen_is = f.0.seen_is;
    frames_are = f.0.frames_are;
    clean = f.0.clean;
  }
  keeps_behind n q from rest fixed.Declaration h f = record { from = from; us = rest; content = []; fresh = f; begun = h; declared = refl; stands = refl }
  keeps_behind n q from rest fixed.Comment h f =
      (record { from = from; us = rest; vs = rest; content = []; outside = f.0; clean = f.1; begun = h; quiet = refl; stands = refl; behind_ = refl }, omega arith)
  keeps_behind n q from rest (fixed.Entity quote e) h f = record { ws = f.ws; equals = f.equals; xs = f.xs; open_ = f.open_; ys = f.ys; word_of = f.word_of; to_equals = f.to_equals; equals_is = f.equals_is; to_quote = f.to_quote; quote_is = f.quote_is; quote_of = f.quote_of; chars = entity e f.chars h }

  keeps_fixed : (n : Notes) (q : Parts) (w : Fixed) (read : ℕ) (p : Placed) (rest : List Placed) → In (mode.Fixed w read) n.names n.seen q (p ∷ rest) → (o : Option ℕ) → slice_get (fixed_text w) read ≡ o → Moves n q rest (fixed_next w read p.byte o)
  keeps_fixed n q w read p rest i None e = tt
  keeps_fixed n q w read p rest i (Some c) e =
      let taken = take_push (fixed_text w) read c i.2 e in
      by_when n q rest (p.byte == c) _ (λ t.
      let stands = stands_push (take read (fixed_text w)) i.0 p rest c i.1 (same _ _ t) in
      by_if n q rest (suc read == length (fixed_text w)) _ _
      (λ u. keeps_behind n q i.0 rest w (subst (λ x. Stands x i.0 rest) (sym taken ∙ ap (λ k. take k (fixed_text w)) (same _ _ u) ∙ take_whole (fixed_text w)) stands) i.3)
      (λ u. let more : suc read ≢ length (fixed_text w) = eqb-false _ _ u in let less_ = i.2 in (i.0, subst (λ x. Stands x i.0 rest) (sym taken) stands, omega (arith, more, less_), i.3)))

  -- ---- a declaration, a comment

  keeps_declaration : (n : Notes) (q : Parts) (p : Placed) (rest : List Placed) → InDeclaration n.names n.seen q (p ∷ rest) → Moves n q rest (in_declaration p.byte)
  keeps_declaration n q p rest i =
      by_if n q rest (is_declared p.byte) _ _
      (λ t. record { from = i.from; us = i.us; content = i.content ++ p.byte ∷ []; fresh = i.fresh; begun = i.begun; declared = declared_push i.content p.byte i.declared t; stands = stands_push i.content i.us p rest p.byte i.stands refl })
      (λ u. by_when n q rest (p.byte == 0x3F) _ (λ t. (p, i, same _ _ t)))

  keeps_declared : (n : Notes) (q : Parts) (p : Placed) (rest : List Placed) → In mode.DeclarationEnds n.names n.seen q (p ∷ rest) → Moves n q rest (when (p.byte == 0x3E) (go mode.Between))
  keeps_declared n q p rest w =
      by_when n q rest (p.byte == 0x3E) _ (λ t.
      let i = w.1 in
      (declared_outside n.names n.seen q i.from rest i.fresh (declaration i.content i.begun i.declared i.stands (w.0, p ∷ rest, refl, w.2, (p, rest, refl, same _ _ t, refl))), i.fresh.clean))

  -- another byte than a hyphen: all so far is content
  keeps_content : (n : Notes) (q : Parts) (hyphen : ℕ) (p : Placed) (rest : List Placed) (i : InComment hyphen n.names n.seen q (p ∷ rest)) → has_double (i.content ++ hyphens hyphen) ≡ false → (p.byte == 0x2D) ≡ false → Moves n q rest (go (mode.Comment 0))
  keeps_content n q hyphen p rest i d h = (
    record {
      from = i.from;
      us = i.us;
      vs = rest;
      content = (i.content ++ hyphens hyphen) ++ p.byte ∷ [];
      outside = i.outside;
      clean = i.clean;
      begun = i.begun;
      quiet = quiet_push (i.content ++ hyphens hyphen) p.byte d h;
      stands = stands_push (i.content ++ hyphens hyphen) i.us p rest p.byte (stands_append i.content (hyphens hyphen) i.us i.vs (p ∷ rest) i.stands i.behind_) refl;
      behind_ = refl;
    },
    omega arith,
  )

  keeps_comment : (n : Notes) (q : Parts) (hyphen : ℕ) (p : Placed) (rest : List Placed) → InComment hyphen n.names n.seen q (p ∷ rest) × (hyphen ≤ 3) → Moves n q rest (in_comment hyphen p.byte)
  keeps_comment n q zero p rest w =
      let i = w.0 in
      by_if n q rest (p.byte == 0x2D) _ _
      (λ t. (record { from = i.from; us = i.us; vs = i.vs; content = i.content; outside = i.outside; clean = i.clean; begun = i.begun; quiet = i.quiet; stands = i.stands; behind_ = stands_push [] i.vs p rest 0x2D i.behind_ (same _ _ t) }, omega arith))
      (λ t. keeps_content n q 0 p rest i (rw (append-nil i.content) (free_of_quiet i.content i.quiet)) t)
  keeps_comment n q (suc zero) p rest w =
      let i = w.0 in
      by_if n q rest (p.byte == 0x2D) _ _
      (λ t. (record { from = i.from; us = i.us; vs = i.vs; content = i.content; outside = i.outside; clean = i.clean; begun = i.begun; quiet = i.quiet; stands = i.stands; behind_ = stands_push (hyphens 1) i.vs p rest 0x2D i.behind_ (same _ _ t) }, omega arith))
      (λ t. keeps_content n q 1 p rest i i.quiet t)
  keeps_comment n q (suc (suc zero)) p rest w =
      let i = w.0 in
      by_if n q rest (p.byte == 0x2D) _ _
      (λ t. (record { from = i.from; us = i.us; vs = i.vs; content = i.content; outside = i.outside; clean = i.clean; begun = i.begun; quiet = i.quiet; stands = i.stands; behind_ = stands_push (hyphens 2) i.vs p rest 0x2D i.behind_ (same _ _ t) }, omega arith))
      (λ u. by_when n q rest (p.byte == 0x3E) _ (λ t.
      (outside_comment n.names n.seen q i.from rest (comment i.content i.begun (free_of_quiet i.content i.quiet) i.stands (stands_push (hyphens 2) i.vs p rest 0x3E i.behind_ (same _ _ t))) i.outside, i.clean)))
  keeps_comment n q (suc (suc (suc zero))) p rest w =
      let i = w.0 in
      by_if n q rest (p.byte == 0x2D) _ _
      (λ t. tt)
      (λ u. by_when n q rest (p.byte == 0x3E) _ (λ t.
      let b = i.behind_ in
      (outside_comment n.names n.seen q i.from rest (comment (i.content ++ 0x2D ∷ []) i.begun i.quiet (stands_append i.content (0x2D ∷ []) i.us i.vs b.1 i.stands (b.0, b.1, b.2, b.3, refl)) (stands_push (hyphens 2) b.1 p rest 0x3E b.4 (same _ _ t))) i.outside, i.clean)))
  keeps_comment n q (suc (suc (suc (suc m)))) p rest w = let h = w.1 in absurd (omega (arith, h))

  -- ---- tags

  opened : (w : List ℕ) (f : Frame) (p : Placed) (us vs ts rest : List Placed) → p.byte ≡ 0x3C → p.line ≡ f.line → is_name w ≡ true → Stands w us vs → Attributes f.attributes vs ts → Spaces ts rest → Opening w f.attributes f.line (p ∷ us) rest
  opened w f p us vs ts rest e l i h a s = subst (λ x. Opening w f.attributes x (p ∷ us) rest) l (opening e i h a s)

  keeps_tag : (names : Stack) (seen : Bool) (deep : Option ℕ) (fs : List Frame) (word value : List ℕ) (top : Option Node) (us : List Placed) (p : Placed) (rest : List Placed) → TagOf names fs us → Spaces us (p ∷ rest) → Clean (parts fs word value top)
      → Moves (notes names seen deep) (parts fs word value top) rest (tag p.byte)
  keeps_tag [] seen deep fs word value top us p rest t s c = absurd t
  keeps_tag (w ∷ k) seen deep [] word value top us p rest t s c = absurd t
  keeps_tag (w ∷ k) seen deep (f ∷ fs) word value top us p rest t s c =
      let n = notes (w ∷ k) seen deep in
      let q = parts (f ∷ fs) word value top in
      let o = opened w f t.0 t.1 t.2 us (p ∷ rest) t.3 t.4 t.5 t.6 t.7 s in
      by_if n q rest (is_space p.byte) _ _ (λ h. (us, t, gap s h, c))
      (λ x. by_if n q rest (p.byte == 0x2F) _ _ (λ h. ((t.0 ∷ t.1, p ∷ rest, o, (p, rest, refl, same _ _ h, refl), t.8, t.9), c))
      (λ y. by_when n q rest (p.byte == 0x3E) _ (λ h. ((t.0 ∷ t.1, rest, p, o, same _ _ h, subst (λ ns. Content ns rest rest) (sym t.8) no_content, t.9), c))))

  keeps_name : (names : Stack) (seen : Bool) (deep : Option ℕ) (fs : List Frame) (word value : List ℕ) (top : Option Node) (p : Placed) (rest : List Placed) → NameOf names fs (p ∷ rest) → Clean (parts fs word value top)
      → Moves (notes names seen deep) (parts fs word value top) rest (in_name p.byte)
  keeps_name [] seen deep fs word value top p rest t c = absurd t
  keeps_name (w ∷ k) seen deep [] word value top p rest t c = absurd t
  keeps_name (w ∷ k) seen deep (f ∷ fs) word value top p rest t c =
      let n = notes (w ∷ k) seen deep in
      let q = parts (f ∷ fs) word value top in
      by_if n q rest (is_name_byte p.byte) _ _ (λ h. ((t.0, t.1, t.2, t.3, name_push w p.byte t.4 h, stands_push w t.1 p rest p.byte t.5 refl, t.6, t.7, t.8), c))
      (λ x. keeps_tag (w ∷ k) seen deep (f ∷ fs) word value top (p ∷ rest) p rest (t.0, t.1, p ∷ rest, t.2, t.3, t.4, t.5, subst (λ a. Attributes a (p ∷ rest) (p ∷ rest)) (sym t.6) no_attribute, t.7, t.8) no_space c)

  keeps_in_tag : (n : Notes) (q : Parts) (p : Placed) (rest : List Placed) → In mode.Tag n.names n.seen q (p ∷ rest) → Moves n q rest (in_tag p.byte)
  keeps_in_tag n q p rest w =
      by_if n q rest (is_letter p.byte) _ _
      (λ h. ((w.0, p ∷ rest, w.1, w.2, subst (λ x. is_name (x ++ p.byte ∷ []) ≡ true) (sym w.3.0) (conj h refl), subst (λ x. Stands (x ++ p.byte ∷ []) (p ∷ rest) rest) (sym w.3.0) (p, rest, refl, refl, refl)), w.3.1))
      (λ x. keeps_tag n.names n.seen n.deep q.frames q.word q.value q.top w.0 p rest w.1 (gap_spaces w.2) w.3)

  keeps_before_equals : (n : Notes) (q : Parts) (ws : List Placed) (p : Placed) (rest : List Placed) → WordOf n.names q.frames q.word ws → Spaces ws (p ∷ rest) → q.value ≡ [] → Moves n q rest (before_equals p.byte)
  keeps_before_equals n q ws p rest w s v =
      by_if n q rest (is_space p.byte) _ _ (λ h. (ws, w, space s h, v))
      (λ x. by_when n q rest (p.byte == 0x3D) _ (λ h. (ws, p, rest, w, s, same _ _ h, no_space, v)))

  keeps_word : (n : Notes) (q : Parts) (p : Placed) (rest : List Placed) → In mode.AttributeName n.names n.seen q (p ∷ rest) → Moves n q rest (in_attribute_name p.byte)
  keeps_word n q p rest w =
      let t = w.0 in
      by_if n q rest (is_name_byte p.byte) _ _ (λ h. ((t.0, t.1, t.2, t.3, name_push q.word p.byte t.4 h, stands_push q.word t.1 p rest p.byte t.5 refl), w.1))
      (λ x. keeps_before_equals n q (p ∷ rest) p rest t no_space w.1)

  value_begins : (quote : ℕ) (n : Notes) (q : Parts) (p : Placed) (rest : List Placed) → In mode.AfterEquals n.names n.seen q (p ∷ rest) → p.byte ≡ quote → Quote quote → InValue quote n.names q.frames q.word q.value rest
  value_begins quote n q p rest w e u = record {
    ws = w.0;
    equals = w.1;
    xs = w.2;
    open_ = p;
    ys = rest;
    word_of = w.3;
    to_equals = w.4;
    equals_is = w.5;
    to_quote = w.6;
    quote_is = e;
    quote_of = u;
    chars = subst (λ v. Chars quote v rest rest) (sym w.7) no_char;
  }

  keeps_after_equals : (n : Notes) (q : Parts) (p : Placed) (rest : List Placed) → In mode.AfterEquals n.names n.seen q (p ∷ rest) → Moves n q rest (after_equals p.byte)
  keeps_after_equals n q p rest w =
      by_if n q rest (is_space p.byte) _ _ (λ h. (w.0, w.1, w.2, w.3, w.4, w.5, space w.6 h, w.7))
      (λ x. by_if n q rest (p.byte == 0x22) _ _ (λ h. value_begins 0x22 n q p rest w (same _ _ h) double)
      (λ y. by_when n q rest (p.byte == 0x27) _ (λ h. value_begins 0x27 n q p rest w (same _ _ h) single)))

  -- the attribute is complete
  value_ends : (quote : ℕ) (names : Stack) (fs : List Frame) (word value : List ℕ) (p : Placed) (rest : List Placed) → InValue quote names fs word value (p ∷ rest) → p.byte ≡ quote → TagOf names (attributed (attribute_of word value) fs) rest
  value_ends quote [] fs word value p rest i e = absurd i.word_of.2
  value_ends quote (w ∷ k) [] word value p rest i e = absurd i.word_of.2
  value_ends quote (w ∷ k) (f ∷ fs) word value p rest i e =
      let o = i.word_of in
      let t = o.2 in
      (t.0, t.1, t.2, t.3, t.4, t.5, t.6, attribute t.7 o.3 (one_attribute o.4 o.5 i.to_equals i.equals_is i.to_quote i.quote_is i.quote_of i.chars e), t.8, t.9)

  keeps_value : (quote : ℕ) (n : Notes) (q : Parts) (p : Placed) (rest : List Placed) → InValue quote n.names q.frames q.word q.value (p ∷ rest) → Moves n q rest (in_value quote p.byte)
  keeps_value quote n q p rest i =
      by_if n q rest (is_char quote p.byte) _ _ (λ h. record { ws = i.ws; equals = i.equals; xs = i.xs; open_ = i.open_; ys = i.ys; word_of = i.word_of; to_equals = i.to_equals; equals_is = i.equals_is; to_quote = i.to_quote; quote_is = i.quote_is; quote_of = i.quote_of; chars = char i.chars h })
      (λ x. by_if n q rest (p.byte == 0x26) _ _ (λ h. (p ∷ rest, (p, rest, refl, same _ _ h, refl), i))
      (λ y. by_when n q rest (p.byte == quote) _ (λ h. (value_ends quote n.names q.frames q.word q.value p rest i (same _ _ h), (refl, refl)))))

  keeps_ampersand : (quote : ℕ) (n : Notes) (q : Parts) (p : Placed) (rest : List Placed) → In (mode.Ampersand quote) n.names n.seen q (p ∷ rest) → Moves n q rest (ampersand quote p.byte)
  keeps_ampersand quote n q p rest w =
      let push : (b : ℕ) → (p.byte == b) ≡ true → Stands (0x26 ∷ b ∷ []) w.0 rest = λ b h. stands_push (0x26 ∷ []) w.0 p rest b w.1 (same _ _ h) in
      by_if n q rest (p.byte == 0x6C) _ _ (λ h. (w.0, push 0x6C h, omega arith, w.2))
      (λ x. by_if n q rest (p.byte == 0x67) _ _ (λ h. (w.0, push 0x67 h, omega arith, w.2))
      (λ x. by_if n q rest (p.byte == 0x71) _ _ (λ h. (w.0, push 0x71 h, omega arith, w.2))
      (λ x. by_when n q rest (p.byte == 0x61) _ (λ h. (w.0, push 0x61 h, w.2)))))

  keeps_ampersand_a : (quote : ℕ) (n : Notes) (q : Parts) (p : Placed) (rest : List Placed) → In (mode.AmpersandA quote) n.names n.seen q (p ∷ rest) → Moves n q rest (ampersand_a quote p.byte)
  keeps_ampersand_a quote n q p rest w =
      let push : (b : ℕ) → (p.byte == b) ≡ true → Stands (0x26 ∷ 0x61 ∷ b ∷ []) w.0 rest = λ b h. stands_push (0x26 ∷ 0x61 ∷ []) w.0 p rest b w.1 (same _ _ h) in
      by_if n q rest (p.byte == 0x6D) _ _ (λ h. (w.0, push 0x6D h, omega arith, w.2))
      (λ x. by_when n q rest (p.byte == 0x70) _ (λ h. (w.0, push 0x70 h, omega arith, w.2)))

  -- ---- the ends of elements

  -- a complete element is put where it stands
  keeps_put : (x : Node) (k : Stack) (fs : List Frame) (word value : List ℕ) (top : Option Node) (from rest : List Placed) → Element x from rest → Below k fs from → Outside k (is_empty k) (put x word value top fs) rest
  keeps_put x [] [] word value top from rest e b = record { n = x; top_is = refl; ws = from; xs = rest; before = b; element = e; misc = no_misc }
  keeps_put x [] (f ∷ fs) word value top from rest e b = absurd b
  keeps_put x (w ∷ k) [] word value top from rest e b = absurd b
  keeps_put x (w ∷ k) (f ∷ fs) word value top from rest e b = (b.0, b.1, b.2, b.3, b.4, content_element b.5 e, b.6)

  put_clean : (x : Node) (word value : List ℕ) (top : Option Node) (fs : List Frame) → (word ≡ []) × (value ≡ []) → Clean (put x word value top fs)
  put_clean x word value top [] c = c
  put_clean x word value top (f ∷ fs) c = c

  keeps_slash : (names : Stack) (seen : Bool) (deep : Option ℕ) (fs : List Frame) (word value : List ℕ) (top : Option Node) (p : Placed) (rest : List Placed) → SlashOf names fs (p ∷ rest) → Clean (parts fs word value top)
      → Moves (notes names seen deep) (parts fs word value top) rest (slash p.byte)
  keeps_slash [] seen deep fs word value top p rest s c = absurd s
  keeps_slash (w ∷ k) seen deep [] word value top p rest s c = absurd s
  keeps_slash (w ∷ k) seen deep (f ∷ fs) word value top p rest s c =
      by_when (notes (w ∷ k) seen deep) (parts (f ∷ fs) word value top) rest (p.byte == 0x3E) _ (λ h.
      let x = element_of w f.attributes f.children f.line in
      let e : Element x s.0 rest = subst (λ ns. Element (element_of w f.attributes ns f.line) s.0 rest) (sym s.4) (empty s.2 (stands_push (0x2F ∷ []) s.1 p rest 0x3E s.3 (same _ _ h))) in
      (keeps_put x k fs word value top s.0 rest e s.5, put_clean x word value top fs c))

  keeps_ending : (names : Stack) (seen : Bool) (deep : Option ℕ) (fs : List Frame) (word value : List ℕ) (top : Option Node) (p : Placed) (rest : List Placed) → ClosedOf names fs (p ∷ rest) → Clean (parts fs word value top)
      → Moves (notes names seen deep) (parts fs word value top) rest (ending p.byte)
  keeps_ending [] seen deep fs word value top p rest s c = absurd s
  keeps_ending (w ∷ k) seen deep [] word value top p rest s c = absurd s.4
  keeps_ending (w ∷ k) seen deep (f ∷ fs) word value top p rest s c =
      let n = notes (w ∷ k) seen deep in
      let q = parts (f ∷ fs) word value top in
      by_if n q rest (is_space p.byte) _ _ (λ h. ((s.0, s.1, s.2, space s.3 h, s.4), c))
      (λ y. by_when n q rest (p.byte == 0x3E) _ (λ h.
      let x = element_of w f.attributes f.children f.line in
      let b = s.4 in
      (keeps_put x k fs word value top b.0 rest (nested b.3 b.4 b.5 s.2 s.3 (same _ _ h)) b.6, put_clean x word value top fs c)))

  keeps_closing : (names : Stack) (seen : Bool) (deep : Option ℕ) (fs : List Frame) (word value : List ℕ) (top : Option Node) (read : ℕ) (p : Placed) (rest : List Placed) → ClosingOf names fs read (p ∷ rest) → Clean (parts fs word value top)
      → (o : Option ℕ) → slice_get (top_of names) read ≡ o → Moves (notes names seen deep) (parts fs word value top) rest (closing_next read p.byte o)
  keeps_closing [] seen deep fs word value top read p rest s c o e = absurd s
  keeps_closing (w ∷ k) seen deep fs word value top read p rest s c None e =
      keeps_ending (w ∷ k) seen deep fs word value top p rest (s.0, p ∷ rest, subst (λ x. Stands (0x3C ∷ 0x2F ∷ x) s.0 (p ∷ rest)) (take_past w read e) s.1, no_space, s.3) c
  keeps_closing (w ∷ k) seen deep fs word value top read p rest s c (Some b) e =
      by_when (notes (w ∷ k) seen deep) (parts fs word value top) rest (p.byte == b) _ (λ h.
      ((s.0, subst (λ x. Stands (0x3C ∷ 0x2F ∷ x) s.0 rest) (sym (take_push w read b (slice_get_within w read b e) e)) (stands_push (0x3C ∷ 0x2F ∷ take read w) s.0 p rest b s.1 (same _ _ h)), slice_get_within w read b e, s.3), c))

  -- ---- all bytes

  keeps : (m : Mode) (n : Notes) (q : Parts) (p : Placed) (rest : List Placed) → In m n.names n.seen q (p ∷ rest) → Moves n q rest (decide m n p.line p.byte)
  keeps mode.Start n q p rest w = keeps_start n q p rest w
  keeps mode.Marked n q p rest w = keeps_front n q p rest w
  keeps (mode.Less line first) n q p rest w = keeps_less n q line first p rest w
  keeps (mode.Fixed f read) n q p rest w = keeps_fixed n q f read p rest w (slice_get (fixed_text f) read) refl
  keeps mode.Declaration n q p rest w = keeps_declaration n q p rest w
  keeps mode.DeclarationEnds n q p rest w = keeps_declared n q p rest w
  keeps mode.Between n q p rest w = keeps_between n q p rest w
  keeps (mode.Comment hyphen) n q p rest w = keeps_comment n q hyphen p rest w
  keeps mode.Name n q p rest w = keeps_name n.names n.seen n.deep q.frames q.word q.value q.top p rest w.0 w.1
  keeps mode.Tag n q p rest w = keeps_in_tag n q p rest w
  keeps mode.AttributeName n q p rest w = keeps_word n q p rest w
  keeps mode.BeforeEquals n q p rest w = keeps_before_equals n q w.0 p rest w.1 w.2 w.3
  keeps mode.AfterEquals n q p rest w = keeps_after_equals n q p rest w
  keeps (mode.Value quote) n q p rest w = keeps_value quote n q p rest w
  keeps (mode.Ampersand quote) n q p rest w = keeps_ampersand quote n q p rest w
  keeps (mode.AmpersandA quote) n q p rest w = keeps_ampersand_a quote n q p rest w
  keeps mode.BehindValue n q p rest w = keeps_tag n.names n.seen n.deep q.frames q.word q.value q.top (p ∷ rest) p rest w.0 no_space w.1
  keeps mode.Slash n q p rest w = keeps_slash n.names n.seen n.deep q.frames q.word q.value q.top p rest w.0 w.1
  keeps (mode.Closing read) n q p rest w = keeps_closing n.names n.seen n.deep q.frames q.word q.value q.top read p rest w.0 w.1 (slice_get (top_of n.names) read) refl
  keeps mode.Closed n q p rest w = keeps_ending n.names n.seen n.deep q.frames q.word q.value q.top p rest w.0 w.1

  keeps_all : (s : Option State) (ts : List Placed) → IfIn s ts → IfIn (fed s ts) []
  keeps_all s [] h = h
  keeps_all None (p ∷ ts) h = keeps_all None ts tt
  keeps_all (Some s) (p ∷ ts) h = keeps_all (step s p) ts (keeps s.mode s.notes s.parts p ts h)

  starts : IfIn (Some start) all
  starts = (record { marked = no_mark; names_are = refl; seen_is = refl; frames_are = refl; clean = (refl, refl) }, refl)

-- what is known of the state that the machine comes to
pub known : (ts : List Placed) (s : State) → fed (Some start) ts ≡ Some s → In ts s.mode s.notes.names s.notes.seen s.parts []
known ts s h = subst (λ x. IfIn ts x []) h (keeps_all ts (Some start) ts (starts ts))

-- what the machine makes of a text is the element that the grammar reads
pub accepted : (ts : List Placed) (deep : Option ℕ) (q : Parts) → fed (Some start) ts ≡ at mode.Between (notes [] true deep) q → (n : Node) × (q.top ≡ Some n) × Document n ts
accepted ts deep q h =
    let k = known ts (state mode.Between (notes [] true deep) q) h in
    let o = k.0 in
    (o.n, o.top_is, document o.before.marked o.before.declared o.before.misc o.element o.misc)
