-- What the grammar reads, the machine follows.
use Rattle.std.proofs.Common.{◌≡◌, ◌==◌, ◌&&◌, if◌then◌else◌, ℕ, suc, Bool, true, false, List, [], ◌∷◌, ◌++◌, length, codes, Option, Some, None, refl, sym, ap, subst, ◌∙◌, arith, append_assoc, append-nil}
use Rattle.std.specs.List.{list_all, slice_get}
use Rattle.std.proofs.lemmas.Option.{slice_get_past}
use Rattle.db_text.specs.declared.mode.Act.TheVariants as act
use Rattle.db_text.specs.declared.mode.Entity.{Entity}
use Rattle.db_text.specs.declared.mode.Entity.TheVariants as entities
use Rattle.db_text.specs.declared.mode.Fixed.TheVariants as fixed
use Rattle.db_text.specs.declared.mode.Mode.{Mode}
use Rattle.db_text.specs.declared.mode.Mode.TheVariants as mode
use Rattle.db_text.specs.declared.mode.Move.{Move}
use Rattle.db_text.specs.declared.node.Attribute.{Attribute}
use Rattle.db_text.specs.declared.node.Node.{Node}
use Rattle.db_text.specs.declared.notes.Notes.{Notes}
use Rattle.db_text.specs.declared.frame.Frame.{Frame}
use Rattle.db_text.specs.declared.parts.Parts.{Parts}
use Rattle.db_text.specs.Text.{Placed, is_space, is_letter, is_name_byte, is_declared, begins_with, has_double, Quote, double, single, as_space, entity_text, character}
use Rattle.db_text.specs.Tree.{element_of, earlier, too_deep, any_too_deep}
use Rattle.db_text.specs.Grammar.{Stands, Spaces, no_space, space, Gap, gap, no_mark, mark, Declaration, no_declaration, declaration, Comment, comment, Misc, no_misc, misc_space, misc_comment, Chars, no_char, char, entity, OneAttribute, one_attribute, Attributes, no_attribute, attribute, Opening, opening, Element, empty, nested, Content, no_content, content_space, content_comment, content_element, Document, document}
use Rattle.db_text.specs.Machine.{Stack, notes, frame, parts, at, no_notes, no_parts, start, doing, go, when, place_in, opens, tag, before_equals, closing_next, decide, is_empty, if_deep, put, moved, fed, State, in_comment, in_tag, after_equals, ending, not_letter}
use Rattle.db_text.proofs.ByteTests.{both, itself, space_no_name, space_no_letter, length_push, at_seam, or_false}
use Rattle.db_text.proofs.Depth.{earlier_assoc, earlier_none, any_too_deep-push, too_deep-element}

-- ---- one byte

move_by : (m : Mode) (n : Notes) (q : Parts) (p : Placed) (ts : List Placed) (v : Option Move) → decide m n p.line p.byte ≡ v → fed (at m n q) (p ∷ ts) ≡ fed (moved n q v) ts
move_by m n q p ts v h = ap (λ x. fed (moved n q x) ts) h

pub byte_by : (m : Mode) (n : Notes) (q : Parts) (b : ℕ) {ts us : List Placed} {p : Placed} → ts ≡ p ∷ us → p.byte ≡ b → fed (at m n q) ts ≡ fed (moved n q (decide m n p.line b)) us
byte_by m n q b {ts} {us} {p} e h = ap (fed (at m n q)) e ∙ ap (λ x. fed (moved n q (decide m n p.line x)) us) h

-- ---- space

-- from one mode space leads to another, in which it goes on
record Spaced (m m' : Mode) (n : Notes) : Type 0 where
  enters : (line b : ℕ) → is_space b ≡ true → decide m n line b ≡ go m'
  stays : (line b : ℕ) → is_space b ≡ true → decide m' n line b ≡ go m'

-- behind space comes a byte that both modes take the same way
spaces_to : (m m' : Mode) (n : Notes) → Spaced m m' n → (q : Parts) {ts : List Placed} (p : Placed) (rest : List Placed) (v : Option Move)
    → decide m n p.line p.byte ≡ v → decide m' n p.line p.byte ≡ v → Spaces ts (p ∷ rest) → fed (at m n q) ts ≡ fed (moved n q v) rest
spaces_to m m' n s q p rest v h h' d = last d p rest v refl h h'
  where
    last : {ts us : List Placed} → Spaces ts us → (p : Placed) (rest : List Placed) (v : Option Move) → us ≡ p ∷ rest → decide m n p.line p.byte ≡ v → decide m' n p.line p.byte ≡ v → fed (at m n q) ts ≡ fed (moved n q v) rest
    last no_space p rest v e h h' = ap (fed (at m n q)) e ∙ move_by m n q p rest v h
    last (space {p = x} {rest = us} d hx) p rest v e h h' =
        last d x us (go m') refl (s.enters x.line x.byte hx) (s.stays x.line x.byte hx) ∙ ap (fed (at m' n q)) e ∙ move_by m' n q p rest v h'

-- ---- a mode in a tag, in which it may end or an attribute may come

tag_spaced : (b : ℕ) → is_space b ≡ true → tag b ≡ go mode.Tag
tag_spaced b h = ap (λ t. if t then go mode.Tag else (if b == 0x2F then go mode.Slash else when (b == 0x3E) (go mode.Between))) h

in_tag_spaced : (b : ℕ) → is_space b ≡ true → in_tag b ≡ go mode.Tag
in_tag_spaced b h = ap (λ t. if t then doing (act.AddsToWord b) mode.AttributeName else tag b) (space_no_letter b h) ∙ tag_spaced b h

record TagMode (m : Mode) : Type 0 where
  spaced : (n : Notes) → Spaced m mode.Tag n
  slashed : (n : Notes) (line : ℕ) → decide m n line 0x2F ≡ go mode.Slash
  greater : (n : Notes) (line : ℕ) → decide m n line 0x3E ≡ go mode.Between

tag_name : TagMode mode.Name
tag_name = record {
  spaced = λ n. record {
    enters = λ line b h. ap (λ t. if t then doing (act.AddsToName b) mode.Name else tag b) (space_no_name b h) ∙ tag_spaced b h;
    stays = λ line. in_tag_spaced;
  };
  slashed = λ n line. refl;
  greater = λ n line. refl;
}

tag_tag : TagMode mode.Tag
tag_tag = record { spaced = λ n. record { enters = λ line. in_tag_spaced; stays = λ line. in_tag_spaced }; slashed = λ n line. refl; greater = λ n line. refl }

tag_value : TagMode mode.BehindValue
tag_value = record { spaced = λ n. record { enters = λ line. tag_spaced; stays = λ line. in_tag_spaced }; slashed = λ n line. refl; greater = λ n line. refl }

gap_on : (m : Mode) → TagMode m → (n : Notes) (q : Parts) {ts rest : List Placed} → Gap ts rest → fed (at m n q) ts ≡ fed (at mode.Tag n q) rest
gap_on m t n q (gap {p} {rest = rest} d h) = let s = t.spaced n in spaces_to m mode.Tag n s q p rest (go mode.Tag) (s.enters p.line p.byte h) (s.stays p.line p.byte h) d

-- ---- names

name_on : (w : List ℕ) (ts rest : List Placed) → list_all is_name_byte w ≡ true → Stands w ts rest → (x : List ℕ) (k : Stack) (seen : Bool) (deep : Option ℕ) (q : Parts)
    → fed (at mode.Name (notes (x ∷ k) seen deep) q) ts ≡ fed (at mode.Name (notes ((x ++ w) ∷ k) seen deep) q) rest
name_on [] ts rest a h x k seen deep q =
    ap (fed (at mode.Name (notes (x ∷ k) seen deep) q)) h ∙ ap (λ y. fed (at mode.Name (notes (y ∷ k) seen deep) q) rest) (sym (append-nil x))
name_on (b ∷ w) ts rest a h x k seen deep q =
    let ab = both (is_name_byte b) (list_all is_name_byte w) a in
    byte_by mode.Name (notes (x ∷ k) seen deep) q b h.2 h.3
    ∙ ap (λ t. fed (moved (notes (x ∷ k) seen deep) q (if t then doing (act.AddsToName b) mode.Name else tag b)) h.1) ab.0
    ∙ name_on w h.1 rest ab.1 h.4 (x ++ b ∷ []) k seen deep q
    ∙ ap (λ y. fed (at mode.Name (notes (y ∷ k) seen deep) q) rest) (append_assoc x (b ∷ []) w)

word_on : (w : List ℕ) (ts rest : List Placed) → list_all is_name_byte w ≡ true → Stands w ts rest → (x : List ℕ) (n : Notes) (fs : List Frame) (value : List ℕ) (top : Option Node)
    → fed (at mode.AttributeName n (parts fs x value top)) ts ≡ fed (at mode.AttributeName n (parts fs (x ++ w) value top)) rest
word_on [] ts rest a h x n fs value top =
    ap (fed (at mode.AttributeName n (parts fs x value top))) h ∙ ap (λ y. fed (at mode.AttributeName n (parts fs y value top)) rest) (sym (append-nil x))
word_on (b ∷ w) ts rest a h x n fs value top =
    let ab = both (is_name_byte b) (list_all is_name_byte w) a in
    byte_by mode.AttributeName n (parts fs x value top) b h.2 h.3
    ∙ ap (λ t. fed (moved n (parts fs x value top) (if t then doing (act.AddsToWord b) mode.AttributeName else before_equals b)) h.1) ab.0
    ∙ word_on w h.1 rest ab.1 h.4 (x ++ b ∷ []) n fs value top
    ∙ ap (λ y. fed (at mode.AttributeName n (parts fs y value top)) rest) (append_assoc x (b ∷ []) w)

-- the rest of the name that closes an element
pub closing_on : (w read v : List ℕ) (ts us : List Placed) → w ≡ read ++ v → Stands v ts us → (k : Stack) (seen : Bool) (deep : Option ℕ) (q : Parts)
    → fed (at (mode.Closing (length read)) (notes (w ∷ k) seen deep) q) ts ≡ fed (at (mode.Closing (length w)) (notes (w ∷ k) seen deep) q) us
closing_on w read [] ts us e h k seen deep q =
    ap (fed (at (mode.Closing (length read)) (notes (w ∷ k) seen deep) q)) h
    ∙ ap (λ x. fed (at (mode.Closing (length x)) (notes (w ∷ k) seen deep) q) us) (sym (append-nil read) ∙ sym e)
closing_on w read (b ∷ v) ts us e h k seen deep q =
    let n = notes (w ∷ k) seen deep in
    byte_by (mode.Closing (length read)) n q b h.2 h.3
    ∙ ap (λ o. fed (moved n q (closing_next (length read) b o)) h.1) (ap (λ x. slice_get x (length read)) e ∙ at_seam read v b)
    ∙ ap (λ t. fed (moved n q (when t (go (mode.Closing (suc (length read)))))) h.1) (itself b)
    ∙ ap (λ r. fed (at (mode.Closing r) n q) h.1) (sym (length_push read b))
    ∙ closing_on w (read ++ b ∷ []) v h.1 us (e ∙ sym (append_assoc read (b ∷ []) v)) h.4 k seen deep q

-- ---- comments

abbrev count : Bool → ℕ
count false = 0
count true = 1

-- behind a byte of a comment
comment_next : (hyphen : Bool) (b : ℕ) (w : List ℕ) (t : Bool) → (b == 0x2D) ≡ t → has_double (b ∷ w) ≡ false → (hyphen && (b == 0x2D)) ≡ false → (n : Notes) (q : Parts) (ts : List Placed) (goal : Option State)
    → ((h : Bool) → has_double w ≡ false → (h && begins_with 0x2D w) ≡ false → fed (at (mode.Comment (count h)) n q) ts ≡ goal)
    → fed (moved n q (in_comment (count hyphen) b)) ts ≡ goal
comment_next false b w true e d s n q ts goal f =
    let p = or_false (b == 0x2D && begins_with 0x2D w) (has_double w) d in
    ap (λ t. fed (moved n q (if t then go (mode.Comment 1) else go (mode.Comment 0))) ts) e
    ∙ f true p.1 (ap (λ t. t && begins_with 0x2D w) (sym e) ∙ p.0)
comment_next true b w true e d s n q ts goal f = let r : (b == 0x2D) ≡ false = s in cc
comment_next false b w false e d s n q ts goal f =
    let p = or_false (b == 0x2D && begins_with 0x2D w) (has_double w) d in
    ap (λ t. fed (moved n q (if t then go (mode.Comment 1) else go (mode.Comment 0))) ts) e
    ∙ f false p.1 refl
comment_next true b w false e d s n q ts goal f =
    let p = or_false (b == 0x2D && begins_with 0x2D w) (has_double w) d in
    ap (λ t. fed (moved n q (if t then go (mode.Comment 2) else go (mode.Comment 0))) ts) e
    ∙ f false p.1 refl

content_on : (w : List ℕ) (ts us rest : List Placed) (hyphen : Bool) → has_double w ≡ false → (hyphen && begins_with 0x2D w) ≡ false → Stands w ts us → Stands (codes "-->") us rest → (n : Notes) (q : Parts)
    → fed (at (mode.Comment (count hyphen)) n q) ts ≡ fed (at mode.Between n q) rest
content_on [] ts us rest false d s h e n q =
    ap (fed (at (mode.Comment 0) n q)) h
    ∙ byte_by (mode.Comment 0) n q 0x2D e.2 e.3
    ∙ byte_by (mode.Comment 1) n q 0x2D e.4.2 e.4.3
    ∙ byte_by (mode.Comment 2) n q 0x3E e.4.4.2 e.4.4.3
    ∙ ap (fed (at mode.Between n q)) e.4.4.4
content_on [] ts us rest true d s h e n q =
    ap (fed (at (mode.Comment 1) n q)) h
    ∙ byte_by (mode.Comment 1) n q 0x2D e.2 e.3
    ∙ byte_by (mode.Comment 2) n q 0x2D e.4.2 e.4.3
    ∙ byte_by (mode.Comment 3) n q 0x3E e.4.4.2 e.4.4.3
    ∙ ap (fed (at mode.Between n q)) e.4.4.4
content_on (b ∷ w) ts us rest hyphen d s h e n q =
    byte_by (mode.Comment (count hyphen)) n q b h.2 h.3
    ∙ comment_next hyphen b w (b == 0x2D) refl d s n q h.1 (fed (at mode.Between n q) rest) (λ x dx sx. content_on w h.1 us rest x dx sx h.4 e n q)

-- ---- outside of elements' tags

-- a mode in which a comment or an element may come
record Front (m : Mode) : Type 0 where
  first : Bool
  spaced : (n : Notes) (line b : ℕ) → is_space b ≡ true → decide m n line b ≡ go mode.Between
  lessed : (n : Notes) (line : ℕ) → decide m n line 0x3C ≡ go (mode.Less line first)

front_start : Front mode.Start
front_start = record {
  first = true;
  spaced = λ n line b h. ap (λ t. if t then go mode.Between else (if b == 0x3C then go (mode.Less line true) else when (b == 0xEF) (go (mode.Fixed fixed.Mark 1)))) h;
  lessed = λ n line. refl;
}

front_marked : Front mode.Marked
front_marked = record {
  first = true;
  spaced = λ n line b h. ap (λ t. if t then go mode.Between else when (b == 0x3C) (go (mode.Less line true))) h;
  lessed = λ n line. refl;
}

front_between : Front mode.Between
front_between = record {
  first = false;
  spaced = λ n line b h. ap (λ t. if t then go mode.Between else when (b == 0x3C) (go (mode.Less line false))) h;
  lessed = λ n line. refl;
}

less_on : (m : Mode) (f : Front m) (n : Notes) (q : Parts) {ts us : List Placed} {p : Placed} → ts ≡ p ∷ us → p.byte ≡ 0x3C → fed (at m n q) ts ≡ fed (at (mode.Less p.line f.first) n q) us
less_on m f n q {us = us} {p = p} e h = byte_by m n q 0x3C e h ∙ ap (λ v. fed (moved n q v) us) (f.lessed n p.line)

comment_on : (m : Mode) (f : Front m) {ts rest : List Placed} → Comment ts rest → (n : Notes) (q : Parts) → fed (at m n q) ts ≡ fed (at mode.Between n q) rest
comment_on m f (comment content {us = us} {vs = vs} {rest = rest} a d b c) n q =
    less_on m f n q a.2 a.3
    ∙ byte_by (mode.Less a.0.line f.first) n q 0x21 a.4.2 a.4.3
    ∙ byte_by (mode.Fixed fixed.Comment 2) n q 0x2D a.4.4.2 a.4.4.3
    ∙ byte_by (mode.Fixed fixed.Comment 3) n q 0x2D a.4.4.4.2 a.4.4.4.3
    ∙ ap (fed (at (mode.Comment 0) n q)) a.4.4.4.4
    ∙ content_on content us vs rest false d refl b c n q

-- what is fed from one mode goes on from another
record Goes (m : Mode) (n : Notes) (q : Parts) (ts rest : List Placed) : Type 0 where
  mode_ : Mode
  front_ : Front mode_
  goes : fed (at m n q) ts ≡ fed (at mode_ n q) rest

misc_on : {ts rest : List Placed} → Misc ts rest → (m : Mode) (f : Front m) (n : Notes) (q : Parts) → Goes m n q ts rest
misc_on no_misc m f n q = record { mode_ = m; front_ = f; goes = refl }
misc_on (misc_space {p} {rest = rest} d h) m f n q =
    let r = misc_on d m f n q in
    record { mode_ = mode.Between; front_ = front_between; goes = r.goes ∙ move_by r.mode_ n q p rest (go mode.Between) (r.front_.spaced n p.line p.byte h) }
misc_on (misc_comment d c) m f n q =
    let r = misc_on d m f n q in
    record { mode_ = mode.Between; front_ = front_between; goes = r.goes ∙ comment_on r.mode_ r.front_ c n q }

-- ---- what may stand at a text's front

declared_on : (w : List ℕ) (ts us : List Placed) → list_all is_declared w ≡ true → Stands w ts us → (n : Notes) (q : Parts) → fed (at mode.Declaration n q) ts ≡ fed (at mode.Declaration n q) us
declared_on [] ts us a h n q = ap (fed (at mode.Declaration n q)) h
declared_on (b ∷ w) ts us a h n q =
    let ab = both (is_declared b) (list_all is_declared w) a in
    byte_by mode.Declaration n q b h.2 h.3
    ∙ ap (λ t. fed (moved n q (if t then go mode.Declaration else when (b == 0x3F) (go mode.DeclarationEnds))) h.1) ab.0
    ∙ declared_on w h.1 us ab.1 h.4 n q

declaration_on : (m : Mode) (f : Front m) → f.first ≡ true → {ts rest : List Placed} → Declaration ts rest → (n : Notes) (q : Parts) → Goes m n q ts rest
declaration_on m f t no_declaration n q = record { mode_ = m; front_ = f; goes = refl }
declaration_on m f t (declaration content {us = us} {vs = vs} a d b c) n q = record {
  mode_ = mode.Between;
  front_ = front_between;
  goes = less_on m f n q a.2 a.3
      ∙ ap (λ x. fed (at (mode.Less a.0.line x) n q) a.1) t
      ∙ byte_by (mode.Less a.0.line true) n q 0x3F a.4.2 a.4.3
      ∙ byte_by (mode.Fixed fixed.Declaration 2) n q 0x78 a.4.4.2 a.4.4.3
      ∙ byte_by (mode.Fixed fixed.Declaration 3) n q 0x6D a.4.4.4.2 a.4.4.4.3
      ∙ byte_by (mode.Fixed fixed.Declaration 4) n q 0x6C a.4.4.4.4.2 a.4.4.4.4.3
      ∙ ap (fed (at mode.Declaration n q)) a.4.4.4.4.4
      ∙ declared_on content us vs d b n q
      ∙ byte_by mode.Declaration n q 0x3F c.2 c.3
      ∙ byte_by mode.DeclarationEnds n q 0x3E c.4.2 c.4.3
      ∙ ap (fed (at mode.Between n q)) c.4.4;
}

-- ---- values

entity_on : (e : Entity) (ts rest : List Placed) → Stands (entity_text e) ts rest → (quote : ℕ) (n : Notes) (fs : List Frame) (word value : List ℕ) (top : Option Node)
    → fed (at (mode.Value quote) n (parts fs word value top)) ts ≡ fed (at (mode.Value quote) n (parts fs word (value ++ character e ∷ []) top)) rest
entity_on entities.Less ts rest h quote n fs word value top =
    let q = parts fs word value top in
    let w = fixed.Entity quote entities.Less in
    byte_by (mode.Value quote) n q 0x26 h.2 h.3
    ∙ byte_by (mode.Ampersand quote) n q 0x6C h.4.2 h.4.3
    ∙ byte_by (mode.Fixed w 2) n q 0x74 h.4.4.2 h.4.4.3
    ∙ byte_by (mode.Fixed w 3) n q 0x3B h.4.4.4.2 h.4.4.4.3
    ∙ ap (fed (at (mode.Value quote) n (parts fs word (value ++ 0x3C ∷ []) top))) h.4.4.4.4
entity_on entities.Greater ts rest h quote n fs word value top =
    let q = parts fs word value top in
    let w = fixed.Entity quote entities.Greater in
    byte_by (mode.Value quote) n q 0x26 h.2 h.3
    ∙ byte_by (mode.Ampersand quote) n q 0x67 h.4.2 h.4.3
    ∙ byte_by (mode.Fixed w 2) n q 0x74 h.4.4.2 h.4.4.3
    ∙ byte_by (mode.Fixed w 3) n q 0x3B h.4.4.4.2 h.4.4.4.3
    ∙ ap (fed (at (mode.Value quote) n (parts fs word (value ++ 0x3E ∷ []) top))) h.4.4.4.4
entity_on entities.Ampersand ts rest h quote n fs word value top =
    let q = parts fs word value top in
    let w = fixed.Entity quote entities.Ampersand in
    byte_by (mode.Value quote) n q 0x26 h.2 h.3
    ∙ byte_by (mode.Ampersand quote) n q 0x61 h.4.2 h.4.3
    ∙ byte_by (mode.AmpersandA quote) n q 0x6D h.4.4.2 h.4.4.3
    ∙ byte_by (mode.Fixed w 3) n q 0x70 h.4.4.4.2 h.4.4.4.3
    ∙ byte_by (mode.Fixed w 4) n q 0x3B h.4.4.4.4.2 h.4.4.4.4.3
    ∙ ap (fed (at (mode.Value quote) n (parts fs word (value ++ 0x26 ∷ []) top))) h.4.4.4.4.4
entity_on entities.Quote ts rest h quote n fs word value top =
    let q = parts fs word value top in
    let w = fixed.Entity quote entities.Quote in
    byte_by (mode.Value quote) n q 0x26 h.2 h.3
    ∙ byte_by (mode.Ampersand quote) n q 0x71 h.4.2 h.4.3
    ∙ byte_by (mode.Fixed w 2) n q 0x75 h.4.4.2 h.4.4.3
    ∙ byte_by (mode.Fixed w 3) n q 0x6F h.4.4.4.2 h.4.4.4.3
    ∙ byte_by (mode.Fixed w 4) n q 0x74 h.4.4.4.4.2 h.4.4.4.4.3
    ∙ byte_by (mode.Fixed w 5) n q 0x3B h.4.4.4.4.4.2 h.4.4.4.4.4.3
    ∙ ap (fed (at (mode.Value quote) n (parts fs word (value ++ 0x22 ∷ []) top))) h.4.4.4.4.4.4
entity_on entities.Apostrophe ts rest h quote n fs word value top =
    let q = parts fs word value top in
    let w = fixed.Entity quote entities.Apostrophe in
    byte_by (mode.Value quote) n q 0x26 h.2 h.3
    ∙ byte_by (mode.Ampersand quote) n q 0x61 h.4.2 h.4.3
    ∙ byte_by (mode.AmpersandA quote) n q 0x70 h.4.4.2 h.4.4.3
    ∙ byte_by (mode.Fixed w 3) n q 0x6F h.4.4.4.2 h.4.4.4.3
    ∙ byte_by (mode.Fixed w 4) n q 0x73 h.4.4.4.4.2 h.4.4.4.4.3
    ∙ byte_by (mode.Fixed w 5) n q 0x3B h.4.4.4.4.4.2 h.4.4.4.4.4.3
    ∙ ap (fed (at (mode.Value quote) n (parts fs word (value ++ 0x27 ∷ []) top))) h.4.4.4.4.4.4

chars_on : {quote : ℕ} {value : List ℕ} {ts rest : List Placed} → Chars quote value ts rest → (n : Notes) (fs : List Frame) (word : List ℕ) (top : Option Node)
    → fed (at (mode.Value quote) n (parts fs word [] top)) ts ≡ fed (at (mode.Value quote) n (parts fs word value top)) rest
chars_on no_char n fs word top = refl
chars_on {quote} (char {value} {p} {rest = rest} d h) n fs word top =
    chars_on d n fs word top
    ∙ ap (λ t. fed (moved n (parts fs word value top) (if t then doing (act.AddsToValue (as_space p.byte)) (mode.Value quote) else (if p.byte == 0x26 then go (mode.Ampersand quote) else when (p.byte == quote) (doing act.EndsAttribute mode.BehindValue)))) rest) h
chars_on {quote} (entity {value} e {us = us} {rest = rest} d h) n fs word top = chars_on d n fs word top ∙ entity_on e us rest h quote n fs word value top

-- ---- attributes

space_equals : (n : Notes) → Spaced mode.AttributeName mode.BeforeEquals n
space_equals n = record {
  enters = λ line b h. ap (λ t. if t then doing (act.AddsToWord b) mode.AttributeName else before_equals b) (space_no_name b h) ∙ ap (λ t. if t then go mode.BeforeEquals else when (b == 0x3D) (go mode.AfterEquals)) h;
  stays = λ line b h. ap (λ t. if t then go mode.BeforeEquals else when (b == 0x3D) (go mode.AfterEquals)) h;
}

after_spaced : (b : ℕ) → is_space b ≡ true → after_equals b ≡ go mode.AfterEquals
after_spaced b h = ap (λ t. if t then go mode.AfterEquals else (if b == 0x22 then go (mode.Value 0x22) else when (b == 0x27) (go (mode.Value 0x27)))) h

space_after : (n : Notes) → Spaced mode.AfterEquals mode.AfterEquals n
space_after n = record { enters = λ line. after_spaced; stays = λ line. after_spaced }

quote_opens : {quote : ℕ} → Quote quote → (n : Notes) (line : ℕ) → decide mode.AfterEquals n line quote ≡ go (mode.Value quote)
quote_opens double n line = refl
quote_opens single n line = refl

pub quote_closes : {quote : ℕ} → Quote quote → (n : Notes) (line : ℕ) → decide (mode.Value quote) n line quote ≡ doing act.EndsAttribute mode.BehindValue
quote_closes double n line = refl
quote_closes single n line = refl

attribute_on : {a : Attribute} {ts rest : List Placed} → OneAttribute a ts rest → (n : Notes) (line : ℕ) (attrs : List Attribute) (children : List Node) (fs : List Frame) (top : Option Node)
    → fed (at mode.Tag n (parts (frame line attrs children ∷ fs) [] [] top)) ts ≡ fed (at mode.BehindValue n (parts (frame line (attrs ++ a ∷ []) children ∷ fs) [] [] top)) rest
attribute_on (one_attribute {name = []} i h s e t o qu c z) n line attrs children fs top = cc
attribute_on (one_attribute {name = b ∷ w} {value} {quote} {equals} {open_} {close_} {us = us} {vs = vs} {ws = ws} {rest = rest} i h s e t o qu c z) n line attrs children fs top =
    let f = frame line attrs children ∷ fs in
    let lw = both (is_letter b) (list_all is_name_byte w) i in
    let q0 = parts f [] [] top in
    let q1 = parts f (b ∷ w) [] top in
    let q2 = parts f (b ∷ w) value top in
    byte_by mode.Tag n q0 b h.2 h.3
    ∙ ap (λ x. fed (moved n q0 (if x then doing (act.AddsToWord b) mode.AttributeName else tag b)) h.1) lw.0
    ∙ word_on w h.1 us lw.1 h.4 (b ∷ []) n f [] top
    ∙ spaces_to mode.AttributeName mode.BeforeEquals n (space_equals n) q1 equals vs (go mode.AfterEquals) (ap (decide mode.AttributeName n equals.line) e) (ap (decide mode.BeforeEquals n equals.line) e) s
    ∙ spaces_to mode.AfterEquals mode.AfterEquals n (space_after n) q1 open_ ws (go (mode.Value quote)) (ap (decide mode.AfterEquals n open_.line) o ∙ quote_opens qu n open_.line) (ap (decide mode.AfterEquals n open_.line) o ∙ quote_opens qu n open_.line) t
    ∙ chars_on c n f (b ∷ w) top
    ∙ move_by (mode.Value quote) n q2 close_ rest (doing act.EndsAttribute mode.BehindValue) (ap (decide (mode.Value quote) n close_.line) z ∙ quote_closes qu n close_.line)

record InTag (n : Notes) (q q' : Parts) (m : Mode) (ts rest : List Placed) : Type 0 where
  mode_ : Mode
  tag_ : TagMode mode_
  goes : fed (at m n q) ts ≡ fed (at mode_ n q') rest

attributes_on : {attrs : List Attribute} {ts rest : List Placed} → Attributes attrs ts rest → (n : Notes) (line : ℕ) (fs : List Frame) (top : Option Node)
    → InTag n (parts (frame line [] [] ∷ fs) [] [] top) (parts (frame line attrs [] ∷ fs) [] [] top) mode.Name ts rest
attributes_on no_attribute n line fs top = record { mode_ = mode.Name; tag_ = tag_name; goes = refl }
attributes_on (attribute {attrs} d g a) n line fs top =
    let r = attributes_on d n line fs top in
    record {
      mode_ = mode.BehindValue;
      tag_ = tag_value;
      goes = r.goes ∙ gap_on r.mode_ r.tag_ n (parts (frame line attrs [] ∷ fs) [] [] top) g ∙ attribute_on a n line attrs [] fs top;
    }

-- ---- elements

opens_in : (k : Stack) (line b : ℕ) → opens line (place_in k false) b ≡ doing (act.Opens line b) mode.Name
opens_in [] line b = refl
opens_in (w ∷ k) line b = refl

-- a tag that begins an element, up to the byte that ends it
opening_on : {name : List ℕ} {attrs : List Attribute} {line : ℕ} {ts : List Placed} (p : Placed) (rest : List Placed) → Opening name attrs line ts (p ∷ rest) → (m : Mode) (f : Front m) (k : Stack) (deep : Option ℕ) (fs : List Frame) (top : Option Node) (v : Option Move)
    → ((x : Mode) → TagMode x → (n : Notes) → decide x n p.line p.byte ≡ v)
    → fed (at m (notes k false deep) (parts fs [] [] top)) ts
    ≡ fed (moved (notes (name ∷ k) false (earlier deep (if_deep (suc (length k)) line))) (parts (frame line attrs [] ∷ fs) [] [] top) v) rest
opening_on p rest d m f k deep fs top v ends = last d p rest refl v ends
  where
    last : {name : List ℕ} {attrs : List Attribute} {line : ℕ} {ts us : List Placed} → Opening name attrs line ts us → (p : Placed) (rest : List Placed) → us ≡ p ∷ rest → (v : Option Move)
        → ((x : Mode) → TagMode x → (n : Notes) → decide x n p.line p.byte ≡ v)
        → fed (at m (notes k false deep) (parts fs [] [] top)) ts
        ≡ fed (moved (notes (name ∷ k) false (earlier deep (if_deep (suc (length k)) line))) (parts (frame line attrs [] ∷ fs) [] [] top) v) rest
    last (opening {name = []} l i h a s) p rest e v ends = cc
    last (opening {name = b ∷ w} {attrs} {less} {ts = ts} {us = us} {vs = vs} l i h a s) p rest e v ends =
        let lw = both (is_letter b) (list_all is_name_byte w) i in
        let n0 = notes k false deep in
        let q0 = parts fs [] [] top in
        let deeper = earlier deep (if_deep (suc (length k)) less.line) in
        let n1 = notes ((b ∷ w) ∷ k) false deeper in
        let q1 = parts (frame less.line [] [] ∷ fs) [] [] top in
        let q2 = parts (frame less.line attrs [] ∷ fs) [] [] top in
        let r = attributes_on a n1 less.line fs top in
        less_on m f n0 q0 {us = ts} refl l
        ∙ byte_by (mode.Less less.line f.first) n0 q0 b h.2 h.3
        ∙ ap (λ x. fed (moved n0 q0 (if x then opens less.line (place_in k false) b else not_letter less.line f.first (place_in k false) b)) h.1) lw.0
        ∙ ap (λ x. fed (moved n0 q0 x) h.1) (opens_in k less.line b)
        ∙ name_on w h.1 us lw.1 h.4 (b ∷ []) k false deeper q1
        ∙ r.goes
        ∙ spaces_to r.mode_ mode.Tag n1 (r.tag_.spaced n1) q2 p rest v (ends r.mode_ r.tag_ n1) (ends mode.Tag tag_tag n1) (subst (Spaces vs) e s)

-- behind the whole name that closes an element
pub closed_next : (w : List ℕ) (b : ℕ) → closing_next (length w) b (slice_get w (length w)) ≡ ending b
closed_next w b = ap (closing_next (length w) b) (slice_get_past w (length w) (omega arith))

ending_spaced : (b : ℕ) → is_space b ≡ true → ending b ≡ go mode.Closed
ending_spaced b h = ap (λ t. if t then go mode.Closed else when (b == 0x3E) (doing act.Closes mode.Between)) h

space_closed : (w : List ℕ) (k : Stack) (seen : Bool) (deep : Option ℕ) → Spaced (mode.Closing (length w)) mode.Closed (notes (w ∷ k) seen deep)
space_closed w k seen deep = record { enters = λ line b h. closed_next w b ∙ ending_spaced b h; stays = λ line. ending_spaced }

mutual
  -- an element is put where it stands
  element_on : {x : Node} {ts rest : List Placed} → Element x ts rest → (m : Mode) (f : Front m) (k : Stack) (deep : Option ℕ) (fs : List Frame) (top : Option Node)
      → fed (at m (notes k false deep) (parts fs [] [] top)) ts
      ≡ fed (at mode.Between (notes k (is_empty k) (earlier deep (too_deep x (suc (length k))))) (put x [] [] top fs)) rest
  element_on (empty {name} {attrs} {line} {rest = rest} d h) m f k deep fs top =
      let deeper = earlier deep (if_deep (suc (length k)) line) in
      let n = notes (name ∷ k) false deeper in
      let q = parts (frame line attrs [] ∷ fs) [] [] top in
      opening_on h.0 h.1 (subst (Opening name attrs line _) h.2 d) m f k deep fs top (go mode.Slash) (λ x t n. ap (decide x n h.0.line) h.3 ∙ t.slashed n h.0.line)
      ∙ byte_by mode.Slash n q 0x3E h.4.2 h.4.3
      ∙ ap (λ o. fed (at mode.Between (notes k (is_empty k) o) (put (element_of name attrs [] line) [] [] top fs)) h.4.1)
      (sym (ap (earlier deep) (too_deep-element name attrs [] line (suc (length k)) ∙ earlier_none (if_deep (suc (length k)) line))))
      ∙ ap (fed (at mode.Between (notes k (is_empty k) (earlier deep (too_deep (element_of name attrs [] line) (suc (length k))))) (put (element_of name attrs [] line) [] [] top fs))) h.4.4
  element_on (nested {name} {attrs} {children} {line} {greater} {end_} {us = us} {ws = ws} {rest = rest} d g c h s e) m f k deep fs top =
      let depth = suc (length k) in
      let deeper = earlier deep (if_deep depth line) in
      let deepest = earlier deeper (any_too_deep children (suc depth)) in
      let n = notes (name ∷ k) false deepest in
      let q = parts (frame line attrs children ∷ fs) [] [] top in
      let x = element_of name attrs children line in
      opening_on greater us d m f k deep fs top (go mode.Between) (λ x t n. ap (decide x n greater.line) g ∙ t.greater n greater.line)
      ∙ inside_on c name k deeper line attrs fs top
      ∙ byte_by mode.Between n q 0x3C h.2 h.3
      ∙ byte_by (mode.Less h.0.line false) n q 0x2F h.4.2 h.4.3
      ∙ closing_on name [] name h.4.1 ws refl h.4.4 k false deepest q
      ∙ spaces_to (mode.Closing (length name)) mode.Closed n (space_closed name k false deepest) q end_ rest (doing act.Closes mode.Between) (closed_next name end_.byte ∙ ap ending e) (ap ending e) s
      ∙ ap (λ o. fed (at mode.Between (notes k (is_empty k) o) (put x [] [] top fs)) rest)
      (earlier_assoc deep (if_deep depth line) (any_too_deep children (suc depth)) ∙ sym (ap (earlier deep) (too_deep-element name attrs children line depth)))

  inside_on : {ns : List Node} {ts rest : List Placed} → Content ns ts rest → (name : List ℕ) (k : Stack) (deep : Option ℕ) (line : ℕ) (attrs : List Attribute) (fs : List Frame) (top : Option Node)
      → fed (at mode.Between (notes (name ∷ k) false deep) (parts (frame line attrs [] ∷ fs) [] [] top)) ts
      ≡ fed (at mode.Between (notes (name ∷ k) false (earlier deep (any_too_deep ns (suc (suc (length k)))))) (parts (frame line attrs ns ∷ fs) [] [] top)) rest
  inside_on (no_content {ts}) name k deep line attrs fs top =
      ap (λ o. fed (at mode.Between (notes (name ∷ k) false o) (parts (frame line attrs [] ∷ fs) [] [] top)) ts) (sym (earlier_none deep))
  inside_on (content_space {ns} {p} {rest = rest} d h) name k deep line attrs fs top =
      let n = notes (name ∷ k) false (earlier deep (any_too_deep ns (suc (suc (length k))))) in
      inside_on d name k deep line attrs fs top ∙ move_by mode.Between n (parts (frame line attrs ns ∷ fs) [] [] top) p rest (go mode.Between) (front_between.spaced n p.line p.byte h)
  inside_on (content_comment {ns} d c) name k deep line attrs fs top =
      let n = notes (name ∷ k) false (earlier deep (any_too_deep ns (suc (suc (length k))))) in
      inside_on d name k deep line attrs fs top ∙ comment_on mode.Between front_between c n (parts (frame line attrs ns ∷ fs) [] [] top)
  inside_on (content_element {ns} {n} {rest = rest} d x) name k deep line attrs fs top =
      let depth = suc (suc (length k)) in
      inside_on d name k deep line attrs fs top
      ∙ element_on x mode.Between front_between (name ∷ k) (earlier deep (any_too_deep ns depth)) (frame line attrs ns ∷ fs) top
      ∙ ap (λ o. fed (at mode.Between (notes (name ∷ k) false o) (parts (frame line attrs (ns ++ n ∷ []) ∷ fs) [] [] top)) rest)
      (earlier_assoc deep (any_too_deep ns depth) (too_deep n depth) ∙ sym (ap (earlier deep) (any_too_deep-push ns n depth)))

-- ---- whole texts

from_front : {n : Node} {us vs ws xs : List Placed} (m : Mode) (f : Front m) → f.first ≡ true → Declaration us vs → Misc vs ws → Element n ws xs → Misc xs []
    → fed (at m no_notes no_parts) us ≡ at mode.Between (notes [] true (too_deep n 1)) (parts [] [] [] (Some n))
from_front {n} m f t d c x e =
    let r = declaration_on m f t d no_notes no_parts in
    let s = misc_on c r.mode_ r.front_ no_notes no_parts in
    r.goes ∙ s.goes ∙ element_on x s.mode_ s.front_ [] None [] None
    ∙ end_on e (notes [] true (too_deep n 1)) (parts [] [] [] (Some n))
  where
    end_on : {ts us : List Placed} → Misc ts us → (n : Notes) (q : Parts) → fed (at mode.Between n q) ts ≡ fed (at mode.Between n q) us
    end_on no_misc n q = refl
    end_on (misc_space {p} {rest = rest} d h) n q = end_on d n q ∙ move_by mode.Between n q p rest (go mode.Between) (front_between.spaced n p.line p.byte h)
    end_on (misc_comment d c) n q = end_on d n q ∙ comment_on mode.Between front_between c n q

-- of a text of the grammar the machine makes its element, and the line of the first element that stands too deep
pub followed : {n : Node} {ts : List Placed} → Document n ts → fed (Some start) ts ≡ at mode.Between (notes [] true (too_deep n 1)) (parts [] [] [] (Some n))
unfolding front_start front_marked
followed (document no_mark d c x e) = from_front mode.Start front_start refl d c x e
followed (document (mark h) d c x e) =
    byte_by mode.Start no_notes no_parts 0xEF h.2 h.3
    ∙ byte_by (mode.Fixed fixed.Mark 1) no_notes no_parts 0xBB h.4.2 h.4.3
    ∙ byte_by (mode.Fixed fixed.Mark 2) no_notes no_parts 0xBF h.4.4.2 h.4.4.3
    ∙ ap (fed (at mode.Marked no_notes no_parts)) h.4.4.4
    ∙ from_front mode.Marked front_marked refl d c x e
