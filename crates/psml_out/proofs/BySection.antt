-- What pieces add to one section, and to each of several.
use Rattle.std.specs.Prelude.{◌≡◌, ℕ, zero, suc, ◌+◌, ◌<◌, ◌==◌, Bool, true, false, if◌then◌else◌, List, [], ◌∷◌, ◌++◌, length, map, slice_get, take, unwrap_or, Option, Some, None}
use Rattle.std.specs.List.{flat_map, range_with_len}
use Rattle.std.specs.Option.{option_flatten, option_map}
use Rattle.std.proofs.Common.{refl, sym, ap, ◌∙◌, arith}
use Rattle.std.proofs.Math.ListN.{get_or}
use Rattle.std.proofs.lemmas.List.{take_more}
use Rattle.std.proofs.lemmas.List.FromFn.{map-range_with_len_more}
use Rattle.std.proofs.lemmas.Option.{slice_get-map, slice_get_past}
use Rattle.db_model.specs.declared.database.Database.{Database}
use Rattle.db_model.specs.declared.database.SectionDecl.{SectionDecl}
use Rattle.db_model.specs.declared.database.SumTemplate.{SumTemplate}
use Rattle.db_model.specs.declared.packet.Packet.{Packet}
use Rattle.db_model.specs.declared.tree.Proto.{Proto}
use Rattle.psml_out.specs.declared.summaries.Content.{Content}
use Rattle.psml_out.specs.declared.summaries.Piece.{Piece}
use Rattle.psml_out.specs.declared.summaries.Summaries.{Summaries}
use Rattle.psml_out.specs.Psml.{content_text, piece_text, proto_text}
use Rattle.psml_out.specs.Summaries.{sections, pieces_at, pieces_of, contents_for, by_section, template_pieces, template_sections, template_places, sections_at, contents_of, summaries_of}

-- ---- one piece more

or_not : (b : Bool) (c : Content) (xs ys : List Content) → (if b then c ∷ (xs ++ ys) else (xs ++ ys)) ≡ (if b then c ∷ xs else xs) ++ ys
or_not true c xs ys = refl
or_not false c xs ys = refl

contents-append : (section : ℕ) (ps qs : List Piece) → contents_for section (ps ++ qs) ≡ contents_for section ps ++ contents_for section qs
contents-append section [] qs = refl
contents-append section (p ∷ ps) qs =
    ap (λ (l : List Content). if p.section == section then p.content ∷ l else l) (contents-append section ps qs)
    ∙ or_not (p.section == section) p.content (contents_for section ps) (contents_for section qs)

pub one_more_piece : (section : ℕ) (ps : List Piece) (i : ℕ) (p : Piece) (before after : List Content) → i < length ps → p ≡ get_or ps i p → before ≡ contents_for section (take i ps) → after ≡ before ++ contents_for section (p ∷ []) → after ≡ contents_for section (take (i + 1) ps)
one_more_piece section ps i p before after within is e f =
    f ∙ ap (λ (l : List Content). l ++ contents_for section (p ∷ [])) e
    ∙ sym (ap (contents_for section) (take_more ps i p within ∙ ap (λ (q : Piece). take i ps ++ q ∷ []) (sym is)) ∙ contents-append section (take i ps) (p ∷ []))

-- one section more
pub one_more_section : (ps : List Piece) (n : ℕ) (before : List (List Content)) (contents : List Content) → before ≡ by_section n ps → contents ≡ contents_for n ps → before ++ contents ∷ [] ≡ by_section (n + 1) ps
one_more_section ps n before contents e f =
    ap (λ (l : List (List Content)). l ++ contents ∷ []) e ∙ ap (λ (c : List Content). by_section n ps ++ c ∷ []) f
    ∙ sym (map-range_with_len_more (λ (s : ℕ). contents_for s ps) 0 n n (omega arith))

-- ---- the texts are those of the pieces

one_text : (b : Bool) (f : Content → List ℕ) (c : Content) (cs : List Content) → flat_map f (if b then c ∷ cs else cs) ≡ (if b then f c else []) ++ flat_map f cs
one_text true f c cs = refl
one_text false f c cs = refl

texts_are : (db : Database) (packet : Packet) (section : ℕ) (p : Proto) (ps : List Piece) → flat_map (content_text db packet p) (contents_for section ps) ≡ flat_map (piece_text db packet section p) ps
unfolding piece_text
texts_are db packet section p [] = refl
texts_are db packet section p (q ∷ ps) =
    one_text (q.section == section) (content_text db packet p) q.content (contents_for section ps)
    ∙ ap (λ (l : List ℕ). (if q.section == section then content_text db packet p q.content else []) ++ l) (texts_are db packet section p ps)

-- ---- found by number

range_get : (a n s : ℕ) → s < n → slice_get (range_with_len a n) s ≡ Some (a + s)
range_get a zero s h = absurd (omega arith)
range_get a (suc n) zero h = ap (λ (k : ℕ). Some k) (omega arith)
range_get a (suc n) (suc s) h =
    let e : a + 1 + s ≡ a + suc s = omega arith in
    range_get (a + 1) n s (omega arith) ∙ ap (λ (k : ℕ). Some k) e

section_get : (n section : ℕ) (ps : List Piece) → section < n → unwrap_or (slice_get (by_section n ps) section) [] ≡ contents_for section ps
section_get n section ps h =
    let zero_more : 0 + section ≡ section = omega arith in
    ap (λ (o : Option (List Content)). unwrap_or o [])
    (slice_get-map (λ (s : ℕ). contents_for s ps) (range_with_len 0 n) section ∙ ap (λ (o : Option ℕ). option_map (λ (s : ℕ). contents_for s ps) o) (range_get 0 n section h ∙ ap (λ (k : ℕ). Some k) zero_more))

none_get : (section : ℕ) → unwrap_or (slice_get {X = List Content} [] section) [] ≡ []
none_get section = ap (λ (o : Option (List Content)). unwrap_or o []) (slice_get_past [] section (omega arith))

in_template : (declared : List SectionDecl) (o : Option SumTemplate) (section : ℕ) → section < length declared → unwrap_or (slice_get (unwrap_or (option_map (template_sections declared) o) []) section) [] ≡ contents_for section (unwrap_or (option_map (template_pieces declared) o) [])
in_template declared None section h = none_get section
in_template declared (Some t) section h = section_get (length declared) section (template_pieces declared t) h

at_place : (declared : List SectionDecl) (ts : List SumTemplate) (place : Option ℕ) (section : ℕ) → section < length declared → unwrap_or (slice_get (sections_at (map (template_sections declared) ts) place) section) [] ≡ contents_for section (pieces_at (map (template_pieces declared) ts) place)
at_place declared ts None section h = none_get section
at_place declared ts (Some k) section h =
    ap (λ (o : Option (List (List Content))). unwrap_or (slice_get (unwrap_or o []) section) []) (slice_get-map (template_sections declared) ts k)
    ∙ in_template declared (slice_get ts k) section h
    ∙ ap (λ (o : Option (List Piece)). contents_for section (unwrap_or o [])) (sym (slice_get-map (template_pieces declared) ts k))

found : (db : Database) (number section : ℕ) → section < length (sections db) → contents_of (summaries_of db) number section ≡ contents_for section (pieces_of db number)
unfolding summaries_of
found db number section h = at_place (sections db) db.sum_templates (option_flatten (slice_get (template_places db) number)) section h

-- what a protocol of the tree adds to a section
pub proto_found : (db : Database) (packet : Packet) (section : ℕ) (p : Proto) (summaries : Summaries) → summaries ≡ summaries_of db → section < length (sections db) → flat_map (content_text db packet p) (contents_of summaries p.number section) ≡ proto_text db packet section p
unfolding proto_text
proto_found db packet section p summaries own h =
    ap (λ (s : Summaries). flat_map (content_text db packet p) (contents_of s p.number section)) own
    ∙ ap (flat_map (content_text db packet p)) (found db p.number section h)
    ∙ texts_are db packet section p (pieces_of db p.number)
