-- What emitting a protocol wrote, and what its code is.
use Rattle.std.specs.Prelude.{◌≡◌, ℕ, ◌+◌, ◌-◌, ◌≤◌, List, [], ◌∷◌, ◌++◌, length, drop}
use Rattle.std.proofs.Common.{sym, ap, subst, ◌∙◌, arith, append_assoc, append-nil, length-append}
use Rattle.std.proofs.lemmas.List.{at_drop_all}
use Rattle.db_model.specs.declared.database.Database.{Database}
use Rattle.db_model.specs.declared.database.NamedBlock.{NamedBlock}
use Rattle.db_model.specs.declared.database.Protocol.{Protocol}
use Rattle.db_model.specs.declared.element.Element.{Element}
use Rattle.db_model.specs.Chain.{elements_of, before_in, after_in}
use Rattle.db_model.specs.Numbering.{Counts, none, plus, counts_of, counts_in, elements_in, fields_in, blocks_in}
use Rattle.pdl_code.specs.declared.code.BlockStart.{BlockStart}
use Rattle.pdl_code.specs.declared.code.Op.TheVariants.{End}
use Rattle.pdl_code.specs.declared.code.ProtoCode.{ProtoCode}
use Rattle.pdl_code.specs.declared.place.Place.{Place}
use Rattle.pdl_code.specs.declared.scope.Scope.{Scope}
use Rattle.pdl_code.specs.Coding.{Ops, ended, code_of, codes_in, block_codes, block_starts, own_code, proto_code, protocol_codes}
use Rattle.pdl_code.specs.Parts.{counts}
use Rattle.pdl_code.specs.Written.{WroteList, WroteOwn, WroteBlocks}
use Rattle.pdl_code.proofs.Elements.{plus_none, plus_assoc}

-- a list under another name
pub as_list : (s : Scope) (xs ys : List Element) (before after : Ops) (at to : Place) → xs ≡ ys → WroteList s xs before after at to → WroteList s ys before after at to
as_list s xs ys before after at to e w = subst (λ l. WroteList s l before after at to) e w

-- what is written to its end
pub ended_length : (ops code body more : Ops) → body ≡ ops ++ code → more ≡ body ++ End ∷ [] → length more ≡ length ops + length (ended code)
ended_length ops code body more e f =
    let l1 = ap length e ∙ length-append ops code in
    let l2 = ap length f ∙ length-append body (End ∷ []) in
    omega (arith, l1, l2, length-append code (End ∷ []))

-- two lists behind one another
two_lists : (db : Database) (q : ℕ) (xs ys : List Element) (n m : Counts) → m ≡ plus n (counts_in xs) → codes_in db q (xs ++ ys) n ≡ codes_in db q xs n ++ codes_in db q ys m
two_lists db q [] ys n m e = ap (λ k. codes_in db q ys k) (sym (e ∙ plus_none n))
two_lists db q (x ∷ xs) ys n m e =
    ap (λ l. code_of db q x n ++ l) (two_lists db q xs ys (plus n (counts_of x)) m (e ∙ sym (plus_assoc n (counts_of x) (counts_in xs))))
    ∙ sym (append_assoc (code_of db q x n) (codes_in db q xs (plus n (counts_of x))) (codes_in db q ys m))

flat : (o b f a e z : Ops) → ((((o ++ b) ++ f) ++ a) ++ e) ++ z ≡ o ++ ((b ++ (f ++ (a ++ e))) ++ z)
flat o b f a e z = simp append_assoc

pub own_wrote : (scope : Scope) (p : Protocol) (ops o1 o2 o3 o4 new : Ops) (start a b c d at : Place) → counts start ≡ none
    → WroteList scope (before_in p.execute_code) ops o1 start a
    → WroteList scope (fields_in p.format) o1 o2 a b
    → WroteList scope (after_in p.execute_code) o2 o3 b c
    → WroteList scope (elements_in p.encapsulation) o3 o4 c d
    → new ≡ o4 ++ End ∷ [] → at.fields ≡ b.fields - a.fields → at.blocks ≡ b.blocks - a.blocks → WroteOwn scope p ops new at
own_wrote scope p ops o1 o2 o3 o4 new start a b c d at s w1 w2 w3 w4 e f g =
    let db = scope.db.now in
    let q = scope.protocol in
    let B = before_in p.execute_code in
    let F = fields_in p.format in
    let A = after_in p.execute_code in
    let E = elements_in p.encapsulation in
    let bf : b.fields ≡ a.fields + (counts_in F).fields = ap (λ (k : Counts). k.fields) w2.place in
    let bb : b.blocks ≡ a.blocks + (counts_in F).blocks = ap (λ (k : Counts). k.blocks) w2.place in
    let pf : at.fields ≡ (counts_in F).fields = omega (arith, f, bf) in
    let pb : at.blocks ≡ (counts_in F).blocks = omega (arith, g, bb) in
    let all : codes_in db q (elements_of p) (counts start) ≡ codes_in db q B (counts start) ++ (codes_in db q F (counts a) ++ (codes_in db q A (counts b) ++ codes_in db q E (counts c))) =
    two_lists db q B (F ++ (A ++ E)) (counts start) (counts a) w1.place
    ∙ ap (λ l. codes_in db q B (counts start) ++ l) (two_lists db q F (A ++ E) (counts a) (counts b) w2.place
    ∙ ap (λ l. codes_in db q F (counts a) ++ l) (two_lists db q A E (counts b) (counts c) w3.place)) in
    let written : o4 ≡ (((ops ++ codes_in db q B (counts start)) ++ codes_in db q F (counts a)) ++ codes_in db q A (counts b)) ++ codes_in db q E (counts c) =
    w4.ops ∙ ap (λ l. l ++ codes_in db q E (counts c)) (w3.ops ∙ ap (λ l. l ++ codes_in db q A (counts b)) (w2.ops ∙ ap (λ l. l ++ codes_in db q F (counts a)) w1.ops)) in
    record {
      place = λ i. record { fields = pf i; blocks = pb i };
      ops =
          e ∙ ap (λ l. l ++ End ∷ []) written
          ∙ flat ops (codes_in db q B (counts start)) (codes_in db q F (counts a)) (codes_in db q A (counts b)) (codes_in db q E (counts c)) (End ∷ [])
          ∙ ap (λ l. ops ++ ended l) (sym all)
          ∙ ap (λ k. ops ++ ended (codes_in db q (elements_of p) k)) s;
    }

pub protocol_wrote : (s : Scope) (p : Protocol) (bs : List NamedBlock) (first mid now : Ops) (starts : List BlockStart) (at : Place) → first ≡ [] → bs ≡ blocks_in p.format
    → WroteOwn s p first mid at
    → WroteBlocks s bs at mid now starts
    → record { ops = now; blocks = starts } ≡ proto_code s.db.now s.protocol p
unfolding proto_code
protocol_wrote s p bs first mid now starts at e b w x =
    let db = s.db.now in
    let q = s.protocol in
    let m : mid ≡ own_code db q p = w.ops ∙ ap (λ l. l ++ own_code db q p) e in
    let os : now ≡ own_code db q p ++ block_codes db q (blocks_in p.format) (counts_in (fields_in p.format)) = x.ops ∙ (λ i. m i ++ block_codes db q (b i) (w.place i)) in
    let ss : starts ≡ block_starts db q (length (own_code db q p)) (blocks_in p.format) (counts_in (fields_in p.format)) = x.begin ∙ (λ i. block_starts db q (length (m i)) (b i) (w.place i)) in
    λ i. record { ops = os i; blocks = ss i }

-- ---- all protocols

pub all_written : (db : Database) (ps : List Protocol) (n : ℕ) (done all : List ProtoCode) → length ps ≤ n → done ++ protocol_codes db n (drop n ps) ≡ all → done ≡ all
all_written db ps n done all h e = sym (append-nil done) ∙ ap (λ l. done ++ l) (sym (at_drop_all (protocol_codes db n) ps n h)) ∙ e
