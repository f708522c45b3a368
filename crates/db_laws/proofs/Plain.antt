-- In a checked database a decoding is the one in which the data values of updates stand as they were evaluated.
use Rattle.std.specs.Prelude.{◌≡◌, ℕ, zero, suc, ◌<◌, Bool, true, false, not, if◌then◌else◌, List, [], ◌∷◌, ◌++◌, slice_get, bytes_eq, Option, Some, None}
use Rattle.std.proofs.Common.{refl, sym, ap, subst}
use Rattle.db_model.specs.declared.database.Database.{Database}
use Rattle.db_model.specs.declared.database.NamedBlock.{NamedBlock}
use Rattle.db_model.specs.declared.database.Protocol.{Protocol}
use Rattle.db_model.specs.declared.database.SumTemplate.{SumTemplate}
use Rattle.db_model.specs.declared.database.VarDecl.{VarDecl}
use Rattle.db_model.specs.declared.element.Element.{Element}
use Rattle.db_model.specs.declared.env.Frame.{Frame}
use Rattle.db_model.specs.declared.env.Way.{Way}
use Rattle.db_model.specs.declared.env.Way.TheVariants.{Next, Break, Continue, Chose, Stop}
use Rattle.db_model.specs.declared.limits.TheConstants.{MOST_NESTED, MOST_ENTERED, MOST_QUESTIONS, STAMP_END}
use Rattle.db_model.specs.declared.packet.Packet.{Packet}
use Rattle.db_model.specs.declared.tree.Node.{Node}
use Rattle.db_model.specs.declared.tree.Proto.{Proto}
use Rattle.db_model.specs.Chain.{elements_of, protocol_run, entered, is_at_end, proto_from, onward, follow, chain}
use Rattle.db_model.specs.Decoding.{start, payload, decoding, dec}
use Rattle.db_model.specs.Elements.{parts, block_of, included, list}
use Rattle.db_model.specs.Fitting.{session_fits}
use Rattle.db_model.specs.Folds.{ElementOf}
use Rattle.db_model.specs.Lines.{Lines, over, at_line, lines_of, lines_in}
use Rattle.db_model.specs.NameFaults.{own_41, block_names, protocol_41, fault_41, literal_is_unknown, item_41}
use Rattle.db_model.specs.Names.{Text, startproto, protocol_at}
use Rattle.db_model.specs.Numbering.{Counts, plus, a_block, none, counts_in, fields_in, blocks_in, field_names, BlockAt, block_from, block_at}
use Rattle.db_model.specs.Objection.{IsChecked}
use Rattle.db_model.specs.Proper.{Proper}
use Rattle.db_model.specs.Questions.{Asks, Gives, Asking, noted, play, Step}
use Rattle.db_model.specs.Runs.{Run}
use Rattle.db_model.specs.Session.{Session, ask}
use Rattle.db_model.specs.TypeFaults.{own_42, literal_is_wrong, own_47, fault_42, fault_47}
use Rattle.db_model.specs.Typed.{env_fits}
use Rattle.db_model.specs.Typing.{is_protocol, is_among}
use Rattle.db_model.specs.Forms.{if_there}
use Rattle.db_model.proofs.Accepted.{append_back, no_faults}
use Rattle.db_laws.specs.Laws.{UpdatesUnchanged}
use Rattle.db_laws.specs.Plain.{plain_parts, plain_block, plain_included, plain_list, plain_run, plain_chain, plain_decoding, plain_dec}
use Rattle.db_laws.proofs.Fitted.{fits_stay}
use Rattle.db_laws.proofs.Includes.{over_none}
use Rattle.db_laws.proofs.PlainElements.{AllAlike, each_alike, Faultless, fault_front, fault_back, element_alike}
use Rattle.db_laws.proofs.PlainRuns.{Alike, alike_then, gets_of, Fits, AlikeRuns, alike_leave, alike_block}
use Rattle.db_laws.proofs.ProperDecoding.{decoding_proper}
use Rattle.db_laws.proofs.Typed.{start_fits}

-- ---- a protocol

module _ (db : Database) (p : Protocol) where
  abbrev Clean : ((ElementOf Lines → Lines) → Lines) → Type 0
  Clean f = Faultless db (field_names p) (block_names p) f

  abbrev all_lines : List Element → (ElementOf Lines → Lines) → Lines
  all_lines xs own = over (lines_of own) xs

  abbrev body_lines : List NamedBlock → (ElementOf Lines → Lines) → Lines
  body_lines bs own = over (λ (b : NamedBlock). over (lines_of own) b.body) bs

  abbrev InBody : Option BlockAt → Type 0
  InBody None = Unit {0}
  InBody (Some b) = Clean (all_lines b.body)

  body_at : (at : Counts) (name : Text) (bs : List NamedBlock) → Clean (body_lines bs) → InBody (block_from at name bs)
  body_at at name [] h = tt
  body_at at name (b ∷ bs) h = by (bytes_eq name b.name) (body_at (plus (plus at a_block) (counts_in b.body)) name bs (fault_back db (field_names p) (block_names p) (all_lines b.body) (body_lines bs) h))
    where
      by : (c : Bool) → InBody (block_from (plus (plus at a_block) (counts_in b.body)) name bs) → InBody (if c then Some (record { before = at; body = b.body }) else block_from (plus (plus at a_block) (counts_in b.body)) name bs)
      by true ih = fault_front db (field_names p) (block_names p) (all_lines b.body) (body_lines bs) h
      by false ih = ih

  module _ (include other : Text → Run) (inc : (name : Text) → AlikeRuns db (include name) (other name)) where
    list_parts : (xs : List Element) → Clean (all_lines xs) → AllAlike db (field_names p) (block_names p) (parts db (field_names p) include xs) (plain_parts db (field_names p) other xs)
    list_parts [] h = tt
    list_parts (x ∷ xs) h = (
      refl,
      (
        element_alike db (field_names p) (block_names p) include other inc x (fault_front db (field_names p) (block_names p) (λ own. lines_of own x) (all_lines xs) h),
        list_parts xs (fault_back db (field_names p) (block_names p) (λ own. lines_of own x) (all_lines xs) h),
      ),
    )

    block_alike : (b : Option BlockAt) → InBody b → AlikeRuns db (block_of db p include b) (plain_block db p other b)
    block_alike None h = alike_leave db Next
    block_alike (Some b) h = alike_block db b.before.blocks _ _ (each_alike db (field_names p) (block_names p) _ _ (list_parts b.body h) (plus b.before a_block))

  module _ (bodies : (name : Text) → InBody (block_at p name)) where
    included_alike : (n : ℕ) (name : Text) → AlikeRuns db (included db p n name) (plain_included db p n name)
    included_alike zero name z e = (refl, e)
    included_alike (suc n) name z e = block_alike (included db p n) (plain_included db p n) (included_alike n) (block_at p name) (bodies name) z e

    within_alike : (xs : List Element) → Clean (all_lines xs) → (at : Counts) → AlikeRuns db (list db p xs at) (plain_list db p xs at)
    unfolding list
    within_alike xs h at = each_alike db (field_names p) (block_names p) _ _ (list_parts (included db p MOST_NESTED) (plain_included db p MOST_NESTED) (included_alike MOST_NESTED) xs h) at

-- ---- a checked database

clean_at : (db : Database) (q : ℕ) (p : Protocol) → IsChecked db → slice_get db.protocols q ≡ Some p → Clean db p (λ own. lines_in own p)
unfolding fault_41 fault_42 fault_47
clean_at db q p c g =
    let f = no_faults db c.accepted in
    let variables = over (λ (v : VarDecl). at_line v.line (literal_is_unknown db v.value)) db.variables in
    let templates = over (λ (t : SumTemplate). over (item_41 db) t.items) db.sum_templates in
    let protocols = over (protocol_41 db) db.protocols in
    let a = append_back templates protocols (append_back variables (templates ++ protocols) (append_back (at_line db.line (not (is_protocol db startproto))) (variables ++ (templates ++ protocols)) f.none_41)) in
    let wrong = over (λ (v : VarDecl). at_line v.line (literal_is_wrong db v.ty v.value)) db.variables in
    let typed = over (λ (x : Protocol). lines_in (own_42 db (field_names x)) x) db.protocols in
    record {
      names = append_back (at_line p.line (not (if_there (λ name. is_among name _) p.showsum))) (lines_in (own_41 db (field_names p) (block_names p)) p) (over_none (protocol_41 db) db.protocols q p a g);
      types = over_none (λ (x : Protocol). lines_in (own_42 db (field_names x)) x) db.protocols q p (append_back wrong typed f.none_42) g;
      tables = over_none (λ (x : Protocol). lines_in (own_47 db) x) db.protocols q p f.none_47 g;
    }

list_alike : (db : Database) (q : ℕ) (p : Protocol) → IsChecked db → slice_get db.protocols q ≡ Some p → (at : Counts) → AlikeRuns db (list db p (elements_of p) at) (plain_list db p (elements_of p) at)
list_alike db q p c g at =
    let h = clean_at db q p c g in
    within_alike db p
    (λ name. body_at db p (counts_in (fields_in p.format)) name (blocks_in p.format) (fault_back db (field_names p) (block_names p) (all_lines db p (elements_of p)) (body_lines db p (blocks_in p.format)) h))
    (elements_of p) (fault_front db (field_names p) (block_names p) (all_lines db p (elements_of p)) (body_lines db p (blocks_in p.format)) h) at

module _ (db : Database) (c : IsChecked db) where
  abbrev AlikeChains : Step Frame (List Proto) → Step Frame (List Proto) → Type 0
  AlikeChains p q = (z : Frame) → env_fits db z.env ≡ true → Alike db (Fits db {A = List Proto}) (p z) (q z)

  run_alike : (q : ℕ) (o : Option Protocol) → slice_get db.protocols q ≡ o → AlikeRuns db (protocol_run db o) (plain_run db o)
  run_alike q None g = alike_leave db Next
  run_alike q (Some p) g = list_alike db q p c g none

  onward_alike : (b : Bool) (n : ℕ) (go other : ℕ → Step Frame (List Proto)) → ((q : ℕ) → AlikeChains (go q) (other q)) → (number from q : ℕ) (nodes : List Node) → AlikeChains (onward b n go number from q nodes) (onward b n other number from q nodes)
  onward_alike true n go other h number from q nodes z e = (refl, e)
  onward_alike false zero go other h number from q nodes z e = (refl, e)
  onward_alike false (suc n) go other h number from q nodes z e =
      alike_then db (Fits db) (Fits db) (λ r. Gives (proto_from number from nodes z ∷ r.0, r.1)) (λ r. Gives (proto_from number from nodes z ∷ r.0, r.1)) (λ r m. (refl, m)) (go q z) (other q z) (h q z e)

  follow_alike : (w : Way) (n : ℕ) (go other : ℕ → Step Frame (List Proto)) → ((q : ℕ) → AlikeChains (go q) (other q)) → (number from : ℕ) (nodes : List Node) → AlikeChains (follow w n go number from nodes) (follow w n other number from nodes)
  follow_alike (Chose q) n go other h number from nodes z e = onward_alike (is_at_end z) n go other h number from q nodes z e
  follow_alike Next n go other h number from nodes z e = (refl, e)
  follow_alike Break n go other h number from nodes z e = (refl, e)
  follow_alike Continue n go other h number from nodes z e = (refl, e)
  follow_alike (Stop r) n go other h number from nodes z e = (refl, e)

  enters : (z : Frame) → env_fits db z.env ≡ true → env_fits db (entered z).env ≡ true
  unfolding env_fits
  enters z e = e

  chain_alike : (n q : ℕ) → AlikeChains (chain db n q) (plain_chain db n q)
  unfolding chain plain_chain
  chain_alike zero q z e = (refl, e)
  chain_alike (suc n) q z e =
      alike_then db (Fits db) (Fits db) (λ r. follow r.0.0 n (chain db n) q z.env.at r.0.1 r.1) (λ r. follow r.0.0 n (plain_chain db n) q z.env.at r.0.1 r.1)
      (λ r m. follow_alike r.0.0 n (chain db n) (plain_chain db n) (chain_alike n) q z.env.at r.0.1 r.1 m)
      (protocol_run db (slice_get db.protocols q) (entered z)) (plain_run db (slice_get db.protocols q) (entered z)) (run_alike q (slice_get db.protocols q) refl (entered z) (enters z e))

  abbrev AnyTree : List Proto → Type 0
  AnyTree t = Unit {0}

  decoding_alike : (p : Packet) → Alike db AnyTree (decoding db p) (plain_decoding db p)
  unfolding decoding plain_decoding
  decoding_alike p =
      alike_then db (Fits db) AnyTree (λ r. Gives (r.0 ++ payload r.1)) (λ r. Gives (r.0 ++ payload r.1)) (λ r m. (refl, tt))
      (chain db MOST_ENTERED (protocol_at db startproto) (start db p)) (plain_chain db MOST_ENTERED (protocol_at db startproto) (start db p)) (chain_alike MOST_ENTERED (protocol_at db startproto) (start db p) (start_fits db p c))

-- ---- over a session

-- what asks properly and alike is played alike from a session that fits
played_alike : {A : Type 0} (db : Database) (P : A → Type 0) (Q : A → ℕ → Type 0) (t n : ℕ) (x y : Asks A) (s : Session) → t < STAMP_END → Proper db Q n x → Alike db P x y → session_fits db s ≡ true → play db t y s ≡ play db t x s
played_alike db P Q t n (Gives a) (Gives b) s l h k f = ap (λ v. record { result = v; session = s; log = [] }) (sym k.0)
played_alike db P Q t n (Gives a) (Asking r m) s l h k f = absurd k
played_alike db P Q t n (Asking q o) (Gives b) s l h k f = absurd k
played_alike db P Q t zero (Asking q o) (Asking r m) s l h k f = absurd h
played_alike db P Q t (suc n) (Asking q o) (Asking r m) s l h k f =
    let a = (ask db s q t).0 in
    let w = (ask db s q t).1 in
    let y = fits_stay db s q t f h.0 l in
    subst (λ d. noted d (ask db s d t).0 (play db t (m (ask db s d t).0) (ask db s d t).1) ≡ noted q a (play db t (o a) w)) k.0
    (ap (noted q a) (played_alike db P Q t n (o a) (m a) w l (h.1 a) (k.1 a y.0) y.1))

pub updates_unchanged : UpdatesUnchanged
unfolding dec plain_dec
updates_unchanged = record {
  decoding = λ db p s c l f. played_alike db (AnyTree db c) _ p.stamp MOST_QUESTIONS (decoding db p) (plain_decoding db p) s l (decoding_proper db c p) (decoding_alike db c p) f;
  list = λ db q p at c g z e. gets_of db (Fits db) (list db p (elements_of p) at z) (plain_list db p (elements_of p) at z) (list_alike db q p c g at z e);
  chain = λ db n q c z e. gets_of db (Fits db) (chain db n q z) (plain_chain db n q z) (chain_alike db c n q z e);
}
