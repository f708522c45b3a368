-- The decoding of a packet asks properly in a checked database, and leaves a session that fits.
use Rattle.std.specs.Prelude.{◌≡◌, ℕ, zero, suc, ◌<◌, ◌≤◌, Bool, true, false, not, ◌&&◌, if◌then◌else◌, List, [], ◌∷◌, ◌++◌, map, length, slice_get, bytes_eq, Option, Some, None}
use Rattle.std.proofs.Common.{refl, ap, subst, ◌∙◌, arith}
use Rattle.std.specs.List.{list_any, list_all}
use Rattle.db_model.specs.declared.database.Database.{Database}
use Rattle.db_model.specs.declared.database.ElementList.{ElementList}
use Rattle.db_model.specs.declared.database.ExecuteCode.{ExecuteCode}
use Rattle.db_model.specs.declared.database.Format.{Format}
use Rattle.db_model.specs.declared.database.NamedBlock.{NamedBlock}
use Rattle.db_model.specs.declared.database.Protocol.{Protocol}
use Rattle.db_model.specs.declared.database.VarDecl.{VarDecl}
use Rattle.db_model.specs.declared.database.SumTemplate.{SumTemplate}
use Rattle.db_model.specs.declared.element.Element.{Element}
use Rattle.db_model.specs.declared.env.Frame.{Frame}
use Rattle.db_model.specs.declared.env.Way.{Way}
use Rattle.db_model.specs.declared.env.Way.TheVariants.{Next, Break, Continue, Chose, Stop}
use Rattle.db_model.specs.declared.limits.TheConstants.{MOST_NESTED, MOST_ENTERED, MOST_QUESTIONS, STAMP_END}
use Rattle.db_model.specs.declared.packet.Packet.{Packet}
use Rattle.db_model.specs.declared.tree.Node.{Node}
use Rattle.db_model.specs.declared.tree.Proto.{Proto}
use Rattle.db_model.specs.Chain.{before_in, after_in, elements_of, protocol_run, entered, is_at_end, onward, follow, chain}
use Rattle.db_model.specs.Decoding.{start, payload, decoding, dec}
use Rattle.db_model.specs.Elements.{parts, block_of, included, list_within, list}
use Rattle.db_model.specs.Fitting.{session_fits, log_fits}
use Rattle.db_model.specs.Forms.{if_there, is_text}
use Rattle.db_laws.specs.Laws.{InTime}
use Rattle.db_model.specs.Lines.{Lines, over, at_line, lines_of, lines_in}
use Rattle.db_model.specs.Name.{is_name}
use Rattle.db_model.specs.NameFaults.{fault_41, literal_is_unknown, item_41, protocol_41}
use Rattle.db_model.specs.Names.{Text, startproto, protocol_at}
use Rattle.db_model.specs.Numbering.{Counts, plus, a_block, none, counts_in, elements_in, fields_in, blocks_in, field_names, BlockAt, block_from, block_at}
use Rattle.db_model.specs.Objection.{IsChecked}
use Rattle.db_model.specs.Proper.{Proper, Leaves, TakesFrom, Any, AnyEnd, left_in_frame, PlaysProper}
use Rattle.db_model.specs.Questions.{Gives, Step, play}
use Rattle.db_model.specs.Runs.{Run}
use Rattle.db_model.specs.Serial.{decoded, state}
use Rattle.db_model.specs.Session.{Session}
use Rattle.db_model.specs.Shape.{ListKind, FieldList, CodeList, EncapList, stands, is_list, is_list_of, code_is_shaped, block_is_shaped, format_is_shaped, protocol_is_shaped, is_shaped, texts_are_shaped, variable_is_shaped, table_is_shaped, template_is_shaped, sections_are_shaped, sum_is_shaped}
use Rattle.db_model.specs.TypeFaults.{own_47, fault_47}
use Rattle.db_model.specs.Typing.{is_protocol}
use Rattle.db_model.proofs.Accepted.{append_front, append_back, no_faults}
use Rattle.db_laws.proofs.Fitted.{and_first, and_second, after_fits}
use Rattle.db_model.proofs.Play.{session_after}
use Rattle.db_laws.proofs.Includes.{over_none, line_none}
use Rattle.db_laws.proofs.Proper.{proper_then, proper_plays}
use Rattle.db_laws.proofs.ProperRuns.{IsProper, proper_leave, proper_block, AllParts, each_proper, element_proper}

-- ---- what stands where it may

-- an element that may stand in a list of some kind
abbrev StandsSomewhere : Element → Type 0
StandsSomewhere x = (kind : ListKind) × (looped : Bool) × (stands x kind looped ≡ true)

abbrev AllStand : List Element → Type 0
AllStand [] = Unit {0}
AllStand (x ∷ xs) = StandsSomewhere x × AllStand xs

stand_join : (xs ys : List Element) → AllStand xs → AllStand ys → AllStand (xs ++ ys)
stand_join [] ys h k = k
stand_join (x ∷ xs) ys h k = (h.0, stand_join xs ys h.1 k)

stand_list : (kind : ListKind) (xs : List Element) → is_list kind xs ≡ true → AllStand xs
stand_list kind [] h = tt
stand_list kind (x ∷ xs) h = ((kind, false, and_first (stands x kind false) (is_list kind xs) h), stand_list kind xs (and_second (stands x kind false) (is_list kind xs) h))

stand_in : (kind : ListKind) (l : Option ElementList) → is_list_of kind l ≡ true → AllStand (elements_in l)
stand_in kind None h = tt
stand_in kind (Some l) h = stand_list kind l.elements h

stand_before : (c : Option ExecuteCode) → if_there code_is_shaped c ≡ true → AllStand (before_in c)
stand_before None h = tt
stand_before (Some c) h = stand_in CodeList c.before (and_first (is_list_of CodeList c.before) (is_list_of CodeList c.after) h)

stand_after : (c : Option ExecuteCode) → if_there code_is_shaped c ≡ true → AllStand (after_in c)
stand_after None h = tt
stand_after (Some c) h = stand_in CodeList c.after (and_second (is_list_of CodeList c.before) (is_list_of CodeList c.after) h)

stand_fields : (f : Option Format) → if_there format_is_shaped f ≡ true → AllStand (fields_in f)
stand_fields None h = tt
stand_fields (Some f) h = stand_in FieldList f.fields (and_first (is_list_of FieldList f.fields) (list_all block_is_shaped f.blocks) h)

shaped_blocks : (f : Option Format) → if_there format_is_shaped f ≡ true → list_all block_is_shaped (blocks_in f) ≡ true
shaped_blocks None h = refl
shaped_blocks (Some f) h = and_second (is_list_of FieldList f.fields) (list_all block_is_shaped f.blocks) h

-- ---- a protocol without fault 47

all_at : {A : Type 0} (test : A → Bool) (xs : List A) (q : ℕ) (x : A) → list_all test xs ≡ true → slice_get xs q ≡ Some x → test x ≡ true
all_at test [] q x h g = (cc)
all_at test (y ∷ xs) zero x h g = let same : y ≡ x = cc in subst (λ z. test z ≡ true) same (and_first (test y) (list_all test xs) h)
all_at test (y ∷ xs) (suc q) x h g = all_at test xs q x (and_second (test y) (list_all test xs) h) g

module _ (db : Database) (o : 0 < length db.protocols) where
  abbrev lines : List Element → Lines
  lines xs = over (lines_of (own_47 db)) xs

  abbrev body_lines : NamedBlock → Lines
  body_lines b = lines b.body

  module _ (p : Protocol) where
    abbrev InBody : Option BlockAt → Type 0
    InBody None = Unit {0}
    InBody (Some b) = (lines b.body ≡ []) × AllStand b.body

    body_at : (at : Counts) (name : Text) (bs : List NamedBlock) → over body_lines bs ≡ [] → list_all block_is_shaped bs ≡ true → InBody (block_from at name bs)
    body_at at name [] h k = tt
    body_at at name (b ∷ bs) h k = by (bytes_eq name b.name) (body_at (plus (plus at a_block) (counts_in b.body)) name bs (append_back (body_lines b) (over body_lines bs) h) (and_second (block_is_shaped b) (list_all block_is_shaped bs) k))
      where
        by : (c : Bool) → InBody (block_from (plus (plus at a_block) (counts_in b.body)) name bs) → InBody (if c then Some (record { before = at; body = b.body }) else block_from (plus (plus at a_block) (counts_in b.body)) name bs)
        by true ih = (
          append_front (body_lines b) (over body_lines bs) h,
          stand_list FieldList b.body (and_second (if_there is_text b.longname) (is_list FieldList b.body) (and_second (is_name b.name) (if_there is_text b.longname && is_list FieldList b.body) (and_first (block_is_shaped b) (list_all block_is_shaped bs) k))),
        )
        by false ih = ih

    module _ (include : Text → Run) (inc : (name : Text) → IsProper db (include name)) where
      list_parts : (xs : List Element) → lines xs ≡ [] → AllStand xs → AllParts db (parts db (field_names p) include xs)
      list_parts [] h k = tt
      list_parts (x ∷ xs) h k = (
        element_proper db (field_names p) include inc o x k.0.0 k.0.1 (append_front (lines_of (own_47 db) x) (lines xs) h) k.0.2,
        list_parts xs (append_back (lines_of (own_47 db) x) (lines xs) h) k.1,
      )

      block_proper : (b : Option BlockAt) → InBody b → IsProper db (block_of db p include b)
      block_proper None h = proper_leave db Next
      block_proper (Some b) h = proper_block db b.before.blocks _ (each_proper db _ (list_parts b.body h.0 h.1) (plus b.before a_block))

    module _ (blocks : (name : Text) → InBody (block_at p name)) where
      included_proper : (n : ℕ) (name : Text) → IsProper db (included db p n name)
      included_proper zero name z = (refl, tt)
      included_proper (suc n) name z = block_proper (included db p n) (included_proper n) (block_at p name) (blocks name) z

      within_proper : (n : ℕ) (xs : List Element) → lines xs ≡ [] → AllStand xs → (at : Counts) → IsProper db (list_within db p n xs at)
      within_proper n xs h k at = each_proper db _ (list_parts (included db p n) (included_proper n) xs h k) at

-- ---- a checked database

is_there : (db : Database) → IsChecked db → 0 < length db.protocols
unfolding fault_41
is_there db c =
    by db.protocols (line_none db.line (not (is_protocol db startproto))
    (append_front (at_line db.line (not (is_protocol db startproto)))
    (over (λ (v : VarDecl). at_line v.line (literal_is_unknown db v.value)) db.variables ++ (over (λ (t : SumTemplate). over (item_41 db) t.items) db.sum_templates ++ over (protocol_41 db) db.protocols))
    (no_faults db c.accepted).none_41))
  where
    by : (ps : List Protocol) → not (list_any (bytes_eq startproto) (map (λ d. d.name) ps)) ≡ false → 0 < length ps
    by [] h = (cc)
    by (p ∷ ps) h = omega arith

shaped_at : (db : Database) (q : ℕ) (p : Protocol) → IsChecked db → slice_get db.protocols q ≡ Some p → protocol_is_shaped p ≡ true
unfolding is_shaped
shaped_at db q p c g =
    let a = list_all sum_is_shaped db.sum_templates && list_all protocol_is_shaped db.protocols in
    let b = if_there sections_are_shaped db.sum_struct && a in
    let d = list_all template_is_shaped db.show_templates && b in
    let e = list_all table_is_shaped db.tables && d in
    let f = list_all variable_is_shaped db.variables && e in
    all_at protocol_is_shaped db.protocols q p
    (and_second (list_all sum_is_shaped db.sum_templates) (list_all protocol_is_shaped db.protocols)
    (and_second (if_there sections_are_shaped db.sum_struct) a
    (and_second (list_all template_is_shaped db.show_templates) b
    (and_second (list_all table_is_shaped db.tables) d
    (and_second (list_all variable_is_shaped db.variables) e
    (and_second (texts_are_shaped db) f c.shaped)))))) g

-- the elements of a protocol of a checked database ask properly
pub list_proper : (db : Database) (q : ℕ) (p : Protocol) → IsChecked db → slice_get db.protocols q ≡ Some p → (at : Counts) → IsProper db (list db p (elements_of p) at)
unfolding fault_47 list
list_proper db q p c g at =
    let o = is_there db c in
    let s = shaped_at db q p c g in
    let s1 = and_second (is_name p.name) _ s in
    let s2 = and_second (if_there is_text p.longname) _ s1 in
    let s3 = and_second (if_there is_name p.showsum) _ s2 in
    let code = and_first (if_there code_is_shaped p.execute_code) _ s3 in
    let s4 = and_second (if_there code_is_shaped p.execute_code) _ s3 in
    let format = and_first (if_there format_is_shaped p.format) _ s4 in
    let encap = and_second (if_there format_is_shaped p.format) _ s4 in
    let l : lines_in (own_47 db) p ≡ [] = over_none (λ (x : Protocol). lines_in (own_47 db) x) db.protocols q p (no_faults db c.accepted).none_47 g in
    let own = append_front (lines db o (elements_of p)) (over (body_lines db o) (blocks_in p.format)) l in
    let bodies = append_back (lines db o (elements_of p)) (over (body_lines db o) (blocks_in p.format)) l in
    within_proper db o p (λ name. body_at db o p (counts_in (fields_in p.format)) name (blocks_in p.format) bodies (shaped_blocks p.format format)) MOST_NESTED (elements_of p) own
    (stand_join (before_in p.execute_code) _ (stand_before p.execute_code code)
    (stand_join (fields_in p.format) _ (stand_fields p.format format)
    (stand_join (after_in p.execute_code) _ (stand_after p.execute_code code) (stand_in EncapList p.encapsulation encap)))) at

module _ (db : Database) (c : IsChecked db) where
  abbrev Chains : Step Frame (List Proto) → Type 0
  Chains p = TakesFrom db left_in_frame Any p

  run_proper : (q : ℕ) (o : Option Protocol) → slice_get db.protocols q ≡ o → IsProper db (protocol_run db o)
  run_proper q None g = proper_leave db Next
  run_proper q (Some p) g = list_proper db q p c g none

  onward_proper : (b : Bool) (n : ℕ) (go : ℕ → Step Frame (List Proto)) → ((q : ℕ) → Chains (go q)) → (number from q : ℕ) (nodes : List Node) → Chains (onward b n go number from q nodes)
  onward_proper true n go h number from q nodes z = (refl, tt)
  onward_proper false zero go h number from q nodes z = (refl, tt)
  onward_proper false (suc n) go h number from q nodes z = proper_then db (Leaves left_in_frame Any) (Leaves left_in_frame Any) _ (λ r m k. k) z.env.questions (go q z) (h q z)

  follow_proper : (w : Way) (n : ℕ) (go : ℕ → Step Frame (List Proto)) → ((q : ℕ) → Chains (go q)) → (number from : ℕ) (nodes : List Node) → Chains (follow w n go number from nodes)
  follow_proper (Chose q) n go h number from nodes z = onward_proper (is_at_end z) n go h number from q nodes z
  follow_proper Next n go h number from nodes z = (refl, tt)
  follow_proper Break n go h number from nodes z = (refl, tt)
  follow_proper Continue n go h number from nodes z = (refl, tt)
  follow_proper (Stop r) n go h number from nodes z = (refl, tt)

  pub chain_proper : (n q : ℕ) → Chains (chain db n q)
  unfolding chain
  chain_proper zero q z = (refl, tt)
  chain_proper (suc n) q z =
      proper_then db (Leaves left_in_frame Any) (Leaves left_in_frame Any) (λ r. follow r.0.0 n (chain db n) q z.env.at r.0.1 r.1)
      (λ r m k. subst (λ x. Proper db (Leaves left_in_frame Any) x (follow r.0.0 n (chain db n) q z.env.at r.0.1 r.1)) k.0 (follow_proper r.0.0 n (chain db n) (chain_proper n) q z.env.at r.0.1 r.1))
      z.env.questions (protocol_run db (slice_get db.protocols q) (entered z)) (run_proper q (slice_get db.protocols q) refl (entered z))

  pub decoding_proper : (p : Packet) → Proper db AnyEnd MOST_QUESTIONS (decoding db p)
  unfolding decoding
  decoding_proper p =
      proper_then db (Leaves left_in_frame Any) AnyEnd (λ r. Gives (r.0 ++ payload r.1)) (λ r m k. tt)
      MOST_QUESTIONS (chain db MOST_ENTERED (protocol_at db startproto) (start db p)) (chain_proper MOST_ENTERED (protocol_at db startproto) (start db p))

  plays : (p : Packet) (s : Session) → PlaysProper db AnyEnd MOST_QUESTIONS (dec db p s)
  unfolding dec
  plays p s = proper_plays db AnyEnd p.stamp MOST_QUESTIONS (decoding db p) s (decoding_proper p)

  pub log_of_decoding : (p : Packet) (s : Session) → log_fits db (dec db p s).log ≡ true
  log_of_decoding p s = (plays p s).log

  pub most_of_decoding : (p : Packet) (s : Session) → length (dec db p s).log ≤ MOST_QUESTIONS
  most_of_decoding p s = omega (arith, (plays p s).taken)

  pub session_of_decoding : (p : Packet) (s : Session) → p.stamp < STAMP_END → session_fits db s ≡ true → session_fits db (dec db p s).session ≡ true
  unfolding dec
  session_of_decoding p s l h = ap (session_fits db) (session_after db p.stamp (decoding db p) s) ∙ after_fits db p.stamp (play db p.stamp (decoding db p) s).log s h (log_of_decoding p s) l

  -- ---- packets one by one

  pub log_of : (o : Option Packet) (s : Session) → log_fits db (decoded db o s).log ≡ true
  log_of None s = refl
  log_of (Some p) s = log_of_decoding p s

  pub most_of : (o : Option Packet) (s : Session) → length (decoded db o s).log ≤ MOST_QUESTIONS
  most_of None s = omega arith
  most_of (Some p) s = most_of_decoding p s

  session_of : (o : Option Packet) (s : Session) → ((p : Packet) → o ≡ Some p → p.stamp < STAMP_END) → session_fits db s ≡ true → session_fits db (decoded db o s).session ≡ true
  session_of None s l h = h
  session_of (Some p) s l h = session_of_decoding p s (l p refl) h

  pub state_fits : (s : Session) (ps : List Packet) → InTime ps → session_fits db s ≡ true → (k : ℕ) → session_fits db (state db s ps k) ≡ true
  state_fits s ps l h zero = h
  state_fits s ps l h (suc k) = session_of (slice_get ps k) (state db s ps k) (l k) (state_fits s ps l h k)
