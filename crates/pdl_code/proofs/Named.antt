-- Named blocks: where they stand in the code of their protocol, and that an included one does what it does, through however many others.
use Rattle.std.specs.Prelude.{◌≡◌, ℕ, zero, suc, ◌+◌, Bool, true, false, if◌then◌else◌, nat_lt, List, [], ◌∷◌, ◌++◌, map, length, slice_get, bytes_eq, is_some, Option, Some, None}
use Rattle.std.proofs.Common.{refl, sym, ap, subst, ◌∙◌, arith}
use Rattle.std.proofs.lemmas.Bool.Decides.{nat_tests}
use Rattle.db_model.specs.declared.database.Database.{Database}
use Rattle.db_model.specs.declared.database.NamedBlock.{NamedBlock}
use Rattle.db_model.specs.declared.database.Protocol.{Protocol}
use Rattle.db_model.specs.BlockFaults.{includes_in}
use Rattle.db_model.specs.Elements.{parts, each, block_of, included}
use Rattle.db_model.specs.Lines.{over, lines_of}
use Rattle.db_model.specs.NameIndex.{block_number_at}
use Rattle.db_model.specs.Names.{Text, place}
use Rattle.db_model.specs.Numbering.{Counts, plus, a_block, counts_in, fields_in, blocks_in, names_at, field_names, BlockAt, block_from, block_at}
use Rattle.db_model.specs.NumberFaults.{own_43}
use Rattle.db_model.specs.Runs.{Run, next, block}
use Rattle.db_model.proofs.Accepted.{append_front, append_back}
use Rattle.db_laws.proofs.Includes.{Each, Fits, FitsBlock, Undeclared}
use Rattle.pdl_code.specs.declared.code.BlockStart.{BlockStart}
use Rattle.pdl_code.specs.declared.code.Op.TheVariants.{Include}
use Rattle.pdl_code.specs.declared.code.ProtoCode.{ProtoCode}
use Rattle.pdl_code.specs.Coding.{Ops, ended, block_count, include_code, include_of, codes_in, block_codes, block_starts, own_code, proto_code}
use Rattle.pdl_code.specs.Does.{Does}
use Rattle.pdl_code.proofs.Pieces.{Piece, nothing, to_end, one_include}
use Rattle.pdl_code.proofs.Standing.{HasAt, has_front, has_back, has_last}
use Rattle.pdl_code.proofs.Trees.{Included, of_list}

-- ---- the block of a number, and the block of a name

abbrev pub block_nth : Counts → List NamedBlock → ℕ → Option BlockAt
block_nth at [] n = None
block_nth at (b ∷ bs) zero = Some (record { before = at; body = b.body })
block_nth at (b ∷ bs) (suc n) = block_nth (plus (plus at a_block) (counts_in b.body)) bs n

block_found : (at : Counts) (name : Text) (bs : List NamedBlock) → block_from at name bs ≡ block_nth at bs (place name (map (λ (b : NamedBlock). b.name) bs))
block_found at name [] = refl
block_found at name (b ∷ bs) = by (bytes_eq name b.name) (block_found (plus (plus at a_block) (counts_in b.body)) name bs)
  where
    n : ℕ
    n = place name (map (λ (b : NamedBlock). b.name) bs)

    later : Counts
    later = plus (plus at a_block) (counts_in b.body)

    by : (t : Bool) → block_from later name bs ≡ block_nth later bs n → (if t then Some (record { before = at; body = b.body }) else block_from later name bs) ≡ block_nth at (b ∷ bs) (if t then zero else suc n)
    by true h = refl
    by false h = h

-- a number means a block where it is less than their count
is_declared : (at : Counts) (bs : List NamedBlock) (n : ℕ) → nat_lt n (length bs) ≡ is_some (block_nth at bs n)
is_declared at [] n = grind (arith, nat_tests)
is_declared at (b ∷ bs) zero = grind (arith, nat_tests)
is_declared at (b ∷ bs) (suc n) =
    let e : nat_lt (suc n) (suc (length bs)) ≡ nat_lt n (length bs) = grind (arith, nat_tests) in
    e ∙ is_declared (plus (plus at a_block) (counts_in b.body)) bs n

module _ (db : Database) (q : ℕ) where
  -- where a block stands in some operations
  record StandsIn (whole : Ops) (starts : List BlockStart) (n : ℕ) (b : BlockAt) : Type 0 where
    start : BlockStart
    found : slice_get starts n ≡ Some start
    number : start.number ≡ b.before.blocks
    code : HasAt whole start.at (ended (codes_in db q b.body (plus b.before a_block)))

  block_stands : (whole : Ops) (bs : List NamedBlock) (n from : ℕ) (at : Counts) (b : BlockAt) → block_nth at bs n ≡ Some b → HasAt whole from (block_codes db q bs at) → StandsIn whole (block_starts db q from bs at) n b
  block_stands whole [] n from at b e h = (cc)
  block_stands whole (x ∷ bs) zero from at b e h =
      let same : record { before = at; body = x.body } ≡ b = cc in
      subst (λ y. StandsIn whole (block_starts db q from (x ∷ bs) at) zero y) same
      (record { start = record { number = at.blocks; at = from }; found = refl; number = refl; code = has_front whole from (ended (codes_in db q x.body (plus at a_block))) (block_codes db q bs (plus (plus at a_block) (counts_in x.body))) h })
  block_stands whole (x ∷ bs) (suc n) from at b e h =
      let own : Ops = ended (codes_in db q x.body (plus at a_block)) in
      let later : Counts = plus (plus at a_block) (counts_in x.body) in
      let s = block_stands whole bs n (from + length own) later b e (has_back whole from own (block_codes db q bs later) h) in
      record { start = s.start; found = s.found; number = s.number; code = s.code }

each_map : (P Q : Text → Type 0) → ((n : Text) → P n → Q n) → (ns : List Text) → Each P ns → Each Q ns
each_map P Q f [] h = tt
each_map P Q f (n ∷ ns) h = (f n h.0, each_map P Q f ns h.1)

pub each_of_all : (P : Text → Type 0) → ((n : Text) → P n) → (ns : List Text) → Each P ns
each_of_all P f [] = tt
each_of_all P f (n ∷ ns) = (f n, each_of_all P f ns)

-- the named blocks' numbers are in their limits
block_limits : (at : Counts) (bs : List NamedBlock) (n : ℕ) (b : BlockAt) → block_nth at bs n ≡ Some b → over (λ (b : NamedBlock). over (lines_of own_43) b.body) bs ≡ [] → over (lines_of own_43) b.body ≡ []
block_limits at [] n b e h = (cc)
block_limits at (x ∷ bs) zero b e h =
    let same : record { before = at; body = x.body } ≡ b = cc in
    subst (λ (y : BlockAt). over (lines_of own_43) y.body ≡ []) same (append_front (over (lines_of own_43) x.body) (over (λ (b : NamedBlock). over (lines_of own_43) b.body) bs) h)
block_limits at (x ∷ bs) (suc n) b e h = block_limits (plus (plus at a_block) (counts_in x.body)) bs n b e (append_back (over (lines_of own_43) x.body) (over (λ (b : NamedBlock). over (lines_of own_43) b.body) bs) h)

module _ (db : Database) (q : ℕ) (p : Protocol) (is : slice_get db.protocols q ≡ Some p) (limits : over (λ (b : NamedBlock). over (lines_of own_43) b.body) (blocks_in p.format) ≡ []) where
  abbrev number_of : Text → ℕ
  number_of name = place name (map (λ (b : NamedBlock). b.name) (blocks_in p.format))

  -- the operations of an include, by whether its block is declared
  include_is : (name : Text) (o : Option BlockAt) → block_at p name ≡ o → include_of db q name ≡ (if is_some o then Include (number_of name) ∷ [] else [])
  include_is name o e =
      let known : include_of db q name ≡ include_code (length (blocks_in p.format)) (number_of name) = ap (λ x. include_code (block_count x) (block_number_at x name)) is in
      let nth : block_nth (counts_in (fields_in p.format)) (blocks_in p.format) (number_of name) ≡ o = sym (block_found (counts_in (fields_in p.format)) name (blocks_in p.format)) ∙ e in
      let some : nat_lt (number_of name) (length (blocks_in p.format)) ≡ is_some o = is_declared (counts_in (fields_in p.format)) (blocks_in p.format) (number_of name) ∙ ap is_some nth in
      known ∙ ap (λ t. if t then Include (number_of name) ∷ [] else []) some

  stands : (name : Text) (b : BlockAt) → block_at p name ≡ Some b → StandsIn db q (proto_code db q p).ops (proto_code db q p).blocks (number_of name) b
  unfolding proto_code
  stands name b e =
      let at : Counts = counts_in (fields_in p.format) in
      block_stands db q (own_code db q p ++ block_codes db q (blocks_in p.format) at) (blocks_in p.format) (number_of name) (length (own_code db q p)) at b (sym (block_found at name (blocks_in p.format)) ∙ e) (has_last (block_codes db q (blocks_in p.format) at) (own_code db q p))

  abbrev code : ProtoCode
  code = proto_code db q p

  as_piece : (a b : Ops) (x y : Run) → b ≡ a → x ≡ y → Piece db code a x → Piece db code b y
  as_piece a b x y e f d = subst (λ l. Piece db code l y) (sym e) (subst (λ r. Piece db code a r) f d)

  -- an include of a block that isn't declared does nothing
  of_none : (name : Text) (r : Run) → block_at p name ≡ None → next ≡ r → Included db q code (λ m. r) name
  of_none name r e f = as_piece [] (include_of db q name) next r (include_is name None e) f (nothing db code)

  -- one that is declared runs its body, from its own place on
  of_some : (name : Text) (b : BlockAt) (include : Text → Run) (r : Run) → block_at p name ≡ Some b → block_of db p include (Some b) ≡ r → Each (Included db q code include) (includes_in b.body) → Included db q code (λ m. r) name
  of_some name b include r e f h =
      let s = stands name b e in
      let k = block_limits (counts_in (fields_in p.format)) (blocks_in p.format) (number_of name) b (sym (block_found (counts_in (fields_in p.format)) name (blocks_in p.format)) ∙ e) limits in
      let body : Run = each (parts db (field_names p) include b.body) (plus b.before a_block) in
      let does : Does db code s.start.at body = to_end db code (codes_in db q b.body (plus b.before a_block)) body s.start.at (of_list db q (field_names p) (ap names_at is) code include b.body h k (plus b.before a_block)) s.code in
      let named : block s.start.number body ≡ r = ap (λ n. block n body) s.number ∙ f in
      as_piece (Include (number_of name) ∷ []) (include_of db q name) (block s.start.number body) r (include_is name (Some b) e) named (one_include db code (number_of name) s.start body s.found does)

  -- at each level that a name fits, the operations of its include do what it does
  pub of_name : (n : ℕ) (name : Text) → Fits p n name → Included db q code (included db p n) name
  of_name zero name h = by (block_at p name) refl h
    where
      by : (o : Option BlockAt) → block_at p name ≡ o → Undeclared o → Included db q code (included db p zero) name
      by None e h = of_none name (included db p zero name) e (λ i z. next z)
      by (Some b) e h = absurd h
  of_name (suc n) name h = by (block_at p name) refl h (λ (m : Text) (k : Fits p n m). of_name n m k)
    where
      by : (o : Option BlockAt) → block_at p name ≡ o → FitsBlock (Fits p n) o → ((m : Text) → Fits p n m → Included db q code (included db p n) m) → Included db q code (included db p (suc n)) name
      by None e h g = of_none name (included db p (suc n) name) e (λ i z. block_of db p (included db p n) (sym e i) z)
      by (Some b) e h g = of_some name b (included db p n) (included db p (suc n) name) e (λ i z. block_of db p (included db p n) (sym e i) z) (each_map (Fits p n) (Included db q code (included db p n)) g (includes_in b.body) h)
