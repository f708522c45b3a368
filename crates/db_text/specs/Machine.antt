-- A machine over bytes, by which a text is read. No public clause names it: the lemmas in proofs/ tie it to the grammar.
use Rattle.std.specs.Prelude.{ℕ, suc, Bool, true, false, ◌&&◌, ◌||◌, ◌==◌, not, nat_le, nat_lt, if◌then◌else◌, List, [], ◌∷◌, ◌++◌, length, slice_get, codes, Option, Some, None}
use Rattle.db_text.specs.declared.limits.TheConstants.{MOST_ELEMENT_DEPTH}
use Rattle.db_text.specs.declared.mode.Act.{Act}
use Rattle.db_text.specs.declared.mode.Act.TheVariants as act
use Rattle.db_text.specs.declared.mode.Entity.{Entity}
use Rattle.db_text.specs.declared.mode.Entity.TheVariants as entity
use Rattle.db_text.specs.declared.mode.Fixed.{Fixed}
use Rattle.db_text.specs.declared.mode.Fixed.TheVariants as fixed
use Rattle.db_text.specs.declared.mode.Mode.{Mode}
use Rattle.db_text.specs.declared.mode.Mode.TheVariants as mode
use Rattle.db_text.specs.declared.mode.Move.{Move}
use Rattle.db_text.specs.declared.mode.Place.{Place}
use Rattle.db_text.specs.declared.mode.Place.TheVariants as place
use Rattle.db_text.specs.declared.node.Attribute.{Attribute}
use Rattle.db_text.specs.declared.node.Node.{Node}
use Rattle.db_text.specs.declared.notes.Notes.{Notes}
use Rattle.db_text.specs.declared.frame.Frame.{Frame}
use Rattle.db_text.specs.declared.parts.Parts.{Parts}
use Rattle.db_text.specs.Text.{Placed, is_space, is_letter, is_name_byte, is_declared, is_char, as_space, entity_text, character}
use Rattle.db_text.specs.Tree.{attribute_of, element_of, earlier}

-- the names of what is open, the innermost first
abbrev pub Stack : Type 0
Stack = List (List ℕ)

abbrev pub notes : Stack → Bool → Option ℕ → Notes
notes names seen deep = record { names = names; seen = seen; deep = deep }

abbrev pub frame : ℕ → List Attribute → List Node → Frame
frame line attributes children = record { line = line; attributes = attributes; children = children }

abbrev pub parts : List Frame → List ℕ → List ℕ → Option Node → Parts
parts frames word value top = record { frames = frames; word = word; value = value; top = top }

pub record State : Type 0 where
  pub mode : Mode
  pub notes : Notes
  pub parts : Parts

abbrev pub state : Mode → Notes → Parts → State
state m n q = record { mode = m; notes = n; parts = q }

abbrev pub at : Mode → Notes → Parts → Option State
at m n q = Some (state m n q)

abbrev pub no_notes : Notes
no_notes = notes [] false None

abbrev pub no_parts : Parts
no_parts = parts [] [] [] None

abbrev pub start : State
start = state mode.Start no_notes no_parts

-- ---- what the next byte does

abbrev pub doing : Act → Mode → Option Move
doing a m = Some (record { mode = m; act = a })

abbrev pub go : Mode → Option Move
go m = doing act.Nothing m

abbrev pub place_in : Stack → Bool → Place
place_in [] false = place.Before
place_in [] true = place.After
place_in (w ∷ k) seen = place.Inside

abbrev pub top_of : Stack → List ℕ
top_of [] = []
top_of (w ∷ k) = w

abbrev pub when : Bool → Option Move → Option Move
when true m = m
when false m = None

-- nothing was read but the byte-order mark
abbrev pub front : ℕ → ℕ → Option Move
front line b = if is_space b then go mode.Between else when (b == 0x3C) (go (mode.Less line true))

abbrev pub begin : ℕ → ℕ → Option Move
begin line b = if is_space b then go mode.Between else (if b == 0x3C then go (mode.Less line true) else when (b == 0xEF) (go (mode.Fixed fixed.Mark 1)))

abbrev pub between : ℕ → ℕ → Option Move
between line b = if is_space b then go mode.Between else when (b == 0x3C) (go (mode.Less line false))

-- an element begins, except behind the top one
abbrev pub opens : ℕ → Place → ℕ → Option Move
opens line place.Before b = doing (act.Opens line b) mode.Name
opens line place.Inside b = doing (act.Opens line b) mode.Name
opens line place.After b = None

-- the innermost element is closed
abbrev pub closes : Place → Option Move
closes place.Before = None
closes place.Inside = go (mode.Closing 0)
closes place.After = None

abbrev pub not_letter : ℕ → Bool → Place → ℕ → Option Move
not_letter line first p b =
    if b == 0x21 then go (mode.Fixed fixed.Comment 2)
    else (if b == 0x2F then closes p
    else when (b == 0x3F && first) (go (mode.Fixed fixed.Declaration 2)))

abbrev pub less : ℕ → Bool → Place → ℕ → Option Move
less line first p b = if is_letter b then opens line p b else not_letter line first p b

abbrev pub fixed_text : Fixed → List ℕ
fixed_text fixed.Mark = 0xEF ∷ 0xBB ∷ 0xBF ∷ []
fixed_text fixed.Declaration = codes "<?xml"
fixed_text fixed.Comment = codes "<!--"
fixed_text (fixed.Entity quote e) = entity_text e

-- behind fixed bytes
abbrev pub behind : Fixed → Option Move
behind fixed.Mark = go mode.Marked
behind fixed.Declaration = go mode.Declaration
behind fixed.Comment = go (mode.Comment 0)
behind (fixed.Entity quote e) = doing (act.AddsToValue (character e)) (mode.Value quote)

abbrev pub fixed_next : Fixed → ℕ → ℕ → Option ℕ → Option Move
fixed_next w read b None = None
fixed_next w read b (Some c) = when (b == c) (if suc read == length (fixed_text w) then behind w else go (mode.Fixed w (suc read)))

abbrev pub in_declaration : ℕ → Option Move
in_declaration b = if is_declared b then go mode.Declaration else when (b == 0x3F) (go mode.DeclarationEnds)

abbrev pub in_comment : ℕ → ℕ → Option Move
in_comment hyphens b =
    if b == 0x2D then when (nat_le hyphens 2) (go (mode.Comment (suc hyphens)))
    else (if nat_le 2 hyphens then when (b == 0x3E) (go mode.Between) else go (mode.Comment 0))

-- behind a name or a value in a tag
abbrev pub tag : ℕ → Option Move
tag b = if is_space b then go mode.Tag else (if b == 0x2F then go mode.Slash else when (b == 0x3E) (go mode.Between))

abbrev pub in_name : ℕ → Option Move
in_name b = if is_name_byte b then doing (act.AddsToName b) mode.Name else tag b

abbrev pub in_tag : ℕ → Option Move
in_tag b = if is_letter b then doing (act.AddsToWord b) mode.AttributeName else tag b

abbrev pub before_equals : ℕ → Option Move
before_equals b = if is_space b then go mode.BeforeEquals else when (b == 0x3D) (go mode.AfterEquals)

abbrev pub in_attribute_name : ℕ → Option Move
in_attribute_name b = if is_name_byte b then doing (act.AddsToWord b) mode.AttributeName else before_equals b

abbrev pub after_equals : ℕ → Option Move
after_equals b = if is_space b then go mode.AfterEquals else (if b == 0x22 then go (mode.Value 0x22) else when (b == 0x27) (go (mode.Value 0x27)))

abbrev pub in_value : ℕ → ℕ → Option Move
in_value quote b =
    if is_char quote b then doing (act.AddsToValue (as_space b)) (mode.Value quote)
    else (if b == 0x26 then go (mode.Ampersand quote)
    else when (b == quote) (doing act.EndsAttribute mode.BehindValue))

-- so many bytes of an entity were read
abbrev pub in_entity : ℕ → Entity → ℕ → Mode
in_entity quote e read = mode.Fixed (fixed.Entity quote e) read

abbrev pub ampersand : ℕ → ℕ → Option Move
ampersand quote b =
    if b == 0x6C then go (in_entity quote entity.Less 2)
    else (if b == 0x67 then go (in_entity quote entity.Greater 2)
    else (if b == 0x71 then go (in_entity quote entity.Quote 2)
    else when (b == 0x61) (go (mode.AmpersandA quote))))

abbrev pub ampersand_a : ℕ → ℕ → Option Move
ampersand_a quote b = if b == 0x6D then go (in_entity quote entity.Ampersand 3) else when (b == 0x70) (go (in_entity quote entity.Apostrophe 3))

abbrev pub slash : ℕ → Option Move
slash b = when (b == 0x3E) (doing act.Closes mode.Between)

-- behind the name that closes an element
abbrev pub ending : ℕ → Option Move
ending b = if is_space b then go mode.Closed else when (b == 0x3E) (doing act.Closes mode.Between)

abbrev pub closing_next : ℕ → ℕ → Option ℕ → Option Move
closing_next read b None = ending b
closing_next read b (Some c) = when (b == c) (go (mode.Closing (suc read)))

abbrev pub decide : Mode → Notes → ℕ → ℕ → Option Move
decide mode.Start n line b = begin line b
decide mode.Marked n line b = front line b
decide (mode.Less l first) n line b = less l first (place_in n.names n.seen) b
decide (mode.Fixed w read) n line b = fixed_next w read b (slice_get (fixed_text w) read)
decide mode.Declaration n line b = in_declaration b
decide mode.DeclarationEnds n line b = when (b == 0x3E) (go mode.Between)
decide mode.Between n line b = between line b
decide (mode.Comment hyphens) n line b = in_comment hyphens b
decide mode.Name n line b = in_name b
decide mode.Tag n line b = in_tag b
decide mode.AttributeName n line b = in_attribute_name b
decide mode.BeforeEquals n line b = before_equals b
decide mode.AfterEquals n line b = after_equals b
decide (mode.Value quote) n line b = in_value quote b
decide (mode.Ampersand quote) n line b = ampersand quote b
decide (mode.AmpersandA quote) n line b = ampersand_a quote b
decide mode.BehindValue n line b = tag b
decide mode.Slash n line b = slash b
decide (mode.Closing read) n line b = closing_next read b (slice_get (top_of n.names) read)
decide mode.Closed n line b = ending b

-- ---- bytes that leave a mode as it is

-- a byte of a value that counts as itself and ends no line
abbrev pub is_plain : ℕ → ℕ → Bool
is_plain quote b = (nat_le 0x20 b && nat_le b 0x7E) && not (b == 0x3C || b == 0x26 || b == quote)

-- a byte that only goes on with the attribute's name or value that is being read
abbrev pub keeps : Mode → ℕ → Bool
keeps mode.AttributeName b = is_name_byte b
keeps (mode.Value quote) b = is_plain quote b
keeps _ b = false

-- ---- what an act does

abbrev pub is_empty : Stack → Bool
is_empty [] = true
is_empty (w ∷ k) = false

abbrev pub popped : Stack → Stack
popped [] = []
popped (w ∷ k) = k

abbrev pub added : ℕ → Stack → Stack
added b [] = []
added b (w ∷ k) = (w ++ b ∷ []) ∷ k

-- the line, where an element there stands too deep
abbrev pub if_deep : ℕ → ℕ → Option ℕ
if_deep depth line = if nat_lt MOST_ELEMENT_DEPTH depth then Some line else None

abbrev pub noted : Act → Notes → Notes
noted act.Nothing n = n
noted (act.Opens line b) n = notes ((b ∷ []) ∷ n.names) n.seen (earlier n.deep (if_deep (suc (length n.names)) line))
noted (act.AddsToName b) n = notes (added b n.names) n.seen n.deep
noted (act.AddsToWord b) n = n
noted (act.AddsToValue b) n = n
noted act.EndsAttribute n = n
noted act.Closes n = notes (popped n.names) (is_empty (popped n.names)) n.deep

-- an attribute more in the innermost element
abbrev pub attributed : Attribute → List Frame → List Frame
attributed a [] = []
attributed a (f ∷ fs) = frame f.line (f.attributes ++ a ∷ []) f.children ∷ fs

-- a complete element stands in the innermost open one, or is the top one
abbrev pub put : Node → List ℕ → List ℕ → Option Node → List Frame → Parts
put n word value top [] = parts [] word value (Some n)
put n word value top (f ∷ fs) = parts (frame f.line f.attributes (f.children ++ n ∷ []) ∷ fs) word value top

abbrev pub closed : List ℕ → Parts → List Frame → Parts
closed name q [] = q
closed name q (f ∷ fs) = put (element_of name f.attributes f.children f.line) q.word q.value q.top fs

-- an element begins on a line
abbrev pub begun : ℕ → Parts → Parts
begun line q = parts (frame line [] [] ∷ q.frames) q.word q.value q.top

-- the attribute that was read is complete
abbrev pub ended : Parts → Parts
ended q = parts (attributed (attribute_of q.word q.value) q.frames) [] [] q.top

abbrev pub parted : Act → Notes → Parts → Parts
parted act.Nothing n q = q
parted (act.Opens line b) n q = begun line q
parted (act.AddsToName b) n q = q
parted (act.AddsToWord b) n q = parts q.frames (q.word ++ b ∷ []) q.value q.top
parted (act.AddsToValue b) n q = parts q.frames q.word (q.value ++ b ∷ []) q.top
parted act.EndsAttribute n q = ended q
parted act.Closes n q = closed (top_of n.names) q q.frames

-- bytes that only go on with it
abbrev pub lengthened : Mode → List ℕ → Parts → Parts
lengthened mode.AttributeName bs q = parts q.frames (q.word ++ bs) q.value q.top
lengthened (mode.Value quote) bs q = parts q.frames q.word (q.value ++ bs) q.top
lengthened _ bs q = q

-- ---- the machine

abbrev pub moved : Notes → Parts → Option Move → Option State
moved n q None = None
moved n q (Some m) = at m.mode (noted m.act n) (parted m.act n q)

abbrev pub step : State → Placed → Option State
step s p = moved s.notes s.parts (decide s.mode s.notes p.line p.byte)

abbrev pub step_from : Option State → Placed → Option State
step_from None p = None
step_from (Some s) p = step s p

-- all the bytes, one after the other
abbrev pub fed : Option State → List Placed → Option State
fed s [] = s
fed s (p ∷ ps) = fed (step_from s p) ps

abbrev pub is_between : Mode → Bool
is_between mode.Between = true
is_between _ = false

-- the text may end here
abbrev pub is_whole : Mode → Notes → Bool
is_whole m n = is_between m && (is_empty n.names && n.seen)
