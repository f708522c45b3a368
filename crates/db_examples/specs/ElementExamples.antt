-- Worked examples of elements: fields and the bytes of a packet, with the size of the protocol and its nodes.
use Rattle.std.specs.Prelude.{ℕ, List, [], ◌∷◌, codes, Some, None}
use Rattle.db_model.specs.declared.database.NamedBlock.{NamedBlock}
use Rattle.db_model.specs.declared.database.Protocol.{Protocol}
use Rattle.db_model.specs.declared.element.Element as element
use Rattle.db_model.specs.declared.element.Element.{Element}
use Rattle.db_model.specs.declared.element.FieldForm.TheVariants as form
use Rattle.db_model.specs.declared.env.Frame.{Frame}
use Rattle.db_model.specs.declared.env.Way.{Way}
use Rattle.db_model.specs.declared.env.Way.TheVariants.{Next, Stop}
use Rattle.db_model.specs.declared.expression.Expr as expr
use Rattle.db_model.specs.declared.tree.Node.{Node}
use Rattle.db_model.specs.declared.tree.Node.TheVariants.{Field, Block, Note}
use Rattle.db_model.specs.declared.tree.Reason.TheVariants.{Short, Turns, Nodes, NoField}
use Rattle.db_model.specs.Bare.{bare}
use Rattle.db_model.specs.Decoding.{start}
use Rattle.db_model.specs.Elements.{list}
use Rattle.db_model.specs.Names.{Text}
use Rattle.db_model.specs.Numbering.{none}
use Rattle.db_model.specs.Questions.{play}
use Rattle.db_examples.specs.Cases.{AreAlike, a, b, c, two_bytes, in_block, counted, times, sized_by, sized, while_so, continue_loop, break_loop, choice, number_in, with_blocks, decoded, read}
use Rattle.db_examples.specs.Samples.{fixed, bits, case, branch, named_block, protocol, fields}
use Rattle.db_examples.specs.SessionPackets.{captured}

-- ---- loops

abbrev pub loops : List ((ℕ × List Node) × (ℕ × List Node))
loops =
    -- continue leaves the rest of its turn out and goes on with the next turn
    (decoded (times 2 (a ∷ continue_loop ∷ b ∷ []) ∷ c ∷ []) (1 ∷ 2 ∷ 3 ∷ []), (3, read 0 0 1 ∷ read 0 1 2 ∷ read 2 2 3 ∷ []))
    -- it closes the blocks in between
    ∷ (decoded (times 2 (in_block (a ∷ continue_loop ∷ b ∷ []) ∷ []) ∷ c ∷ []) (1 ∷ 2 ∷ 3 ∷ []), (3, Block 0 0 1 (read 0 0 1 ∷ []) ∷ Block 0 1 1 (read 0 1 2 ∷ []) ∷ read 2 2 3 ∷ []))
    -- it is of the innermost loop
    ∷ (decoded (times 2 (times 2 (a ∷ continue_loop ∷ b ∷ []) ∷ c ∷ []) ∷ []) (1 ∷ 2 ∷ 3 ∷ 4 ∷ 5 ∷ 6 ∷ []), (6, read 0 0 1 ∷ read 0 1 2 ∷ read 2 2 3 ∷ read 0 3 4 ∷ read 0 4 5 ∷ read 2 5 6 ∷ []))
    -- so is a break
    ∷ (decoded (times 2 (times 2 (a ∷ break_loop ∷ []) ∷ b ∷ []) ∷ []) (1 ∷ 2 ∷ 3 ∷ 4 ∷ []), (4, read 0 0 1 ∷ read 1 1 2 ∷ read 0 2 3 ∷ read 1 3 4 ∷ []))
    -- count makes all its turns
    ∷ (decoded (times 3 (a ∷ []) ∷ b ∷ []) (1 ∷ 2 ∷ 3 ∷ 4 ∷ []), (4, read 0 0 1 ∷ read 0 1 2 ∷ read 0 2 3 ∷ read 1 3 4 ∷ []))
    -- its number is evaluated once
    ∷ (decoded (a ∷ counted (number_in (codes "a")) (a ∷ []) ∷ b ∷ []) (2 ∷ 3 ∷ 4 ∷ 5 ∷ 6 ∷ []), (4, read 0 0 2 ∷ read 1 1 3 ∷ read 1 2 4 ∷ read 2 3 5 ∷ []))
    ∷ (decoded (times 0 (a ∷ []) ∷ b ∷ []) (1 ∷ []), (1, read 1 0 1 ∷ []))
    -- size may reach the limit, and makes turns up to its own
    ∷ (decoded (sized 4 (two_bytes ∷ []) ∷ []) (1 ∷ 2 ∷ 3 ∷ 4 ∷ []), (4, Field 0 0 2 (1 ∷ 2 ∷ []) ∷ Field 0 2 2 (3 ∷ 4 ∷ []) ∷ []))
    -- behind it the old limit holds again
    ∷ (decoded (sized 2 (a ∷ []) ∷ two_bytes ∷ []) (1 ∷ 2 ∷ 3 ∷ 4 ∷ []), (4, read 0 0 1 ∷ read 0 1 2 ∷ Field 1 2 2 (3 ∷ 4 ∷ []) ∷ []))
    -- one byte more than there are before the limit, of the packet and of a loop around it
    ∷ (decoded (a ∷ sized 3 (b ∷ []) ∷ []) (1 ∷ 2 ∷ 3 ∷ []), (1, read 0 0 1 ∷ Note Short 1 ∷ []))
    ∷ (decoded (sized 2 (sized 3 (a ∷ []) ∷ []) ∷ []) (1 ∷ 2 ∷ 3 ∷ []), (0, Note Short 0 ∷ []))
    -- its number is evaluated once
    ∷ (decoded (a ∷ sized_by (number_in (codes "a")) (a ∷ []) ∷ b ∷ []) (2 ∷ 3 ∷ 0 ∷ 5 ∷ []), (4, read 0 0 2 ∷ read 1 1 3 ∷ read 1 2 0 ∷ read 2 3 5 ∷ []))
    -- while evaluates before each turn
    ∷ (decoded (a ∷ while_so (number_in (codes "a")) (a ∷ []) ∷ b ∷ []) (2 ∷ 1 ∷ 0 ∷ 9 ∷ []), (4, read 0 0 2 ∷ read 1 1 1 ∷ read 1 2 0 ∷ read 2 3 9 ∷ []))
    ∷ []

abbrev pub LoopsRun : Type 0
LoopsRun = AreAlike loops

-- ---- extents

abbrev pub variable : ℕ → Element
variable n = element.Field 3 (codes "v") (form.Variable (expr.Number n)) None None

abbrev pub until : List ℕ → Element
until token = element.Field 3 (codes "t") (form.TokenEnded token) None None

abbrev pub line : Element
line = element.Field 3 (codes "l") form.Line None None

abbrev pub extents : List ((ℕ × List Node) × (ℕ × List Node))
extents =
    -- a size that reaches the limit, and one that passes it
    (decoded (sized 2 (variable 2 ∷ []) ∷ []) (1 ∷ 2 ∷ 3 ∷ []), (2, Field 0 0 2 (1 ∷ 2 ∷ []) ∷ []))
    ∷ (decoded (sized 2 (variable 3 ∷ []) ∷ []) (1 ∷ 2 ∷ 3 ∷ []), (0, Note Short 0 ∷ []))
    -- the first token
    ∷ (decoded (until (0x3b ∷ []) ∷ until (0x3b ∷ []) ∷ []) (1 ∷ 0x3b ∷ 0x3b ∷ 2 ∷ []), (3, Field 0 0 2 (1 ∷ 0x3b ∷ []) ∷ read 1 2 0x3b ∷ []))
    -- without one, all bytes
    ∷ (decoded (until (0x3b ∷ []) ∷ []) (1 ∷ 2 ∷ []), (2, Field 0 0 2 (1 ∷ 2 ∷ []) ∷ []))
    -- a token past the limit is none
    ∷ (decoded (sized 2 (until (0x3b ∷ []) ∷ []) ∷ a ∷ []) (1 ∷ 2 ∷ 0x3b ∷ 4 ∷ []), (3, Field 0 0 2 (1 ∷ 2 ∷ []) ∷ read 1 2 0x3b ∷ []))
    -- and so is one of which a part stands past it
    ∷ (decoded (sized 2 (until (0x3b ∷ 0x3b ∷ []) ∷ []) ∷ a ∷ []) (1 ∷ 0x3b ∷ 0x3b ∷ 4 ∷ []), (3, Field 0 0 2 (1 ∷ 0x3b ∷ []) ∷ read 1 2 0x3b ∷ []))
    -- so for the end of a line
    ∷ (decoded (line ∷ line ∷ line ∷ []) (1 ∷ 10 ∷ 10 ∷ 2 ∷ []), (4, Field 0 0 2 (1 ∷ 10 ∷ []) ∷ read 1 2 10 ∷ read 2 3 2 ∷ []))
    ∷ (decoded (sized 2 (line ∷ []) ∷ a ∷ []) (1 ∷ 2 ∷ 10 ∷ []), (3, Field 0 0 2 (1 ∷ 2 ∷ []) ∷ read 1 2 10 ∷ []))
    -- where nothing is left the field is empty
    ∷ (decoded (a ∷ line ∷ []) (1 ∷ []), (1, read 0 0 1 ∷ Field 1 1 0 [] ∷ []))
    ∷ []

abbrev pub ExtentsEnd : Type 0
ExtentsEnd = AreAlike extents

-- ---- bit fields

abbrev pub mask : ℕ → ℕ → Element
mask size m = bits 3 (codes "m") size m

abbrev pub bit_fields : List ((ℕ × List Node) × (ℕ × List Node))
bit_fields =
    -- 0x1234 is 0x0230 under the mask, whose lowest 1 is bit 4; the value keeps its two bytes, and the position stays
    (decoded (mask 2 0x0ff0 ∷ mask 2 0x000f ∷ []) (0x12 ∷ 0x34 ∷ []), (2, Field 0 0 2 (0x00 ∷ 0x23 ∷ []) ∷ Field 1 0 2 (0x00 ∷ 0x04 ∷ []) ∷ []))
    -- where the mask has bit 0 nothing is shifted, and the position moves
    ∷ (decoded (mask 2 0xf001 ∷ []) (0x12 ∷ 0x35 ∷ []), (2, Field 0 0 2 (0x10 ∷ 0x01 ∷ []) ∷ []))
    ∷ (decoded (mask 3 0xff0000 ∷ mask 3 0x00ffff ∷ []) (7 ∷ 8 ∷ 9 ∷ []), (3, Field 0 0 3 (0 ∷ 0 ∷ 7 ∷ []) ∷ Field 1 0 3 (0 ∷ 8 ∷ 9 ∷ []) ∷ []))
    -- the highest bit is shifted by 31
    ∷ (decoded (mask 4 0x80000000 ∷ mask 4 0x7fffffff ∷ []) (0x80 ∷ 0 ∷ 1 ∷ 2 ∷ []), (4, Field 0 0 4 (0 ∷ 0 ∷ 0 ∷ 1 ∷ []) ∷ Field 1 0 4 (0 ∷ 0 ∷ 1 ∷ 2 ∷ []) ∷ []))
    ∷ []

abbrev pub BitsAreShifted : Type 0
BitsAreShifted = AreAlike bit_fields

-- ---- numbers of fields and blocks

-- the two that are included, of which the second is number 3
abbrev pub two_blocks : List NamedBlock
two_blocks = named_block 4 (codes "p") (a ∷ []) ∷ named_block 5 (codes "q") (b ∷ in_block (c ∷ []) ∷ []) ∷ []

abbrev pub include : Text → Element
include name = element.IncludeBlock 3 name

-- a switch over this number, with a case for 1 that holds one field, one for 2 to 4 that holds two, and a default
abbrev pub switch : ℕ → Element
switch n = element.Switch 3 (expr.Number n) (case 3 1 (a ∷ []) ∷ record (case 3 2 (a ∷ b ∷ [])) { maxvalue = 4 } ∷ case 3 4 (in_block [] ∷ []) ∷ []) (Some (branch 3 (c ∷ [])))

abbrev pub numbers : List ((ℕ × List Node) × (ℕ × List Node))
numbers =
    -- the default's field comes behind the three of the cases, and the field behind the switch comes behind all
    (decoded (switch 5 ∷ a ∷ []) (1 ∷ 2 ∷ []), (2, read 3 0 1 ∷ read 4 1 2 ∷ []))
    ∷ (decoded (switch 1 ∷ a ∷ []) (1 ∷ 2 ∷ []), (2, read 0 0 1 ∷ read 4 1 2 ∷ []))
    -- a case holds both its ends, and the first case that holds the number is taken
    ∷ (decoded (switch 2 ∷ a ∷ []) (1 ∷ 2 ∷ 3 ∷ []), (3, read 1 0 1 ∷ read 2 1 2 ∷ read 4 2 3 ∷ []))
    ∷ (decoded (switch 4 ∷ a ∷ []) (1 ∷ 2 ∷ 3 ∷ []), (3, read 1 0 1 ∷ read 2 1 2 ∷ read 4 2 3 ∷ []))
    -- without a default nothing is done where no case holds it
    ∷ (decoded (element.Switch 3 (expr.Number 0) (case 3 1 (a ∷ []) ∷ []) None ∷ b ∷ []) (1 ∷ []), (1, read 1 0 1 ∷ []))
    -- what is done at 0 comes behind what is done else
    ∷ (decoded (a ∷ choice (expr.Number 0) (b ∷ in_block [] ∷ []) (c ∷ in_block (a ∷ []) ∷ []) ∷ b ∷ []) (1 ∷ 2 ∷ 3 ∷ 4 ∷ []), (4, read 0 0 1 ∷ read 2 1 2 ∷ Block 1 2 1 (read 3 2 3 ∷ []) ∷ read 4 3 4 ∷ []))
    ∷ (decoded (choice (expr.Number 7) (b ∷ []) (c ∷ []) ∷ a ∷ []) (1 ∷ 2 ∷ []), (2, read 0 0 1 ∷ read 2 1 2 ∷ []))
    -- a named block has the numbers of its own place, wherever it is included: block p is number 1, with field 2, and block q number 2, with fields 3 and 4 and block 3
    ∷ (with_blocks (a ∷ include (codes "q") ∷ in_block (b ∷ []) ∷ include (codes "p") ∷ []) two_blocks (1 ∷ 2 ∷ 3 ∷ 4 ∷ 5 ∷ []), (5, read 0 0 1 ∷ Block 2 1 2 (read 3 1 2 ∷ Block 3 2 1 (read 4 2 3 ∷ []) ∷ []) ∷ Block 0 3 1 (read 1 3 4 ∷ []) ∷ Block 1 4 1 (read 2 4 5 ∷ []) ∷ []))
    -- an include means the first block of its name
    ∷ (with_blocks (include (codes "p") ∷ []) (named_block 4 (codes "p") (a ∷ []) ∷ named_block 5 (codes "p") (b ∷ c ∷ []) ∷ []) (1 ∷ 2 ∷ []), (1, Block 0 0 1 (read 0 0 1 ∷ []) ∷ []))
    ∷ []

abbrev pub FieldsAreNumbered : Type 0
FieldsAreNumbered = AreAlike numbers

-- ---- budgets

abbrev pub Outcome : Type 0
Outcome = Way × List Node

-- how these fields end, and their nodes, where so many turns and nodes are left: of a packet of two bytes
abbrev pub bare_start : Frame
bare_start = start bare (captured 0 0 (1 ∷ 2 ∷ []))

abbrev pub of_elements : List Element → Protocol
of_elements xs = protocol 2 (codes "startproto") None (fields 2 xs []) None

abbrev pub with_left : ℕ → ℕ → List Element → Outcome
with_left turns nodes xs = (play bare 0 (list bare (of_elements xs) xs none (record bare_start { env = record bare_start.env { turns = turns }; nodes = nodes })) []).result.0

abbrev pub budgets : List (Outcome × Outcome)
budgets =
    -- a field finds its extent, and before that its expression, before it wants a node
    (with_left 0 0 (fixed 3 (codes "a") 3 ∷ []), (Stop Short, Note Short 0 ∷ []))
    ∷ (with_left 0 0 (element.Field 3 (codes "v") (form.Variable (expr.Field (codes "v"))) None None ∷ []), (Stop NoField, Note NoField 0 ∷ []))
    ∷ (with_left 0 0 (a ∷ []), (Stop Nodes, Note Nodes 0 ∷ []))
    ∷ (with_left 0 1 (a ∷ b ∷ []), (Stop Nodes, read 0 0 1 ∷ Note Nodes 1 ∷ []))
    -- a loop that makes no turn wants none
    ∷ (with_left 0 1 (while_so (expr.Number 0) (a ∷ []) ∷ a ∷ []), (Next, read 1 0 1 ∷ []))
    ∷ (with_left 0 1 (times 0 (a ∷ []) ∷ a ∷ []), (Next, read 1 0 1 ∷ []))
    ∷ (with_left 0 1 (sized 0 (a ∷ []) ∷ a ∷ []), (Next, read 1 0 1 ∷ []))
    -- one more turn than are left, of each kind of loop
    ∷ (with_left 0 1 (while_so (expr.Number 1) (a ∷ []) ∷ []), (Stop Turns, Note Turns 0 ∷ []))
    ∷ (with_left 1 9 (times 2 (a ∷ []) ∷ []), (Stop Turns, read 0 0 1 ∷ Note Turns 1 ∷ []))
    ∷ (with_left 1 9 (sized 2 (a ∷ []) ∷ []), (Stop Turns, read 0 0 1 ∷ Note Turns 1 ∷ []))
    -- the last turn makes the test 0
    ∷ (with_left 1 9 (while_so (expr.Not (expr.IsPresent (codes "a"))) (a ∷ []) ∷ b ∷ []), (Next, read 0 0 1 ∷ read 1 1 2 ∷ []))
    -- as many turns as are left
    ∷ (with_left 2 9 (times 2 (a ∷ []) ∷ []), (Next, read 0 0 1 ∷ read 0 1 2 ∷ []))
    ∷ (with_left 2 9 (sized 2 (a ∷ []) ∷ []), (Next, read 0 0 1 ∷ read 0 1 2 ∷ []))
    -- the turns of a loop within another are of the same packet
    ∷ (with_left 3 9 (times 2 (times 1 (a ∷ []) ∷ []) ∷ []), (Stop Turns, read 0 0 1 ∷ Note Turns 1 ∷ []))
    ∷ []

abbrev pub BudgetsAreSpent : Type 0
BudgetsAreSpent = AreAlike budgets
