-- Texts written out, and what the grammar makes of them.
use Rattle.std.specs.Prelude.{ℕ, List, [], ◌∷◌, ◌++◌, codes}
use Rattle.db_cause.specs.declared.cause.Cause.TheVariants as cause
use Rattle.db_cause.specs.Codes.{code}
use Rattle.db_text.specs.Refusal.{IsText, IsRefused}
use Rattle.db_text.specs.Tree.{attribute_of, element_of}

-- an element without content, and the same written with an end
abbrev pub EmptyElements : Type 0
EmptyElements =
    IsText (codes "<a/>") (element_of (codes "a") [] [] 1)
    × IsText (codes "<a></a>") (element_of (codes "a") [] [] 1)
    × IsText (codes "<a ></a >") (element_of (codes "a") [] [] 1)

-- the line of an element is that of its `<`
abbrev pub Lines : Type 0
Lines = IsText (codes "<a" ++ (0x0A ∷ []) ++ codes "><b/>" ++ (0x0A ∷ []) ++ codes "<c/></a>") (element_of (codes "a") [] (element_of (codes "b") [] [] 2 ∷ element_of (codes "c") [] [] 3 ∷ []) 1)

-- entities count as their characters, tabs and line ends as spaces, and the other quote stands for itself
abbrev pub Values : Type 0
Values =
    IsText (codes "<a b='&lt;&gt;&amp;&quot;&apos;' c=\"'>\"/>") (element_of (codes "a") (attribute_of (codes "b") (codes "<>&\"'") ∷ attribute_of (codes "c") (codes "'>") ∷ []) [] 1)
    × IsText (codes "<a b = '" ++ (0x09 ∷ 0x0D ∷ 0x0A ∷ []) ++ codes "'/>") (element_of (codes "a") (attribute_of (codes "b") (codes "   ") ∷ []) [] 1)

-- a byte-order mark, a declaration and comments say nothing
abbrev pub Unsaid : Type 0
Unsaid =
    IsText (0xEF ∷ 0xBB ∷ 0xBF ∷ codes "<?xml version='1.0'?><!-- a - b ---><a><!----></a> <!-- -->") (element_of (codes "a") [] [] 1)

-- the text ends early on a line
abbrev pub IsEarly : List ℕ → ℕ → Type 0
IsEarly bytes line = IsRefused bytes line (code cause.UnexpectedEnd)

-- a text that ends early is refused at its end
abbrev pub Early : Type 0
Early =
    IsEarly [] 1
    × IsEarly (codes "<a>") 1
    × IsEarly (codes "<a" ++ (0x0A ∷ []) ++ codes "b='&am") 2
    × IsEarly (codes "<!-- ") 1

-- on a line stands a byte with which no text goes on
abbrev pub IsStuck : List ℕ → ℕ → Type 0
IsStuck bytes line = IsRefused bytes line (code cause.UnexpectedByte)

-- a byte with which no text goes on is the place of the fault
abbrev pub Stuck : Type 0
Stuck =
    IsStuck (codes "<a></b>") 1
    × IsStuck (codes "<a/>" ++ (0x0A ∷ []) ++ codes "<b/>") 2
    × IsStuck (codes "<a b='1'c='2'/>") 1
    × IsStuck (codes "<a b='&amp'/>") 1
    × IsStuck (codes "<!-- -- --><a/>") 1
    × IsStuck (codes " <?xml?><a/>") 1
