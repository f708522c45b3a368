-- The grammar of database texts: a rule for each alternative. Each says that the first of the bytes `ts` are what
-- it names, and that `rest` are those behind it. A rule for { } has itself on the left.
--   text    = [ EF BB BF ] [ decl ] misc element misc
--   decl    = "<?xml" { byte other than "?", "<" and ">" } "?>"
--   misc    = { space | comment }
--   comment = "<!--" bytes without "--" "-->"
--   element = "<" name { S attr } [ S ] ( "/>" | ">" content "</" name [ S ] ">" )
--   content = { space | comment | element }
--   attr    = name [ S ] "=" [ S ] ( '"' { char } '"' | "'" { char } "'" )
use Rattle.std.specs.Prelude.{◌≡◌, ℕ, true, false, List, [], ◌∷◌, ◌++◌, codes}
use Rattle.std.specs.List.{list_all}
use Rattle.db_text.specs.declared.node.Attribute.{Attribute}
use Rattle.db_text.specs.declared.node.Node.{Node}
use Rattle.db_text.specs.declared.mode.Entity.{Entity}
use Rattle.db_text.specs.Text.{Placed, is_space, is_name, is_declared, has_double, Quote, is_char, as_space, entity_text, character}
use Rattle.db_text.specs.Tree.{attribute_of, element_of}

-- the bytes of a word stand there
abbrev pub Stands : List ℕ → List Placed → List Placed → Type 0
Stands [] ts rest = ts ≡ rest
Stands (b ∷ w) ts rest = (p : Placed) × (us : List Placed) × (ts ≡ p ∷ us) × (p.byte ≡ b) × Stands w us rest

-- none or more space bytes
pub data Spaces : List Placed → List Placed → Type 0 where
  no_space : {ts : List Placed} → Spaces ts ts
  space : {p : Placed} {ts rest : List Placed} → Spaces ts (p ∷ rest) → is_space p.byte ≡ true → Spaces ts rest

-- one or more space bytes
pub data Gap : List Placed → List Placed → Type 0 where
  gap : {p : Placed} {ts rest : List Placed} → Spaces ts (p ∷ rest) → is_space p.byte ≡ true → Gap ts rest

-- [ EF BB BF ]
pub data Mark : List Placed → List Placed → Type 0 where
  no_mark : {ts : List Placed} → Mark ts ts
  mark : {ts rest : List Placed} → Stands (0xEF ∷ 0xBB ∷ 0xBF ∷ []) ts rest → Mark ts rest

-- [ decl ]
pub data Declaration : List Placed → List Placed → Type 0 where
  no_declaration : {ts : List Placed} → Declaration ts ts
  declaration : (content : List ℕ) {ts us vs rest : List Placed} → Stands (codes "<?xml") ts us → list_all is_declared content ≡ true → Stands content us vs → Stands (codes "?>") vs rest → Declaration ts rest

pub data Comment : List Placed → List Placed → Type 0 where
  comment : (content : List ℕ) {ts us vs rest : List Placed} → Stands (codes "<!--") ts us → has_double content ≡ false → Stands content us vs → Stands (codes "-->") vs rest → Comment ts rest

pub data Misc : List Placed → List Placed → Type 0 where
  no_misc : {ts : List Placed} → Misc ts ts
  misc_space : {p : Placed} {ts rest : List Placed} → Misc ts (p ∷ rest) → is_space p.byte ≡ true → Misc ts rest
  misc_comment : {ts us rest : List Placed} → Misc ts us → Comment us rest → Misc ts rest

-- what stands between the quotes: { char }
pub data Chars (quote : ℕ) : List ℕ → List Placed → List Placed → Type 0 where
  no_char : {ts : List Placed} → Chars quote [] ts ts
  char : {value : List ℕ} {p : Placed} {ts rest : List Placed} → Chars quote value ts (p ∷ rest) → is_char quote p.byte ≡ true → Chars quote (value ++ as_space p.byte ∷ []) ts rest
  entity : {value : List ℕ} (e : Entity) {ts us rest : List Placed} → Chars quote value ts us → Stands (entity_text e) us rest → Chars quote (value ++ character e ∷ []) ts rest

-- an attribute, from its name to the quote that closes its value
pub data OneAttribute : Attribute → List Placed → List Placed → Type 0 where
  one_attribute : {name value : List ℕ} {quote : ℕ} {equals open_ close_ : Placed} {ts us vs ws rest : List Placed}
      → is_name name ≡ true → Stands name ts us
      → Spaces us (equals ∷ vs) → equals.byte ≡ 0x3D
      → Spaces vs (open_ ∷ ws) → open_.byte ≡ quote → Quote quote
      → Chars quote value ws (close_ ∷ rest) → close_.byte ≡ quote
      → OneAttribute (attribute_of name value) ts rest

-- { S attr }
pub data Attributes : List Attribute → List Placed → List Placed → Type 0 where
  no_attribute : {ts : List Placed} → Attributes [] ts ts
  attribute : {attrs : List Attribute} {a : Attribute} {ts us vs rest : List Placed} → Attributes attrs ts us → Gap us vs → OneAttribute a vs rest → Attributes (attrs ++ a ∷ []) ts rest

-- "<" name { S attr } [ S ], with the line of the "<"
pub data Opening : List ℕ → List Attribute → ℕ → List Placed → List Placed → Type 0 where
  opening : {name : List ℕ} {attrs : List Attribute} {less : Placed} {ts us vs rest : List Placed} → less.byte ≡ 0x3C → is_name name ≡ true → Stands name ts us → Attributes attrs us vs → Spaces vs rest
      → Opening name attrs less.line (less ∷ ts) rest

mutual
  pub data Element : Node → List Placed → List Placed → Type 0 where
    empty : {name : List ℕ} {attrs : List Attribute} {line : ℕ} {ts us rest : List Placed} → Opening name attrs line ts us → Stands (codes "/>") us rest → Element (element_of name attrs [] line) ts rest
    nested : {name : List ℕ} {attrs : List Attribute} {children : List Node} {line : ℕ} {greater end_ : Placed} {ts us vs ws rest : List Placed}
        → Opening name attrs line ts (greater ∷ us) → greater.byte ≡ 0x3E
        → Content children us vs
        → Stands (0x3C ∷ 0x2F ∷ name) vs ws → Spaces ws (end_ ∷ rest) → end_.byte ≡ 0x3E
        → Element (element_of name attrs children line) ts rest

  pub data Content : List Node → List Placed → List Placed → Type 0 where
    no_content : {ts : List Placed} → Content [] ts ts
    content_space : {ns : List Node} {p : Placed} {ts rest : List Placed} → Content ns ts (p ∷ rest) → is_space p.byte ≡ true → Content ns ts rest
    content_comment : {ns : List Node} {ts us rest : List Placed} → Content ns ts us → Comment us rest → Content ns ts rest
    content_element : {ns : List Node} {n : Node} {ts us rest : List Placed} → Content ns ts us → Element n us rest → Content (ns ++ n ∷ []) ts rest

-- a whole text with this top element
pub data Document : Node → List Placed → Type 0 where
  document : {n : Node} {ts us vs ws xs : List Placed} → Mark ts us → Declaration us vs → Misc vs ws → Element n ws xs → Misc xs [] → Document n ts
