-- The five special variables, each by its name.
use Rattle.std.specs.Prelude.{if◌then◌else◌, List, [], ◌∷◌, map, bytes_eq, codes, Option, Some, None}
use Rattle.db_model.specs.Names.{Text}
pub use Rattle.db_model.specs.declared.expression.Special.{Special}
pub use Rattle.db_model.specs.declared.expression.Special.TheVariants.{Packet, PacketLength, CurrentOffset, ProtoOffset, LinkType}

abbrev pub specials : List (Text × Special)
specials = (codes "packet", Packet) ∷ (codes "packetlength", PacketLength) ∷ (codes "currentoffset", CurrentOffset) ∷ (codes "protooffset", ProtoOffset) ∷ (codes "linktype", LinkType) ∷ []

-- the names that no variable may have
abbrev pub special_names : List Text
special_names = map (λ s. s.0) specials

-- what a name means in a table of names
abbrev pub meant_in : {A : Type 0} → List (Text × A) → Text → Option A
meant_in [] name = None
meant_in (s ∷ rest) name = if bytes_eq name s.0 then Some s.1 else meant_in rest name

-- which special variable a name is, if it is one
abbrev pub special : Text → Option Special
special = meant_in specials
