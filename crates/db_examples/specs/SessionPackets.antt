-- A request, its answer, and an answer that belongs to no request, with the trees that they have.
use Rattle.std.specs.Prelude.{ℕ, List, [], ◌∷◌, length}
use Rattle.db_model.specs.declared.packet.Packet.{Packet}
use Rattle.db_model.specs.declared.tree.Node.TheVariants.{Field}
use Rattle.db_model.specs.declared.tree.Proto.{Proto}

-- a packet of link type 1, captured whole
abbrev pub captured : ℕ → ℕ → List ℕ → Packet
captured number stamp bytes = record { number = number; link = 1; stamp = stamp; length = length bytes; bytes = bytes }

abbrev pub request : Packet
request = captured 0 1000000000 (2 ∷ 0 ∷ 0 ∷ 0 ∷ 0 ∷ 2 ∷ 2 ∷ 0 ∷ 0 ∷ 0 ∷ 0 ∷ 1 ∷ 8 ∷ 0 ∷ 69 ∷ 0 ∷ 0 ∷ 40 ∷ 0 ∷ 1 ∷ 64 ∷ 0 ∷ 64 ∷ 6 ∷ 0 ∷ 0 ∷ 192 ∷ 168 ∷ 0 ∷ 1 ∷ 192 ∷ 168 ∷ 0 ∷ 2 ∷ 192 ∷ 0 ∷ 0 ∷ 80 ∷ 0 ∷ 0 ∷ 0 ∷ 1 ∷ 0 ∷ 0 ∷ 0 ∷ 0 ∷ 80 ∷ 2 ∷ 255 ∷ 255 ∷ 0 ∷ 0 ∷ 0 ∷ 0 ∷ [])

abbrev pub answer : Packet
answer = captured 1 1250000000 (2 ∷ 0 ∷ 0 ∷ 0 ∷ 0 ∷ 1 ∷ 2 ∷ 0 ∷ 0 ∷ 0 ∷ 0 ∷ 2 ∷ 8 ∷ 0 ∷ 69 ∷ 0 ∷ 0 ∷ 43 ∷ 0 ∷ 1 ∷ 64 ∷ 0 ∷ 64 ∷ 6 ∷ 0 ∷ 0 ∷ 192 ∷ 168 ∷ 0 ∷ 2 ∷ 192 ∷ 168 ∷ 0 ∷ 1 ∷ 0 ∷ 80 ∷ 192 ∷ 0 ∷ 0 ∷ 0 ∷ 0 ∷ 5 ∷ 0 ∷ 0 ∷ 0 ∷ 2 ∷ 80 ∷ 24 ∷ 255 ∷ 255 ∷ 0 ∷ 0 ∷ 0 ∷ 0 ∷ 72 ∷ 73 ∷ 10 ∷ [])

abbrev pub stray : Packet
stray = captured 2 2000000000 (2 ∷ 0 ∷ 0 ∷ 0 ∷ 0 ∷ 1 ∷ 2 ∷ 0 ∷ 0 ∷ 0 ∷ 0 ∷ 2 ∷ 8 ∷ 0 ∷ 69 ∷ 0 ∷ 0 ∷ 43 ∷ 0 ∷ 1 ∷ 64 ∷ 0 ∷ 64 ∷ 6 ∷ 0 ∷ 0 ∷ 192 ∷ 168 ∷ 0 ∷ 2 ∷ 192 ∷ 168 ∷ 0 ∷ 1 ∷ 0 ∷ 80 ∷ 192 ∷ 1 ∷ 0 ∷ 0 ∷ 0 ∷ 5 ∷ 0 ∷ 0 ∷ 0 ∷ 2 ∷ 80 ∷ 24 ∷ 255 ∷ 255 ∷ 0 ∷ 0 ∷ 0 ∷ 0 ∷ 72 ∷ 73 ∷ 10 ∷ [])

abbrev pub conversation : List Packet
conversation = request ∷ answer ∷ stray ∷ []

abbrev pub request_tree : List Proto
request_tree =
    record { number = 0; pos = 0; size = 0; nodes = [] }
    ∷ record { number = 1; pos = 0; size = 14; nodes = Field 0 0 6 (2 ∷ 0 ∷ 0 ∷ 0 ∷ 0 ∷ 2 ∷ []) ∷ Field 1 6 6 (2 ∷ 0 ∷ 0 ∷ 0 ∷ 0 ∷ 1 ∷ []) ∷ Field 2 12 2 (8 ∷ 0 ∷ []) ∷ [] }
    ∷ record { number = 2; pos = 14; size = 20; nodes = Field 0 14 1 (4 ∷ []) ∷ Field 1 14 1 (5 ∷ []) ∷ Field 2 15 1 (0 ∷ []) ∷ Field 3 16 2 (0 ∷ 40 ∷ []) ∷ Field 4 18 4 (0 ∷ 1 ∷ 64 ∷ 0 ∷ []) ∷ Field 5 22 1 (64 ∷ []) ∷ Field 6 23 1 (6 ∷ []) ∷ Field 7 24 2 (0 ∷ 0 ∷ []) ∷ Field 8 26 4 (192 ∷ 168 ∷ 0 ∷ 1 ∷ []) ∷ Field 9 30 4 (192 ∷ 168 ∷ 0 ∷ 2 ∷ []) ∷ Field 10 34 0 [] ∷ [] }
    ∷ record { number = 3; pos = 34; size = 20; nodes = Field 0 34 2 (192 ∷ 0 ∷ []) ∷ Field 1 36 2 (0 ∷ 80 ∷ []) ∷ Field 2 38 8 (0 ∷ 0 ∷ 0 ∷ 1 ∷ 0 ∷ 0 ∷ 0 ∷ 0 ∷ []) ∷ Field 3 46 1 (5 ∷ []) ∷ Field 4 46 1 (0 ∷ []) ∷ Field 5 47 1 (2 ∷ []) ∷ Field 6 48 2 (255 ∷ 255 ∷ []) ∷ Field 7 50 4 (0 ∷ 0 ∷ 0 ∷ 0 ∷ []) ∷ Field 8 54 0 [] ∷ [] }
    ∷ []

-- the session that the request added shows the answer as text
abbrev pub answer_tree : List Proto
answer_tree =
    record { number = 0; pos = 0; size = 0; nodes = [] }
    ∷ record { number = 1; pos = 0; size = 14; nodes = Field 0 0 6 (2 ∷ 0 ∷ 0 ∷ 0 ∷ 0 ∷ 1 ∷ []) ∷ Field 1 6 6 (2 ∷ 0 ∷ 0 ∷ 0 ∷ 0 ∷ 2 ∷ []) ∷ Field 2 12 2 (8 ∷ 0 ∷ []) ∷ [] }
    ∷ record { number = 2; pos = 14; size = 20; nodes = Field 0 14 1 (4 ∷ []) ∷ Field 1 14 1 (5 ∷ []) ∷ Field 2 15 1 (0 ∷ []) ∷ Field 3 16 2 (0 ∷ 43 ∷ []) ∷ Field 4 18 4 (0 ∷ 1 ∷ 64 ∷ 0 ∷ []) ∷ Field 5 22 1 (64 ∷ []) ∷ Field 6 23 1 (6 ∷ []) ∷ Field 7 24 2 (0 ∷ 0 ∷ []) ∷ Field 8 26 4 (192 ∷ 168 ∷ 0 ∷ 2 ∷ []) ∷ Field 9 30 4 (192 ∷ 168 ∷ 0 ∷ 1 ∷ []) ∷ Field 10 34 0 [] ∷ [] }
    ∷ record { number = 3; pos = 34; size = 20; nodes = Field 0 34 2 (0 ∷ 80 ∷ []) ∷ Field 1 36 2 (192 ∷ 0 ∷ []) ∷ Field 2 38 8 (0 ∷ 0 ∷ 0 ∷ 5 ∷ 0 ∷ 0 ∷ 0 ∷ 2 ∷ []) ∷ Field 3 46 1 (5 ∷ []) ∷ Field 4 46 1 (0 ∷ []) ∷ Field 5 47 1 (24 ∷ []) ∷ Field 6 48 2 (255 ∷ 255 ∷ []) ∷ Field 7 50 4 (0 ∷ 0 ∷ 0 ∷ 0 ∷ []) ∷ Field 8 54 0 [] ∷ [] }
    ∷ record { number = 4; pos = 54; size = 3; nodes = Field 0 54 3 (72 ∷ 73 ∷ 10 ∷ []) ∷ [] }
    ∷ []

-- the stray one has no session, and shows payload
abbrev pub stray_tree : List Proto
stray_tree =
    record { number = 0; pos = 0; size = 0; nodes = [] }
    ∷ record { number = 1; pos = 0; size = 14; nodes = Field 0 0 6 (2 ∷ 0 ∷ 0 ∷ 0 ∷ 0 ∷ 1 ∷ []) ∷ Field 1 6 6 (2 ∷ 0 ∷ 0 ∷ 0 ∷ 0 ∷ 2 ∷ []) ∷ Field 2 12 2 (8 ∷ 0 ∷ []) ∷ [] }
    ∷ record { number = 2; pos = 14; size = 20; nodes = Field 0 14 1 (4 ∷ []) ∷ Field 1 14 1 (5 ∷ []) ∷ Field 2 15 1 (0 ∷ []) ∷ Field 3 16 2 (0 ∷ 43 ∷ []) ∷ Field 4 18 4 (0 ∷ 1 ∷ 64 ∷ 0 ∷ []) ∷ Field 5 22 1 (64 ∷ []) ∷ Field 6 23 1 (6 ∷ []) ∷ Field 7 24 2 (0 ∷ 0 ∷ []) ∷ Field 8 26 4 (192 ∷ 168 ∷ 0 ∷ 2 ∷ []) ∷ Field 9 30 4 (192 ∷ 168 ∷ 0 ∷ 1 ∷ []) ∷ Field 10 34 0 [] ∷ [] }
    ∷ record { number = 3; pos = 34; size = 20; nodes = Field 0 34 2 (0 ∷ 80 ∷ []) ∷ Field 1 36 2 (192 ∷ 1 ∷ []) ∷ Field 2 38 8 (0 ∷ 0 ∷ 0 ∷ 5 ∷ 0 ∷ 0 ∷ 0 ∷ 2 ∷ []) ∷ Field 3 46 1 (5 ∷ []) ∷ Field 4 46 1 (0 ∷ []) ∷ Field 5 47 1 (24 ∷ []) ∷ Field 6 48 2 (255 ∷ 255 ∷ []) ∷ Field 7 50 4 (0 ∷ 0 ∷ 0 ∷ 0 ∷ []) ∷ Field 8 54 0 [] ∷ [] }
    ∷ record { number = 65535; pos = 54; size = 3; nodes = Field 0 54 3 (72 ∷ 73 ∷ 10 ∷ []) ∷ [] }
    ∷ []
