-- The states of a list of packets from a later one on.
use Rattle.std.specs.Prelude.{◌≡◌, ℕ, zero, suc, ◌+◌, List, [], ◌∷◌, drop, slice_get, Option}
use Rattle.std.proofs.Common.{refl, ap, ◌∙◌, arith}
use Rattle.db_model.specs.declared.database.Database.{Database}
use Rattle.db_model.specs.declared.packet.Packet.{Packet}
use Rattle.db_model.specs.Serial.{decoded, state, decoded_at}
use Rattle.db_model.specs.Session.{Session}

get_drop : {X : Type 0} (xs : List X) (m k : ℕ) → slice_get (drop m xs) k ≡ slice_get xs (m + k)
get_drop xs zero k = ap (slice_get xs) (omega arith)
get_drop [] (suc m) k = refl
get_drop (x ∷ xs) (suc m) k = get_drop xs m k ∙ ap (slice_get (x ∷ xs)) (let e : suc (m + k) ≡ suc m + k = omega arith in e)

pub state_from : (db : Database) (s : Session) (ps : List Packet) (m k : ℕ) → state db (state db s ps m) (drop m ps) k ≡ state db s ps (m + k)
state_from db s ps m zero = ap (state db s ps) (omega arith)
state_from db s ps m (suc k) =
    ap (λ (p : Option Packet). (decoded db p (state db (state db s ps m) (drop m ps) k)).session) (get_drop ps m k)
    ∙ ap (λ x. (decoded db (slice_get ps (m + k)) x).session) (state_from db s ps m k)
    ∙ ap (state db s ps) (let e : suc (m + k) ≡ m + suc k = omega arith in e)

pub decoded_from : (db : Database) (s : Session) (ps : List Packet) (m k : ℕ) → decoded_at db (state db s ps m) (drop m ps) k ≡ decoded_at db s ps (m + k)
decoded_from db s ps m k =
    ap (λ (p : Option Packet). decoded db p (state db (state db s ps m) (drop m ps) k)) (get_drop ps m k)
    ∙ ap (decoded db (slice_get ps (m + k))) (state_from db s ps m k)
