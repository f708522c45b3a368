-- The bytes that no protocol took.
use Rattle.std.specs.Prelude.{◌≡◌, ℕ, ◌-◌, ◌<◌, ◌≤◌, Bool, true, false, if◌then◌else◌, nat_lt, List, [], ◌∷◌, ◌++◌, length, take, drop, Result, Err, OnOk}
use Rattle.std.proofs.Common.{sym, ap, subst, ◌∙◌, append-nil}
use Rattle.std.proofs.lemmas.Bool.{lt-ltb, le-ltb}
use Rattle.std.proofs.lemmas.List.{take_rest}
use Rattle.db_model.specs.declared.env.Frame.{Frame}
use Rattle.db_model.specs.declared.limits.TheConstants.{PAYLOAD}
use Rattle.db_model.specs.declared.no_memory.NoMemory.{NoMemory}
use Rattle.db_model.specs.declared.tree.Node.{Node}
use Rattle.db_model.specs.declared.tree.Node.TheVariants.{Field}
use Rattle.db_model.specs.declared.tree.Proto.{Proto}
use Rattle.db_model.specs.Decoding.{payload}

pub on_refused : {A : Type 0} (P : Type 0) (o : Result A NoMemory) (e : NoMemory) → o ≡ Err e → OnOk o P
on_refused {A} P o e h = subst (λ (x : Result A NoMemory). OnOk x P) (sym h) tt

if_true : {A : Type 0} (b : Bool) (x y : A) → b ≡ true → (if b then x else y) ≡ x
if_true b x y h = ap (λ (c : Bool). if c then x else y) h

if_false : {A : Type 0} (b : Bool) (x y : A) → b ≡ false → (if b then x else y) ≡ y
if_false b x y h = ap (λ (c : Bool). if c then x else y) h

abbrev field_of : ℕ → ℕ → List ℕ → List Node
field_of at size value = Field 0 at size value ∷ []

abbrev proto_of : ℕ → ℕ → List Node → List Proto
proto_of at size nodes = record { number = PAYLOAD; pos = at; size = size; nodes = nodes } ∷ []

-- the bytes from a position on
abbrev bytes_from : ℕ → List ℕ → List Proto
bytes_from at bs = proto_of at (length bs - at) (field_of at (length bs - at) (drop at bs))

module _ (z : Frame) (bs : List ℕ) (same : bs ≡ z.env.packet.bytes) (ps : List Proto) where
  pub none_over : length bs ≤ z.env.at → ps ≡ ps ++ payload z
  none_over h =
      let n : nat_lt z.env.at (length z.env.packet.bytes) ≡ false = le-ltb z.env.at (length z.env.packet.bytes) (subst (λ (x : List ℕ). length x ≤ z.env.at) same h) in
      let e : payload z ≡ [] = if_false (nat_lt z.env.at (length z.env.packet.bytes)) (bytes_from z.env.at z.env.packet.bytes) [] n in
      sym (ap (λ (x : List Proto). ps ++ x) e ∙ append-nil ps)

  pub some_over : (all : List Proto) (size : ℕ) (value : List ℕ) (none nodes : List Node) → z.env.at < length bs → size ≡ length bs - z.env.at → value ≡ take (length bs - z.env.at) (drop z.env.at bs) → none ≡ [] → nodes ≡ none ++ field_of z.env.at size value → all ≡ ps ++ proto_of z.env.at size nodes → all ≡ ps ++ payload z
  some_over all size value none nodes more s v m n e =
      let t : nat_lt z.env.at (length z.env.packet.bytes) ≡ true = lt-ltb z.env.at (length z.env.packet.bytes) (subst (λ (x : List ℕ). z.env.at < length x) same more) in
      let p : payload z ≡ bytes_from z.env.at z.env.packet.bytes = if_true (nat_lt z.env.at (length z.env.packet.bytes)) (bytes_from z.env.at z.env.packet.bytes) [] t in
      let f : nodes ≡ field_of z.env.at (length bs - z.env.at) (drop z.env.at bs) = n ∙ (ap (λ (x : List Node). x ++ field_of z.env.at size value) m ∙ (ap (λ x. field_of z.env.at x value) s ∙ ap (λ (x : List ℕ). field_of z.env.at (length bs - z.env.at) x) (v ∙ take_rest bs z.env.at))) in
      let q : proto_of z.env.at size nodes ≡ bytes_from z.env.at bs = ap (λ x. proto_of z.env.at x nodes) s ∙ ap (λ (x : List Node). proto_of z.env.at (length bs - z.env.at) x) f in
      e ∙ ap (λ (x : List Proto). ps ++ x) (q ∙ (ap (λ (x : List ℕ). bytes_from z.env.at x) same ∙ sym p))
