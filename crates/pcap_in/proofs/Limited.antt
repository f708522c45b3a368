-- What a limit of packets makes of what is seen.
use Rattle.std.proofs.Common.{◌≡◌, ◌<◌, ◌≤◌, ◌+◌, ◌-◌, ◌⊎◌, inl, inr, ⊎_elim, ℕ, Bool, true, false, ltb, List, [], ◌∷◌, ◌++◌, length, take, drop, refl, sym, ap, ◌∙◌, append-nil, length-append, length-drop, arith}
use Rattle.std.specs.Prelude.{nat_lt, if◌then◌else◌}
use Rattle.std.proofs.lemmas.Bool.Decides.{nat_tests}
use Rattle.std.proofs.lemmas.List.{length-take-le, take-append-drop, take_all, take_at}
use Rattle.db_model.specs.declared.packet.Packet.{Packet}
use Rattle.pcap_in.specs.Capture.{End, Whole, Broken, Limit, Seen, whole_end, with_front, cap, seen, end_at_limit, limited}
use Rattle.pcap_in.specs.Laws.{SeenIsLimited, LimitedIsRead}
use Rattle.pcap_in.proofs.Ends.{seen_is_read}

-- by whether there are fewer packets than may be seen, and whether there are more
abbrev made : List Packet → Bool → Bool → End → Seen
made packets below above end = record { packets = packets; end = if below then end else (if above then Limit else end_at_limit end) }

abbrev by_count : ℕ → List Packet → List Packet → End → Seen
by_count most packets all end = made packets (nat_lt (length all) most) (nat_lt most (length all)) end

is_below : (n m : ℕ) → n < m → nat_lt n m ≡ true
is_below n m h = grind (arith, nat_tests)

not_below : (n m : ℕ) → m ≤ n → nat_lt n m ≡ false
not_below n m h = grind (arith, nat_tests)

limit_below : (packets more : List Packet) (end : End) (most : ℕ) → length packets < most → more ≡ []
    → limited most (record { packets = packets ++ more; end = end }) ≡ record { packets = packets; end = end }
limit_below packets more end most few none =
    let all : packets ++ more ≡ packets = ap (λ (l : List Packet). packets ++ l) none ∙ append-nil packets in
    ap (λ (l : List Packet). by_count most (take most l) l end) all
    ∙ ap (λ (l : List Packet). by_count most l packets end) (take_all most packets (omega arith))
    ∙ ap (λ (t : Bool). made packets t (nat_lt most (length packets)) end) (is_below (length packets) most few)

-- as many as may be seen, and no more
limit_same : (packets : List Packet) (end : End) (most : ℕ) → length packets ≡ most
    → limited most (record { packets = packets ++ []; end = end }) ≡ record { packets = packets; end = end_at_limit end }
limit_same packets end most full =
    ap (λ (l : List Packet). by_count most (take most l) l end) (append-nil packets)
    ∙ ap (λ (l : List Packet). by_count most l packets end) (take_all most packets (omega arith))
    ∙ ap (λ (t : Bool). made packets t (nat_lt most (length packets)) end) (not_below (length packets) most (omega arith))
    ∙ ap (λ (t : Bool). made packets false t end) (not_below most (length packets) (omega arith))

limit_passed : (packets more : List Packet) (end : End) (most : ℕ) → length packets ≡ most → 0 < length more
    → limited most (record { packets = packets ++ more; end = end }) ≡ record { packets = packets; end = Limit }
limit_passed packets more end most full some =
    let both = length-append packets more in
    ap (λ (l : List Packet). by_count most l (packets ++ more) end) (take_at packets more most full)
    ∙ ap (λ (t : Bool). made packets t (nat_lt most (length (packets ++ more))) end) (not_below (length (packets ++ more)) most (omega arith))
    ∙ ap (λ (t : Bool). made packets false t end) (is_below most (length (packets ++ more)) (omega arith))

limit_reached : (packets more : List Packet) (end : End) (most : ℕ) → length packets ≡ most → ((record { packets = more; end = end }) ≡ whole_end → ⊥)
    → limited most (record { packets = packets ++ more; end = end }) ≡ record { packets = packets; end = Limit }
limit_reached packets [] Whole most full goes_on = absurd (goes_on refl)
limit_reached packets [] (Broken offset code) most full goes_on = limit_same packets (Broken offset code) most full
limit_reached packets [] Limit most full goes_on = limit_same packets Limit most full
limit_reached packets (p ∷ ps) end most full goes_on = limit_passed packets (p ∷ ps) end most full (omega arith)

pub limited_is_read : LimitedIsRead
limited_is_read packets rest most = record {
  below = limit_below packets rest.packets rest.end most;
  at_end = λ full ends. ap (λ (s : Seen). limited most (with_front packets s)) ends ∙ limit_same packets Whole most full;
  at_limit = limit_reached packets rest.packets rest.end most;
}

-- ---- what is seen of a capture

order : (n m : ℕ) → (n < m) ⊎ ((n ≡ m) ⊎ (m < n))
order n m = by_tests (ltb n m) (ltb m n) refl refl
  where
    by_tests : (below above : Bool) → ltb n m ≡ below → ltb m n ≡ above → (n < m) ⊎ ((n ≡ m) ⊎ (m < n))
    by_tests true above b a = inl (grind (arith, nat_tests))
    by_tests false true b a = inr (inr (grind (arith, nat_tests)))
    by_tests false false b a = inr (inl (grind (arith, nat_tests)))

-- what these packets and this end are, with the packets in front
in_front : (packets : List Packet) (end : End) → record { packets = packets; end = end } ≡ with_front packets (record { packets = []; end = end })
in_front packets end = ap (λ (l : List Packet). record { packets = l; end = end }) (sym (append-nil packets))

seen_full : (b : List ℕ) (packets : List Packet) (end : End) (most : ℕ) → 0 < most → cap b ≡ with_front packets (record { packets = []; end = end }) → length packets ≡ most
    → seen b most ≡ record { packets = packets; end = end_at_limit end }
seen_full b packets Whole most some e full = (seen_is_read b packets whole_end most some e).at_end full refl
seen_full b packets (Broken offset code) most some e full = (seen_is_read b packets (record { packets = []; end = Broken offset code }) most some e).at_limit full (λ same. broken_ends (ap (λ (s : Seen). s.end) same))
  where
    broken_ends : Broken offset code ≡ Whole → ⊥
    broken_ends e = cc
seen_full b packets Limit most some e full = (seen_is_read b packets (record { packets = []; end = Limit }) most some e).at_limit full (λ same. limit_ends (ap (λ (s : Seen). s.end) same))
  where
    limit_ends : Limit ≡ Whole → ⊥
    limit_ends e = cc

none_more : (more : List Packet) → 0 < length more → more ≡ [] → ⊥
none_more more some e = let n = ap length e in omega arith

pub seen_is_limited : SeenIsLimited
seen_is_limited b most some =
    let s = cap b in
    let whole = in_front s.packets s.end in
    let read = seen_is_read b s.packets (record { packets = []; end = s.end }) most some whole in
    ⊎_elim
    (λ few. read.below few refl ∙ sym (ap (limited most) whole ∙ limit_below s.packets [] s.end most few refl))
    (λ more. ⊎_elim
    (λ full. seen_full b s.packets s.end most some whole full ∙ sym (ap (limited most) whole ∙ limit_same s.packets s.end most full))
    (λ above.
    let front = take most s.packets in
    let back = drop most s.packets in
    let parts : front ++ back ≡ s.packets = take-append-drop most s.packets in
    let full : length front ≡ most = length-take-le most s.packets (omega arith) in
    let left = length-drop most s.packets in
    let is : cap b ≡ with_front front (record { packets = back; end = s.end }) = ap (λ (l : List Packet). record { packets = l; end = s.end }) (sym parts) in
    (seen_is_read b front (record { packets = back; end = s.end }) most some is).at_limit full (λ same. none_more back (omega arith) (ap (λ (s : Seen). s.packets) same))
    ∙ sym (ap (limited most) is ∙ limit_passed front back s.end most full (omega arith))) more) (order (length s.packets) most)
