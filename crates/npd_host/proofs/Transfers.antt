-- How what one call moved and what the next moved are what both moved.
use Rattle.std.proofs.Common.{◌≡◌, ◌≤◌, ◌+◌, ◌-◌, ℕ, List, [], ◌++◌, length, take, drop, Option, Some, None, refl, sym, ap, ◌∙◌, subst, append_assoc, append-nil, length-append, arith}
use Rattle.std.proofs.Math.Seq.{take-append-add, take-add}
use Rattle.std.proofs.lemmas.List.{length-take-le, take-append-le, take_rest}
use borrow.Rule.Slice.PartMut.{put_mid, post_of}
use Rattle.std.specs.Io.KnownBytes.{append_known}
use Rattle.npd_host.specs.Host.{Inputs, Outputs, FrontIs, Gave, Took, TookPart}

FrontIs-nil : (held : Option (List ℕ)) → FrontIs held held []
FrontIs-nil None = refl
FrontIs-nil (Some bytes) = (bytes, refl, refl)

FrontIs-then : (a b c : Option (List ℕ)) (xs ys : List ℕ) → FrontIs a b xs → FrontIs b c ys → FrontIs a c (xs ++ ys)
FrontIs-then None b c xs ys p q = let P : Option (List ℕ) → Type 0 = λ o. FrontIs o c ys in subst P p q
FrontIs-then (Some held) b c xs ys p q =
    let P : Option (List ℕ) → Type 0 = λ o. FrontIs o c ys in
    let r : FrontIs (Some p.0) c ys = subst P p.1 q in
    (r.0, r.1, p.2 ∙ ap (λ l. xs ++ l) r.2 ∙ sym (append_assoc xs ys r.0))

append_known-nil : (taken : Option (List ℕ)) → taken ≡ append_known taken []
append_known-nil None = refl
append_known-nil (Some bytes) = ap Some (sym (append-nil bytes))

append_known-append : (taken : Option (List ℕ)) (xs ys : List ℕ) → append_known (append_known taken xs) ys ≡ append_known taken (xs ++ ys)
append_known-append None xs ys = refl
append_known-append (Some bytes) xs ys = ap Some (append_assoc bytes xs ys)

-- before the first read nothing was given
pub gave_none : (id : ℕ) (r : Inputs) → Gave id r r []
gave_none id r = record {
  opened = refl;
  names = refl;
  front = FrontIs-nil (r.held id);
  others = λ other h. refl;
}

-- what two reads gave, one after the other
pub gave_then : (id : ℕ) (r s t : Inputs) (xs ys : List ℕ) → Gave id r s xs → Gave id s t ys → Gave id r t (xs ++ ys)
gave_then id r s t xs ys p q = record {
  opened = q.opened ∙ p.opened;
  names = q.names ∙ p.names;
  front = FrontIs-then (r.held id) (s.held id) (t.held id) xs ys p.front q.front;
  others = λ other h. q.others other h ∙ p.others other h;
}

-- before the first write nothing was taken
pub took_none : (id : ℕ) (r : Outputs) → Took id r r []
took_none id r = record {
  opened = refl;
  names = refl;
  taken = append_known-nil (r.taken id);
  others = λ other h. refl;
}

-- what two writes took, one after the other
pub took_then : (id : ℕ) (r s t : Outputs) (xs ys : List ℕ) → Took id r s xs → Took id s t ys → Took id r t (xs ++ ys)
took_then id r s t xs ys p q = record {
  opened = q.opened ∙ p.opened;
  names = q.names ∙ p.names;
  taken = q.taken ∙ ap (λ o. append_known o ys) p.taken ∙ append_known-append (r.taken id) xs ys;
  others = λ other h. q.others other h ∙ p.others other h;
}

-- a whole piece was taken, then a part of the next; more pieces may follow
pub part_then : (id : ℕ) (r s t : Outputs) (xs ys zs whole : List ℕ) → Took id r s xs → TookPart id s t ys → whole ≡ xs ++ (ys ++ zs) → TookPart id r t whole
part_then id r s t xs ys zs whole p q e = record {
  front = xs ++ q.front;
  back = q.back ++ zs;
  proper = let h = q.proper in omega (arith, length-append q.back zs);
  parts = e ∙ ap (λ l. xs ++ (l ++ zs)) q.parts ∙ ap (λ l. xs ++ l) (append_assoc q.front q.back zs) ∙ sym (append_assoc xs q.front (q.back ++ zs));
  took = took_then id r s t xs q.front p q.took;
}

-- after n bytes were put behind the first a, the first a + n are those and these
pub take-put_mid_front : (a k n : ℕ) (xs ys : List ℕ) → a ≤ length xs → n ≤ length ys → take (a + n) (put_mid a k xs ys) ≡ take a xs ++ take n ys
take-put_mid_front a k n xs ys hx hy =
    ap (λ m. take (m + n) (put_mid a k xs ys)) (sym (length-take-le a xs hx))
    ∙ take-append-add (take a xs) (ys ++ post_of a k xs) n
    ∙ ap (λ l. take a xs ++ l) (take-append-le n ys (post_of a k xs) hy)

-- the first a, and then n of the rest
pub take-rest_front : (a n : ℕ) (xs : List ℕ) → take a xs ++ take n (take (length xs - a) (drop a xs)) ≡ take (a + n) xs
take-rest_front a n xs = ap (λ l. take a xs ++ take n l) (take_rest xs a) ∙ sym (take-add a n xs)
