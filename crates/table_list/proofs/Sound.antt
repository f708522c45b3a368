-- What a table keeps, after a call that took the memory for one.
use Rattle.std.specs.Prelude.{◌≡◌, ℕ, ◌+◌, ◌<◌, ◌≤◌, Bool, true, false, ◌&&◌, nat_le, if◌then◌else◌, List, [], ◌∷◌, ◌++◌, length, Option, Some, None}
use Rattle.std.proofs.Common.{refl, sym, ap, subst, ◌∙◌, arith}
use Rattle.std.specs.List.{All}
use Rattle.std.proofs.lemmas.List.{length_push}
use Rattle.std.proofs.lemmas.List.Elements.{All-pop, All-nil, All-append}
use Rattle.db_laws.specs.Laws.{TableFits}
use Rattle.db_model.specs.declared.database.TableDecl.{TableDecl}
use Rattle.db_model.specs.declared.entry.Entry.{Entry}
use Rattle.db_model.specs.declared.limits.TheConstants.{STAMP_END}
use Rattle.db_model.specs.declared.question.Answer.{Answer}
use Rattle.db_model.specs.declared.question.Answer.TheVariants.{Miss, Hit}
use Rattle.db_model.specs.Fitting.{table_fits, look_fits, row_fits, hit_fits}
use Rattle.db_model.specs.Kept.{Kept}
use Rattle.db_model.specs.Table.{Parts, KeyList, empty, look, answered, matching_entry, renewed_by}
use Rattle.table_list.specs.declared.blank.Ready.{Ready}
use Rattle.table_list.specs.declared.lists.Lists.{Lists}
use Rattle.table_list.specs.declared.space.Space.{Space}
use Rattle.table_list.specs.Lists.{content, HasRoom, IsSound}
use Rattle.table_list.specs.Ready.{ready}
use Rattle.table_list.specs.Space.{key_space, row_space}
use Rattle.std.proofs.lemmas.Bool.{le-leb}

-- the last one was as each is, and the others go on to be
pub taken : {X : Type 0} (P : X → Type 0) (rs ss : List X) (r : X) → rs ≡ ss ++ r ∷ [] → All P rs → P r × All P ss
taken P rs ss r e h = let w = All-pop P rs ss (Some r) e h in (w.1, w.0)

pub one_less : {X : Type 0} (rs ss : List X) (r : X) → rs ≡ ss ++ r ∷ [] → length rs ≡ length ss + 1
one_less rs ss r e = ap length e ∙ length_push ss r

pub room_after : (l : Lists) (rs ss : List Ready) (r : Ready) → rs ≡ ss ++ r ∷ [] → HasRoom (length rs) l → HasRoom (length ss + 1) l
room_after l rs ss r e h = subst (λ n. HasRoom n l) (one_less rs ss r e) h

pub room_for_one : (n : ℕ) (l : Lists) → HasRoom (n + 1) l → HasRoom 1 l
room_for_one n l h = record { exact = omega (arith, h.exact); masked = omega (arith, h.masked) }

pub room_less : (n : ℕ) (l : Lists) → HasRoom (n + 1) l → HasRoom n l
room_less n l h = record { exact = omega (arith, h.exact); masked = omega (arith, h.masked) }

pub sound_after : (d : TableDecl) (keys row : Space) (l m : Lists) (rs ss : List Ready) (r : Ready) → IsSound d keys row l rs → rs ≡ ss ++ r ∷ [] → table_fits d (content m) ≡ true → Kept d (content m) → ((n : ℕ) → HasRoom (n + 1) l → HasRoom n m) → IsSound d keys row m ss
sound_after d keys row l m rs ss r h e f k g = record {
  keys_space = h.keys_space;
  row_space = h.row_space;
  fits = f;
  kept = k;
  ready = (taken (λ x. x ≡ ready keys row) rs ss r e h.ready).1;
  room = g (length ss) (room_after l rs ss r e h.room);
}

-- ---- a look-up, by what it hits

pub missed : (d : TableDecl) (t : Parts) (keys : KeyList) (renew : Bool) (now : ℕ) → matching_entry t keys now ≡ None → look d t keys renew now ≡ (Miss, t)
unfolding look
missed d t keys renew now p = ap (answered d t keys renew now) p

pub hit : (d : TableDecl) (t : Parts) (keys : KeyList) (renew : Bool) (now : ℕ) (e : Entry) → matching_entry t keys now ≡ Some e → look d t keys renew now ≡ (Hit e.row, if renew then renewed_by e.validity d t keys now e else t)
unfolding look
hit d t keys renew now e p = ap (answered d t keys renew now) p

-- the row of what it hits fits
pub hit_row : (law : TableFits) (d : TableDecl) (t : Parts) (keys : KeyList) (renew : Bool) (now : ℕ) (e : Entry) → table_fits d t ≡ true → look_fits d keys ≡ true → now < STAMP_END → matching_entry t keys now ≡ Some e → row_fits d.columns e.row ≡ true
hit_row law d t keys renew now e f k s p = subst (λ (a : Answer × Parts). hit_fits d a.0 ≡ true) (hit d t keys renew now e p) (law.looked d t keys renew now f k s).0

-- ---- a table to which nothing was added

empty_fits : (d : TableDecl) → table_fits d empty ≡ true
unfolding table_fits
empty_fits d = ap (λ (b : Bool). (b && true) && (nat_le 0 d.mask_entries && true)) (le-leb 0 d.exact_entries (omega arith)) ∙ ap (λ (b : Bool). b && true) (le-leb 0 d.mask_entries (omega arith))

empty_kept : (d : TableDecl) → Kept d empty
empty_kept d = record { exact_apart = λ i j x y p q k m. (cc); masked_apart = λ i j x y p q k m. (cc); exact_room = omega arith; masked_room = omega arith }

pub sound_new : (d e : TableDecl) (keys row : Space) (l : Lists) (rs : List Ready) → e ≡ d → keys ≡ key_space d → row ≡ row_space d → content l ≡ empty → HasRoom 0 l → rs ≡ [] → IsSound e keys row l rs
sound_new d e keys row l rs p k r c h n = record {
  keys_space = k ∙ ap key_space (sym p);
  row_space = r ∙ ap row_space (sym p);
  fits = ap (λ t. table_fits e t) c ∙ empty_fits e;
  kept = subst (λ t. Kept e t) (sym c) (empty_kept e);
  ready = subst (λ (xs : List Ready). All (λ x. x ≡ ready keys row) xs) (sym n) (All-nil (λ (x : Ready). x ≡ ready keys row));
  room = subst (λ (xs : List Ready). HasRoom (length xs) l) (sym n) h;
}

-- ---- more room

pub sound_lists : (d : TableDecl) (keys row : Space) (l m : Lists) (rs : List Ready) → IsSound d keys row l rs → content m ≡ content l → ((n : ℕ) → HasRoom n l → HasRoom n m) → IsSound d keys row m rs
sound_lists d keys row l m rs h c g = record {
  keys_space = h.keys_space;
  row_space = h.row_space;
  fits = ap (λ t. table_fits d t) c ∙ h.fits;
  kept = subst (λ t. Kept d t) (sym c) h.kept;
  ready = h.ready;
  room = g (length rs) h.room;
}

pub sound_more : (d : TableDecl) (keys row : Space) (l m : Lists) (rs ms qs : List Ready) → IsSound d keys row l rs → content m ≡ content l → All (λ r. r ≡ ready keys row) ms → qs ≡ rs ++ ms → HasRoom (length qs) m → IsSound d keys row m qs
sound_more d keys row l m rs ms qs h c a e g = record {
  keys_space = h.keys_space;
  row_space = h.row_space;
  fits = ap (λ t. table_fits d t) c ∙ h.fits;
  kept = subst (λ t. Kept d t) (sym c) h.kept;
  ready = subst (λ (xs : List Ready). All (λ x. x ≡ ready keys row) xs) (sym e) (All-append (λ (x : Ready). x ≡ ready keys row) rs ms h.ready a);
  room = g;
}
