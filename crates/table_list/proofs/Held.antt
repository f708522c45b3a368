-- What is asked of a table, and what it holds, has room in the memory of one call.
use Rattle.std.specs.Prelude.{◌≡◌, ℕ, ◌+◌, ◌<◌, ◌≤◌, Bool, true, false, not, is_some, ◌&&◌, List, [], ◌∷◌, ◌++◌, length, Option, Some, None, IfSome}
use Rattle.std.proofs.Common.{refl, sym, ap, subst, ◌∙◌, arith}
use Rattle.db_model.specs.declared.database.TableDecl.{TableDecl}
use Rattle.db_model.specs.declared.entry.Entry.{Entry}
use Rattle.db_model.specs.declared.entry.NewEntry.{NewEntry}
use Rattle.db_model.specs.declared.value.Value.{Value}
use Rattle.db_model.specs.Expression.{key_sizes}
use Rattle.db_model.specs.Fitting.{keys_fit, masks_fit, row_fits, entry_fits, exact_fits, masked_fits, add_fits, look_fits, deadline_fits}
use Rattle.db_model.specs.Forms.{is_number}
use Rattle.db_model.specs.Table.{KeyList, same_keys, masked_by}
use Rattle.table_list.specs.declared.blank.Ready.{Ready}
use Rattle.table_list.specs.declared.lists.Lists.{Lists}
use Rattle.table_list.specs.declared.space.Space.{Space}
use Rattle.table_list.specs.Lists.{part_fits, IsSound}
use Rattle.table_list.specs.Ready.{ready}
use Rattle.table_list.specs.Space.{key_space, row_space, HoldsKeys, HoldsRow}
use Rattle.table_list.proofs.Sound.{taken}
use Rattle.table_list.proofs.Widths.{keys_hold, masks_hold, row_holds}

two : (a b : Bool) → (a && b) ≡ true → (a ≡ true) × (b ≡ true)
two true b h = (refl, h)
two false b h = (cc)

module _ (d : TableDecl) (keys row : Space) (l : Lists) (rs ss : List Ready) (r : Ready) (h : IsSound d keys row l rs) (p : rs ≡ ss ++ r ∷ []) where
  is_ready : r ≡ ready keys row
  is_ready = (taken (λ x. x ≡ ready keys row) rs ss r p h.ready).0

  pub holds_keys : (ks : KeyList) → keys_fit (key_sizes (Some d)) ks ≡ true → HoldsKeys r.entry.keys ks
  holds_keys ks f = subst (λ s. HoldsKeys s ks) (sym (ap (λ (x : Ready). x.entry.keys) is_ready ∙ h.keys_space)) (keys_hold d ks f)

  pub holds_masks : (o : Option KeyList) → masks_fit (key_sizes (Some d)) o ≡ true → IfSome o (HoldsKeys r.entry.masks)
  holds_masks o f = subst (λ s. IfSome o (HoldsKeys s)) (sym (ap (λ (x : Ready). x.entry.masks) is_ready ∙ h.keys_space)) (masks_hold d o f)

  pub holds_row : (vs : List Value) → row_fits d.columns vs ≡ true → HoldsRow r.entry.row vs
  holds_row vs f = subst (λ s. HoldsRow s vs) (sym (ap (λ (x : Ready). x.entry.row) is_ready ∙ h.row_space)) (row_holds d vs f)

  pub holds_answer : (vs : List Value) → row_fits d.columns vs ≡ true → HoldsRow r.answer vs
  holds_answer vs f = subst (λ s. HoldsRow s vs) (sym (ap (λ (x : Ready). x.answer) is_ready ∙ h.row_space)) (row_holds d vs f)

-- ---- what fits, part by part

pub record Facts (d : TableDecl) (ks : KeyList) (ms : Option KeyList) (vs : List Value) : Type 0 where
  pub keys : keys_fit (key_sizes (Some d)) ks ≡ true
  pub masks : masks_fit (key_sizes (Some d)) ms ≡ true
  pub row : row_fits d.columns vs ≡ true

entry_facts : (d : TableDecl) (e : Entry) → entry_fits d e ≡ true → Facts d e.keys e.masks e.row
entry_facts d e h =
    let a = two (keys_fit (key_sizes (Some d)) e.keys) (masks_fit (key_sizes (Some d)) e.masks && (row_fits d.columns e.row && (is_number e.hit && deadline_fits e.validity e.deadline))) h in
    let b = two (masks_fit (key_sizes (Some d)) e.masks) (row_fits d.columns e.row && (is_number e.hit && deadline_fits e.validity e.deadline)) a.1 in
    record { keys = a.0; masks = b.0; row = (two (row_fits d.columns e.row) (is_number e.hit && deadline_fits e.validity e.deadline) b.1).0 }

pub part_facts : (masked : Bool) (d : TableDecl) (e : Entry) → part_fits masked d e ≡ true → Facts d e.keys e.masks e.row
part_facts false d e h = entry_facts d e (two (not (is_some e.masks)) (entry_fits d e) h).1
part_facts true d e h = entry_facts d e (two (same_keys (masked_by e.masks e.keys) e.keys) (entry_fits d e) (two (is_some e.masks) (same_keys (masked_by e.masks e.keys) e.keys && entry_fits d e) h).1).1

pub add_facts : (d : TableDecl) (n : NewEntry) → add_fits d n ≡ true → Facts d n.keys n.masks n.row
unfolding add_fits
add_facts d n h =
    let a = two (keys_fit (key_sizes (Some d)) n.keys) (masks_fit (key_sizes (Some d)) n.masks && (row_fits d.columns n.row && (is_number n.keep && is_number n.hit))) h in
    let b = two (masks_fit (key_sizes (Some d)) n.masks) (row_fits d.columns n.row && (is_number n.keep && is_number n.hit)) a.1 in
    record { keys = a.0; masks = b.0; row = (two (row_fits d.columns n.row) (is_number n.keep && is_number n.hit) b.1).0 }

pub look_facts : (d : TableDecl) (keys : KeyList) → look_fits d keys ≡ true → keys_fit (key_sizes (Some d)) keys ≡ true
unfolding look_fits
look_facts d keys h = h
