use Rattle.std.proofs.Common.{◌≡◌, ◌∙◌, Bool, true, false, if◌then◌else◌, Option, Some, IfSome, sym, ap, subst}
use Rattle.db_model.specs.declared.entry.Entry.{Entry}
use Rattle.db_model.specs.declared.question.Answer.{Answer}
use Rattle.db_model.specs.declared.question.Answer.TheVariants.{Miss, Hit}
use Rattle.db_model.specs.Fitting.{table_fits, look_fits}
use Rattle.db_model.specs.Kept.{Kept}
use Rattle.db_model.specs.Table.{Parts, look, matching_entry, renewed_by}
use Rattle.table_list.specs.Lists.{content}
use Rattle.table_list.specs.Space.{HoldsRow}
use Rattle.table_list.specs.State.{State}
use Rattle.table_list.proofs.Held.{holds_keys, holds_row, holds_answer, look_facts}
use Rattle.table_list.proofs.Sound.{sound_after, room_less, missed, hit, hit_row}
use Rattle.table_list.proofs.list_table.ListTableTable.look.Goals as goal
use Rattle.table_list.proofs.list_table.ListTableTable.look.Goals.{then-renew, else-renew}

pub returns-in_default-clause-answer : goal.returns-in_default-clause-answer
returns-in_default-clause-answer c =
    let s = c.self.inside in
    let d = s.declaration in
    let t = content s.lists in
    let keys = c.args.keys.now in
    let l : look d t keys c.args.renew c.args.t ≡ (Miss, t) = missed d t keys c.args.renew c.args.t (sym (c.in_default.ensures.entry)) in
    sym (ap (λ (r : Answer × Parts). r.0) l) ∙ ap (λ (x : State). (look x.declaration x.content keys c.args.renew c.args.t).0) c.self.view_is

pub returns-in_default-clause-content : goal.returns-in_default-clause-content
returns-in_default-clause-content c =
    let s = c.self.inside in
    let d = s.declaration in
    let t = content s.lists in
    let keys = c.args.keys.now in
    let l : look d t keys c.args.renew c.args.t ≡ (Miss, t) = missed d t keys c.args.renew c.args.t (sym (c.in_default.ensures.entry)) in
    ap (λ (x : State). x.content) (sym c.self.view_is) ∙ sym (ap (λ (r : Answer × Parts). r.1) l) ∙ ap (λ (x : State). (look x.declaration x.content keys c.args.renew c.args.t).1) c.self.view_is

pub entry-requires : goal.entry-requires
entry-requires c =
    c.in-Some.ensures.there

pub filled_row-row-requires : goal.filled_row-row-requires
filled_row-row-requires c =
    let s = c.self.inside in
    let d = s.declaration in
    let t = content s.lists in
    let keys = c.args.keys.now in
    let e = c.entry.result.now in
    let p : matching_entry t keys c.args.t ≡ Some e = sym c.in-Some.ensures.entry ∙ c.entry.ensures in
    let f : look_fits d keys ≡ true = subst (λ (x : State). look_fits x.declaration keys ≡ true) (sym c.self.view_is) c.requires.keys in
    let g = hit_row c.table_fits.ensures d t keys c.args.renew c.args.t e c.self.invariant.fits f c.requires.time p in
    subst (λ vs. HoldsRow c.take-ready.result.answer vs) (sym c.as_slice.ensures) (holds_answer d s.keys s.row s.lists s.ready.items c.take-ready.new.ready.items c.take-ready.result c.self.invariant c.take-ready.ensures e.row g)

pub renew-requires-clause-keys : goal.renew-requires-clause-keys
renew-requires-clause-keys c =
    let s = c.self.inside in
    let d = s.declaration in
    let t = content s.lists in
    let keys = c.args.keys.now in
    let f : look_fits d keys ≡ true = subst (λ (x : State). look_fits x.declaration keys ≡ true) (sym c.self.view_is) c.requires.keys in
    holds_keys d s.keys s.row s.lists s.ready.items c.take-ready.new.ready.items c.take-ready.result c.self.invariant c.take-ready.ensures keys (look_facts d keys f)

pub renew-requires-clause-row : goal.renew-requires-clause-row
renew-requires-clause-row c =
    let s = c.self.inside in
    let d = s.declaration in
    let t = content s.lists in
    let keys = c.args.keys.now in
    let e = c.entry.result.now in
    let p : matching_entry t keys c.args.t ≡ Some e = sym c.in-Some.ensures.entry ∙ c.entry.ensures in
    let f : look_fits d keys ≡ true = subst (λ (x : State). look_fits x.declaration keys ≡ true) (sym c.self.view_is) c.requires.keys in
    let g = hit_row c.table_fits.ensures d t keys c.args.renew c.args.t e c.self.invariant.fits f c.requires.time p in
    subst (λ (o : Option Entry). IfSome o (λ (x : Entry). HoldsRow c.take-ready.result.entry.row x.row)) (sym c.entry.ensures) (holds_row d s.keys s.row s.lists s.ready.items c.take-ready.new.ready.items c.take-ready.result c.self.invariant c.take-ready.ensures e.row g)

pub invariant_of-self : goal.invariant_of-self
invariant_of-self c =
    let s = c.self.inside in
    let d = s.declaration in
    let t = content s.lists in
    let keys = c.args.keys.now in
    let e = c.entry.result.now in
    let p : matching_entry t keys c.args.t ≡ Some e = sym c.in-Some.ensures.entry ∙ c.entry.ensures in
    let f : look_fits d keys ≡ true = subst (λ (x : State). look_fits x.declaration keys ≡ true) (sym c.self.view_is) c.requires.keys in
    let u = content c.renew.new.self in
    let q : u ≡ renewed_by e.validity d t keys c.args.t e = subst (λ (o : Option Entry). IfSome o (λ (x : Entry). u ≡ renewed_by x.validity d t keys c.args.t x)) c.entry.ensures c.renew.ensures.content in
    let w : u ≡ (look d t keys true c.args.t).1 = q ∙ sym (ap (λ (r : Answer × Parts). r.1) (hit d t keys true c.args.t e p)) in
    sound_after d s.keys s.row s.lists c.renew.new.self s.ready.items c.take-ready.new.ready.items c.take-ready.result c.self.invariant c.take-ready.ensures
    (ap (λ (x : Parts). table_fits d x) w ∙ (c.table_fits.ensures.looked d t keys true c.args.t c.self.invariant.fits f c.requires.time).1)
    (subst (λ (x : Parts). Kept d x) (sym w) (c.table_keeps.ensures.looked d t keys true c.args.t c.self.invariant.kept))
    c.renew.ensures.room

pub invariant_of-self-else-renew : goal.invariant_of-self-else-renew
invariant_of-self-else-renew c =
    let s = c.self.inside in
    sound_after s.declaration s.keys s.row s.lists s.lists s.ready.items c.take-ready.new.ready.items c.take-ready.result c.self.invariant c.take-ready.ensures c.self.invariant.fits c.self.invariant.kept (λ n h. room_less n s.lists h)

pub returns-clause-answer : goal.returns-clause-answer
returns-clause-answer c =
    let s = c.self.inside in
    let d = s.declaration in
    let t = content s.lists in
    let keys = c.args.keys.now in
    let e = c.entry.result.now in
    let p : matching_entry t keys c.args.t ≡ Some e = sym c.in-Some.ensures.entry ∙ c.entry.ensures in
    let r = renewed_by e.validity d t keys c.args.t e in
    let l : look d t keys c.args.renew c.args.t ≡ (Hit e.row, if c.args.renew then r else t) = hit d t keys c.args.renew c.args.t e p in
    ap Hit (c.filled_row-row.ensures ∙ c.as_slice.ensures) ∙ sym (ap (λ (x : Answer × Parts). x.0) l) ∙ ap (λ (x : State). (look x.declaration x.content keys c.args.renew c.args.t).0) c.self.view_is

pub returns-clause-content : goal.returns-clause-content
returns-clause-content c =
    let s = c.self.inside in
    let d = s.declaration in
    let t = content s.lists in
    let keys = c.args.keys.now in
    let e = c.entry.result.now in
    let p : matching_entry t keys c.args.t ≡ Some e = sym c.in-Some.ensures.entry ∙ c.entry.ensures in
    let r = renewed_by e.validity d t keys c.args.t e in
    let l : look d t keys c.args.renew c.args.t ≡ (Hit e.row, if c.args.renew then r else t) = hit d t keys c.args.renew c.args.t e p in
    elim c.if-renew.branch [
      | then-renew w ↦
          let q : content w.renew.new.self ≡ r = subst (λ (o : Option Entry). IfSome o (λ (x : Entry). content w.renew.new.self ≡ renewed_by x.validity d t keys c.args.t x)) c.entry.ensures w.renew.ensures.content in
          ap (λ (x : State). x.content) w.self-is ∙ q ∙ sym (ap (λ (b : Bool). if b then r else t) w.if-renew.true) ∙ sym (ap (λ (x : Answer × Parts). x.1) l) ∙ ap (λ (x : State). (look x.declaration x.content keys c.args.renew c.args.t).1) c.self.view_is
      | else-renew w ↦ ap (λ (x : State). x.content) w.self-is ∙ sym (ap (λ (b : Bool). if b then r else t) w.if-renew.false) ∙ sym (ap (λ (x : Answer × Parts). x.1) l) ∙ ap (λ (x : State). (look x.declaration x.content keys c.args.renew c.args.t).1) c.self.view_is
    ]
