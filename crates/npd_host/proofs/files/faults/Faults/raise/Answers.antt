use Rattle.npd_host.proofs.NameCounts.{rose-set, later-set, kept-set, no_counts}
use Rattle.npd_host.proofs.files.faults.Faults.raise.Goals as goal

pub returns-in-Some-clause-rose : goal.returns-in-Some-clause-rose
returns-in-Some-clause-rose c =
    let first = rw c.deref.ensures.value at c.in-Some.ensures in
    rw (← c.self.view_is) (rose-set c.self.inside.names.items c.in-Some.place _ _ _ c.index_mut-entry.ensures.value first c.args.kind c.raise.ensures.rose)

pub returns-in-Some-clause-later : goal.returns-in-Some-clause-later
returns-in-Some-clause-later c =
    let first = rw c.deref.ensures.value at c.in-Some.ensures in
    rw (← c.self.view_is) (later-set c.self.inside.names.items c.in-Some.place _ _ _ c.index_mut-entry.ensures.value first c.raise.ensures.later)

pub returns-in-Some-clause-kept : goal.returns-in-Some-clause-kept
returns-in-Some-clause-kept c =
    let first = rw c.deref.ensures.value at c.in-Some.ensures in
    rw (← c.self.view_is) (kept-set c.self.inside.names.items c.in-Some.place _ _ _ c.index_mut-entry.ensures.value first)

pub returns-in_default-clause-rose : goal.returns-in_default-clause-rose
returns-in_default-clause-rose c =
    let none = rw (c.deref.ensures.value, c.self.view_is) at c.in_default.ensures in
    absurd (no_counts c.args.self.now c.args.name.now none c.requires)
