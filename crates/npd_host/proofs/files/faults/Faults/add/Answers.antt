use Rattle.std.proofs.Common.{◌≡◌, sym, ap, ◌∙◌, refl}
use Rattle.std.specs.Option.{is_some}
use Rattle.npd_host.specs.Counts.{count_at}
use Rattle.npd_host.specs.declared.host.CallKind.{CallKind}
use Rattle.npd_host.specs.declared.host.CallKind.TheVariants.{OpenIn, Read, OpenOut, Write}
use Rattle.npd_host.proofs.NameCounts.{has_counts, added-push, kept-push, same-push}
use Rattle.npd_host.proofs.files.faults.Faults.add.Goals as goal

zero : (kind : CallKind) → count_at kind (record { open_in = 0; read = 0; open_out = 0; write = 0 }) ≡ 0
zero OpenIn = refl
zero Read = refl
zero OpenOut = refl
zero Write = refl

pub returns-then-is_some-clause-added : goal.returns-then-is_some-clause-added
returns-then-is_some-clause-added c =
    let at = rw (c.deref.ensures.value, c.self.view_is) at (ap is_some (sym c.place_of.ensures) ∙ (sym c.is_some.ensures ∙ c.if-is_some.true)) in
    has_counts c.args.self.now c.args.name.now at

pub returns-clause-added : goal.returns-clause-added
returns-clause-added c =
    let past = rw c.deref.ensures.value at (ap is_some (sym c.place_of.ensures) ∙ (sym c.is_some.ensures ∙ c.if-is_some.false)) in
    rw (c.in_ok-push.ensures.items, c.in_ok-name.ensures) (added-push c.self.inside.names.items c.args.name.now _ past)

pub returns-clause-kept : goal.returns-clause-kept
returns-clause-kept c =
    let past = rw c.deref.ensures.value at (ap is_some (sym c.place_of.ensures) ∙ (sym c.is_some.ensures ∙ c.if-is_some.false)) in
    rw (← c.self.view_is, c.in_ok-push.ensures.items, c.in_ok-name.ensures) (kept-push c.self.inside.names.items c.args.name.now _ past)

pub returns-clause-same : goal.returns-clause-same
returns-clause-same c =
    let past = rw c.deref.ensures.value at (ap is_some (sym c.place_of.ensures) ∙ (sym c.is_some.ensures ∙ c.if-is_some.false)) in
    rw (← c.self.view_is, c.in_ok-push.ensures.items, c.in_ok-name.ensures) (same-push c.self.inside.names.items c.args.name.now _ past zero)
