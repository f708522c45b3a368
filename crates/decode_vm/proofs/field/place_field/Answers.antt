use Rattle.std.proofs.Common.{ap, arith, length, reverse, subst, sym, ◌≡◌, ◌≤◌, ◌-◌, ◌∙◌, Option, Some, None, List, ℕ}
use Rattle.db_model.specs.declared.tree.Reason.TheVariants as reason
use Rattle.db_model.specs.Extent.{extent}
use Rattle.db_model.specs.Runs.{add_field, place_field, sized_field, spend_node}
use Rattle.decode_vm.specs.declared.machine.Machine.{Machine}
use Rattle.decode_vm.specs.Machine.{halted, Ran}
use Rattle.decode_vm.specs.Sound.{olds_in, olds_of}
use Rattle.decode_vm.proofs.Fields.{on_ok, rising_end, ran_halted, ran_same, extent_some, outcome_size, outcome_short}
use Rattle.decode_vm.proofs.field.place_field.Goals as goal

pub extent-requires-clause-limit : goal.extent-requires-clause-limit
extent-requires-clause-limit c =
    let m = c.args.m.now in
    subst (λ (l : List ℕ). m.frame.env.limit ≤ length l) (sym c.as_slice.ensures.bytes) (rising_end m.frame.env.limit (olds_in m.mode (olds_of (reverse m.held))) (length m.frame.env.packet.bytes) c.requires.sound.limits)

pub spend-requires-clause-sized : goal.spend-requires-clause-sized
spend-requires-clause-sized c =
    let m = c.args.m.now in
    let found : extent c.args.kind.now c.as_slice.result.now m.frame.env.at m.frame.env.limit m.frame.env.origin c.args.n ≡ Some c.in-Size.size = outcome_size _ c.in-Size.size (sym c.in-Size.ensures) in
    (extent_some c.args.kind.now c.as_slice.result.now m.frame.env.at m.frame.env.limit m.frame.env.origin c.args.n c.in-Size.size found).1

pub spend-requires-clause-position : goal.spend-requires-clause-position
spend-requires-clause-position c =
    let m = c.args.m.now in
    let found : extent c.args.kind.now c.as_slice.result.now m.frame.env.at m.frame.env.limit m.frame.env.origin c.args.n ≡ Some c.in-Size.size = outcome_size _ c.in-Size.size (sym c.in-Size.ensures) in
    let h : c.in-Size.size ≤ m.frame.env.limit - m.frame.env.at = (extent_some c.args.kind.now c.as_slice.result.now m.frame.env.at m.frame.env.limit m.frame.env.origin c.args.n c.in-Size.size found).0 in
    let p : m.frame.env.at ≤ m.frame.env.limit = c.requires.sound.position in
    omega arith

pub spend-requires-clause-limit : goal.spend-requires-clause-limit
spend-requires-clause-limit c =
    let m = c.args.m.now in
    rising_end m.frame.env.limit (olds_in m.mode (olds_of (reverse m.held))) (length m.frame.env.packet.bytes) c.requires.sound.limits

pub returns-in-Short : goal.returns-in-Short
returns-in-Short c =
    let m = c.args.m.now in
    let z = m.frame in
    let found : extent c.args.kind.now c.as_slice.result.now z.env.at z.env.limit z.env.origin c.args.n ≡ None = outcome_short _ (sym c.in-Short.ensures) in
    let here = ap (λ (l : List ℕ). extent c.args.kind.now l z.env.at z.env.limit z.env.origin c.args.n) (sym c.as_slice.ensures.bytes) ∙ found in
    on_ok c.halt.result (λ (e : c.halt.new.m ≡ halted reason.Short m). subst (λ (n : Machine). Ran (place_field c.args.kind.now c.args.number c.args.n) c.args.after m n) (sym e)
    (ran_halted (place_field c.args.kind.now c.args.number c.args.n) reason.Short c.args.after m (ap (λ (o : Option ℕ). sized_field c.args.kind.now c.args.number o z) here))) c.halt.ensures

pub returns-in-Size : goal.returns-in-Size
returns-in-Size c =
    let m = c.args.m.now in
    let z = m.frame in
    let found : extent c.args.kind.now c.as_slice.result.now z.env.at z.env.limit z.env.origin c.args.n ≡ Some c.in-Size.size = outcome_size _ c.in-Size.size (sym c.in-Size.ensures) in
    let here = ap (λ (l : List ℕ). extent c.args.kind.now l z.env.at z.env.limit z.env.origin c.args.n) (sym c.as_slice.ensures.bytes) ∙ found in
    on_ok c.spend.result (ran_same (place_field c.args.kind.now c.args.number c.args.n) (spend_node (add_field c.args.kind.now c.args.number c.in-Size.size)) c.args.after m c.spend.new.m (ap (λ (o : Option ℕ). sized_field c.args.kind.now c.args.number o z) here)) c.spend.ensures
