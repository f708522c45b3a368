use Rattle.std.proofs.Common.{◌≡◌, ℕ, length, sym, ap, subst, arith, length-append}
use Rattle.table_list.specs.Lists.{HasRoom}
use Rattle.table_list.proofs.Sound.{sound_lists, sound_more}
use Rattle.table_list.proofs.list_table.ListTableTable.reserve.Goals as goal

pub invariant_of-self : goal.invariant_of-self
invariant_of-self c =
    let s = c.self.inside in
    sound_lists s.declaration s.keys s.row s.lists c.reserve.new.self s.ready.items c.self.invariant c.reserve.ensures.content c.reserve.ensures.kept

pub invariant_of-self-2 : goal.invariant_of-self-2
invariant_of-self-2 c =
    let s = c.self.inside in
    let n : length c.append.new.self.items ≡ c.max-calls.result = omega (arith, ap length c.in_ok-append.ensures.items, length-append s.ready.items c.in_ok-more.more.items, c.in_ok-more.ensures.count, c.max-calls.ensures, c.len.ensures, c.len-2.ensures, s.ready.ok.0) in
    sound_more s.declaration s.keys s.row s.lists c.reserve.new.self s.ready.items c.in_ok-more.more.items c.append.new.self.items c.self.invariant c.reserve.ensures.content c.in_ok-more.ensures.ready c.in_ok-append.ensures.items
    (subst (λ (k : ℕ). HasRoom k c.reserve.new.self) (sym n) c.in_ok-reserve.ensures.room)
