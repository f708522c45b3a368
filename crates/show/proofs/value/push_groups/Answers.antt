use Rattle.std.proofs.Common.{◌≡◌, List, ℕ, ◌++◌, take, OnOk, sym, ap, subst, ◌∙◌, arith}
use Rattle.show.specs.Markup.{written}
use Rattle.show.specs.Shown.{group_shown}
use Rattle.show.proofs.GroupLemmas.{grouped, last_group, turned}
use Rattle.show.proofs.value.push_groups.Goals as goal

pub loop-rest-preserved : goal.loop-rest-preserved
loop-rest-preserved c =
    let form = c.args.form in
    let kind = c.args.template.now.show_type in
    let separator = c.args.template.now.separator in
    let size = c.args.size in
    let rest = c.loop-rest.rest.now in
    let group : c.push_group.new.text.items ≡ c.loop-rest.text.items ++ written form (group_shown kind (take size rest)) =
    c.in_ok-push_group.ensures ∙ ap (λ (g : List ℕ). c.loop-rest.text.items ++ written form (group_shown kind g)) c.split_at.ensures.front in
    let between : c.push_written.new.text.items ≡ c.push_group.new.text.items ++ written form separator =
    c.in_ok-push_written.ensures ∙ ap (λ (s : List ℕ). c.push_group.new.text.items ++ written form s) c.as_slice.ensures.bytes in
    record {
      some = omega arith;
      text = subst (λ (bs : List ℕ). c.push_written.new.text.items ++ grouped form (group_shown kind) separator size bs ≡ c.args.text.now.items ++ grouped form (group_shown kind) separator size c.args.bytes.now) (sym c.split_at.ensures.back)
          (turned form (group_shown kind) separator size rest c.loop-rest.text.items c.push_group.new.text.items c.push_written.new.text.items (c.args.text.now.items ++ grouped form (group_shown kind) separator size c.args.bytes.now) c.requires.size c.loop-rest-test.true c.loop-rest.invariant.text group between);
    }

pub returns : goal.returns
returns c =
    let form = c.args.form in
    let kind = c.args.template.now.show_type in
    let separator = c.args.template.now.separator in
    let last = last_group form (group_shown kind) separator c.args.size c.loop-rest.rest.now c.requires.size c.loop-rest.invariant.some c.loop-rest-test.false in
    subst (λ (l : List ℕ). OnOk c.push_group-2.result (c.push_group-2.new.text.items ≡ l)) (ap (λ (l : List ℕ). c.loop-rest.text.items ++ l) (sym last) ∙ c.loop-rest.invariant.text) c.push_group-2.ensures
