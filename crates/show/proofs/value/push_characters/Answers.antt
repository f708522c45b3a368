use Rattle.std.proofs.Common.{◌≡◌, ℕ, List, ◌++◌, map, take, drop, sym, ap, ◌∙◌}
use Rattle.std.proofs.lemmas.List.{take-append-drop}
use Rattle.show.specs.Markup.{written}
use Rattle.show.specs.Shown.{character}
use Rattle.show.proofs.Runs.{turned}
use Rattle.show.proofs.value.push_characters.Goals as goal

-- the two parts of a text that is split
parts : (n : ℕ) (all front back : List ℕ) → front ≡ take n all → back ≡ drop n all → front ++ back ≡ all
parts n all front back e f = ap (λ (l : List ℕ). l ++ back) e ∙ ap (λ (l : List ℕ). take n all ++ l) f ∙ take-append-drop n all

pub loop-rest-preserved : goal.loop-rest-preserved
loop-rest-preserved c =
    let form = c.args.form in
    let rest = c.loop-rest.rest.now in
    let run = c.split_at.result.0.now in
    let behind = c.split_at.result.1.now in
    let next = c.split_at-in-loop-rest.result.0.now in
    let left = c.split_at-in-loop-rest.result.1.now in
    let front = c.split_at.ensures.front in
    let same : written form (map character run) ≡ run = ap (λ (l : List ℕ). written form (map character l)) front ∙ c.run_of.ensures.same form ∙ sym front in
    turned form rest run behind next left c.loop-rest.text.items c.push.new.text.items c.push_each_character.new.text.items _ c.loop-rest.invariant
    (parts c.run_of.result rest run behind front c.split_at.ensures.back)
    (parts c.min.result behind next left c.split_at-in-loop-rest.ensures.front c.split_at-in-loop-rest.ensures.back)
    same c.in_ok-push.ensures c.in_ok-push_each_character.ensures
