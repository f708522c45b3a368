use Rattle.std.proofs.Common.{◌≡◌, List, ℕ, Option, ◌++◌, OnOk, codes, sym, ap, subst, ◌∙◌}
use Rattle.show.specs.Markup.{escaped}
use Rattle.show.specs.Naming.{longnamed}
use Rattle.show.proofs.Writing.{onto}
use Rattle.show.proofs.naming.push_longname.Goals as goal

pub returns-in_ok-push_written-in-Some : goal.returns-in_ok-push_written-in-Some
returns-in_ok-push_written-in-Some c =
    let text = c.args.text.now.items in
    let begun = c.push.new.text.items in
    let name = c.push_written.new.text.items in
    let longname = c.in-Some.longname in
    let bytes : name ≡ begun ++ escaped longname = c.in_ok-push_written-in-Some.ensures ∙ ap (λ (l : List ℕ). begun ++ escaped l) c.as_slice.ensures.bytes in
    let e : name ++ codes "\"" ≡ text ++ longnamed c.args.longname.now =
    onto begun (escaped longname) name (codes "\"") bytes ∙ onto text (codes " longname=\"") begun (escaped longname ++ codes "\"") c.in_ok-push-in-Some.ensures
    ∙ ap (λ (o : Option (List ℕ)). text ++ longnamed o) (sym c.in-Some.is) in
    subst (λ (l : List ℕ). OnOk c.push-in-Some.result (c.push-in-Some.new.text.items ≡ l)) e c.push-in-Some.ensures
