use Rattle.std.proofs.Common.{◌≡◌, ◌+◌, ℕ, suc, drop, refl, sym, ap, ◌∙◌, arith}
use Rattle.std.specs.Prelude.{bytes_eq}
use Rattle.db_model.specs.Name.{among}
use Rattle.db_model.proofs.ReservedWords.{found_at, passed_at, none_from}
use Rattle.db_model.proofs.naming.among.Goals as goal

pub loop-word-init : goal.loop-word-init
loop-word-init c = refl

pub returns-then-eq : goal.returns-then-eq
returns-then-eq c =
    sym (found_at c.args.text.now c.args.words.now c.loop-word.word-index _ c.loop-word-test.true (ap (bytes_eq c.args.text.now) (sym c.spelling.ensures) ∙ sym c.eq.ensures ∙ c.if-eq.true))
    ∙ c.loop-word.invariant

pub loop-word-preserved : goal.loop-word-preserved
loop-word-preserved c =
    let next : c.loop-word.word-index + 1 ≡ suc c.loop-word.word-index = omega arith in
    ap (λ n. among (drop n c.args.words.now) c.args.text.now) next
    ∙ sym (passed_at c.args.text.now c.args.words.now c.loop-word.word-index _ c.loop-word-test.true (ap (bytes_eq c.args.text.now) (sym c.spelling.ensures) ∙ sym c.eq.ensures ∙ c.if-eq.false))
    ∙ c.loop-word.invariant

pub returns : goal.returns
returns c = sym (none_from c.args.text.now c.args.words.now c.loop-word.word-index (omega (arith, c.loop-word-test.false))) ∙ c.loop-word.invariant
