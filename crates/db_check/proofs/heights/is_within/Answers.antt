use Rattle.std.proofs.Common.{◌∙◌, ℕ, List, ap, refl}
use Rattle.std.specs.Prelude.{◌&&◌, nat_lt}
use Rattle.std.specs.List.{list_all}
use Rattle.db_model.specs.Chain.{elements_of}
use Rattle.db_model.specs.NameFaults.{block_names}
use Rattle.db_check.specs.declared.heights.TheConstants.{TOO_HIGH}
use Rattle.db_check.specs.Heights.{height_at, height_in}
use Rattle.db_check.proofs.Nesting.{within_is}
use Rattle.db_check.proofs.heights.is_within.Goals as goal

pub returns : goal.returns
returns c =
    let p = c.args.home.now.protocol.now in
    c.both.ensures
    ∙ ((λ i. nat_lt ((c.of_run.ensures ∙ ap (λ (l : List ℕ). height_in (height_at (block_names p) l) (elements_of p)) c.requires.heights) i) TOO_HIGH && (c.are_low.ensures ∙ ap (list_all (λ h. nat_lt h TOO_HIGH)) c.requires.heights) i)
    ∙ within_is p 64 refl)
