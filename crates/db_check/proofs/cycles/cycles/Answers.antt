use Rattle.std.proofs.Common.{◌≡◌, ◌∙◌, IfOk, ap, sym, subst}
use Rattle.db_cause.specs.declared.cause.Cause.TheVariants as cause
use Rattle.db_model.specs.Lines.{Lines}
use Rattle.db_model.specs.NameFaults.{block_names}
use Rattle.db_check.specs.First.{first}
use Rattle.db_check.specs.Graph.{Graph, graph_of, cycles_from}
use Rattle.db_check.proofs.Including.{cycles_are}
use Rattle.db_check.proofs.cycles.cycles.Goals as goal

pub returns : goal.returns
returns c =
    let p = c.args.home.now.protocol.now in
    subst (λ (l : Lines). IfOk c.in_graph.result (λ f. f ≡ first cause.IncludesItself l))
    (ap (λ (g : Graph). cycles_from g (block_names p) 0 c.named_blocks.result.now) c.in_ok-graph.ensures
    ∙ (ap (cycles_from (graph_of p) (block_names p) 0) c.named_blocks.ensures ∙ sym (cycles_are c.cycles_found.ensures p)))
    c.in_graph.ensures
