use Rattle.std.proofs.Common.{◌≡◌, map, take}
use Rattle.psml_out.specs.Summaries.{template_sections}
use Rattle.psml_out.proofs.summaries.all_sections.Given as goal

abbrev pub invariant-loop-template : goal.invariant-loop-template
invariant-loop-template l = l.all ≡ map (template_sections l.declared) (take l.template-index l.templates)
