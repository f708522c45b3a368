use Rattle.npd_top.proofs.Complete.{means_well}
use Rattle.npd_top.proofs.laws.a_run_ends_well.Goals as goal

pub returns : goal.returns
returns c = means_well c.each_text_has_one_answer.ensures.databases c.each_text_has_one_answer.ensures.faults
