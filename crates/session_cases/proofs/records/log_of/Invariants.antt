use Rattle.session_cases.proofs.records.log_of.Given as goal

abbrev pub ghosts-recorded : goal.ghosts-recorded
ghosts-recorded a = record { name = a.blank.name; parts = a.blank.parts }
