use Rattle.session_cases.proofs.decoding.decodes.Given as goal

abbrev pub ghosts-decoded : goal.ghosts-decoded
ghosts-decoded a = record { name = a.blank.name; parts = a.blank.parts }
