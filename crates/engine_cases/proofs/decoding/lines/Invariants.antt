use Rattle.engine_cases.proofs.decoding.lines.Given as goal

abbrev pub ghosts-tree : goal.ghosts-tree
ghosts-tree g a = record { name = a.blank.name; parts = a.blank.parts }
