use Rattle.test_patterns.proofs.walks.walks_over.Given as goal

abbrev pub ghosts-gives_all : goal.ghosts-gives_all
ghosts-gives_all a = record { name = a.blank.name; parts = a.blank.parts }
