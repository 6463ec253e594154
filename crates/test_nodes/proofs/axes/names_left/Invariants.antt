use Rattle.test_nodes.proofs.axes.names_left.Given as goal

abbrev pub ghosts-names_to_come : goal.ghosts-names_to_come
ghosts-names_to_come _ a = record { name = a.blank.name; parts = a.blank.parts }
