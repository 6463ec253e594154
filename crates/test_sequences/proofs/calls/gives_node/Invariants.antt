use Rattle.test_sequences.proofs.calls.gives_node.Given as goal

abbrev pub ghosts-first_is_node : goal.ghosts-first_is_node
ghosts-first_is_node a = record { name = a.blank.name; parts = a.blank.parts }

abbrev pub ghosts-takes_node : goal.ghosts-takes_node
ghosts-takes_node a = record { name = a.blank.name; parts = a.blank.parts }
