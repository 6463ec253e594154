use Rattle.test_nodes.proofs.axes.hits.Given as goal

abbrev pub ghosts-hits_soon : goal.ghosts-hits_soon
ghosts-hits_soon _ a = record { name = a.blank.name; parts = a.blank.parts }
