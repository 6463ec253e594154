use Rattle.node_walks.proofs.walks.Walk.count.Given as goal

abbrev pub ghosts-count_items : goal.ghosts-count_items
ghosts-count_items a = record { name = a.blank.name; parts = a.blank.parts }
