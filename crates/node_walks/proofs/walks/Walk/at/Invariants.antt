use Rattle.node_walks.proofs.walks.Walk.at.Given as goal

abbrev pub ghosts-seek_item : goal.ghosts-seek_item
ghosts-seek_item a = record { name = a.blank.name; parts = a.blank.parts }
