use Rattle.node_axes.proofs.step_walks.hits.next_hit.Given as goal

abbrev pub ghosts-walk_to_hit : goal.ghosts-walk_to_hit
ghosts-walk_to_hit a = record { name = a.blank.name; parts = a.blank.parts }
