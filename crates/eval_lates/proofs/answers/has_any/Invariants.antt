use Rattle.eval_lates.proofs.answers.has_any.Given as goal

abbrev pub ghosts-is_empty : goal.ghosts-is_empty
ghosts-is_empty a = record { name = a.blank.name; parts = a.blank.parts }
