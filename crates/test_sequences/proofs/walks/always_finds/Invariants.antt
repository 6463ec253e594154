use Rattle.test_sequences.proofs.walks.always_finds.Given as goal

abbrev pub ghosts-has_always_descendant : goal.ghosts-has_always_descendant
ghosts-has_always_descendant a = record { name = a.blank.name; parts = a.blank.parts }
