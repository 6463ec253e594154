use Rattle.test_sequences.proofs.singles.gives.Given as goal

abbrev pub ghosts-next_is : goal.ghosts-next_is
ghosts-next_is a = record { name = a.blank.name; parts = a.blank.parts }
