use Rattle.test_sequences.proofs.calls.counts_up.Given as goal

abbrev pub ghosts-gives_all : goal.ghosts-gives_all
ghosts-gives_all a = record { name = a.blank.name; parts = a.blank.parts }
