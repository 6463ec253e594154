use Rattle.std.proofs.Common.{◌≡◌, ◌++◌, [], drop}
use Rattle.query_options.specs.Words.{words_in}
use Rattle.query_options.proofs.words.words_in.Given as goal

abbrev pub invariant-loop-c : goal.invariant-loop-c
invariant-loop-c l =
    l.reading.words ++ words_in l.reading.word (drop l.c-index l.text) ≡ words_in [] l.text
