use Rattle.std.proofs.Common.{◌≡◌, map, take, chars}
use Rattle.command_words.proofs.documents.texts_of.Given as goal

abbrev pub invariant-loop-word : goal.invariant-loop-word
invariant-loop-word l = l.texts ≡ map (λ b. chars b.now) (take l.word-index l.words)
