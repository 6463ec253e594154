use Rattle.std.proofs.Common.{◌≡◌, map, take, string_bytes}
use Rattle.command_words.specs.Apart.{told_of, with_operands}
use Rattle.command_words.proofs.apart.push_operands.Given as goal

abbrev pub invariant-loop-word : goal.invariant-loop-word
invariant-loop-word l =
    told_of l.told ≡ with_operands (map string_bytes (take l.word-index l.words)) (told_of l.initial.told)
