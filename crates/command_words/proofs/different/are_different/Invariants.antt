use Rattle.std.proofs.Common.{◌≡◌, drop}
use Rattle.command_words.specs.Texts.{are_different}
use Rattle.command_words.proofs.TableLemmas.{are_new}
use Rattle.command_words.proofs.different.are_different.Given as goal

abbrev pub invariant-loop-text : goal.invariant-loop-text
invariant-loop-text l = are_new l.seen (drop l.text-index l.texts) ≡ are_different l.texts
