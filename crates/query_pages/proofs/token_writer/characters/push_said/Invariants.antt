use Rattle.std.proofs.Common.{◌≡◌, ◌++◌}
use Rattle.query_pages.specs.TokenTexts.Spellings.{said_texts}
use Rattle.query_pages.proofs.token_writer.characters.push_said.Given as goal

abbrev pub invariant-loop-c : goal.invariant-loop-c
invariant-loop-c l = l.out ≡ l.initial.out ++ said_texts l.yielded
