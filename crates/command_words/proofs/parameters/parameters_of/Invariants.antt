use Rattle.std.proofs.Common.{◌≡◌, map, take, drop}
use Rattle.command_words.specs.Requests.{given_of, given_in, name_in}
use Rattle.command_words.proofs.ParameterLemmas.{words_of, are_parameters}
use Rattle.command_words.proofs.parameters.parameters_of.Given as goal

abbrev pub invariant-loop-word : goal.invariant-loop-word
invariant-loop-word l = record {
  all : are_parameters (drop l.word-index l.words) ≡ are_parameters l.words;
  names : l.names ≡ map name_in (words_of (take l.word-index l.words));
  given : map given_of l.parameters ≡ map given_in (words_of (take l.word-index l.words));
}
