use Rattle.command_words.proofs.SaysLemmas.{given_one, one_given}
use Rattle.command_words.proofs.laws.words_say_one.Goals as goal

pub returns-clause-given : goal.returns-clause-given
returns-clause-given c = one_given

pub returns-clause-one : goal.returns-clause-one
returns-clause-one c = given_one
