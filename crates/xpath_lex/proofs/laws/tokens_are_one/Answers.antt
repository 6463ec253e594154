use Rattle.xpath_lex.proofs.ReadingLemmas.{token_one, token_not_over, fault_one, fault_no_token, fault_not_over}
use Rattle.xpath_lex.proofs.laws.tokens_are_one.Goals as goal

pub returns : goal.returns
returns c = record { one = token_one; token = token_not_over; places = fault_one; fault = fault_no_token; some = fault_not_over }
