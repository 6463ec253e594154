use Rattle.command_words.proofs.OnceLemmas.{request_once}
use Rattle.command_words.proofs.laws.requests_name_once.Goals as goal

pub returns-clause-documents : goal.returns-clause-documents
returns-clause-documents c = λ words request e. (request_once words request e).documents

pub returns-clause-parameters : goal.returns-clause-parameters
returns-clause-parameters c = λ words request e. (request_once words request e).parameters
