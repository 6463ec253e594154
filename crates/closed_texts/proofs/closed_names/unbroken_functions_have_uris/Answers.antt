use Rattle.closed_texts.proofs.ClosedNames.Names.{function_uri, function_sound}
use Rattle.closed_texts.proofs.closed_names.unbroken_functions_have_uris.Goals as goal

pub returns-clause-uri : goal.returns-clause-uri
returns-clause-uri c = function_uri

pub returns-clause-sound : goal.returns-clause-sound
returns-clause-sound c = function_sound
