use Rattle.doc_set.proofs.SetLemmas.{sound_named}
use Rattle.doc_set.proofs.sets.documents_stay_sound.Goals as goal

pub returns-clause-found : goal.returns-clause-found
returns-clause-found c = sound_named
