use Rattle.doc_grammar.proofs.ValueSizes.{values_in_bytes}
use Rattle.doc_grammar.proofs.declarations.values_are_small.Goals as goal

pub returns : goal.returns
returns c = values_in_bytes
