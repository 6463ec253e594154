use Rattle.name_rules.proofs.LayerLemmas.{few_names_differ}
use Rattle.name_rules.proofs.scopes.names_differ.Goals as goal

pub returns-in-empty : goal.returns-in-empty
returns-in-empty c = few_names_differ c.args.names.now c.as_slice.result.now c.as_slice.ensures c.in-empty.len_below
