use Rattle.std.proofs.Common.{refl}
use Rattle.name_scopes.proofs.PlaceLemmas.{indexed_none}
use Rattle.name_scopes.proofs.scopes.NamespaceScope.new.Goals as goal

pub invariant_of-result : goal.invariant_of-result
invariant_of-result c = indexed_none _ _ c.new-entries.ensures.items (λ p. rw c.new-places.ensures.empty refl)
