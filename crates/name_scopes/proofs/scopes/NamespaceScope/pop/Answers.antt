use Rattle.std.specs.HashMap.{get}
use Rattle.std.specs.Str.{bytes_eq}
use Rattle.name_scopes.proofs.PlaceLemmas.{last_is_found, indexed_pop}
use Rattle.name_scopes.proofs.scopes.NamespaceScope.pop.Goals as goal

pub set_place-requires : goal.set_place-requires
set_place-requires c = last_is_found _ _ c.in-Some.entry (λ p. get bytes_eq c.self.inside.places p) _ c.in-Some.ensures.items c.self.invariant

pub invariant_of-self : goal.invariant_of-self
invariant_of-self c = indexed_pop _ _ c.in-Some.entry (λ p. get bytes_eq c.self.inside.places p) _ _ c.in-Some.ensures.items c.self.invariant c.set_place.ensures
