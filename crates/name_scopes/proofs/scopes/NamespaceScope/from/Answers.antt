use Rattle.name_scopes.proofs.PlaceLemmas.{from_view}
use Rattle.name_scopes.proofs.scopes.NamespaceScope.from.Goals as goal

pub returns : goal.returns
returns c = from_view _ _ c.args.place _ c.as_slice.ensures.value c.self.view_is
