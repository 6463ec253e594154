use Rattle.std.proofs.Common.{Some, None}
use Rattle.name_scopes.proofs.PlaceLemmas.{from_found}
use Rattle.name_scopes.proofs.scopes.NamespaceScope.binds_from.Goals as goal

pub returns-in-Some : goal.returns-in-Some
returns-in-Some c = from_found c.args.place c.args.self.now _ c.args.prefix.now _ (Some c.in-Some.last.now) c.in-Some.ensures.value (c.self.invariant.table c.args.prefix.now) c.self.view_is

pub returns-in-None : goal.returns-in-None
returns-in-None c = from_found c.args.place c.args.self.now _ c.args.prefix.now _ None c.in-None.ensures.value (c.self.invariant.table c.args.prefix.now) c.self.view_is
