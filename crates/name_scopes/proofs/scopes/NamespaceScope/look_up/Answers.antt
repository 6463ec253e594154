use Rattle.std.proofs.Common.{sym, ◌∙◌, arith}
use Rattle.name_scopes.specs.Places.{bindings_of}
use Rattle.name_scopes.proofs.PlaceLemmas.{last_place-within, bindings_of-length, found_uri, no_uri}
use Rattle.name_scopes.proofs.LookupLemmas.{found_prefix}
use Rattle.name_scopes.proofs.scopes.NamespaceScope.look_up.Goals as goal

pub index-requires : goal.index-requires
index-requires c =
    let es = c.self.inside.entries.items in
    let within = last_place-within (bindings_of es) c.args.prefix.now c.in-Some.place.now (sym (c.in-Some.ensures.value ∙ c.self.invariant.table c.args.prefix.now)) in
    omega (arith, within, bindings_of-length es, c.self.inside.entries.ok.0)

pub returns-in-Some-clause-uri : goal.returns-in-Some-clause-uri
returns-in-Some-clause-uri c =
    found_uri c.self.inside.entries.items _ c.args.prefix.now _ c.index.result.now c.self.view_is (c.in-Some.ensures.value ∙ c.self.invariant.table c.args.prefix.now) c.index.ensures

pub returns-in-Some-clause-prefix : goal.returns-in-Some-clause-prefix
returns-in-Some-clause-prefix c =
    found_prefix c.self.inside.entries.items c.args.prefix.now _ c.index.result.now (c.in-Some.ensures.value ∙ c.self.invariant.table c.args.prefix.now) c.index.ensures

pub returns-in-None-clause-uri : goal.returns-in-None-clause-uri
returns-in-None-clause-uri c = no_uri c.self.inside.entries.items _ c.args.prefix.now c.self.view_is (c.in-None.ensures.value ∙ c.self.invariant.table c.args.prefix.now)
