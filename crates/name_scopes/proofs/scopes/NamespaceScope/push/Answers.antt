use Rattle.std.proofs.Common.{◌≡◌, length, ◌∙◌, arith}
use Rattle.name_scopes.specs.declared.scopes.Entry.{Entry}
use Rattle.name_scopes.proofs.PlaceLemmas.{indexed_push}
use Rattle.name_scopes.proofs.scopes.NamespaceScope.push.Goals as goal

pub invariant_of-self-in-Ok : goal.invariant_of-self-in-Ok
invariant_of-self-in-Ok c =
    let e : Entry = record { binding = record { prefix = c.args.prefix; uri = c.args.uri }; earlier = c.copied-earlier.result; taken = c.self.inside.taken } in
    let place : c.len-place.result ≡ length c.self.inside.entries.items = omega (arith, c.self.inside.entries.ok.0, c.len-place.ensures) in
    indexed_push _ _ e _ _ _ _ _ c.in_ok-push.ensures.items place c.in_ok-key.ensures c.self.invariant
    (c.copied-earlier.ensures ∙ c.get.ensures.value ∙ c.self.invariant.table c.args.prefix) c.self.invariant.numbers c.in-Ok.ensures.updates.0
