use Rattle.std.proofs.Common.{refl}
use Rattle.name_scopes.proofs.LookupLemmas.{pushed_next}
use Rattle.name_scopes.proofs.scopes.NamespaceScope.push_each.Goals as goal

pub loop-binding-preserved : goal.loop-binding-preserved
loop-binding-preserved c =
    pushed_next _ _ _ _ _ c.binding-item.result _ c.loop-binding-test.true c.binding-item.is (rw (c.in_ok-copy.ensures, c.in_ok-copy-2.ensures) refl)
    c.loop-binding.invariant c.in_ok-push.ensures.ok
