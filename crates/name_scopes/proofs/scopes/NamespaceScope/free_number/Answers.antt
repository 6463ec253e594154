use Rattle.std.proofs.Common.{◌≡◌, length, ap, arith}
use Rattle.name_scopes.proofs.PlaceLemmas.{bindings_of-length, free_number-taken}
use Rattle.name_scopes.proofs.scopes.NamespaceScope.free_number.Goals as goal

pub loop-n-init : goal.loop-n-init
loop-n-init c =
    let taken = rw c.self.view_is at c.self.invariant.numbers in
    let most : c.len-most.result ≡ length c.args.self.now =
    omega (arith, c.len-most.ensures, c.self.inside.entries.ok.0, bindings_of-length c.self.inside.entries.items, ap length c.self.view_is) in
    record { same = free_number-taken c.args.self.now c.self.inside.taken c.len-most.result most taken; bound = taken.bound }
