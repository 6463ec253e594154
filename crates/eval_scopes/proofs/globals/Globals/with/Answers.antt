use Rattle.std.proofs.Common.{◌≡◌, arith, length}
use Rattle.eval_scopes.proofs.TableLemmas.{one_more}
use Rattle.eval_scopes.proofs.globals.Globals.with.Goals as goal

pub invariant_of-result : goal.invariant_of-result
invariant_of-result c =
    let vs = c.self.inside.variables.items in
    let n : c.len.result ≡ length vs = omega arith in
    rw c.in_ok-push.ensures.items
    (one_more vs c.args.variable c.len.result c.self.inside.places c.put_place.new.places n
    c.self.invariant c.in_ok-put_place.ensures)
