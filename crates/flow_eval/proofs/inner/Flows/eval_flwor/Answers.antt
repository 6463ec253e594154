use Rattle.eval_scopes.specs.Scopes.{env_of}
use Rattle.flow_eval.proofs.inner.Flows.eval_flwor.Goals as goal

pub returns-then-is_streamed : goal.returns-then-is_streamed
returns-then-is_streamed g c =
    let p = g.W.Within.program c.args.self.now.within.now in
    rw (c.is_streamed.ensures c.if-is_streamed.true p (env_of c.args.env.now) c.args.next.now)
    (rw (c.as_slice.ensures, c.get.ensures) at c.eval_stream.ensures)
