use Rattle.std.proofs.Common.{sym, []}
use Rattle.std.proofs.lemmas.Result.{err_from_is_err_and}
use Rattle.eval_scopes.specs.Scopes.{env_of}
use Rattle.flow_eval.specs.Rows.{tuple_of, rows_of}
use Rattle.flow_eval.proofs.Keys.{row_dropped, row_keys_fault, row_made}
use Rattle.std.proofs.lemmas.List.{append-nil}
use Rattle.flow_eval.proofs.inner.Flows.eval_row.Goals as goal

pub returns-in_err-keys : goal.returns-in_err-keys
returns-in_err-keys g c =
    let p = g.W.Within.program c.args.self.now.within.now in
    let q = err_from_is_err_and c.from_residual-in_err-keys.result
    c.from_residual-in_err-keys.ensures.1 in
    record {
      rows = rw (q.1, q.2) (row_keys_fault p c.args.self.now.whole.now (tuple_of c.args.bound.now)
          (env_of c.args.env.now) c.args.next.now _ _ (rw c.if-kept.true at c.in_ok-kept.ensures)
          (rw (c.as_slice.ensures, c.get.ensures) at c.in_err-keys.ensures));
    }

pub returns-in_ok-push : goal.returns-in_ok-push
returns-in_ok-push g c =
    let p = g.W.Within.program c.args.self.now.within.now in
    record {
      rows = (
        _,
        row_made p c.args.self.now.whole.now (tuple_of c.args.bound.now)
            (env_of c.args.env.now) c.args.next.now _ _ _ (rw c.if-kept.true at c.in_ok-kept.ensures)
            (rw (c.as_slice.ensures, c.get.ensures) at c.in_ok-keys.ensures),
        c.in_ok-push.ensures.rows,
        c.in_ok-push.ensures.even,
      );
    }

pub returns-else-kept : goal.returns-else-kept
returns-else-kept g c =
    let p = g.W.Within.program c.args.self.now.within.now in
    record {
      rows = (
        [],
        row_dropped p c.args.self.now.whole.now (tuple_of c.args.bound.now)
            (env_of c.args.env.now) c.args.next.now _ (rw c.if-kept.false at c.in_ok-kept.ensures),
        sym
            (append-nil (rows_of c.args.rows.now)),
        c.requires.even,
      );
    }
