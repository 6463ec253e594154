use Rattle.query_printer.proofs.Prologs.{whole_made}
use Rattle.query_printer.proofs.printing.push_query.Goals as goal

pub returns : goal.returns
returns c = whole_made c.args.query.now c.args.prefixes.now c.as_slice.result.now
    c.args.draft.now _ _ _ _ _ c.requires.empty c.requires.same c.as_slice.ensures
    c.in_ok-push_expr.ensures c.in_ok-push_late.ensures c.in_ok-push_preserved.ensures
    c.in_ok-push_namespaces.ensures c.in_ok-push_version.ensures
