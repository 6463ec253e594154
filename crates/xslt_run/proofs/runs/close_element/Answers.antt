use Rattle.std.proofs.lemmas.Result.{err_from_is_err_and}
use Rattle.xslt_run.specs.Content.{built}
use Rattle.xslt_run.proofs.Follow.{grown_element, fault_element}
use Rattle.xslt_run.proofs.runs.close_element.Goals as goal

pub returns-in_err-tree : goal.returns-in_err-tree
returns-in_err-tree c =
    let p = err_from_is_err_and c.from_residual.result c.from_residual.ensures.1 in
    rw (p.1, p.2) (fault_element _ (built c.args.out.now) _ c.in_err-tree.ensures)

pub returns : goal.returns
returns c =
    grown_element (built c.args.out.now) _ c.args.name.now _ _ c.in_ok-tree.tree c.in_ok-tree.ensures c.in_ok-push_tree.ensures
