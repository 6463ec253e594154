use Rattle.std.proofs.Common.{◌≡◌, ◌+◌, [], ap, ◌∙◌, length}
use Rattle.std.specs.Prelude.{Err, None}
use Rattle.std.proofs.lemmas.Result.{err_from_is_err_and}
use Rattle.xt_tree.specs.declared.trees.Tree.{Tree}
use Rattle.xdm_items.specs.declared.items.Item.{Item}
use Rattle.xdm_items.specs.declared.items.Item.TheVariants.{Node as a_node}
use Rattle.expr_meaning.specs.Queries.{Run}
use Rattle.xquery_eval.specs.Runs.{IsResult, given_of, with_functions}
use Rattle.xquery_eval.proofs.RunLemmas.{run_is, same_query, variables_fault, body_answers}
use Rattle.xquery_eval.proofs.runs.run_query_in.Goals as goal

pub returns-in_err-globals : goal.returns-in_err-globals
returns-in_err-globals c =
    let held : Run = record {
      query = with_functions c.args.query.now c.in_ok-functions.functions;
      documents = c.args.set.now;
      given = given_of c.as_slice-2.result.now;
    } in
    let run = run_is c.args.query.now c.args.set.now c.in_ok-functions.functions
    c.as_slice-2.result.now c.args.params.now
    (c.in_ok-functions.ensures ∙ c.as_slice.ensures) c.as_slice-2.ensures in
    let at : Tree → Item = λ t. a_node (record { number = 0; tree = t; path = []; attribute = None }) in
    let root : a_node c.in_ok-root_of.field-0 ≡ at c.args.document.now =
    ap a_node c.in_ok-root_of.ensures ∙ ap at c.in_ok-copy.ensures in
    let first = c.in-Some.ensures.1 ∙ ap (λ n. n + 1) c.len.ensures.count in
    let f = c.in_err-globals.field-0.0 in
    let q = err_from_is_err_and c.from_residual-in_err-globals.result
    c.from_residual-in_err-globals.ensures.1 in
    rw (q.1, q.2)
    (same_query (Err f) held _ _ _ c.args.depth c.in-Some.next (length c.args.set.now + 1) run
    root first
    (variables_fault held (a_node c.in_ok-root_of.field-0) c.args.depth c.in-Some.next f
    c.in_err-globals.ensures))

pub returns : goal.returns
returns c =
    let held : Run = record {
      query = with_functions c.args.query.now c.in_ok-functions.functions;
      documents = c.args.set.now;
      given = given_of c.as_slice-2.result.now;
    } in
    let run = run_is c.args.query.now c.args.set.now c.in_ok-functions.functions
    c.as_slice-2.result.now c.args.params.now
    (c.in_ok-functions.ensures ∙ c.as_slice.ensures) c.as_slice-2.ensures in
    let at : Tree → Item = λ t. a_node (record { number = 0; tree = t; path = []; attribute = None }) in
    let root : a_node c.in_ok-root_of.field-0 ≡ at c.args.document.now =
    ap a_node c.in_ok-root_of.ensures ∙ ap at c.in_ok-copy.ensures in
    let first = c.in-Some.ensures.1 ∙ ap (λ n. n + 1) c.len.ensures.count in
    same_query c.eval_at_top.result held _ _ _ c.args.depth c.in-Some.next
    (length c.args.set.now + 1) run root first
    (body_answers held (a_node c.in_ok-root_of.field-0) c.args.depth c.in-Some.next
    c.eval_at_top.result c.in_ok-globals.globals c.eval_at_top.new.next
    c.global_variables.new.next c.in_ok-globals.ensures c.eval_at_top.ensures)
