use Rattle.query_printer.proofs.Prologs.{functions_ready, variables_ready, late_made}
use Rattle.query_printer.proofs.printing.push_late.Goals as goal

pub push_functions-requires : goal.push_functions-requires
push_functions-requires c = functions_ready c.args.query.now c.args.prefixes.now
    c.as_slice.result.now c.requires.same c.as_slice.ensures c.requires.can

pub push_variables-requires : goal.push_variables-requires
push_variables-requires c = variables_ready c.args.query.now c.args.prefixes.now
    c.as_slice-2.result.now c.requires.same c.as_slice-2.ensures c.requires.can

pub returns : goal.returns
returns c = late_made c.args.query.now c.args.prefixes.now c.as_slice.result.now
    c.as_slice-2.result.now c.as_slice-3.result.now c.args.draft.now _ _ _ _ c.requires.same
    c.as_slice.ensures c.as_slice-2.ensures c.as_slice-3.ensures c.in_ok-push_functions.ensures
    c.in_ok-push_variables.ensures c.in_ok-push_omit.ensures c.in_ok-push_space.ensures
