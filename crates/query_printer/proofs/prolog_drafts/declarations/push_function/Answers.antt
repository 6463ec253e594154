use Rattle.query_printer.proofs.PrologDrafts.DeclarationEnds.{function_made, function_can}
use Rattle.query_printer.proofs.prolog_drafts.declarations.push_function.Goals as goal

pub push_signature-requires : goal.push_signature-requires
push_signature-requires c =
    let can = function_can c.args.prefixes.now c.args.declared.now c.requires in
    record { params = can.params; kind = can.kind }

pub returns : goal.returns
returns c =
    let can = function_can c.args.prefixes.now c.args.declared.now c.requires in
    function_made c.args.prefixes.now c.args.declared.now c.args.draft.now _ _ _ _ _ _ can.body
    c.in_ok-push_key.ensures c.in_ok-push_key-2.ensures c.in_ok-push_expr.ensures
    c.in_ok-push_key-3.ensures c.in_ok-push_signature.ensures c.in_ok-push_declare.ensures
