use Rattle.query_printer.proofs.PrologDrafts.DeclarationEnds.{variable_made, typed_part, value_part}
use Rattle.query_printer.proofs.prolog_drafts.declarations.push_variable.Goals as goal

pub push_value-requires : goal.push_value-requires
push_value-requires c = value_part c.args.prefixes.now c.args.declared.now c.requires

pub push_typed-requires : goal.push_typed-requires
push_typed-requires c = typed_part c.args.prefixes.now c.args.declared.now c.requires

pub returns : goal.returns
returns c = variable_made c.args.prefixes.now c.args.declared.now c.args.draft.now _ _ _ _
    c.in_ok-push_key.ensures c.in_ok-push_value.ensures c.in_ok-push_typed.ensures
    c.in_ok-push_declare.ensures
