use Rattle.std.proofs.Common.{◌∷◌, ◌++◌, ◌∙◌, List, ap}
use Rattle.xt_syntax.specs.declared.queries.QueryParam.{QueryParam}
use Rattle.expr_keys.specs.declared.tokens.Token.{Token}
use Rattle.printed_laws.specs.QueryRaws.Declarations.{params_tokens}
use Rattle.query_printer.proofs.PrologDrafts.DeclarationEnds.{signature_made}
use Rattle.query_printer.proofs.prolog_drafts.declarations.push_signature.Goals as goal

pub returns : goal.returns
returns c = signature_made c.args.prefixes.now c.args.declared.now c.args.draft.now _ _ _ _ _
    c.requires.kind c.in_ok-push_typing.ensures c.in_ok-push_key.ensures
    (c.in_ok-push_params.ensures ∙ ap (λ (ps : List QueryParam). params_tokens c.args.prefixes.now ps
    ++ c.push_key.new.self) c.as_slice.ensures) c.in_ok-push_key-2.ensures (c.in_ok-push.ensures ∙ ap (λ (t : Token). t ∷ c.push_key-2.new.self) c.in_ok-named_by.ensures)
