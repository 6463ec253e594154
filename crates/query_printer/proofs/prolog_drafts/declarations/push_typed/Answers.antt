use Rattle.std.proofs.Common.{◌∷◌, ◌∙◌, ap}
use Rattle.expr_keys.specs.declared.tokens.Token.{Token}
use Rattle.query_printer.proofs.PrologDrafts.DeclarationEnds.{typed_made}
use Rattle.query_printer.proofs.prolog_drafts.declarations.push_typed.Goals as goal

pub returns : goal.returns
returns c = typed_made c.args.prefixes.now c.args.name.now c.args.kind.now c.args.draft.now _ _ _
    c.requires c.in_ok-push_typing.ensures (c.in_ok-push.ensures ∙ ap (λ (t : Token). t ∷ c.push_typing.new.draft)
    c.in_ok-variable_token.ensures) c.in_ok-push_key.ensures
