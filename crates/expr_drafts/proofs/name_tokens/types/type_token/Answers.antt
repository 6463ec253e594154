use Rattle.std.proofs.Common.{ℕ, List, sym, ap₂, ◌∙◌}
use Rattle.std.proofs.lemmas.Result.{IfOk-weaker}
use Rattle.expr_keys.specs.declared.productions.Class.TheVariants as class
use Rattle.expr_drafts.specs.NamePrefixes.Firsts.{prefix_of}
use Rattle.expr_drafts.specs.NameTokens.Prefixed.{qualified_with}
use Rattle.expr_drafts.proofs.NameTokens.Found.{type_found}
use Rattle.expr_drafts.proofs.name_tokens.types.type_token.Goals as goal

pub returns : goal.returns
returns c =
    let bound = c.args.prefixes.now.bound in
    IfOk-weaker c.qualified_token.result _ _
    (λ token h. h ∙ ap₂ (λ (n u : List ℕ). qualified_with class.Name n (prefix_of bound u))
    c.in_ok-local.ensures c.in_ok-uri.ensures ∙ sym (type_found bound c.args.kind))
    c.qualified_token.ensures
