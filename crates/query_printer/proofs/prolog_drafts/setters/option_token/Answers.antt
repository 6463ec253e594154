use Rattle.std.proofs.Common.{ℕ, List, [], Option, ap, ap₂, ◌∙◌}
use Rattle.expr_keys.specs.declared.tokens.Token.{Token}
use Rattle.expr_raws.specs.PathRaws.Names.{name_token}
use Rattle.printed_laws.specs.QueryRaws.Prologs.{token_or}
use Rattle.query_printer.proofs.prolog_drafts.setters.option_token.Goals as goal

pub returns : goal.returns
returns c = c.token_or.ensures ∙ ap (λ (o : Option Token). token_or o) (c.in_ok-token.ensures
    ∙ ap₂ (λ (u n : List ℕ). name_token c.args.prefixes.now.bound [] (record { uri = u; local = n }))
    c.in_ok-uri.ensures c.in_ok-local.ensures)
