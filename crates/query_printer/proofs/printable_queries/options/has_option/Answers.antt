use Rattle.std.proofs.Common.{ℕ, List, [], Option, ap, ap₂, ◌∙◌}
use Rattle.std.specs.Prelude.{is_some}
use Rattle.expr_keys.specs.declared.tokens.Token.{Token}
use Rattle.expr_raws.specs.PathRaws.Names.{name_token}
use Rattle.query_printer.proofs.printable_queries.options.has_option.Goals as goal

pub returns : goal.returns
returns c = c.in_ok-has.ensures ∙ ap (λ (o : Option Token). is_some o)
    (ap₂ (λ (u n : List ℕ). name_token c.args.prefixes.now.bound [] (record { uri = u; local = n }))
    c.in_ok-uri.ensures c.in_ok-local.ensures)
