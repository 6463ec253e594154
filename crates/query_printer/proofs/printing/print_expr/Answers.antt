use Rattle.std.proofs.Common.{List, ap, subst, ◌∙◌}
use Rattle.std.proofs.lemmas.Result.{IfOk-weaker}
use Rattle.xt_syntax.specs.declared.prefixes.Prefixes.{Prefixes}
use Rattle.expr_keys.specs.declared.tokens.Token.{Token}
use Rattle.expr_raws.specs.Raws.{tokens_of}
use Rattle.query_pages.specs.Laid.{IsTextOf}
use Rattle.query_printer.proofs.printing.print_expr.Goals as goal

pub returns : goal.returns
returns c =
    IfOk-weaker c.text.result _ _
    (λ text h. subst (λ (ts : List Token). IsTextOf ts text)
    (c.in_ok-page.ensures
    ∙ ap (λ (p : Prefixes). tokens_of p c.args.e.now) c.in_ok-prefixes.ensures) h) c.text.ensures
