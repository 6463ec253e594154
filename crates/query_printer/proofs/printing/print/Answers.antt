use Rattle.std.proofs.Common.{List, subst}
use Rattle.std.proofs.lemmas.Result.{IfOk-weaker}
use Rattle.expr_keys.specs.declared.tokens.Token.{Token}
use Rattle.query_pages.specs.Laid.{IsTextOf}
use Rattle.query_printer.proofs.Spells.{printable_can, text_spells}
use Rattle.query_printer.proofs.printing.print.Goals as goal

pub page_of-requires-clause-can : goal.page_of-requires-clause-can
page_of-requires-clause-can c = printable_can c.args.query.now c.requires

pub returns-clause-spelled : goal.returns-clause-spelled
returns-clause-spelled c =
    IfOk-weaker c.text.result _ _
    (λ text h. text_spells c.args.query.now text c.requires
    (subst (λ (ts : List Token). IsTextOf ts text) c.in_ok-page.ensures h)) c.text.ensures
