use Rattle.std.proofs.Common.{◌≡◌, ◌++◌, ◌∙◌, Option, true, subst, sym, ap}
use Rattle.xt_syntax.specs.declared.exprs.Expr.{Expr}
use Rattle.printed_laws.specs.QueryRaws.Declarations.{value_can, value_tokens}
use Rattle.query_printer.proofs.PrologDrafts.DeclarationEnds.{value_made}
use Rattle.query_printer.proofs.prolog_drafts.declarations.push_value.Goals as goal

pub returns-in_ok-push_key-in-Some : goal.returns-in_ok-push_key-in-Some
returns-in_ok-push_key-in-Some c =
    let p = c.args.prefixes.now in
    value_made p c.in-Some.e c.args.draft.now _ _
    (subst (λ (v : Option Expr). value_can p v ≡ true) c.in-Some.is c.requires)
    c.in_ok-push_part-in-Some.ensures c.in_ok-push_key-in-Some.ensures
    ∙ ap (λ (v : Option Expr). value_tokens p v ++ c.args.draft.now) (sym c.in-Some.is)
