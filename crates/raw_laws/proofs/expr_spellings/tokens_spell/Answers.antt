use Rattle.std.proofs.Common.{◌≡◌, [], true, refl}
use Rattle.xt_syntax.specs.declared.exprs.Expr.{Expr}
use Rattle.xt_syntax.specs.declared.prefixes.Prefixes.{Prefixes}
use Rattle.expr_keys.specs.declared.productions.Production.TheVariants as production
use Rattle.expr_grammar.specs.Grammar.{Spells, by, next, end}
use Rattle.expr_raws.specs.PathRaws.Forms.{single, list}
use Rattle.expr_raws.specs.Raws.{form_of, raw_of, tokens_of, is_printable}
use Rattle.raw_laws.proofs.ExprSpellings.Climb.{X, climb}
use Rattle.raw_laws.proofs.ExprSpellings.Paths.{always}
use Rattle.raw_laws.proofs.ExprSpellings.Forms.{printable_spelled}
use Rattle.raw_laws.proofs.expr_spellings.tokens_spell.Goals as goal

whole_spelled : (p : Prefixes) (e : Expr) → is_printable p e ≡ true
    → Spells X (tokens_of p e) (raw_of p e)
whole_spelled p e c =
    let s = printable_spelled p e c in
    by production.WholeExpr refl refl (next (climb (form_of p e).place list s.placed _ _ _
    (s.whole [] (λ h. refl))) end)

pub returns-clause-whole : goal.returns-clause-whole
returns-clause-whole c = whole_spelled

pub returns-clause-single : goal.returns-clause-single
returns-clause-single c = λ p e h. always single (form_of p e) (printable_spelled p e h) []
    (λ u. refl)
