use Rattle.std.proofs.Common.{◌≡◌, [], true, refl}
use Rattle.xt_syntax.specs.declared.exprs.Expr.{Expr}
use Rattle.xt_syntax.specs.declared.prefixes.Prefixes.{Prefixes}
use Rattle.closed_queries.specs.ExprTexts.{has_sound_texts}
use Rattle.expr_raws.specs.Raws.{tokens_of, is_printable}
use Rattle.token_laws.specs.WrittenTokens.Fit.{are_fit}
use Rattle.token_laws.proofs.WrittenTokens.Forms.{printable_written}
use Rattle.token_laws.specs.FitTokens.Keeps.{are_kept, are_prefixes}
use Rattle.token_laws.proofs.FitTokens.Forms.{printable_fits}
use Rattle.token_laws.proofs.fit_tokens.tokens_are_fit.Goals as goal

fits : (p : Prefixes) (e : Expr) → are_prefixes p.bound ≡ true → has_sound_texts e ≡ true
    → is_printable p e ≡ true → are_kept (tokens_of p e) ≡ true → are_fit (tokens_of p e) ≡ true
fits p e ps s c k = printable_fits p ps e s c [] k (λ h. refl)

pub returns-clause-fit : goal.returns-clause-fit
returns-clause-fit c = fits

pub returns-clause-written : goal.returns-clause-written
returns-clause-written c = λ p e ps s h k.
    (printable_written p e h).whole [] refl [] (fits p e ps s h k) (λ g. refl)
