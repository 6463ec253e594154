-- A rule on an expression that is written out.
use Rattle.std.proofs.Common.{◌≡◌, ℕ, List, [], ◌∷◌, refl}
use Rattle.std.specs.Prelude.{Some}
use Rattle.xt_syntax.specs.declared.exprs.Expr.{Expr}
use Rattle.xt_syntax.specs.declared.exprs.Clause.TheOpen.{Str, Comma}
use Rattle.xt_syntax.specs.declared.exprs.Clause.TheViews.{roll-Expr, out-roll-Expr}
use Rattle.rewrite_rules.specs.Lists.{rule_3}

abbrev text : List ℕ → Expr
text t = roll-Expr (Str t)

-- (('a', 'b'), 'c') is ('a', 'b', 'c')
pub flat_row : (a b c : List ℕ) →
    rule_3 [] (roll-Expr (Comma (roll-Expr (Comma (text a ∷ text b ∷ [])) ∷ text c ∷ [])))
    ≡ Some (roll-Expr (Comma (text a ∷ text b ∷ text c ∷ [])))
flat_row a b c =
    rw (
      out-roll-Expr (Comma (roll-Expr (Comma (text a ∷ text b ∷ [])) ∷ text c ∷ [])),
      out-roll-Expr (Comma (text a ∷ text b ∷ [])),
      out-roll-Expr (Str c),
    ) refl
