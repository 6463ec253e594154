-- What an expression of a stylesheet means where it stands (XSLT 2.0, 5.2).
use Rattle.std.specs.Prelude.{◌≡◌, ◌≤◌, ℕ, List, [], Some}
use Rattle.xt_syntax.specs.declared.exprs.Expr.{Expr}
use Rattle.expr_terms.specs.declared.raws.Raw.{Raw}
use Rattle.expr_terms.specs.Nest.{raw_nest_of}
use Rattle.pattern_syntax.specs.ExprResolve.Folds.{broken_of, expr_meant}
use Rattle.xpath_syntax.specs.ExprReadings.Spelled.{IsRead}
use Rattle.sheet_expressions.specs.Checked.{checked}
use Rattle.sheet_values.specs.declared.sheet_texts.places.StaticContext.{StaticContext}
use Rattle.sheet_language.specs.Settings.{prefixes_at, setting_at}
use Rattle.sheet_language.specs.Language.{most_levels}

-- The text spells an expression that nests at most 40 levels and in which each call may stand where it
-- does; with the names of keys in place of the literals that write them it breaks no static rule, and
-- means this.
pub record Means (p : StaticContext) (text : List ℕ) (e : Expr) : Type 0 where
  pub raw : Raw
  pub is_read : IsRead text raw
  pub nests : raw_nest_of raw ≤ most_levels
  pub named : Raw
  pub calls : checked (prefixes_at p.bound) p.in_group raw ≡ Some named
  pub unbroken : broken_of (setting_at p.bound) named ≡ []
  pub means : e ≡ expr_meant (setting_at p.bound) named
