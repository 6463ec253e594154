-- Expressions of stylesheets that break no rule are those of a closed stylesheet, and may stand
-- where they do.
use Rattle.std.proofs.Common.{◌≡◌, ◌≤◌, List, [], Bool, true, Some, refl, arith}
use Rattle.std.proofs.lemmas.Bool.{and_from, le-leb}
use Rattle.std.specs.Prelude.{nat_le}
use Rattle.closed_queries.specs.Closed.{is_good_expr}
use Rattle.closed_sheets.specs.Forms.{has_xpath_forms}
use Rattle.closed_sheets.specs.Values.{is_sheet_expr}
use Rattle.xt_forms.specs.Nest.{nest_of}
use Rattle.xt_syntax.specs.declared.exprs.Expr.{Expr}
use Rattle.expr_keys.specs.declared.productions.Language.TheVariants.{Xpath as xpath}
use Rattle.expr_keys.specs.declared.tokens.Token.{Token}
use Rattle.expr_terms.specs.declared.raws.Raw.{Raw}
use Rattle.expr_terms.specs.Nest.{raw_nest_of}
use Rattle.expr_grammar.specs.Grammar.{Spells}
use Rattle.sound_expressions.proofs.ExprRegular.Regular.{whole_good}
use Rattle.expr_resolve.specs.declared.setting.Setting.{Setting}
use Rattle.expr_resolve.specs.Folds.{broken_of, expr_meant}
use Rattle.sheet_expressions.specs.Checked.{checked}
use Rattle.sound_expressions.specs.SoundForms.Sound.{SoundPrefixes, are_sound}
use Rattle.sheet_closure.specs.StandingParts.Calls.{calls_stand, expr_stands}
use Rattle.xpath_laws.proofs.XpathForms.Shapes.{whole_shaped}
use Rattle.closed_texts.proofs.NamedKeys.Stands.{named_spelled, named_nests, named_fits}

pub record Closed (grouped : Bool) (e : Expr) : Type 0 where
  pub good : is_sheet_expr e ≡ true
  pub stands : expr_stands grouped e ≡ true

closed_of : (grouped : Bool) (e : Expr) → is_good_expr e ≡ true → has_xpath_forms e ≡ true
    → nest_of e ≤ 40 → calls_stand grouped e ≡ true → Closed grouped e
unfolding is_sheet_expr expr_stands
closed_of grouped e g f n c = record {
  good = and_from (is_good_expr e) _ g f;
  stands = and_from (nat_le (nest_of e) 40) _ (le-leb (nest_of e) 40 n) c;
}

pub named_closed : (s : Setting) (grouped : Bool) (ts : List Token) (v w : Raw)
    → SoundPrefixes s.prefixes → are_sound ts ≡ true → Spells xpath ts v → raw_nest_of v ≤ 40
    → checked s.prefixes grouped v ≡ Some w → broken_of s w ≡ []
    → Closed grouped (expr_meant s w)
named_closed s grouped ts v w u h d most e b =
    let k = named_spelled s grouped u.bound v w h d e in
    let fit = named_fits s grouped u.bound v w d e b in
    let deep = named_nests s grouped u.bound v w e in
    let nest = fit.nests in
    closed_of grouped (expr_meant s w) (whole_good s u k.1 k.2 (whole_shaped k.2) b) fit.forms
    (omega (arith, nest, deep, most)) (fit.holds [] [] refl)
