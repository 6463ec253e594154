-- Lists, operators and filters mean what they are printed for.
use Rattle.std.proofs.Common.{◌≡◌, List, [], ◌∷◌, map, refl}
use Rattle.std.proofs.Common.{◌∙◌, ap, ap₂}
use Rattle.std.proofs.lemmas.Bool.{and_parts}
use Rattle.xt_names.specs.declared.kinds.CompareOp.{CompareOp}
use Rattle.xt_names.specs.declared.kinds.CompareOp.TheVariants as compare
use Rattle.xt_names.specs.declared.kinds.ArithOp.{ArithOp}
use Rattle.xt_names.specs.declared.kinds.ArithOp.TheVariants as arith
use Rattle.xt_syntax.specs.declared.exprs.Expr.{Expr}
use Rattle.xt_syntax.specs.declared.exprs.Expr.TheVariants as expr
use Rattle.expr_keys.specs.declared.keys.Key.{Key}
use Rattle.expr_keys.specs.declared.keys.Key.TheVariants as key
use Rattle.expr_keys.specs.declared.tokens.Token.TheVariants as token
use Rattle.expr_keys.specs.declared.productions.Level.{Level}
use Rattle.expr_keys.specs.declared.productions.Level.TheVariants as level
use Rattle.expr_keys.specs.declared.productions.Production.TheVariants as production
use Rattle.expr_rules.specs.declared.expr_meant.meant.Meant.TheVariants as meant
use Rattle.expr_rules.specs.ExprMeant.Parts.{expr_of, expr_or, key_of, key_in}
use Rattle.expr_raws.specs.ExprPrimaries.ExprPaths.Table.{path_value}
use Rattle.expr_raws.specs.ExprControl.Table.{control_value}
use Rattle.expr_raws.specs.ExprControl.Operators as operators
use Rattle.expr_resolve.specs.declared.setting.Setting.{Setting}
use Rattle.expr_resolve.specs.Tables.{is_chain, family_of, value_in}
use Rattle.expr_raws.specs.PathRaws.Forms.{below, single, list, primary, signs, at, all_at, all_can}
use Rattle.expr_raws.specs.PathRaws.Forms.{key_leaf}
use Rattle.expr_raws.specs.PathRaws.Paths.{filtered}
use Rattle.expr_raws.proofs.PathRaws.Values.{value_leaf, value_node, at_means}
use Rattle.expr_raws.specs.ControlRaws.Operators.{tail, many, listed, signed, compare_key, value_key}
use Rattle.expr_raws.specs.ControlRaws.Operators.{arithmetic, once, left}
use Rattle.expr_raws.proofs.ControlRaws.Chains.{Plain, Leftly, chain_means, once_means, left_means}
use Rattle.expr_raws.specs.Raws.{form_of}
use Rattle.expr_raws.proofs.Parts.{Means, P, bare, their, all_mean, all_tails}

module _ (s : Setting) where
  -- the levels
  pub plain_ors : Plain s level.Or
  unfolding operators.operated
  plain_ors ms = refl

  pub plain_ands : Plain s level.And
  unfolding operators.operated
  plain_ands ms = refl

  pub plain_compares : Plain s level.Comparison
  unfolding operators.operated
  plain_compares ms = refl

  pub plain_ranges : Plain s level.Range
  unfolding operators.operated
  plain_ranges ms = refl

  pub plain_adds : Plain s level.Additive
  unfolding operators.operated
  plain_adds ms = refl

  pub plain_multiplies : Plain s level.Multiplicative
  unfolding operators.operated
  plain_multiplies ms = refl

  pub plain_unions : Plain s level.Union
  unfolding operators.operated
  plain_unions ms = refl

  pub plain_crosses : Plain s level.Intersect
  unfolding operators.operated
  plain_crosses ms = refl

  pub left_compares : Leftly s level.Comparison
  unfolding operators.chained
  left_compares ms = refl

  pub left_ranges : Leftly s level.Range
  unfolding operators.chained
  left_ranges ms = refl

  pub left_adds : Leftly s level.Additive
  unfolding operators.chained
  left_adds ms = refl

  pub left_multiplies : Leftly s level.Multiplicative
  unfolding operators.chained
  left_multiplies ms = refl

  pub left_unions : Leftly s level.Union
  unfolding operators.chained
  left_unions ms = refl

  pub left_crosses : Leftly s level.Intersect
  unfolding operators.chained
  left_crosses ms = refl

  -- lists
  pub listed_means : (ys : List ((e : Expr) × P s e))
      → Means s (listed (their s ys)) (expr.Comma (bare s ys))
  unfolding is_chain family_of value_in path_value control_value
  listed_means [] c = value_node s production.Parens []
  listed_means (y ∷ []) c = absurd (cc)
  listed_means (y ∷ z ∷ ys) c = value_node s production.ExprList
      (all_at single (their s (y ∷ z ∷ ys)))
      ∙ ap (λ es. meant.Expr (expr.Comma es)) (all_mean s single (y ∷ z ∷ ys) c)

  pub ors_mean : (ys : List ((e : Expr) × P s e))
      → Means s (many level.Or key.OrWord (their s ys)) (expr.Or (bare s ys))
  unfolding operators.chained expr_of
  ors_mean [] c = absurd (cc)
  ors_mean (y ∷ []) c = absurd (cc)
  ors_mean (y ∷ z ∷ ys) c =
      let h = and_parts (form_of s.prefixes y.0).can (all_can (their s (z ∷ ys))) c in
      chain_means s level.Or (at (below level.Or) (form_of s.prefixes y.0)
      ∷ map (λ f. tail level.Or key.OrWord f) (their s (z ∷ ys)))
      ∙ ap₂ (λ e es. meant.Expr (expr.Or (e ∷ es)))
      (ap expr_of (at_means s (below level.Or) (form_of s.prefixes y.0) y.0 (y.1 h.0)))
      (all_tails s level.Or plain_ors key.OrWord (z ∷ ys) h.1)

  pub ands_mean : (ys : List ((e : Expr) × P s e))
      → Means s (many level.And key.AndWord (their s ys)) (expr.And (bare s ys))
  unfolding operators.chained expr_of
  ands_mean [] c = absurd (cc)
  ands_mean (y ∷ []) c = absurd (cc)
  ands_mean (y ∷ z ∷ ys) c =
      let h = and_parts (form_of s.prefixes y.0).can (all_can (their s (z ∷ ys))) c in
      chain_means s level.And (at (below level.And) (form_of s.prefixes y.0)
      ∷ map (λ f. tail level.And key.AndWord f) (their s (z ∷ ys)))
      ∙ ap₂ (λ e es. meant.Expr (expr.And (e ∷ es)))
      (ap expr_of (at_means s (below level.And) (form_of s.prefixes y.0) y.0 (y.1 h.0)))
      (all_tails s level.And plain_ands key.AndWord (z ∷ ys) h.1)

  pub filtered_means : (y : (e : Expr) × P s e) (ys : List ((e : Expr) × P s e))
      → Means s (filtered (form_of s.prefixes y.0) (their s ys)) (expr.Filter y.0 (bare s ys))
  unfolding is_chain family_of value_in path_value expr_of
  filtered_means y [] c = absurd (cc)
  filtered_means y (z ∷ ys) c =
      let h = and_parts (form_of s.prefixes y.0).can (all_can (their s (z ∷ ys))) c in
      value_node s production.FilterStep
      (at primary (form_of s.prefixes y.0) ∷ all_at list (their s (z ∷ ys)))
      ∙ ap₂ (λ e es. meant.Expr (expr.Filter e es))
      (ap expr_of (at_means s primary (form_of s.prefixes y.0) y.0 (y.1 h.0)))
      (all_mean s list (z ∷ ys) h.1)

  pub minus_means : (y : (e : Expr) × P s e) → Means s (signed key.Minus (form_of s.prefixes
      y.0)) (expr.Minus y.0)
  unfolding is_chain family_of value_in control_value operators.signed_by key_of key_in expr_or
  minus_means y c = value_node s production.Signed
      (key_leaf key.Minus ∷ at signs (form_of s.prefixes y.0) ∷ [])
      ∙ rw (
        value_leaf s (token.Key key.Minus),
        at_means s signs (form_of s.prefixes y.0) y.0
            (y.1 c),
      ) refl

  pub plus_means : (y : (e : Expr) × P s e) → Means s (signed key.Plus (form_of s.prefixes y.0))
      (expr.Plus y.0)
  unfolding is_chain family_of value_in control_value operators.signed_by key_of key_in expr_or
  plus_means y c = value_node s production.Signed
      (key_leaf key.Plus ∷ at signs (form_of s.prefixes y.0) ∷ [])
      ∙ rw (
        value_leaf s (token.Key key.Plus),
        at_means s signs (form_of s.prefixes y.0) y.0 (y.1
            c),
      ) refl

  pub once_so : (l : Level) → Plain s l → Leftly s l
      → (k : Key) (y z : (e : Expr) × P s e) (e : Expr)
      → operators.operated_by l k y.0 z.0 ≡ e
      → Means s (once l k (form_of s.prefixes y.0) (form_of s.prefixes z.0)) e
  once_so l plain leftly k y z e same c =
      let h = and_parts (form_of s.prefixes y.0).can (form_of s.prefixes z.0).can c in
      once_means s l plain leftly k (form_of s.prefixes y.0) (form_of s.prefixes z.0) y.0 z.0
      (y.1 h.0) (z.1 h.1)
      ∙ ap (λ x. meant.Expr x) same

  pub left_so : (l : Level) → Plain s l → Leftly s l
      → (k : Key) (y z : (e : Expr) × P s e) (e : Expr)
      → operators.operated_by l k y.0 z.0 ≡ e
      → Means s (left l k (form_of s.prefixes y.0) (form_of s.prefixes z.0)) e
  left_so l plain leftly k y z e same c =
      let h = and_parts (form_of s.prefixes y.0).can (form_of s.prefixes z.0).can c in
      left_means s l plain leftly k (form_of s.prefixes y.0) (form_of s.prefixes z.0) y.0 z.0
      (y.1 h.0) (z.1 h.1)
      ∙ ap (λ x. meant.Expr x) same

  pub general_is : (op : CompareOp) (a b : Expr)
      → operators.operated_by level.Comparison (compare_key op) a b ≡ expr.General op a b
  unfolding operators.operated_by operators.compared
  general_is compare.Eq a b = refl
  general_is _ a b = refl

  pub value_is : (op : CompareOp) (a b : Expr)
      → operators.operated_by level.Comparison (value_key op) a b ≡ expr.Value op a b
  unfolding operators.operated_by operators.compared
  value_is compare.Eq a b = refl
  value_is _ a b = refl

  pub arithmetic_means : (op : ArithOp) (y z : (e : Expr) × P s e)
      → Means s (arithmetic op (form_of s.prefixes y.0) (form_of s.prefixes z.0)) (expr.Arith op
      y.0 z.0)
  unfolding operators.operated_by operators.combined
  arithmetic_means arith.Add y z = left_so level.Additive plain_adds left_adds key.Plus y z _ refl
  arithmetic_means arith.Sub y z = left_so level.Additive plain_adds left_adds key.Minus y z _ refl
  arithmetic_means arith.Mul y z =
      left_so level.Multiplicative plain_multiplies left_multiplies key.Star y z _ refl
  arithmetic_means arith.Idiv y z =
      left_so level.Multiplicative plain_multiplies left_multiplies key.IdivWord y z _ refl
  arithmetic_means arith.Mod y z =
      left_so level.Multiplicative plain_multiplies left_multiplies key.ModWord y z _ refl

  pub is_means : (y z : (e : Expr) × P s e)
      → Means s (once level.Comparison key.IsWord (form_of s.prefixes y.0) (form_of s.prefixes
      z.0)) (expr.Is y.0 z.0)
  unfolding operators.operated_by operators.compared
  is_means y z = once_so level.Comparison plain_compares left_compares key.IsWord y z _ refl

  pub before_means : (y z : (e : Expr) × P s e)
      → Means s (once level.Comparison key.Before (form_of s.prefixes y.0) (form_of s.prefixes
      z.0)) (expr.Before y.0 z.0)
  unfolding operators.operated_by operators.compared
  before_means y z = once_so level.Comparison plain_compares left_compares key.Before y z _ refl

  pub after_means : (y z : (e : Expr) × P s e)
      → Means s (once level.Comparison key.After (form_of s.prefixes y.0) (form_of s.prefixes z.0))
      (expr.After y.0 z.0)
  unfolding operators.operated_by operators.compared
  after_means y z = once_so level.Comparison plain_compares left_compares key.After y z _ refl

  pub range_means : (y z : (e : Expr) × P s e)
      → Means s (once level.Range key.ToWord (form_of s.prefixes y.0) (form_of s.prefixes z.0))
      (expr.Range y.0 z.0)
  unfolding operators.operated_by operators.combined
  range_means y z = once_so level.Range plain_ranges left_ranges key.ToWord y z _ refl

  pub union_means : (y z : (e : Expr) × P s e)
      → Means s (left level.Union key.UnionWord (form_of s.prefixes y.0) (form_of s.prefixes
      z.0)) (expr.Union y.0 z.0)
  unfolding operators.operated_by operators.combined
  union_means y z = left_so level.Union plain_unions left_unions key.UnionWord y z _ refl

  pub intersect_means : (y z : (e : Expr) × P s e)
      → Means s (left level.Intersect key.IntersectWord (form_of s.prefixes y.0) (form_of
      s.prefixes z.0))
      (expr.Intersect y.0 z.0)
  unfolding operators.operated_by operators.combined
  intersect_means y z = left_so level.Intersect plain_crosses left_crosses key.IntersectWord y z _
      refl

  pub except_means : (y z : (e : Expr) × P s e)
      → Means s (left level.Intersect key.ExceptWord (form_of s.prefixes y.0) (form_of s.prefixes
      z.0))
      (expr.Except y.0 z.0)
  unfolding operators.operated_by operators.combined
  except_means y z = left_so level.Intersect plain_crosses left_crosses key.ExceptWord y z _ refl
