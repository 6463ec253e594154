-- The productions of paths and primary expressions, by what their parts mean.
use Rattle.std.proofs.Common.{◌≡◌, List, [], ◌∷◌, true, refl}
use Rattle.xt_types.specs.declared.axes.Axis.TheVariants as axis
use Rattle.xt_types.specs.declared.node_tests.NameTest.TheVariants as name
use Rattle.xt_syntax.specs.declared.exprs.Expr.TheVariants as expr
use Rattle.expr_terms.specs.Productions.{body}
use Rattle.expr_keys.specs.declared.productions.Production.{Production}
use Rattle.expr_keys.specs.declared.productions.Production.TheVariants as production
use Rattle.expr_rules.specs.declared.expr_meant.meant.Meant.{Meant}
use Rattle.expr_rules.specs.declared.expr_meant.meant.Meant.TheVariants as meant
use Rattle.expr_rules.specs.ExprMeant.Names.{written_of}
use Rattle.expr_rules.specs.ExprMeant.Parts.{expr_of, exprs_of, expr_or, key_of}
use Rattle.expr_rules.specs.Rules.{own_broken, end_broken, args_in}
use Rattle.expr_resolve.specs.ExprPrimaries.ExprPaths.Paths.{deep, stepped}
use Rattle.expr_resolve.specs.ExprPrimaries.ExprPaths.Primaries.{literal_of}
use Rattle.expr_resolve.specs.ExprPrimaries.ExprPaths.Steps.{axis_of, axis_for}
use Rattle.expr_resolve.specs.ExprPrimaries.ExprPaths.Table.{path_value}
use Rattle.expr_resolve.specs.declared.setting.Setting.{Setting}
use Rattle.expr_resolve.specs.Tables.{family_of, value_in, act, end as end_rules}
use Rattle.sound_expressions.specs.SoundForms.Sound.{SoundPrefixes}
use Rattle.sound_expressions.proofs.SoundForms.NameLemmas.{any_kind, no_uri}
use Rattle.sound_expressions.proofs.SoundForms.FormLemmas.{form_empty, form_root, form_context, form_filter}
use Rattle.sound_expressions.proofs.ExprRegular.Claims.{IsExpr, expr_is, IsForm, form_is, IsMore, more_step}
use Rattle.sound_expressions.proofs.ExprRegular.Claims.{more_deep, IsKind, kind_is, AreArguments, arguments_are}
use Rattle.sound_expressions.proofs.ExprRegular.Claims.{Filled, end, taken, next, without, with, stop, again}
use Rattle.sound_expressions.proofs.ExprRegular.Lists.{many_are, exprs_fine}
use Rattle.sound_expressions.proofs.ExprRegular.PathForms.{node_step, deep_form, stepped_form, path_form}
use Rattle.sound_expressions.proofs.ExprRegular.PathForms.{step_on_form, plain_kind_good, no_target, pi_target}
use Rattle.sound_expressions.proofs.ExprRegular.PathForms.{named_kind_good, kind_name_good, number_form}
use Rattle.sound_expressions.proofs.ExprRegular.PathForms.{literal_form, variable_form, called_form, args_fine}

module _ (s : Setting) (u : SoundPrefixes s.prefixes) where
  abbrev pub Meaning : Production → List Meant → Type 0
  Meaning p ms = Filled s p true (body p) ms

  pub rooted_made : IsForm (act s production.Rooted [])
  unfolding family_of value_in path_value
  rooted_made = form_is form_root

  pub root_steps_made : {ms : List Meant} → Meaning production.RootSteps ms
      → IsForm (act s production.RootSteps ms)
  unfolding family_of value_in path_value
  root_steps_made (next {ms = ms} (expr_is {e = e} f) o q) =
      form_is (path_form expr.Root (meant.Expr e ∷ ms) form_root (more_step f, many_are q))

  pub rooted_deep_made : {ms : List Meant} → Meaning production.RootedDeep ms
      → IsForm (act s production.RootedDeep ms)
  unfolding family_of value_in path_value
  rooted_deep_made (taken _ a b c (next {ms = ms} (expr_is {e = e} f) o q)) =
      form_is (path_form (deep expr.Root) (meant.Expr e ∷ ms) (deep_form expr.Root form_root.fine)
      (more_step f, many_are q))

  pub steps_made : {m n : Meant} {ms : List Meant} → Meaning production.Steps (m ∷ n ∷ ms)
      → IsForm (act s production.Steps (m ∷ n ∷ ms))
  unfolding family_of value_in path_value expr_of
  steps_made {n = n} {ms = ms} (next (expr_is {e = e} f) o (again g p q)) =
      form_is (path_form (stepped e n) ms (stepped_form e n f g) (many_are q))
  steps_made (next f o (stop x)) = elim x [ ]

  pub step_after_made : {ms : List Meant} → Meaning production.StepAfter ms
      → IsMore (act s production.StepAfter ms)
  unfolding family_of value_in path_value expr_or
  step_after_made (taken _ a b c (next (expr_is f) o end)) = more_step f

  pub deep_after_made : {ms : List Meant} → Meaning production.DeepAfter ms
      → IsMore (act s production.DeepAfter ms)
  unfolding family_of value_in path_value expr_or
  deep_after_made (taken _ a b c (next (expr_is f) o end)) = more_deep f

  pub axis_step_made : {ms : List Meant} → Meaning production.AxisStep ms
      → IsForm (act s production.AxisStep ms)
  unfolding family_of value_in path_value own_broken
  axis_step_made (taken t a b c (taken _ d e f (next {m = m} {ms = ms} g o q))) =
      form_is (step_on_form s.prefixes.bound s.prefixes.element_default
      (axis_of (key_of (meant.Token t))) m ms u.bound u.element g o (exprs_fine ms (many_are q)))

  pub attribute_step_made : {ms : List Meant} → Meaning production.AttributeStep ms
      → IsForm (act s production.AttributeStep ms)
  unfolding family_of value_in path_value own_broken
  attribute_step_made (taken _ a b c (next {m = m} {ms = ms} g o q)) =
      form_is (step_on_form s.prefixes.bound [] axis.Attribute m ms u.bound no_uri g o
      (exprs_fine ms (many_are q)))

  pub test_step_made : {ms : List Meant} → Meaning production.TestStep ms
      → IsForm (act s production.TestStep ms)
  unfolding family_of value_in path_value own_broken
  test_step_made (next {m = m} {ms = ms} g o q) =
      form_is (step_on_form s.prefixes.bound s.prefixes.element_default (axis_for m) m ms u.bound
      u.element g o (exprs_fine ms (many_are q)))

  pub parent_step_made : {ms : List Meant} → Meaning production.ParentStep ms
      → IsForm (act s production.ParentStep ms)
  unfolding family_of value_in path_value
  parent_step_made {ms = ms} (taken _ a b c q) =
      form_is (node_step axis.Parent (exprs_of ms) (exprs_fine ms (many_are q)))

  pub filter_step_made : {m n : Meant} {ms : List Meant}
      → Meaning production.FilterStep (m ∷ n ∷ ms)
      → IsForm (act s production.FilterStep (m ∷ n ∷ ms))
  unfolding family_of value_in path_value expr_of
  filter_step_made {n = n} {ms = ms} (next (expr_is {e = e} f) o (again g p q)) =
      form_is (form_filter e (expr_of n) (exprs_of ms) f (exprs_fine (n ∷ ms) (g, many_are q)))
  filter_step_made (next f o (stop x)) = elim x [ ]

  pub plain_kind_made : {ms : List Meant} → Meaning production.PlainKind ms
      → IsKind (act s production.PlainKind ms)
  unfolding family_of value_in path_value
  plain_kind_made (taken t a b c (taken _ d e f (taken _ g h i end))) =
      kind_is (plain_kind_good (key_of (meant.Token t)))

  pub pi_kind_made : {ms : List Meant} → Meaning production.PiKind ms
      → IsKind (act s production.PiKind ms)
  unfolding family_of value_in path_value
  pi_kind_made (taken _ a b c (taken _ d e f (without (taken _ g h i end)))) = kind_is no_target
  pi_kind_made (taken _ a b c (taken _ d e f (with {m = m} x o (taken _ g h i end)))) =
      kind_is (pi_target m x)

  pub named_kind_made : {ms : List Meant} → Meaning production.NamedKind ms
      → IsKind (act s production.NamedKind ms)
  unfolding family_of value_in path_value
  named_kind_made (taken t a b c (taken _ d e f (without (taken _ g h i end)))) =
      kind_is (named_kind_good s.prefixes.element_default (key_of (meant.Token t)) name.Any
      u.element any_kind)
  named_kind_made (taken t a b c (taken _ d e f (with {m = m} x o (taken _ g h i end)))) =
      kind_is (named_kind_good s.prefixes.element_default (key_of (meant.Token t)) _ u.element
      (kind_name_good s.prefixes.bound m u.bound x))

  pub number_made : {ms : List Meant} → Meaning production.Number ms
      → IsForm (act s production.Number ms)
  unfolding family_of value_in path_value literal_of
  number_made (taken t a b c end) = form_is (number_form t a)

  pub literal_made : {ms : List Meant} → Meaning production.Literal ms
      → IsForm (act s production.Literal ms)
  unfolding family_of value_in path_value literal_of
  literal_made (taken t a b c end) = form_is (literal_form t a b)

  pub variable_made : {ms : List Meant} → Meaning production.Variable ms
      → IsForm (act s production.Variable ms)
  unfolding family_of value_in path_value written_of
  variable_made (taken _ a b c (taken t d e f end)) =
      form_is (variable_form s.prefixes.bound t u.bound d e)

  pub empty_made : IsForm (act s production.Parens [])
  unfolding family_of value_in path_value
  empty_made = form_is form_empty

  pub parens_same : (m : Meant) → IsExpr m → act s production.Parens (m ∷ []) ≡ m
  unfolding family_of value_in path_value expr_or
  parens_same _ (expr_is f) = refl

  pub context_made : IsForm (act s production.Context [])
  unfolding family_of value_in path_value
  context_made = form_is form_context

  pub call_made : {ms : List Meant} → Meaning production.Call ms
      → end_rules s production.Call ms ≡ [] → IsForm (act s production.Call ms)
  unfolding family_of value_in path_value end_broken written_of
  call_made (taken t a b c (taken _ d e f (without (taken _ g h i end)))) r =
      form_is (called_form s.prefixes.bound s.prefixes.function_default t [] u.bound u.function
      a b tt r)
  call_made (taken t a b c (taken _ d e f (with {m = m} x o (taken _ g h i end)))) r =
      form_is (called_form s.prefixes.bound s.prefixes.function_default t (args_in m) u.bound
      u.function a b (args_fine m x) r)

  pub argued_made : {ms : List Meant} → Meaning production.ArgumentList ms
      → AreArguments (act s production.ArgumentList ms)
  unfolding family_of value_in path_value
  argued_made (next {m = m} {ms = ms} g o q) =
      arguments_are (exprs_fine (m ∷ ms) (g, many_are q))
