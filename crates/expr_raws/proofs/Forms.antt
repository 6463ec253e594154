-- The raw value of an expression means it, where boundary white space stays.
use Rattle.std.proofs.Common.{◌≡◌, ℕ, ℤ, List, [], ◌∷◌, Bool, refl, sym}
use Rattle.std.proofs.Common.{◌∙◌, ap, subst}
use Rattle.std.proofs.lemmas.Bool.{and_parts}
use Rattle.xt_syntax.specs.declared.exprs.Expr.{Expr}
use Rattle.xt_syntax.specs.declared.exprs.Expr.TheVariants as expr
use Rattle.xt_syntax.specs.declared.exprs.Expr.TheVariants.{rolls-Int, rolls-Str, rolls-Context}
use Rattle.xt_syntax.specs.declared.exprs.Expr.TheVariants.{rolls-Root, rolls-Comma, rolls-Or}
use Rattle.xt_syntax.specs.declared.exprs.Expr.TheVariants.{rolls-And, rolls-General, rolls-Value}
use Rattle.xt_syntax.specs.declared.exprs.Expr.TheVariants.{rolls-Is, rolls-Before, rolls-After}
use Rattle.xt_syntax.specs.declared.exprs.Expr.TheVariants.{rolls-Range, rolls-Arith, rolls-Minus}
use Rattle.xt_syntax.specs.declared.exprs.Expr.TheVariants.{rolls-Plus, rolls-Union}
use Rattle.xt_syntax.specs.declared.exprs.Expr.TheVariants.{rolls-Intersect, rolls-Except}
use Rattle.xt_syntax.specs.declared.exprs.Expr.TheVariants.{rolls-Filter, rolls-Var, rolls-Call}
use Rattle.xt_syntax.specs.declared.exprs.Expr.TheVariants.{rolls-Step, rolls-Slash}
use Rattle.xt_syntax.specs.declared.exprs.Expr.TheVariants.{rolls-InstanceOf, rolls-Treat}
use Rattle.xt_syntax.specs.declared.exprs.Expr.TheVariants.{rolls-Castable, rolls-Cast}
use Rattle.xt_syntax.specs.declared.exprs.Arm.{Arm}
use Rattle.xt_syntax.specs.declared.exprs.Clause.{Clause}
use Rattle.xt_syntax.specs.declared.exprs.Order.{Order}
use Rattle.xt_syntax.specs.declared.exprs.Flwor.{Flwor as FlworOf}
use Rattle.xt_syntax.specs.declared.exprs.Bind.{Bind}
use Rattle.xt_syntax.specs.declared.exprs.NameSource.{NameSource}
use Rattle.xt_syntax.specs.declared.exprs.DirectAttr.{DirectAttr}
use Rattle.xt_syntax.specs.declared.exprs.Part.{Part}
use Rattle.xt_syntax.specs.declared.prefixes.Prefixes.{Prefixes}
use Rattle.xt_syntax.specs.declared.exprs.Clause.TheViews.{roll-Expr}
use Rattle.xt_syntax.specs.declared.exprs.Clause.TheOpen.{Expr-F, Int, Str, Context, Root, Comma}
use Rattle.xt_syntax.specs.declared.exprs.Clause.TheOpen.{Or, And, General, Value, Is, Before}
use Rattle.xt_syntax.specs.declared.exprs.Clause.TheOpen.{After, Range, Arith, Minus, Plus, Union}
use Rattle.xt_syntax.specs.declared.exprs.Clause.TheOpen.{Intersect, Except, Filter}
use Rattle.xt_syntax.specs.declared.exprs.Clause.TheOpen.{Var, Call, Step, Slash}
use Rattle.xt_syntax.specs.declared.exprs.Clause.TheOpen.{InstanceOf, Treat, Castable, Cast}
use Rattle.expr_keys.specs.declared.tokens.Token.TheVariants as token
use Rattle.expr_keys.specs.declared.productions.Level.TheVariants as level
use Rattle.expr_keys.specs.declared.productions.Production.TheVariants as production
use Rattle.expr_terms.specs.declared.raws.Raw.TheVariants.{Leaf as leaf, Node as node}
use Rattle.expr_rules.specs.declared.expr_meant.meant.Meant.TheVariants as meant
use Rattle.expr_raws.specs.ExprPrimaries.ExprPaths.Primaries as primaries
use Rattle.expr_raws.specs.ExprPrimaries.ExprPaths.Table.{path_value}
use Rattle.expr_raws.specs.ExprControl.Operators as operators
use Rattle.expr_resolve.specs.declared.setting.Setting.{Setting}
use Rattle.expr_resolve.specs.Tables.{is_chain, family_of, value_in}
use Rattle.expr_resolve.specs.Folds.{value_of}
use Rattle.xt_names.specs.declared.names.ExprName.{ExprName}
use Rattle.xt_types.specs.declared.axes.Axis.{Axis}
use Rattle.xt_types.specs.declared.node_tests.Test.{Test}
use Rattle.std.proofs.Common.{Option, Some, None, is_some, not, option_map, true, false}
use Rattle.expr_names.specs.Types.{type_named, call_type}
use Rattle.expr_keys.specs.declared.tokens.Token.{Token}
use Rattle.xt_names.specs.declared.kinds.AtomType.{AtomType}
use Rattle.xt_types.specs.declared.types.SeqType.{SeqType}
use Rattle.xt_syntax.specs.declared.exprs.Clause.TheOpen.{DocC, TextC, CommentC}
use Rattle.xt_syntax.specs.declared.exprs.Expr.TheVariants.{rolls-DocC, rolls-TextC}
use Rattle.xt_syntax.specs.declared.exprs.Expr.TheVariants.{rolls-CommentC}
use Rattle.expr_raws.specs.ExprPrimaries.ExprElements.Computed.{enclosing_by}
use Rattle.expr_raws.specs.ExprPrimaries.ExprElements.Table.{element_value}
use Rattle.expr_keys.specs.declared.keys.Key.{Key}
use Rattle.expr_rules.specs.ExprMeant.Parts.{key_of, key_in, expr_or}
use Rattle.expr_keys.specs.declared.keys.Key.TheVariants as key
use Rattle.xt_syntax.specs.declared.exprs.Clause.TheOpen.{If, Arm-F}
use Rattle.xt_syntax.specs.declared.exprs.Clause.TheViews.{roll-Arm}
use Rattle.xt_syntax.specs.declared.exprs.Expr.TheVariants.{rolls-If}
use Rattle.std.proofs.Common.{◌&&◌, map}
use Rattle.expr_terms.specs.Raws.{as_inner_chain}
use Rattle.expr_terms.specs.declared.raws.Raw.TheViews.{out-Raw}
use Rattle.xt_syntax.specs.declared.exprs.Clause.TheOpen.{ElemC, AttrC, PiC, Fixed, Computed}
use Rattle.xt_syntax.specs.declared.exprs.Clause.TheOpen.{NameSource-F}
use Rattle.xt_syntax.specs.declared.exprs.Clause.TheViews.{roll-NameSource}
use Rattle.xt_syntax.specs.declared.exprs.Expr.TheVariants.{rolls-ElemC, rolls-AttrC, rolls-PiC}
use Rattle.xt_syntax.specs.declared.exprs.NameSource.TheVariants.{rolls-Fixed, rolls-Computed}
use Rattle.xt_syntax.specs.Layers.{Kinds, ClauseLayer, ExprLayer, NameLayer, PartLayer, ArmLayer}
use Rattle.xt_syntax.specs.Layers.{BindLayer, AttrLayer, FlworLayer, OrderLayer}
use Rattle.xt_syntax.specs.declared.exprs.Clause.TheOpen.{Flwor, Quant, Direct, For, Let, Chars}
use Rattle.xt_syntax.specs.declared.exprs.Clause.TheOpen.{Enclosed, Child}
use Rattle.xt_syntax.specs.declared.exprs.Clause.TheViews.{roll-Clause, roll-Part, roll-Bind}
use Rattle.xt_syntax.specs.declared.exprs.Clause.TheViews.{roll-DirectAttr, roll-Flwor, roll-Order}
use Rattle.xt_syntax.specs.declared.exprs.Clause.TheViews.{out-Order}
use Rattle.xt_syntax.specs.declared.exprs.Clause.TheVariants as clause
use Rattle.xt_syntax.specs.declared.exprs.Clause.TheVariants.{rolls-For, rolls-Let}
use Rattle.xt_syntax.specs.declared.exprs.Part.TheVariants as part
use Rattle.xt_syntax.specs.declared.exprs.Part.TheVariants.{rolls-Chars, rolls-Enclosed}
use Rattle.xt_syntax.specs.declared.exprs.Part.TheVariants.{rolls-Child}
use Rattle.xt_syntax.specs.declared.exprs.Expr.TheVariants.{rolls-Flwor, rolls-Quant, rolls-Direct}
use Rattle.expr_keys.specs.declared.productions.Class.TheVariants as class
use Rattle.expr_raws.specs.PathRaws.Forms.{Form, single, list, at, all_at, all_can}
use Rattle.expr_raws.specs.PathRaws.Names.{function_token}
use Rattle.expr_raws.specs.PathRaws.Paths.{with_token, call_with, test_form, stepped, slashed}
use Rattle.expr_raws.proofs.PathRaws.Values.{value_leaf, value_node, parens_mean, at_means}
use Rattle.expr_raws.proofs.PathRaws.Paths.{variable_means, name_found, test_means, axis_step_means}
use Rattle.expr_raws.proofs.PathRaws.Paths.{slashed_means, call_none_means, call_means}
use Rattle.expr_raws.specs.ControlRaws.Operators.{compare_key, value_key, ArmForm, conditional, has_arms}
use Rattle.expr_raws.specs.ControlRaws.Operators.{arms_can}
use Rattle.expr_raws.specs.ControlRaws.Types.{sequence_form, of_type, single_form}
use Rattle.expr_raws.specs.ControlRaws.Bindings.{OrderForm, ClauseForm, BindForm, wheres, may}
use Rattle.expr_raws.proofs.ControlRaws.Chains.{Leftly}
use Rattle.expr_raws.proofs.ControlRaws.Types.{sequence_means, single_means, of_type_means}
use Rattle.expr_raws.proofs.ControlRaws.Types.{instances_mean, treats_mean, castables_mean, casts_mean}
use Rattle.expr_raws.proofs.ControlRaws.Conditionals.{ArmMeans, conditional_means}
use Rattle.expr_raws.proofs.ControlRaws.Bindings.{name_means, typing_means, BindMeans, ClauseMeans}
use Rattle.expr_raws.proofs.ControlRaws.Bindings.{let_means, for_means, quantified_means, clauses_mean}
use Rattle.expr_raws.proofs.ControlRaws.Bindings.{order_means, ordered_means, where_means, where_meant}
use Rattle.expr_raws.proofs.ControlRaws.Bindings.{flowing_means, same_some}
use Rattle.expr_raws.specs.ElementRaws.Makers.{NameForm, enclosing}
use Rattle.expr_raws.specs.ElementRaws.Direct.{PartForm, AttrForm}
use Rattle.expr_raws.proofs.ElementRaws.Makers.{NameMeans, element_means, attribute_means}
use Rattle.expr_raws.proofs.ElementRaws.Makers.{instruction_means, enclosing_means}
use Rattle.expr_raws.proofs.ElementRaws.Direct.{PartMeans, AttrMeans, value_parts, closing_means}
use Rattle.expr_raws.proofs.ElementRaws.Direct.{direct_means}
use Rattle.expr_raws.specs.Raws.{form_of}
use Rattle.expr_raws.proofs.Induction.{clause_form, name_form, part_form, arm_form, bind_form}
use Rattle.expr_raws.proofs.Induction.{attr_form, flwor_form, order_form, of_clause, of_expr}
use Rattle.expr_raws.proofs.Induction.{of_name, of_part, of_arm, of_bind, of_attr, of_flwor}
use Rattle.expr_raws.proofs.Induction.{of_order, pairs, plain_clause, plain_expr, plain_name}
use Rattle.expr_raws.proofs.Induction.{plain_part, plain_arm, plain_bind, plain_attr}
use Rattle.expr_raws.proofs.Induction.{plain_flwor, plain_order, all_exprs}
use Rattle.expr_raws.proofs.Parts.{Means, P, bare, their, all_mean}
use Rattle.expr_raws.proofs.Operators.{plain_compares}
use Rattle.expr_raws.proofs.Operators.{left_compares}
use Rattle.expr_raws.proofs.Operators.{listed_means, ors_mean}
use Rattle.expr_raws.proofs.Operators.{ands_mean, filtered_means, minus_means, plus_means}
use Rattle.expr_raws.proofs.Operators.{once_so, general_is, value_is}
use Rattle.expr_raws.proofs.Operators.{arithmetic_means, is_means, before_means, after_means}
use Rattle.expr_raws.proofs.Operators.{range_means, union_means, intersect_means, except_means}
use Rattle.xt_names.proofs.BoolLemmas.{not_true}

abbrev Layer : Type 0
Layer = Expr-F Clause Expr NameSource Part Arm Bind DirectAttr FlworOf Order

module _ (s : Setting) (strip : s.strip ≡ false) where
  -- what the parts of each kind mean
  abbrev C : ClauseForm → Clause → Type 0
  C = ClauseMeans s

  abbrev E : Form → Expr → Type 0
  E = Means s

  abbrev N : NameForm → NameSource → Type 0
  N = NameMeans s

  abbrev T : PartForm → Part → Type 0
  T = PartMeans s

  abbrev A : ArmForm → Arm → Type 0
  A = ArmMeans s

  abbrev B : BindForm → Bind → Type 0
  B = BindMeans s

  abbrev D : AttrForm → DirectAttr → Type 0
  D = AttrMeans s

  abbrev F : Form → FlworOf → Type 0
  F f x = Means s f (expr.Flwor x)

  abbrev O : OrderForm → Order → Type 0
  O f o = (f.descending ≡ (out-Order o).descending)
      × (f.key.can ≡ true → value_of s f.key.raw ≡ meant.Expr (out-Order o).key)

  abbrev Kept : Kinds
  Kept = pairs s.prefixes C E N T A B D F O

  abbrev plainly : ExprLayer Kept → Layer
  plainly y = plain_expr s.prefixes C E N T A B D F O y

  int_means : (n : ℤ) → value_of s (node production.Number (leaf (token.Digits n) ∷ []))
      ≡ meant.Expr (expr.Int n)
  unfolding is_chain family_of value_in path_value primaries.literal_of primaries.literal_in
  int_means n = value_node s production.Number (leaf (token.Digits n) ∷ [])
      ∙ rw (value_leaf s (token.Digits n)) refl

  str_means : (cs : List ℕ) → value_of s (node production.Literal (leaf (token.Quoted cs) ∷ []))
      ≡ meant.Expr (expr.Str cs)
  unfolding is_chain family_of value_in path_value primaries.literal_of primaries.literal_in
  str_means cs = value_node s production.Literal (leaf (token.Quoted cs) ∷ [])
      ∙ rw (value_leaf s (token.Quoted cs)) refl

  context_means : value_of s (node production.Context []) ≡ meant.Expr expr.Context
  unfolding is_chain family_of value_in path_value
  context_means = value_node s production.Context []

  root_means : value_of s (node production.Rooted []) ≡ meant.Expr expr.Root
  unfolding is_chain family_of value_in path_value
  root_means = value_node s production.Rooted []

  left_instances : Leftly s level.InstanceOf
  unfolding operators.chained
  left_instances ms = refl

  left_treats : Leftly s level.Treat
  unfolding operators.chained
  left_treats ms = refl

  left_castables : Leftly s level.Castable
  unfolding operators.chained
  left_castables ms = refl

  left_casts : Leftly s level.Cast
  unfolding operators.chained
  left_casts ms = refl

  instance_means : (y : (e : Expr) × P s e) (t : SeqType)
      → Means s (of_type level.InstanceOf (form_of s.prefixes y.0) (sequence_form s.prefixes t))
      (expr.InstanceOf y.0 t)
  unfolding operators.joined operators.of_type
  instance_means y t c =
      let f = sequence_form s.prefixes t in
      let h = and_parts (form_of s.prefixes y.0).can f.can c in
      of_type_means s level.InstanceOf left_instances (form_of s.prefixes y.0) f y.0 _ _ (y.1 h.0)
      (instances_mean s f.raw t (sequence_means s t h.1)) refl

  treat_means : (y : (e : Expr) × P s e) (t : SeqType)
      → Means s (of_type level.Treat (form_of s.prefixes y.0) (sequence_form s.prefixes t))
      (expr.Treat y.0 t)
  unfolding operators.joined operators.of_type
  treat_means y t c =
      let f = sequence_form s.prefixes t in
      let h = and_parts (form_of s.prefixes y.0).can f.can c in
      of_type_means s level.Treat left_treats (form_of s.prefixes y.0) f y.0 _ _ (y.1 h.0)
      (treats_mean s f.raw t (sequence_means s t h.1)) refl

  castable_means : (y : (e : Expr) × P s e) (k : AtomType) (b : Bool)
      → Means s (of_type level.Castable (form_of s.prefixes y.0) (single_form s.prefixes k b))
      (expr.Castable y.0 k b)
  unfolding operators.joined operators.of_single
  castable_means y k b c =
      let f = single_form s.prefixes k b in
      let h = and_parts (form_of s.prefixes y.0).can f.can c in
      of_type_means s level.Castable left_castables (form_of s.prefixes y.0) f y.0 _ _ (y.1 h.0)
      (castables_mean s f.raw k b (single_means s k b _ refl h.1)) refl

  cast_means : (y : (e : Expr) × P s e) (k : AtomType) (b : Bool)
      → Means s (of_type level.Cast (form_of s.prefixes y.0) (single_form s.prefixes k b))
      (expr.Cast y.0 k b)
  unfolding operators.joined operators.of_single
  cast_means y k b c =
      let f = single_form s.prefixes k b in
      let h = and_parts (form_of s.prefixes y.0).can f.can c in
      of_type_means s level.Cast left_casts (form_of s.prefixes y.0) f y.0 _ _ (y.1 h.0)
      (casts_mean s f.raw k b (single_means s k b _ refl h.1)) refl

  step_means : (on : Axis) (t : Test) (ys : List ((e : Expr) × P s e))
      → Means s (stepped s.prefixes on t (their s ys)) (expr.Step on t (bare s ys))
  step_means on t ys c =
      let h = and_parts (test_form s.prefixes on t).can (all_can (their s ys)) c in
      axis_step_means s on t (test_form s.prefixes on t).raw (all_at list (their s ys)) (bare s ys)
      (test_means s on t h.0) (all_mean s list ys h.1)

  slash_means : (y z : (e : Expr) × P s e)
      → Means s (slashed (form_of s.prefixes y.0) (form_of s.prefixes z.0)) (expr.Slash y.0 z.0)
  slash_means y z c =
      let h = and_parts (form_of s.prefixes y.0).can (form_of s.prefixes z.0).can c in
      slashed_means s (form_of s.prefixes y.0) (form_of s.prefixes z.0) y.0 z.0 (y.1 h.0)
      (z.1 h.1)

  called_means : (n : ExprName) (ys : List ((e : Expr) × P s e)) (o : Option Token)
      → function_token s.prefixes.bound s.prefixes.function_default n ≡ o
      → Means s (with_token o (call_with n (their s ys))) (expr.Call n (bare s ys))
  called_means n ys None o c = absurd (cc)
  called_means n [] (Some t) o c =
      let h = and_parts (not (is_some (call_type (type_named n)))) (all_can (their s [])) c in
      call_none_means s n t (not_true h.0)
      (name_found class.Function s.prefixes.bound s.prefixes.function_default n t o)
  called_means n (y ∷ ys) (Some t) o c =
      let h = and_parts (not (is_some (call_type (type_named n)))) (all_can (their s (y ∷ ys))) c in
      call_means s n t (at single (form_of s.prefixes y.0)) (all_at single (their s ys))
      (bare s (y ∷ ys)) (not_true h.0)
      (name_found class.Function s.prefixes.bound s.prefixes.function_default n t o)
      (all_mean s single (y ∷ ys) h.1)

  document_means : (y : (e : Expr) × P s e)
      → Means s (enclosing key.DocumentWord (form_of s.prefixes y.0)) (expr.DocC y.0)
  unfolding enclosing_by
  document_means y c =
      enclosing_means s key.DocumentWord (form_of s.prefixes y.0) y.0 _ (y.1 c) refl

  text_means : (y : (e : Expr) × P s e)
      → Means s (enclosing key.TextWord (form_of s.prefixes y.0)) (expr.TextC y.0)
  unfolding enclosing_by
  text_means y c =
      enclosing_means s key.TextWord (form_of s.prefixes y.0) y.0 _ (y.1 c) refl

  comment_means : (y : (e : Expr) × P s e)
      → Means s (enclosing key.CommentWord (form_of s.prefixes y.0)) (expr.CommentC y.0)
  unfolding enclosing_by
  comment_means y c =
      enclosing_means s key.CommentWord (form_of s.prefixes y.0) y.0 _ (y.1 c) refl

  if_means : (arms : List ((a : Arm) × A (arm_form s.prefixes a) a)) (y : (e : Expr) × P s e)
      → Means s (conditional (map (arm_form s.prefixes) (map (λ a. a.0) arms))
      (form_of s.prefixes y.0)) (expr.If (map (λ a. a.0) arms) y.0)
  if_means arms y c =
      let fs : List ArmForm = map (arm_form s.prefixes) (map (λ a. a.0) arms) in
      let f = form_of s.prefixes y.0 in
      let last : Bool = not (is_some (as_inner_chain (out-Raw (at single f)))) in
      let h = and_parts (has_arms fs) (arms_can fs && (f.can && last)) c in
      let i = and_parts (arms_can fs) (f.can && last) h.1 in
      let j = and_parts f.can last i.1 in
      conditional_means s (λ a. A (arm_form s.prefixes a) a) (arm_form s.prefixes)
      (λ a m. m) arms (at single f) y.0 i.0
      (at_means s single f y.0 (y.1 j.0))

  one_expr : (y : ExprLayer Kept) → Means s (of_expr s.prefixes (plainly y)) (roll-Expr (plainly y))
  one_expr (Int n) c = int_means n ∙ ap (λ e. meant.Expr e) (sym (rolls-Int n))
  one_expr (Str cs) c = str_means cs ∙ ap (λ e. meant.Expr e) (sym (rolls-Str cs))
  one_expr Context c = context_means ∙ ap (λ e. meant.Expr e) (sym rolls-Context)
  one_expr Root c = parens_mean s (node production.Rooted []) expr.Root root_means
      ∙ ap (λ e. meant.Expr e) (sym rolls-Root)
  one_expr (Comma ys) c =
      listed_means s ys c ∙ ap (λ e. meant.Expr e) (sym (rolls-Comma (bare s ys)))
  one_expr (Or ys) c = ors_mean s ys c ∙ ap (λ e. meant.Expr e) (sym (rolls-Or (bare s ys)))
  one_expr (And ys) c = ands_mean s ys c ∙ ap (λ e. meant.Expr e) (sym (rolls-And (bare s ys)))
  one_expr (General op y z) c = once_so s level.Comparison (plain_compares s) (left_compares s)
      (compare_key op) y z
      _ (general_is s op y.0 z.0) c ∙ ap (λ e. meant.Expr e) (sym (rolls-General op y.0 z.0))
  one_expr (Value op y z) c =
      once_so s level.Comparison (plain_compares s) (left_compares s) (value_key
      op) y z
      _ (value_is s op y.0 z.0) c ∙ ap (λ e. meant.Expr e) (sym (rolls-Value op y.0 z.0))
  one_expr (Is y z) c = is_means s y z c ∙ ap (λ e. meant.Expr e) (sym (rolls-Is y.0 z.0))
  one_expr (Before y z) c =
      before_means s y z c ∙ ap (λ e. meant.Expr e) (sym (rolls-Before y.0 z.0))
  one_expr (After y z) c = after_means s y z c ∙ ap (λ e. meant.Expr e) (sym (rolls-After y.0 z.0))
  one_expr (Range y z) c = range_means s y z c ∙ ap (λ e. meant.Expr e) (sym (rolls-Range y.0 z.0))
  one_expr (Arith op y z) c =
      arithmetic_means s op y z c ∙ ap (λ e. meant.Expr e) (sym (rolls-Arith op y.0 z.0))
  one_expr (Minus y) c = minus_means s y c ∙ ap (λ e. meant.Expr e) (sym (rolls-Minus y.0))
  one_expr (Plus y) c = plus_means s y c ∙ ap (λ e. meant.Expr e) (sym (rolls-Plus y.0))
  one_expr (Union y z) c = union_means s y z c ∙ ap (λ e. meant.Expr e) (sym (rolls-Union y.0 z.0))
  one_expr (Intersect y z) c =
      intersect_means s y z c ∙ ap (λ e. meant.Expr e) (sym (rolls-Intersect y.0 z.0))
  one_expr (Except y z) c =
      except_means s y z c ∙ ap (λ e. meant.Expr e) (sym (rolls-Except y.0 z.0))
  one_expr (Filter y ys) c =
      filtered_means s y ys c ∙ ap (λ e. meant.Expr e) (sym (rolls-Filter y.0 (bare s ys)))
  one_expr (InstanceOf y t) c = instance_means y t c
      ∙ ap (λ e. meant.Expr e) (sym (rolls-InstanceOf y.0 t))
  one_expr (Treat y t) c = treat_means y t c ∙ ap (λ e. meant.Expr e) (sym (rolls-Treat y.0 t))
  one_expr (Castable y k b) c =
      castable_means y k b c ∙ ap (λ e. meant.Expr e) (sym (rolls-Castable y.0 k b))
  one_expr (Cast y k b) c = cast_means y k b c ∙ ap (λ e. meant.Expr e) (sym (rolls-Cast y.0 k b))
  one_expr (ElemC n y) c =
      element_means s (name_form s.prefixes n.0) (form_of s.prefixes y.0) n.0 y.0
      n.1 y.1 c ∙ ap (λ e. meant.Expr e) (sym (rolls-ElemC n.0 y.0))
  one_expr (AttrC n y) c =
      attribute_means s (name_form s.prefixes n.0) (form_of s.prefixes y.0) n.0 y.0
      n.1 y.1 c ∙ ap (λ e. meant.Expr e) (sym (rolls-AttrC n.0 y.0))
  one_expr (PiC n y) c =
      instruction_means s (name_form s.prefixes n.0) (form_of s.prefixes y.0) n.0 y.0
      n.1 y.1 c ∙ ap (λ e. meant.Expr e) (sym (rolls-PiC n.0 y.0))
  one_expr (DocC y) c = document_means y c ∙ ap (λ e. meant.Expr e) (sym (rolls-DocC y.0))
  one_expr (TextC y) c = text_means y c ∙ ap (λ e. meant.Expr e) (sym (rolls-TextC y.0))
  one_expr (CommentC y) c = comment_means y c ∙ ap (λ e. meant.Expr e) (sym (rolls-CommentC y.0))
  one_expr (If arms y) c = if_means arms y c
      ∙ ap (λ e. meant.Expr e) (sym (rolls-If (map (λ a. a.0) arms) y.0))
  one_expr (Var n) c = variable_means s n c ∙ ap (λ e. meant.Expr e) (sym (rolls-Var n))
  one_expr (Call n ys) c =
      called_means n ys _ refl c ∙ ap (λ e. meant.Expr e) (sym (rolls-Call n (bare s ys)))
  one_expr (Step on t ys) c =
      step_means on t ys c ∙ ap (λ e. meant.Expr e) (sym (rolls-Step on t (bare s ys)))
  one_expr (Slash y z) c = slash_means y z c ∙ ap (λ e. meant.Expr e) (sym (rolls-Slash y.0 z.0))
  one_expr (Flwor f) c = f.1 c ∙ ap (λ e. meant.Expr e) (sym (rolls-Flwor f.0))
  one_expr (Quant every bs y) c =
      quantified_means s (λ b. BindMeans s (bind_form s.prefixes b) b) (bind_form s.prefixes)
      (λ b m. m) every bs (form_of s.prefixes y.0) y.0 y.1 c
      ∙ ap (λ e. meant.Expr e) (sym (rolls-Quant every (map (λ b. b.0) bs) y.0))
  one_expr (Direct n attrs ps) c =
      direct_means s (λ a. AttrMeans s (attr_form s.prefixes a) a) (attr_form s.prefixes)
      (λ a m. m) n attrs (map (part_form s.prefixes) (map (λ q. q.0) ps)) (map (λ q. q.0) ps)
      (λ h. closing_means s (λ q. PartMeans s (part_form s.prefixes q) q)
      (part_form s.prefixes) (λ q m. m) strip n ps h) c
      ∙ ap (λ e. meant.Expr e) (sym (rolls-Direct n (map (λ a. a.0) attrs) (map (λ q. q.0) ps)))

  one_name : (y : NameLayer Kept)
      → N (of_name s.prefixes (plain_name s.prefixes C E N T A B D F O y))
      (roll-NameSource (plain_name s.prefixes C E N T A B D F O y))
  one_name (Fixed n) = rolls-Fixed n
  one_name (Computed y) = (y.0, rolls-Computed y.0, y.1)

  one_part : (y : PartLayer Kept)
      → T (of_part s.prefixes (plain_part s.prefixes C E N T A B D F O y))
      (roll-Part (plain_part s.prefixes C E N T A B D F O y))
  one_part (Chars cs) = rolls-Chars cs
  one_part (Enclosed y) = (y.0, rolls-Enclosed y.0, y.1)
  one_part (Child y) = (y.0, rolls-Child y.0, y.1)

  one_arm : (y : ArmLayer Kept)
      → A (of_arm s.prefixes (plain_arm s.prefixes C E N T A B D F O y))
      (roll-Arm (plain_arm s.prefixes C E N T A B D F O y))
  one_arm y = record { test = y.test.1; first = y.then.1 }

  one_bind : (y : BindLayer Kept)
      → B (of_bind s.prefixes (plain_bind s.prefixes C E N T A B D F O y))
      (roll-Bind (plain_bind s.prefixes C E N T A B D F O y))
  one_bind y = record {
    name = name_means s y.var;
    kind = typing_means s y.kind;
    source = y.source.1;
  }

  one_clause : (y : ClauseLayer Kept)
      → C (of_clause s.prefixes (plain_clause s.prefixes C E N T A B D F O y))
      (roll-Clause (plain_clause s.prefixes C E N T A B D F O y))
  one_clause (For b o) c = for_means s (bind_form s.prefixes b.0) b.0 o b.1 c
      ∙ ap (λ x. meant.Clause x) (sym (rolls-For b.0 o))
  one_clause (Let b) c = let_means s (bind_form s.prefixes b.0) b.0 b.1 c
      ∙ ap (λ x. meant.Clause x) (sym (rolls-Let b.0))

  one_attr : (y : AttrLayer Kept)
      → D (of_attr s.prefixes (plain_attr s.prefixes C E N T A B D F O y))
      (roll-DirectAttr (plain_attr s.prefixes C E N T A B D F O y))
  one_attr y = record {
    name = refl;
    parts = value_parts s (λ q. T (part_form s.prefixes q) q) (part_form s.prefixes)
        (λ q m. m) y.parts;
  }

  one_order : (y : OrderLayer Kept)
      → O (of_order s.prefixes (plain_order s.prefixes C E N T A B D F O y))
      (roll-Order (plain_order s.prefixes C E N T A B D F O y))
  one_order y = (refl, y.key.1)

  abbrev made_of : List Kept.Clauses → Option Kept.Exprs → List Kept.Orders → Bool
      → Kept.Exprs → FlworLayer Kept
  made_of clauses test orders stable body = record {
    clauses = clauses;
    test = test;
    orders = orders;
    stable = stable;
    body = body;
  }

  abbrev FlworMeans : FlworLayer Kept → Type 0
  FlworMeans y = F (of_flwor s.prefixes (plain_flwor s.prefixes C E N T A B D F O y))
      (roll-Flwor (plain_flwor s.prefixes C E N T A B D F O y))

  flwor_means : (clauses : List Kept.Clauses) (test : Option Kept.Exprs)
      (orders : List Kept.Orders) (stable : Bool) (body : Kept.Exprs)
      → FlworMeans (made_of clauses test orders stable body)
  flwor_means clauses None orders stable body c =
      flowing_means s (map (clause_form s.prefixes) (map (λ x. x.0) clauses))
      (map (λ x. x.0) clauses) (clauses_mean s (λ x. C (clause_form s.prefixes x) x)
      (clause_form s.prefixes) (λ x m. m) clauses) None None (λ h. refl)
      (map (order_form s.prefixes) (map (λ o. o.0) orders)) (map (λ o. o.0) orders)
      (same_some (order_form s.prefixes) (map (λ o. o.0) orders)) stable
      (ordered_means s (λ o. O (order_form s.prefixes o) o) (order_form s.prefixes)
      (λ o m. order_means s (order_form s.prefixes o) o m.0 m.1) stable orders)
      (form_of s.prefixes body.0) body.0 body.1 c
  flwor_means clauses (Some t) orders stable body c =
      flowing_means s (map (clause_form s.prefixes) (map (λ x. x.0) clauses))
      (map (λ x. x.0) clauses) (clauses_mean s (λ x. C (clause_form s.prefixes x) x)
      (clause_form s.prefixes) (λ x m. m) clauses) (Some (form_of s.prefixes t.0)) (Some t.0)
      (λ h. where_means s (form_of s.prefixes t.0) t.0 (t.1 h))
      (map (order_form s.prefixes) (map (λ o. o.0) orders)) (map (λ o. o.0) orders)
      (same_some (order_form s.prefixes) (map (λ o. o.0) orders)) stable
      (ordered_means s (λ o. O (order_form s.prefixes o) o) (order_form s.prefixes)
      (λ o m. order_means s (order_form s.prefixes o) o m.0 m.1) stable orders)
      (form_of s.prefixes body.0) body.0 body.1 c

  one_flwor : (y : FlworLayer Kept) → FlworMeans y
  one_flwor y = flwor_means y.clauses y.test y.orders y.stable y.body

  pub printable_means : (e : Expr) → P s e
  printable_means = all_exprs s.prefixes C E N T A B D F O one_clause one_expr one_name one_part
      one_arm one_bind one_attr one_flwor one_order
