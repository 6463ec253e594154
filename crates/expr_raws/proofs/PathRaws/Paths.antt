-- Names, steps and paths mean what they are printed for.
use Rattle.std.proofs.Common.{◌≡◌, ℕ, List, [], ◌∷◌, ◌++◌, map, Bool, true, false, cond, refl}
use Rattle.std.proofs.Common.{sym, ◌∙◌, ap, ap₂, subst, Option, Some, None, is_some}
use Rattle.std.proofs.lemmas.Bool.{and_parts}
use Rattle.std.proofs.Common.{◌&&◌}
use Rattle.std.proofs.lemmas.Slice.Eq.{bytes_eq-Decides}
use Rattle.std.specs.Str.{bytes_eq}
use Rattle.xt_names.specs.declared.names.Binding.{Binding}
use Rattle.xt_names.specs.declared.names.ExprName.{ExprName}
use Rattle.xt_types.specs.declared.axes.Axis.{Axis}
use Rattle.xt_types.specs.declared.axes.Axis.TheVariants as axis
use Rattle.xt_types.specs.declared.node_tests.NameTest.{NameTest}
use Rattle.xt_types.specs.declared.node_tests.NameTest.TheVariants as name
use Rattle.xt_types.specs.declared.node_tests.Test.{Test}
use Rattle.xt_types.specs.declared.node_tests.Test.TheVariants as test
use Rattle.xt_syntax.specs.declared.exprs.Expr.{Expr}
use Rattle.xt_syntax.specs.declared.exprs.Expr.TheVariants as expr
use Rattle.expr_raws.specs.PathRaws.Names.{no_codes}
use Rattle.expr_names.specs.Names.{uri_in, name_test, undeclared_in, test_broken}
use Rattle.expr_keys.specs.declared.keys.Key.{Key}
use Rattle.expr_keys.specs.declared.keys.Key.TheVariants as key
use Rattle.expr_keys.specs.declared.tokens.Token.{Token}
use Rattle.expr_keys.specs.declared.tokens.Token.TheVariants as token
use Rattle.expr_keys.specs.Classes.{fits}
use Rattle.expr_keys.specs.declared.productions.Class.{Class}
use Rattle.expr_keys.specs.declared.productions.Class.TheVariants as class
use Rattle.expr_keys.specs.declared.productions.Production.{Production}
use Rattle.expr_keys.specs.declared.productions.Production.TheVariants as production
use Rattle.expr_terms.specs.declared.raws.Raw.{Raw}
use Rattle.expr_terms.specs.declared.raws.Raw.TheVariants.{Leaf as leaf, Node as node, rolls-Node}
use Rattle.expr_terms.specs.declared.raws.Raw.TheViews.{out-Raw, roll-Raw, roll-out-Raw}
use Rattle.expr_terms.specs.declared.raws.Raw.TheOpen.{Raw-F, Leaf, Node}
use Rattle.expr_rules.specs.declared.expr_meant.meant.Meant.{Meant}
use Rattle.expr_rules.specs.declared.expr_meant.meant.Meant.TheVariants as meant
use Rattle.expr_rules.specs.ExprMeant.Names.{written_of, written_in, written_test_in, target_in}
use Rattle.expr_rules.specs.ExprMeant.Parts.{expr_of, expr_or, exprs_of, key_of, key_in}
use Rattle.expr_rules.specs.Known.{name_of, name_test_of}
use Rattle.expr_rules.specs.Rules.{args_in}
use Rattle.expr_names.specs.Types.{type_named, call_type}
use Rattle.xt_names.specs.declared.kinds.AtomType.{AtomType}
use Rattle.expr_resolve.specs.ExprPrimaries.ExprPaths.Primaries as primaries
use Rattle.expr_resolve.specs.ExprPrimaries.ExprPaths.Paths as paths
use Rattle.expr_resolve.specs.ExprPrimaries.ExprPaths.Steps.{axis_of, defaulted, test_on, plain_kind_of, target_of}
use Rattle.expr_resolve.specs.ExprPrimaries.ExprPaths.Steps.{named_kind_of}
use Rattle.expr_resolve.specs.ExprPrimaries.ExprPaths.Table.{path_value}
use Rattle.expr_resolve.specs.declared.setting.Setting.{Setting}
use Rattle.expr_resolve.specs.Tables.{is_chain, family_of, value_in}
use Rattle.expr_resolve.specs.Folds.{value_of}
use Rattle.expr_raws.specs.PathRaws.Forms.{Form, step, list, primary, at, all_at, key_leaf}
use Rattle.expr_raws.specs.PathRaws.Names.{first_that, fitting, names, name_token, token_in}
use Rattle.expr_raws.specs.PathRaws.Names.{same_test, tests, test_token, spellings, test_spellings}
use Rattle.expr_raws.specs.PathRaws.Paths.{with_token, variable_with, variable, axis_key, leaf_test}
use Rattle.expr_raws.specs.PathRaws.Paths.{named_test, test_form, step_after, behind, from_root, root}
use Rattle.expr_raws.specs.PathRaws.Paths.{alone, behind_steps, is_rooted, only_rooted, start_of, slash_raw}
use Rattle.expr_raws.specs.PathRaws.Paths.{slashed}
use Rattle.expr_raws.proofs.PathRaws.Values.{value_leaf, value_node, at_means, append_values}
use Rattle.expr_raws.proofs.PathRaws.Values.{parens_mean}
use Rattle.xt_names.proofs.NameLemmas.{same_names}

pub first_sound : (f : Token → Bool) (ts : List Token) (t : Token) → first_that f ts ≡ Some t
    → f t ≡ true
first_sound f [] t e = absurd (cc)
first_sound f (u ∷ ts) t e = go (f u) refl e (λ h. first_sound f ts t h)
  where
    go : (b : Bool) → f u ≡ b → cond b (Some u) (first_that f ts) ≡ Some t
        → (first_that f ts ≡ Some t → f t ≡ true) → f t ≡ true
    go true b e more = let same : u ≡ t = cc in subst (λ x. f x ≡ true) same b
    go false b e more = more e

-- .. of the class, and with the meaning
pub fitting_sound : (c : Class) (f : Token → Bool) (ts : List Token) (t : Token)
    → first_that (fitting c f) ts ≡ Some t → (fits c t ≡ true) × (f t ≡ true)
fitting_sound c f ts t e = and_parts (fits c t) (f t) (first_sound (fitting c f) ts t e)

pub name_is : (bound : List Binding) (default : List ℕ) (n : ExprName) (t : Token)
    → names bound default n t ≡ true → name_of bound default (meant.Token t) ≡ n
unfolding written_of
name_is bound default n t e =
    same_names (record { uri = uri_in bound default (written_in t); local = (written_in t).local })
    n (and_parts (bytes_eq (uri_in bound default (written_in t)) n.uri
    && bytes_eq (written_in t).local n.local)
    (no_codes (undeclared_in bound (written_in t))) e).0

pub same_tests : (a b : NameTest) → same_test a b ≡ true → a ≡ b
same_tests name.Any name.Any e = refl
same_tests (name.Uri u) (name.Uri v) e = ap (λ x. name.Uri x) ((bytes_eq-Decides u v).0 e)
same_tests (name.Local m) (name.Local n) e = ap (λ x. name.Local x) ((bytes_eq-Decides m n).0 e)
same_tests (name.Exact m) (name.Exact n) e = ap (λ x. name.Exact x) (same_names m n e)
same_tests _ _ e = absurd (cc)

test_found : (c : Class) (bound : List Binding) (default : List ℕ) (on : Axis) (n : NameTest)
    (t : Token) → test_token c bound default on n ≡ Some t
    → defaulted default on (name_test bound (written_test_in t)) ≡ n
test_found c bound default on n t e =
    let means : Bool =
    same_test (defaulted default on (name_test bound (written_test_in t))) n in
    same_tests (defaulted default on (name_test bound (written_test_in t))) n
    (and_parts means (no_codes (test_broken bound (written_test_in t)))
    (fitting_sound c (tests bound default on n) (test_spellings bound n) t e).1).0

pub name_found : (c : Class) (bound : List Binding) (default : List ℕ) (n : ExprName) (t : Token)
    → token_in c bound default n ≡ Some t → name_of bound default (meant.Token t) ≡ n
name_found c bound default n t e = name_is bound default n t
    (fitting_sound c (names bound default n) (spellings bound n.local) t e).1

axis_is : (on : Axis) → axis_of (axis_key on) ≡ on
unfolding axis_of
axis_is axis.Child = refl
axis_is _ = refl

module _ (s : Setting) where
  pub variable_means : (n : ExprName) → (variable s.prefixes n).can ≡ true
      → value_of s (variable s.prefixes n).raw ≡ meant.Expr (expr.Var n)
  unfolding is_chain family_of value_in path_value
  variable_means n = go (name_token s.prefixes.bound [] n) refl
    where
      go : (o : Option Token) → name_token s.prefixes.bound [] n ≡ o
          → (with_token o variable_with).can ≡ true
          → value_of s (with_token o variable_with).raw ≡ meant.Expr (expr.Var n)
      go None o c = absurd (cc)
      go (Some t) o c = value_node s production.Variable (leaf t ∷ [])
          ∙ rw (value_leaf s t) (ap (λ x. meant.Expr (expr.Var x))
          (name_found class.Name s.prefixes.bound [] n t o))

  abbrev pub TestMeans : Axis → Test → Form → Type 0
  TestMeans on t f = test_on s.prefixes.bound s.prefixes.element_default on (value_of s f.raw) ≡ t

  plain_kind_means : (k : Key) → value_of s (node production.PlainKind (key_leaf k ∷ []))
      ≡ meant.Kind (plain_kind_of k)
  unfolding is_chain family_of value_in path_value key_of key_in
  plain_kind_means k = value_node s production.PlainKind (key_leaf k ∷ [])
      ∙ rw (value_leaf s (token.Key k)) refl

  named_means : (on : Axis) (n : NameTest) (o : Option Token)
      → test_token class.NameTest s.prefixes.bound s.prefixes.element_default on n ≡ o
      → (with_token o leaf_test).can ≡ true
      → TestMeans on (test.Named n) (with_token o leaf_test)
  unfolding test_on name_test_of
  named_means on n None e c = absurd (cc)
  named_means on n (Some t) e c =
      ap (λ m. test_on s.prefixes.bound s.prefixes.element_default on m) (value_leaf s t)
      ∙ ap (λ x. test.Named x)
      (test_found class.NameTest s.prefixes.bound s.prefixes.element_default on n t e)

  named_kind_means : (k : Key) (t : Token)
      → value_of s (node production.NamedKind (key_leaf k ∷ leaf t ∷ []))
      ≡ meant.Kind (named_kind_of s.prefixes.element_default k
      (name_test_of s.prefixes.bound (meant.Token t)))
  unfolding is_chain family_of value_in path_value key_of key_in
  named_kind_means k t = value_node s production.NamedKind (key_leaf k ∷ leaf t ∷ [])
      ∙ rw (value_leaf s (token.Key k), value_leaf s t) refl

  element_means : (n : NameTest) (o : Option Token)
      → test_token class.NameOrStar s.prefixes.bound s.prefixes.element_default axis.Child n ≡ o
      → (with_token o (named_test key.ElementWord)).can ≡ true
      → value_of s (with_token o (named_test key.ElementWord)).raw ≡ meant.Kind (test.Elem n)
  unfolding name_test_of named_kind_of defaulted
  element_means n None e c = absurd (cc)
  element_means n (Some t) e c =
      named_kind_means key.ElementWord t ∙ ap (λ x. meant.Kind (test.Elem x))
      (test_found class.NameOrStar s.prefixes.bound s.prefixes.element_default axis.Child n t e)

  attribute_means : (n : NameTest) (o : Option Token)
      → test_token class.NameOrStar s.prefixes.bound s.prefixes.element_default axis.Attribute n ≡ o
      → (with_token o (named_test key.AttributeWord)).can ≡ true
      → value_of s (with_token o (named_test key.AttributeWord)).raw ≡ meant.Kind (test.Attr n)
  unfolding name_test_of named_kind_of defaulted
  attribute_means n None e c = absurd (cc)
  attribute_means n (Some t) e c =
      named_kind_means key.AttributeWord t ∙ ap (λ x. meant.Kind (test.Attr x))
      (test_found class.NameOrStar s.prefixes.bound s.prefixes.element_default axis.Attribute n t e)

  any_pi_means : value_of s (node production.PiKind []) ≡ meant.Kind (test.Pi None)
  unfolding is_chain family_of value_in path_value
  any_pi_means = value_node s production.PiKind []

  pi_means : (cs : List ℕ) → value_of s (node production.PiKind (leaf (token.Quoted cs) ∷ []))
      ≡ meant.Kind (test.Pi (Some cs))
  unfolding is_chain family_of value_in path_value target_of target_in
  pi_means cs = value_node s production.PiKind (leaf (token.Quoted cs) ∷ [])
      ∙ rw (value_leaf s (token.Quoted cs)) refl

  abbrev pub IsKind : Test → Type 0
  IsKind (test.Named n) = ⊥
  IsKind _ = Unit {0}

  -- a kind test
  pub kind_means : (on : Axis) (t : Test) → IsKind t → (test_form s.prefixes on t).can ≡ true
      → value_of s (test_form s.prefixes on t).raw ≡ meant.Kind t
  unfolding plain_kind_of
  kind_means on (test.Named n) i c = absurd i
  kind_means on test.Node i c = plain_kind_means key.NodeWord
  kind_means on test.Text i c = plain_kind_means key.TextWord
  kind_means on test.Comment i c = plain_kind_means key.CommentWord
  kind_means on test.Doc i c = plain_kind_means key.DocumentNodeWord
  kind_means on (test.Pi None) i c = any_pi_means
  kind_means on (test.Pi (Some cs)) i c = pi_means cs
  kind_means on (test.Elem n) i c = element_means n _ refl c
  kind_means on (test.Attr n) i c = attribute_means n _ refl c

  on_kind : (on : Axis) (t : Test) (v : Raw) → value_of s v ≡ meant.Kind t
      → test_on s.prefixes.bound s.prefixes.element_default on (value_of s v) ≡ t
  unfolding test_on
  on_kind on t v h =
      ap (λ m. test_on s.prefixes.bound s.prefixes.element_default on m) h

  pub test_means : (on : Axis) (t : Test) → (test_form s.prefixes on t).can ≡ true
      → TestMeans on t (test_form s.prefixes on t)
  test_means on (test.Named n) c = named_means on n _ refl c
  test_means on test.Node c = on_kind on test.Node _ (kind_means on test.Node tt c)
  test_means on test.Text c = on_kind on test.Text _ (kind_means on test.Text tt c)
  test_means on test.Comment c = on_kind on test.Comment _ (kind_means on test.Comment tt c)
  test_means on test.Doc c = on_kind on test.Doc _ (kind_means on test.Doc tt c)
  test_means on (test.Pi o) c = on_kind on (test.Pi o) _ (kind_means on (test.Pi o) tt c)
  test_means on (test.Elem n) c = on_kind on (test.Elem n) _ (kind_means on (test.Elem n) tt c)
  test_means on (test.Attr n) c = on_kind on (test.Attr n) _ (kind_means on (test.Attr n) tt c)

  -- axis::test[p]..
  pub axis_step_means : (on : Axis) (t : Test) (v : Raw) (vs : List Raw) (es : List Expr)
      → test_on s.prefixes.bound s.prefixes.element_default on (value_of s v) ≡ t
      → exprs_of (map (value_of s) vs) ≡ es
      → value_of s (node production.AxisStep (key_leaf (axis_key on) ∷ v ∷ vs))
      ≡ meant.Expr (expr.Step on t es)
  unfolding is_chain family_of value_in path_value key_of key_in
  axis_step_means on t v vs es h i =
      value_node s production.AxisStep (key_leaf (axis_key on) ∷ v ∷ vs)
      ∙ rw (value_leaf s (token.Key (axis_key on)), axis_is on)
      (ap₂ (λ x xs. meant.Expr (expr.Step on x xs)) h i)

  -- paths
  step_after_means : (b : Form) (y : Expr) → value_of s b.raw ≡ meant.Expr y
      → value_of s (step_after b) ≡ meant.Expr y
  unfolding is_chain family_of value_in path_value expr_or
  step_after_means b y h = value_node s production.StepAfter (at step b ∷ [])
      ∙ rw (at_means s step b y h) refl

  path_on : (e : Expr) (ms : List Meant) (y : Expr)
      → paths.path_from e (ms ++ meant.Expr y ∷ []) ≡ expr.Slash (paths.path_from e ms) y
  unfolding paths.stepped expr_of
  path_on e [] y = refl
  path_on e (m ∷ ms) y = path_on (paths.stepped e m) ms y

  steps_mean : (vs : List Raw) → value_of s (node production.Steps vs)
      ≡ meant.Expr (paths.steps (map (value_of s) vs))
  unfolding is_chain family_of value_in path_value
  steps_mean vs = value_node s production.Steps vs

  root_steps_mean : (vs : List Raw) → value_of s (node production.RootSteps vs)
      ≡ meant.Expr (paths.root_steps (map (value_of s) vs))
  unfolding is_chain family_of value_in path_value
  root_steps_mean vs = value_node s production.RootSteps vs

  -- the value of the left operand, and what it is
  abbrev Left : Raw → Expr → Type 0
  Left v x = value_of s v ≡ meant.Expr x

  same_expr : (a b : Expr) → meant.Expr a ≡ meant.Expr b → a ≡ b
  unfolding expr_of
  same_expr a b e = ap expr_of e

  alone_means : (a b : Form) (x y : Expr) → Left a.raw x → Left b.raw y
      → value_of s (slash_raw alone a b) ≡ meant.Expr (expr.Slash x y)
  unfolding expr_of paths.stepped
  alone_means a b x y h i = steps_mean (at step a ∷ step_after b ∷ [])
      ∙ rw (at_means s step a x h, step_after_means b y i) refl

  behind_means : (v : Raw) (vs : List Raw) (a b : Form) (x y : Expr)
      → Left (node production.Steps (v ∷ vs)) x → Left b.raw y
      → value_of s (slash_raw (behind (v ∷ vs)) a b) ≡ meant.Expr (expr.Slash x y)
  behind_means v vs a b x y h i =
      let left : paths.steps (map (value_of s) (v ∷ vs)) ≡ x =
      same_expr _ x (sym (steps_mean (v ∷ vs)) ∙ h) in
      steps_mean ((v ∷ vs) ++ step_after b ∷ [])
      ∙ ap (λ ms. meant.Expr (paths.steps ms)) (append_values s (v ∷ vs) (step_after b ∷ []))
      ∙ ap (λ m. meant.Expr (paths.steps (map (value_of s) (v ∷ vs) ++ m ∷ [])))
      (step_after_means b y i)
      ∙ ap (λ e. meant.Expr e) (path_on (expr_of (value_of s v)) (map (value_of s) vs) y)
      ∙ ap (λ e. meant.Expr (expr.Slash e y)) left

  from_root_means : (vs : List Raw) (a b : Form) (x y : Expr)
      → Left (node production.RootSteps vs) x → Left b.raw y
      → value_of s (slash_raw (from_root vs) a b) ≡ meant.Expr (expr.Slash x y)
  from_root_means vs a b x y h i =
      let left : paths.root_steps (map (value_of s) vs) ≡ x =
      same_expr _ x (sym (root_steps_mean vs) ∙ h) in
      root_steps_mean (vs ++ step_after b ∷ [])
      ∙ ap (λ ms. meant.Expr (paths.root_steps ms)) (append_values s vs (step_after b ∷ []))
      ∙ ap (λ m. meant.Expr (paths.root_steps (map (value_of s) vs ++ m ∷ [])))
      (step_after_means b y i)
      ∙ ap (λ e. meant.Expr e) (path_on expr.Root (map (value_of s) vs) y)
      ∙ ap (λ e. meant.Expr (expr.Slash e y)) left

  rooted : (vs : List Raw) → value_of s (node production.Rooted vs) ≡ meant.Expr expr.Root
  unfolding is_chain family_of value_in path_value
  rooted vs = value_node s production.Rooted vs

  root_means : (v : Raw) → is_rooted (out-Raw v) ≡ true → value_of s v ≡ meant.Expr expr.Root
  root_means v = go (out-Raw v) (roll-out-Raw v)
    where
      go : (f : Raw-F Raw) → roll-Raw f ≡ v → is_rooted f ≡ true
          → value_of s v ≡ meant.Expr expr.Root
      go (Leaf t) o e = absurd (cc)
      go (Node production.Rooted vs) o e = ap (λ w. value_of s w) (sym o ∙ rolls-Node _ vs)
          ∙ rooted vs
      go (Node _ vs) o e = absurd (cc)

  only_means : (v : Raw) (x : Expr) → is_rooted (out-Raw v) ≡ true
      → Left (node production.Parens (v ∷ [])) x → expr.Root ≡ x
  only_means v x r h = same_expr expr.Root x
      (sym (parens_mean s v expr.Root (root_means v r)) ∙ h)

  slash_root_means : (a b : Form) (x y : Expr) → expr.Root ≡ x → Left b.raw y
      → value_of s (slash_raw root a b) ≡ meant.Expr (expr.Slash x y)
  unfolding expr_of paths.stepped
  slash_root_means a b x y h i = root_steps_mean (at step b ∷ [])
      ∙ rw (at_means s step b y i) (ap (λ e. meant.Expr (expr.Slash e y)) h)

  pub slashed_means : (a b : Form) (x y : Expr) → value_of s a.raw ≡ meant.Expr x
      → value_of s b.raw ≡ meant.Expr y
      → value_of s (slashed a b).raw ≡ meant.Expr (expr.Slash x y)
  slashed_means a b x y h i = go (out-Raw a.raw) (roll-out-Raw a.raw)
    where
      left : (p : Production) (vs : List Raw) → roll-Raw (Node p vs) ≡ a.raw → Left (node p vs) x
      left p vs o = ap (λ w. value_of s w) (sym (rolls-Node p vs) ∙ o) ∙ h

      steps : (vs : List Raw) → Left (node production.Steps vs) x
          → value_of s (slash_raw (behind_steps vs) a b) ≡ meant.Expr (expr.Slash x y)
      steps [] l = alone_means a b x y h i
      steps (v ∷ vs) l = behind_means v vs a b x y l i

      parens : (vs : List Raw) → Left (node production.Parens vs) x
          → value_of s (slash_raw (only_rooted vs) a b) ≡ meant.Expr (expr.Slash x y)
      parens [] l = alone_means a b x y h i
      parens (v ∷ []) l = one (is_rooted (out-Raw v)) refl
        where
          one : (r : Bool) → is_rooted (out-Raw v) ≡ r
              → value_of s (slash_raw (cond r root alone) a b) ≡ meant.Expr (expr.Slash x y)
          one true r = slash_root_means a b x y (only_means v x r l) i
          one false r = alone_means a b x y h i
      parens (v ∷ w ∷ vs) l = alone_means a b x y h i

      go : (f : Raw-F Raw) → roll-Raw f ≡ a.raw
          → value_of s (slash_raw (start_of f) a b) ≡ meant.Expr (expr.Slash x y)
      go (Leaf t) o = alone_means a b x y h i
      go (Node production.Steps vs) o = steps vs (left production.Steps vs o)
      go (Node production.RootSteps vs) o =
          from_root_means vs a b x y (left production.RootSteps vs o) i
      go (Node production.Parens vs) o = parens vs (left production.Parens vs o)
      go (Node _ vs) o = alone_means a b x y h i

  -- calls
  args_mean : (v : Raw) (vs : List Raw) (es : List Expr)
      → exprs_of (map (value_of s) (v ∷ vs)) ≡ es
      → value_of s (node production.ArgumentList (v ∷ vs)) ≡ meant.Arguments es
  unfolding is_chain family_of value_in path_value
  args_mean v vs es h =
      value_node s production.ArgumentList (v ∷ vs) ∙ ap (λ xs. meant.Arguments xs) h

  called_so : (n : ExprName) (es : List Expr) → is_some (call_type (type_named n)) ≡ false
      → primaries.called n (call_type (type_named n)) es ≡ expr.Call n es
  unfolding primaries.called
  called_so n es = go (call_type (type_named n))
    where
      go : (o : Option AtomType) → is_some o ≡ false → primaries.called n o es ≡ expr.Call n es
      go None e = refl
      go (Some k) e = absurd (cc)

  pub call_none_means : (n : ExprName) (t : Token) → is_some (call_type (type_named n)) ≡ false
      → name_of s.prefixes.bound s.prefixes.function_default (meant.Token t) ≡ n
      → value_of s (node production.Call (leaf t ∷ [])) ≡ meant.Expr (expr.Call n [])
  unfolding is_chain family_of value_in path_value
  call_none_means n t c h = value_node s production.Call (leaf t ∷ [])
      ∙ rw (value_leaf s t) (ap (λ x. meant.Expr (primaries.called x
      (call_type (type_named x)) [])) h ∙ ap (λ e. meant.Expr e) (called_so n [] c))

  pub call_means : (n : ExprName) (t : Token) (v : Raw) (vs : List Raw) (es : List Expr)
      → is_some (call_type (type_named n)) ≡ false
      → name_of s.prefixes.bound s.prefixes.function_default (meant.Token t) ≡ n
      → exprs_of (map (value_of s) (v ∷ vs)) ≡ es
      → value_of s (node production.Call (leaf t ∷ node production.ArgumentList (v ∷ vs) ∷ []))
      ≡ meant.Expr (expr.Call n es)
  unfolding is_chain family_of value_in path_value args_in
  call_means n t v vs es c h i =
      value_node s production.Call (leaf t ∷ node production.ArgumentList (v ∷ vs) ∷ [])
      ∙ rw (value_leaf s t, args_mean v vs es i) (ap (λ x. meant.Expr (primaries.called x
      (call_type (type_named x)) es)) h ∙ ap (λ e. meant.Expr e) (called_so n es c))
