-- Names, node tests, calls and paths that are printed break no rule.
use Rattle.std.proofs.Common.{◌≡◌, ℕ, List, [], ◌∷◌, ◌++◌, map, Bool, true, false, cond, not, ◌&&◌}
use Rattle.std.proofs.Common.{refl, sym, ◌∙◌, ap, Option, Some, None, is_some}
use Rattle.std.proofs.lemmas.Bool.{and_parts}
use Rattle.std.specs.Str.{bytes_eq}
use Rattle.xt_names.specs.declared.codes.Code.{Code}
use Rattle.xt_names.specs.declared.names.Binding.{Binding}
use Rattle.xt_names.specs.declared.names.ExprName.{ExprName}
use Rattle.xt_names.specs.declared.kinds.AtomType.{AtomType}
use Rattle.xt_types.specs.declared.axes.Axis.{Axis}
use Rattle.xt_types.specs.declared.axes.Axis.TheVariants as axis
use Rattle.xt_types.specs.declared.node_tests.NameTest.{NameTest}
use Rattle.xt_types.specs.declared.node_tests.Test.{Test}
use Rattle.xt_types.specs.declared.node_tests.Test.TheVariants as test
use Rattle.expr_names.specs.Names.{uri_in, name_test, undeclared_in, test_broken}
use Rattle.expr_names.specs.Types.{type_named, call_type, arity_broken}
use Rattle.expr_keys.specs.declared.keys.Key.{Key}
use Rattle.expr_keys.specs.declared.keys.Key.TheVariants as key
use Rattle.expr_keys.specs.declared.tokens.Token.{Token}
use Rattle.expr_keys.specs.declared.tokens.Token.TheVariants as token
use Rattle.expr_keys.specs.declared.productions.Class.{Class}
use Rattle.expr_keys.specs.declared.productions.Class.TheVariants as class
use Rattle.expr_keys.specs.declared.productions.Production.{Production}
use Rattle.expr_keys.specs.declared.productions.Production.TheVariants as production
use Rattle.expr_terms.specs.declared.raws.Raw.{Raw}
use Rattle.expr_terms.specs.declared.raws.Raw.TheVariants.{Leaf as leaf, Node as node, rolls-Node}
use Rattle.expr_terms.specs.declared.raws.Raw.TheViews.{out-Raw, roll-Raw, roll-out-Raw}
use Rattle.expr_terms.specs.declared.raws.Raw.TheOpen.{Raw-F, Leaf, Node}
use Rattle.expr_rules.specs.ExprMeant.Names.{written_in, written_of, written_test_in}
use Rattle.expr_rules.specs.ExprMeant.Parts.{key_of, key_in}
use Rattle.expr_rules.specs.declared.expr_meant.meant.Meant.TheVariants as meant
use Rattle.expr_rules.specs.Known.{name_of}
use Rattle.expr_rules.specs.Rules.{undeclared_of, test_broken_of, axis_key_broken, own_broken}
use Rattle.expr_rules.specs.Rules.{end_broken, args_of}
use Rattle.expr_primaries.specs.ExprPaths.Steps.{defaulted}
use Rattle.expr_primaries.specs.ExprPaths.Table.{path_value}
use Rattle.expr_resolve.specs.declared.setting.Setting.{Setting}
use Rattle.expr_resolve.specs.Tables.{end, is_chain, is_tag, family_of, value_in}
use Rattle.expr_resolve.specs.Folds.{value_of, broken_of}
use Rattle.expr_raws.specs.PathRaws.Forms.{Form, primary, step, single, list, at, all_at, all_can, key_leaf}
use Rattle.expr_raws.specs.PathRaws.Names.{no_codes, names, name_token, token_in, function_token}
use Rattle.expr_raws.specs.PathRaws.Names.{spellings, same_test, tests, test_token, test_spellings}
use Rattle.expr_raws.specs.PathRaws.Paths.{with_token, variable_with, variable, argued, call_with, call}
use Rattle.expr_raws.specs.PathRaws.Paths.{axis_key, leaf_test, named_test, test_form, stepped, step_after}
use Rattle.expr_raws.specs.PathRaws.Paths.{root, alone, behind_steps, is_rooted}
use Rattle.expr_raws.specs.PathRaws.Paths.{only_rooted, start_of, slash_raw, slashed, filtered}
use Rattle.expr_raws.proofs.PathRaws.Values.{value_leaf, value_node}
use Rattle.expr_raws.proofs.PathRaws.Paths.{fitting_sound, name_found}
use Rattle.raw_laws.proofs.CleanRaws.Clean.{Clean, AllClean, append_clean, free_clean, free_parts}
use Rattle.raw_laws.proofs.CleanRaws.Clean.{leaf_clean}
use Rattle.raw_laws.proofs.CleanRaws.Clean.{Own, Told, told_clean, untold, at_clean, AllGood}
use Rattle.raw_laws.proofs.CleanRaws.Clean.{all_told, all_clean, key_name, key_test}
use Rattle.xt_names.proofs.BoolLemmas.{not_true}

pub none : (cs : List Code) → no_codes cs ≡ true → cs ≡ []
none [] e = refl
none (c ∷ cs) e = absurd (cc)

-- the prefix of the token of a name is declared
pub name_declared : (c : Class) (bound : List Binding) (default : List ℕ) (n : ExprName) (t : Token)
    → token_in c bound default n ≡ Some t → undeclared_in bound (written_in t) ≡ []
name_declared c bound default n t e =
    let same : Bool = bytes_eq (uri_in bound default (written_in t)) n.uri
    && bytes_eq (written_in t).local n.local in
    none (undeclared_in bound (written_in t))
    (and_parts same (no_codes (undeclared_in bound (written_in t)))
    (fitting_sound c (names bound default n) (spellings bound n.local) t e).1).1

-- .. and of that of a name test
test_declared : (c : Class) (bound : List Binding) (default : List ℕ) (on : Axis) (n : NameTest)
    (t : Token) → test_token c bound default on n ≡ Some t
    → test_broken bound (written_test_in t) ≡ []
test_declared c bound default on n t e =
    let same : Bool = same_test (defaulted default on (name_test bound (written_test_in t))) n in
    none (test_broken bound (written_test_in t))
    (and_parts same (no_codes (test_broken bound (written_test_in t)))
    (fitting_sound c (tests bound default on n) (test_spellings bound n) t e).1).1

module _ (s : Setting) where
  -- a leaf whose prefix is declared
  abbrev pub Named : Raw → Type 0
  Named v = Clean s v × (undeclared_of s.prefixes.bound (value_of s v) ≡ [])

  pub leaf_named : (t : Token) → undeclared_in s.prefixes.bound (written_in t) ≡ []
      → Named (leaf t)
  unfolding written_of
  leaf_named t e = (
    leaf_clean s t,
    ap (λ m. undeclared_of s.prefixes.bound m) (value_leaf s t) ∙ e,
  )

  pub key_named : (k : Key) → Named (key_leaf k)
  key_named k = (
    leaf_clean s (token.Key k),
    ap (λ m. undeclared_of s.prefixes.bound m) (value_leaf s (token.Key k))
        ∙ key_name s.prefixes.bound k,
  )

  -- $v
  pub variable_clean : (n : ExprName) → (variable s.prefixes n).can ≡ true
      → Clean s (variable s.prefixes n).raw
  unfolding own_broken end_broken is_tag is_chain
  variable_clean n = go (name_token s.prefixes.bound [] n) refl
    where
      go : (o : Option Token) → name_token s.prefixes.bound [] n ≡ o
          → (with_token o variable_with).can ≡ true
          → Clean s (with_token o variable_with).raw
      go None o c = absurd (cc)
      go (Some t) o c = told_clean s production.Variable refl refl (leaf t ∷ [])
          (leaf_named t (name_declared class.Name s.prefixes.bound [] n t o), tt) refl

  -- node tests

  abbrev pub Tested : Raw → Type 0
  Tested v = Clean s v × (test_broken_of s.prefixes.bound (value_of s v) ≡ [])

  leaf_tested : (t : Token) → test_broken s.prefixes.bound (written_test_in t) ≡ []
      → Tested (leaf t)
  unfolding test_broken_of
  leaf_tested t e = (
    leaf_clean s t,
    ap (λ m. test_broken_of s.prefixes.bound m) (value_leaf s t) ∙ e,
  )

  key_tested : (k : Key) → Tested (key_leaf k)
  key_tested k = (
    leaf_clean s (token.Key k),
    ap (λ m. test_broken_of s.prefixes.bound m) (value_leaf s (token.Key k))
        ∙ key_test s.prefixes.bound k,
  )

  -- a kind is no name
  kind_tested : (v : Raw) (t : Test) → Clean s v → value_of s v ≡ meant.Kind t → Tested v
  unfolding test_broken_of
  kind_tested v t c h = (c, ap (λ m. test_broken_of s.prefixes.bound m) h)

  plain_kind_tested : (k : Key) → Tested (node production.PlainKind (key_leaf k ∷ []))
  unfolding is_chain family_of value_in path_value
  plain_kind_tested k = kind_tested (node production.PlainKind (key_leaf k ∷ [])) _
      (free_clean s production.PlainKind refl (key_leaf k ∷ []) (leaf_clean s (token.Key k), tt))
      (value_node s production.PlainKind (key_leaf k ∷ []))

  pi_kind_tested : (vs : List Raw) → AllClean s vs → Tested (node production.PiKind vs)
  unfolding is_chain family_of value_in path_value
  pi_kind_tested vs a = kind_tested (node production.PiKind vs) _
      (free_clean s production.PiKind refl vs a) (value_node s production.PiKind vs)

  named_kind_tested : (k : Key) (t : Token) → test_broken s.prefixes.bound (written_test_in t) ≡ []
      → Tested (node production.NamedKind (key_leaf k ∷ leaf t ∷ []))
  unfolding is_chain is_tag family_of value_in path_value own_broken end_broken
  named_kind_tested k t e = kind_tested (node production.NamedKind (key_leaf k ∷ leaf t ∷ [])) _
      (told_clean s production.NamedKind refl refl (key_leaf k ∷ leaf t ∷ [])
      (key_tested k, (leaf_tested t e, tt)) refl)
      (value_node s production.NamedKind (key_leaf k ∷ leaf t ∷ []))

  leaf_form : (o : Option Token)
      → ((t : Token) → o ≡ Some t → test_broken s.prefixes.bound (written_test_in t) ≡ [])
      → (with_token o leaf_test).can ≡ true → Tested (with_token o leaf_test).raw
  leaf_form None h c = absurd (cc)
  leaf_form (Some t) h c = leaf_tested t (h t refl)

  named_form : (k : Key) (o : Option Token)
      → ((t : Token) → o ≡ Some t → test_broken s.prefixes.bound (written_test_in t) ≡ [])
      → (with_token o (named_test k)).can ≡ true → Tested (with_token o (named_test k)).raw
  named_form k None h c = absurd (cc)
  named_form k (Some t) h c = named_kind_tested k t (h t refl)

  pub test_clean : (on : Axis) (t : Test) → (test_form s.prefixes on t).can ≡ true
      → Tested (test_form s.prefixes on t).raw
  test_clean on (test.Named n) c = leaf_form
      (test_token class.NameTest s.prefixes.bound s.prefixes.element_default on n)
      (λ t. test_declared class.NameTest s.prefixes.bound s.prefixes.element_default on n t) c
  test_clean on test.Node c = plain_kind_tested key.NodeWord
  test_clean on test.Text c = plain_kind_tested key.TextWord
  test_clean on test.Comment c = plain_kind_tested key.CommentWord
  test_clean on test.Doc c = plain_kind_tested key.DocumentNodeWord
  test_clean on (test.Pi None) c = pi_kind_tested [] tt
  test_clean on (test.Pi (Some cs)) c =
      pi_kind_tested (leaf (token.Quoted cs) ∷ []) (leaf_clean s (token.Quoted cs), tt)
  test_clean on (test.Elem n) c = named_form key.ElementWord
      (test_token class.NameOrStar s.prefixes.bound s.prefixes.element_default axis.Child n)
      (λ t. test_declared class.NameOrStar s.prefixes.bound s.prefixes.element_default axis.Child n
      t) c
  test_clean on (test.Attr n) c = named_form key.AttributeWord
      (test_token class.NameOrStar s.prefixes.bound s.prefixes.element_default axis.Attribute n)
      (λ t. test_declared class.NameOrStar s.prefixes.bound s.prefixes.element_default
      axis.Attribute n t) c

  -- axis::test[p]..

  axis_known : (on : Axis) → axis_key_broken (axis_key on) ≡ []
  unfolding axis_key_broken
  axis_known axis.Child = refl
  axis_known _ = refl

  axis_told : (on : Axis) → Own s production.AxisStep true (key_leaf (axis_key on))
  unfolding own_broken key_of key_in
  axis_told on = ap (λ m. axis_key_broken (key_of m)) (value_leaf s (token.Key (axis_key on)))
      ∙ axis_known on

  pub step_clean : (on : Axis) (t : Test) (fs : List Form)
      → (test_form s.prefixes on t).can ≡ true → AllGood s fs
      → Clean s (stepped s.prefixes on t fs).raw
  unfolding own_broken end_broken is_tag is_chain
  step_clean on t fs c a =
      let v : Raw = (test_form s.prefixes on t).raw in
      told_clean s production.AxisStep refl refl (key_leaf (axis_key on) ∷ v ∷ all_at list fs) (
        (leaf_clean s (token.Key (axis_key on)), axis_told on),
        (test_clean on t c, all_told s production.AxisStep list fs a),
      ) refl

  -- f(a, ..)

  argued_told : (fs : List Form) → AllGood s fs → Told s production.Call false (argued fs)
  unfolding is_chain family_of value_in path_value
  argued_told [] a = tt
  argued_told (f ∷ fs) a = (
    (
      free_clean s production.ArgumentList refl (all_at single (f ∷ fs))
          (all_clean s single (f ∷ fs) a),
      untold s production.Call false (node production.ArgumentList (all_at single (f ∷ fs))) _
          (value_node s production.ArgumentList (all_at single (f ∷ fs))) refl,
    ),
    tt,
  )

  call_ends : (n : ExprName) (t : Token) (vs : List Raw)
      → is_some (call_type (type_named n)) ≡ false
      → name_of s.prefixes.bound s.prefixes.function_default (meant.Token t) ≡ n
      → end s production.Call (map (value_of s) (leaf t ∷ vs)) ≡ []
  unfolding end_broken arity_broken
  call_ends n t vs c h =
      ap (λ m. arity_broken (call_type (type_named
      (name_of s.prefixes.bound s.prefixes.function_default m))) (args_of (map (value_of s) vs)))
      (value_leaf s t)
      ∙ ap (λ x. arity_broken (call_type (type_named x)) (args_of (map (value_of s) vs))) h
      ∙ go (call_type (type_named n)) c
    where
      go : (o : Option AtomType) → is_some o ≡ false
          → arity_broken o (args_of (map (value_of s) vs)) ≡ []
      go None e = refl
      go (Some k) e = absurd (cc)

  call_with_clean : (n : ExprName) (fs : List Form) (o : Option Token)
      → function_token s.prefixes.bound s.prefixes.function_default n ≡ o
      → (all_can fs ≡ true → AllGood s fs) → (with_token o (call_with n fs)).can ≡ true
      → Clean s (with_token o (call_with n fs)).raw
  unfolding own_broken is_tag is_chain
  call_with_clean n fs None o a c = absurd (cc)
  call_with_clean n fs (Some t) o a c =
      let h = and_parts (not (is_some (call_type (type_named n)))) (all_can fs) c in
      told_clean s production.Call refl refl (leaf t ∷ argued fs) (
        leaf_named t
            (name_declared class.Function s.prefixes.bound s.prefixes.function_default n t o),
        argued_told fs (a h.1),
      )
      (call_ends n t (argued fs) (not_true h.0)
      (name_found class.Function s.prefixes.bound s.prefixes.function_default n t o))

  pub call_clean : (n : ExprName) (fs : List Form) → (all_can fs ≡ true → AllGood s fs)
      → (call s.prefixes n fs).can ≡ true → Clean s (call s.prefixes n fs).raw
  call_clean n fs a c = call_with_clean n fs _ refl a c

  -- paths

  after_clean : (b : Form) → Clean s b.raw → Clean s (step_after b)
  after_clean b c =
      free_clean s production.StepAfter refl (at step b ∷ []) (at_clean s step b c, tt)

  pub slashed_clean : (a b : Form) → Clean s a.raw → Clean s b.raw → Clean s (slashed a b).raw
  slashed_clean a b ca cb = go (out-Raw a.raw) (roll-out-Raw a.raw)
    where
      is_alone : Clean s (slash_raw alone a b)
      is_alone = free_clean s production.Steps refl (at step a ∷ step_after b ∷ [])
          (at_clean s step a ca, (after_clean b cb, tt))

      parts : (p : Production) (vs : List Raw) → roll-Raw (Node p vs) ≡ a.raw → Clean s (node p vs)
      parts p vs o = ap (λ v. broken_of s v) (sym (rolls-Node p vs) ∙ o) ∙ ca

      steps : (vs : List Raw) → Clean s (node production.Steps vs)
          → Clean s (slash_raw (behind_steps vs) a b)
      steps [] c = is_alone
      steps (v ∷ vs) c = free_clean s production.Steps refl ((v ∷ vs) ++ step_after b ∷ [])
          (append_clean s (v ∷ vs) (step_after b ∷ [])
          (free_parts s production.Steps refl (v ∷ vs) c) (after_clean b cb, tt))

      rooted : Clean s (slash_raw root a b)
      rooted = free_clean s production.RootSteps refl (at step b ∷ []) (at_clean s step b cb, tt)

      parens : (vs : List Raw) → Clean s (slash_raw (only_rooted vs) a b)
      parens [] = is_alone
      parens (v ∷ []) = one (is_rooted (out-Raw v))
        where
          one : (r : Bool) → Clean s (slash_raw (cond r root alone) a b)
          one true = rooted
          one false = is_alone
      parens (v ∷ w ∷ vs) = is_alone

      go : (f : Raw-F Raw) → roll-Raw f ≡ a.raw → Clean s (slash_raw (start_of f) a b)
      go (Leaf t) o = is_alone
      go (Node production.Steps vs) o = steps vs (parts production.Steps vs o)
      go (Node production.RootSteps vs) o =
          free_clean s production.RootSteps refl (vs ++ step_after b ∷ [])
          (append_clean s vs (step_after b ∷ [])
          (free_parts s production.RootSteps refl vs (parts production.RootSteps vs o))
          (after_clean b cb, tt))
      go (Node production.Parens vs) o = parens vs
      go (Node _ vs) o = is_alone

  pub filtered_clean : (a : Form) (fs : List Form) → Clean s a.raw → AllGood s fs
      → (filtered a fs).can ≡ true → Clean s (filtered a fs).raw
  filtered_clean a [] ca cs c = absurd (cc)
  filtered_clean a (f ∷ fs) ca cs c = free_clean s production.FilterStep refl
      (at primary a ∷ all_at list (f ∷ fs))
      (at_clean s primary a ca, all_clean s list (f ∷ fs) cs)
