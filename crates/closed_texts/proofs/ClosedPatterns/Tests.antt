-- What a step of a pattern means: an axis, a test and predicates that patterns have.
use Rattle.std.proofs.Common.{◌≡◌, ℕ, List, [], ◌∷◌, map, Bool, true, false, cond, ◌||◌, refl}
use Rattle.std.proofs.Common.{sym, ap, subst, ◌∙◌, Some, None}
use Rattle.std.proofs.lemmas.Bool.{and_parts}
use Rattle.xt_names.specs.Classes.{is_ncname_text}
use Rattle.xt_names.specs.declared.names.Binding.{Binding}
use Rattle.xt_types.specs.Regular.{is_regular_test, is_regular_name_test}
use Rattle.xt_types.specs.declared.axes.Axis.{Axis}
use Rattle.xt_types.specs.declared.axes.Axis.TheVariants as axis
use Rattle.xt_types.specs.declared.node_tests.NameTest.{NameTest}
use Rattle.xt_types.specs.declared.node_tests.NameTest.TheVariants as name
use Rattle.xt_types.specs.declared.node_tests.Test.{Test}
use Rattle.xt_types.specs.declared.node_tests.Test.TheVariants as test
use Rattle.xt_syntax.specs.declared.exprs.Expr.{Expr}
use Rattle.xt_syntax.specs.declared.exprs.Expr.TheVariants as expr
use Rattle.expr_names.specs.Names.{name_test, default_in}
use Rattle.expr_names.specs.declared.written.WrittenTest.TheVariants as written
use Rattle.expr_keys.specs.Keys.{same_key}
use Rattle.expr_keys.specs.Classes.{fits_quoted}
use Rattle.expr_terms.specs.Productions.{body, head}
use Rattle.expr_keys.specs.Tokens.{fits_word}
use Rattle.expr_terms.specs.Raws.{build}
use Rattle.expr_keys.specs.declared.keys.Key.{Key}
use Rattle.expr_keys.specs.declared.keys.Key.TheVariants as key
use Rattle.expr_keys.specs.declared.productions.Language.TheVariants.{Xpath as xpath}
use Rattle.expr_keys.specs.declared.productions.Nonterminal.TheVariants as nonterminal
use Rattle.expr_keys.specs.declared.productions.Production.{Production}
use Rattle.expr_keys.specs.declared.productions.Production.TheVariants as production
use Rattle.expr_keys.specs.declared.tokens.Token.{Token}
use Rattle.expr_keys.specs.declared.tokens.Token.TheVariants as token
use Rattle.expr_terms.specs.declared.raws.Raw.{Raw}
use Rattle.expr_terms.specs.declared.raws.Raw.TheVariants.{Leaf as leaf, Node as node, outs-Leaf}
use Rattle.expr_terms.specs.declared.raws.Raw.TheVariants.{outs-Node}
use Rattle.expr_terms.specs.declared.raws.Raw.TheViews.{out-Raw}
use Rattle.expr_terms.specs.declared.raws.Raw.TheOpen.{Raw-F, Leaf, Node}
use Rattle.expr_grammar.specs.Grammar.{Derives, by, Seq, end, taken, next, without, with, stop}
use Rattle.expr_grammar.specs.Grammar.{again}
use Rattle.expr_rules.specs.ExprMeant.Names.{written_key, written_test_in, target_in}
use Rattle.expr_rules.specs.ExprMeant.Parts.{expr_of, exprs_of, key_in, key_of}
use Rattle.expr_rules.specs.declared.expr_meant.meant.Meant.{Meant}
use Rattle.expr_rules.specs.declared.expr_meant.meant.Meant.TheVariants as meant
use Rattle.expr_primaries.specs.ExprPaths.Steps.{axis_of, defaulted, test_on, axis_for, axis_for_test}
use Rattle.expr_primaries.specs.ExprPaths.Steps.{plain_kind_of, target_of}
use Rattle.expr_primaries.specs.ExprPaths.Table.{path_value}
use Rattle.expr_rules.specs.Known.{name_test_of}
use Rattle.expr_resolve.specs.declared.setting.Setting.{Setting}
use Rattle.expr_resolve.specs.Tables.{act, family_of, value_in, is_chain}
use Rattle.expr_resolve.specs.Folds.{value_of, expr_meant}
use Rattle.sound_expressions.specs.SoundForms.Sound.{is_sound_token, are_sound}
use Rattle.sound_expressions.proofs.SoundForms.NameLemmas.{word_written}
use Rattle.pattern_forms.specs.PatternShapes.Shapes.{is_pattern_key, is_axis_key, is_axis_leaf, is_step}
use Rattle.pattern_forms.specs.PatternShapes.Shapes.{is_step_in}
use Rattle.pattern_syntax.specs.Parts.{is_document_token, is_document_key, is_quoted_token, leaf_is}
use Rattle.pattern_syntax.specs.Parts.{is_pattern_test_in, has_pattern_test_in}
use Rattle.sheet_closure.specs.StandingParts.Patterns.{is_pattern_axis, is_pattern_name, is_pattern_target}
use Rattle.sheet_closure.specs.StandingParts.Patterns.{is_pattern_test}
use Rattle.xpath_laws.proofs.XpathForms.Found.{value_leaf, value_node}
use Rattle.xpath_laws.proofs.XpathForms.Good.{built}
use Rattle.closed_texts.proofs.PatternCuts.Cut.{behind_token}
use Rattle.closed_texts.specs.PatternCuts.Steps.{IsStep}
use Rattle.closed_texts.proofs.PatternCuts.Steps.{primary_no_part}
use Rattle.xt_names.proofs.BoolLemmas.{never, is_false}

-- what a test of a pattern is, but for the uri of `p:*`, which it has where it is regular
abbrev is_allowed_name : NameTest → Bool
is_allowed_name name.Any = true
is_allowed_name (name.Uri uri) = true
is_allowed_name (name.Local local) = is_ncname_text local
is_allowed_name (name.Exact n) = true

abbrev pub is_allowed_test : Test → Bool
is_allowed_test (test.Named n) = is_allowed_name n
is_allowed_test test.Node = true
is_allowed_test test.Text = true
is_allowed_test test.Comment = true
is_allowed_test (test.Pi target) = is_pattern_target target
is_allowed_test test.Doc = false
is_allowed_test (test.Elem n) = false
is_allowed_test (test.Attr n) = false

pub pattern_test : (t : Test) → is_regular_test t ≡ true → is_allowed_test t ≡ true
    → is_pattern_test t ≡ true
unfolding is_regular_test is_regular_name_test is_pattern_test is_pattern_name
pattern_test (test.Named name.Any) r a = refl
pattern_test (test.Named (name.Uri uri)) r a = r
pattern_test (test.Named (name.Local local)) r a = a
pattern_test (test.Named (name.Exact n)) r a = refl
pattern_test test.Node r a = refl
pattern_test test.Text r a = refl
pattern_test test.Comment r a = refl
pattern_test (test.Pi target) r a = a
pattern_test test.Doc r a = never a
pattern_test (test.Elem n) r a = never a
pattern_test (test.Attr n) r a = never a

-- names
token_allowed : (bound : List Binding) (t : Token) → is_sound_token t ≡ true
    → is_allowed_name (name_test bound (written_test_in t)) ≡ true
unfolding name_test written_test_in
token_allowed bound (token.Key k) h = go (same_key key.Star k)
  where
    go : (b : Bool) → is_allowed_name (name_test bound (cond b written.Any
        (written.Exact (written_key k)))) ≡ true
    go true = refl
    go false = refl
token_allowed bound (token.AnyLocal prefix) h = refl
token_allowed bound (token.AnyPrefix local) h = h
token_allowed bound _ h = refl

default_allowed : (default : List ℕ) (n : NameTest) → is_allowed_name n ≡ true
    → is_allowed_name (default_in default n) ≡ true
unfolding default_in
default_allowed default name.Any h = refl
default_allowed default (name.Uri uri) h = refl
default_allowed default (name.Local local) h = h
default_allowed default (name.Exact n) h = refl

defaulted_allowed : (default : List ℕ) (on : Axis) (n : NameTest) → is_allowed_name n ≡ true
    → is_allowed_name (defaulted default on n) ≡ true
unfolding defaulted
defaulted_allowed default axis.Attribute n h = h
defaulted_allowed default _ n h = default_allowed default n h

-- kinds of nodes
key_allowed : (k : Key) → is_document_key k ≡ false → is_allowed_test (plain_kind_of k) ≡ true
unfolding plain_kind_of
key_allowed key.TextWord h = refl
key_allowed key.CommentWord h = refl
key_allowed key.DocumentNodeWord h = absurd cc
key_allowed _ h = refl

plain_allowed : (t : Token) → is_document_token t ≡ false
    → is_allowed_test (plain_kind_of (key_of (meant.Token t))) ≡ true
unfolding plain_kind_of key_of key_in
plain_allowed (token.Key k) h = key_allowed k h
plain_allowed _ h = refl

or_left : (a : Bool) → (a || false) ≡ true → a ≡ true
or_left true h = refl
or_left false h = never h

-- a target that is no literal is a name
target_allowed : (t : Token) → (fits_word t || fits_quoted t) ≡ true → is_quoted_token t ≡ false
    → is_sound_token t ≡ true → is_ncname_text (target_in t) ≡ true
unfolding target_in
target_allowed (token.Quoted text) f q h = absurd cc
target_allowed (token.Key k) f q h =
    (word_written (token.Key k) (or_left (fits_word (token.Key k)) f) h).local
target_allowed (token.Name n) f q h = (word_written (token.Name n) refl h).local
target_allowed _ f q h = never f

-- of a node and of a token
at_node : (f : Raw-F Raw → Bool) (p : Production) (vs : List Raw) → f (out-Raw (node p vs)) ≡ true
    → f (Node p vs) ≡ true
at_node f p vs h = sym (ap f (outs-Node p vs)) ∙ h

at_leaf : (f : Raw-F Raw → Bool) (t : Token) {b : Bool} → f (out-Raw (leaf t)) ≡ b
    → f (Leaf t) ≡ b
at_leaf f t h = sym (ap f (outs-Leaf t)) ∙ h

first_sound : (t : Token) (ts : List Token) → are_sound (t ∷ ts) ≡ true → is_sound_token t ≡ true
first_sound t ts h = (and_parts (is_sound_token t) (are_sound ts) h).0

module _ (s : Setting) (default : List ℕ) (on : Axis) where
  abbrev AllowedAt : Raw → Type 0
  AllowedAt v = is_allowed_test (test_on s.prefixes.bound default on (value_of s v)) ≡ true

  kind_meant : (v : Raw) (t : Test) → value_of s v ≡ meant.Kind t → is_allowed_test t ≡ true
      → AllowedAt v
  unfolding test_on
  kind_meant v t e a =
      ap (λ m. is_allowed_test (test_on s.prefixes.bound default on m)) e ∙ a

  name_meant : (t : Token) → is_sound_token t ≡ true → AllowedAt (leaf t)
  unfolding test_on name_test_of
  name_meant t h =
      ap (λ m. is_allowed_test (test_on s.prefixes.bound default on m)) (value_leaf s t)
      ∙ defaulted_allowed default on (name_test s.prefixes.bound (written_test_in t))
      (token_allowed s.prefixes.bound t h)

  plain_value : (t : Token) → value_of s (node production.PlainKind (leaf t ∷ []))
      ≡ meant.Kind (plain_kind_of (key_of (meant.Token t)))
  unfolding is_chain family_of value_in path_value
  plain_value t =
      value_node s production.PlainKind (leaf t ∷ []) refl
      ∙ ap (λ m. act s production.PlainKind (m ∷ [])) (value_leaf s t)

  no_target_value : value_of s (node production.PiKind []) ≡ meant.Kind (test.Pi None)
  unfolding is_chain family_of value_in path_value
  no_target_value = value_node s production.PiKind [] refl

  target_value : (t : Token) → value_of s (node production.PiKind (leaf t ∷ []))
      ≡ meant.Kind (test.Pi (Some (target_in t)))
  unfolding is_chain family_of value_in path_value target_of
  target_value t =
      value_node s production.PiKind (leaf t ∷ []) refl
      ∙ ap (λ m. act s production.PiKind (m ∷ [])) (value_leaf s t)

  target_by : (p : Production) {ts rest : List Token} {vs : List Raw}
      → head p ≡ nonterminal.PiArgument → Seq xpath (body p) ts vs rest → are_sound ts ≡ true
      → is_pattern_test_in (out-Raw (node production.PiKind (build p vs ∷ []))) ≡ true
      → AllowedAt (node production.PiKind (build p vs ∷ []))
  unfolding is_pattern_target
  target_by production.PiNamed e (taken {t = t} {ts = ts} f end) h k =
      let v = node production.PiKind (leaf t ∷ []) in
      let no : is_quoted_token t ≡ false =
      at_leaf (leaf_is is_quoted_token) t (is_false (leaf_is is_quoted_token (out-Raw (leaf t)))
      (at_node is_pattern_test_in production.PiKind (leaf t ∷ []) k)) in
      kind_meant v (test.Pi (Some (target_in t))) (target_value t)
      (target_allowed t f no (first_sound t ts h))
  target_by _ e q h k = absurd cc

  kind_by : (p : Production) {ts rest : List Token} {vs : List Raw}
      → head p ≡ nonterminal.KindTest → Seq xpath (body p) ts vs rest → are_sound ts ≡ true
      → is_pattern_test_in (out-Raw (build p vs)) ≡ true → AllowedAt (build p vs)
  unfolding is_pattern_target
  kind_by production.PlainKind e (taken {t = t} f (taken g (taken i end))) h k =
      let v = node production.PlainKind (leaf t ∷ []) in
      let no : is_document_token t ≡ false =
      at_leaf (leaf_is is_document_token) t (is_false (leaf_is is_document_token (out-Raw (leaf t)))
      (at_node is_pattern_test_in production.PlainKind (leaf t ∷ []) k)) in
      kind_meant v (plain_kind_of (key_of (meant.Token t))) (plain_value t) (plain_allowed t no)
  kind_by production.PiKind e (taken f (taken g (without (taken i end)))) h k =
      kind_meant (node production.PiKind []) (test.Pi None) no_target_value refl
  kind_by production.PiKind e (taken {t = t} {ts = ts} f (taken {t = u} {ts = us} g
      (with (by p {vs = vs} o m q) (taken i end)))) h k =
      target_by p m q (behind_token u us (behind_token t ts h)) k
  kind_by production.NamedKind {vs = vs} e q h k =
      let at = subst (λ v. is_pattern_test_in (out-Raw v) ≡ true)
      (built production.NamedKind vs refl refl refl refl) k in
      never (at_node is_pattern_test_in production.NamedKind vs at)
  kind_by _ e q h k = absurd cc

  pub test_by : (p : Production) {ts rest : List Token} {vs : List Raw}
      → head p ≡ nonterminal.NodeTest → Seq xpath (body p) ts vs rest → are_sound ts ≡ true
      → is_pattern_test_in (out-Raw (build p vs)) ≡ true → AllowedAt (build p vs)
  test_by production.NameTested e (taken {t = t} {ts = ts} f end) h k =
      name_meant t (first_sound t ts h)
  test_by production.KindTested e (next (by p o m q) end) h k = kind_by p m q h k
  test_by _ e q h k = absurd cc

-- axes
key_axis : (k : Key) → is_axis_key k ≡ true → is_pattern_axis (axis_of k) ≡ true
unfolding axis_of is_pattern_axis
key_axis key.ChildWord h = refl
key_axis key.AttributeWord h = refl
key_axis _ h = never h

token_axis : (t : Token) → is_pattern_key t ≡ true
    → is_pattern_axis (axis_of (key_of (meant.Token t))) ≡ true
unfolding key_of key_in
token_axis (token.Key k) h = key_axis k h
token_axis _ h = never h

kind_axis : (t : Test) → is_pattern_axis (axis_for_test t) ≡ true
unfolding axis_for_test is_pattern_axis
kind_axis (test.Attr n) = refl
kind_axis _ = refl

test_axis : (m : Meant) → is_pattern_axis (axis_for m) ≡ true
unfolding axis_for is_pattern_axis
test_axis (meant.Kind t) = kind_axis t
test_axis _ = refl

attribute_axis : is_pattern_axis axis.Attribute ≡ true
unfolding is_pattern_axis
attribute_axis = refl

module _ (s : Setting) where
  -- the step that a value means
  pub record MeantStep (v : Raw) : Type 0 where
    pub on : Axis
    pub wanted : Test
    pub tests : List Expr
    pub is : expr_meant s v ≡ expr.Step on wanted tests
    pub way : is_pattern_axis on ≡ true
    pub allowed : is_allowed_test wanted ≡ true

  meant_as : (p : Production) (vs : List Raw) (ms : List Meant) (e : Expr) → is_chain p ≡ false
      → map (value_of s) vs ≡ ms → act s p ms ≡ meant.Expr e → expr_meant s (node p vs) ≡ e
  unfolding expr_of
  meant_as p vs ms e c i h =
      ap expr_of (value_node s p vs c ∙ ap (λ x. act s p x) i ∙ h)

  axis_step : (t : Token) (w : Raw) (ws : List Raw) → is_pattern_key t ≡ true
      → AllowedAt s s.prefixes.element_default (axis_of (key_of (meant.Token t))) w
      → MeantStep (node production.AxisStep (leaf t ∷ w ∷ ws))
  unfolding is_chain family_of value_in path_value
  axis_step t w ws k a =
      let on = axis_of (key_of (meant.Token t)) in
      let default = s.prefixes.element_default in
      record {
        on = on;
        wanted = test_on s.prefixes.bound default on (value_of s w);
        tests = exprs_of (map (value_of s) ws);
        is = meant_as production.AxisStep (leaf t ∷ w ∷ ws)
            (meant.Token t ∷ value_of s w ∷ map (value_of s) ws)
            (expr.Step on (test_on s.prefixes.bound default on (value_of s w))
            (exprs_of (map (value_of s) ws))) refl
            (ap (λ m. m ∷ value_of s w ∷ map (value_of s) ws) (value_leaf s t)) refl;
        way = token_axis t k;
        allowed = a;
      }

  attribute_step : (w : Raw) (ws : List Raw) → AllowedAt s [] axis.Attribute w
      → MeantStep (node production.AttributeStep (w ∷ ws))
  unfolding is_chain family_of value_in path_value
  attribute_step w ws a =
      record {
        on = axis.Attribute;
        wanted = test_on s.prefixes.bound [] axis.Attribute (value_of s w);
        tests = exprs_of (map (value_of s) ws);
        is = meant_as production.AttributeStep (w ∷ ws) (map (value_of s) (w ∷ ws))
            (expr.Step axis.Attribute (test_on s.prefixes.bound [] axis.Attribute (value_of s w))
            (exprs_of (map (value_of s) ws))) refl refl refl;
        way = attribute_axis;
        allowed = a;
      }

  test_step : (w : Raw) (ws : List Raw)
      → AllowedAt s s.prefixes.element_default (axis_for (value_of s w)) w
      → MeantStep (node production.TestStep (w ∷ ws))
  unfolding is_chain family_of value_in path_value
  test_step w ws a =
      let on = axis_for (value_of s w) in
      let default = s.prefixes.element_default in
      record {
        on = on;
        wanted = test_on s.prefixes.bound default on (value_of s w);
        tests = exprs_of (map (value_of s) ws);
        is = meant_as production.TestStep (w ∷ ws) (map (value_of s) (w ∷ ws))
            (expr.Step on (test_on s.prefixes.bound default on (value_of s w))
            (exprs_of (map (value_of s) ws))) refl refl refl;
        way = test_axis (value_of s w);
        allowed = a;
      }

  abbrev Step : Raw → Type 0
  Step v = is_step v ≡ true → has_pattern_test_in (out-Raw v) ≡ true → MeantStep v

  step_by : (p : Production) {ts rest : List Token} {vs : List Raw} → head p ≡ nonterminal.StepExpr
      → Seq xpath (body p) ts vs rest → are_sound ts ≡ true → Step (build p vs)
  step_by production.AxisStep e (taken {t = t} {ts = ts} f (taken {t = u} {ts = us} g
      (next {v = w} {vs = ws} (by p o m q) more))) h = λ i k.
      let way : is_pattern_key t ≡ true =
      at_leaf is_axis_leaf t (at_node is_step_in production.AxisStep (leaf t ∷ w ∷ ws) i) in
      let tested = at_node has_pattern_test_in production.AxisStep (leaf t ∷ w ∷ ws) k in
      axis_step t w ws way (test_by s s.prefixes.element_default
      (axis_of (key_of (meant.Token t))) p m q (behind_token u us (behind_token t ts h)) tested)
  step_by production.AttributeStep e (taken {t = t} {ts = ts} f
      (next {v = w} {vs = ws} (by p o m q) more)) h =
      subst (λ v. Step v) (sym (built production.AttributeStep (w ∷ ws) refl refl refl refl))
      (λ i k. attribute_step w ws (test_by s [] axis.Attribute p m q (behind_token t ts h)
      (at_node has_pattern_test_in production.AttributeStep (w ∷ ws) k)))
  step_by production.TestStep e (next {v = w} {vs = ws} (by p o m q) more) h =
      subst (λ v. Step v) (sym (built production.TestStep (w ∷ ws) refl refl refl refl))
      (λ i k. test_step w ws (test_by s s.prefixes.element_default (axis_for (value_of s w)) p m q h
      (at_node has_pattern_test_in production.TestStep (w ∷ ws) k)))
  step_by production.ParentStep {vs = vs} e q h =
      subst (λ v. Step v) (sym (built production.ParentStep vs refl refl refl refl))
      (λ i k. never (at_node is_step_in production.ParentStep vs i))
  step_by production.FilterStep e (next (by p o m q) (stop end)) h = λ i k.
      never (sym (primary_no_part p o m q).step ∙ i)
  step_by production.FilterStep e (next {v = v} d (again {v = w} {vs = ws} b q)) h = λ i k.
      never (at_node is_step_in production.FilterStep (v ∷ w ∷ ws) i)
  step_by _ e q h = absurd cc

  step_meant : {ts rest : List Token} {v : Raw} → Derives xpath nonterminal.StepExpr ts v rest
      → are_sound ts ≡ true → Step v
  step_meant (by p o e q) h = step_by p e q h

  pub is_meant : (v : Raw) → IsStep v → has_pattern_test_in (out-Raw v) ≡ true → MeantStep v
  is_meant v i k = step_meant i.derived i.sound i.shape k
