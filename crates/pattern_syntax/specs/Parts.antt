-- The alternatives of a raw value that has the shape of a pattern, and their steps (XSLT 2.0,
-- 5.5.2).
use Rattle.std.specs.Prelude.{List, [], ◌∷◌, Bool, true, false, not}
use Rattle.std.specs.List.{list_all}
use Rattle.expr_keys.specs.declared.keys.Key.{Key}
use Rattle.expr_keys.specs.declared.keys.Key.TheVariants.{DocumentNodeWord as document_node_word}
use Rattle.expr_keys.specs.declared.tokens.Token.{Token}
use Rattle.expr_keys.specs.declared.tokens.Token.TheVariants as token
use Rattle.expr_keys.specs.declared.productions.Production.{Production}
use Rattle.expr_keys.specs.declared.productions.Production.TheVariants as production
use Rattle.expr_terms.specs.declared.raws.Raw.{Raw}
use Rattle.expr_terms.specs.declared.raws.Raw.TheViews.{out-Raw}
use Rattle.expr_terms.specs.declared.raws.Raw.TheOpen.{Raw-F, Leaf, Node}
use Rattle.pattern_forms.specs.PatternShapes.Shapes.{inner_step}

-- what stands behind `|`
abbrev pub second_or : List Raw → Raw → Raw
second_or [] other = other
second_or (v ∷ []) other = other
second_or (v ∷ w ∷ []) other = w
second_or (v ∷ w ∷ x ∷ vs) other = other

abbrev pub barless_of : Production → List Raw → Raw → Raw
barless_of (production.OperatorTail l) vs other = second_or vs other
barless_of p vs other = other

abbrev pub barless_in : Raw → Raw-F Raw → Raw
barless_in v (Leaf t) = v
barless_in v (Node p vs) = barless_of p vs v

abbrev pub barless : Raw → Raw
barless v = barless_in v (out-Raw v)

-- the alternatives, each with the `|` before it
abbrev pub alternatives_of : Production → List Raw → Raw → List Raw
alternatives_of (production.OperatorChain l) vs v = vs
alternatives_of p vs v = v ∷ []

abbrev pub alternatives_in : Raw → Raw-F Raw → List Raw
alternatives_in v (Leaf t) = v ∷ []
alternatives_in v (Node p vs) = alternatives_of p vs v

abbrev pub alternatives : Raw → List Raw
alternatives v = alternatives_in v (out-Raw v)

-- the steps of an alternative, each with the `/` or `//` before it
abbrev pub steps_of : Production → List Raw → Raw → List Raw
steps_of production.Rooted vs v = vs
steps_of production.RootSteps vs v = vs
steps_of production.RootedDeep vs v = vs
steps_of production.Steps vs v = vs
steps_of p vs v = v ∷ []

abbrev pub steps_within : Raw → Raw-F Raw → List Raw
steps_within v (Leaf t) = v ∷ []
steps_within v (Node p vs) = steps_of p vs v

abbrev pub steps_in : Raw → List Raw
steps_in v = steps_within v (out-Raw v)

-- `/` or `//` is at its front
abbrev pub is_rooted_of : Production → Bool
is_rooted_of production.Rooted = true
is_rooted_of production.RootSteps = true
is_rooted_of production.RootedDeep = true
is_rooted_of p = false

abbrev pub is_rooted_in : Raw-F Raw → Bool
is_rooted_in (Leaf t) = false
is_rooted_in (Node p vs) = is_rooted_of p

abbrev pub is_rooted : Raw → Bool
is_rooted v = is_rooted_in (out-Raw v)

-- .. and it is `//`
abbrev pub is_rooted_deep_of : Production → Bool
is_rooted_deep_of production.RootedDeep = true
is_rooted_deep_of p = false

abbrev pub is_rooted_deep_in : Raw-F Raw → Bool
is_rooted_deep_in (Leaf t) = false
is_rooted_deep_in (Node p vs) = is_rooted_deep_of p

abbrev pub is_rooted_deep : Raw → Bool
is_rooted_deep v = is_rooted_deep_in (out-Raw v)

-- document-node()
abbrev pub is_document_key : Key → Bool
is_document_key document_node_word = true
is_document_key k = false

abbrev pub is_document_token : Token → Bool
is_document_token (token.Key k) = is_document_key k
is_document_token t = false

abbrev pub is_quoted_token : Token → Bool
is_quoted_token (token.Quoted text) = true
is_quoted_token t = false

abbrev pub leaf_is : (Token → Bool) → Raw-F Raw → Bool
leaf_is test (Leaf t) = test t
leaf_is test (Node p vs) = false

abbrev pub first_is : (Token → Bool) → List Raw → Bool
first_is test [] = false
first_is test (v ∷ vs) = leaf_is test (out-Raw v)

-- The tests that patterns have: names, node(), text(), comment(), and processing-instruction()
-- with or without a target that is a name.
abbrev pub is_pattern_kind : Production → List Raw → Bool
is_pattern_kind production.PlainKind vs = not (first_is is_document_token vs)
is_pattern_kind production.PiKind vs = not (first_is is_quoted_token vs)
is_pattern_kind p vs = false

abbrev pub is_pattern_test_in : Raw-F Raw → Bool
is_pattern_test_in (Leaf t) = true
is_pattern_test_in (Node p vs) = is_pattern_kind p vs

abbrev pub first_test : List Raw → Bool
first_test [] = false
first_test (v ∷ vs) = is_pattern_test_in (out-Raw v)

abbrev pub second_test : List Raw → Bool
second_test [] = false
second_test (v ∷ vs) = first_test vs

-- after the axis, where one is written
abbrev pub has_pattern_test_of : Production → List Raw → Bool
has_pattern_test_of production.AxisStep vs = second_test vs
has_pattern_test_of p vs = first_test vs

abbrev pub has_pattern_test_in : Raw-F Raw → Bool
has_pattern_test_in (Leaf t) = false
has_pattern_test_in (Node p vs) = has_pattern_test_of p vs

abbrev pub has_pattern_test : Raw → Bool
has_pattern_test v = has_pattern_test_in (out-Raw (inner_step v))

abbrev pub has_tests : Raw → Bool
has_tests v = list_all has_pattern_test (steps_in (barless v))

-- each step of each alternative has one
abbrev pub has_pattern_tests : Raw → Bool
has_pattern_tests v = list_all has_tests (alternatives v)
