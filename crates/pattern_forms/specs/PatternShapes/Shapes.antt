-- Raw values that have the shape of a pattern (XSLT 2.0, 5.5.2).
use Rattle.std.specs.Prelude.{List, [], ◌∷◌, Bool, true, false, ◌&&◌}
use Rattle.std.specs.List.{list_all}
use Rattle.expr_keys.specs.declared.keys.Key.{Key}
use Rattle.expr_keys.specs.declared.keys.Key.TheVariants.{ChildWord as child_word, AttributeWord as attribute_word, Bar as bar}
use Rattle.expr_keys.specs.declared.tokens.Token.{Token}
use Rattle.expr_keys.specs.declared.tokens.Token.TheVariants as token
use Rattle.expr_keys.specs.declared.productions.Level.{Level}
use Rattle.expr_keys.specs.declared.productions.Level.TheVariants as levels
use Rattle.expr_keys.specs.declared.productions.Production.{Production}
use Rattle.expr_keys.specs.declared.productions.Production.TheVariants as production
use Rattle.expr_terms.specs.declared.raws.Raw.{Raw}
use Rattle.expr_terms.specs.declared.raws.Raw.TheViews.{out-Raw}
use Rattle.expr_terms.specs.declared.raws.Raw.TheOpen.{Raw-F, Leaf, Node}
use Rattle.xt_names.specs.Lists.{is_none}

-- the axis child or attribute
abbrev pub is_axis_key : Key → Bool
is_axis_key child_word = true
is_axis_key attribute_word = true
is_axis_key k = false

abbrev pub is_pattern_key : Token → Bool
is_pattern_key (token.Key k) = is_axis_key k
is_pattern_key t = false

abbrev pub is_axis_leaf : Raw-F Raw → Bool
is_axis_leaf (Leaf t) = is_pattern_key t
is_axis_leaf (Node p vs) = false

abbrev pub has_pattern_axis : List Raw → Bool
has_pattern_axis [] = false
has_pattern_axis (v ∷ vs) = is_axis_leaf (out-Raw v)

-- a step: on these axes, whatever its test and its predicates are
abbrev pub is_step_of : Production → List Raw → Bool
is_step_of production.AxisStep vs = has_pattern_axis vs
is_step_of production.AttributeStep vs = true
is_step_of production.TestStep vs = true
is_step_of p vs = false

abbrev pub is_step_in : Raw-F Raw → Bool
is_step_in (Leaf t) = false
is_step_in (Node p vs) = is_step_of p vs

abbrev pub is_step : Raw → Bool
is_step v = is_step_in (out-Raw v)

abbrev pub is_only_step : List Raw → Bool
is_only_step [] = false
is_only_step (v ∷ []) = is_step v
is_only_step (v ∷ w ∷ vs) = false

-- `/` or `//` and a step
abbrev pub is_after_of : Production → List Raw → Bool
is_after_of production.StepAfter vs = is_only_step vs
is_after_of production.DeepAfter vs = is_only_step vs
is_after_of p vs = false

abbrev pub is_after_in : Raw-F Raw → Bool
is_after_in (Leaf t) = false
is_after_in (Node p vs) = is_after_of p vs

abbrev pub is_after : Raw → Bool
is_after v = is_after_in (out-Raw v)

abbrev pub are_steps : List Raw → Bool
are_steps [] = false
are_steps (v ∷ vs) = is_step v && list_all is_after vs

-- an alternative: `/`, or steps, with or without `/` or `//` at the front
abbrev pub is_alternative_of : Production → List Raw → Bool
is_alternative_of production.Rooted vs = is_none vs
is_alternative_of production.RootSteps vs = are_steps vs
is_alternative_of production.RootedDeep vs = are_steps vs
is_alternative_of production.Steps vs = are_steps vs
is_alternative_of p vs = is_step_of p vs

abbrev pub is_alternative_in : Raw-F Raw → Bool
is_alternative_in (Leaf t) = false
is_alternative_in (Node p vs) = is_alternative_of p vs

abbrev pub is_alternative : Raw → Bool
is_alternative v = is_alternative_in (out-Raw v)

abbrev pub is_bar_word : Key → Bool
is_bar_word bar = true
is_bar_word k = false

abbrev pub is_bar_key : Token → Bool
is_bar_key (token.Key k) = is_bar_word k
is_bar_key t = false

abbrev pub is_bar : Raw-F Raw → Bool
is_bar (Leaf t) = is_bar_key t
is_bar (Node p vs) = false

abbrev pub has_bar : List Raw → Bool
has_bar [] = false
has_bar (v ∷ []) = false
has_bar (v ∷ w ∷ []) = is_bar (out-Raw v) && is_alternative w
has_bar (v ∷ w ∷ x ∷ vs) = false

abbrev pub is_unions : Level → Bool
is_unions levels.Union = true
is_unions l = false

-- `|` and an alternative
abbrev pub is_barred_of : Production → List Raw → Bool
is_barred_of (production.OperatorTail l) vs = is_unions l && has_bar vs
is_barred_of p vs = false

abbrev pub is_barred_in : Raw-F Raw → Bool
is_barred_in (Leaf t) = false
is_barred_in (Node p vs) = is_barred_of p vs

abbrev pub is_barred : Raw → Bool
is_barred v = is_barred_in (out-Raw v)

abbrev pub are_alternatives : List Raw → Bool
are_alternatives [] = false
are_alternatives (v ∷ vs) = is_alternative v && list_all is_barred vs

-- a pattern: alternatives joined by `|`
abbrev pub is_pattern_of : Production → List Raw → Bool
is_pattern_of (production.OperatorChain l) vs = is_unions l && are_alternatives vs
is_pattern_of p vs = is_alternative_of p vs

abbrev pub is_pattern_in : Raw-F Raw → Bool
is_pattern_in (Leaf t) = false
is_pattern_in (Node p vs) = is_pattern_of p vs

abbrev pub is_pattern : Raw → Bool
is_pattern v = is_pattern_in (out-Raw v)

-- what comes before a step, and the step itself
abbrev pub is_behind_of : Production → Bool
is_behind_of production.DeepAfter = true
is_behind_of p = false

abbrev pub is_behind_in : Raw-F Raw → Bool
is_behind_in (Leaf t) = false
is_behind_in (Node p vs) = is_behind_of p

abbrev pub is_behind_slashes : Raw → Bool
is_behind_slashes v = is_behind_in (out-Raw v)

abbrev pub only_or : List Raw → Raw → Raw
only_or [] other = other
only_or (v ∷ []) other = v
only_or (v ∷ w ∷ vs) other = other

abbrev pub inner_of : Production → List Raw → Raw → Raw
inner_of production.StepAfter vs other = only_or vs other
inner_of production.DeepAfter vs other = only_or vs other
inner_of p vs other = other

abbrev pub inner_in : Raw → Raw-F Raw → Raw
inner_in v (Leaf t) = v
inner_in v (Node p vs) = inner_of p vs v

abbrev pub inner_step : Raw → Raw
inner_step v = inner_in v (out-Raw v)
