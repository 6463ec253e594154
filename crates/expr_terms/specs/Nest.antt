-- How deep a raw value nests: as the expression that it means does.
use Rattle.std.specs.Prelude.{ℕ, ◌+◌, ◌-◌, ◌==◌, max, Bool, true, false, List, [], ◌∷◌, if◌then◌else◌}
use Rattle.expr_terms.specs.Productions.{Level, or_level, and_level, Production, expr_list, if_expr, else_expr, flwor_expr, quantified_expr, operator_chain, signed, rooted, root_steps, rooted_deep, steps, deep_after, axis_step, attribute_step, test_step, parent_step, filter_step, number, literal, variable, parens, context, call, computed, constructed, pi_constructed, enclosing, direct_element, child_element}
use Rattle.expr_terms.specs.declared.raws.Raw.{Raw}
use Rattle.expr_terms.specs.declared.raws.Raw.TheFolds.{fold-Raw}
use Rattle.expr_terms.specs.declared.raws.Raw.TheOpen.{Raw-F, Leaf, Node}

-- how a part counts: `deep` behind `//`, which makes two levels; `last` for the last part of a conditional, whose own level is that of the conditional
pub data Mark : Type 0 where
  plain : Mark
  deep : Mark
  last : Mark

pub record Levels : Type 0 where
  pub nest : ℕ
  pub mark : Mark

abbrev pub mark_of : Production → Mark
mark_of deep_after = deep
mark_of else_expr = last
mark_of _ = plain

-- the parts nest to the left
abbrev pub is_left_level : Level → Bool
is_left_level or_level = false
is_left_level and_level = false
is_left_level _ = true

abbrev pub is_left : Production → Bool
is_left (operator_chain l) = is_left_level l
is_left steps = true
is_left root_steps = true
is_left rooted_deep = true
is_left _ = false

-- the parts of a conditional
abbrev pub is_arms : Production → Bool
is_arms if_expr = true
is_arms else_expr = true
is_arms _ = false

-- after the root stands a step, behind `//` at the front one more
abbrev pub before_parts : Production → ℕ
before_parts root_steps = 1
before_parts rooted_deep = 2
before_parts _ = 0

abbrev pub left_part : ℕ → Mark → ℕ → ℕ
left_part a deep n = 1 + max (1 + max a 1) n
left_part a _ n = 1 + max a n

abbrev pub arm_part : ℕ → Mark → ℕ → ℕ
arm_part a last n = max a (n - 1)
arm_part a _ n = max a n

-- one more part
abbrev pub with_part : Production → ℕ → Levels → ℕ
with_part p a v = if is_left p then (if a == 0 then v.nest else left_part a v.mark v.nest) else if is_arms p then arm_part a v.mark v.nest else max a v.nest

abbrev pub with_parts : Production → ℕ → List Levels → ℕ
with_parts p a [] = a
with_parts p a (v ∷ vs) = with_parts p (with_part p a v) vs

-- a level of its own, a form without content, which counts as `()` there, and parts that count alone
abbrev pub whole_nest : Production → ℕ → ℕ
whole_nest expr_list a = 1 + a
whole_nest if_expr a = 1 + a
whole_nest else_expr a = 1 + a
whole_nest flwor_expr a = 1 + a
whole_nest quantified_expr a = 1 + a
whole_nest (operator_chain l) a = if is_left_level l then a else 1 + a
whole_nest signed a = 1 + a
whole_nest rooted a = max 1 a
whole_nest axis_step a = 1 + a
whole_nest attribute_step a = 1 + a
whole_nest test_step a = 1 + a
whole_nest parent_step a = 1 + a
whole_nest filter_step a = 1 + a
whole_nest number a = 1 + a
whole_nest literal a = 1 + a
whole_nest variable a = 1 + a
whole_nest parens a = max 1 a
whole_nest context a = 1 + a
whole_nest call a = 1 + a
whole_nest computed a = 1 + a
whole_nest constructed a = 1 + max 1 a
whole_nest pi_constructed a = 1 + max 1 a
whole_nest enclosing a = 1 + a
whole_nest direct_element a = 1 + a
whole_nest child_element a = 1 + a
whole_nest _ a = a

abbrev pub levels_step : Raw-F Levels → Levels
levels_step (Leaf t) = record { nest = 0; mark = plain }
levels_step (Node p vs) = record { nest = whole_nest p (with_parts p (before_parts p) vs); mark = mark_of p }

unfoldable pub levels_of : Raw → Levels
levels_of = fold-Raw Levels levels_step

-- the nest of the expression that the value means; of a part that is no expression the greatest in it
abbrev pub raw_nest_of : Raw → ℕ
raw_nest_of v = (levels_of v).nest
