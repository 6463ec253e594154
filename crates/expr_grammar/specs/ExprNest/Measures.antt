-- How deep a value nests within the predicates of its steps, and what of it counts.
use Rattle.std.specs.Prelude.{ℕ, max, map, Bool, true, false, ◌&&◌, List, [], ◌∷◌, if◌then◌else◌}
use Rattle.expr_terms.specs.declared.raws.Raw.TheFolds.{fold-Raw}
use Rattle.expr_terms.specs.declared.raws.Raw.TheOpen.{Raw-F, Leaf, Node}
use Rattle.expr_terms.specs.Productions.{passes}
use Rattle.expr_terms.specs.Nest.{Levels, levels_step, raw_nest_of, before_parts, with_parts}
use Rattle.expr_terms.specs.Nest.{whole_nest}
use Rattle.expr_grammar.specs.ExprNest.Terms.{Level, union_level, Production, operator_chain, operator_tail, rooted, rooted_deep}
use Rattle.expr_grammar.specs.ExprNest.Terms.{root_steps, steps, step_after, deep_after, axis_step}
use Rattle.expr_grammar.specs.ExprNest.Terms.{attribute_step, test_step}
use Rattle.expr_grammar.specs.ExprNest.RawNames.{Raw}
use Rattle.expr_grammar.specs.ExprNest.Held.{held, is_alone}
use Rattle.expr_grammar.specs.declared.expr_nest.measures.Measure.{Measure}
use Rattle.expr_grammar.specs.declared.expr_nest.measures.Measure.TheVariants.{Whole, Predicates}

-- a step: its axis and its test have no level, so all that counts of it are its predicates
abbrev pub is_step : Production → Bool
is_step axis_step = true
is_step attribute_step = true
is_step test_step = true
is_step _ = false

abbrev pub is_unions : Level → Bool
is_unions union_level = true
is_unions _ = false

-- alternatives, and paths of steps
abbrev pub is_outside : Production → Bool
is_outside (operator_chain l) = is_unions l
is_outside (operator_tail l) = true
is_outside rooted = true
is_outside rooted_deep = true
is_outside root_steps = true
is_outside steps = true
is_outside step_after = true
is_outside deep_after = true
is_outside _ = false

-- all levels, and those within predicates
pub record Depths : Type 0 where
  pub whole : Levels
  pub within : ℕ

abbrev pub greatest : List ℕ → ℕ
greatest [] = 0
greatest (n ∷ ns) = max n (greatest ns)

abbrev pub wholes : List Depths → List Levels
wholes ds = map (λ d. d.whole) ds

abbrev pub withins : List Depths → List ℕ
withins ds = map (λ d. d.within) ds

-- of a production whose parts have `a` levels together, and at most `b` within predicates; any
-- other form than steps and what they stand in counts as a whole
abbrev pub within_of : Production → ℕ → ℕ → ℕ
within_of p a b = if is_step p then a else if is_outside p then b else whole_nest p a

abbrev pub depths_step : Raw-F Depths → Depths
depths_step (Leaf t) = record { whole = levels_step (Leaf t); within = 0 }
depths_step (Node p ds) = record {
  whole = levels_step (Node p (wholes ds));
  within = within_of p (with_parts p (before_parts p) (wholes ds)) (greatest (withins ds));
}

unfoldable pub depths_of : Raw → Depths
depths_of = fold-Raw Depths depths_step

-- the levels within predicates
abbrev pub predicate_nest_of : Raw → ℕ
predicate_nest_of v = (depths_of v).within

-- the greatest of the parts
abbrev pub widest : List Raw → ℕ
widest vs = greatest (map predicate_nest_of vs)

-- what counts of a production that has parts of `a` levels, with at most `b` within predicates
abbrev pub counted : Measure → Production → ℕ → ℕ → Bool → ℕ
counted Whole p a b alone = a
counted Predicates p a b alone =
    if is_step p then a else if is_outside p then b else if alone && passes p then b else a

abbrev pub held_by : Measure → Production → List Raw → ℕ
held_by m p vs = counted m p (held p vs) (widest vs) (is_alone vs)

-- .. and of its value, which has `n` levels
abbrev pub built_within : Production → ℕ → ℕ → ℕ → Bool → ℕ
built_within p a b n alone =
    if is_step p then a else if is_outside p then b else if alone && passes p then b else n

abbrev pub nest_by : Measure → Raw → ℕ
nest_by Whole v = raw_nest_of v
nest_by Predicates v = predicate_nest_of v
