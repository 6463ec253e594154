-- The parts of the steps of a pattern. An axis and a test have no level, so what nests of them are
-- the predicates.
use Rattle.std.specs.Prelude.{ℕ, List, [], ◌∷◌, ◌++◌, map}
use Rattle.expr_terms.specs.declared.raws.Raw.{Raw}
use Rattle.expr_terms.specs.declared.raws.Raw.TheViews.{out-Raw}
use Rattle.expr_terms.specs.declared.raws.Raw.TheOpen.{Raw-F, Leaf, Node}
use Rattle.expr_terms.specs.Nest.{raw_nest_of}
use Rattle.expr_grammar.specs.ExprNest.Measures.{greatest}
use Rattle.pattern_forms.specs.PatternShapes.Shapes.{inner_step}
use Rattle.pattern_syntax.specs.Parts.{barless, alternatives, steps_in}

abbrev pub parts_in : Raw-F Raw → List Raw
parts_in (Leaf t) = []
parts_in (Node p vs) = vs

abbrev pub step_parts : Raw → List Raw
step_parts v = parts_in (out-Raw (inner_step v))

abbrev pub steps_parts : List Raw → List Raw
steps_parts [] = []
steps_parts (v ∷ vs) = step_parts v ++ steps_parts vs

abbrev pub alternatives_parts : List Raw → List Raw
alternatives_parts [] = []
alternatives_parts (v ∷ vs) = steps_parts (steps_in (barless v)) ++ alternatives_parts vs

abbrev pub pattern_parts : Raw → List Raw
pattern_parts v = alternatives_parts (alternatives v)

-- how deep the deepest of them nests
abbrev pub deepest : List Raw → ℕ
deepest vs = greatest (map raw_nest_of vs)
