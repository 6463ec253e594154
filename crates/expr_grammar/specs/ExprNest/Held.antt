-- The nest of the parts that a production has so far, and of its value.
use Rattle.std.specs.Prelude.{ℕ, ◌+◌, max, map, Bool, true, false, List, [], ◌∷◌, if◌then◌else◌, ◌&&◌}
use Rattle.expr_grammar.specs.ExprNest.Terms.{Production}
use Rattle.expr_grammar.specs.ExprNest.RawNames.{Raw}
use Rattle.expr_terms.specs.Productions.{passes}
use Rattle.expr_terms.specs.Raws.{is_parens, is_otherwise, is_conditional, only_inner}
use Rattle.expr_terms.specs.Nest.{levels_of, before_parts, with_parts, whole_nest}

-- the parts so far
abbrev pub held : Production → List Raw → ℕ
held p vs = with_parts p (before_parts p) (map levels_of vs)

abbrev pub is_alone : List Raw → Bool
is_alone [] = false
is_alone (v ∷ []) = true
is_alone (v ∷ w ∷ vs) = false

-- the value of the production, whose parts count `a` together
abbrev pub built_nest : Production → ℕ → List Raw → ℕ
built_nest p a vs = if is_parens p then max 1 a else if is_otherwise p then (if only_inner vs then a else 1 + a) else if is_conditional p then 1 + a else if is_alone vs && passes p then a else whole_nest p a
