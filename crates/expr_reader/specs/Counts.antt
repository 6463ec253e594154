-- How a part counts with those before it.
use Rattle.std.specs.Prelude.{◌≡◌, ℕ, min, Bool, true, false}
use Rattle.expr_terms.specs.Nest.{Mark, deep, last}
use Rattle.expr_grammar.specs.declared.expr_nest.measures.Measure.{Measure}
use Rattle.expr_grammar.specs.declared.expr_nest.measures.Measure.TheVariants.{Whole, Predicates}

abbrev pub is_deep : Mark → Bool
is_deep deep = true
is_deep _ = false

abbrev pub is_last : Mark → Bool
is_last last = true
is_last _ = false

-- Outside of predicates any number of levels may stand, and counts past every limit are the same.
abbrev pub SameCount : ℕ → ℕ → Type 0
SameCount a b = min 65600 a ≡ min 65600 b

-- what counts of a value with `a` levels, and `b` within predicates
abbrev pub chosen : Measure → ℕ → ℕ → ℕ
chosen Whole a b = a
chosen Predicates a b = b
