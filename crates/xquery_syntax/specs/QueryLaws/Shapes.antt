-- Queries whose direct elements end alike (XQuery 1.0, 3.7.1).
use Rattle.std.specs.Prelude.{Bool, true, ◌&&◌, Option, Some, None}
use Rattle.std.specs.List.{list_all}
use Rattle.expr_terms.specs.declared.raws.Raw.{Raw}
use Rattle.expr_rules.specs.ExprShapes.Shapes.{is_shaped}
use Rattle.query_grammar.specs.declared.declared.Declared.{Declared}
use Rattle.query_grammar.specs.declared.declared.Declared.TheVariants as declared
use Rattle.query_grammar.specs.declared.declared.RawQuery.{RawQuery}

unfoldable pub is_shaped_value : Option Raw → Bool
is_shaped_value None = true
is_shaped_value (Some value) = is_shaped value

unfoldable pub is_shaped_in : Declared → Bool
is_shaped_in (declared.Variable v value) = is_shaped_value value
is_shaped_in (declared.Function name params kind body) = is_shaped body
is_shaped_in _ = true

-- in each direct element the end tag repeats the name, and no attribute is `xmlns`
abbrev pub is_shaped_query : RawQuery → Bool
is_shaped_query q = list_all is_shaped_in q.declared && is_shaped q.body
