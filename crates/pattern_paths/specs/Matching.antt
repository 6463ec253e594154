-- Whether a pattern matches the node that `$x:item` holds (XSLT 2.0, 5.5.3), as an expression of a
-- query.
use Rattle.std.specs.Prelude.{ℕ, List, [], ◌∷◌, map, length, reverse, Bool, true, false, ◌||◌}
use Rattle.std.specs.Prelude.{nat_le}
use Rattle.std.specs.Prelude.{if◌then◌else◌, codes, None}
use Rattle.xt_types.specs.declared.axes.Axis.TheVariants as axis
use Rattle.xt_syntax.specs.declared.exprs.Expr.{Expr}
use Rattle.xt_syntax.specs.declared.exprs.Bind.{Bind}
use Rattle.xt_syntax.specs.declared.exprs.Clause.TheViews.{roll-Expr, roll-Bind}
use Rattle.xt_syntax.specs.declared.exprs.Clause.TheOpen.{Or, Quant, Slash}
use Rattle.xt_syntax.specs.declared.patterns.Pattern.{Pattern}
use Rattle.xt_syntax.specs.declared.patterns.PatternStep.{PatternStep}
use Rattle.carried_exprs.specs.Sights.{item_name, the_item, library_call}
use Rattle.pattern_paths.specs.Upwards.{upward_from, never}

-- `a/b/c`
abbrev pub path_along : Expr → List Expr → Expr
path_along a [] = a
path_along a (e ∷ more) = path_along (roll-Expr (Slash a e)) more

-- `$x:item in $x:item/b`
abbrev pub bound_step : Expr → Bind
bound_step e = roll-Bind (record {
  var = item_name;
  kind = None;
  source = roll-Expr
      (Slash the_item e);
})

-- `some $x:item in $x:item/b, $x:item in $x:item/c satisfies true()`
abbrev pub some_along : List Expr → Expr
some_along steps = roll-Expr (Quant false (map bound_step steps) (library_call (codes "true") []))

-- a path of many steps nests as deep as it has steps, and bindings do not nest
abbrev pub longest_path : ℕ
longest_path = 8

abbrev pub from_item : List Expr → Expr
from_item steps = if nat_le (length steps) longest_path then path_along the_item steps else
    some_along steps

-- true where the pattern matches: the path is empty where it does not
abbrev pub match_test : Pattern → Expr
match_test p = from_item (upward_from p.rooted axis.Itself (reverse p.steps))

-- .. of some alternative
abbrev pub any_match_test : List Pattern → Expr
any_match_test [] = never
any_match_test (p ∷ []) = match_test p
any_match_test (p ∷ q ∷ more) = roll-Expr (Or (match_test p ∷ match_test q ∷ map match_test more))

-- a pattern has a step, or begins with `/`
abbrev pub has_step : List PatternStep → Bool
has_step [] = false
has_step (s ∷ more) = true

abbrev pub is_whole_pattern : Pattern → Bool
is_whole_pattern p = p.rooted || has_step p.steps
