-- Stylesheets whose expressions, types and patterns are regular and nest so far at most, and queries
-- whose expressions are regular and nest at most 400 levels.
use Rattle.std.specs.Prelude.{map, List, Bool, true, ◌&&◌, nat_le, Option, Some, None}
use Rattle.std.specs.List.{list_all}
use Rattle.xt_forms.specs.Nest.{nest_of}
use Rattle.xt_forms.specs.Regular.{every, is_regular_expr}
use Rattle.xt_syntax.specs.declared.exprs.Expr.{Expr}
use Rattle.xt_syntax.specs.declared.patterns.Pattern.{Pattern}
use Rattle.xt_syntax.specs.declared.queries.Query.{Query}
use Rattle.xt_sheets.specs.declared.instrs.Bound.{Bound}
use Rattle.xt_sheets.specs.declared.instrs.Instr.{Instr}
use Rattle.xt_sheets.specs.declared.sheets.KeyRule.{KeyRule}
use Rattle.xt_sheets.specs.declared.sheets.Sheet.{Sheet}
use Rattle.translated_forms.specs.Leaves.{is_leaf, bound_has_leaves, body_has_leaves}

-- the patterns are those of which a test says so
module _ (tested : Pattern → Bool) where
  abbrev pub callee_has_leaves : List (Bound Expr Pattern) → List (Instr Expr Pattern) → Bool
  callee_has_leaves params body =
      every (map (bound_has_leaves tested) params) && body_has_leaves tested body

  abbrev pub key_has_leaves : KeyRule → Bool
  key_has_leaves k = tested k.pattern && is_leaf k.key

  unfoldable pub sheet_has_leaves : Sheet → Bool
  sheet_has_leaves s =
      list_all (λ g. bound_has_leaves tested g.bound) s.globals
      && (list_all (λ t. callee_has_leaves t.params t.body) s.templates
      && (list_all (λ r. tested r.pattern) s.rules
      && (list_all (λ f. callee_has_leaves f.params f.body) s.functions
      && list_all key_has_leaves s.keys)))

-- an expression of a query
unfoldable pub keeps_limit : Expr → Bool
keeps_limit e = nat_le (nest_of e) 400 && is_regular_expr e

unfoldable pub value_keeps_limit : Option Expr → Bool
value_keeps_limit None = true
value_keeps_limit (Some e) = keeps_limit e

unfoldable pub keeps_limits : Query → Bool
keeps_limits q =
    list_all (λ v. value_keeps_limit v.value) q.variables
    && (list_all (λ f. keeps_limit f.body) q.functions && keeps_limit q.body)
