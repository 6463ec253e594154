-- Where expressions of stylesheets may stand: they nest at most 40 levels, and each call in them of a
-- function that stylesheets alone have is one that may be there (XSLT 2.0, 14.1, 16.3 and 16.6).
use Rattle.std.specs.Prelude.{ℕ, List, [], Bool, true, ◌&&◌, nat_le, Option, is_some}
use Rattle.std.specs.List.{list_all}
use Rattle.xt_forms.specs.Nest.{nest_of}
use Rattle.xt_syntax.specs.declared.exprs.Expr.{Expr}
use Rattle.sheet_expressions.specs.declared.calls.SheetCall.{SheetCall}
use Rattle.sheet_expressions.specs.declared.calls.SheetCall.TheVariants as call
use Rattle.sheet_expressions.specs.Calls.{sheet_call}
use Rattle.sheet_uses.specs.declared.uses.Use.{Use}
use Rattle.sheet_uses.specs.declared.uses.Use.TheVariants as use_of
use Rattle.sheet_uses.specs.Exprs.{expr_uses}

-- A call of which this is asked, whose first argument may be a literal, within an xsl:for-each-group
-- or outside of one. Whether there is such a function is told elsewhere.
unfoldable pub may_stand : Bool → SheetCall → Option (List ℕ) → Bool
may_stand grouped call.Plain literal = true
may_stand grouped call.LeftOut literal = true
may_stand grouped call.InGroup literal = grouped
may_stand grouped call.Key literal = is_some literal

unfoldable pub use_stands : Bool → Use → Bool
use_stands grouped (use_of.Call name arity literal) =
    may_stand grouped (sheet_call name arity) literal
use_stands grouped (use_of.Variable name) = true
use_stands grouped (use_of.Template number passed) = true
use_stands grouped (use_of.Apply mode) = true

-- each call in the expression may be there
abbrev pub calls_stand : Bool → Expr → Bool
calls_stand grouped e = list_all (use_stands grouped) ((expr_uses e).finds [] [])

unfoldable pub expr_stands : Bool → Expr → Bool
expr_stands grouped e = nat_le (nest_of e) 40 && calls_stand grouped e
