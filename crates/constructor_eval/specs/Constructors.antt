-- Which expressions make nodes.
use Rattle.std.specs.Prelude.{Bool, true, false}
use Rattle.xt_syntax.specs.declared.exprs.Expr.{Expr}
use Rattle.xt_syntax.specs.declared.exprs.Clause.{Clause}
use Rattle.xt_syntax.specs.declared.exprs.NameSource.{NameSource}
use Rattle.xt_syntax.specs.declared.exprs.Part.{Part}
use Rattle.xt_syntax.specs.declared.exprs.Arm.{Arm}
use Rattle.xt_syntax.specs.declared.exprs.Bind.{Bind}
use Rattle.xt_syntax.specs.declared.exprs.DirectAttr.{DirectAttr}
use Rattle.xt_syntax.specs.declared.exprs.Flwor.{Flwor}
use Rattle.xt_syntax.specs.declared.exprs.Order.{Order}
use Rattle.xt_syntax.specs.declared.exprs.Clause.TheViews.{out-Expr}
use Rattle.xt_syntax.specs.declared.exprs.Clause.TheOpen.{Expr-F, ElemC, AttrC, DocC, TextC}
use Rattle.xt_syntax.specs.declared.exprs.Clause.TheOpen.{CommentC, PiC, Direct}

abbrev pub computes : Expr-F Clause Expr NameSource Part Arm Bind DirectAttr Flwor Order → Bool
computes (ElemC name content) = true
computes (AttrC name content) = true
computes (DocC content) = true
computes (TextC content) = true
computes (CommentC content) = true
computes (PiC name content) = true
computes x = false

-- computed constructors (XQuery 1.0, 3.7.3)
abbrev pub is_computed : Expr → Bool
is_computed e = computes (out-Expr e)

abbrev pub writes : Expr-F Clause Expr NameSource Part Arm Bind DirectAttr Flwor Order → Bool
writes (Direct name attributes parts) = true
writes x = false

-- direct elements (XQuery 1.0, 3.7.1)
abbrev pub is_direct : Expr → Bool
is_direct e = writes (out-Expr e)
