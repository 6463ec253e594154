-- The expressions that stand right within an expression.
use Rattle.std.specs.Prelude.{List, [], ◌∷◌, ◌++◌, Option, Some, None}
use Rattle.xt_syntax.specs.declared.exprs.Expr.{Expr}
use Rattle.xt_syntax.specs.declared.exprs.Arm.{Arm}
use Rattle.xt_syntax.specs.declared.exprs.Clause.{Clause}
use Rattle.xt_syntax.specs.declared.exprs.Order.{Order}
use Rattle.xt_syntax.specs.declared.exprs.Flwor.{Flwor as FlworOf}
use Rattle.xt_syntax.specs.declared.exprs.Bind.{Bind}
use Rattle.xt_syntax.specs.declared.exprs.NameSource.{NameSource}
use Rattle.xt_syntax.specs.declared.exprs.DirectAttr.{DirectAttr}
use Rattle.xt_syntax.specs.declared.exprs.Part.{Part}
use Rattle.xt_syntax.specs.declared.exprs.Clause.TheViews.{out-Expr, out-Arm, out-Clause, out-Order, out-Flwor, out-Bind, out-NameSource, out-DirectAttr, out-Part}
use Rattle.xt_syntax.specs.declared.exprs.Clause.TheOpen.{Expr-F, Clause-F, NameSource-F, Part-F, Int, Str, Var, Context, Root, Comma, Or, And, If, Flwor, Quant, General, Value, Is, Before, After, Range, Arith, Minus, Plus, Union, Intersect, Except, InstanceOf, Treat, Castable, Cast, Slash, Step, Filter, Call, ElemC, AttrC, DocC, TextC, CommentC, PiC, Direct, For, Let, Fixed, Computed, Chars, Enclosed, Child}

abbrev pub of_all : {A : Type 0} → (A → List Expr) → List A → List Expr
of_all of [] = []
of_all of (x ∷ xs) = of x ++ of_all of xs

abbrev pub arm_parts : Arm → List Expr
arm_parts a = (out-Arm a).test ∷ (out-Arm a).then ∷ []

abbrev pub bind_parts : Bind → List Expr
bind_parts b = (out-Bind b).source ∷ []

abbrev pub clause_form_parts : Clause-F Clause Expr NameSource Part Arm Bind DirectAttr FlworOf Order → List Expr
clause_form_parts (For bind place) = bind_parts bind
clause_form_parts (Let bind) = bind_parts bind

abbrev pub clause_parts : Clause → List Expr
clause_parts c = clause_form_parts (out-Clause c)

abbrev pub order_parts : Order → List Expr
order_parts o = (out-Order o).key ∷ []

abbrev pub name_form_parts : NameSource-F Clause Expr NameSource Part Arm Bind DirectAttr FlworOf Order → List Expr
name_form_parts (Fixed name) = []
name_form_parts (Computed e) = e ∷ []

abbrev pub name_parts : NameSource → List Expr
name_parts n = name_form_parts (out-NameSource n)

abbrev pub part_form_parts : Part-F Clause Expr NameSource Part Arm Bind DirectAttr FlworOf Order → List Expr
part_form_parts (Chars text) = []
part_form_parts (Enclosed e) = e ∷ []
part_form_parts (Child e) = e ∷ []

abbrev pub part_parts : Part → List Expr
part_parts p = part_form_parts (out-Part p)

abbrev pub attr_parts : DirectAttr → List Expr
attr_parts a = of_all part_parts (out-DirectAttr a).parts

abbrev pub test_parts : Option Expr → List Expr
test_parts None = []
test_parts (Some e) = e ∷ []

abbrev pub flwor_parts : FlworOf → List Expr
flwor_parts f =
    of_all clause_parts (out-Flwor f).clauses ++ (test_parts (out-Flwor f).test ++ (of_all order_parts (out-Flwor f).orders ++ (out-Flwor f).body ∷ []))

abbrev pub form_parts : Expr-F Clause Expr NameSource Part Arm Bind DirectAttr FlworOf Order → List Expr
form_parts (Int n) = []
form_parts (Str text) = []
form_parts (Var name) = []
form_parts Context = []
form_parts Root = []
form_parts (Comma all) = all
form_parts (Or all) = all
form_parts (And all) = all
form_parts (If arms other) = of_all arm_parts arms ++ other ∷ []
form_parts (Flwor parts) = flwor_parts parts
form_parts (Quant every binds test) = of_all bind_parts binds ++ test ∷ []
form_parts (General op a b) = a ∷ b ∷ []
form_parts (Value op a b) = a ∷ b ∷ []
form_parts (Is a b) = a ∷ b ∷ []
form_parts (Before a b) = a ∷ b ∷ []
form_parts (After a b) = a ∷ b ∷ []
form_parts (Range a b) = a ∷ b ∷ []
form_parts (Arith op a b) = a ∷ b ∷ []
form_parts (Minus a) = a ∷ []
form_parts (Plus a) = a ∷ []
form_parts (Union a b) = a ∷ b ∷ []
form_parts (Intersect a b) = a ∷ b ∷ []
form_parts (Except a b) = a ∷ b ∷ []
form_parts (InstanceOf a kind) = a ∷ []
form_parts (Treat a kind) = a ∷ []
form_parts (Castable a kind empty) = a ∷ []
form_parts (Cast a kind empty) = a ∷ []
form_parts (Slash a b) = a ∷ b ∷ []
form_parts (Step axis node_test tests) = tests
form_parts (Filter of tests) = of ∷ tests
form_parts (Call name args) = args
form_parts (ElemC name content) = name_parts name ++ content ∷ []
form_parts (AttrC name content) = name_parts name ++ content ∷ []
form_parts (DocC content) = content ∷ []
form_parts (TextC content) = content ∷ []
form_parts (CommentC content) = content ∷ []
form_parts (PiC name content) = name_parts name ++ content ∷ []
form_parts (Direct name attrs parts) = of_all attr_parts attrs ++ of_all part_parts parts

-- the operands, arguments, predicates, sources, keys and content, in their order
abbrev pub parts_of : Expr → List Expr
parts_of e = form_parts (out-Expr e)
