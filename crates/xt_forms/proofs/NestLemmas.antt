-- An expression nests one level more than its parts.
use Rattle.std.proofs.Common.{◌≡◌, ℕ, ◌+◌, max, List, [], ◌∷◌, ◌++◌, map, refl, ap, ap₂, sym, ◌∙◌, arith}
use Rattle.std.specs.Prelude.{Option, Some, None}
use Rattle.xt_forms.specs.Nest.{if_any, nests, expr_nest, clause_nest, name_nest, part_nest, flwor_nest, nest_of, arm_nest_of, bind_nest_of, clause_nest_of, order_nest_of, name_nest_of, part_nest_of, attr_nest_of, flwor_nest_of}
use Rattle.xt_forms.specs.Parts.{of_all, arm_parts, bind_parts, clause_form_parts, clause_parts, order_parts, name_form_parts, name_parts, part_form_parts, part_parts, attr_parts, test_parts, flwor_parts, form_parts, parts_of}
use Rattle.xt_syntax.specs.Layers.{ExprLayer, ClauseLayer, NameLayer, PartLayer, FlworLayer}
use Rattle.xt_syntax.specs.declared.exprs.Expr.{Expr}
use Rattle.xt_syntax.specs.declared.exprs.Arm.{Arm}
use Rattle.xt_syntax.specs.declared.exprs.Clause.{Clause}
use Rattle.xt_syntax.specs.declared.exprs.Order.{Order}
use Rattle.xt_syntax.specs.declared.exprs.Flwor.{Flwor as FlworOf}
use Rattle.xt_syntax.specs.declared.exprs.Bind.{Bind}
use Rattle.xt_syntax.specs.declared.exprs.NameSource.{NameSource}
use Rattle.xt_syntax.specs.declared.exprs.DirectAttr.{DirectAttr}
use Rattle.xt_syntax.specs.declared.exprs.Part.{Part}
use Rattle.xt_syntax.specs.declared.exprs.Clause.TheViews.{out-Expr, out-Arm, out-Clause, out-Order, out-Flwor, out-Bind, out-NameSource, out-DirectAttr, out-Part}
use Rattle.xt_syntax.specs.declared.exprs.Clause.TheFolds.{map-Expr, map-Clause, map-NameSource, map-Part, map-Flwor, fold_out-Expr, fold_out-Arm, fold_out-Clause, fold_out-Order, fold_out-Flwor, fold_out-Bind, fold_out-NameSource, fold_out-DirectAttr, fold_out-Part}
use Rattle.xt_syntax.specs.declared.exprs.Clause.TheOpen.{Expr-F, Clause-F, NameSource-F, Part-F, Flwor-F, Int, Str, Var, Context, Root, Comma, Or, And, If, Flwor, Quant, General, Value, Is, Before, After, Range, Arith, Minus, Plus, Union, Intersect, Except, InstanceOf, Treat, Castable, Cast, Slash, Step, Filter, Call, ElemC, AttrC, DocC, TextC, CommentC, PiC, Direct, For, Let, Fixed, Computed, Chars, Enclosed, Child}
use Rattle.xt_names.specs.Lists.{greatest}

abbrev pub most : List Expr → ℕ
most es = greatest (map nest_of es)

-- a form with the nesting of each part in its place
abbrev nested : Expr-F Clause Expr NameSource Part Arm Bind DirectAttr FlworOf Order → ExprLayer nests
nested = map-Expr Clause Expr NameSource Part Arm Bind DirectAttr FlworOf Order ℕ ℕ ℕ ℕ ℕ ℕ ℕ ℕ ℕ clause_nest_of nest_of name_nest_of part_nest_of arm_nest_of bind_nest_of attr_nest_of flwor_nest_of order_nest_of

abbrev nested_clause : Clause-F Clause Expr NameSource Part Arm Bind DirectAttr FlworOf Order → ClauseLayer nests
nested_clause = map-Clause Clause Expr NameSource Part Arm Bind DirectAttr FlworOf Order ℕ ℕ ℕ ℕ ℕ ℕ ℕ ℕ ℕ clause_nest_of nest_of name_nest_of part_nest_of arm_nest_of bind_nest_of attr_nest_of flwor_nest_of order_nest_of

abbrev nested_name : NameSource-F Clause Expr NameSource Part Arm Bind DirectAttr FlworOf Order → NameLayer nests
nested_name = map-NameSource Clause Expr NameSource Part Arm Bind DirectAttr FlworOf Order ℕ ℕ ℕ ℕ ℕ ℕ ℕ ℕ ℕ clause_nest_of nest_of name_nest_of part_nest_of arm_nest_of bind_nest_of attr_nest_of flwor_nest_of order_nest_of

abbrev nested_part : Part-F Clause Expr NameSource Part Arm Bind DirectAttr FlworOf Order → PartLayer nests
nested_part = map-Part Clause Expr NameSource Part Arm Bind DirectAttr FlworOf Order ℕ ℕ ℕ ℕ ℕ ℕ ℕ ℕ ℕ clause_nest_of nest_of name_nest_of part_nest_of arm_nest_of bind_nest_of attr_nest_of flwor_nest_of order_nest_of

abbrev nested_flwor : Flwor-F Clause Expr NameSource Part Arm Bind DirectAttr FlworOf Order → FlworLayer nests
nested_flwor = map-Flwor Clause Expr NameSource Part Arm Bind DirectAttr FlworOf Order ℕ ℕ ℕ ℕ ℕ ℕ ℕ ℕ ℕ clause_nest_of nest_of name_nest_of part_nest_of arm_nest_of bind_nest_of attr_nest_of flwor_nest_of order_nest_of

max-zero : (n : ℕ) → max n 0 ≡ n
max-zero n = grind arith

max-assoc : (a b c : ℕ) → max (max a b) c ≡ max a (max b c)
max-assoc a b c = grind arith

two-is : (a b : Expr) → max (nest_of a) (nest_of b) ≡ most (a ∷ b ∷ [])
two-is a b = ap (max (nest_of a)) (sym (max-zero (nest_of b)))

one-is : (e : Expr) → nest_of e ≡ most (e ∷ [])
one-is e = sym (max-zero (nest_of e))

most-append : (xs ys : List Expr) → most (xs ++ ys) ≡ max (most xs) (most ys)
most-append [] ys = grind arith
most-append (x ∷ xs) ys = ap (max (nest_of x)) (most-append xs ys) ∙ sym (max-assoc (nest_of x) (most xs) (most ys))

joined-is : (xs : List Expr) (e : Expr) (n : ℕ) → n ≡ most xs → max n (nest_of e) ≡ most (xs ++ e ∷ [])
joined-is xs e n h = ap₂ max h (one-is e) ∙ sym (most-append xs (e ∷ []))

all-is : {A : Type 0} (of : A → List Expr) (n : A → ℕ) → ((a : A) → n a ≡ most (of a)) → (xs : List A) → greatest (map n xs) ≡ most (of_all of xs)
all-is of n h [] = refl
all-is of n h (x ∷ xs) = ap₂ max (h x) (all-is of n h xs) ∙ sym (most-append (of x) (of_all of xs))

arm-is : (a : Arm) → arm_nest_of a ≡ most (arm_parts a)
arm-is a =
    let p : arm_nest_of a ≡ max (nest_of (out-Arm a).test) (nest_of (out-Arm a).then) = fold_out-Arm _ _ _ _ _ _ _ _ _ _ _ _ _ _ _ _ _ _ a in
    p ∙ two-is (out-Arm a).test (out-Arm a).then

bind-is : (b : Bind) → bind_nest_of b ≡ most (bind_parts b)
bind-is b =
    let p : bind_nest_of b ≡ nest_of (out-Bind b).source = fold_out-Bind _ _ _ _ _ _ _ _ _ _ _ _ _ _ _ _ _ _ b in
    p ∙ one-is (out-Bind b).source

order-is : (o : Order) → order_nest_of o ≡ most (order_parts o)
order-is o =
    let p : order_nest_of o ≡ nest_of (out-Order o).key = fold_out-Order _ _ _ _ _ _ _ _ _ _ _ _ _ _ _ _ _ _ o in
    p ∙ one-is (out-Order o).key

clause-form-is : (x : Clause-F Clause Expr NameSource Part Arm Bind DirectAttr FlworOf Order) → clause_nest (nested_clause x) ≡ most (clause_form_parts x)
clause-form-is (For bind place) = bind-is bind
clause-form-is (Let bind) = bind-is bind

clause-is : (c : Clause) → clause_nest_of c ≡ most (clause_parts c)
clause-is c =
    let p : clause_nest_of c ≡ clause_nest (nested_clause (out-Clause c)) = fold_out-Clause _ _ _ _ _ _ _ _ _ _ _ _ _ _ _ _ _ _ c in
    p ∙ clause-form-is (out-Clause c)

name-form-is : (x : NameSource-F Clause Expr NameSource Part Arm Bind DirectAttr FlworOf Order) → name_nest (nested_name x) ≡ most (name_form_parts x)
name-form-is (Fixed name) = refl
name-form-is (Computed e) = one-is e

name-is : (n : NameSource) → name_nest_of n ≡ most (name_parts n)
name-is n =
    let p : name_nest_of n ≡ name_nest (nested_name (out-NameSource n)) = fold_out-NameSource _ _ _ _ _ _ _ _ _ _ _ _ _ _ _ _ _ _ n in
    p ∙ name-form-is (out-NameSource n)

part-form-is : (x : Part-F Clause Expr NameSource Part Arm Bind DirectAttr FlworOf Order) → part_nest (nested_part x) ≡ most (part_form_parts x)
part-form-is (Chars text) = refl
part-form-is (Enclosed e) = one-is e
part-form-is (Child e) = one-is e

part-is : (q : Part) → part_nest_of q ≡ most (part_parts q)
part-is q =
    let p : part_nest_of q ≡ part_nest (nested_part (out-Part q)) = fold_out-Part _ _ _ _ _ _ _ _ _ _ _ _ _ _ _ _ _ _ q in
    p ∙ part-form-is (out-Part q)

attr-is : (a : DirectAttr) → attr_nest_of a ≡ most (attr_parts a)
attr-is a =
    let p : attr_nest_of a ≡ greatest (map part_nest_of (out-DirectAttr a).parts) = fold_out-DirectAttr _ _ _ _ _ _ _ _ _ _ _ _ _ _ _ _ _ _ a in
    p ∙ all-is part_parts part_nest_of part-is (out-DirectAttr a).parts

test-at : (x : Flwor-F Clause Expr NameSource Part Arm Bind DirectAttr FlworOf Order) (t : Option Expr) → if_any (nested_flwor (record x { test = t })).test ≡ most (test_parts t)
test-at x None = refl
test-at x (Some e) = one-is e

flwor-is : (f : FlworOf) → flwor_nest_of f ≡ most (flwor_parts f)
flwor-is f =
    let x = out-Flwor f in
    let p : flwor_nest_of f ≡ flwor_nest (nested_flwor x) = fold_out-Flwor _ _ _ _ _ _ _ _ _ _ _ _ _ _ _ _ _ _ f in
    let clauses = of_all clause_parts x.clauses in
    let orders = of_all order_parts x.orders in
    let body = x.body ∷ [] in
    let q = joined-is orders x.body (greatest (map order_nest_of x.orders)) (all-is order_parts order_nest_of order-is x.orders) in
    let r = ap₂ max (test-at x x.test) q ∙ sym (most-append (test_parts x.test) (orders ++ body)) in
    p ∙ ap₂ max (all-is clause_parts clause_nest_of clause-is x.clauses) r ∙ sym (most-append clauses (test_parts x.test ++ (orders ++ body)))

one-more : (m n : ℕ) → m ≡ n → 1 + m ≡ 1 + n
one-more m n h = ap (λ k. 1 + k) h

form-is : (x : Expr-F Clause Expr NameSource Part Arm Bind DirectAttr FlworOf Order) → expr_nest (nested x) ≡ 1 + most (form_parts x)
form-is (Int n) = refl
form-is (Str text) = refl
form-is (Var name) = refl
form-is Context = refl
form-is Root = refl
form-is (Comma all) = refl
form-is (Or all) = refl
form-is (And all) = refl
form-is (If arms other) = one-more _ _ (joined-is (of_all arm_parts arms) other _ (all-is arm_parts arm_nest_of arm-is arms))
form-is (Flwor parts) = one-more _ _ (flwor-is parts)
form-is (Quant every binds test) = one-more _ _ (joined-is (of_all bind_parts binds) test _ (all-is bind_parts bind_nest_of bind-is binds))
form-is (General op a b) = one-more _ _ (two-is a b)
form-is (Value op a b) = one-more _ _ (two-is a b)
form-is (Is a b) = one-more _ _ (two-is a b)
form-is (Before a b) = one-more _ _ (two-is a b)
form-is (After a b) = one-more _ _ (two-is a b)
form-is (Range a b) = one-more _ _ (two-is a b)
form-is (Arith op a b) = one-more _ _ (two-is a b)
form-is (Minus a) = one-more _ _ (one-is a)
form-is (Plus a) = one-more _ _ (one-is a)
form-is (Union a b) = one-more _ _ (two-is a b)
form-is (Intersect a b) = one-more _ _ (two-is a b)
form-is (Except a b) = one-more _ _ (two-is a b)
form-is (InstanceOf a kind) = one-more _ _ (one-is a)
form-is (Treat a kind) = one-more _ _ (one-is a)
form-is (Castable a kind empty) = one-more _ _ (one-is a)
form-is (Cast a kind empty) = one-more _ _ (one-is a)
form-is (Slash a b) = one-more _ _ (two-is a b)
form-is (Step axis node_test tests) = refl
form-is (Filter of tests) = refl
form-is (Call name args) = refl
form-is (ElemC name content) = one-more _ _ (joined-is (name_parts name) content _ (name-is name))
form-is (AttrC name content) = one-more _ _ (joined-is (name_parts name) content _ (name-is name))
form-is (DocC content) = one-more _ _ (one-is content)
form-is (TextC content) = one-more _ _ (one-is content)
form-is (CommentC content) = one-more _ _ (one-is content)
form-is (PiC name content) = one-more _ _ (joined-is (name_parts name) content _ (name-is name))
form-is (Direct name attrs parts) = one-more _ _ (ap₂ max (all-is attr_parts attr_nest_of attr-is attrs) (all-is part_parts part_nest_of part-is parts) ∙ sym (most-append (of_all attr_parts attrs) (of_all part_parts parts)))

pub nest-is : (e : Expr) → nest_of e ≡ 1 + greatest (map nest_of (parts_of e))
nest-is e =
    let p : nest_of e ≡ expr_nest (nested (out-Expr e)) = fold_out-Expr _ _ _ _ _ _ _ _ _ _ _ _ _ _ _ _ _ _ e in
    p ∙ form-is (out-Expr e)
