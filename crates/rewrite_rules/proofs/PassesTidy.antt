-- A pass over an expression gives the expression itself or a smaller one, which nests no deeper.
use Rattle.std.proofs.Common.{◌≡◌, ℕ, ◌+◌, max, List, [], ◌∷◌, map, ◌∙◌, arith}
use Rattle.std.specs.Prelude.{Bool, Option, Some, None}
use Rattle.xt_syntax.specs.declared.exprs.Expr.{Expr}
use Rattle.xt_syntax.specs.declared.exprs.Arm.{Arm}
use Rattle.xt_syntax.specs.declared.exprs.Clause.{Clause}
use Rattle.xt_syntax.specs.declared.exprs.Order.{Order}
use Rattle.xt_syntax.specs.declared.exprs.Flwor.{Flwor as FlworOf}
use Rattle.xt_syntax.specs.declared.exprs.Bind.{Bind}
use Rattle.xt_syntax.specs.declared.exprs.NameSource.{NameSource}
use Rattle.xt_syntax.specs.declared.exprs.DirectAttr.{DirectAttr}
use Rattle.xt_syntax.specs.declared.exprs.Part.{Part}
use Rattle.xt_syntax.specs.declared.exprs.Clause.TheOpen.{Int, Str, Var, Context, Root, Comma, Or}
use Rattle.xt_syntax.specs.declared.exprs.Clause.TheOpen.{And, If, Flwor, Quant, General, Value}
use Rattle.xt_syntax.specs.declared.exprs.Clause.TheOpen.{Is}
use Rattle.xt_syntax.specs.declared.exprs.Clause.TheOpen.{Before, After, Range, Arith, Minus}
use Rattle.xt_syntax.specs.declared.exprs.Clause.TheOpen.{Plus}
use Rattle.xt_syntax.specs.declared.exprs.Clause.TheOpen.{Union, Intersect, Except, InstanceOf}
use Rattle.xt_syntax.specs.declared.exprs.Clause.TheOpen.{Treat, Castable, Cast, Slash, Step}
use Rattle.xt_syntax.specs.declared.exprs.Clause.TheOpen.{Filter, Call, ElemC, AttrC, DocC, TextC}
use Rattle.xt_syntax.specs.declared.exprs.Clause.TheOpen.{CommentC, PiC, Direct, For, Let, Fixed}
use Rattle.xt_syntax.specs.declared.exprs.Clause.TheOpen.{Computed, Chars, Enclosed, Child}
use Rattle.xt_syntax.specs.declared.exprs.Clause.TheViews.{roll-Expr, roll-Arm, roll-Clause}
use Rattle.xt_syntax.specs.declared.exprs.Clause.TheViews.{roll-Order}
use Rattle.xt_syntax.specs.declared.exprs.Clause.TheViews.{roll-Flwor, roll-Bind, roll-NameSource}
use Rattle.xt_syntax.specs.declared.exprs.Clause.TheViews.{roll-DirectAttr, roll-Part}
use Rattle.xt_syntax.specs.declared.exprs.Clause.TheFolds.{ind-Expr}
use Rattle.xt_syntax.specs.declared.exprs.Clause.TheFolds.{map-Expr, map-Arm, map-Clause}
use Rattle.xt_syntax.specs.declared.exprs.Clause.TheFolds.{map-Order}
use Rattle.xt_syntax.specs.declared.exprs.Clause.TheFolds.{map-Flwor, map-Bind, map-NameSource}
use Rattle.xt_syntax.specs.declared.exprs.Clause.TheFolds.{map-DirectAttr, map-Part}
use Rattle.xt_names.specs.declared.names.ExprName.{ExprName}
use Rattle.xt_syntax.specs.Layers.{Kinds, Steps, ExprLayer, ClauseLayer, NameLayer, PartLayer}
use Rattle.xt_syntax.specs.Layers.{ArmLayer, BindLayer, AttrLayer, FlworLayer, OrderLayer}
use Rattle.xt_syntax.specs.Layers.{clause_gives, name_gives, part_gives, arm_gives}
use Rattle.xt_syntax.specs.Layers.{bind_gives, attr_gives, flwor_gives, order_gives, expr_gives}
use Rattle.expr_laws.proofs.Texts.{ExprForm, ArmForm, BindForm, OrderForm, AttrForm}
use Rattle.expr_laws.proofs.Texts.{FlworForm, ClauseForm, NameForm, PartForm}
use Rattle.rewrite_rules.specs.Moved.{placed, binds_at, behind_binds, clauses_at, behind_clauses}
use Rattle.rewrite_rules.specs.Moved.{form_at, expr_at, moved_steps}
use Rattle.rewrite_rules.proofs.Folded.{expr_layer, expr_rolled, arm_rolled, clause_layer}
use Rattle.rewrite_rules.proofs.Folded.{clause_rolled, order_rolled, flwor_layer}
use Rattle.rewrite_rules.proofs.Folded.{flwor_rolled, bind_rolled, name_layer, name_rolled}
use Rattle.rewrite_rules.proofs.Folded.{attr_rolled, part_layer, part_rolled}
use Rattle.xt_forms.specs.Nest.{nests, nest_steps, nest_of, clause_nest_of, order_nest_of, part_nest_of}
use Rattle.xt_forms.specs.Nest.{arm_nest_of, bind_nest_of, name_nest_of, attr_nest_of, flwor_nest_of}
use Rattle.rewrite_rules.specs.Sizes.{size_steps, size_of}
use Rattle.rewrite_rules.proofs.Measured.{size_rolled, nest_rolled, arm_size_of, bind_size_of, clause_size_of}
use Rattle.rewrite_rules.proofs.Measured.{order_size_of, flwor_size_of, one_size, one_nest}
use Rattle.rewrite_rules.proofs.LetsTidy.{sizes_of, nests_of}
use Rattle.rewrite_rules.proofs.Calmer.{Calmer, calm, calm_then, calm_in, calm_one, calm_two, calm_list}
use Rattle.rewrite_rules.proofs.PassesSettle.{part_size_of, name_size_of, attr_size_of}
use Rattle.xt_names.specs.Lists.{greatest, total}

module _ (S : Type 0) (after : ExprName → S → S) (fix : S → Expr → Expr)
    (fixed : (s : S) (e : Expr) → Calmer size_of nest_of (fix s e) e) where
  abbrev ks : Kinds
  ks = placed S after

  abbrev ss : Steps ks
  ss = moved_steps S after (λ s n. roll-Expr (Var n)) fix

  abbrev ClauseCalm : Clause → Type 0
  ClauseCalm x = (s : S) → Calmer clause_size_of clause_nest_of ((clause_gives ks ss x).0 s) x

  abbrev ExprCalm : Expr → Type 0
  ExprCalm x = (s : S) → Calmer size_of nest_of (expr_gives ks ss x s) x

  abbrev NameCalm : NameSource → Type 0
  NameCalm x = (s : S) → Calmer name_size_of name_nest_of (name_gives ks ss x s) x

  abbrev PartCalm : Part → Type 0
  PartCalm x = (s : S) → Calmer part_size_of part_nest_of (part_gives ks ss x s) x

  abbrev ArmCalm : Arm → Type 0
  ArmCalm x = (s : S) → Calmer arm_size_of arm_nest_of (arm_gives ks ss x s) x

  abbrev BindCalm : Bind → Type 0
  BindCalm x = (s : S) → Calmer bind_size_of bind_nest_of ((bind_gives ks ss x).1 s) x

  abbrev AttrCalm : DirectAttr → Type 0
  AttrCalm x = (s : S) → Calmer attr_size_of attr_nest_of (attr_gives ks ss x s) x

  abbrev FlworCalm : FlworOf → Type 0
  FlworCalm x = (s : S) → Calmer flwor_size_of flwor_nest_of (flwor_gives ks ss x s) x

  abbrev OrderCalm : Order → Type 0
  OrderCalm x = (s : S) → Calmer order_size_of order_nest_of (order_gives ks ss x s) x

  abbrev known : Kinds
  known = record {
    Clauses = (x : Clause) × ClauseCalm x;
    Exprs = (x : Expr) × ExprCalm x;
    Names = (x : NameSource) × NameCalm x;
    Parts = (x : Part) × PartCalm x;
    Arms = (x : Arm) × ArmCalm x;
    Binds = (x : Bind) × BindCalm x;
    Attrs = (x : DirectAttr) × AttrCalm x;
    Flwors = (x : FlworOf) × FlworCalm x;
    Orders = (x : Order) × OrderCalm x;
  }

  exprs_calm : (ys : List known.Exprs) (s : S) → Calmer (λ l. total (map size_of l)) (λ l. greatest (map nest_of l))
      (map (λ y. y s) (map (expr_gives ks ss) (map (λ y. y.0) ys))) (map (λ y. y.0) ys)
  exprs_calm [] s = calm (λ l. total (map size_of l)) (λ l. greatest (map nest_of l)) []
  exprs_calm (y ∷ ys) s = calm_list size_of nest_of (expr_gives ks ss y.0 s) y.0 (y.1 s) _ _ (exprs_calm ys s)

  arms_calm : (ys : List known.Arms) (s : S) → Calmer (λ l. total (map arm_size_of l)) (λ l. greatest (map arm_nest_of l))
      (map (λ y. y s) (map (arm_gives ks ss) (map (λ y. y.0) ys))) (map (λ y. y.0) ys)
  arms_calm [] s = calm (λ l. total (map arm_size_of l)) (λ l. greatest (map arm_nest_of l)) []
  arms_calm (y ∷ ys) s = calm_list arm_size_of arm_nest_of (arm_gives ks ss y.0 s) y.0 (y.1 s) _ _ (arms_calm ys s)

  orders_calm : (ys : List known.Orders) (s : S) → Calmer (λ l. total (map order_size_of l)) (λ l. greatest (map order_nest_of l))
      (map (λ y. y s) (map (order_gives ks ss) (map (λ y. y.0) ys))) (map (λ y. y.0) ys)
  orders_calm [] s = calm (λ l. total (map order_size_of l)) (λ l. greatest (map order_nest_of l)) []
  orders_calm (y ∷ ys) s = calm_list order_size_of order_nest_of (order_gives ks ss y.0 s) y.0 (y.1 s) _ _ (orders_calm ys s)

  parts_calm : (ys : List known.Parts) (s : S) → Calmer (λ l. total (map part_size_of l)) (λ l. greatest (map part_nest_of l))
      (map (λ y. y s) (map (part_gives ks ss) (map (λ y. y.0) ys))) (map (λ y. y.0) ys)
  parts_calm [] s = calm (λ l. total (map part_size_of l)) (λ l. greatest (map part_nest_of l)) []
  parts_calm (y ∷ ys) s = calm_list part_size_of part_nest_of (part_gives ks ss y.0 s) y.0 (y.1 s) _ _ (parts_calm ys s)

  attrs_calm : (ys : List known.Attrs) (s : S) → Calmer (λ l. total (map attr_size_of l)) (λ l. greatest (map attr_nest_of l))
      (map (λ y. y s) (map (attr_gives ks ss) (map (λ y. y.0) ys))) (map (λ y. y.0) ys)
  attrs_calm [] s = calm (λ l. total (map attr_size_of l)) (λ l. greatest (map attr_nest_of l)) []
  attrs_calm (y ∷ ys) s = calm_list attr_size_of attr_nest_of (attr_gives ks ss y.0 s) y.0 (y.1 s) _ _ (attrs_calm ys s)

  binds_calm : (ys : List known.Binds) (s : S) → Calmer (λ l. total (map bind_size_of l)) (λ l. greatest (map bind_nest_of l))
      (binds_at S after (map (bind_gives ks ss) (map (λ y. y.0) ys)) s) (map (λ y. y.0) ys)
  binds_calm [] s = calm (λ l. total (map bind_size_of l)) (λ l. greatest (map bind_nest_of l)) []
  binds_calm (y ∷ ys) s = calm_list bind_size_of bind_nest_of ((bind_gives ks ss y.0).1 s) y.0 (y.1 s) _ _
      (binds_calm ys (after (bind_gives ks ss y.0).0 s))

  clauses_calm : (ys : List known.Clauses) (s : S) → Calmer (λ l. total (map clause_size_of l)) (λ l. greatest (map clause_nest_of l))
      (clauses_at S after (map (clause_gives ks ss) (map (λ y. y.0) ys)) s) (map (λ y. y.0) ys)
  clauses_calm [] s = calm (λ l. total (map clause_size_of l)) (λ l. greatest (map clause_nest_of l)) []
  clauses_calm (y ∷ ys) s = calm_list clause_size_of clause_nest_of ((clause_gives ks ss y.0).0 s) y.0 (y.1 s) _ _
      (clauses_calm ys ((clause_gives ks ss y.0).1 s))

  abbrev plain_expr : ExprLayer known → ExprForm
  plain_expr = map-Expr known.Clauses known.Exprs known.Names known.Parts known.Arms known.Binds known.Attrs known.Flwors known.Orders
      Clause Expr NameSource Part Arm Bind DirectAttr FlworOf Order
      (λ y. y.0) (λ y. y.0) (λ y. y.0) (λ y. y.0) (λ y. y.0) (λ y. y.0) (λ y. y.0) (λ y. y.0)
      (λ y. y.0)

  abbrev Formed : ExprLayer known → S → Type 0
  Formed y s = Calmer size_of nest_of (roll-Expr (form_at S after (expr_layer ks ss (plain_expr y)) s))
      (roll-Expr (plain_expr y))

  form_fixed : (y : ExprLayer known) (s : S) → Formed y s →
      Calmer size_of nest_of (fix s (roll-Expr (form_at S after (expr_layer ks ss (plain_expr y)) s)))
      (roll-Expr (plain_expr y))
  form_fixed y s h = calm_then size_of nest_of _ _ _
      (fixed s (roll-Expr (form_at S after (expr_layer ks ss (plain_expr y)) s))) h

  form_calm : (y : ExprLayer known) (s : S) →
      Calmer size_of nest_of (expr_at S after (λ s n. roll-Expr (Var n)) fix (expr_layer ks ss (plain_expr y)) s)
      (roll-Expr (plain_expr y))
  form_calm (Int n) s = form_fixed (Int n) s
      (calm size_of nest_of (roll-Expr (Int n)))
  form_calm (Str text) s = form_fixed (Str text) s
      (calm size_of nest_of (roll-Expr (Str text)))
  form_calm (Var n) s = calm size_of nest_of (roll-Expr (Var n))
  form_calm Context s = form_fixed Context s
      (calm size_of nest_of (roll-Expr (Context)))
  form_calm Root s = form_fixed Root s
      (calm size_of nest_of (roll-Expr (Root)))
  form_calm (Comma all) s = form_fixed (Comma all) s
      (calm_one (λ z. roll-Expr (Comma z)) (λ l. total (map size_of l)) (λ l. greatest (map nest_of l)) size_of nest_of 1 1 (λ z. size_rolled (Comma z)) (λ z. nest_rolled (Comma z)) _ _ (exprs_calm all s))
  form_calm (Or all) s = form_fixed (Or all) s
      (calm_one (λ z. roll-Expr (Or z)) (λ l. total (map size_of l)) (λ l. greatest (map nest_of l)) size_of nest_of 1 1 (λ z. size_rolled (Or z)) (λ z. nest_rolled (Or z)) _ _ (exprs_calm all s))
  form_calm (And all) s = form_fixed (And all) s
      (calm_one (λ z. roll-Expr (And z)) (λ l. total (map size_of l)) (λ l. greatest (map nest_of l)) size_of nest_of 1 1 (λ z. size_rolled (And z)) (λ z. nest_rolled (And z)) _ _ (exprs_calm all s))
  form_calm (If arms other) s = form_fixed (If arms other) s
      (calm_two (λ z w. roll-Expr (If z w)) (λ l. total (map arm_size_of l)) (λ l. greatest (map arm_nest_of l)) size_of nest_of size_of nest_of 1 1
      (λ z w. size_rolled (If z w)) (λ z w. nest_rolled (If z w)) _ _ (arms_calm arms s) _ _ (other.1 s))
  form_calm (Flwor f) s = form_fixed (Flwor f) s
      (calm_one (λ z. roll-Expr (Flwor z)) flwor_size_of flwor_nest_of size_of nest_of 1 1 (λ z. size_rolled (Flwor z)) (λ z. nest_rolled (Flwor z)) _ _ (f.1 s))
  form_calm (Quant every_one binds test) s = form_fixed (Quant every_one binds test) s
      (calm_two (λ z w. roll-Expr (Quant every_one z w)) (λ l. total (map bind_size_of l)) (λ l. greatest (map bind_nest_of l)) size_of nest_of size_of nest_of 1 1
      (λ z w. size_rolled (Quant every_one z w)) (λ z w. nest_rolled (Quant every_one z w)) _ _ (binds_calm binds s) _ _ (test.1 (behind_binds S after (map (bind_gives ks ss) (map (λ y. y.0) binds)) s)))
  form_calm (General op a b) s = form_fixed (General op a b) s
      (calm_two (λ z w. roll-Expr (General op z w)) size_of nest_of size_of nest_of size_of nest_of 1 1
      (λ z w. size_rolled (General op z w)) (λ z w. nest_rolled (General op z w)) _ _ (a.1 s) _ _ (b.1 s))
  form_calm (Value op a b) s = form_fixed (Value op a b) s
      (calm_two (λ z w. roll-Expr (Value op z w)) size_of nest_of size_of nest_of size_of nest_of 1 1
      (λ z w. size_rolled (Value op z w)) (λ z w. nest_rolled (Value op z w)) _ _ (a.1 s) _ _ (b.1 s))
  form_calm (Is a b) s = form_fixed (Is a b) s
      (calm_two (λ z w. roll-Expr (Is z w)) size_of nest_of size_of nest_of size_of nest_of 1 1
      (λ z w. size_rolled (Is z w)) (λ z w. nest_rolled (Is z w)) _ _ (a.1 s) _ _ (b.1 s))
  form_calm (Before a b) s = form_fixed (Before a b) s
      (calm_two (λ z w. roll-Expr (Before z w)) size_of nest_of size_of nest_of size_of nest_of 1 1
      (λ z w. size_rolled (Before z w)) (λ z w. nest_rolled (Before z w)) _ _ (a.1 s) _ _ (b.1 s))
  form_calm (After a b) s = form_fixed (After a b) s
      (calm_two (λ z w. roll-Expr (After z w)) size_of nest_of size_of nest_of size_of nest_of 1 1
      (λ z w. size_rolled (After z w)) (λ z w. nest_rolled (After z w)) _ _ (a.1 s) _ _ (b.1 s))
  form_calm (Range a b) s = form_fixed (Range a b) s
      (calm_two (λ z w. roll-Expr (Range z w)) size_of nest_of size_of nest_of size_of nest_of 1 1
      (λ z w. size_rolled (Range z w)) (λ z w. nest_rolled (Range z w)) _ _ (a.1 s) _ _ (b.1 s))
  form_calm (Arith op a b) s = form_fixed (Arith op a b) s
      (calm_two (λ z w. roll-Expr (Arith op z w)) size_of nest_of size_of nest_of size_of nest_of 1 1
      (λ z w. size_rolled (Arith op z w)) (λ z w. nest_rolled (Arith op z w)) _ _ (a.1 s) _ _ (b.1 s))
  form_calm (Union a b) s = form_fixed (Union a b) s
      (calm_two (λ z w. roll-Expr (Union z w)) size_of nest_of size_of nest_of size_of nest_of 1 1
      (λ z w. size_rolled (Union z w)) (λ z w. nest_rolled (Union z w)) _ _ (a.1 s) _ _ (b.1 s))
  form_calm (Intersect a b) s = form_fixed (Intersect a b) s
      (calm_two (λ z w. roll-Expr (Intersect z w)) size_of nest_of size_of nest_of size_of nest_of 1 1
      (λ z w. size_rolled (Intersect z w)) (λ z w. nest_rolled (Intersect z w)) _ _ (a.1 s) _ _ (b.1 s))
  form_calm (Except a b) s = form_fixed (Except a b) s
      (calm_two (λ z w. roll-Expr (Except z w)) size_of nest_of size_of nest_of size_of nest_of 1 1
      (λ z w. size_rolled (Except z w)) (λ z w. nest_rolled (Except z w)) _ _ (a.1 s) _ _ (b.1 s))
  form_calm (Slash a b) s = form_fixed (Slash a b) s
      (calm_two (λ z w. roll-Expr (Slash z w)) size_of nest_of size_of nest_of size_of nest_of 1 1
      (λ z w. size_rolled (Slash z w)) (λ z w. nest_rolled (Slash z w)) _ _ (a.1 s) _ _ (b.1 s))
  form_calm (Minus a) s = form_fixed (Minus a) s
      (calm_one (λ z. roll-Expr (Minus z)) size_of nest_of size_of nest_of 1 1 (λ z. size_rolled (Minus z)) (λ z. nest_rolled (Minus z)) _ _ (a.1 s))
  form_calm (Plus a) s = form_fixed (Plus a) s
      (calm_one (λ z. roll-Expr (Plus z)) size_of nest_of size_of nest_of 1 1 (λ z. size_rolled (Plus z)) (λ z. nest_rolled (Plus z)) _ _ (a.1 s))
  form_calm (InstanceOf a kind) s = form_fixed (InstanceOf a kind) s
      (calm_one (λ z. roll-Expr (InstanceOf z kind)) size_of nest_of size_of nest_of 1 1 (λ z. size_rolled (InstanceOf z kind)) (λ z. nest_rolled (InstanceOf z kind)) _ _ (a.1 s))
  form_calm (Treat a kind) s = form_fixed (Treat a kind) s
      (calm_one (λ z. roll-Expr (Treat z kind)) size_of nest_of size_of nest_of 1 1 (λ z. size_rolled (Treat z kind)) (λ z. nest_rolled (Treat z kind)) _ _ (a.1 s))
  form_calm (Castable a kind empty) s = form_fixed (Castable a kind empty) s
      (calm_one (λ z. roll-Expr (Castable z kind empty)) size_of nest_of size_of nest_of 1 1 (λ z. size_rolled (Castable z kind empty)) (λ z. nest_rolled (Castable z kind empty)) _ _ (a.1 s))
  form_calm (Cast a kind empty) s = form_fixed (Cast a kind empty) s
      (calm_one (λ z. roll-Expr (Cast z kind empty)) size_of nest_of size_of nest_of 1 1 (λ z. size_rolled (Cast z kind empty)) (λ z. nest_rolled (Cast z kind empty)) _ _ (a.1 s))
  form_calm (Step axis wanted tests) s = form_fixed (Step axis wanted tests) s
      (calm_one (λ z. roll-Expr (Step axis wanted z)) (λ l. total (map size_of l)) (λ l. greatest (map nest_of l)) size_of nest_of 1 1 (λ z. size_rolled (Step axis wanted z)) (λ z. nest_rolled (Step axis wanted z)) _ _ (exprs_calm tests s))
  form_calm (Filter of tests) s = form_fixed (Filter of tests) s
      (calm_two (λ z w. roll-Expr (Filter z w)) size_of nest_of (λ l. total (map size_of l)) (λ l. greatest (map nest_of l)) size_of nest_of 1 1
      (λ z w. size_rolled (Filter z w)) (λ z w. nest_rolled (Filter z w)) _ _ (of.1 s) _ _ (exprs_calm tests s))
  form_calm (Call name args) s = form_fixed (Call name args) s
      (calm_one (λ z. roll-Expr (Call name z)) (λ l. total (map size_of l)) (λ l. greatest (map nest_of l)) size_of nest_of 1 1 (λ z. size_rolled (Call name z)) (λ z. nest_rolled (Call name z)) _ _ (exprs_calm args s))
  form_calm (ElemC name content) s = form_fixed (ElemC name content) s
      (calm_two (λ z w. roll-Expr (ElemC z w)) name_size_of name_nest_of size_of nest_of size_of nest_of 1 1
      (λ z w. size_rolled (ElemC z w)) (λ z w. nest_rolled (ElemC z w)) _ _ (name.1 s) _ _ (content.1 s))
  form_calm (AttrC name content) s = form_fixed (AttrC name content) s
      (calm_two (λ z w. roll-Expr (AttrC z w)) name_size_of name_nest_of size_of nest_of size_of nest_of 1 1
      (λ z w. size_rolled (AttrC z w)) (λ z w. nest_rolled (AttrC z w)) _ _ (name.1 s) _ _ (content.1 s))
  form_calm (PiC name content) s = form_fixed (PiC name content) s
      (calm_two (λ z w. roll-Expr (PiC z w)) name_size_of name_nest_of size_of nest_of size_of nest_of 1 1
      (λ z w. size_rolled (PiC z w)) (λ z w. nest_rolled (PiC z w)) _ _ (name.1 s) _ _ (content.1 s))
  form_calm (DocC content) s = form_fixed (DocC content) s
      (calm_one (λ z. roll-Expr (DocC z)) size_of nest_of size_of nest_of 1 1 (λ z. size_rolled (DocC z)) (λ z. nest_rolled (DocC z)) _ _ (content.1 s))
  form_calm (TextC content) s = form_fixed (TextC content) s
      (calm_one (λ z. roll-Expr (TextC z)) size_of nest_of size_of nest_of 1 1 (λ z. size_rolled (TextC z)) (λ z. nest_rolled (TextC z)) _ _ (content.1 s))
  form_calm (CommentC content) s = form_fixed (CommentC content) s
      (calm_one (λ z. roll-Expr (CommentC z)) size_of nest_of size_of nest_of 1 1 (λ z. size_rolled (CommentC z)) (λ z. nest_rolled (CommentC z)) _ _ (content.1 s))
  form_calm (Direct name attrs parts) s = form_fixed (Direct name attrs parts) s
      (calm_two (λ z w. roll-Expr (Direct name z w)) (λ l. total (map attr_size_of l)) (λ l. greatest (map attr_nest_of l)) (λ l. total (map part_size_of l)) (λ l. greatest (map part_nest_of l)) size_of nest_of 1 1
      (λ z w. size_rolled (Direct name z w)) (λ z w. nest_rolled (Direct name z w)) _ _ (attrs_calm attrs s) _ _ (parts_calm parts s))

  expr_step : (x : ExprForm) (y : ExprLayer known) → plain_expr y ≡ x → ExprCalm (roll-Expr x)
  expr_step x y is s = rw (← is, expr_rolled ks ss (plain_expr y)) (form_calm y s)

  zero_is : (n : ℕ) → n ≡ 0 + n
  zero_is n = omega arith

  abbrev plain_arm : ArmLayer known → ArmForm
  plain_arm = map-Arm known.Clauses known.Exprs known.Names known.Parts known.Arms known.Binds known.Attrs known.Flwors known.Orders
      Clause Expr NameSource Part Arm Bind DirectAttr FlworOf Order
      (λ y. y.0) (λ y. y.0) (λ y. y.0) (λ y. y.0) (λ y. y.0) (λ y. y.0) (λ y. y.0) (λ y. y.0)
      (λ y. y.0)

  arm_step : (x : ArmForm) (y : ArmLayer known) → plain_arm y ≡ x → ArmCalm (roll-Arm x)
  arm_step x y is s = rw (← is, arm_rolled ks ss (plain_arm y))
      (calm_two (λ z w. roll-Arm (record { test = z; then = w })) size_of nest_of size_of nest_of arm_size_of arm_nest_of 0 0
      (λ z w. arm_rolled nests size_steps (record { test = z; then = w }) ∙ zero_is _)
      (λ z w. arm_rolled nests nest_steps (record { test = z; then = w }) ∙ zero_is _) _ _ (y.test.1 s) _ _ (y.then.1 s))

  abbrev plain_bind : BindLayer known → BindForm
  plain_bind = map-Bind known.Clauses known.Exprs known.Names known.Parts known.Arms known.Binds known.Attrs known.Flwors known.Orders
      Clause Expr NameSource Part Arm Bind DirectAttr FlworOf Order
      (λ y. y.0) (λ y. y.0) (λ y. y.0) (λ y. y.0) (λ y. y.0) (λ y. y.0) (λ y. y.0) (λ y. y.0)
      (λ y. y.0)

  bind_step : (x : BindForm) (y : BindLayer known) → plain_bind y ≡ x → BindCalm (roll-Bind x)
  bind_step x y is s = rw (← is, bind_rolled ks ss (plain_bind y))
      (calm_one (λ z. roll-Bind (record { var = y.var; kind = y.kind; source = z })) size_of nest_of bind_size_of bind_nest_of 0 0 (λ z. bind_rolled nests size_steps (record { var = y.var; kind = y.kind; source = z }) ∙ zero_is _) (λ z. bind_rolled nests nest_steps (record { var = y.var; kind = y.kind; source = z }) ∙ zero_is _) _ _ (y.source.1 s))

  abbrev plain_order : OrderLayer known → OrderForm
  plain_order = map-Order known.Clauses known.Exprs known.Names known.Parts known.Arms known.Binds known.Attrs known.Flwors known.Orders
      Clause Expr NameSource Part Arm Bind DirectAttr FlworOf Order
      (λ y. y.0) (λ y. y.0) (λ y. y.0) (λ y. y.0) (λ y. y.0) (λ y. y.0) (λ y. y.0) (λ y. y.0)
      (λ y. y.0)

  order_step : (x : OrderForm) (y : OrderLayer known) → plain_order y ≡ x → OrderCalm (roll-Order x)
  order_step x y is s = rw (← is, order_rolled ks ss (plain_order y))
      (calm_one (λ z. roll-Order (record { key = z; descending = y.descending })) size_of nest_of order_size_of order_nest_of 0 0 (λ z. order_rolled nests size_steps (record { key = z; descending = y.descending }) ∙ zero_is _) (λ z. order_rolled nests nest_steps (record { key = z; descending = y.descending }) ∙ zero_is _) _ _ (y.key.1 s))

  abbrev plain_attr : AttrLayer known → AttrForm
  plain_attr = map-DirectAttr known.Clauses known.Exprs known.Names known.Parts known.Arms known.Binds known.Attrs known.Flwors known.Orders
      Clause Expr NameSource Part Arm Bind DirectAttr FlworOf Order
      (λ y. y.0) (λ y. y.0) (λ y. y.0) (λ y. y.0) (λ y. y.0) (λ y. y.0) (λ y. y.0) (λ y. y.0)
      (λ y. y.0)

  attr_step : (x : AttrForm) (y : AttrLayer known) → plain_attr y ≡ x → AttrCalm (roll-DirectAttr x)
  attr_step x y is s = rw (← is, attr_rolled ks ss (plain_attr y))
      (calm_one (λ z. roll-DirectAttr (record { name = y.name; parts = z })) (λ l. total (map part_size_of l)) (λ l. greatest (map part_nest_of l)) attr_size_of attr_nest_of 0 0 (λ z. attr_rolled nests size_steps (record { name = y.name; parts = z }) ∙ zero_is _) (λ z. attr_rolled nests nest_steps (record { name = y.name; parts = z }) ∙ zero_is _) _ _ (parts_calm y.parts s))

  abbrev plain_name : NameLayer known → NameForm
  plain_name = map-NameSource known.Clauses known.Exprs known.Names known.Parts known.Arms known.Binds known.Attrs known.Flwors known.Orders
      Clause Expr NameSource Part Arm Bind DirectAttr FlworOf Order
      (λ y. y.0) (λ y. y.0) (λ y. y.0) (λ y. y.0) (λ y. y.0) (λ y. y.0) (λ y. y.0) (λ y. y.0)
      (λ y. y.0)

  name_calm : (y : NameLayer known) (s : S) →
      Calmer name_size_of name_nest_of (ss.of_name (name_layer ks ss (plain_name y)) s) (roll-NameSource (plain_name y))
  name_calm (Fixed n) s = calm name_size_of name_nest_of (roll-NameSource (Fixed n))
  name_calm (Computed e) s = calm_one (λ z. roll-NameSource (Computed z)) size_of nest_of name_size_of name_nest_of 0 0 (λ z. name_rolled nests size_steps (Computed z) ∙ zero_is _) (λ z. name_rolled nests nest_steps (Computed z) ∙ zero_is _) _ _ (e.1 s)

  name_step : (x : NameForm) (y : NameLayer known) → plain_name y ≡ x → NameCalm (roll-NameSource x)
  name_step x y is s = rw (← is, name_rolled ks ss (plain_name y)) (name_calm y s)

  abbrev plain_part : PartLayer known → PartForm
  plain_part = map-Part known.Clauses known.Exprs known.Names known.Parts known.Arms known.Binds known.Attrs known.Flwors known.Orders
      Clause Expr NameSource Part Arm Bind DirectAttr FlworOf Order
      (λ y. y.0) (λ y. y.0) (λ y. y.0) (λ y. y.0) (λ y. y.0) (λ y. y.0) (λ y. y.0) (λ y. y.0)
      (λ y. y.0)

  part_calm : (y : PartLayer known) (s : S) →
      Calmer part_size_of part_nest_of (ss.of_part (part_layer ks ss (plain_part y)) s) (roll-Part (plain_part y))
  part_calm (Chars n) s = calm part_size_of part_nest_of (roll-Part (Chars n))
  part_calm (Enclosed e) s = calm_one (λ z. roll-Part (Enclosed z)) size_of nest_of part_size_of part_nest_of 0 0 (λ z. part_rolled nests size_steps (Enclosed z) ∙ zero_is _) (λ z. part_rolled nests nest_steps (Enclosed z) ∙ zero_is _) _ _ (e.1 s)
  part_calm (Child e) s = calm_one (λ z. roll-Part (Child z)) size_of nest_of part_size_of part_nest_of 0 0 (λ z. part_rolled nests size_steps (Child z) ∙ zero_is _) (λ z. part_rolled nests nest_steps (Child z) ∙ zero_is _) _ _ (e.1 s)

  part_step : (x : PartForm) (y : PartLayer known) → plain_part y ≡ x → PartCalm (roll-Part x)
  part_step x y is s = rw (← is, part_rolled ks ss (plain_part y)) (part_calm y s)

  abbrev plain_clause : ClauseLayer known → ClauseForm
  plain_clause = map-Clause known.Clauses known.Exprs known.Names known.Parts known.Arms known.Binds known.Attrs known.Flwors known.Orders
      Clause Expr NameSource Part Arm Bind DirectAttr FlworOf Order
      (λ y. y.0) (λ y. y.0) (λ y. y.0) (λ y. y.0) (λ y. y.0) (λ y. y.0) (λ y. y.0) (λ y. y.0)
      (λ y. y.0)

  clause_calm : (y : ClauseLayer known) (s : S) →
      Calmer clause_size_of clause_nest_of ((ss.of_clause (clause_layer ks ss (plain_clause y))).0 s)
      (roll-Clause (plain_clause y))
  clause_calm (For b None) s = calm_one (λ z. roll-Clause (For z None)) bind_size_of bind_nest_of clause_size_of clause_nest_of 1 0
      (λ z. clause_rolled nests size_steps (For z None)) (λ z. clause_rolled nests nest_steps (For z None) ∙ zero_is _) _ _ (b.1 s)
  clause_calm (For b (Some place)) s = calm_one (λ z. roll-Clause (For z (Some place))) bind_size_of bind_nest_of clause_size_of clause_nest_of 1 0
      (λ z. clause_rolled nests size_steps (For z (Some place))) (λ z. clause_rolled nests nest_steps (For z (Some place)) ∙ zero_is _) _ _ (b.1 s)
  clause_calm (Let b) s = calm_one (λ z. roll-Clause (Let z)) bind_size_of bind_nest_of clause_size_of clause_nest_of 0 0
      (λ z. clause_rolled nests size_steps (Let z) ∙ zero_is _) (λ z. clause_rolled nests nest_steps (Let z) ∙ zero_is _) _ _ (b.1 s)

  clause_step : (x : ClauseForm) (y : ClauseLayer known) → plain_clause y ≡ x → ClauseCalm (roll-Clause x)
  clause_step x y is s = rw (← is, clause_rolled ks ss (plain_clause y)) (clause_calm y s)

  abbrev plain_flwor : FlworLayer known → FlworForm
  plain_flwor = map-Flwor known.Clauses known.Exprs known.Names known.Parts known.Arms known.Binds known.Attrs known.Flwors known.Orders
      Clause Expr NameSource Part Arm Bind DirectAttr FlworOf Order
      (λ y. y.0) (λ y. y.0) (λ y. y.0) (λ y. y.0) (λ y. y.0) (λ y. y.0) (λ y. y.0) (λ y. y.0)
      (λ y. y.0)

  -- one part after another of a FLWOR expression
  clauses_in : (test : Option Expr) (os : List Order) (st : Bool) (b : Expr) (x y : List Clause) →
      Calmer (λ l. total (map clause_size_of l)) (λ l. greatest (map clause_nest_of l)) x y →
      Calmer flwor_size_of flwor_nest_of (roll-Flwor (record { clauses = x; test = test; orders = os; stable = st; body = b })) (roll-Flwor (record { clauses = y; test = test; orders = os; stable = st; body = b }))
  clauses_in test os st b x y h =
      calm_in (λ z. roll-Flwor (record { clauses = z; test = test; orders = os; stable = st; body = b })) (λ l. total (map clause_size_of l)) (λ l. greatest (map clause_nest_of l)) flwor_size_of flwor_nest_of
      (one_size test + (total (map order_size_of os) + size_of b)) 0
      (max (one_nest test) (max (greatest (map order_nest_of os)) (nest_of b)))
      (λ z. sizes_of (record { clauses = z; test = test; orders = os; stable = st; body = b }) ∙ turn (total (map clause_size_of z)) (one_size test + (total (map order_size_of os) + size_of b)))
      (λ z. nests_of (record { clauses = z; test = test; orders = os; stable = st; body = b }) ∙ turned (greatest (map clause_nest_of z)) (max (one_nest test) (max (greatest (map order_nest_of os)) (nest_of b)))) x y h
    where
      turn : (a b : ℕ) → a + b ≡ b + a
      turn a b = omega arith

      turned : (a b : ℕ) → max a b ≡ 0 + max b a
      turned a b = grind arith

  test_in : (cs : List Clause) (os : List Order) (st : Bool) (b : Expr) (x y : Expr) →
      Calmer size_of nest_of x y →
      Calmer flwor_size_of flwor_nest_of (roll-Flwor (record { clauses = cs; test = Some x; orders = os; stable = st; body = b })) (roll-Flwor (record { clauses = cs; test = Some y; orders = os; stable = st; body = b }))
  test_in cs os st b x y h =
      calm_in (λ z. roll-Flwor (record { clauses = cs; test = Some z; orders = os; stable = st; body = b })) size_of nest_of flwor_size_of flwor_nest_of
      (total (map clause_size_of cs) + (total (map order_size_of os) + size_of b)) 0
      (max (greatest (map clause_nest_of cs)) (max (greatest (map order_nest_of os)) (nest_of b)))
      (λ z. sizes_of (record { clauses = cs; test = Some z; orders = os; stable = st; body = b }) ∙ turn (total (map clause_size_of cs)) (size_of z) (total (map order_size_of os) + size_of b))
      (λ z. nests_of (record { clauses = cs; test = Some z; orders = os; stable = st; body = b }) ∙ turned (greatest (map clause_nest_of cs)) (nest_of z) (max (greatest (map order_nest_of os)) (nest_of b))) x y h
    where
      turn : (a z r : ℕ) → a + (z + r) ≡ (a + r) + z
      turn a z r = omega arith

      turned : (a z r : ℕ) → max a (max z r) ≡ 0 + max (max a r) z
      turned a z r = grind arith

  orders_in : (cs : List Clause) (test : Option Expr) (st : Bool) (b : Expr) (x y : List Order) →
      Calmer (λ l. total (map order_size_of l)) (λ l. greatest (map order_nest_of l)) x y →
      Calmer flwor_size_of flwor_nest_of (roll-Flwor (record { clauses = cs; test = test; orders = x; stable = st; body = b })) (roll-Flwor (record { clauses = cs; test = test; orders = y; stable = st; body = b }))
  orders_in cs test st b x y h =
      calm_in (λ z. roll-Flwor (record { clauses = cs; test = test; orders = z; stable = st; body = b })) (λ l. total (map order_size_of l)) (λ l. greatest (map order_nest_of l)) flwor_size_of flwor_nest_of
      (total (map clause_size_of cs) + (one_size test + size_of b)) 0
      (max (greatest (map clause_nest_of cs)) (max (one_nest test) (nest_of b)))
      (λ z. sizes_of (record { clauses = cs; test = test; orders = z; stable = st; body = b }) ∙ turn (total (map clause_size_of cs)) (one_size test) (total (map order_size_of z)) (size_of b))
      (λ z. nests_of (record { clauses = cs; test = test; orders = z; stable = st; body = b }) ∙ turned (greatest (map clause_nest_of cs)) (one_nest test) (greatest (map order_nest_of z)) (nest_of b)) x y h
    where
      turn : (a t z r : ℕ) → a + (t + (z + r)) ≡ (a + (t + r)) + z
      turn a t z r = omega arith

      turned : (a t z r : ℕ) → max a (max t (max z r)) ≡ 0 + max (max a (max t r)) z
      turned a t z r = grind arith

  body_in : (cs : List Clause) (test : Option Expr) (os : List Order) (st : Bool) (x y : Expr) →
      Calmer size_of nest_of x y →
      Calmer flwor_size_of flwor_nest_of (roll-Flwor (record { clauses = cs; test = test; orders = os; stable = st; body = x })) (roll-Flwor (record { clauses = cs; test = test; orders = os; stable = st; body = y }))
  body_in cs test os st x y h =
      calm_in (λ z. roll-Flwor (record { clauses = cs; test = test; orders = os; stable = st; body = z })) size_of nest_of flwor_size_of flwor_nest_of
      (total (map clause_size_of cs) + (one_size test + total (map order_size_of os))) 0
      (max (greatest (map clause_nest_of cs)) (max (one_nest test) (greatest (map order_nest_of os))))
      (λ z. sizes_of (record { clauses = cs; test = test; orders = os; stable = st; body = z }) ∙ turn (total (map clause_size_of cs)) (one_size test) (total (map order_size_of os)) (size_of z))
      (λ z. nests_of (record { clauses = cs; test = test; orders = os; stable = st; body = z }) ∙ turned (greatest (map clause_nest_of cs)) (one_nest test) (greatest (map order_nest_of os)) (nest_of z)) x y h
    where
      turn : (a t o z : ℕ) → a + (t + (o + z)) ≡ (a + (t + o)) + z
      turn a t o z = omega arith

      turned : (a t o z : ℕ) → max a (max t (max o z)) ≡ 0 + max (max a (max t o)) z
      turned a t o z = grind arith

  flwor_calm : (cs : List known.Clauses) (test : Option known.Exprs) (os : List known.Orders) (st : Bool)
      (b : known.Exprs) (s : S) → Calmer flwor_size_of flwor_nest_of
      (ss.of_flwor (flwor_layer ks ss (plain_flwor (record { clauses = cs; test = test; orders = os; stable = st; body = b }))) s)
      (roll-Flwor (plain_flwor (record { clauses = cs; test = test; orders = os; stable = st; body = b })))
  flwor_calm cs None os st b s =
      calm_then flwor_size_of flwor_nest_of _ (roll-Flwor (record { clauses = (map (λ y. y.0) cs); test = None; orders = (map (λ q. q (behind_clauses S after (map (clause_gives ks ss) (map (λ y. y.0) cs)) s)) (map (order_gives ks ss) (map (λ y. y.0) os))); stable = st; body = (expr_gives ks ss b.0 (behind_clauses S after (map (clause_gives ks ss) (map (λ y. y.0) cs)) s)) })) _
      (clauses_in None (map (λ q. q (behind_clauses S after (map (clause_gives ks ss) (map (λ y. y.0) cs)) s)) (map (order_gives ks ss) (map (λ y. y.0) os))) st (expr_gives ks ss b.0 (behind_clauses S after (map (clause_gives ks ss) (map (λ y. y.0) cs)) s)) (clauses_at S after (map (clause_gives ks ss) (map (λ y. y.0) cs)) s) (map (λ y. y.0) cs) (clauses_calm cs s))
      (calm_then flwor_size_of flwor_nest_of _ (roll-Flwor (record { clauses = (map (λ y. y.0) cs); test = None; orders = (map (λ y. y.0) os); stable = st; body = (expr_gives ks ss b.0 (behind_clauses S after (map (clause_gives ks ss) (map (λ y. y.0) cs)) s)) })) _
      (orders_in (map (λ y. y.0) cs) None st (expr_gives ks ss b.0 (behind_clauses S after (map (clause_gives ks ss) (map (λ y. y.0) cs)) s)) (map (λ q. q (behind_clauses S after (map (clause_gives ks ss) (map (λ y. y.0) cs)) s)) (map (order_gives ks ss) (map (λ y. y.0) os))) (map (λ y. y.0) os) (orders_calm os (behind_clauses S after (map (clause_gives ks ss) (map (λ y. y.0) cs)) s)))
      (body_in (map (λ y. y.0) cs) None (map (λ y. y.0) os) st (expr_gives ks ss b.0 (behind_clauses S after (map (clause_gives ks ss) (map (λ y. y.0) cs)) s)) b.0 (b.1 (behind_clauses S after (map (clause_gives ks ss) (map (λ y. y.0) cs)) s))))
  flwor_calm cs (Some test) os st b s =
      calm_then flwor_size_of flwor_nest_of _ (roll-Flwor (record { clauses = (map (λ y. y.0) cs); test = (Some (expr_gives ks ss test.0 (behind_clauses S after (map (clause_gives ks ss) (map (λ y. y.0) cs)) s))); orders = (map (λ q. q (behind_clauses S after (map (clause_gives ks ss) (map (λ y. y.0) cs)) s)) (map (order_gives ks ss) (map (λ y. y.0) os))); stable = st; body = (expr_gives ks ss b.0 (behind_clauses S after (map (clause_gives ks ss) (map (λ y. y.0) cs)) s)) })) _
      (clauses_in (Some (expr_gives ks ss test.0 (behind_clauses S after (map (clause_gives ks ss) (map (λ y. y.0) cs)) s))) (map (λ q. q (behind_clauses S after (map (clause_gives ks ss) (map (λ y. y.0) cs)) s)) (map (order_gives ks ss) (map (λ y. y.0) os))) st (expr_gives ks ss b.0 (behind_clauses S after (map (clause_gives ks ss) (map (λ y. y.0) cs)) s)) (clauses_at S after (map (clause_gives ks ss) (map (λ y. y.0) cs)) s) (map (λ y. y.0) cs) (clauses_calm cs s))
      (calm_then flwor_size_of flwor_nest_of _ (roll-Flwor (record { clauses = (map (λ y. y.0) cs); test = (Some test.0); orders = (map (λ q. q (behind_clauses S after (map (clause_gives ks ss) (map (λ y. y.0) cs)) s)) (map (order_gives ks ss) (map (λ y. y.0) os))); stable = st; body = (expr_gives ks ss b.0 (behind_clauses S after (map (clause_gives ks ss) (map (λ y. y.0) cs)) s)) })) _
      (test_in (map (λ y. y.0) cs) (map (λ q. q (behind_clauses S after (map (clause_gives ks ss) (map (λ y. y.0) cs)) s)) (map (order_gives ks ss) (map (λ y. y.0) os))) st (expr_gives ks ss b.0 (behind_clauses S after (map (clause_gives ks ss) (map (λ y. y.0) cs)) s)) (expr_gives ks ss test.0 (behind_clauses S after (map (clause_gives ks ss) (map (λ y. y.0) cs)) s)) test.0 (test.1 (behind_clauses S after (map (clause_gives ks ss) (map (λ y. y.0) cs)) s)))
      (calm_then flwor_size_of flwor_nest_of _ (roll-Flwor (record { clauses = (map (λ y. y.0) cs); test = (Some test.0); orders = (map (λ y. y.0) os); stable = st; body = (expr_gives ks ss b.0 (behind_clauses S after (map (clause_gives ks ss) (map (λ y. y.0) cs)) s)) })) _
      (orders_in (map (λ y. y.0) cs) (Some test.0) st (expr_gives ks ss b.0 (behind_clauses S after (map (clause_gives ks ss) (map (λ y. y.0) cs)) s)) (map (λ q. q (behind_clauses S after (map (clause_gives ks ss) (map (λ y. y.0) cs)) s)) (map (order_gives ks ss) (map (λ y. y.0) os))) (map (λ y. y.0) os) (orders_calm os (behind_clauses S after (map (clause_gives ks ss) (map (λ y. y.0) cs)) s)))
      (body_in (map (λ y. y.0) cs) (Some test.0) (map (λ y. y.0) os) st (expr_gives ks ss b.0 (behind_clauses S after (map (clause_gives ks ss) (map (λ y. y.0) cs)) s)) b.0 (b.1 (behind_clauses S after (map (clause_gives ks ss) (map (λ y. y.0) cs)) s)))))

  flwor_step : (x : FlworForm) (y : FlworLayer known) → plain_flwor y ≡ x → FlworCalm (roll-Flwor x)
  flwor_step x y is s = rw (← is, flwor_rolled ks ss (plain_flwor y))
      (flwor_calm y.clauses y.test y.orders y.stable y.body s)

  pub moved_calm : (e : Expr) → ExprCalm e
  moved_calm = ind-Expr ClauseCalm ExprCalm NameCalm PartCalm ArmCalm BindCalm AttrCalm FlworCalm
      OrderCalm clause_step expr_step name_step part_step arm_step bind_step attr_step flwor_step order_step
