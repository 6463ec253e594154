-- What a recursion gives is the same of an expression that is moved, where it is of each variable.
use Rattle.std.proofs.Common.{◌≡◌, List, [], ◌∷◌, refl, map, ap, ap₂, ◌∙◌}
use Rattle.std.specs.Prelude.{Bool, Option, Some, None}
use Rattle.xt_syntax.specs.declared.exprs.Expr.{Expr}
use Rattle.xt_syntax.specs.declared.exprs.Arm.{Arm}
use Rattle.xt_syntax.specs.declared.exprs.Clause.{Clause}
use Rattle.xt_syntax.specs.declared.exprs.Order.{Order}
use Rattle.xt_syntax.specs.declared.exprs.Flwor.{Flwor as FlworOf}
use Rattle.xt_syntax.specs.declared.exprs.Bind.{Bind}
use Rattle.xt_syntax.specs.declared.exprs.NameSource.{NameSource}
use Rattle.xt_syntax.specs.declared.exprs.DirectAttr.{DirectAttr}
use Rattle.xt_syntax.specs.declared.exprs.Part.{Part}
use Rattle.xt_syntax.specs.declared.exprs.Clause.TheOpen.{Int, Str, Var, Context, Root, Comma, Or}
use Rattle.xt_syntax.specs.declared.exprs.Clause.TheOpen.{And, If, Flwor, Quant, General, Value}
use Rattle.xt_syntax.specs.declared.exprs.Clause.TheOpen.{Is}
use Rattle.xt_syntax.specs.declared.exprs.Clause.TheOpen.{Before, After, Range, Arith, Minus}
use Rattle.xt_syntax.specs.declared.exprs.Clause.TheOpen.{Plus}
use Rattle.xt_syntax.specs.declared.exprs.Clause.TheOpen.{Union, Intersect, Except, InstanceOf}
use Rattle.xt_syntax.specs.declared.exprs.Clause.TheOpen.{Treat, Castable, Cast, Slash, Step}
use Rattle.xt_syntax.specs.declared.exprs.Clause.TheOpen.{Filter, Call, ElemC, AttrC, DocC, TextC}
use Rattle.xt_syntax.specs.declared.exprs.Clause.TheOpen.{CommentC, PiC, Direct, For, Let, Fixed}
use Rattle.xt_syntax.specs.declared.exprs.Clause.TheOpen.{Computed, Chars, Enclosed, Child}
use Rattle.xt_syntax.specs.declared.exprs.Clause.TheViews.{roll-Expr, roll-Arm, roll-Clause}
use Rattle.xt_syntax.specs.declared.exprs.Clause.TheViews.{roll-Order}
use Rattle.xt_syntax.specs.declared.exprs.Clause.TheViews.{roll-Flwor, roll-Bind, roll-NameSource}
use Rattle.xt_syntax.specs.declared.exprs.Clause.TheViews.{roll-DirectAttr, roll-Part}
use Rattle.xt_syntax.specs.declared.exprs.Clause.TheFolds.{ind-Expr, ind-Flwor}
use Rattle.xt_syntax.specs.declared.exprs.Clause.TheFolds.{map-Expr, map-Arm, map-Clause}
use Rattle.xt_syntax.specs.declared.exprs.Clause.TheFolds.{map-Order}
use Rattle.xt_syntax.specs.declared.exprs.Clause.TheFolds.{map-Flwor, map-Bind, map-NameSource}
use Rattle.xt_syntax.specs.declared.exprs.Clause.TheFolds.{map-DirectAttr, map-Part}
use Rattle.xt_names.specs.declared.names.ExprName.{ExprName}
use Rattle.xt_syntax.specs.Layers.{Kinds, Steps, ExprLayer, ClauseLayer, NameLayer, PartLayer}
use Rattle.xt_syntax.specs.Layers.{ArmLayer, BindLayer, AttrLayer, FlworLayer, OrderLayer}
use Rattle.xt_syntax.specs.Layers.{clause_gives, name_gives, part_gives, arm_gives}
use Rattle.xt_syntax.specs.Layers.{bind_gives, attr_gives, flwor_gives, order_gives, expr_gives}
use Rattle.expr_laws.proofs.Texts.{ExprForm, ArmForm, BindForm, OrderForm, AttrForm}
use Rattle.expr_laws.proofs.Texts.{FlworForm, ClauseForm, NameForm, PartForm}
use Rattle.rewrite_rules.specs.Moved.{placed, binds_at, behind_binds, clauses_at, behind_clauses}
use Rattle.rewrite_rules.specs.Moved.{form_at, expr_at, moved_steps}
use Rattle.rewrite_rules.proofs.Folded.{expr_layer, expr_rolled, arm_rolled, clause_layer}
use Rattle.rewrite_rules.proofs.Folded.{clause_rolled, order_rolled, flwor_layer}
use Rattle.rewrite_rules.proofs.Folded.{flwor_rolled, bind_rolled, name_layer, name_rolled}
use Rattle.rewrite_rules.proofs.Folded.{attr_rolled, part_layer, part_rolled}

module _ (S : Type 0) (after : ExprName → S → S) (variable_at : S → ExprName → Expr) (k : Kinds) (t : Steps k)
    (ok : S → Type 0) (ok_after : (v : ExprName) (s : S) → ok s → ok (after v s))
    (variable_is : (s : S) (n : ExprName) → ok s →
    (expr_gives k t (variable_at s n)) ≡ (expr_gives k t (roll-Expr (Var n)))) where
  abbrev ks : Kinds
  ks = placed S after

  abbrev ss : Steps ks
  ss = moved_steps S after variable_at (λ s e. e)

  abbrev ClauseSame : Clause → Type 0
  ClauseSame x = (s : S) → ok s → ((clause_gives k t ((clause_gives ks ss x).0 s)) ≡ (clause_gives k t x)) × ok ((clause_gives ks ss x).1 s)

  abbrev ExprSame : Expr → Type 0
  ExprSame x = (s : S) → ok s → (expr_gives k t (expr_gives ks ss x s)) ≡ (expr_gives k t x)

  abbrev NameSame : NameSource → Type 0
  NameSame x = (s : S) → ok s → (name_gives k t (name_gives ks ss x s)) ≡ (name_gives k t x)

  abbrev PartSame : Part → Type 0
  PartSame x = (s : S) → ok s → (part_gives k t (part_gives ks ss x s)) ≡ (part_gives k t x)

  abbrev ArmSame : Arm → Type 0
  ArmSame x = (s : S) → ok s → (arm_gives k t (arm_gives ks ss x s)) ≡ (arm_gives k t x)

  abbrev BindSame : Bind → Type 0
  BindSame x = (s : S) → ok s → (bind_gives k t ((bind_gives ks ss x).1 s)) ≡ (bind_gives k t x)

  abbrev AttrSame : DirectAttr → Type 0
  AttrSame x = (s : S) → ok s → (attr_gives k t (attr_gives ks ss x s)) ≡ (attr_gives k t x)

  abbrev FlworSame : FlworOf → Type 0
  FlworSame x = (s : S) → ok s → (flwor_gives k t (flwor_gives ks ss x s)) ≡ (flwor_gives k t x)

  abbrev OrderSame : Order → Type 0
  OrderSame x = (s : S) → ok s → (order_gives k t (order_gives ks ss x s)) ≡ (order_gives k t x)

  abbrev known : Kinds
  known = record {
    Clauses = (x : Clause) × ClauseSame x;
    Exprs = (x : Expr) × ExprSame x;
    Names = (x : NameSource) × NameSame x;
    Parts = (x : Part) × PartSame x;
    Arms = (x : Arm) × ArmSame x;
    Binds = (x : Bind) × BindSame x;
    Attrs = (x : DirectAttr) × AttrSame x;
    Flwors = (x : FlworOf) × FlworSame x;
    Orders = (x : Order) × OrderSame x;
  }

  exprs_same : (ys : List known.Exprs) (s : S) → ok s →
      (map (expr_gives k t) (map (λ y. y s) (map (expr_gives ks ss) (map (λ y. y.0) ys))))
      ≡ (map (expr_gives k t) (map (λ y. y.0) ys))
  exprs_same [] s o = refl
  exprs_same (y ∷ ys) s o = ap₂ (λ a b. a ∷ b) (y.1 s o) (exprs_same ys s o)

  parts_same : (ys : List known.Parts) (s : S) → ok s →
      (map (part_gives k t) (map (λ y. y s) (map (part_gives ks ss) (map (λ y. y.0) ys))))
      ≡ (map (part_gives k t) (map (λ y. y.0) ys))
  parts_same [] s o = refl
  parts_same (y ∷ ys) s o = ap₂ (λ a b. a ∷ b) (y.1 s o) (parts_same ys s o)

  arms_same : (ys : List known.Arms) (s : S) → ok s →
      (map (arm_gives k t) (map (λ y. y s) (map (arm_gives ks ss) (map (λ y. y.0) ys))))
      ≡ (map (arm_gives k t) (map (λ y. y.0) ys))
  arms_same [] s o = refl
  arms_same (y ∷ ys) s o = ap₂ (λ a b. a ∷ b) (y.1 s o) (arms_same ys s o)

  attrs_same : (ys : List known.Attrs) (s : S) → ok s →
      (map (attr_gives k t) (map (λ y. y s) (map (attr_gives ks ss) (map (λ y. y.0) ys))))
      ≡ (map (attr_gives k t) (map (λ y. y.0) ys))
  attrs_same [] s o = refl
  attrs_same (y ∷ ys) s o = ap₂ (λ a b. a ∷ b) (y.1 s o) (attrs_same ys s o)

  orders_same : (ys : List known.Orders) (s : S) → ok s →
      (map (order_gives k t) (map (λ y. y s) (map (order_gives ks ss) (map (λ y. y.0) ys))))
      ≡ (map (order_gives k t) (map (λ y. y.0) ys))
  orders_same [] s o = refl
  orders_same (y ∷ ys) s o = ap₂ (λ a b. a ∷ b) (y.1 s o) (orders_same ys s o)

  binds_same : (ys : List known.Binds) (s : S) → ok s →
      ((map (bind_gives k t) (binds_at S after (map (bind_gives ks ss) (map (λ y. y.0) ys)) s))
      ≡ (map (bind_gives k t) (map (λ y. y.0) ys)))
      × ok (behind_binds S after (map (bind_gives ks ss) (map (λ y. y.0) ys)) s)
  binds_same [] s o = (refl, o)
  binds_same (y ∷ ys) s o =
      let v = (bind_gives ks ss y.0).0 in
      let more = binds_same ys (after v s) (ok_after v s o) in
      (ap₂ (λ a b. a ∷ b) (y.1 s o) more.0, more.1)

  clauses_same : (ys : List known.Clauses) (s : S) → ok s →
      ((map (clause_gives k t) (clauses_at S after (map (clause_gives ks ss) (map (λ y. y.0) ys)) s))
      ≡ (map (clause_gives k t) (map (λ y. y.0) ys)))
      × ok (behind_clauses S after (map (clause_gives ks ss) (map (λ y. y.0) ys)) s)
  clauses_same [] s o = (refl, o)
  clauses_same (y ∷ ys) s o =
      let one = y.1 s o in
      let more = clauses_same ys ((clause_gives ks ss y.0).1 s) one.1 in
      (ap₂ (λ a b. a ∷ b) one.0 more.0, more.1)

  abbrev plain_expr : ExprLayer known → ExprForm
  plain_expr = map-Expr known.Clauses known.Exprs known.Names known.Parts known.Arms known.Binds known.Attrs known.Flwors known.Orders
      Clause Expr NameSource Part Arm Bind DirectAttr FlworOf Order
      (λ y. y.0) (λ y. y.0) (λ y. y.0) (λ y. y.0) (λ y. y.0) (λ y. y.0) (λ y. y.0) (λ y. y.0)
      (λ y. y.0)

  form_same : (y : ExprLayer known) (s : S) → ok s →
      (expr_gives k t (expr_at S after variable_at (λ s e. e) (expr_layer ks ss (plain_expr y)) s))
      ≡ (t.of_expr (expr_layer k t (plain_expr y)))
  form_same (Int n) s o =
      expr_rolled k t (form_at S after (expr_layer ks ss (plain_expr (Int n))) s)
      ∙ refl
  form_same (Str text) s o =
      expr_rolled k t (form_at S after (expr_layer ks ss (plain_expr (Str text))) s)
      ∙ refl
  form_same (Var n) s o = variable_is s n o ∙ expr_rolled k t (Var n)
  form_same (Context) s o =
      expr_rolled k t (form_at S after (expr_layer ks ss (plain_expr (Context))) s)
      ∙ refl
  form_same (Root) s o =
      expr_rolled k t (form_at S after (expr_layer ks ss (plain_expr (Root))) s)
      ∙ refl
  form_same (Comma all) s o =
      expr_rolled k t (form_at S after (expr_layer ks ss (plain_expr (Comma all))) s)
      ∙ ap (λ l. t.of_expr (Comma l)) (exprs_same all s o)
  form_same (Or all) s o =
      expr_rolled k t (form_at S after (expr_layer ks ss (plain_expr (Or all))) s)
      ∙ ap (λ l. t.of_expr (Or l)) (exprs_same all s o)
  form_same (And all) s o =
      expr_rolled k t (form_at S after (expr_layer ks ss (plain_expr (And all))) s)
      ∙ ap (λ l. t.of_expr (And l)) (exprs_same all s o)
  form_same (If arms other) s o =
      expr_rolled k t (form_at S after (expr_layer ks ss (plain_expr (If arms other))) s)
      ∙ ap₂ (λ l e. t.of_expr (If l e)) (arms_same arms s o) (other.1 s o)
  form_same (Flwor f) s o =
      expr_rolled k t (form_at S after (expr_layer ks ss (plain_expr (Flwor f))) s)
      ∙ ap (λ g. t.of_expr (Flwor g)) (f.1 s o)
  form_same (Quant every_one binds test) s o =
      expr_rolled k t (form_at S after (expr_layer ks ss (plain_expr (Quant every_one binds test))) s)
      ∙ ap₂ (λ l e. t.of_expr (Quant every_one l e)) (binds_same binds s o).0
      (test.1 (behind_binds S after (map (bind_gives ks ss) (map (λ y. y.0) binds)) s) (binds_same binds s o).1)
  form_same (General op a b) s o =
      expr_rolled k t (form_at S after (expr_layer ks ss (plain_expr (General op a b))) s)
      ∙ ap₂ (λ x y. t.of_expr (General op x y)) (a.1 s o) (b.1 s o)
  form_same (Value op a b) s o =
      expr_rolled k t (form_at S after (expr_layer ks ss (plain_expr (Value op a b))) s)
      ∙ ap₂ (λ x y. t.of_expr (Value op x y)) (a.1 s o) (b.1 s o)
  form_same (Is a b) s o =
      expr_rolled k t (form_at S after (expr_layer ks ss (plain_expr (Is a b))) s)
      ∙ ap₂ (λ x y. t.of_expr (Is x y)) (a.1 s o) (b.1 s o)
  form_same (Before a b) s o =
      expr_rolled k t (form_at S after (expr_layer ks ss (plain_expr (Before a b))) s)
      ∙ ap₂ (λ x y. t.of_expr (Before x y)) (a.1 s o) (b.1 s o)
  form_same (After a b) s o =
      expr_rolled k t (form_at S after (expr_layer ks ss (plain_expr (After a b))) s)
      ∙ ap₂ (λ x y. t.of_expr (After x y)) (a.1 s o) (b.1 s o)
  form_same (Range a b) s o =
      expr_rolled k t (form_at S after (expr_layer ks ss (plain_expr (Range a b))) s)
      ∙ ap₂ (λ x y. t.of_expr (Range x y)) (a.1 s o) (b.1 s o)
  form_same (Arith op a b) s o =
      expr_rolled k t (form_at S after (expr_layer ks ss (plain_expr (Arith op a b))) s)
      ∙ ap₂ (λ x y. t.of_expr (Arith op x y)) (a.1 s o) (b.1 s o)
  form_same (Union a b) s o =
      expr_rolled k t (form_at S after (expr_layer ks ss (plain_expr (Union a b))) s)
      ∙ ap₂ (λ x y. t.of_expr (Union x y)) (a.1 s o) (b.1 s o)
  form_same (Intersect a b) s o =
      expr_rolled k t (form_at S after (expr_layer ks ss (plain_expr (Intersect a b))) s)
      ∙ ap₂ (λ x y. t.of_expr (Intersect x y)) (a.1 s o) (b.1 s o)
  form_same (Except a b) s o =
      expr_rolled k t (form_at S after (expr_layer ks ss (plain_expr (Except a b))) s)
      ∙ ap₂ (λ x y. t.of_expr (Except x y)) (a.1 s o) (b.1 s o)
  form_same (Slash a b) s o =
      expr_rolled k t (form_at S after (expr_layer ks ss (plain_expr (Slash a b))) s)
      ∙ ap₂ (λ x y. t.of_expr (Slash x y)) (a.1 s o) (b.1 s o)
  form_same (Minus a) s o =
      expr_rolled k t (form_at S after (expr_layer ks ss (plain_expr (Minus a))) s)
      ∙ ap (λ x. t.of_expr (Minus x)) (a.1 s o)
  form_same (Plus a) s o =
      expr_rolled k t (form_at S after (expr_layer ks ss (plain_expr (Plus a))) s)
      ∙ ap (λ x. t.of_expr (Plus x)) (a.1 s o)
  form_same (InstanceOf a kind) s o =
      expr_rolled k t (form_at S after (expr_layer ks ss (plain_expr (InstanceOf a kind))) s)
      ∙ ap (λ x. t.of_expr (InstanceOf x kind)) (a.1 s o)
  form_same (Treat a kind) s o =
      expr_rolled k t (form_at S after (expr_layer ks ss (plain_expr (Treat a kind))) s)
      ∙ ap (λ x. t.of_expr (Treat x kind)) (a.1 s o)
  form_same (Castable a kind empty) s o =
      expr_rolled k t (form_at S after (expr_layer ks ss (plain_expr (Castable a kind empty))) s)
      ∙ ap (λ x. t.of_expr (Castable x kind empty)) (a.1 s o)
  form_same (Cast a kind empty) s o =
      expr_rolled k t (form_at S after (expr_layer ks ss (plain_expr (Cast a kind empty))) s)
      ∙ ap (λ x. t.of_expr (Cast x kind empty)) (a.1 s o)
  form_same (Step axis wanted tests) s o =
      expr_rolled k t (form_at S after (expr_layer ks ss (plain_expr (Step axis wanted tests))) s)
      ∙ ap (λ l. t.of_expr (Step axis wanted l)) (exprs_same tests s o)
  form_same (Filter of tests) s o =
      expr_rolled k t (form_at S after (expr_layer ks ss (plain_expr (Filter of tests))) s)
      ∙ ap₂ (λ x l. t.of_expr (Filter x l)) (of.1 s o) (exprs_same tests s o)
  form_same (Call name args) s o =
      expr_rolled k t (form_at S after (expr_layer ks ss (plain_expr (Call name args))) s)
      ∙ ap (λ l. t.of_expr (Call name l)) (exprs_same args s o)
  form_same (ElemC name content) s o =
      expr_rolled k t (form_at S after (expr_layer ks ss (plain_expr (ElemC name content))) s)
      ∙ ap₂ (λ x y. t.of_expr (ElemC x y)) (name.1 s o) (content.1 s o)
  form_same (AttrC name content) s o =
      expr_rolled k t (form_at S after (expr_layer ks ss (plain_expr (AttrC name content))) s)
      ∙ ap₂ (λ x y. t.of_expr (AttrC x y)) (name.1 s o) (content.1 s o)
  form_same (PiC name content) s o =
      expr_rolled k t (form_at S after (expr_layer ks ss (plain_expr (PiC name content))) s)
      ∙ ap₂ (λ x y. t.of_expr (PiC x y)) (name.1 s o) (content.1 s o)
  form_same (DocC content) s o =
      expr_rolled k t (form_at S after (expr_layer ks ss (plain_expr (DocC content))) s)
      ∙ ap (λ x. t.of_expr (DocC x)) (content.1 s o)
  form_same (TextC content) s o =
      expr_rolled k t (form_at S after (expr_layer ks ss (plain_expr (TextC content))) s)
      ∙ ap (λ x. t.of_expr (TextC x)) (content.1 s o)
  form_same (CommentC content) s o =
      expr_rolled k t (form_at S after (expr_layer ks ss (plain_expr (CommentC content))) s)
      ∙ ap (λ x. t.of_expr (CommentC x)) (content.1 s o)
  form_same (Direct name attrs parts) s o =
      expr_rolled k t (form_at S after (expr_layer ks ss (plain_expr (Direct name attrs parts))) s)
      ∙ ap₂ (λ x y. t.of_expr (Direct name x y)) (attrs_same attrs s o) (parts_same parts s o)

  expr_step : (x : ExprForm) (y : ExprLayer known) → plain_expr y ≡ x → ExprSame (roll-Expr x)
  expr_step x y is s o = rw (← is, expr_rolled ks ss (plain_expr y), expr_rolled k t (plain_expr y)) (form_same y s o)

  abbrev plain_arm : ArmLayer known → ArmForm
  plain_arm = map-Arm known.Clauses known.Exprs known.Names known.Parts known.Arms known.Binds known.Attrs known.Flwors known.Orders
      Clause Expr NameSource Part Arm Bind DirectAttr FlworOf Order
      (λ y. y.0) (λ y. y.0) (λ y. y.0) (λ y. y.0) (λ y. y.0) (λ y. y.0) (λ y. y.0) (λ y. y.0)
      (λ y. y.0)

  arm_step : (x : ArmForm) (y : ArmLayer known) → plain_arm y ≡ x → ArmSame (roll-Arm x)
  arm_step x y is s o =
      rw (← is, arm_rolled ks ss (plain_arm y), arm_rolled k t (plain_arm y), arm_rolled k t (record { test = expr_gives ks ss y.test.0 s; then = expr_gives ks ss y.then.0 s })) (ap₂ (λ a b. t.of_arm (record { test = a; then = b })) (y.test.1 s o) (y.then.1 s o))

  abbrev plain_bind : BindLayer known → BindForm
  plain_bind = map-Bind known.Clauses known.Exprs known.Names known.Parts known.Arms known.Binds known.Attrs known.Flwors known.Orders
      Clause Expr NameSource Part Arm Bind DirectAttr FlworOf Order
      (λ y. y.0) (λ y. y.0) (λ y. y.0) (λ y. y.0) (λ y. y.0) (λ y. y.0) (λ y. y.0) (λ y. y.0)
      (λ y. y.0)

  bind_step : (x : BindForm) (y : BindLayer known) → plain_bind y ≡ x → BindSame (roll-Bind x)
  bind_step x y is s o =
      rw (← is, bind_rolled ks ss (plain_bind y), bind_rolled k t (plain_bind y), bind_rolled k t (record { var = y.var; kind = y.kind; source = expr_gives ks ss y.source.0 s })) (ap (λ a. t.of_bind (record { var = y.var; kind = y.kind; source = a })) (y.source.1 s o))

  abbrev plain_order : OrderLayer known → OrderForm
  plain_order = map-Order known.Clauses known.Exprs known.Names known.Parts known.Arms known.Binds known.Attrs known.Flwors known.Orders
      Clause Expr NameSource Part Arm Bind DirectAttr FlworOf Order
      (λ y. y.0) (λ y. y.0) (λ y. y.0) (λ y. y.0) (λ y. y.0) (λ y. y.0) (λ y. y.0) (λ y. y.0)
      (λ y. y.0)

  order_step : (x : OrderForm) (y : OrderLayer known) → plain_order y ≡ x → OrderSame (roll-Order x)
  order_step x y is s o =
      rw (← is, order_rolled ks ss (plain_order y), order_rolled k t (plain_order y), order_rolled k t (record { key = expr_gives ks ss y.key.0 s; descending = y.descending })) (ap (λ a. t.of_order (record { key = a; descending = y.descending })) (y.key.1 s o))

  abbrev plain_attr : AttrLayer known → AttrForm
  plain_attr = map-DirectAttr known.Clauses known.Exprs known.Names known.Parts known.Arms known.Binds known.Attrs known.Flwors known.Orders
      Clause Expr NameSource Part Arm Bind DirectAttr FlworOf Order
      (λ y. y.0) (λ y. y.0) (λ y. y.0) (λ y. y.0) (λ y. y.0) (λ y. y.0) (λ y. y.0) (λ y. y.0)
      (λ y. y.0)

  attr_step : (x : AttrForm) (y : AttrLayer known) → plain_attr y ≡ x → AttrSame (roll-DirectAttr x)
  attr_step x y is s o =
      rw (← is, attr_rolled ks ss (plain_attr y), attr_rolled k t (plain_attr y), attr_rolled k t (record { name = y.name; parts = map (λ q. q s) (map (part_gives ks ss) (map (λ y. y.0) y.parts)) })) (ap (λ a. t.of_attr (record { name = y.name; parts = a })) (parts_same y.parts s o))

  abbrev plain_name : NameLayer known → NameForm
  plain_name = map-NameSource known.Clauses known.Exprs known.Names known.Parts known.Arms known.Binds known.Attrs known.Flwors known.Orders
      Clause Expr NameSource Part Arm Bind DirectAttr FlworOf Order
      (λ y. y.0) (λ y. y.0) (λ y. y.0) (λ y. y.0) (λ y. y.0) (λ y. y.0) (λ y. y.0) (λ y. y.0)
      (λ y. y.0)

  name_form : (y : NameLayer known) (s : S) → ok s →
      (name_gives k t (ss.of_name (name_layer ks ss (plain_name y)) s)) ≡ (t.of_name (name_layer k t (plain_name y)))
  name_form (Fixed n) s o = name_rolled k t (Fixed n) ∙ refl
  name_form (Computed e) s o = name_rolled k t (Computed (expr_gives ks ss e.0 s)) ∙ ap (λ x. t.of_name (Computed x)) (e.1 s o)

  name_step : (x : NameForm) (y : NameLayer known) → plain_name y ≡ x → NameSame (roll-NameSource x)
  name_step x y is s o = rw (← is, name_rolled ks ss (plain_name y), name_rolled k t (plain_name y)) (name_form y s o)

  abbrev plain_part : PartLayer known → PartForm
  plain_part = map-Part known.Clauses known.Exprs known.Names known.Parts known.Arms known.Binds known.Attrs known.Flwors known.Orders
      Clause Expr NameSource Part Arm Bind DirectAttr FlworOf Order
      (λ y. y.0) (λ y. y.0) (λ y. y.0) (λ y. y.0) (λ y. y.0) (λ y. y.0) (λ y. y.0) (λ y. y.0)
      (λ y. y.0)

  part_form : (y : PartLayer known) (s : S) → ok s →
      (part_gives k t (ss.of_part (part_layer ks ss (plain_part y)) s)) ≡ (t.of_part (part_layer k t (plain_part y)))
  part_form (Chars n) s o = part_rolled k t (Chars n) ∙ refl
  part_form (Enclosed e) s o = part_rolled k t (Enclosed (expr_gives ks ss e.0 s)) ∙ ap (λ x. t.of_part (Enclosed x)) (e.1 s o)
  part_form (Child e) s o = part_rolled k t (Child (expr_gives ks ss e.0 s)) ∙ ap (λ x. t.of_part (Child x)) (e.1 s o)

  part_step : (x : PartForm) (y : PartLayer known) → plain_part y ≡ x → PartSame (roll-Part x)
  part_step x y is s o = rw (← is, part_rolled ks ss (plain_part y), part_rolled k t (plain_part y)) (part_form y s o)

  abbrev plain_clause : ClauseLayer known → ClauseForm
  plain_clause = map-Clause known.Clauses known.Exprs known.Names known.Parts known.Arms known.Binds known.Attrs known.Flwors known.Orders
      Clause Expr NameSource Part Arm Bind DirectAttr FlworOf Order
      (λ y. y.0) (λ y. y.0) (λ y. y.0) (λ y. y.0) (λ y. y.0) (λ y. y.0) (λ y. y.0) (λ y. y.0)
      (λ y. y.0)

  clause_form : (y : ClauseLayer known) (s : S) → ok s →
      ((clause_gives k t ((ss.of_clause (clause_layer ks ss (plain_clause y))).0 s)) ≡ (t.of_clause (clause_layer k t (plain_clause y))))
      × ok ((ss.of_clause (clause_layer ks ss (plain_clause y))).1 s)
  clause_form (For b None) s o =
      let v = (bind_gives ks ss b.0).0 in
      (clause_rolled k t (For ((bind_gives ks ss b.0).1 s) None) ∙ ap (λ x. t.of_clause (For x None)) (b.1 s o), ok_after v s o)
  clause_form (For b (Some place)) s o =
      let v = (bind_gives ks ss b.0).0 in
      (clause_rolled k t (For ((bind_gives ks ss b.0).1 s) (Some place)) ∙ ap (λ x. t.of_clause (For x (Some place))) (b.1 s o), ok_after place (after v s) (ok_after v s o))
  clause_form (Let b) s o =
      let v = (bind_gives ks ss b.0).0 in
      (clause_rolled k t (Let ((bind_gives ks ss b.0).1 s)) ∙ ap (λ x. t.of_clause (Let x)) (b.1 s o), ok_after v s o)

  clause_step : (x : ClauseForm) (y : ClauseLayer known) → plain_clause y ≡ x → ClauseSame (roll-Clause x)
  clause_step x y is s o = rw (← is, clause_rolled ks ss (plain_clause y), clause_rolled k t (plain_clause y)) (clause_form y s o)

  abbrev plain_flwor : FlworLayer known → FlworForm
  plain_flwor = map-Flwor known.Clauses known.Exprs known.Names known.Parts known.Arms known.Binds known.Attrs known.Flwors known.Orders
      Clause Expr NameSource Part Arm Bind DirectAttr FlworOf Order
      (λ y. y.0) (λ y. y.0) (λ y. y.0) (λ y. y.0) (λ y. y.0) (λ y. y.0) (λ y. y.0) (λ y. y.0)
      (λ y. y.0)

  flwor_form : (cs : List known.Clauses) (test : Option known.Exprs) (os : List known.Orders) (st : Bool)
      (b : known.Exprs) (s : S) → ok s →
      (flwor_gives k t (ss.of_flwor (flwor_layer ks ss (plain_flwor (record { clauses = cs; test = test; orders = os; stable = st; body = b }))) s))
      ≡ (t.of_flwor (flwor_layer k t (plain_flwor (record { clauses = cs; test = test; orders = os; stable = st; body = b }))))
  flwor_form cs None os st b s o =
      let q = (clauses_same cs s o).1 in
      flwor_rolled k t (record {
        clauses = clauses_at S after (map (clause_gives ks ss) (map (λ y. y.0) cs)) s;
        test = None;
        orders = map (λ q. q (behind_clauses S after (map (clause_gives ks ss) (map (λ y. y.0) cs)) s)) (map (order_gives ks ss) (map (λ y. y.0) os));
        stable = st;
        body = expr_gives ks ss b.0 (behind_clauses S after (map (clause_gives ks ss) (map (λ y. y.0) cs)) s);
      })
      ∙ ap (λ z. t.of_flwor (record { clauses = z; test = None; orders = (map (order_gives k t) (map (λ q. q (behind_clauses S after (map (clause_gives ks ss) (map (λ y. y.0) cs)) s)) (map (order_gives ks ss) (map (λ y. y.0) os)))); stable = st; body = (expr_gives k t (expr_gives ks ss b.0 (behind_clauses S after (map (clause_gives ks ss) (map (λ y. y.0) cs)) s))) })) (clauses_same cs s o).0
      ∙ ap (λ z. t.of_flwor (record { clauses = (map (clause_gives k t) (map (λ y. y.0) cs)); test = None; orders = z; stable = st; body = (expr_gives k t (expr_gives ks ss b.0 (behind_clauses S after (map (clause_gives ks ss) (map (λ y. y.0) cs)) s))) })) (orders_same os (behind_clauses S after (map (clause_gives ks ss) (map (λ y. y.0) cs)) s) q)
      ∙ ap (λ z. t.of_flwor (record { clauses = (map (clause_gives k t) (map (λ y. y.0) cs)); test = None; orders = (map (order_gives k t) (map (λ y. y.0) os)); stable = st; body = z })) (b.1 (behind_clauses S after (map (clause_gives ks ss) (map (λ y. y.0) cs)) s) q)
  flwor_form cs (Some test) os st b s o =
      let q = (clauses_same cs s o).1 in
      flwor_rolled k t (record {
        clauses = clauses_at S after (map (clause_gives ks ss) (map (λ y. y.0) cs)) s;
        test = Some (expr_gives ks ss test.0 (behind_clauses S after (map (clause_gives ks ss) (map (λ y. y.0) cs)) s));
        orders = map (λ q. q (behind_clauses S after (map (clause_gives ks ss) (map (λ y. y.0) cs)) s)) (map (order_gives ks ss) (map (λ y. y.0) os));
        stable = st;
        body = expr_gives ks ss b.0 (behind_clauses S after (map (clause_gives ks ss) (map (λ y. y.0) cs)) s);
      })
      ∙ ap (λ z. t.of_flwor (record { clauses = z; test = (Some (expr_gives k t (expr_gives ks ss test.0 (behind_clauses S after (map (clause_gives ks ss) (map (λ y. y.0) cs)) s)))); orders = (map (order_gives k t) (map (λ q. q (behind_clauses S after (map (clause_gives ks ss) (map (λ y. y.0) cs)) s)) (map (order_gives ks ss) (map (λ y. y.0) os)))); stable = st; body = (expr_gives k t (expr_gives ks ss b.0 (behind_clauses S after (map (clause_gives ks ss) (map (λ y. y.0) cs)) s))) })) (clauses_same cs s o).0
      ∙ ap (λ z. t.of_flwor (record { clauses = (map (clause_gives k t) (map (λ y. y.0) cs)); test = (Some z); orders = (map (order_gives k t) (map (λ q. q (behind_clauses S after (map (clause_gives ks ss) (map (λ y. y.0) cs)) s)) (map (order_gives ks ss) (map (λ y. y.0) os)))); stable = st; body = (expr_gives k t (expr_gives ks ss b.0 (behind_clauses S after (map (clause_gives ks ss) (map (λ y. y.0) cs)) s))) })) (test.1 (behind_clauses S after (map (clause_gives ks ss) (map (λ y. y.0) cs)) s) q)
      ∙ ap (λ z. t.of_flwor (record { clauses = (map (clause_gives k t) (map (λ y. y.0) cs)); test = (Some (expr_gives k t test.0)); orders = z; stable = st; body = (expr_gives k t (expr_gives ks ss b.0 (behind_clauses S after (map (clause_gives ks ss) (map (λ y. y.0) cs)) s))) })) (orders_same os (behind_clauses S after (map (clause_gives ks ss) (map (λ y. y.0) cs)) s) q)
      ∙ ap (λ z. t.of_flwor (record { clauses = (map (clause_gives k t) (map (λ y. y.0) cs)); test = (Some (expr_gives k t test.0)); orders = (map (order_gives k t) (map (λ y. y.0) os)); stable = st; body = z })) (b.1 (behind_clauses S after (map (clause_gives ks ss) (map (λ y. y.0) cs)) s) q)

  flwor_step : (x : FlworForm) (y : FlworLayer known) → plain_flwor y ≡ x → FlworSame (roll-Flwor x)
  flwor_step x y is s o =
      rw (← is, flwor_rolled ks ss (plain_flwor y), flwor_rolled k t (plain_flwor y))
      (flwor_form y.clauses y.test y.orders y.stable y.body s o)

  pub expr_same : (e : Expr) → ExprSame e
  expr_same = ind-Expr ClauseSame ExprSame NameSame PartSame ArmSame BindSame AttrSame FlworSame
      OrderSame clause_step expr_step name_step part_step arm_step bind_step attr_step flwor_step order_step

  pub flwor_same : (f : FlworOf) → FlworSame f
  flwor_same = ind-Flwor ClauseSame ExprSame NameSame PartSame ArmSame BindSame AttrSame FlworSame
      OrderSame clause_step expr_step name_step part_step arm_step bind_step attr_step flwor_step order_step
