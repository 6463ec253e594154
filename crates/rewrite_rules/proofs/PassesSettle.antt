-- Where a pass over an expression changes nothing no rule is in it: a rewriting that changes
-- expressions only where a rule stands changes nothing either.
use Rattle.std.proofs.Common.{◌≡◌, ℕ, ◌+◌, List, [], ◌∷◌, refl, map, sym, ap, ◌∙◌, subst, arith}
use Rattle.std.specs.Prelude.{Bool, Option, Some, None}
use Rattle.xt_syntax.specs.declared.exprs.Expr.{Expr}
use Rattle.xt_syntax.specs.declared.exprs.Arm.{Arm}
use Rattle.xt_syntax.specs.declared.exprs.Clause.{Clause}
use Rattle.xt_syntax.specs.declared.exprs.Order.{Order}
use Rattle.xt_syntax.specs.declared.exprs.Flwor.{Flwor as FlworOf}
use Rattle.xt_syntax.specs.declared.exprs.Bind.{Bind}
use Rattle.xt_syntax.specs.declared.exprs.NameSource.{NameSource}
use Rattle.xt_syntax.specs.declared.exprs.DirectAttr.{DirectAttr}
use Rattle.xt_syntax.specs.declared.exprs.Part.{Part}
use Rattle.xt_syntax.specs.declared.exprs.Clause.TheOpen.{Int, Str, Var, Context, Root, Comma, Or}
use Rattle.xt_syntax.specs.declared.exprs.Clause.TheOpen.{And, If, Flwor, Quant, General, Value}
use Rattle.xt_syntax.specs.declared.exprs.Clause.TheOpen.{Is}
use Rattle.xt_syntax.specs.declared.exprs.Clause.TheOpen.{Before, After, Range, Arith, Minus}
use Rattle.xt_syntax.specs.declared.exprs.Clause.TheOpen.{Plus}
use Rattle.xt_syntax.specs.declared.exprs.Clause.TheOpen.{Union, Intersect, Except, InstanceOf}
use Rattle.xt_syntax.specs.declared.exprs.Clause.TheOpen.{Treat, Castable, Cast, Slash, Step}
use Rattle.xt_syntax.specs.declared.exprs.Clause.TheOpen.{Filter, Call, ElemC, AttrC, DocC, TextC}
use Rattle.xt_syntax.specs.declared.exprs.Clause.TheOpen.{CommentC, PiC, Direct, For, Let, Fixed}
use Rattle.xt_syntax.specs.declared.exprs.Clause.TheOpen.{Computed, Chars, Enclosed, Child}
use Rattle.xt_syntax.specs.declared.exprs.Clause.TheViews.{roll-Expr, roll-Arm, roll-Clause}
use Rattle.xt_syntax.specs.declared.exprs.Clause.TheViews.{roll-Order}
use Rattle.xt_syntax.specs.declared.exprs.Clause.TheViews.{roll-Flwor, roll-Bind, roll-NameSource}
use Rattle.xt_syntax.specs.declared.exprs.Clause.TheViews.{roll-DirectAttr, roll-Part}
use Rattle.xt_syntax.specs.declared.exprs.Clause.TheFolds.{ind-Expr}
use Rattle.xt_syntax.specs.declared.exprs.Clause.TheFolds.{map-Expr, map-Arm, map-Clause}
use Rattle.xt_syntax.specs.declared.exprs.Clause.TheFolds.{map-Order}
use Rattle.xt_syntax.specs.declared.exprs.Clause.TheFolds.{map-Flwor, map-Bind, map-NameSource}
use Rattle.xt_syntax.specs.declared.exprs.Clause.TheFolds.{map-DirectAttr, map-Part}
use Rattle.xt_names.specs.declared.names.ExprName.{ExprName}
use Rattle.xt_syntax.specs.Layers.{Kinds, Steps, ExprLayer, ClauseLayer, NameLayer, PartLayer}
use Rattle.xt_syntax.specs.Layers.{ArmLayer, BindLayer, AttrLayer, FlworLayer, OrderLayer}
use Rattle.xt_syntax.specs.Layers.{clause_gives, name_gives, part_gives, arm_gives}
use Rattle.xt_syntax.specs.Layers.{bind_gives, attr_gives, flwor_gives, order_gives, expr_gives}
use Rattle.expr_laws.proofs.Texts.{ExprForm, ArmForm, BindForm, OrderForm, AttrForm}
use Rattle.expr_laws.proofs.Texts.{FlworForm, ClauseForm, NameForm, PartForm}
use Rattle.rewrite_rules.specs.Moved.{placed, binds_at, behind_binds, clauses_at, behind_clauses}
use Rattle.rewrite_rules.specs.Moved.{expr_at, moved_steps}
use Rattle.rewrite_rules.proofs.Folded.{expr_layer, expr_rolled, arm_rolled, clause_layer}
use Rattle.rewrite_rules.proofs.Folded.{clause_rolled, order_rolled, flwor_layer}
use Rattle.rewrite_rules.proofs.Folded.{flwor_rolled, bind_rolled, name_layer, name_rolled}
use Rattle.rewrite_rules.proofs.Folded.{attr_rolled, part_layer, part_rolled}
use Rattle.xt_forms.specs.Nest.{nests}
use Rattle.rewrite_rules.specs.Sizes.{size_steps, size_of}
use Rattle.rewrite_rules.proofs.Measured.{size_rolled, arm_size_of, bind_size_of, clause_size_of}
use Rattle.rewrite_rules.proofs.Measured.{order_size_of, flwor_size_of, one_size}
use Rattle.rewrite_rules.proofs.LetsTidy.{sizes_of}
use Rattle.rewrite_rules.proofs.Settling.{Settles, settled, settle_one, settle_two, settle_list}
use Rattle.xt_names.specs.Lists.{total}

abbrev pub part_size_of : Part → ℕ
part_size_of = part_gives nests size_steps

abbrev pub name_size_of : NameSource → ℕ
name_size_of = name_gives nests size_steps

abbrev pub attr_size_of : DirectAttr → ℕ
attr_size_of = attr_gives nests size_steps

module _ (S : Type 0) (after : ExprName → S → S) (fix mark : S → Expr → Expr)
    (fixed : (s : S) (e m x : Expr) → Settles size_of m x e → Settles size_of (mark s m) (fix s x) e) where
  abbrev ks : Kinds
  ks = placed S after

  abbrev ss : Steps ks
  ss = moved_steps S after (λ s n. roll-Expr (Var n)) fix

  abbrev sm : Steps ks
  sm = moved_steps S after (λ s n. roll-Expr (Var n)) mark

  abbrev ClauseSettles : Clause → Type 0
  ClauseSettles x = ((s : S) → (clause_gives ks sm x).1 s ≡ (clause_gives ks ss x).1 s)
      × ((s : S) → Settles clause_size_of ((clause_gives ks sm x).0 s) ((clause_gives ks ss x).0 s) x)

  abbrev ExprSettles : Expr → Type 0
  ExprSettles x = (s : S) → Settles size_of (expr_gives ks sm x s) (expr_gives ks ss x s) x

  abbrev NameSettles : NameSource → Type 0
  NameSettles x = (s : S) → Settles name_size_of (name_gives ks sm x s) (name_gives ks ss x s) x

  abbrev PartSettles : Part → Type 0
  PartSettles x = (s : S) → Settles part_size_of (part_gives ks sm x s) (part_gives ks ss x s) x

  abbrev ArmSettles : Arm → Type 0
  ArmSettles x = (s : S) → Settles arm_size_of (arm_gives ks sm x s) (arm_gives ks ss x s) x

  abbrev BindSettles : Bind → Type 0
  BindSettles x = ((bind_gives ks sm x).0 ≡ (bind_gives ks ss x).0)
      × ((s : S) → Settles bind_size_of ((bind_gives ks sm x).1 s) ((bind_gives ks ss x).1 s) x)

  abbrev AttrSettles : DirectAttr → Type 0
  AttrSettles x = (s : S) → Settles attr_size_of (attr_gives ks sm x s) (attr_gives ks ss x s) x

  abbrev FlworSettles : FlworOf → Type 0
  FlworSettles x = (s : S) → Settles flwor_size_of (flwor_gives ks sm x s) (flwor_gives ks ss x s) x

  abbrev OrderSettles : Order → Type 0
  OrderSettles x = (s : S) → Settles order_size_of (order_gives ks sm x s) (order_gives ks ss x s) x

  abbrev known : Kinds
  known = record {
    Clauses = (x : Clause) × ClauseSettles x;
    Exprs = (x : Expr) × ExprSettles x;
    Names = (x : NameSource) × NameSettles x;
    Parts = (x : Part) × PartSettles x;
    Arms = (x : Arm) × ArmSettles x;
    Binds = (x : Bind) × BindSettles x;
    Attrs = (x : DirectAttr) × AttrSettles x;
    Flwors = (x : FlworOf) × FlworSettles x;
    Orders = (x : Order) × OrderSettles x;
  }

  exprs_settle : (ys : List known.Exprs) (s : S) → Settles (λ l. total (map size_of l))
      (map (λ y. y s) (map (expr_gives ks sm) (map (λ y. y.0) ys))) (map (λ y. y s) (map (expr_gives ks ss) (map (λ y. y.0) ys))) (map (λ y. y.0) ys)
  exprs_settle [] s = settled (λ l. total (map size_of l)) []
  exprs_settle (y ∷ ys) s = settle_list size_of (expr_gives ks sm y.0 s) (expr_gives ks ss y.0 s) y.0 (y.1 s) _ _ _ (exprs_settle ys s)

  arms_settle : (ys : List known.Arms) (s : S) → Settles (λ l. total (map arm_size_of l))
      (map (λ y. y s) (map (arm_gives ks sm) (map (λ y. y.0) ys))) (map (λ y. y s) (map (arm_gives ks ss) (map (λ y. y.0) ys))) (map (λ y. y.0) ys)
  arms_settle [] s = settled (λ l. total (map arm_size_of l)) []
  arms_settle (y ∷ ys) s = settle_list arm_size_of (arm_gives ks sm y.0 s) (arm_gives ks ss y.0 s) y.0 (y.1 s) _ _ _ (arms_settle ys s)

  orders_settle : (ys : List known.Orders) (s : S) → Settles (λ l. total (map order_size_of l))
      (map (λ y. y s) (map (order_gives ks sm) (map (λ y. y.0) ys))) (map (λ y. y s) (map (order_gives ks ss) (map (λ y. y.0) ys))) (map (λ y. y.0) ys)
  orders_settle [] s = settled (λ l. total (map order_size_of l)) []
  orders_settle (y ∷ ys) s = settle_list order_size_of (order_gives ks sm y.0 s) (order_gives ks ss y.0 s) y.0 (y.1 s) _ _ _ (orders_settle ys s)

  parts_settle : (ys : List known.Parts) (s : S) → Settles (λ l. total (map part_size_of l))
      (map (λ y. y s) (map (part_gives ks sm) (map (λ y. y.0) ys))) (map (λ y. y s) (map (part_gives ks ss) (map (λ y. y.0) ys))) (map (λ y. y.0) ys)
  parts_settle [] s = settled (λ l. total (map part_size_of l)) []
  parts_settle (y ∷ ys) s = settle_list part_size_of (part_gives ks sm y.0 s) (part_gives ks ss y.0 s) y.0 (y.1 s) _ _ _ (parts_settle ys s)

  attrs_settle : (ys : List known.Attrs) (s : S) → Settles (λ l. total (map attr_size_of l))
      (map (λ y. y s) (map (attr_gives ks sm) (map (λ y. y.0) ys))) (map (λ y. y s) (map (attr_gives ks ss) (map (λ y. y.0) ys))) (map (λ y. y.0) ys)
  attrs_settle [] s = settled (λ l. total (map attr_size_of l)) []
  attrs_settle (y ∷ ys) s = settle_list attr_size_of (attr_gives ks sm y.0 s) (attr_gives ks ss y.0 s) y.0 (y.1 s) _ _ _ (attrs_settle ys s)

  binds_behind : (ys : List known.Binds) (s : S) → (behind_binds S after (map (bind_gives ks sm) (map (λ y. y.0) ys)) s) ≡ (behind_binds S after (map (bind_gives ks ss) (map (λ y. y.0) ys)) s)
  binds_behind [] s = refl
  binds_behind (y ∷ ys) s =
      ap (λ v. (behind_binds S after (map (bind_gives ks sm) (map (λ y. y.0) ys)) (after v s))) y.1.0 ∙ binds_behind ys (after (bind_gives ks ss y.0).0 s)

  binds_settle : (ys : List known.Binds) (s : S) → Settles (λ l. total (map bind_size_of l))
      (binds_at S after (map (bind_gives ks sm) (map (λ y. y.0) ys)) s) (binds_at S after (map (bind_gives ks ss) (map (λ y. y.0) ys)) s) (map (λ y. y.0) ys)
  binds_settle [] s = settled (λ l. total (map bind_size_of l)) []
  binds_settle (y ∷ ys) s =
      settle_list bind_size_of ((bind_gives ks sm y.0).1 s) ((bind_gives ks ss y.0).1 s) y.0 (y.1.1 s) _ _ _
      (subst (λ v. Settles (λ l. total (map bind_size_of l)) (binds_at S after (map (bind_gives ks sm) (map (λ y. y.0) ys)) (after v s)) (binds_at S after (map (bind_gives ks ss) (map (λ y. y.0) ys)) (after (bind_gives ks ss y.0).0 s)) (map (λ y. y.0) ys))
      (sym y.1.0) (binds_settle ys (after (bind_gives ks ss y.0).0 s)))

  clauses_behind : (ys : List known.Clauses) (s : S) → (behind_clauses S after (map (clause_gives ks sm) (map (λ y. y.0) ys)) s) ≡ (behind_clauses S after (map (clause_gives ks ss) (map (λ y. y.0) ys)) s)
  clauses_behind [] s = refl
  clauses_behind (y ∷ ys) s =
      ap (λ v. (behind_clauses S after (map (clause_gives ks sm) (map (λ y. y.0) ys)) v)) (y.1.0 s) ∙ clauses_behind ys ((clause_gives ks ss y.0).1 s)

  clauses_settle : (ys : List known.Clauses) (s : S) → Settles (λ l. total (map clause_size_of l))
      (clauses_at S after (map (clause_gives ks sm) (map (λ y. y.0) ys)) s) (clauses_at S after (map (clause_gives ks ss) (map (λ y. y.0) ys)) s) (map (λ y. y.0) ys)
  clauses_settle [] s = settled (λ l. total (map clause_size_of l)) []
  clauses_settle (y ∷ ys) s =
      settle_list clause_size_of ((clause_gives ks sm y.0).0 s) ((clause_gives ks ss y.0).0 s) y.0 (y.1.1 s) _ _ _
      (subst (λ v. Settles (λ l. total (map clause_size_of l)) (clauses_at S after (map (clause_gives ks sm) (map (λ y. y.0) ys)) v) (clauses_at S after (map (clause_gives ks ss) (map (λ y. y.0) ys)) ((clause_gives ks ss y.0).1 s)) (map (λ y. y.0) ys))
      (sym (y.1.0 s)) (clauses_settle ys ((clause_gives ks ss y.0).1 s)))

  abbrev plain_expr : ExprLayer known → ExprForm
  plain_expr = map-Expr known.Clauses known.Exprs known.Names known.Parts known.Arms known.Binds known.Attrs known.Flwors known.Orders
      Clause Expr NameSource Part Arm Bind DirectAttr FlworOf Order
      (λ y. y.0) (λ y. y.0) (λ y. y.0) (λ y. y.0) (λ y. y.0) (λ y. y.0) (λ y. y.0) (λ y. y.0)
      (λ y. y.0)

  form_settles : (y : ExprLayer known) (s : S) →
      Settles size_of (expr_at S after (λ s n. roll-Expr (Var n)) mark (expr_layer ks sm (plain_expr y)) s)
      (expr_at S after (λ s n. roll-Expr (Var n)) fix (expr_layer ks ss (plain_expr y)) s) (roll-Expr (plain_expr y))
  form_settles (Int n) s = fixed s _ _ _
      (settled size_of (roll-Expr (Int n)))
  form_settles (Str text) s = fixed s _ _ _
      (settled size_of (roll-Expr (Str text)))
  form_settles (Var n) s = settled size_of (roll-Expr (Var n))
  form_settles Context s = fixed s _ _ _
      (settled size_of (roll-Expr (Context)))
  form_settles Root s = fixed s _ _ _
      (settled size_of (roll-Expr (Root)))
  form_settles (Comma all) s = fixed s _ _ _
      (settle_one (λ z. roll-Expr (Comma z)) (λ l. total (map size_of l)) size_of 1 (λ z. size_rolled (Comma z)) _ _ _ (exprs_settle all s))
  form_settles (Or all) s = fixed s _ _ _
      (settle_one (λ z. roll-Expr (Or z)) (λ l. total (map size_of l)) size_of 1 (λ z. size_rolled (Or z)) _ _ _ (exprs_settle all s))
  form_settles (And all) s = fixed s _ _ _
      (settle_one (λ z. roll-Expr (And z)) (λ l. total (map size_of l)) size_of 1 (λ z. size_rolled (And z)) _ _ _ (exprs_settle all s))
  form_settles (If arms other) s = fixed s _ _ _
      (settle_two (λ z w. roll-Expr (If z w)) (λ l. total (map arm_size_of l)) size_of size_of 1 (λ z w. size_rolled (If z w)) _ _ _ (arms_settle arms s) _ _ _ (other.1 s))
  form_settles (Flwor f) s = fixed s _ _ _
      (settle_one (λ z. roll-Expr (Flwor z)) flwor_size_of size_of 1 (λ z. size_rolled (Flwor z)) _ _ _ (f.1 s))
  form_settles (Quant every_one binds test) s = fixed s _ _ _
      (settle_two (λ z w. roll-Expr (Quant every_one z w)) (λ l. total (map bind_size_of l)) size_of size_of 1 (λ z w. size_rolled (Quant every_one z w)) _ _ _ (binds_settle binds s) _ _ _ (subst (λ v. Settles size_of (expr_gives ks sm test.0 v) (expr_gives ks ss test.0 (behind_binds S after (map (bind_gives ks ss) (map (λ y. y.0) binds)) s)) test.0)
      (sym (binds_behind binds s)) (test.1 (behind_binds S after (map (bind_gives ks ss) (map (λ y. y.0) binds)) s))))
  form_settles (General op a b) s = fixed s _ _ _
      (settle_two (λ z w. roll-Expr (General op z w)) size_of size_of size_of 1 (λ z w. size_rolled (General op z w)) _ _ _ (a.1 s) _ _ _ (b.1 s))
  form_settles (Value op a b) s = fixed s _ _ _
      (settle_two (λ z w. roll-Expr (Value op z w)) size_of size_of size_of 1 (λ z w. size_rolled (Value op z w)) _ _ _ (a.1 s) _ _ _ (b.1 s))
  form_settles (Is a b) s = fixed s _ _ _
      (settle_two (λ z w. roll-Expr (Is z w)) size_of size_of size_of 1 (λ z w. size_rolled (Is z w)) _ _ _ (a.1 s) _ _ _ (b.1 s))
  form_settles (Before a b) s = fixed s _ _ _
      (settle_two (λ z w. roll-Expr (Before z w)) size_of size_of size_of 1 (λ z w. size_rolled (Before z w)) _ _ _ (a.1 s) _ _ _ (b.1 s))
  form_settles (After a b) s = fixed s _ _ _
      (settle_two (λ z w. roll-Expr (After z w)) size_of size_of size_of 1 (λ z w. size_rolled (After z w)) _ _ _ (a.1 s) _ _ _ (b.1 s))
  form_settles (Range a b) s = fixed s _ _ _
      (settle_two (λ z w. roll-Expr (Range z w)) size_of size_of size_of 1 (λ z w. size_rolled (Range z w)) _ _ _ (a.1 s) _ _ _ (b.1 s))
  form_settles (Arith op a b) s = fixed s _ _ _
      (settle_two (λ z w. roll-Expr (Arith op z w)) size_of size_of size_of 1 (λ z w. size_rolled (Arith op z w)) _ _ _ (a.1 s) _ _ _ (b.1 s))
  form_settles (Union a b) s = fixed s _ _ _
      (settle_two (λ z w. roll-Expr (Union z w)) size_of size_of size_of 1 (λ z w. size_rolled (Union z w)) _ _ _ (a.1 s) _ _ _ (b.1 s))
  form_settles (Intersect a b) s = fixed s _ _ _
      (settle_two (λ z w. roll-Expr (Intersect z w)) size_of size_of size_of 1 (λ z w. size_rolled (Intersect z w)) _ _ _ (a.1 s) _ _ _ (b.1 s))
  form_settles (Except a b) s = fixed s _ _ _
      (settle_two (λ z w. roll-Expr (Except z w)) size_of size_of size_of 1 (λ z w. size_rolled (Except z w)) _ _ _ (a.1 s) _ _ _ (b.1 s))
  form_settles (Slash a b) s = fixed s _ _ _
      (settle_two (λ z w. roll-Expr (Slash z w)) size_of size_of size_of 1 (λ z w. size_rolled (Slash z w)) _ _ _ (a.1 s) _ _ _ (b.1 s))
  form_settles (Minus a) s = fixed s _ _ _
      (settle_one (λ z. roll-Expr (Minus z)) size_of size_of 1 (λ z. size_rolled (Minus z)) _ _ _ (a.1 s))
  form_settles (Plus a) s = fixed s _ _ _
      (settle_one (λ z. roll-Expr (Plus z)) size_of size_of 1 (λ z. size_rolled (Plus z)) _ _ _ (a.1 s))
  form_settles (InstanceOf a kind) s = fixed s _ _ _
      (settle_one (λ z. roll-Expr (InstanceOf z kind)) size_of size_of 1 (λ z. size_rolled (InstanceOf z kind)) _ _ _ (a.1 s))
  form_settles (Treat a kind) s = fixed s _ _ _
      (settle_one (λ z. roll-Expr (Treat z kind)) size_of size_of 1 (λ z. size_rolled (Treat z kind)) _ _ _ (a.1 s))
  form_settles (Castable a kind empty) s = fixed s _ _ _
      (settle_one (λ z. roll-Expr (Castable z kind empty)) size_of size_of 1 (λ z. size_rolled (Castable z kind empty)) _ _ _ (a.1 s))
  form_settles (Cast a kind empty) s = fixed s _ _ _
      (settle_one (λ z. roll-Expr (Cast z kind empty)) size_of size_of 1 (λ z. size_rolled (Cast z kind empty)) _ _ _ (a.1 s))
  form_settles (Step axis wanted tests) s = fixed s _ _ _
      (settle_one (λ z. roll-Expr (Step axis wanted z)) (λ l. total (map size_of l)) size_of 1 (λ z. size_rolled (Step axis wanted z)) _ _ _ (exprs_settle tests s))
  form_settles (Filter of tests) s = fixed s _ _ _
      (settle_two (λ z w. roll-Expr (Filter z w)) size_of (λ l. total (map size_of l)) size_of 1 (λ z w. size_rolled (Filter z w)) _ _ _ (of.1 s) _ _ _ (exprs_settle tests s))
  form_settles (Call name args) s = fixed s _ _ _
      (settle_one (λ z. roll-Expr (Call name z)) (λ l. total (map size_of l)) size_of 1 (λ z. size_rolled (Call name z)) _ _ _ (exprs_settle args s))
  form_settles (ElemC name content) s = fixed s _ _ _
      (settle_two (λ z w. roll-Expr (ElemC z w)) name_size_of size_of size_of 1 (λ z w. size_rolled (ElemC z w)) _ _ _ (name.1 s) _ _ _ (content.1 s))
  form_settles (AttrC name content) s = fixed s _ _ _
      (settle_two (λ z w. roll-Expr (AttrC z w)) name_size_of size_of size_of 1 (λ z w. size_rolled (AttrC z w)) _ _ _ (name.1 s) _ _ _ (content.1 s))
  form_settles (PiC name content) s = fixed s _ _ _
      (settle_two (λ z w. roll-Expr (PiC z w)) name_size_of size_of size_of 1 (λ z w. size_rolled (PiC z w)) _ _ _ (name.1 s) _ _ _ (content.1 s))
  form_settles (DocC content) s = fixed s _ _ _
      (settle_one (λ z. roll-Expr (DocC z)) size_of size_of 1 (λ z. size_rolled (DocC z)) _ _ _ (content.1 s))
  form_settles (TextC content) s = fixed s _ _ _
      (settle_one (λ z. roll-Expr (TextC z)) size_of size_of 1 (λ z. size_rolled (TextC z)) _ _ _ (content.1 s))
  form_settles (CommentC content) s = fixed s _ _ _
      (settle_one (λ z. roll-Expr (CommentC z)) size_of size_of 1 (λ z. size_rolled (CommentC z)) _ _ _ (content.1 s))
  form_settles (Direct name attrs parts) s = fixed s _ _ _
      (settle_two (λ z w. roll-Expr (Direct name z w)) (λ l. total (map attr_size_of l)) (λ l. total (map part_size_of l)) size_of 1 (λ z w. size_rolled (Direct name z w)) _ _ _ (attrs_settle attrs s) _ _ _ (parts_settle parts s))

  expr_step : (x : ExprForm) (y : ExprLayer known) → plain_expr y ≡ x → ExprSettles (roll-Expr x)
  expr_step x y is s = rw (← is, expr_rolled ks ss (plain_expr y), expr_rolled ks sm (plain_expr y)) (form_settles y s)

  zero_is : (n : ℕ) → n ≡ 0 + n
  zero_is n = omega arith

  abbrev plain_arm : ArmLayer known → ArmForm
  plain_arm = map-Arm known.Clauses known.Exprs known.Names known.Parts known.Arms known.Binds known.Attrs known.Flwors known.Orders
      Clause Expr NameSource Part Arm Bind DirectAttr FlworOf Order
      (λ y. y.0) (λ y. y.0) (λ y. y.0) (λ y. y.0) (λ y. y.0) (λ y. y.0) (λ y. y.0) (λ y. y.0)
      (λ y. y.0)

  arm_step : (x : ArmForm) (y : ArmLayer known) → plain_arm y ≡ x → ArmSettles (roll-Arm x)
  arm_step x y is s = rw (← is, arm_rolled ks ss (plain_arm y), arm_rolled ks sm (plain_arm y))
      (settle_two (λ z w. roll-Arm (record { test = z; then = w })) size_of size_of arm_size_of 0
      (λ z w. arm_rolled nests size_steps (record { test = z; then = w }) ∙ zero_is _) _ _ _ (y.test.1 s) _ _ _ (y.then.1 s))

  abbrev plain_order : OrderLayer known → OrderForm
  plain_order = map-Order known.Clauses known.Exprs known.Names known.Parts known.Arms known.Binds known.Attrs known.Flwors known.Orders
      Clause Expr NameSource Part Arm Bind DirectAttr FlworOf Order
      (λ y. y.0) (λ y. y.0) (λ y. y.0) (λ y. y.0) (λ y. y.0) (λ y. y.0) (λ y. y.0) (λ y. y.0)
      (λ y. y.0)

  order_step : (x : OrderForm) (y : OrderLayer known) → plain_order y ≡ x → OrderSettles (roll-Order x)
  order_step x y is s = rw (← is, order_rolled ks ss (plain_order y), order_rolled ks sm (plain_order y))
      (settle_one (λ z. roll-Order (record { key = z; descending = y.descending })) size_of order_size_of 0 (λ z. order_rolled nests size_steps (record { key = z; descending = y.descending }) ∙ zero_is _) _ _ _ (y.key.1 s))

  abbrev plain_attr : AttrLayer known → AttrForm
  plain_attr = map-DirectAttr known.Clauses known.Exprs known.Names known.Parts known.Arms known.Binds known.Attrs known.Flwors known.Orders
      Clause Expr NameSource Part Arm Bind DirectAttr FlworOf Order
      (λ y. y.0) (λ y. y.0) (λ y. y.0) (λ y. y.0) (λ y. y.0) (λ y. y.0) (λ y. y.0) (λ y. y.0)
      (λ y. y.0)

  attr_step : (x : AttrForm) (y : AttrLayer known) → plain_attr y ≡ x → AttrSettles (roll-DirectAttr x)
  attr_step x y is s = rw (← is, attr_rolled ks ss (plain_attr y), attr_rolled ks sm (plain_attr y))
      (settle_one (λ z. roll-DirectAttr (record { name = y.name; parts = z })) (λ l. total (map part_size_of l)) attr_size_of 0 (λ z. attr_rolled nests size_steps (record { name = y.name; parts = z }) ∙ zero_is _) _ _ _ (parts_settle y.parts s))

  abbrev plain_bind : BindLayer known → BindForm
  plain_bind = map-Bind known.Clauses known.Exprs known.Names known.Parts known.Arms known.Binds known.Attrs known.Flwors known.Orders
      Clause Expr NameSource Part Arm Bind DirectAttr FlworOf Order
      (λ y. y.0) (λ y. y.0) (λ y. y.0) (λ y. y.0) (λ y. y.0) (λ y. y.0) (λ y. y.0) (λ y. y.0)
      (λ y. y.0)

  bind_step : (x : BindForm) (y : BindLayer known) → plain_bind y ≡ x → BindSettles (roll-Bind x)
  bind_step x y is = rw (← is, bind_rolled ks ss (plain_bind y), bind_rolled ks sm (plain_bind y))
      (refl, λ s. settle_one (λ z. roll-Bind (record { var = y.var; kind = y.kind; source = z })) size_of bind_size_of 0 (λ z. bind_rolled nests size_steps (record { var = y.var; kind = y.kind; source = z }) ∙ zero_is _) _ _ _ (y.source.1 s))

  abbrev plain_name : NameLayer known → NameForm
  plain_name = map-NameSource known.Clauses known.Exprs known.Names known.Parts known.Arms known.Binds known.Attrs known.Flwors known.Orders
      Clause Expr NameSource Part Arm Bind DirectAttr FlworOf Order
      (λ y. y.0) (λ y. y.0) (λ y. y.0) (λ y. y.0) (λ y. y.0) (λ y. y.0) (λ y. y.0) (λ y. y.0)
      (λ y. y.0)

  name_settles : (y : NameLayer known) (s : S) →
      Settles name_size_of (sm.of_name (name_layer ks sm (plain_name y)) s) (ss.of_name (name_layer ks ss (plain_name y)) s)
      (roll-NameSource (plain_name y))
  name_settles (Fixed n) s = settled name_size_of (roll-NameSource (Fixed n))
  name_settles (Computed e) s = settle_one (λ z. roll-NameSource (Computed z)) size_of name_size_of 0 (λ z. name_rolled nests size_steps (Computed z) ∙ zero_is _) _ _ _ (e.1 s)

  name_step : (x : NameForm) (y : NameLayer known) → plain_name y ≡ x → NameSettles (roll-NameSource x)
  name_step x y is s = rw (← is, name_rolled ks ss (plain_name y), name_rolled ks sm (plain_name y)) (name_settles y s)

  abbrev plain_part : PartLayer known → PartForm
  plain_part = map-Part known.Clauses known.Exprs known.Names known.Parts known.Arms known.Binds known.Attrs known.Flwors known.Orders
      Clause Expr NameSource Part Arm Bind DirectAttr FlworOf Order
      (λ y. y.0) (λ y. y.0) (λ y. y.0) (λ y. y.0) (λ y. y.0) (λ y. y.0) (λ y. y.0) (λ y. y.0)
      (λ y. y.0)

  part_settles : (y : PartLayer known) (s : S) →
      Settles part_size_of (sm.of_part (part_layer ks sm (plain_part y)) s) (ss.of_part (part_layer ks ss (plain_part y)) s)
      (roll-Part (plain_part y))
  part_settles (Chars n) s = settled part_size_of (roll-Part (Chars n))
  part_settles (Enclosed e) s = settle_one (λ z. roll-Part (Enclosed z)) size_of part_size_of 0 (λ z. part_rolled nests size_steps (Enclosed z) ∙ zero_is _) _ _ _ (e.1 s)
  part_settles (Child e) s = settle_one (λ z. roll-Part (Child z)) size_of part_size_of 0 (λ z. part_rolled nests size_steps (Child z) ∙ zero_is _) _ _ _ (e.1 s)

  part_step : (x : PartForm) (y : PartLayer known) → plain_part y ≡ x → PartSettles (roll-Part x)
  part_step x y is s = rw (← is, part_rolled ks ss (plain_part y), part_rolled ks sm (plain_part y)) (part_settles y s)

  abbrev plain_clause : ClauseLayer known → ClauseForm
  plain_clause = map-Clause known.Clauses known.Exprs known.Names known.Parts known.Arms known.Binds known.Attrs known.Flwors known.Orders
      Clause Expr NameSource Part Arm Bind DirectAttr FlworOf Order
      (λ y. y.0) (λ y. y.0) (λ y. y.0) (λ y. y.0) (λ y. y.0) (λ y. y.0) (λ y. y.0) (λ y. y.0)
      (λ y. y.0)

  clause_settles : (y : ClauseLayer known) →
      ((s : S) → (sm.of_clause (clause_layer ks sm (plain_clause y))).1 s ≡ (ss.of_clause (clause_layer ks ss (plain_clause y))).1 s)
      × ((s : S) → Settles clause_size_of ((sm.of_clause (clause_layer ks sm (plain_clause y))).0 s)
      ((ss.of_clause (clause_layer ks ss (plain_clause y))).0 s) (roll-Clause (plain_clause y)))
  clause_settles (For b None) = (λ s. ap (λ v. after v s) b.1.0, λ s. settle_one (λ z. roll-Clause (For z None)) bind_size_of clause_size_of 1 (λ z. clause_rolled nests size_steps (For z None)) _ _ _ (b.1.1 s))
  clause_settles (For b (Some place)) = (λ s. ap (λ v. after place (after v s)) b.1.0, λ s. settle_one (λ z. roll-Clause (For z (Some place))) bind_size_of clause_size_of 1 (λ z. clause_rolled nests size_steps (For z (Some place))) _ _ _ (b.1.1 s))
  clause_settles (Let b) = (λ s. ap (λ v. after v s) b.1.0, λ s. settle_one (λ z. roll-Clause (Let z)) bind_size_of clause_size_of 0 (λ z. clause_rolled nests size_steps (Let z) ∙ zero_is _) _ _ _ (b.1.1 s))

  clause_step : (x : ClauseForm) (y : ClauseLayer known) → plain_clause y ≡ x → ClauseSettles (roll-Clause x)
  clause_step x y is = rw (← is, clause_rolled ks ss (plain_clause y), clause_rolled ks sm (plain_clause y)) (clause_settles y)

  abbrev plain_flwor : FlworLayer known → FlworForm
  plain_flwor = map-Flwor known.Clauses known.Exprs known.Names known.Parts known.Arms known.Binds known.Attrs known.Flwors known.Orders
      Clause Expr NameSource Part Arm Bind DirectAttr FlworOf Order
      (λ y. y.0) (λ y. y.0) (λ y. y.0) (λ y. y.0) (λ y. y.0) (λ y. y.0) (λ y. y.0) (λ y. y.0)
      (λ y. y.0)

  abbrev Front : Type 0
  Front = List Clause × Option Expr

  abbrev Back : Type 0
  Back = List Order × Expr

  abbrev front_size : Front → ℕ
  front_size a = total (map clause_size_of a.0) + one_size a.1

  abbrev back_size : Back → ℕ
  back_size b = total (map order_size_of b.0) + size_of b.1

  abbrev whole : Bool → Front → Back → FlworOf
  whole st a b = roll-Flwor (record { clauses = a.0; test = a.1; orders = b.0; stable = st; body = b.1 })

  whole_size : (st : Bool) (a : Front) (b : Back) → flwor_size_of (whole st a b) ≡ 0 + (front_size a + back_size b)
  whole_size st a b =
      sizes_of (record { clauses = a.0; test = a.1; orders = b.0; stable = st; body = b.1 })
      ∙ turn (total (map clause_size_of a.0)) (one_size a.1) (total (map order_size_of b.0) + size_of b.1)
    where
      turn : (a b r : ℕ) → a + (b + r) ≡ 0 + ((a + b) + r)
      turn a b r = omega arith

  flwor_settles : (cs : List known.Clauses) (test : Option known.Exprs) (os : List known.Orders) (st : Bool)
      (b : known.Exprs) (s : S) → Settles flwor_size_of
      (sm.of_flwor (flwor_layer ks sm (plain_flwor (record { clauses = cs; test = test; orders = os; stable = st; body = b }))) s)
      (ss.of_flwor (flwor_layer ks ss (plain_flwor (record { clauses = cs; test = test; orders = os; stable = st; body = b }))) s)
      (roll-Flwor (plain_flwor (record { clauses = cs; test = test; orders = os; stable = st; body = b })))
  flwor_settles cs None os st b s =
      settle_two (whole st) front_size back_size flwor_size_of 0 (whole_size st)
      ((clauses_at S after (map (clause_gives ks sm) (map (λ y. y.0) cs)) s), None)
      ((clauses_at S after (map (clause_gives ks ss) (map (λ y. y.0) cs)) s), None) (map (λ y. y.0) cs, None)
      (settle_two (λ c t. (c, t)) (λ l. total (map clause_size_of l)) one_size front_size 0 (λ c t. zero_is _) _ _ _ (clauses_settle cs s) _ _ _
      (settled one_size None))
      ((map (λ q. q (behind_clauses S after (map (clause_gives ks sm) (map (λ y. y.0) cs)) s)) (map (order_gives ks sm) (map (λ y. y.0) os))), expr_gives ks sm b.0 (behind_clauses S after (map (clause_gives ks sm) (map (λ y. y.0) cs)) s))
      ((map (λ q. q (behind_clauses S after (map (clause_gives ks ss) (map (λ y. y.0) cs)) s)) (map (order_gives ks ss) (map (λ y. y.0) os))), expr_gives ks ss b.0 (behind_clauses S after (map (clause_gives ks ss) (map (λ y. y.0) cs)) s)) (map (λ y. y.0) os, b.0)
      (settle_two (λ l e. (l, e)) (λ l. total (map order_size_of l)) size_of back_size 0 (λ l e. zero_is _) _ _ _
      (subst (λ v. Settles (λ l. total (map order_size_of l)) (map (λ q. q v) (map (order_gives ks sm) (map (λ y. y.0) os))) (map (λ q. q (behind_clauses S after (map (clause_gives ks ss) (map (λ y. y.0) cs)) s)) (map (order_gives ks ss) (map (λ y. y.0) os))) (map (λ y. y.0) os))
      (sym (clauses_behind cs s)) (orders_settle os (behind_clauses S after (map (clause_gives ks ss) (map (λ y. y.0) cs)) s))) _ _ _
      (subst (λ v. Settles size_of (expr_gives ks sm b.0 v) (expr_gives ks ss b.0 (behind_clauses S after (map (clause_gives ks ss) (map (λ y. y.0) cs)) s)) b.0)
      (sym (clauses_behind cs s)) (b.1 (behind_clauses S after (map (clause_gives ks ss) (map (λ y. y.0) cs)) s))))
  flwor_settles cs (Some test) os st b s =
      settle_two (whole st) front_size back_size flwor_size_of 0 (whole_size st)
      ((clauses_at S after (map (clause_gives ks sm) (map (λ y. y.0) cs)) s), (Some (expr_gives ks sm test.0 (behind_clauses S after (map (clause_gives ks sm) (map (λ y. y.0) cs)) s))))
      ((clauses_at S after (map (clause_gives ks ss) (map (λ y. y.0) cs)) s), (Some (expr_gives ks ss test.0 (behind_clauses S after (map (clause_gives ks ss) (map (λ y. y.0) cs)) s)))) (map (λ y. y.0) cs, (Some test.0))
      (settle_two (λ c t. (c, t)) (λ l. total (map clause_size_of l)) one_size front_size 0 (λ c t. zero_is _) _ _ _ (clauses_settle cs s) _ _ _
      (settle_one (λ z. Some z) size_of one_size 0 (λ z. zero_is _) _ _ _
      (subst (λ v. Settles size_of (expr_gives ks sm test.0 v) (expr_gives ks ss test.0 (behind_clauses S after (map (clause_gives ks ss) (map (λ y. y.0) cs)) s)) test.0)
      (sym (clauses_behind cs s)) (test.1 (behind_clauses S after (map (clause_gives ks ss) (map (λ y. y.0) cs)) s)))))
      ((map (λ q. q (behind_clauses S after (map (clause_gives ks sm) (map (λ y. y.0) cs)) s)) (map (order_gives ks sm) (map (λ y. y.0) os))), expr_gives ks sm b.0 (behind_clauses S after (map (clause_gives ks sm) (map (λ y. y.0) cs)) s))
      ((map (λ q. q (behind_clauses S after (map (clause_gives ks ss) (map (λ y. y.0) cs)) s)) (map (order_gives ks ss) (map (λ y. y.0) os))), expr_gives ks ss b.0 (behind_clauses S after (map (clause_gives ks ss) (map (λ y. y.0) cs)) s)) (map (λ y. y.0) os, b.0)
      (settle_two (λ l e. (l, e)) (λ l. total (map order_size_of l)) size_of back_size 0 (λ l e. zero_is _) _ _ _
      (subst (λ v. Settles (λ l. total (map order_size_of l)) (map (λ q. q v) (map (order_gives ks sm) (map (λ y. y.0) os))) (map (λ q. q (behind_clauses S after (map (clause_gives ks ss) (map (λ y. y.0) cs)) s)) (map (order_gives ks ss) (map (λ y. y.0) os))) (map (λ y. y.0) os))
      (sym (clauses_behind cs s)) (orders_settle os (behind_clauses S after (map (clause_gives ks ss) (map (λ y. y.0) cs)) s))) _ _ _
      (subst (λ v. Settles size_of (expr_gives ks sm b.0 v) (expr_gives ks ss b.0 (behind_clauses S after (map (clause_gives ks ss) (map (λ y. y.0) cs)) s)) b.0)
      (sym (clauses_behind cs s)) (b.1 (behind_clauses S after (map (clause_gives ks ss) (map (λ y. y.0) cs)) s))))

  flwor_step : (x : FlworForm) (y : FlworLayer known) → plain_flwor y ≡ x → FlworSettles (roll-Flwor x)
  flwor_step x y is s = rw (← is, flwor_rolled ks ss (plain_flwor y), flwor_rolled ks sm (plain_flwor y))
      (flwor_settles y.clauses y.test y.orders y.stable y.body s)

  pub moved_settles : (e : Expr) → ExprSettles e
  moved_settles = ind-Expr ClauseSettles ExprSettles NameSettles PartSettles ArmSettles BindSettles AttrSettles FlworSettles
      OrderSettles clause_step expr_step name_step part_step arm_step bind_step attr_step flwor_step order_step
