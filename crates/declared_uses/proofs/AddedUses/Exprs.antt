-- What is so of all that is found in an expression.
use Rattle.std.proofs.Common.{◌≡◌, ℕ, List, [], ◌∷◌, Option, Some, None, map, sym}
use Rattle.std.proofs.Common.{subst, length}
use Rattle.xt_names.specs.declared.names.ExprName.{ExprName}
use Rattle.xt_syntax.specs.declared.exprs.Expr.{Expr}
use Rattle.xt_syntax.specs.declared.exprs.Arm.{Arm}
use Rattle.xt_syntax.specs.declared.exprs.Clause.{Clause}
use Rattle.xt_syntax.specs.declared.exprs.Order.{Order}
use Rattle.xt_syntax.specs.declared.exprs.Flwor.{Flwor as FlworOf}
use Rattle.xt_syntax.specs.declared.exprs.Bind.{Bind}
use Rattle.xt_syntax.specs.declared.exprs.NameSource.{NameSource}
use Rattle.xt_syntax.specs.declared.exprs.DirectAttr.{DirectAttr}
use Rattle.xt_syntax.specs.declared.exprs.Part.{Part}
use Rattle.xt_syntax.specs.declared.exprs.Clause.TheOpen.{Expr-F, Arm-F, Clause-F}
use Rattle.xt_syntax.specs.declared.exprs.Clause.TheOpen.{Flwor-F, Bind-F}
use Rattle.xt_syntax.specs.declared.exprs.Clause.TheOpen.{Int, Str, Var, Context, Root, Comma, Or}
use Rattle.xt_syntax.specs.declared.exprs.Clause.TheOpen.{And, If, Flwor, Quant, General, Value}
use Rattle.xt_syntax.specs.declared.exprs.Clause.TheOpen.{Is, Before, After, Range, Arith, Minus}
use Rattle.xt_syntax.specs.declared.exprs.Clause.TheOpen.{Plus, Union, Intersect, Except}
use Rattle.xt_syntax.specs.declared.exprs.Clause.TheOpen.{InstanceOf, Treat, Castable, Cast, Slash}
use Rattle.xt_syntax.specs.declared.exprs.Clause.TheOpen.{Step, Filter, Call, ElemC, AttrC, DocC}
use Rattle.xt_syntax.specs.declared.exprs.Clause.TheOpen.{TextC, CommentC, PiC, Direct, For, Let}
use Rattle.xt_syntax.specs.declared.exprs.Clause.TheViews.{roll-Expr, roll-Arm, roll-Clause}
use Rattle.xt_syntax.specs.declared.exprs.Clause.TheViews.{roll-Flwor, roll-Bind}
use Rattle.xt_syntax.specs.declared.exprs.Clause.TheFolds.{fold-roll-Expr, fold-roll-Arm}
use Rattle.xt_syntax.specs.declared.exprs.Clause.TheFolds.{fold-roll-Clause, fold-roll-Flwor}
use Rattle.xt_syntax.specs.declared.exprs.Clause.TheFolds.{fold-roll-Bind, ind-Expr}
use Rattle.xt_syntax.specs.declared.exprs.Clause.TheFolds.{map-Expr, map-Arm, map-Clause}
use Rattle.xt_syntax.specs.declared.exprs.Clause.TheFolds.{map-Flwor, map-Bind}
use Rattle.xt_syntax.specs.Layers.{Kinds, ExprLayer, ClauseLayer, ArmLayer, BindLayer, FlworLayer}
use Rattle.xt_syntax.specs.Layers.{name_gives, part_gives, attr_gives, order_gives}
use Rattle.name_rules.specs.Scopes.{with_names}
use Rattle.sheet_uses.specs.Exprs.{Finds, Found, Binder, uses, nothing, two, all_in, all_found}
use Rattle.sheet_uses.specs.Exprs.{binders_in, behind, variable_in, first_literal, called, call_in}
use Rattle.sheet_uses.specs.Exprs.{expr_layer, clause_layer, use_steps, expr_uses, arm_uses}
use Rattle.sheet_uses.specs.Exprs.{clause_binder, bind_binder, flwor_uses}

-- what is so of nothing, of a variable and of a call, and of what is found one after the other
pub record Closed (P : Finds → Type 0) : Type 0 where
  pub none : P nothing
  pub after : (a b : Finds) (into : List ExprName → List ExprName) → P a → P b
      → P (λ scope found. b (into scope) (a scope found))
  pub variable : (n : ExprName) → P (variable_in n)
  pub call : (n : ExprName) (arity : ℕ) (literal : Option (List ℕ))
      → P (λ scope found. called n arity literal found)

abbrev clause_value : Clause-F Clause Expr NameSource Part Arm Bind DirectAttr FlworOf Order → Binder
clause_value x = clause_layer
    (map-Clause Clause Expr NameSource Part Arm Bind DirectAttr FlworOf Order uses.Clauses
    uses.Exprs uses.Names uses.Parts uses.Arms uses.Binds uses.Attrs uses.Flwors
    uses.Orders clause_binder expr_uses (name_gives uses use_steps) (part_gives uses use_steps)
    arm_uses bind_binder (attr_gives uses use_steps) flwor_uses (order_gives uses use_steps) x)

rolled_clause : (x : Clause-F Clause Expr NameSource Part Arm Bind DirectAttr FlworOf Order) →
    clause_binder (roll-Clause x) ≡ clause_value x
rolled_clause x = fold-roll-Clause _ _ _ _ _ _ _ _ _ _ _ _ _ _ _ _ _ _ x

abbrev expr_value : Expr-F Clause Expr NameSource Part Arm Bind DirectAttr FlworOf Order → Found
expr_value x = expr_layer
    (map-Expr Clause Expr NameSource Part Arm Bind DirectAttr FlworOf Order uses.Clauses
    uses.Exprs uses.Names uses.Parts uses.Arms uses.Binds uses.Attrs uses.Flwors
    uses.Orders clause_binder expr_uses (name_gives uses use_steps) (part_gives uses use_steps)
    arm_uses bind_binder (attr_gives uses use_steps) flwor_uses (order_gives uses use_steps) x)

rolled_expr : (x : Expr-F Clause Expr NameSource Part Arm Bind DirectAttr FlworOf Order) →
    expr_uses (roll-Expr x) ≡ expr_value x
rolled_expr x = fold-roll-Expr _ _ _ _ _ _ _ _ _ _ _ _ _ _ _ _ _ _ x

abbrev arm_value : Arm-F Clause Expr NameSource Part Arm Bind DirectAttr FlworOf Order → Finds
arm_value x = use_steps.of_arm
    (map-Arm Clause Expr NameSource Part Arm Bind DirectAttr FlworOf Order uses.Clauses
    uses.Exprs uses.Names uses.Parts uses.Arms uses.Binds uses.Attrs uses.Flwors
    uses.Orders clause_binder expr_uses (name_gives uses use_steps) (part_gives uses use_steps)
    arm_uses bind_binder (attr_gives uses use_steps) flwor_uses (order_gives uses use_steps) x)

rolled_arm : (x : Arm-F Clause Expr NameSource Part Arm Bind DirectAttr FlworOf Order) →
    arm_uses (roll-Arm x) ≡ arm_value x
rolled_arm x = fold-roll-Arm _ _ _ _ _ _ _ _ _ _ _ _ _ _ _ _ _ _ x

abbrev bind_value : Bind-F Clause Expr NameSource Part Arm Bind DirectAttr FlworOf Order → Binder
bind_value x = use_steps.of_bind
    (map-Bind Clause Expr NameSource Part Arm Bind DirectAttr FlworOf Order uses.Clauses
    uses.Exprs uses.Names uses.Parts uses.Arms uses.Binds uses.Attrs uses.Flwors
    uses.Orders clause_binder expr_uses (name_gives uses use_steps) (part_gives uses use_steps)
    arm_uses bind_binder (attr_gives uses use_steps) flwor_uses (order_gives uses use_steps) x)

rolled_bind : (x : Bind-F Clause Expr NameSource Part Arm Bind DirectAttr FlworOf Order) →
    bind_binder (roll-Bind x) ≡ bind_value x
rolled_bind x = fold-roll-Bind _ _ _ _ _ _ _ _ _ _ _ _ _ _ _ _ _ _ x

abbrev flwor_value : Flwor-F Clause Expr NameSource Part Arm Bind DirectAttr FlworOf Order → Finds
flwor_value x = use_steps.of_flwor
    (map-Flwor Clause Expr NameSource Part Arm Bind DirectAttr FlworOf Order uses.Clauses
    uses.Exprs uses.Names uses.Parts uses.Arms uses.Binds uses.Attrs uses.Flwors
    uses.Orders clause_binder expr_uses (name_gives uses use_steps) (part_gives uses use_steps)
    arm_uses bind_binder (attr_gives uses use_steps) flwor_uses (order_gives uses use_steps) x)

rolled_flwor : (x : Flwor-F Clause Expr NameSource Part Arm Bind DirectAttr FlworOf Order) →
    flwor_uses (roll-Flwor x) ≡ flwor_value x
rolled_flwor x = fold-roll-Flwor _ _ _ _ _ _ _ _ _ _ _ _ _ _ _ _ _ _ x

module _ (P : Finds → Type 0) (c : Closed P) where
  pub two_have : (a b : Finds) → P a → P b → P (two a b)
  two_have a b f g = c.after a b (λ scope. scope) f g

  pub all_have : {A : Type 0} (f : A → Finds) (ys : List ((x : A) × P (f x)))
      → P (all_in (map f (map (λ y. y.0) ys)))
  all_have f [] = c.none
  all_have f (y ∷ ys) =
      c.after (f y.0) (all_in (map f (map (λ y. y.0) ys))) (λ scope. scope) y.1 (all_have f ys)

  pub each_has : {A : Type 0} (f : A → Finds) → ((x : A) → P (f x)) → (xs : List A)
      → P (all_in (map f xs))
  each_has f h [] = c.none
  each_has f h (x ∷ xs) =
      c.after (f x) (all_in (map f xs)) (λ scope. scope) (h x) (each_has f h xs)

  pub binders_have : {A : Type 0} (n : A → List ExprName) (f : A → Finds)
      (ys : List ((x : A) × P (f x)))
      → P (binders_in (map (λ x. record { names = n x; source = f x }) (map (λ y. y.0) ys)))
  binders_have n f [] = c.none
  binders_have n f (y ∷ ys) =
      c.after (f y.0)
      (binders_in (map (λ x. record { names = n x; source = f x }) (map (λ y. y.0) ys)))
      (λ scope. with_names scope (n y.0)) y.1 (binders_have n f ys)

  exprs_have : (ys : List ((e : Expr) × P (expr_uses e).finds))
      → P (all_found (map expr_uses (map (λ y. y.0) ys)))
  exprs_have [] = c.none
  exprs_have (y ∷ ys) =
      c.after (expr_uses y.0).finds (all_found (map expr_uses (map (λ y. y.0) ys)))
      (λ scope. scope) y.1 (exprs_have ys)

  call_has : (name : ExprName) (args : List Found) → P (all_found args) → P (call_in name args)
  call_has name args f =
      c.after (λ scope found. called name (length args) (first_literal args) found) (all_found args)
      (λ scope. scope) (c.call name (length args) (first_literal args)) f

  abbrev ClauseOf : Clause → Type 0
  ClauseOf x = P (clause_binder x).source

  abbrev ExprOf : Expr → Type 0
  ExprOf x = P (expr_uses x).finds

  abbrev NameSourceOf : NameSource → Type 0
  NameSourceOf x = Unit {0}

  abbrev PartOf : Part → Type 0
  PartOf x = Unit {0}

  abbrev ArmOf : Arm → Type 0
  ArmOf x = P (arm_uses x)

  abbrev BindOf : Bind → Type 0
  BindOf x = P (bind_binder x).source

  abbrev DirectAttrOf : DirectAttr → Type 0
  DirectAttrOf x = Unit {0}

  abbrev FlworHas : FlworOf → Type 0
  FlworHas x = P (flwor_uses x)

  abbrev OrderOf : Order → Type 0
  OrderOf x = Unit {0}

  -- parts, each with what is known of it
  abbrev known : Kinds
  known = record {
    Clauses = (x : Clause) × ClauseOf x;
    Exprs = (x : Expr) × ExprOf x;
    Names = (x : NameSource) × NameSourceOf x;
    Parts = (x : Part) × PartOf x;
    Arms = (x : Arm) × ArmOf x;
    Binds = (x : Bind) × BindOf x;
    Attrs = (x : DirectAttr) × DirectAttrOf x;
    Flwors = (x : FlworOf) × FlworHas x;
    Orders = (x : Order) × OrderOf x;
  }

  abbrev plain_clause : ClauseLayer known →
      Clause-F Clause Expr NameSource Part Arm Bind DirectAttr FlworOf Order
  plain_clause =
      map-Clause known.Clauses known.Exprs known.Names known.Parts known.Arms known.Binds
      known.Attrs known.Flwors known.Orders Clause Expr NameSource Part Arm Bind DirectAttr
      FlworOf Order (λ y. y.0) (λ y. y.0) (λ y. y.0) (λ y. y.0) (λ y. y.0) (λ y. y.0) (λ y. y.0)
      (λ y. y.0) (λ y. y.0)

  abbrev plain_expr : ExprLayer known →
      Expr-F Clause Expr NameSource Part Arm Bind DirectAttr FlworOf Order
  plain_expr =
      map-Expr known.Clauses known.Exprs known.Names known.Parts known.Arms known.Binds
      known.Attrs known.Flwors known.Orders Clause Expr NameSource Part Arm Bind DirectAttr
      FlworOf Order (λ y. y.0) (λ y. y.0) (λ y. y.0) (λ y. y.0) (λ y. y.0) (λ y. y.0) (λ y. y.0)
      (λ y. y.0) (λ y. y.0)

  abbrev plain_arm : ArmLayer known →
      Arm-F Clause Expr NameSource Part Arm Bind DirectAttr FlworOf Order
  plain_arm =
      map-Arm known.Clauses known.Exprs known.Names known.Parts known.Arms known.Binds
      known.Attrs known.Flwors known.Orders Clause Expr NameSource Part Arm Bind DirectAttr
      FlworOf Order (λ y. y.0) (λ y. y.0) (λ y. y.0) (λ y. y.0) (λ y. y.0) (λ y. y.0) (λ y. y.0)
      (λ y. y.0) (λ y. y.0)

  abbrev plain_bind : BindLayer known →
      Bind-F Clause Expr NameSource Part Arm Bind DirectAttr FlworOf Order
  plain_bind =
      map-Bind known.Clauses known.Exprs known.Names known.Parts known.Arms known.Binds
      known.Attrs known.Flwors known.Orders Clause Expr NameSource Part Arm Bind DirectAttr
      FlworOf Order (λ y. y.0) (λ y. y.0) (λ y. y.0) (λ y. y.0) (λ y. y.0) (λ y. y.0) (λ y. y.0)
      (λ y. y.0) (λ y. y.0)

  abbrev plain_flwor : FlworLayer known →
      Flwor-F Clause Expr NameSource Part Arm Bind DirectAttr FlworOf Order
  plain_flwor =
      map-Flwor known.Clauses known.Exprs known.Names known.Parts known.Arms known.Binds
      known.Attrs known.Flwors known.Orders Clause Expr NameSource Part Arm Bind DirectAttr
      FlworOf Order (λ y. y.0) (λ y. y.0) (λ y. y.0) (λ y. y.0) (λ y. y.0) (λ y. y.0) (λ y. y.0)
      (λ y. y.0) (λ y. y.0)

  clause_so : (y : ClauseLayer known) → P (clause_value (plain_clause y)).source
  clause_so (For b None) = b.1
  clause_so (For b (Some at)) = b.1
  clause_so (Let b) = b.1

  clause_step : (x : Clause-F Clause Expr NameSource Part Arm Bind DirectAttr FlworOf Order)
      (y : ClauseLayer known) → plain_clause y ≡ x → ClauseOf (roll-Clause x)
  clause_step x y is = subst (λ z. ClauseOf (roll-Clause z)) is
      (subst (λ (r : Binder). P r.source) (sym (rolled_clause (plain_clause y))) (clause_so y))

  both_so : (a b : known.Exprs) → P (two (expr_uses a.0).finds (expr_uses b.0).finds)
  both_so a b = two_have (expr_uses a.0).finds (expr_uses b.0).finds a.1 b.1

  -- what comes after what binds
  bound_has : (bs : List Binder) (f : Finds) → P (binders_in bs) → P f
      → P (λ scope found. f (behind bs scope) (binders_in bs scope found))
  bound_has bs f g h = c.after (binders_in bs) f (behind bs) g h

  binds_so : (ys : List known.Binds) → P (binders_in (map bind_binder (map (λ y. y.0) ys)))
  binds_so ys = binders_have (λ b. (bind_binder b).names) (λ b. (bind_binder b).source) ys

  clauses_so : (ys : List known.Clauses) → P (binders_in (map clause_binder (map (λ y. y.0) ys)))
  clauses_so ys = binders_have (λ b. (clause_binder b).names) (λ b. (clause_binder b).source) ys

  expr_so : (y : ExprLayer known) → P (expr_value (plain_expr y)).finds
  expr_so (Int n) = c.none
  expr_so (Str t) = c.none
  expr_so (Var name) = c.variable name
  expr_so Context = c.none
  expr_so Root = c.none
  expr_so (Comma all) = exprs_have all
  expr_so (Or all) = exprs_have all
  expr_so (And all) = exprs_have all
  expr_so (If arms other) = two_have _ _ (all_have arm_uses arms) other.1
  expr_so (Flwor f) = f.1
  expr_so (Quant every binds test) = bound_has (map bind_binder (map (λ y. y.0) binds))
      (expr_uses test.0).finds (binds_so binds) test.1
  expr_so (General op a b) = both_so a b
  expr_so (Value op a b) = both_so a b
  expr_so (Is a b) = both_so a b
  expr_so (Before a b) = both_so a b
  expr_so (After a b) = both_so a b
  expr_so (Range a b) = both_so a b
  expr_so (Arith op a b) = both_so a b
  expr_so (Minus a) = a.1
  expr_so (Plus a) = a.1
  expr_so (Union a b) = both_so a b
  expr_so (Intersect a b) = both_so a b
  expr_so (Except a b) = both_so a b
  expr_so (InstanceOf a kind) = a.1
  expr_so (Treat a kind) = a.1
  expr_so (Castable a kind empty) = a.1
  expr_so (Cast a kind empty) = a.1
  expr_so (Slash a b) = both_so a b
  expr_so (Step axis wanted tests) = exprs_have tests
  expr_so (Filter of tests) = two_have _ _ of.1 (exprs_have tests)
  expr_so (Call name args) = call_has name (map expr_uses (map (λ y. y.0) args)) (exprs_have args)
  expr_so (ElemC name content) = c.none
  expr_so (AttrC name content) = c.none
  expr_so (DocC content) = c.none
  expr_so (TextC content) = c.none
  expr_so (CommentC content) = c.none
  expr_so (PiC name content) = c.none
  expr_so (Direct name attrs parts) = c.none

  expr_step : (x : Expr-F Clause Expr NameSource Part Arm Bind DirectAttr FlworOf Order)
      (y : ExprLayer known) → plain_expr y ≡ x → ExprOf (roll-Expr x)
  expr_step x y is = subst (λ z. ExprOf (roll-Expr z)) is
      (subst (λ (r : Found). P r.finds) (sym (rolled_expr (plain_expr y))) (expr_so y))

  arm_step : (x : Arm-F Clause Expr NameSource Part Arm Bind DirectAttr FlworOf Order)
      (y : ArmLayer known) → plain_arm y ≡ x → ArmOf (roll-Arm x)
  arm_step x y is = subst (λ z. ArmOf (roll-Arm z)) is
      (subst P (sym (rolled_arm (plain_arm y))) (both_so y.test y.then))

  bind_step : (x : Bind-F Clause Expr NameSource Part Arm Bind DirectAttr FlworOf Order)
      (y : BindLayer known) → plain_bind y ≡ x → BindOf (roll-Bind x)
  bind_step x y is = subst (λ z. BindOf (roll-Bind z)) is
      (subst (λ (r : Binder). P r.source) (sym (rolled_bind (plain_bind y))) y.source.1)

  flwor_step : (x : Flwor-F Clause Expr NameSource Part Arm Bind DirectAttr FlworOf Order)
      (y : FlworLayer known) → plain_flwor y ≡ x → FlworHas (roll-Flwor x)
  flwor_step x y is = subst (λ z. FlworHas (roll-Flwor z)) is
      (subst P (sym (rolled_flwor (plain_flwor y)))
      (bound_has (map clause_binder (map (λ c. c.0) y.clauses)) (expr_uses y.body.0).finds
      (clauses_so y.clauses) y.body.1))

  pub expr_has : (e : Expr) → P (expr_uses e).finds
  expr_has = ind-Expr ClauseOf ExprOf NameSourceOf PartOf ArmOf BindOf DirectAttrOf FlworHas OrderOf
      clause_step expr_step (λ x y is. tt) (λ x y is. tt) arm_step bind_step (λ x y is. tt) flwor_step
      (λ x y is. tt)
