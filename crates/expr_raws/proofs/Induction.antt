-- Recursion over expressions with their forms: a fact of each form and its expression holds of all,
-- where it holds of what is made of parts that it holds of.
use Rattle.std.proofs.Common.{◌≡◌, sym, subst}
use Rattle.xt_syntax.specs.declared.exprs.Clause.{Clause}
use Rattle.xt_syntax.specs.declared.exprs.Expr.{Expr}
use Rattle.xt_syntax.specs.declared.exprs.NameSource.{NameSource}
use Rattle.xt_syntax.specs.declared.exprs.Part.{Part}
use Rattle.xt_syntax.specs.declared.exprs.Arm.{Arm}
use Rattle.xt_syntax.specs.declared.exprs.Bind.{Bind}
use Rattle.xt_syntax.specs.declared.exprs.DirectAttr.{DirectAttr}
use Rattle.xt_syntax.specs.declared.exprs.Flwor.{Flwor as FlworOf}
use Rattle.xt_syntax.specs.declared.exprs.Order.{Order}
use Rattle.xt_syntax.specs.declared.prefixes.Prefixes.{Prefixes}
use Rattle.xt_syntax.specs.declared.exprs.Clause.TheViews.{roll-Clause, roll-Expr, roll-NameSource}
use Rattle.xt_syntax.specs.declared.exprs.Clause.TheViews.{roll-Part, roll-Arm, roll-Bind}
use Rattle.xt_syntax.specs.declared.exprs.Clause.TheViews.{roll-DirectAttr, roll-Flwor, roll-Order}
use Rattle.xt_syntax.specs.declared.exprs.Clause.TheFolds.{map-Clause, fold-roll-Clause}
use Rattle.xt_syntax.specs.declared.exprs.Clause.TheFolds.{map-Expr, fold-roll-Expr}
use Rattle.xt_syntax.specs.declared.exprs.Clause.TheFolds.{map-NameSource, fold-roll-NameSource}
use Rattle.xt_syntax.specs.declared.exprs.Clause.TheFolds.{map-Part, fold-roll-Part}
use Rattle.xt_syntax.specs.declared.exprs.Clause.TheFolds.{map-Arm, fold-roll-Arm}
use Rattle.xt_syntax.specs.declared.exprs.Clause.TheFolds.{map-Bind, fold-roll-Bind}
use Rattle.xt_syntax.specs.declared.exprs.Clause.TheFolds.{map-DirectAttr, fold-roll-DirectAttr}
use Rattle.xt_syntax.specs.declared.exprs.Clause.TheFolds.{map-Flwor, fold-roll-Flwor}
use Rattle.xt_syntax.specs.declared.exprs.Clause.TheFolds.{map-Order, fold-roll-Order}
use Rattle.xt_syntax.specs.declared.exprs.Clause.TheFolds.{ind-Expr}
use Rattle.xt_syntax.specs.declared.exprs.Clause.TheOpen.{Clause-F, Expr-F, NameSource-F, Part-F}
use Rattle.xt_syntax.specs.declared.exprs.Clause.TheOpen.{Arm-F, Bind-F, DirectAttr-F, Flwor-F}
use Rattle.xt_syntax.specs.declared.exprs.Clause.TheOpen.{Order-F}
use Rattle.xt_syntax.specs.Layers.{Kinds, ClauseLayer, ExprLayer, NameLayer, PartLayer, ArmLayer}
use Rattle.xt_syntax.specs.Layers.{BindLayer, AttrLayer, FlworLayer, OrderLayer}
use Rattle.xt_syntax.specs.Layers.{clause_gives, expr_gives, name_gives, part_gives, arm_gives}
use Rattle.xt_syntax.specs.Layers.{bind_gives, attr_gives, flwor_gives, order_gives}
use Rattle.expr_raws.specs.PathRaws.Forms.{Form}
use Rattle.expr_raws.specs.ControlRaws.Operators.{ArmForm}
use Rattle.expr_raws.specs.ControlRaws.Bindings.{BindForm, ClauseForm, OrderForm}
use Rattle.expr_raws.specs.ElementRaws.Makers.{NameForm}
use Rattle.expr_raws.specs.ElementRaws.Direct.{PartForm, AttrForm}
use Rattle.expr_raws.specs.Raws.{forms, form_steps}

-- one layer of each kind
abbrev pub OpenClause : Type 0
OpenClause = Clause-F Clause Expr NameSource Part Arm Bind DirectAttr FlworOf Order

abbrev pub OpenExpr : Type 0
OpenExpr = Expr-F Clause Expr NameSource Part Arm Bind DirectAttr FlworOf Order

abbrev pub OpenName : Type 0
OpenName = NameSource-F Clause Expr NameSource Part Arm Bind DirectAttr FlworOf Order

abbrev pub OpenPart : Type 0
OpenPart = Part-F Clause Expr NameSource Part Arm Bind DirectAttr FlworOf Order

abbrev pub OpenArm : Type 0
OpenArm = Arm-F Clause Expr NameSource Part Arm Bind DirectAttr FlworOf Order

abbrev pub OpenBind : Type 0
OpenBind = Bind-F Clause Expr NameSource Part Arm Bind DirectAttr FlworOf Order

abbrev pub OpenAttr : Type 0
OpenAttr = DirectAttr-F Clause Expr NameSource Part Arm Bind DirectAttr FlworOf Order

abbrev pub OpenFlwor : Type 0
OpenFlwor = Flwor-F Clause Expr NameSource Part Arm Bind DirectAttr FlworOf Order

abbrev pub OpenOrder : Type 0
OpenOrder = Order-F Clause Expr NameSource Part Arm Bind DirectAttr FlworOf Order

-- the forms of the parts of each kind
module _ (p : Prefixes) where
  abbrev pub clause_form : Clause → ClauseForm
  clause_form x = clause_gives forms (form_steps p) x

  abbrev pub expr_form : Expr → Form
  expr_form x = expr_gives forms (form_steps p) x

  abbrev pub name_form : NameSource → NameForm
  name_form x = name_gives forms (form_steps p) x

  abbrev pub part_form : Part → PartForm
  part_form x = part_gives forms (form_steps p) x

  abbrev pub arm_form : Arm → ArmForm
  arm_form x = arm_gives forms (form_steps p) x

  abbrev pub bind_form : Bind → BindForm
  bind_form x = bind_gives forms (form_steps p) x

  abbrev pub attr_form : DirectAttr → AttrForm
  attr_form x = attr_gives forms (form_steps p) x

  abbrev pub flwor_form : FlworOf → Form
  flwor_form x = flwor_gives forms (form_steps p) x

  abbrev pub order_form : Order → OrderForm
  order_form x = order_gives forms (form_steps p) x

  abbrev pub of_clause : OpenClause → ClauseForm
  of_clause x = (form_steps p).of_clause (map-Clause Clause Expr NameSource Part Arm Bind
      DirectAttr FlworOf Order forms.Clauses forms.Exprs forms.Names forms.Parts forms.Arms
      forms.Binds forms.Attrs forms.Flwors forms.Orders clause_form expr_form name_form part_form
      arm_form bind_form attr_form flwor_form order_form x)

  clause_rolled : (x : OpenClause) → clause_form (roll-Clause x) ≡ of_clause x
  clause_rolled x = fold-roll-Clause _ _ _ _ _ _ _ _ _ _ _ _ _ _ _ _ _ _ x

  abbrev pub of_expr : OpenExpr → Form
  of_expr x = (form_steps p).of_expr (map-Expr Clause Expr NameSource Part Arm Bind DirectAttr
      FlworOf Order forms.Clauses forms.Exprs forms.Names forms.Parts forms.Arms forms.Binds
      forms.Attrs forms.Flwors forms.Orders clause_form expr_form name_form part_form arm_form
      bind_form attr_form flwor_form order_form x)

  expr_rolled : (x : OpenExpr) → expr_form (roll-Expr x) ≡ of_expr x
  expr_rolled x = fold-roll-Expr _ _ _ _ _ _ _ _ _ _ _ _ _ _ _ _ _ _ x

  abbrev pub of_name : OpenName → NameForm
  of_name x = (form_steps p).of_name (map-NameSource Clause Expr NameSource Part Arm Bind
      DirectAttr FlworOf Order forms.Clauses forms.Exprs forms.Names forms.Parts forms.Arms
      forms.Binds forms.Attrs forms.Flwors forms.Orders clause_form expr_form name_form part_form
      arm_form bind_form attr_form flwor_form order_form x)

  name_rolled : (x : OpenName) → name_form (roll-NameSource x) ≡ of_name x
  name_rolled x = fold-roll-NameSource _ _ _ _ _ _ _ _ _ _ _ _ _ _ _ _ _ _ x

  abbrev pub of_part : OpenPart → PartForm
  of_part x = (form_steps p).of_part (map-Part Clause Expr NameSource Part Arm Bind DirectAttr
      FlworOf Order forms.Clauses forms.Exprs forms.Names forms.Parts forms.Arms forms.Binds
      forms.Attrs forms.Flwors forms.Orders clause_form expr_form name_form part_form arm_form
      bind_form attr_form flwor_form order_form x)

  part_rolled : (x : OpenPart) → part_form (roll-Part x) ≡ of_part x
  part_rolled x = fold-roll-Part _ _ _ _ _ _ _ _ _ _ _ _ _ _ _ _ _ _ x

  abbrev pub of_arm : OpenArm → ArmForm
  of_arm x = (form_steps p).of_arm (map-Arm Clause Expr NameSource Part Arm Bind DirectAttr
      FlworOf Order forms.Clauses forms.Exprs forms.Names forms.Parts forms.Arms forms.Binds
      forms.Attrs forms.Flwors forms.Orders clause_form expr_form name_form part_form arm_form
      bind_form attr_form flwor_form order_form x)

  arm_rolled : (x : OpenArm) → arm_form (roll-Arm x) ≡ of_arm x
  arm_rolled x = fold-roll-Arm _ _ _ _ _ _ _ _ _ _ _ _ _ _ _ _ _ _ x

  abbrev pub of_bind : OpenBind → BindForm
  of_bind x = (form_steps p).of_bind (map-Bind Clause Expr NameSource Part Arm Bind DirectAttr
      FlworOf Order forms.Clauses forms.Exprs forms.Names forms.Parts forms.Arms forms.Binds
      forms.Attrs forms.Flwors forms.Orders clause_form expr_form name_form part_form arm_form
      bind_form attr_form flwor_form order_form x)

  bind_rolled : (x : OpenBind) → bind_form (roll-Bind x) ≡ of_bind x
  bind_rolled x = fold-roll-Bind _ _ _ _ _ _ _ _ _ _ _ _ _ _ _ _ _ _ x

  abbrev pub of_attr : OpenAttr → AttrForm
  of_attr x = (form_steps p).of_attr (map-DirectAttr Clause Expr NameSource Part Arm Bind
      DirectAttr FlworOf Order forms.Clauses forms.Exprs forms.Names forms.Parts forms.Arms
      forms.Binds forms.Attrs forms.Flwors forms.Orders clause_form expr_form name_form part_form
      arm_form bind_form attr_form flwor_form order_form x)

  attr_rolled : (x : OpenAttr) → attr_form (roll-DirectAttr x) ≡ of_attr x
  attr_rolled x = fold-roll-DirectAttr _ _ _ _ _ _ _ _ _ _ _ _ _ _ _ _ _ _ x

  abbrev pub of_flwor : OpenFlwor → Form
  of_flwor x = (form_steps p).of_flwor (map-Flwor Clause Expr NameSource Part Arm Bind DirectAttr
      FlworOf Order forms.Clauses forms.Exprs forms.Names forms.Parts forms.Arms forms.Binds
      forms.Attrs forms.Flwors forms.Orders clause_form expr_form name_form part_form arm_form
      bind_form attr_form flwor_form order_form x)

  flwor_rolled : (x : OpenFlwor) → flwor_form (roll-Flwor x) ≡ of_flwor x
  flwor_rolled x = fold-roll-Flwor _ _ _ _ _ _ _ _ _ _ _ _ _ _ _ _ _ _ x

  abbrev pub of_order : OpenOrder → OrderForm
  of_order x = (form_steps p).of_order (map-Order Clause Expr NameSource Part Arm Bind DirectAttr
      FlworOf Order forms.Clauses forms.Exprs forms.Names forms.Parts forms.Arms forms.Binds
      forms.Attrs forms.Flwors forms.Orders clause_form expr_form name_form part_form arm_form
      bind_form attr_form flwor_form order_form x)

  order_rolled : (x : OpenOrder) → order_form (roll-Order x) ≡ of_order x
  order_rolled x = fold-roll-Order _ _ _ _ _ _ _ _ _ _ _ _ _ _ _ _ _ _ x

module _ (p : Prefixes)
    (C : ClauseForm → Clause → Type 0)
    (P : Form → Expr → Type 0)
    (N : NameForm → NameSource → Type 0)
    (T : PartForm → Part → Type 0)
    (A : ArmForm → Arm → Type 0)
    (B : BindForm → Bind → Type 0)
    (D : AttrForm → DirectAttr → Type 0)
    (F : Form → FlworOf → Type 0)
    (O : OrderForm → Order → Type 0) where
  -- the parts of each kind with their facts
  abbrev pub pairs : Kinds
  pairs = record {
    Clauses = (x : Clause) × C (clause_form p x) x;
    Exprs = (x : Expr) × P (expr_form p x) x;
    Names = (x : NameSource) × N (name_form p x) x;
    Parts = (x : Part) × T (part_form p x) x;
    Arms = (x : Arm) × A (arm_form p x) x;
    Binds = (x : Bind) × B (bind_form p x) x;
    Attrs = (x : DirectAttr) × D (attr_form p x) x;
    Flwors = (x : FlworOf) × F (flwor_form p x) x;
    Orders = (x : Order) × O (order_form p x) x;
  }

  abbrev pub plain_clause : ClauseLayer pairs → OpenClause
  plain_clause x = map-Clause pairs.Clauses pairs.Exprs pairs.Names pairs.Parts pairs.Arms
      pairs.Binds pairs.Attrs pairs.Flwors pairs.Orders Clause Expr NameSource Part Arm Bind
      DirectAttr FlworOf Order (λ y. y.0) (λ y. y.0) (λ y. y.0) (λ y. y.0) (λ y. y.0) (λ y. y.0)
      (λ y. y.0) (λ y. y.0) (λ y. y.0) x

  abbrev pub plain_expr : ExprLayer pairs → OpenExpr
  plain_expr x = map-Expr pairs.Clauses pairs.Exprs pairs.Names pairs.Parts pairs.Arms pairs.Binds
      pairs.Attrs pairs.Flwors pairs.Orders Clause Expr NameSource Part Arm Bind DirectAttr
      FlworOf Order (λ y. y.0) (λ y. y.0) (λ y. y.0) (λ y. y.0) (λ y. y.0) (λ y. y.0) (λ y. y.0)
      (λ y. y.0) (λ y. y.0) x

  abbrev pub plain_name : NameLayer pairs → OpenName
  plain_name x = map-NameSource pairs.Clauses pairs.Exprs pairs.Names pairs.Parts pairs.Arms
      pairs.Binds pairs.Attrs pairs.Flwors pairs.Orders Clause Expr NameSource Part Arm Bind
      DirectAttr FlworOf Order (λ y. y.0) (λ y. y.0) (λ y. y.0) (λ y. y.0) (λ y. y.0) (λ y. y.0)
      (λ y. y.0) (λ y. y.0) (λ y. y.0) x

  abbrev pub plain_part : PartLayer pairs → OpenPart
  plain_part x = map-Part pairs.Clauses pairs.Exprs pairs.Names pairs.Parts pairs.Arms pairs.Binds
      pairs.Attrs pairs.Flwors pairs.Orders Clause Expr NameSource Part Arm Bind DirectAttr
      FlworOf Order (λ y. y.0) (λ y. y.0) (λ y. y.0) (λ y. y.0) (λ y. y.0) (λ y. y.0) (λ y. y.0)
      (λ y. y.0) (λ y. y.0) x

  abbrev pub plain_arm : ArmLayer pairs → OpenArm
  plain_arm x = map-Arm pairs.Clauses pairs.Exprs pairs.Names pairs.Parts pairs.Arms pairs.Binds
      pairs.Attrs pairs.Flwors pairs.Orders Clause Expr NameSource Part Arm Bind DirectAttr
      FlworOf Order (λ y. y.0) (λ y. y.0) (λ y. y.0) (λ y. y.0) (λ y. y.0) (λ y. y.0) (λ y. y.0)
      (λ y. y.0) (λ y. y.0) x

  abbrev pub plain_bind : BindLayer pairs → OpenBind
  plain_bind x = map-Bind pairs.Clauses pairs.Exprs pairs.Names pairs.Parts pairs.Arms pairs.Binds
      pairs.Attrs pairs.Flwors pairs.Orders Clause Expr NameSource Part Arm Bind DirectAttr
      FlworOf Order (λ y. y.0) (λ y. y.0) (λ y. y.0) (λ y. y.0) (λ y. y.0) (λ y. y.0) (λ y. y.0)
      (λ y. y.0) (λ y. y.0) x

  abbrev pub plain_attr : AttrLayer pairs → OpenAttr
  plain_attr x = map-DirectAttr pairs.Clauses pairs.Exprs pairs.Names pairs.Parts pairs.Arms
      pairs.Binds pairs.Attrs pairs.Flwors pairs.Orders Clause Expr NameSource Part Arm Bind
      DirectAttr FlworOf Order (λ y. y.0) (λ y. y.0) (λ y. y.0) (λ y. y.0) (λ y. y.0) (λ y. y.0)
      (λ y. y.0) (λ y. y.0) (λ y. y.0) x

  abbrev pub plain_flwor : FlworLayer pairs → OpenFlwor
  plain_flwor x = map-Flwor pairs.Clauses pairs.Exprs pairs.Names pairs.Parts pairs.Arms
      pairs.Binds pairs.Attrs pairs.Flwors pairs.Orders Clause Expr NameSource Part Arm Bind
      DirectAttr FlworOf Order (λ y. y.0) (λ y. y.0) (λ y. y.0) (λ y. y.0) (λ y. y.0) (λ y. y.0)
      (λ y. y.0) (λ y. y.0) (λ y. y.0) x

  abbrev pub plain_order : OrderLayer pairs → OpenOrder
  plain_order x = map-Order pairs.Clauses pairs.Exprs pairs.Names pairs.Parts pairs.Arms
      pairs.Binds pairs.Attrs pairs.Flwors pairs.Orders Clause Expr NameSource Part Arm Bind
      DirectAttr FlworOf Order (λ y. y.0) (λ y. y.0) (λ y. y.0) (λ y. y.0) (λ y. y.0) (λ y. y.0)
      (λ y. y.0) (λ y. y.0) (λ y. y.0) x

  -- the fact of a layer
  abbrev pub OfClause : OpenClause → Type 0
  OfClause x = C (clause_form p (roll-Clause x)) (roll-Clause x)

  -- the fact of a layer
  abbrev pub OfExpr : OpenExpr → Type 0
  OfExpr x = P (expr_form p (roll-Expr x)) (roll-Expr x)

  -- the fact of a layer
  abbrev pub OfName : OpenName → Type 0
  OfName x = N (name_form p (roll-NameSource x)) (roll-NameSource x)

  -- the fact of a layer
  abbrev pub OfPart : OpenPart → Type 0
  OfPart x = T (part_form p (roll-Part x)) (roll-Part x)

  -- the fact of a layer
  abbrev pub OfArm : OpenArm → Type 0
  OfArm x = A (arm_form p (roll-Arm x)) (roll-Arm x)

  -- the fact of a layer
  abbrev pub OfBind : OpenBind → Type 0
  OfBind x = B (bind_form p (roll-Bind x)) (roll-Bind x)

  -- the fact of a layer
  abbrev pub OfAttr : OpenAttr → Type 0
  OfAttr x = D (attr_form p (roll-DirectAttr x)) (roll-DirectAttr x)

  -- the fact of a layer
  abbrev pub OfFlwor : OpenFlwor → Type 0
  OfFlwor x = F (flwor_form p (roll-Flwor x)) (roll-Flwor x)

  -- the fact of a layer
  abbrev pub OfOrder : OpenOrder → Type 0
  OfOrder x = O (order_form p (roll-Order x)) (roll-Order x)

  module _
      (one_clause : (y : ClauseLayer pairs)
      → C (of_clause p (plain_clause y)) (roll-Clause (plain_clause y)))
      (one_expr : (y : ExprLayer pairs)
      → P (of_expr p (plain_expr y)) (roll-Expr (plain_expr y)))
      (one_name : (y : NameLayer pairs)
      → N (of_name p (plain_name y)) (roll-NameSource (plain_name y)))
      (one_part : (y : PartLayer pairs)
      → T (of_part p (plain_part y)) (roll-Part (plain_part y)))
      (one_arm : (y : ArmLayer pairs)
      → A (of_arm p (plain_arm y)) (roll-Arm (plain_arm y)))
      (one_bind : (y : BindLayer pairs)
      → B (of_bind p (plain_bind y)) (roll-Bind (plain_bind y)))
      (one_attr : (y : AttrLayer pairs)
      → D (of_attr p (plain_attr y)) (roll-DirectAttr (plain_attr y)))
      (one_flwor : (y : FlworLayer pairs)
      → F (of_flwor p (plain_flwor y)) (roll-Flwor (plain_flwor y)))
      (one_order : (y : OrderLayer pairs)
      → O (of_order p (plain_order y)) (roll-Order (plain_order y)))
    where
      step_clause : (x : OpenClause) (y : ClauseLayer pairs) → plain_clause y ≡ x → OfClause x
      step_clause x y is = subst (λ z. OfClause z) is
          (subst (λ f. C f (roll-Clause (plain_clause y))) (sym (clause_rolled p (plain_clause y)))
          (one_clause y))

      step_expr : (x : OpenExpr) (y : ExprLayer pairs) → plain_expr y ≡ x → OfExpr x
      step_expr x y is = subst (λ z. OfExpr z) is
          (subst (λ f. P f (roll-Expr (plain_expr y))) (sym (expr_rolled p (plain_expr y)))
          (one_expr y))

      step_name : (x : OpenName) (y : NameLayer pairs) → plain_name y ≡ x → OfName x
      step_name x y is = subst (λ z. OfName z) is
          (subst (λ f. N f (roll-NameSource (plain_name y))) (sym (name_rolled p (plain_name y)))
          (one_name y))

      step_part : (x : OpenPart) (y : PartLayer pairs) → plain_part y ≡ x → OfPart x
      step_part x y is = subst (λ z. OfPart z) is
          (subst (λ f. T f (roll-Part (plain_part y))) (sym (part_rolled p (plain_part y)))
          (one_part y))

      step_arm : (x : OpenArm) (y : ArmLayer pairs) → plain_arm y ≡ x → OfArm x
      step_arm x y is = subst (λ z. OfArm z) is
          (subst (λ f. A f (roll-Arm (plain_arm y))) (sym (arm_rolled p (plain_arm y)))
          (one_arm y))

      step_bind : (x : OpenBind) (y : BindLayer pairs) → plain_bind y ≡ x → OfBind x
      step_bind x y is = subst (λ z. OfBind z) is
          (subst (λ f. B f (roll-Bind (plain_bind y))) (sym (bind_rolled p (plain_bind y)))
          (one_bind y))

      step_attr : (x : OpenAttr) (y : AttrLayer pairs) → plain_attr y ≡ x → OfAttr x
      step_attr x y is = subst (λ z. OfAttr z) is
          (subst (λ f. D f (roll-DirectAttr (plain_attr y))) (sym (attr_rolled p (plain_attr y)))
          (one_attr y))

      step_flwor : (x : OpenFlwor) (y : FlworLayer pairs) → plain_flwor y ≡ x → OfFlwor x
      step_flwor x y is = subst (λ z. OfFlwor z) is
          (subst (λ f. F f (roll-Flwor (plain_flwor y))) (sym (flwor_rolled p (plain_flwor y)))
          (one_flwor y))

      step_order : (x : OpenOrder) (y : OrderLayer pairs) → plain_order y ≡ x → OfOrder x
      step_order x y is = subst (λ z. OfOrder z) is
          (subst (λ f. O f (roll-Order (plain_order y))) (sym (order_rolled p (plain_order y)))
          (one_order y))

      pub all_exprs : (e : Expr) → P (expr_form p e) e
      all_exprs = ind-Expr
          (λ x. C (clause_form p x) x)
          (λ x. P (expr_form p x) x)
          (λ x. N (name_form p x) x)
          (λ x. T (part_form p x) x)
          (λ x. A (arm_form p x) x)
          (λ x. B (bind_form p x) x)
          (λ x. D (attr_form p x) x)
          (λ x. F (flwor_form p x) x)
          (λ x. O (order_form p x) x)
          step_clause step_expr step_name step_part step_arm
          step_bind step_attr step_flwor step_order
