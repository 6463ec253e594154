-- Every expression without constructors makes no tree.
use Rattle.std.proofs.Common.{◌≡◌, List, [], ◌∷◌, map, refl, sym, ap, ◌∙◌}
use Rattle.std.specs.Prelude.{Bool, true, ◌&&◌, length, Option, Some, None, Result, Ok}
use Rattle.xt_names.specs.declared.codes.Code.{Code}
use Rattle.xdm_items.specs.declared.items.Item.{Item}
use Rattle.xt_syntax.specs.declared.exprs.Expr.{Expr}
use Rattle.xt_syntax.specs.declared.exprs.Arm.{Arm}
use Rattle.xt_syntax.specs.declared.exprs.Clause.{Clause}
use Rattle.xt_syntax.specs.declared.exprs.Order.{Order}
use Rattle.xt_syntax.specs.declared.exprs.Flwor.{Flwor as FlworOf}
use Rattle.xt_syntax.specs.declared.exprs.Bind.{Bind}
use Rattle.xt_syntax.specs.declared.exprs.NameSource.{NameSource}
use Rattle.xt_syntax.specs.declared.exprs.DirectAttr.{DirectAttr}
use Rattle.xt_syntax.specs.declared.exprs.Part.{Part}
use Rattle.xt_syntax.specs.declared.exprs.Clause.TheOpen.{Int, Str, Var, Context, Root, Comma, Or}
use Rattle.xt_syntax.specs.declared.exprs.Clause.TheOpen.{And, If, Flwor, Quant, General, Value, Is}
use Rattle.xt_syntax.specs.declared.exprs.Clause.TheOpen.{Before, After, Range, Arith, Minus, Plus}
use Rattle.xt_syntax.specs.declared.exprs.Clause.TheOpen.{Union, Intersect, Except, InstanceOf}
use Rattle.xt_syntax.specs.declared.exprs.Clause.TheOpen.{Treat, Castable, Cast, Slash, Step}
use Rattle.xt_syntax.specs.declared.exprs.Clause.TheOpen.{Filter, Call, ElemC, AttrC, DocC, TextC}
use Rattle.xt_syntax.specs.declared.exprs.Clause.TheOpen.{CommentC, PiC, Direct, For, Let}
use Rattle.xt_syntax.specs.declared.exprs.Clause.TheViews.{roll-Expr, roll-Arm, roll-Clause}
use Rattle.xt_syntax.specs.declared.exprs.Clause.TheViews.{roll-Order, roll-Flwor, roll-Bind}
use Rattle.xt_syntax.specs.declared.exprs.Clause.TheFolds.{ind-Expr}
use Rattle.xt_syntax.specs.declared.exprs.Clause.TheFolds.{map-Expr, map-Arm, map-Clause, map-Order}
use Rattle.xt_syntax.specs.declared.exprs.Clause.TheFolds.{map-Flwor, map-Bind}
use Rattle.xt_syntax.specs.Layers.{Kinds, ExprLayer, ClauseLayer, ArmLayer, BindLayer, FlworLayer}
use Rattle.xt_syntax.specs.Layers.{OrderLayer}
use Rattle.xt_syntax.specs.Layers.{clause_gives, arm_gives, bind_gives, flwor_gives, order_gives}
use Rattle.operator_values.specs.Comparisons.{general_value, single_value}
use Rattle.operator_values.specs.Nodes.{is_value, before_value, after_value, union_value}
use Rattle.operator_values.specs.Nodes.{intersect_value, except_value}
use Rattle.operator_values.specs.Numbers.{arithmetic_value, range_value, negated_value}
use Rattle.operator_values.specs.Numbers.{signed_value}
use Rattle.operator_values.specs.Types.{instance_value, treated_value, cast_value, castable_value}
use Rattle.expr_meaning.specs.Outcomes.Outcome.{Every}
use Rattle.expr_meaning.specs.Calls.{called}
use Rattle.expr_meaning.specs.Env.{Program, variable_value}
use Rattle.expr_meaning.specs.Meaning.{meanings, steps, outcome}
use Rattle.expr_meaning.specs.Paths.{document_root}
use Rattle.expr_meaning.specs.Values.{binary, of_focus}
use Rattle.expr_laws.proofs.Rolled.{means, rolled, rolled_arm, rolled_bind, rolled_order, flwor_value}
use Rattle.expr_laws.proofs.Rolled.{rolled_flwor, clause_value, rolled_clause}
use Rattle.expr_laws.proofs.Texts.{ExprForm, ArmForm, BindForm, OrderForm, FlworForm, ClauseForm}
use Rattle.carried_exprs.specs.Sights.{Setting, may_name}
use Rattle.carried_exprs.specs.Fits.{fit_of, may_be_carried, is_fit_arm, is_fit_clause, is_fit_bind}
use Rattle.carried_exprs.specs.Fits.{is_fit_order, is_fit_flwor, every, all_fit, call_fits}
use Rattle.carried_exprs.specs.Fits.{place_fits}
use Rattle.carried_exprs.proofs.FitRolled.{fit_expr_value, fit_expr_rolled, fit_arm_rolled}
use Rattle.carried_exprs.proofs.FitRolled.{fit_bind_rolled, fit_order_rolled, fit_flwor_rolled}
use Rattle.carried_exprs.proofs.FitRolled.{fit_flwor_value, fit_clause_rolled, fit_clause_value}
use Rattle.key_functions.proofs.Still.{AllStill, ArmsStill, BoundsStill, CallsStill, ClauseStill}
use Rattle.key_functions.proofs.Still.{StillMeaning, and_still, at_still, binary_still, call_still}
use Rattle.key_functions.proofs.Still.{choice_still, comma_still, filter_still, flwor_still}
use Rattle.key_functions.proofs.Still.{for_still, let_still, or_still, quantifier_still, slash_still}
use Rattle.key_functions.proofs.Still.{step_still, still_step, unary_still}
use Rattle.xt_names.proofs.BoolLemmas.{and_first as first, and_second as second}

module _ (w : Setting) (p : Program) (calls : CallsStill p) where
  abbrev ExprIs : Expr → Type 0
  ExprIs e = may_be_carried w e ≡ true → StillMeaning (outcome p e)

  abbrev ClauseIs : Clause → Type 0
  ClauseIs x = is_fit_clause w x ≡ true → ClauseStill (clause_gives meanings (steps p) x)

  abbrev ArmIs : Arm → Type 0
  ArmIs x = is_fit_arm w x ≡ true → StillMeaning (arm_gives meanings (steps p) x).0
      × StillMeaning (arm_gives meanings (steps p) x).1

  abbrev BindIs : Bind → Type 0
  BindIs x = is_fit_bind w x ≡ true → StillMeaning (bind_gives meanings (steps p) x).source

  abbrev FlworIs : FlworOf → Type 0
  FlworIs x = is_fit_flwor w x ≡ true → StillMeaning (flwor_gives meanings (steps p) x)

  abbrev OrderIs : Order → Type 0
  OrderIs x = is_fit_order w x ≡ true → StillMeaning (order_gives meanings (steps p) x).0

  -- parts, each with what is known of it; of constructors nothing is
  abbrev known : Kinds
  known = record {
    Clauses = (x : Clause) × ClauseIs x;
    Exprs = (x : Expr) × ExprIs x;
    Names = (x : NameSource) × Unit {0};
    Parts = (x : Part) × Unit {0};
    Arms = (x : Arm) × ArmIs x;
    Binds = (x : Bind) × BindIs x;
    Attrs = (x : DirectAttr) × Unit {0};
    Flwors = (x : FlworOf) × FlworIs x;
    Orders = (x : Order) × OrderIs x;
  }

  -- lists of parts
  abbrev of_all : List known.Exprs → List Expr
  of_all ys = map (λ y. y.0) ys

  all_still : (ys : List known.Exprs) → all_fit (map (fit_of w) (of_all ys)) ≡ true →
      AllStill (map (outcome p) (of_all ys))
  all_still [] h = tt
  all_still (y ∷ ys) h =
      let a = may_be_carried w y.0 in let b = all_fit (map (fit_of w) (of_all ys)) in
      (y.1 (first a b h), all_still ys (second a b h))

  arms_still : (ys : List known.Arms) → every (map (is_fit_arm w) (map (λ y. y.0) ys)) ≡ true →
      ArmsStill (map (arm_gives meanings (steps p)) (map (λ y. y.0) ys))
  arms_still [] h = tt
  arms_still (y ∷ ys) h =
      let a = is_fit_arm w y.0 in let b = every (map (is_fit_arm w) (map (λ y. y.0) ys)) in
      (y.1 (first a b h), arms_still ys (second a b h))

  binds_still : (ys : List known.Binds) → every (map (is_fit_bind w) (map (λ y. y.0) ys)) ≡ true →
      BoundsStill (map (bind_gives meanings (steps p)) (map (λ y. y.0) ys))
  binds_still [] h = tt
  binds_still (y ∷ ys) h =
      let a = is_fit_bind w y.0 in let b = every (map (is_fit_bind w) (map (λ y. y.0) ys)) in
      (y.1 (first a b h), binds_still ys (second a b h))

  clauses_still : (ys : List known.Clauses) →
      every (map (is_fit_clause w) (map (λ y. y.0) ys)) ≡ true →
      Every ClauseStill (map (clause_gives meanings (steps p)) (map (λ y. y.0) ys))
  clauses_still [] h = tt
  clauses_still (y ∷ ys) h =
      let a = is_fit_clause w y.0 in let b = every (map (is_fit_clause w) (map (λ y. y.0) ys)) in
      (y.1 (first a b h), clauses_still ys (second a b h))

  orders_still : (ys : List known.Orders) →
      every (map (is_fit_order w) (map (λ y. y.0) ys)) ≡ true →
      Every (λ o. StillMeaning o.0) (map (order_gives meanings (steps p)) (map (λ y. y.0) ys))
  orders_still [] h = tt
  orders_still (y ∷ ys) h =
      let a = is_fit_order w y.0 in let b = every (map (is_fit_order w) (map (λ y. y.0) ys)) in
      (y.1 (first a b h), orders_still ys (second a b h))

  abbrev plain : ExprLayer known → ExprForm
  plain = map-Expr known.Clauses known.Exprs known.Names known.Parts known.Arms known.Binds
      known.Attrs known.Flwors known.Orders Clause Expr NameSource Part Arm Bind DirectAttr FlworOf
      Order
      (λ y. y.0) (λ y. y.0) (λ y. y.0) (λ y. y.0) (λ y. y.0) (λ y. y.0) (λ y. y.0) (λ y. y.0)
      (λ y. y.0)

  -- an operator on two values
  operands_still : (value : List Item → List Item → Result (List Item) Code) →
      (a b : known.Exprs) → (may_be_carried w a.0 && may_be_carried w b.0) ≡ true →
      StillMeaning (binary value (outcome p a.0) (outcome p b.0))
  operands_still value a b h =
      let t = may_be_carried w a.0 in let u = may_be_carried w b.0 in
      binary_still value _ _ (a.1 (first t u h)) (b.1 (second t u h))

  form_still : (y : ExprLayer known) → (fit_expr_value w (plain y)).fits ≡ true →
      StillMeaning (means p (plain y))
  form_still (Int n) h = λ e k. refl
  form_still (Str t) h = λ e k. refl
  form_still (Var name) h = λ e. still_step (variable_value p e name)
  form_still Context h = λ e. still_step (of_focus (λ f. Ok (f.value ∷ [])) e.focus)
  form_still Root h = λ e. still_step (of_focus (λ f. document_root f.value) e.focus)
  form_still (Comma all) h = comma_still _ (all_still all h)
  form_still (Or all) h = or_still _ (all_still all h)
  form_still (And all) h = and_still _ (all_still all h)
  form_still (If arms other) h =
      let a = every (map (is_fit_arm w) (map (λ y. y.0) arms)) in let b = may_be_carried w other.0 in
      choice_still _ _ (arms_still arms (first a b h)) (other.1 (second a b h))
  form_still (Flwor f) h = f.1 h
  form_still (Quant every_one binds tested) h =
      let a = every (map (is_fit_bind w) (map (λ y. y.0) binds)) in
      let b = may_be_carried w tested.0 in
      quantifier_still every_one _ _ (binds_still binds (first a b h)) (tested.1 (second a b h))
  form_still (General op a b) h = operands_still (general_value op) a b h
  form_still (Value op a b) h = operands_still (single_value op) a b h
  form_still (Is a b) h = operands_still is_value a b h
  form_still (Before a b) h = operands_still before_value a b h
  form_still (After a b) h = operands_still after_value a b h
  form_still (Range a b) h = operands_still range_value a b h
  form_still (Arith op a b) h = operands_still (arithmetic_value op) a b h
  form_still (Minus a) h = unary_still negated_value _ (a.1 h)
  form_still (Plus a) h = unary_still signed_value _ (a.1 h)
  form_still (Union a b) h = operands_still union_value a b h
  form_still (Intersect a b) h = operands_still intersect_value a b h
  form_still (Except a b) h = operands_still except_value a b h
  form_still (InstanceOf a kind) h = unary_still (instance_value kind) _ (a.1 h)
  form_still (Treat a kind) h = unary_still (treated_value kind) _ (a.1 h)
  form_still (Castable a kind empty) h = unary_still (castable_value kind empty) _ (a.1 h)
  form_still (Cast a kind empty) h = unary_still (cast_value kind empty) _ (a.1 h)
  form_still (Slash a b) h =
      let t = may_be_carried w a.0 in let u = may_be_carried w b.0 in
      slash_still _ _ (a.1 (first t u h)) (b.1 (second t u h))
  form_still (Step axis wanted tests) h = step_still axis wanted _ (all_still tests h)
  form_still (Filter of tests) h =
      let t = may_be_carried w of.0 in let u = all_fit (map (fit_of w) (of_all tests)) in
      filter_still _ _ (of.1 (first t u h)) (all_still tests (second t u h))
  form_still (Call name args) h =
      let n = length (map (fit_of w) (of_all args)) in
      let t = call_fits w (called name n) name (map (fit_of w) (of_all args)) in
      let u = all_fit (map (fit_of w) (of_all args)) in
      call_still p calls name _ (all_still args (second t u h))
  form_still (ElemC name content) h = absurd cc
  form_still (AttrC name content) h = absurd cc
  form_still (DocC content) h = absurd cc
  form_still (TextC content) h = absurd cc
  form_still (CommentC content) h = absurd cc
  form_still (PiC name content) h = absurd cc
  form_still (Direct name attrs parts) h = absurd cc

  expr_step : (x : ExprForm) (y : ExprLayer known) → plain y ≡ x → ExprIs (roll-Expr x)
  expr_step x y is h =
      let f : (fit_expr_value w (plain y)).fits ≡ true =
      ap (λ z. z.fits) (sym (fit_expr_rolled w (plain y)))
      ∙ ap (λ z. may_be_carried w (roll-Expr z)) is ∙ h in
      rw (← is, rolled p (plain y)) (form_still y f)

  abbrev plain_arm : ArmLayer known → ArmForm
  plain_arm = map-Arm known.Clauses known.Exprs known.Names known.Parts known.Arms known.Binds
      known.Attrs known.Flwors known.Orders Clause Expr NameSource Part Arm Bind DirectAttr FlworOf
      Order
      (λ y. y.0) (λ y. y.0) (λ y. y.0) (λ y. y.0) (λ y. y.0) (λ y. y.0) (λ y. y.0) (λ y. y.0)
      (λ y. y.0)

  arm_step : (x : ArmForm) (y : ArmLayer known) → plain_arm y ≡ x → ArmIs (roll-Arm x)
  arm_step x y is h =
      let t = may_be_carried w y.test.0 in let u = may_be_carried w y.then.0 in
      let f : (t && u) ≡ true =
      sym (fit_arm_rolled w (plain_arm y)) ∙ ap (λ z. is_fit_arm w (roll-Arm z)) is ∙ h in
      rw (← is, rolled_arm p (plain_arm y)) (y.test.1 (first t u f), y.then.1 (second t u f))

  abbrev plain_bind : BindLayer known → BindForm
  plain_bind = map-Bind known.Clauses known.Exprs known.Names known.Parts known.Arms known.Binds
      known.Attrs known.Flwors known.Orders Clause Expr NameSource Part Arm Bind DirectAttr FlworOf
      Order
      (λ y. y.0) (λ y. y.0) (λ y. y.0) (λ y. y.0) (λ y. y.0) (λ y. y.0) (λ y. y.0) (λ y. y.0)
      (λ y. y.0)

  bind_step : (x : BindForm) (y : BindLayer known) → plain_bind y ≡ x → BindIs (roll-Bind x)
  bind_step x y is h =
      let t = may_name w y.var in let u = may_be_carried w y.source.0 in
      let f : (t && u) ≡ true =
      sym (fit_bind_rolled w (plain_bind y)) ∙ ap (λ z. is_fit_bind w (roll-Bind z)) is ∙ h in
      rw (← is, rolled_bind p (plain_bind y)) (y.source.1 (second t u f))

  abbrev plain_order : OrderLayer known → OrderForm
  plain_order = map-Order known.Clauses known.Exprs known.Names known.Parts known.Arms known.Binds
      known.Attrs known.Flwors known.Orders Clause Expr NameSource Part Arm Bind DirectAttr FlworOf
      Order
      (λ y. y.0) (λ y. y.0) (λ y. y.0) (λ y. y.0) (λ y. y.0) (λ y. y.0) (λ y. y.0) (λ y. y.0)
      (λ y. y.0)

  order_step : (x : OrderForm) (y : OrderLayer known) → plain_order y ≡ x → OrderIs (roll-Order x)
  order_step x y is h =
      let f : may_be_carried w y.key.0 ≡ true =
      sym (fit_order_rolled w (plain_order y)) ∙ ap (λ z. is_fit_order w (roll-Order z)) is ∙ h in
      rw (← is, rolled_order p (plain_order y)) (y.key.1 f)

  abbrev plain_flwor : FlworLayer known → FlworForm
  plain_flwor = map-Flwor known.Clauses known.Exprs known.Names known.Parts known.Arms known.Binds
      known.Attrs known.Flwors known.Orders Clause Expr NameSource Part Arm Bind DirectAttr FlworOf
      Order
      (λ y. y.0) (λ y. y.0) (λ y. y.0) (λ y. y.0) (λ y. y.0) (λ y. y.0) (λ y. y.0) (λ y. y.0)
      (λ y. y.0)

  abbrev a_flwor : List known.Clauses → Option known.Exprs → List known.Orders → Bool →
      known.Exprs → FlworLayer known
  a_flwor clauses tested orders stable body = record {
    clauses = clauses;
    test = tested;
    orders = orders;
    stable = stable;
    body = body;
  }

  flow_is_still : (clauses : List known.Clauses) (tested : Option known.Exprs)
      (orders : List known.Orders) (stable : Bool) (body : known.Exprs) →
      fit_flwor_value w (plain_flwor (a_flwor clauses tested orders stable body)) ≡ true →
      StillMeaning (flwor_value p (plain_flwor (a_flwor clauses tested orders stable body)))
  flow_is_still clauses None orders stable body h =
      let t = every (map (is_fit_clause w) (map (λ y. y.0) clauses)) in
      let v = every (map (is_fit_order w) (map (λ y. y.0) orders)) in
      let u = may_be_carried w body.0 in
      let r = second true (v && u) (second t (true && (v && u)) h) in
      flwor_still _ None _ _ (clauses_still clauses (first t (true && (v && u)) h)) tt
      (orders_still orders (first v u r)) (body.1 (second v u r))
  flow_is_still clauses (Some tested) orders stable body h =
      let t = every (map (is_fit_clause w) (map (λ y. y.0) clauses)) in
      let b = may_be_carried w tested.0 in
      let v = every (map (is_fit_order w) (map (λ y. y.0) orders)) in
      let u = may_be_carried w body.0 in
      let r = second t (b && (v && u)) h in
      let o = second b (v && u) r in
      flwor_still _ (Some _) _ _ (clauses_still clauses (first t (b && (v && u)) h))
      (tested.1 (first b (v && u) r)) (orders_still orders (first v u o)) (body.1 (second v u o))

  flwor_step : (x : FlworForm) (y : FlworLayer known) → plain_flwor y ≡ x → FlworIs (roll-Flwor x)
  flwor_step x y is h =
      let f : fit_flwor_value w (plain_flwor y) ≡ true =
      sym (fit_flwor_rolled w (plain_flwor y)) ∙ ap (λ z. is_fit_flwor w (roll-Flwor z)) is ∙ h in
      rw (← is, rolled_flwor p (plain_flwor y))
      (flow_is_still y.clauses y.test y.orders y.stable y.body f)

  abbrev plain_clause : ClauseLayer known → ClauseForm
  plain_clause = map-Clause known.Clauses known.Exprs known.Names known.Parts known.Arms known.Binds
      known.Attrs known.Flwors known.Orders Clause Expr NameSource Part Arm Bind DirectAttr FlworOf
      Order
      (λ y. y.0) (λ y. y.0) (λ y. y.0) (λ y. y.0) (λ y. y.0) (λ y. y.0) (λ y. y.0) (λ y. y.0)
      (λ y. y.0)

  clause_is_still : (y : ClauseLayer known) → fit_clause_value w (plain_clause y) ≡ true →
      ClauseStill (clause_value p (plain_clause y))
  clause_is_still (For b None) h =
      let t = is_fit_bind w b.0 in let u = place_fits w None in for_still _ (b.1 (first t u h))
  clause_is_still (For b (Some at)) h =
      let t = is_fit_bind w b.0 in let u = place_fits w (Some at) in at_still _ at (b.1 (first t u h))
  clause_is_still (Let b) h = let_still _ (b.1 h)

  clause_step : (x : ClauseForm) (y : ClauseLayer known) → plain_clause y ≡ x →
      ClauseIs (roll-Clause x)
  clause_step x y is h =
      let f : fit_clause_value w (plain_clause y) ≡ true =
      sym (fit_clause_rolled w (plain_clause y)) ∙ ap (λ z. is_fit_clause w (roll-Clause z)) is
      ∙ h in
      rw (← is, rolled_clause p (plain_clause y)) (clause_is_still y f)

  pub whole_still : (e : Expr) → ExprIs e
  whole_still = ind-Expr ClauseIs ExprIs (λ x. Unit {0}) (λ x. Unit {0}) ArmIs BindIs
      (λ x. Unit {0}) FlworIs OrderIs clause_step expr_step (λ x y is. tt) (λ x y is. tt)
      arm_step bind_step (λ x y is. tt) flwor_step order_step
