-- Every expression that may be carried is carried.
use Rattle.std.proofs.Common.{◌≡◌, ℕ, List, [], ◌∷◌, refl, map, sym, ap, ◌∙◌, length}
use Rattle.std.proofs.lemmas.Bool.{and_parts}
use Rattle.std.specs.Prelude.{Bool, true, ◌&&◌, Option, Some, None, Result}
use Rattle.std.proofs.lemmas.List.{length-map}
use Rattle.xt_names.specs.Classes.{is_xml_text}
use Rattle.xt_names.specs.declared.codes.Code.{Code}
use Rattle.xt_names.specs.declared.names.ExprName.{ExprName}
use Rattle.xt_atoms.specs.declared.atoms.Atom.TheVariants as atom
use Rattle.xdm_items.specs.declared.items.Item.{Item}
use Rattle.xdm_items.specs.declared.items.Item.TheVariants.{Atom}
use Rattle.xt_syntax.specs.declared.exprs.Expr.{Expr}
use Rattle.xt_syntax.specs.declared.exprs.Arm.{Arm}
use Rattle.xt_syntax.specs.declared.exprs.Clause.{Clause}
use Rattle.xt_syntax.specs.declared.exprs.Order.{Order}
use Rattle.xt_syntax.specs.declared.exprs.Flwor.{Flwor as FlworOf}
use Rattle.xt_syntax.specs.declared.exprs.Bind.{Bind}
use Rattle.xt_syntax.specs.declared.exprs.NameSource.{NameSource}
use Rattle.xt_syntax.specs.declared.exprs.DirectAttr.{DirectAttr}
use Rattle.xt_syntax.specs.declared.exprs.Part.{Part}
use Rattle.xt_syntax.specs.declared.exprs.Clause.TheOpen.{Int, Str, Var, Context, Root, Comma, Or}
use Rattle.xt_syntax.specs.declared.exprs.Clause.TheOpen.{And, If, Flwor, Quant, General, Value, Is}
use Rattle.xt_syntax.specs.declared.exprs.Clause.TheOpen.{Before, After, Range, Arith, Minus, Plus}
use Rattle.xt_syntax.specs.declared.exprs.Clause.TheOpen.{Union, Intersect, Except, InstanceOf}
use Rattle.xt_syntax.specs.declared.exprs.Clause.TheOpen.{Treat, Castable, Cast, Slash, Step}
use Rattle.xt_syntax.specs.declared.exprs.Clause.TheOpen.{Filter, Call, ElemC, AttrC, DocC, TextC}
use Rattle.xt_syntax.specs.declared.exprs.Clause.TheOpen.{CommentC, PiC, Direct, For, Let}
use Rattle.xt_syntax.specs.declared.exprs.Clause.TheViews.{roll-Expr, roll-Arm, roll-Clause}
use Rattle.xt_syntax.specs.declared.exprs.Clause.TheViews.{roll-Order, roll-Flwor, roll-Bind}
use Rattle.xt_syntax.specs.declared.exprs.Clause.TheFolds.{ind-Expr}
use Rattle.xt_syntax.specs.declared.exprs.Clause.TheFolds.{map-Expr, map-Arm, map-Clause, map-Order}
use Rattle.xt_syntax.specs.declared.exprs.Clause.TheFolds.{map-Flwor, map-Bind}
use Rattle.xt_syntax.specs.Layers.{Kinds, ExprLayer, ClauseLayer, ArmLayer, BindLayer, FlworLayer}
use Rattle.xt_syntax.specs.Layers.{OrderLayer}
use Rattle.xt_syntax.specs.Layers.{clause_gives, arm_gives, bind_gives, flwor_gives, order_gives}
use Rattle.operator_values.specs.Comparisons.{general_value, single_value}
use Rattle.operator_values.specs.Nodes.{is_value, before_value, after_value, union_value}
use Rattle.operator_values.specs.Nodes.{intersect_value, except_value}
use Rattle.operator_values.specs.Numbers.{arithmetic_value, range_value, negated_value}
use Rattle.operator_values.specs.Numbers.{signed_value}
use Rattle.operator_values.specs.Types.{instance_value, treated_value, cast_value, castable_value}
use Rattle.expr_meaning.specs.Outcomes.Follow.{Relation, IsCarrying}
use Rattle.expr_meaning.specs.Env.{Meaning, Program}
use Rattle.expr_meaning.specs.Values.{binary}
use Rattle.expr_meaning.specs.Calls.{Called, library, document, current, current_group, current_key}
use Rattle.expr_meaning.specs.Calls.{key, declared, called}
use Rattle.expr_meaning.specs.Meaning.{meanings, steps, outcome}
use Rattle.expr_laws.specs.Carrier.{Carrier, IsKept, AllMeet, KeepsBoth}
use Rattle.expr_laws.proofs.Logic.{ArmsMeet, BoundMeet, AllBoundMeet, or_meets, and_meets}
use Rattle.expr_laws.proofs.Logic.{choice_meets, quantifier_meets}
use Rattle.expr_laws.proofs.Values.{just_meets, variable_meets, comma_meets, unary_meets}
use Rattle.expr_laws.proofs.Values.{binary_meets}
use Rattle.expr_laws.proofs.Paths.{filter_meets, slash_meets}
use Rattle.expr_laws.proofs.Flow.{ClauseMeets, ClausesMeet, OrdersMeet, for_meets, at_meets}
use Rattle.expr_laws.proofs.Flow.{let_meets, flwor_meets}
use Rattle.expr_laws.proofs.Rolled.{means, rolled, rolled_arm, rolled_bind, rolled_order, flwor_value}
use Rattle.expr_laws.proofs.Rolled.{rolled_flwor, clause_value, rolled_clause}
use Rattle.expr_laws.proofs.Texts.{ExprForm, ArmForm, BindForm, OrderForm, FlworForm, ClauseForm}
use Rattle.carried_exprs.specs.Sights.{Sight, focused, Setting, HasLocalKeys, may_name}
use Rattle.carried_exprs.specs.Carried.{seen, seen_steps, carried, all_in}
use Rattle.carried_exprs.specs.Fits.{fit_of, may_be_carried, is_fit_arm, is_fit_clause, is_fit_bind}
use Rattle.carried_exprs.specs.Fits.{is_fit_order, is_fit_flwor, every, all_fit, call_fits}
use Rattle.carried_exprs.specs.Fits.{place_fits, begins_with_literal}
use Rattle.carried_exprs.specs.Calls.{literal_of}
use Rattle.carried_exprs.proofs.SeenRolled.{seen_expr_value, seen_expr_rolled, seen_arm_rolled}
use Rattle.carried_exprs.proofs.SeenRolled.{seen_bind_rolled, seen_order_rolled, seen_flwor_rolled}
use Rattle.carried_exprs.proofs.SeenRolled.{seen_flwor_value, seen_clause_rolled, seen_clause_value}
use Rattle.carried_exprs.proofs.FitRolled.{fit_expr_value, fit_expr_rolled, fit_arm_rolled}
use Rattle.carried_exprs.proofs.FitRolled.{fit_bind_rolled, fit_order_rolled, fit_flwor_rolled}
use Rattle.carried_exprs.proofs.FitRolled.{fit_flwor_value, fit_clause_rolled, fit_clause_value}
use Rattle.carry_laws.specs.Seen.{ProgramsCarry}
use Rattle.carry_laws.proofs.Carry.{carry, Carries, to_form, context_carried, root_carried}
use Rattle.carry_laws.proofs.Carry.{step_carried}
use Rattle.carry_laws.proofs.Calls.{KeyKnown, FitsCall, meet, call_carried}
use Rattle.carry_laws.proofs.Literals.{literal_is, literal_of_str}
use Rattle.xt_names.proofs.BoolLemmas.{and_first as first, and_second as second}

module _ (like : Code → Code → Type 0) (lax : (a b : Code) → like a b) (rel : Relation)
    (carries : IsCarrying like rel) (good : Item → Type 0) (keeps : IsKept good) (w : Setting)
    (p q : Program) (programs : ProgramsCarry rel good w p q) (local : HasLocalKeys w)
    (texts : (t : List ℕ) → is_xml_text t ≡ true → good (Atom (atom.Str t))) where
  abbrev here : Carrier
  here = carry like lax rel carries good keeps w

  abbrev Moves : Sight → Meaning → Meaning → Type 0
  Moves s m n = Carries like lax rel carries good keeps w s m n

  abbrev ExprMoves : Expr → Type 0
  ExprMoves e = may_be_carried w e ≡ true → (s : Sight) →
      Moves s (outcome p e) (outcome q (carried w e s))

  abbrev ClauseMoves : Clause → Type 0
  ClauseMoves x = is_fit_clause w x ≡ true → (s : Sight) →
      ClauseMeets here s (clause_gives meanings (steps p) x)
      (clause_gives meanings (steps q) (clause_gives seen (seen_steps w) x s))

  abbrev ArmMoves : Arm → Type 0
  ArmMoves x = is_fit_arm w x ≡ true → (s : Sight) →
      Moves s (arm_gives meanings (steps p) x).0
      (arm_gives meanings (steps q) (arm_gives seen (seen_steps w) x s)).0
      × Moves s (arm_gives meanings (steps p) x).1
      (arm_gives meanings (steps q) (arm_gives seen (seen_steps w) x s)).1

  abbrev BindMoves : Bind → Type 0
  BindMoves x = is_fit_bind w x ≡ true → (s : Sight) →
      BoundMeet here s (bind_gives meanings (steps p) x)
      (bind_gives meanings (steps q) (bind_gives seen (seen_steps w) x s))

  abbrev FlworMoves : FlworOf → Type 0
  FlworMoves x = is_fit_flwor w x ≡ true → (s : Sight) →
      Moves s (flwor_gives meanings (steps p) x)
      (flwor_gives meanings (steps q) (flwor_gives seen (seen_steps w) x s))

  abbrev OrderMoves : Order → Type 0
  OrderMoves x = is_fit_order w x ≡ true → (s : Sight) →
      Moves s (order_gives meanings (steps p) x).0
      (order_gives meanings (steps q) (order_gives seen (seen_steps w) x s)).0
      × ((order_gives meanings (steps p) x).1
      ≡ (order_gives meanings (steps q) (order_gives seen (seen_steps w) x s)).1)

  -- parts, each with what is known of it; of constructors nothing is
  abbrev known : Kinds
  known = record {
    Clauses = (x : Clause) × ClauseMoves x;
    Exprs = (x : Expr) × ExprMoves x;
    Names = (x : NameSource) × Unit {0};
    Parts = (x : Part) × Unit {0};
    Arms = (x : Arm) × ArmMoves x;
    Binds = (x : Bind) × BindMoves x;
    Attrs = (x : DirectAttr) × Unit {0};
    Flwors = (x : FlworOf) × FlworMoves x;
    Orders = (x : Order) × OrderMoves x;
  }

  -- lists of parts
  abbrev of_all : List known.Exprs → List Expr
  of_all ys = map (λ y. y.0) ys

  all_move : (ys : List known.Exprs) → all_fit (map (fit_of w) (of_all ys)) ≡ true → (s : Sight) →
      AllMeet here s (map (outcome p) (of_all ys))
      (map (outcome q) (all_in s (map (carried w) (of_all ys))))
  all_move [] h s = tt
  all_move (y ∷ ys) h s =
      let a = may_be_carried w y.0 in let b = all_fit (map (fit_of w) (of_all ys)) in
      (y.1 (first a b h) s, all_move ys (second a b h) s)

  arms_move : (ys : List known.Arms) → every (map (is_fit_arm w) (map (λ y. y.0) ys)) ≡ true →
      (s : Sight) → ArmsMeet here s (map (arm_gives meanings (steps p)) (map (λ y. y.0) ys))
      (map (arm_gives meanings (steps q))
      (all_in s (map (arm_gives seen (seen_steps w)) (map (λ y. y.0) ys))))
  arms_move [] h s = tt
  arms_move (y ∷ ys) h s =
      let a = is_fit_arm w y.0 in let b = every (map (is_fit_arm w) (map (λ y. y.0) ys)) in
      (y.1 (first a b h) s, arms_move ys (second a b h) s)

  binds_move : (ys : List known.Binds) → every (map (is_fit_bind w) (map (λ y. y.0) ys)) ≡ true →
      (s : Sight) → AllBoundMeet here s (map (bind_gives meanings (steps p)) (map (λ y. y.0) ys))
      (map (bind_gives meanings (steps q))
      (all_in s (map (bind_gives seen (seen_steps w)) (map (λ y. y.0) ys))))
  binds_move [] h s = tt
  binds_move (y ∷ ys) h s =
      let a = is_fit_bind w y.0 in let b = every (map (is_fit_bind w) (map (λ y. y.0) ys)) in
      (y.1 (first a b h) s, binds_move ys (second a b h) s)

  clauses_move : (ys : List known.Clauses) →
      every (map (is_fit_clause w) (map (λ y. y.0) ys)) ≡ true → (s : Sight) →
      ClausesMeet here s (map (clause_gives meanings (steps p)) (map (λ y. y.0) ys))
      (map (clause_gives meanings (steps q))
      (all_in s (map (clause_gives seen (seen_steps w)) (map (λ y. y.0) ys))))
  clauses_move [] h s = tt
  clauses_move (y ∷ ys) h s =
      let a = is_fit_clause w y.0 in let b = every (map (is_fit_clause w) (map (λ y. y.0) ys)) in
      (y.1 (first a b h) s, clauses_move ys (second a b h) s)

  orders_move : (ys : List known.Orders) →
      every (map (is_fit_order w) (map (λ y. y.0) ys)) ≡ true → (s : Sight) →
      OrdersMeet here s (map (order_gives meanings (steps p)) (map (λ y. y.0) ys))
      (map (order_gives meanings (steps q))
      (all_in s (map (order_gives seen (seen_steps w)) (map (λ y. y.0) ys))))
  orders_move [] h s = tt
  orders_move (y ∷ ys) h s =
      let a = is_fit_order w y.0 in let b = every (map (is_fit_order w) (map (λ y. y.0) ys)) in
      (y.1 (first a b h) s, orders_move ys (second a b h) s)

  abbrev plain : ExprLayer known → ExprForm
  plain = map-Expr known.Clauses known.Exprs known.Names known.Parts known.Arms known.Binds known.Attrs known.Flwors known.Orders
      Clause Expr NameSource Part Arm Bind DirectAttr FlworOf Order
      (λ y. y.0) (λ y. y.0) (λ y. y.0) (λ y. y.0) (λ y. y.0) (λ y. y.0) (λ y. y.0) (λ y. y.0)
      (λ y. y.0)

  -- an operator on two values
  operands_move : (value : List Item → List Item → Result (List Item) Code) →
      KeepsBoth good value → (a b : known.Exprs) →
      (may_be_carried w a.0 && may_be_carried w b.0) ≡ true → (s : Sight) →
      Moves s (binary value (outcome p a.0) (outcome p b.0))
      (binary value (outcome q (carried w a.0 s)) (outcome q (carried w b.0 s)))
  operands_move value k a b h s =
      let t = may_be_carried w a.0 in let u = may_be_carried w b.0 in
      binary_meets here s value k _ _ _ _ (a.1 (first t u h) s) (b.1 (second t u h) s)

  -- what is known of a call
  key_known : (ys : List known.Exprs) (s : Sight) →
      begins_with_literal (map (fit_of w) (of_all ys)) ≡ true →
      KeyKnown (map (outcome p) (of_all ys)) (all_in s (map (carried w) (of_all ys)))
  key_known [] s h = tt
  key_known (y ∷ ys) s h =
      let l = literal_is w y.0 h in (
        l.0,
        ap (outcome p) l.1 ∙ rolled p (Str l.0),
        ap (λ x. literal_of (carried w x s)) l.1
            ∙ ap (λ f. literal_of (f s)) (seen_expr_rolled w (Str l.0))
            ∙ literal_of_str l.0,
      )

  call_known : (d : Called) (name : ExprName) (ys : List known.Exprs) (s : Sight) →
      call_fits w d name (map (fit_of w) (of_all ys)) ≡ true →
      FitsCall w d name (map (outcome p) (of_all ys)) (all_in s (map (carried w) (of_all ys)))
  call_known (library f) name ys s h = tt
  call_known document name ys s h = tt
  call_known current name ys s h = tt
  call_known current_group name ys s h = h
  call_known current_key name ys s h = h
  call_known key name ys s h =
      let b = and_parts w.has_keys (begins_with_literal (map (fit_of w) (of_all ys))) h in
      (b.0, key_known ys s b.1)
  call_known declared name ys s h = h

  abbrev expr_list : List known.Exprs → Sight → List Expr
  expr_list ys s = all_in s (map (carried w) (of_all ys))

  form : (s : Sight) (x : ExprForm) (m : Meaning) → Moves s m (means q x) →
      Moves s m (outcome q (roll-Expr x))
  form s x m h = to_form like lax rel carries good keeps w q s x m h

  form_moves : (y : ExprLayer known) → (fit_expr_value w (plain y)).fits ≡ true → (s : Sight) →
      Moves s (means p (plain y)) (outcome q (seen_expr_value w (plain y) s))
  form_moves (Int n) h s =
      form s (Int n) _ (just_meets here s (Atom (atom.Int n) ∷ []) (keeps.integer n))
  form_moves (Str t) h s =
      form s (Str t) _ (just_meets here s (Atom (atom.Str t) ∷ []) (texts t h, tt))
  form_moves (Var name) h s =
      form s (Var name) _ (variable_meets here s p q
      (meet like lax rel carries good keeps w p q programs) name h)
  form_moves Context h s = context_carried like lax rel carries good keeps w q s
  form_moves Root h s = root_carried like lax rel carries good keeps w q s
  form_moves (Comma all) h s =
      form s (Comma (expr_list all s)) _ (comma_meets here s _ _ (all_move all h s))
  form_moves (Or all) h s = form s (Or (expr_list all s)) _ (or_meets here s _ _ (all_move all h s))
  form_moves (And all) h s = form s (And (expr_list all s)) _ (and_meets here s _ _ (all_move all h s))
  form_moves (If arms other) h s =
      let a = every (map (is_fit_arm w) (map (λ y. y.0) arms)) in let b = may_be_carried w other.0 in
      form s (If (all_in s (map (arm_gives seen (seen_steps w)) (map (λ y. y.0) arms)))
      (carried w other.0 s)) _
      (choice_meets here s _ _ (arms_move arms (first a b h) s) _ _ (other.1 (second a b h) s))
  form_moves (Flwor f) h s =
      form s (Flwor (flwor_gives seen (seen_steps w) f.0 s)) _ (f.1 h s)
  form_moves (Quant every_one binds tested) h s =
      let a = every (map (is_fit_bind w) (map (λ y. y.0) binds)) in
      let b = may_be_carried w tested.0 in
      form s (Quant every_one (all_in s (map (bind_gives seen (seen_steps w)) (map (λ y. y.0) binds)))
      (carried w tested.0 s)) _
      (quantifier_meets here s every_one _ _ (binds_move binds (first a b h) s) _ _
      (tested.1 (second a b h) s))
  form_moves (General op a b) h s =
      form s (General op (carried w a.0 s) (carried w b.0 s)) _
      (operands_move (general_value op) (keeps.general op) a b h s)
  form_moves (Value op a b) h s =
      form s (Value op (carried w a.0 s) (carried w b.0 s)) _
      (operands_move (single_value op) (keeps.single op) a b h s)
  form_moves (Is a b) h s =
      form s (Is (carried w a.0 s) (carried w b.0 s)) _ (operands_move is_value keeps.is a b h s)
  form_moves (Before a b) h s =
      form s (Before (carried w a.0 s) (carried w b.0 s)) _
      (operands_move before_value keeps.before a b h s)
  form_moves (After a b) h s =
      form s (After (carried w a.0 s) (carried w b.0 s)) _
      (operands_move after_value keeps.after a b h s)
  form_moves (Range a b) h s =
      form s (Range (carried w a.0 s) (carried w b.0 s)) _
      (operands_move range_value keeps.range a b h s)
  form_moves (Arith op a b) h s =
      form s (Arith op (carried w a.0 s) (carried w b.0 s)) _
      (operands_move (arithmetic_value op) (keeps.arithmetic op) a b h s)
  form_moves (Minus a) h s =
      form s (Minus (carried w a.0 s)) _
      (unary_meets here s negated_value keeps.negated _ _ (a.1 h s))
  form_moves (Plus a) h s =
      form s (Plus (carried w a.0 s)) _ (unary_meets here s signed_value keeps.signed _ _ (a.1 h s))
  form_moves (Union a b) h s =
      form s (Union (carried w a.0 s) (carried w b.0 s)) _
      (operands_move union_value keeps.union a b h s)
  form_moves (Intersect a b) h s =
      form s (Intersect (carried w a.0 s) (carried w b.0 s)) _
      (operands_move intersect_value keeps.intersect a b h s)
  form_moves (Except a b) h s =
      form s (Except (carried w a.0 s) (carried w b.0 s)) _
      (operands_move except_value keeps.except a b h s)
  form_moves (InstanceOf a kind) h s =
      form s (InstanceOf (carried w a.0 s) kind) _
      (unary_meets here s (instance_value kind) (keeps.instance kind) _ _ (a.1 h s))
  form_moves (Treat a kind) h s =
      form s (Treat (carried w a.0 s) kind) _
      (unary_meets here s (treated_value kind) (keeps.treated kind) _ _ (a.1 h s))
  form_moves (Castable a kind empty) h s =
      form s (Castable (carried w a.0 s) kind empty) _
      (unary_meets here s (castable_value kind empty) (keeps.castable kind empty) _ _ (a.1 h s))
  form_moves (Cast a kind empty) h s =
      form s (Cast (carried w a.0 s) kind empty) _
      (unary_meets here s (cast_value kind empty) (keeps.cast kind empty) _ _ (a.1 h s))
  form_moves (Slash a b) h s =
      let t = may_be_carried w a.0 in let u = may_be_carried w b.0 in
      form s (Slash (carried w a.0 s) (carried w b.0 focused)) _
      (slash_meets here s _ _ _ _ (a.1 (first t u h) s) (b.1 (second t u h) focused))
  form_moves (Step axis wanted tests) h s =
      step_carried like lax rel carries good keeps w q s axis wanted
      (map (outcome p) (of_all tests)) (expr_list tests focused) (all_move tests h focused)
  form_moves (Filter of tests) h s =
      let t = may_be_carried w of.0 in let u = all_fit (map (fit_of w) (of_all tests)) in
      form s (Filter (carried w of.0 s) (expr_list tests focused)) _
      (filter_meets here s _ _ (of.1 (first t u h) s) _ _ (all_move tests (second t u h) focused))
  form_moves (Call name args) h s =
      let n = length (map (fit_of w) (of_all args)) in
      let t = call_fits w (called name n) name (map (fit_of w) (of_all args)) in
      let u = all_fit (map (fit_of w) (of_all args)) in
      let same : length (map (outcome p) (of_all args)) ≡ n =
      length-map (of_all args) (outcome p) ∙ sym (length-map (of_all args) (fit_of w)) in
      call_carried like lax rel carries good keeps w p q programs local s name
      (map (outcome p) (of_all args)) (expr_list args s) (all_move args (second t u h) s)
      (rw same (call_known (called name n) name args s (first t u h)))
  form_moves (ElemC name content) h s = absurd cc
  form_moves (AttrC name content) h s = absurd cc
  form_moves (DocC content) h s = absurd cc
  form_moves (TextC content) h s = absurd cc
  form_moves (CommentC content) h s = absurd cc
  form_moves (PiC name content) h s = absurd cc
  form_moves (Direct name attrs parts) h s = absurd cc

  expr_step : (x : ExprForm) (y : ExprLayer known) → plain y ≡ x → ExprMoves (roll-Expr x)
  expr_step x y is h s =
      let f : (fit_expr_value w (plain y)).fits ≡ true =
      ap (λ z. z.fits) (sym (fit_expr_rolled w (plain y)))
      ∙ ap (λ z. may_be_carried w (roll-Expr z)) is ∙ h in
      rw (← is, rolled p (plain y), seen_expr_rolled w (plain y)) (form_moves y f s)

  abbrev plain_arm : ArmLayer known → ArmForm
  plain_arm = map-Arm known.Clauses known.Exprs known.Names known.Parts known.Arms known.Binds known.Attrs known.Flwors known.Orders
      Clause Expr NameSource Part Arm Bind DirectAttr FlworOf Order
      (λ y. y.0) (λ y. y.0) (λ y. y.0) (λ y. y.0) (λ y. y.0) (λ y. y.0) (λ y. y.0) (λ y. y.0)
      (λ y. y.0)

  arm_step : (x : ArmForm) (y : ArmLayer known) → plain_arm y ≡ x → ArmMoves (roll-Arm x)
  arm_step x y is h s =
      let t = may_be_carried w y.test.0 in let u = may_be_carried w y.then.0 in
      let f : (t && u) ≡ true =
      sym (fit_arm_rolled w (plain_arm y)) ∙ ap (λ z. is_fit_arm w (roll-Arm z)) is ∙ h in
      let new : ArmForm = record { test = carried w y.test.0 s; then = carried w y.then.0 s } in
      rw (← is, rolled_arm p (plain_arm y), seen_arm_rolled w (plain_arm y), rolled_arm q new)
      (y.test.1 (first t u f) s, y.then.1 (second t u f) s)

  abbrev plain_bind : BindLayer known → BindForm
  plain_bind = map-Bind known.Clauses known.Exprs known.Names known.Parts known.Arms known.Binds known.Attrs known.Flwors known.Orders
      Clause Expr NameSource Part Arm Bind DirectAttr FlworOf Order
      (λ y. y.0) (λ y. y.0) (λ y. y.0) (λ y. y.0) (λ y. y.0) (λ y. y.0) (λ y. y.0) (λ y. y.0)
      (λ y. y.0)

  bind_step : (x : BindForm) (y : BindLayer known) → plain_bind y ≡ x → BindMoves (roll-Bind x)
  bind_step x y is h s =
      let t = may_name w y.var in let u = may_be_carried w y.source.0 in
      let f : (t && u) ≡ true =
      sym (fit_bind_rolled w (plain_bind y)) ∙ ap (λ z. is_fit_bind w (roll-Bind z)) is ∙ h in
      let new : BindForm = record { var = y.var; kind = y.kind; source = carried w y.source.0 s } in
      rw (← is, rolled_bind p (plain_bind y), seen_bind_rolled w (plain_bind y), rolled_bind q new)
      (refl, refl, first t u f, y.source.1 (second t u f) s)

  abbrev plain_order : OrderLayer known → OrderForm
  plain_order = map-Order known.Clauses known.Exprs known.Names known.Parts known.Arms known.Binds known.Attrs known.Flwors known.Orders
      Clause Expr NameSource Part Arm Bind DirectAttr FlworOf Order
      (λ y. y.0) (λ y. y.0) (λ y. y.0) (λ y. y.0) (λ y. y.0) (λ y. y.0) (λ y. y.0) (λ y. y.0)
      (λ y. y.0)

  order_step : (x : OrderForm) (y : OrderLayer known) → plain_order y ≡ x → OrderMoves (roll-Order x)
  order_step x y is h s =
      let f : may_be_carried w y.key.0 ≡ true =
      sym (fit_order_rolled w (plain_order y)) ∙ ap (λ z. is_fit_order w (roll-Order z)) is ∙ h in
      let new : OrderForm = record { key = carried w y.key.0 s; descending = y.descending } in
      rw (← is, rolled_order p (plain_order y), seen_order_rolled w (plain_order y), rolled_order q new)
      (y.key.1 f s, refl)

  abbrev plain_flwor : FlworLayer known → FlworForm
  plain_flwor = map-Flwor known.Clauses known.Exprs known.Names known.Parts known.Arms known.Binds known.Attrs known.Flwors known.Orders
      Clause Expr NameSource Part Arm Bind DirectAttr FlworOf Order
      (λ y. y.0) (λ y. y.0) (λ y. y.0) (λ y. y.0) (λ y. y.0) (λ y. y.0) (λ y. y.0) (λ y. y.0)
      (λ y. y.0)

  abbrev a_flwor : List known.Clauses → Option known.Exprs → List known.Orders → Bool →
      known.Exprs → FlworLayer known
  a_flwor clauses tested orders stable body = record {
    clauses = clauses;
    test = tested;
    orders = orders;
    stable = stable;
    body = body;
  }

  abbrev new_flwor : List known.Clauses → Option Expr → List known.Orders → Bool → known.Exprs →
      Sight → FlworForm
  new_flwor clauses tested orders stable body s = record {
    clauses = all_in s (map (clause_gives seen (seen_steps w)) (map (λ y. y.0) clauses));
    test = tested;
    orders = all_in s (map (order_gives seen (seen_steps w)) (map (λ y. y.0) orders));
    stable = stable;
    body = carried w body.0 s;
  }

  flwor_moves : (clauses : List known.Clauses) (tested : Option known.Exprs)
      (orders : List known.Orders) (stable : Bool) (body : known.Exprs) →
      fit_flwor_value w (plain_flwor (a_flwor clauses tested orders stable body)) ≡ true →
      (s : Sight) →
      Moves s (flwor_value p (plain_flwor (a_flwor clauses tested orders stable body)))
      (flwor_gives meanings (steps q)
      (seen_flwor_value w (plain_flwor (a_flwor clauses tested orders stable body)) s))
  flwor_moves clauses None orders stable body h s =
      let t = every (map (is_fit_clause w) (map (λ y. y.0) clauses)) in
      let v = every (map (is_fit_order w) (map (λ y. y.0) orders)) in
      let u = may_be_carried w body.0 in
      let r = second true (v && u) (second t (true && (v && u)) h) in
      rw (rolled_flwor q (new_flwor clauses None orders stable body s))
      (flwor_meets here s _ _ (clauses_move clauses (first t (true && (v && u)) h) s) None None tt
      _ _ (orders_move orders (first v u r) s) _ _ (body.1 (second v u r) s))
  flwor_moves clauses (Some tested) orders stable body h s =
      let t = every (map (is_fit_clause w) (map (λ y. y.0) clauses)) in
      let b = may_be_carried w tested.0 in
      let v = every (map (is_fit_order w) (map (λ y. y.0) orders)) in
      let u = may_be_carried w body.0 in
      let r = second t (b && (v && u)) h in
      let o = second b (v && u) r in
      rw (rolled_flwor q (new_flwor clauses (Some (carried w tested.0 s)) orders stable body s))
      (flwor_meets here s _ _ (clauses_move clauses (first t (b && (v && u)) h) s) (Some _) (Some _)
      (tested.1 (first b (v && u) r) s)
      _ _ (orders_move orders (first v u o) s) _ _ (body.1 (second v u o) s))

  flwor_step : (x : FlworForm) (y : FlworLayer known) → plain_flwor y ≡ x → FlworMoves (roll-Flwor x)
  flwor_step x y is h s =
      let f : fit_flwor_value w (plain_flwor y) ≡ true =
      sym (fit_flwor_rolled w (plain_flwor y)) ∙ ap (λ z. is_fit_flwor w (roll-Flwor z)) is ∙ h in
      rw (← is, rolled_flwor p (plain_flwor y), seen_flwor_rolled w (plain_flwor y))
      (flwor_moves y.clauses y.test y.orders y.stable y.body f s)

  abbrev plain_clause : ClauseLayer known → ClauseForm
  plain_clause = map-Clause known.Clauses known.Exprs known.Names known.Parts known.Arms known.Binds known.Attrs known.Flwors known.Orders
      Clause Expr NameSource Part Arm Bind DirectAttr FlworOf Order
      (λ y. y.0) (λ y. y.0) (λ y. y.0) (λ y. y.0) (λ y. y.0) (λ y. y.0) (λ y. y.0) (λ y. y.0)
      (λ y. y.0)

  clause_moves : (y : ClauseLayer known) → fit_clause_value w (plain_clause y) ≡ true → (s : Sight) →
      ClauseMeets here s (clause_value p (plain_clause y))
      (clause_gives meanings (steps q) (seen_clause_value w (plain_clause y) s))
  clause_moves (For b None) h s =
      let t = is_fit_bind w b.0 in let u = place_fits w None in
      rw (rolled_clause q (For (bind_gives seen (seen_steps w) b.0 s) None))
      (for_meets here s _ _ (b.1 (first t u h) s))
  clause_moves (For b (Some at)) h s =
      let t = is_fit_bind w b.0 in let u = place_fits w (Some at) in
      rw (rolled_clause q (For (bind_gives seen (seen_steps w) b.0 s) (Some at)))
      (at_meets here s _ _ (b.1 (first t u h) s) at (second t u h))
  clause_moves (Let b) h s =
      rw (rolled_clause q (Let (bind_gives seen (seen_steps w) b.0 s)))
      (let_meets here s _ _ (b.1 h s))

  clause_step : (x : ClauseForm) (y : ClauseLayer known) → plain_clause y ≡ x →
      ClauseMoves (roll-Clause x)
  clause_step x y is h s =
      let f : fit_clause_value w (plain_clause y) ≡ true =
      sym (fit_clause_rolled w (plain_clause y)) ∙ ap (λ z. is_fit_clause w (roll-Clause z)) is
      ∙ h in
      rw (← is, rolled_clause p (plain_clause y), seen_clause_rolled w (plain_clause y))
      (clause_moves y f s)

  pub whole_carried : (e : Expr) → ExprMoves e
  whole_carried = ind-Expr ClauseMoves ExprMoves (λ x. Unit {0}) (λ x. Unit {0}) ArmMoves BindMoves
      (λ x. Unit {0}) FlworMoves OrderMoves clause_step expr_step (λ x y is. tt) (λ x y is. tt)
      arm_step bind_step (λ x y is. tt) flwor_step order_step
