-- The tokens of an expression that can be printed end before those that follow.
use Rattle.std.proofs.Common.{◌≡◌, List, [], ◌∷◌, map, Bool, true, ◌&&◌, refl}
use Rattle.std.proofs.Common.{Option, Some, None}
use Rattle.std.proofs.lemmas.Bool.{and_parts}
use Rattle.xt_names.specs.declared.kinds.ArithOp.{ArithOp}
use Rattle.xt_names.specs.declared.kinds.ArithOp.TheVariants as arith
use Rattle.xt_syntax.specs.declared.exprs.Expr.{Expr}
use Rattle.xt_syntax.specs.declared.exprs.Arm.{Arm}
use Rattle.xt_syntax.specs.declared.exprs.Clause.{Clause}
use Rattle.xt_syntax.specs.declared.exprs.Order.{Order}
use Rattle.xt_syntax.specs.declared.exprs.Flwor.{Flwor as FlworOf}
use Rattle.xt_syntax.specs.declared.exprs.Bind.{Bind}
use Rattle.xt_syntax.specs.declared.exprs.NameSource.{NameSource}
use Rattle.xt_syntax.specs.declared.exprs.DirectAttr.{DirectAttr}
use Rattle.xt_syntax.specs.declared.exprs.Part.{Part}
use Rattle.xt_syntax.specs.declared.prefixes.Prefixes.{Prefixes}
use Rattle.xt_syntax.specs.declared.exprs.Clause.TheViews.{roll-Clause, roll-NameSource}
use Rattle.xt_syntax.specs.declared.exprs.Clause.TheViews.{roll-Part, roll-Arm, roll-Bind}
use Rattle.xt_syntax.specs.declared.exprs.Clause.TheViews.{roll-DirectAttr, roll-Flwor, roll-Order}
use Rattle.xt_syntax.specs.declared.exprs.Clause.TheOpen.{Int, Str, Context, Root, Comma}
use Rattle.xt_syntax.specs.declared.exprs.Clause.TheOpen.{Or, And, General, Value, Is, Before}
use Rattle.xt_syntax.specs.declared.exprs.Clause.TheOpen.{After, Range, Arith, Minus, Plus, Union}
use Rattle.xt_syntax.specs.declared.exprs.Clause.TheOpen.{Intersect, Except, Filter}
use Rattle.xt_syntax.specs.declared.exprs.Clause.TheOpen.{Var, Call, Step, Slash}
use Rattle.xt_syntax.specs.declared.exprs.Clause.TheOpen.{InstanceOf, Treat, Castable, Cast}
use Rattle.xt_syntax.specs.declared.exprs.Clause.TheOpen.{DocC, TextC, CommentC, If, Flwor, Quant}
use Rattle.xt_syntax.specs.declared.exprs.Clause.TheOpen.{ElemC, AttrC, PiC, Fixed, Computed}
use Rattle.xt_syntax.specs.declared.exprs.Clause.TheOpen.{Direct, Chars, Enclosed, Child, For, Let}
use Rattle.xt_syntax.specs.Layers.{Kinds, ClauseLayer, ExprLayer, NameLayer, PartLayer, ArmLayer}
use Rattle.xt_syntax.specs.Layers.{BindLayer, AttrLayer, FlworLayer, OrderLayer}
use Rattle.expr_keys.specs.declared.keys.Key.{Key}
use Rattle.expr_keys.specs.declared.keys.Key.TheVariants as key
use Rattle.expr_keys.specs.declared.productions.Level.{Level}
use Rattle.expr_keys.specs.declared.productions.Level.TheVariants as level
use Rattle.expr_raws.specs.PathRaws.Forms.{Form, all_can}
use Rattle.expr_raws.specs.ControlRaws.Operators.{compare_key, value_key, arithmetic, ArmForm, arms_can}
use Rattle.expr_raws.specs.ControlRaws.Operators.{has_arms, listed, many}
use Rattle.expr_raws.specs.ControlRaws.Operators.{once, left}
use Rattle.expr_raws.specs.ControlRaws.Types.{sequence_form, single_form, of_type}
use Rattle.expr_raws.specs.ControlRaws.Bindings.{BindForm, ClauseForm, OrderForm}
use Rattle.expr_raws.specs.ElementRaws.Makers.{NameForm}
use Rattle.expr_raws.specs.ElementRaws.Direct.{PartForm, AttrForm}
use Rattle.expr_raws.specs.Raws.{form_of}
use Rattle.expr_raws.proofs.Induction.{clause_form, name_form, part_form, arm_form, bind_form}
use Rattle.expr_raws.proofs.Induction.{attr_form, order_form, of_clause, of_expr}
use Rattle.expr_raws.proofs.Induction.{of_name, of_part, of_arm, of_bind, of_attr, of_flwor}
use Rattle.expr_raws.proofs.Induction.{of_order, pairs, plain_clause, plain_expr, plain_name}
use Rattle.expr_raws.proofs.Induction.{plain_part, plain_arm, plain_bind, plain_attr}
use Rattle.expr_raws.proofs.Induction.{plain_flwor, plain_order, all_exprs}
use Rattle.token_laws.proofs.EndedTokens.Ends.{Ends, Ended, AllEnd}
use Rattle.token_laws.proofs.EndedTokens.Parts.{variable_ends, name_ends, call_ends, step_ends, filter_ends}
use Rattle.token_laws.proofs.EndedTokens.Parts.{slashed_ends, sequence_ends, single_ends, once_ends}
use Rattle.token_laws.proofs.EndedTokens.Parts.{left_ends, many_end, listed_ends, signed_ends, typed_ends}
use Rattle.token_laws.proofs.EndedTokens.Parts.{AllArms, conditional_ends}
use Rattle.token_laws.proofs.EndedTokens.Bindings.{BindEnds, AllBinds, quantified_ends, typing_may, for_ends}
use Rattle.token_laws.proofs.EndedTokens.Bindings.{let_ends, AllClauses, AllOrders, flowing_ends}
use Rattle.token_laws.proofs.EndedTokens.Elements.{NameEnds, element_ends, attribute_ends}
use Rattle.token_laws.proofs.EndedTokens.Elements.{instruction_ends, enclosing_ends, PartEnds, AllParts}
use Rattle.token_laws.proofs.EndedTokens.Elements.{AllAttrs, direct_ends}

module _ (p : Prefixes) where
  abbrev C : ClauseForm → Clause → Type 0
  C f x = f.can ≡ true → Ends f.tokens

  abbrev E : Form → Expr → Type 0
  E f x = f.can ≡ true → Ended f

  abbrev N : NameForm → NameSource → Type 0
  N f x = NameEnds f

  abbrev T : PartForm → Part → Type 0
  T f x = PartEnds f

  abbrev A : ArmForm → Arm → Type 0
  A f x = (f.test.can ≡ true → Ended f.test) × (f.first.can ≡ true → Ended f.first)

  abbrev B : BindForm → Bind → Type 0
  B f x = BindEnds f

  abbrev D : AttrForm → DirectAttr → Type 0
  D f x = AllParts f.parts

  abbrev F : Form → FlworOf → Type 0
  F f x = f.can ≡ true → Ended f

  abbrev O : OrderForm → Order → Type 0
  O f x = f.key.can ≡ true → Ended f.key

  abbrev Kept : Kinds
  Kept = pairs p C E N T A B D F O

  abbrev Known : Type 0
  Known = (e : Expr) × E (form_of p e) e

  abbrev form : Known → Form
  form y = form_of p y.0

  abbrev their : List Known → List Form
  their ys = map (form_of p) (map (λ y. y.0) ys)

  all_so : (ys : List Known) → all_can (their ys) ≡ true → AllEnd (their ys)
  all_so [] c = tt
  all_so (y ∷ ys) c =
      let h = and_parts (form y).can (all_can (their ys)) c in (y.1 h.0, all_so ys h.1)

  lists : (ys : List Known) → (listed (their ys)).can ≡ true → Ended (listed (their ys))
  lists [] c = listed_ends [] tt c
  lists (y ∷ []) c = absurd (cc)
  lists (y ∷ z ∷ ys) c = listed_ends (their (y ∷ z ∷ ys)) (all_so (y ∷ z ∷ ys) c) c

  ors : (ys : List Known) → (many level.Or key.OrWord (their ys)).can ≡ true
      → Ended (many level.Or key.OrWord (their ys))
  ors [] c = absurd (cc)
  ors (y ∷ []) c = absurd (cc)
  ors (y ∷ z ∷ ys) c = many_end level.Or key.OrWord (their (y ∷ z ∷ ys))
      (all_so (y ∷ z ∷ ys) c) c

  ands : (ys : List Known) → (many level.And key.AndWord (their ys)).can ≡ true
      → Ended (many level.And key.AndWord (their ys))
  ands [] c = absurd (cc)
  ands (y ∷ []) c = absurd (cc)
  ands (y ∷ z ∷ ys) c = many_end level.And key.AndWord (their (y ∷ z ∷ ys))
      (all_so (y ∷ z ∷ ys) c) c

  -- two operands
  module _ (y z : Known) (c : ((form y).can && (form z).can) ≡ true) where
    first : Ended (form y)
    first = y.1 (and_parts (form y).can (form z).can c).0

    second : Ended (form z)
    second = z.1 (and_parts (form y).can (form z).can c).1

    once_so : (k : Key) (l : Level) → Ended (once l k (form y) (form z))
    once_so k l = once_ends l k (form y) (form z) first second

    left_so : (k : Key) (l : Level) → Ended (left l k (form y) (form z))
    left_so k l = left_ends l k (form y) (form z) first second

  arith_ends : (op : ArithOp) (y z : Known) → (arithmetic op (form y) (form z)).can ≡ true
      → Ended (arithmetic op (form y) (form z))
  arith_ends arith.Add y z c = left_so y z c key.Plus level.Additive
  arith_ends arith.Sub y z c = left_so y z c key.Minus level.Additive
  arith_ends arith.Mul y z c = left_so y z c key.Star level.Multiplicative
  arith_ends arith.Idiv y z c = left_so y z c key.IdivWord level.Multiplicative
  arith_ends arith.Mod y z c = left_so y z c key.ModWord level.Multiplicative

  -- an operand and a type
  type_so : (l : Level) (y : Known) (t : Form) → (t.can ≡ true → Ended t)
      → ((form y).can && t.can) ≡ true → Ended (of_type l (form y) t)
  type_so l y t s c =
      let h = and_parts (form y).can t.can c in
      typed_ends l (form y) t (y.1 h.0) (s h.1)

  all_arms : (ys : List ((x : Arm) × A (arm_form p x) x))
      → arms_can (map (arm_form p) (map (λ y. y.0) ys)) ≡ true
      → AllArms (map (arm_form p) (map (λ y. y.0) ys))
  all_arms [] c = tt
  all_arms (y ∷ ys) c =
      let f = arm_form p y.0 in
      let more : Bool = arms_can (map (arm_form p) (map (λ z. z.0) ys)) in
      let h = and_parts f.test.can (f.first.can && more) c in
      let i = and_parts f.first.can more h.1 in
      ((y.1.0 h.0, y.1.1 i.0), all_arms ys i.1)

  all_binds : (ys : List ((x : Bind) × B (bind_form p x) x))
      → AllBinds (map (bind_form p) (map (λ y. y.0) ys))
  all_binds [] = tt
  all_binds (y ∷ ys) = (y.1, all_binds ys)

  all_parts : (ys : List ((x : Part) × T (part_form p x) x))
      → AllParts (map (part_form p) (map (λ y. y.0) ys))
  all_parts [] = tt
  all_parts (y ∷ ys) = (y.1, all_parts ys)

  all_attrs : (ys : List ((x : DirectAttr) × D (attr_form p x) x))
      → AllAttrs (map (attr_form p) (map (λ y. y.0) ys))
  all_attrs [] = tt
  all_attrs (y ∷ ys) = (y.1, all_attrs ys)

  all_clauses : (ys : List ((x : Clause) × C (clause_form p x) x))
      → AllClauses (map (clause_form p) (map (λ y. y.0) ys))
  all_clauses [] = tt
  all_clauses (y ∷ ys) = (y.1, all_clauses ys)

  all_orders : (ys : List ((x : Order) × O (order_form p x) x))
      → AllOrders (map (order_form p) (map (λ y. y.0) ys))
  all_orders [] = tt
  all_orders (y ∷ ys) = (y.1, all_orders ys)

  abbrev laid : ExprLayer Kept → Form
  laid y = of_expr p (plain_expr p C E N T A B D F O y)

  one_expr : (y : ExprLayer Kept) → (laid y).can ≡ true → Ended (laid y)
  one_expr (Int n) c = record { ends = λ ts rest. refl; fills = λ ts. refl }
  one_expr (Str cs) c = record { ends = λ ts rest. refl; fills = λ ts. refl }
  one_expr Context c = record { ends = λ ts rest. refl; fills = λ ts. refl }
  one_expr Root c = record { ends = λ ts rest. refl; fills = λ ts. refl }
  one_expr (Comma ys) c = lists ys c
  one_expr (Or ys) c = ors ys c
  one_expr (And ys) c = ands ys c
  one_expr (General op y z) c =
      once_so y z c (compare_key op) level.Comparison
  one_expr (Value op y z) c = once_so y z c (value_key op) level.Comparison
  one_expr (Is y z) c = once_so y z c key.IsWord level.Comparison
  one_expr (Before y z) c = once_so y z c key.Before level.Comparison
  one_expr (After y z) c = once_so y z c key.After level.Comparison
  one_expr (Range y z) c = once_so y z c key.ToWord level.Range
  one_expr (Arith op y z) c = arith_ends op y z c
  one_expr (Minus y) c = signed_ends key.Minus (form y) (y.1 c)
  one_expr (Plus y) c = signed_ends key.Plus (form y) (y.1 c)
  one_expr (Union y z) c = left_so y z c key.UnionWord level.Union
  one_expr (Intersect y z) c = left_so y z c key.IntersectWord level.Intersect
  one_expr (Except y z) c = left_so y z c key.ExceptWord level.Intersect
  one_expr (Filter y ys) c = filter_ends (form y) (their ys) y.1 (all_so ys) c
  one_expr (InstanceOf y t) c =
      type_so level.InstanceOf y (sequence_form p t) (sequence_ends p t) c
  one_expr (Treat y t) c = type_so level.Treat y (sequence_form p t) (sequence_ends p t) c
  one_expr (Castable y k b) c =
      type_so level.Castable y (single_form p k b) (single_ends p k b) c
  one_expr (Cast y k b) c = type_so level.Cast y (single_form p k b) (single_ends p k b) c
  one_expr (ElemC n y) c = element_ends p (name_form p n.0) (form y) n.1 y.1 c
  one_expr (AttrC n y) c = attribute_ends p (name_form p n.0) (form y) n.1 y.1 c
  one_expr (PiC n y) c = instruction_ends p (name_form p n.0) (form y) n.1 y.1 c
  one_expr (DocC y) c = enclosing_ends key.DocumentWord (form y) (y.1 c)
  one_expr (TextC y) c = enclosing_ends key.TextWord (form y) (y.1 c)
  one_expr (CommentC y) c = enclosing_ends key.CommentWord (form y) (y.1 c)
  one_expr (If arms y) c =
      let fs : List ArmForm = map (arm_form p) (map (λ a. a.0) arms) in
      let h = and_parts (has_arms fs) _ c in
      let i = and_parts (arms_can fs) _ h.1 in
      let j = and_parts (form y).can _ i.1 in
      conditional_ends fs (form y) h.0 (all_arms arms i.0) (y.1 j.0)
  one_expr (Var n) c = variable_ends p n c
  one_expr (Call n ys) c = call_ends p n (their ys) (all_so ys) c
  one_expr (Step on t ys) c = step_ends p on t (their ys) (all_so ys) c
  one_expr (Slash y z) c = slashed_ends (form y) (form z) (first y z c) (second y z c)
  one_expr (Flwor f) c = f.1 c
  one_expr (Quant every bs y) c =
      quantified_ends every (map (bind_form p) (map (λ b. b.0) bs)) (form y) (all_binds bs)
      y.1 c
  one_expr (Direct n attrs ps) c =
      direct_ends p n (map (attr_form p) (map (λ a. a.0) attrs))
      (map (part_form p) (map (λ q. q.0) ps)) (all_attrs attrs) (all_parts ps) c

  one_name : (y : NameLayer Kept) → N (of_name p (plain_name p C E N T A B D F O y))
      (roll-NameSource (plain_name p C E N T A B D F O y))
  one_name (Fixed n) = tt
  one_name (Computed y) = y.1

  one_part : (y : PartLayer Kept) → T (of_part p (plain_part p C E N T A B D F O y))
      (roll-Part (plain_part p C E N T A B D F O y))
  one_part (Chars cs) = tt
  one_part (Enclosed y) = y.1
  one_part (Child y) = y.1

  one_arm : (y : ArmLayer Kept) → A (of_arm p (plain_arm p C E N T A B D F O y))
      (roll-Arm (plain_arm p C E N T A B D F O y))
  one_arm y = (y.test.1, y.then.1)

  one_bind : (y : BindLayer Kept) → B (of_bind p (plain_bind p C E N T A B D F O y))
      (roll-Bind (plain_bind p C E N T A B D F O y))
  one_bind y = record {
    name = name_ends p y.var;
    kind = typing_may p y.kind;
    source = y.source.1;
  }

  one_clause : (y : ClauseLayer Kept) → C (of_clause p (plain_clause p C E N T A B D F O y))
      (roll-Clause (plain_clause p C E N T A B D F O y))
  one_clause (For b o) = for_ends p (bind_form p b.0) o b.1
  one_clause (Let b) = let_ends (bind_form p b.0) b.1

  one_attr : (y : AttrLayer Kept) → D (of_attr p (plain_attr p C E N T A B D F O y))
      (roll-DirectAttr (plain_attr p C E N T A B D F O y))
  one_attr y = all_parts y.parts

  one_order : (y : OrderLayer Kept) → O (of_order p (plain_order p C E N T A B D F O y))
      (roll-Order (plain_order p C E N T A B D F O y))
  one_order y = y.key.1

  abbrev made_of : List Kept.Clauses → Option Kept.Exprs → List Kept.Orders → Bool
      → Kept.Exprs → FlworLayer Kept
  made_of clauses test orders stable body = record {
    clauses = clauses;
    test = test;
    orders = orders;
    stable = stable;
    body = body;
  }

  abbrev FlworEnds : FlworLayer Kept → Type 0
  FlworEnds y = F (of_flwor p (plain_flwor p C E N T A B D F O y))
      (roll-Flwor (plain_flwor p C E N T A B D F O y))

  flwor_ends : (clauses : List Kept.Clauses) (test : Option Kept.Exprs)
      (orders : List Kept.Orders) (stable : Bool) (body : Kept.Exprs)
      → FlworEnds (made_of clauses test orders stable body)
  flwor_ends clauses None orders stable body c =
      flowing_ends (map (clause_form p) (map (λ x. x.0) clauses)) None
      (map (order_form p) (map (λ o. o.0) orders)) stable (form body)
      (all_clauses clauses) (λ h. tt) (all_orders orders) body.1 c
  flwor_ends clauses (Some t) orders stable body c =
      flowing_ends (map (clause_form p) (map (λ x. x.0) clauses)) (Some (form t))
      (map (order_form p) (map (λ o. o.0) orders)) stable (form body) (all_clauses clauses)
      t.1 (all_orders orders) body.1 c

  one_flwor : (y : FlworLayer Kept) → FlworEnds y
  one_flwor y = flwor_ends y.clauses y.test y.orders y.stable y.body

  pub printable_ends : (e : Expr) → (form_of p e).can ≡ true → Ended (form_of p e)
  printable_ends = all_exprs p C E N T A B D F O one_clause one_expr one_name one_part one_arm
      one_bind one_attr one_flwor one_order
