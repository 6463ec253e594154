-- The tokens of an expression that can be printed can be written.
use Rattle.std.proofs.Common.{◌≡◌, List, [], ◌∷◌, map, Bool, true, ◌&&◌, refl}
use Rattle.std.proofs.Common.{Option, Some, None}
use Rattle.std.proofs.lemmas.Bool.{and_parts}
use Rattle.xt_names.specs.declared.kinds.CompareOp.{CompareOp}
use Rattle.xt_names.specs.declared.kinds.CompareOp.TheVariants as compare
use Rattle.xt_names.specs.declared.kinds.ArithOp.{ArithOp}
use Rattle.xt_names.specs.declared.kinds.ArithOp.TheVariants as arith
use Rattle.xt_syntax.specs.declared.exprs.Expr.{Expr}
use Rattle.xt_syntax.specs.declared.exprs.Arm.{Arm}
use Rattle.xt_syntax.specs.declared.exprs.Clause.{Clause}
use Rattle.xt_syntax.specs.declared.exprs.Order.{Order}
use Rattle.xt_syntax.specs.declared.exprs.Flwor.{Flwor as FlworOf}
use Rattle.xt_syntax.specs.declared.exprs.Bind.{Bind}
use Rattle.xt_syntax.specs.declared.exprs.NameSource.{NameSource}
use Rattle.xt_syntax.specs.declared.exprs.DirectAttr.{DirectAttr}
use Rattle.xt_syntax.specs.declared.exprs.Part.{Part}
use Rattle.xt_syntax.specs.declared.prefixes.Prefixes.{Prefixes}
use Rattle.xt_syntax.specs.declared.exprs.Clause.TheViews.{roll-Clause, roll-NameSource}
use Rattle.xt_syntax.specs.declared.exprs.Clause.TheViews.{roll-Part, roll-Arm, roll-Bind}
use Rattle.xt_syntax.specs.declared.exprs.Clause.TheViews.{roll-DirectAttr, roll-Flwor, roll-Order}
use Rattle.xt_syntax.specs.declared.exprs.Clause.TheOpen.{Int, Str, Context, Root, Comma}
use Rattle.xt_syntax.specs.declared.exprs.Clause.TheOpen.{Or, And, General, Value, Is, Before}
use Rattle.xt_syntax.specs.declared.exprs.Clause.TheOpen.{After, Range, Arith, Minus, Plus, Union}
use Rattle.xt_syntax.specs.declared.exprs.Clause.TheOpen.{Intersect, Except, Filter}
use Rattle.xt_syntax.specs.declared.exprs.Clause.TheOpen.{Var, Call, Step, Slash}
use Rattle.xt_syntax.specs.declared.exprs.Clause.TheOpen.{InstanceOf, Treat, Castable, Cast}
use Rattle.xt_syntax.specs.declared.exprs.Clause.TheOpen.{DocC, TextC, CommentC, If, Flwor, Quant}
use Rattle.xt_syntax.specs.declared.exprs.Clause.TheOpen.{ElemC, AttrC, PiC, Fixed, Computed}
use Rattle.xt_syntax.specs.declared.exprs.Clause.TheOpen.{Direct, Chars, Enclosed, Child, For, Let}
use Rattle.xt_syntax.specs.Layers.{Kinds, ClauseLayer, ExprLayer, NameLayer, PartLayer, ArmLayer}
use Rattle.xt_syntax.specs.Layers.{BindLayer, AttrLayer, FlworLayer, OrderLayer}
use Rattle.expr_keys.specs.declared.keys.Key.{Key}
use Rattle.expr_keys.specs.declared.keys.Key.TheVariants as key
use Rattle.expr_keys.specs.declared.tokens.Token.TheVariants as token
use Rattle.expr_keys.specs.declared.productions.Level.{Level}
use Rattle.expr_keys.specs.declared.productions.Level.TheVariants as level
use Rattle.expr_keys.specs.declared.productions.Production.TheVariants as production
use Rattle.expr_raws.specs.PathRaws.Forms.{Form, all_can}
use Rattle.expr_raws.specs.ControlRaws.Operators.{compare_key, value_key, arithmetic, ArmForm, arms_can}
use Rattle.expr_raws.specs.ControlRaws.Operators.{has_arms, listed, many}
use Rattle.expr_raws.specs.ControlRaws.Operators.{once, left}
use Rattle.expr_raws.specs.ControlRaws.Types.{sequence_form, single_form, of_type}
use Rattle.expr_raws.specs.ControlRaws.Bindings.{BindForm, ClauseForm, OrderForm}
use Rattle.expr_raws.specs.ElementRaws.Makers.{NameForm}
use Rattle.expr_raws.specs.ElementRaws.Direct.{PartForm, AttrForm}
use Rattle.expr_raws.specs.Raws.{form_of}
use Rattle.expr_raws.proofs.Induction.{clause_form, name_form, part_form, arm_form, bind_form}
use Rattle.expr_raws.proofs.Induction.{attr_form, order_form, of_clause, of_expr}
use Rattle.expr_raws.proofs.Induction.{of_name, of_part, of_arm, of_bind, of_attr, of_flwor}
use Rattle.expr_raws.proofs.Induction.{of_order, pairs, plain_clause, plain_expr, plain_name}
use Rattle.expr_raws.proofs.Induction.{plain_part, plain_arm, plain_bind, plain_attr}
use Rattle.expr_raws.proofs.Induction.{plain_flwor, plain_order, all_exprs}
use Rattle.query_pieces.specs.declared.contexts.Change.TheVariants as change
use Rattle.query_pieces.specs.Points.{change_of_key}
use Rattle.token_laws.proofs.WrittenTokens.Says.{Says, one_says, key_says, AllSay, Written, plain}
use Rattle.token_laws.proofs.WrittenTokens.Paths.{quoted_stays, variable_written, call_written, step_written}
use Rattle.token_laws.proofs.WrittenTokens.Paths.{filter_written, slashed_written, root_written}
use Rattle.token_laws.proofs.WrittenTokens.Paths.{name_says, sequence_says, single_says}
use Rattle.token_laws.proofs.WrittenTokens.Operators.{once_written, left_written, many_written}
use Rattle.token_laws.proofs.WrittenTokens.Operators.{listed_written, signed_written, typed_written, AllArms}
use Rattle.token_laws.proofs.WrittenTokens.Operators.{conditional_written}
use Rattle.token_laws.proofs.WrittenTokens.Bindings.{BindSays, AllBinds, quantified_written}
use Rattle.token_laws.proofs.WrittenTokens.Bindings.{typing_may, for_says, let_says, AllClauses, AllOrders}
use Rattle.token_laws.proofs.WrittenTokens.Bindings.{flowing_written}
use Rattle.token_laws.proofs.WrittenTokens.Elements.{NameSays, element_written, attribute_written}
use Rattle.token_laws.proofs.WrittenTokens.Elements.{instruction_written, enclosing_written, PartSays}
use Rattle.token_laws.proofs.WrittenTokens.Elements.{AllParts, AllAttrs, direct_written}

compare_calm : (op : CompareOp) → change_of_key (compare_key op) ≡ change.Stays
compare_calm compare.Eq = refl
compare_calm _ = refl

value_calm : (op : CompareOp) → change_of_key (value_key op) ≡ change.Stays
value_calm compare.Eq = refl
value_calm _ = refl

module _ (p : Prefixes) where
  abbrev C : ClauseForm → Clause → Type 0
  C f x = f.can ≡ true → Says f.tokens

  abbrev E : Form → Expr → Type 0
  E f x = f.can ≡ true → Written f

  abbrev N : NameForm → NameSource → Type 0
  N f x = NameSays f

  abbrev T : PartForm → Part → Type 0
  T f x = PartSays f

  abbrev A : ArmForm → Arm → Type 0
  A f x = (f.test.can ≡ true → Says f.test.tokens) × (f.first.can ≡ true → Says f.first.tokens)

  abbrev B : BindForm → Bind → Type 0
  B f x = BindSays f

  abbrev D : AttrForm → DirectAttr → Type 0
  D f x = AllParts f.parts

  abbrev F : Form → FlworOf → Type 0
  F f x = f.can ≡ true → Written f

  abbrev O : OrderForm → Order → Type 0
  O f x = f.key.can ≡ true → Says f.key.tokens

  abbrev Kept : Kinds
  Kept = pairs p C E N T A B D F O

  abbrev Known : Type 0
  Known = (e : Expr) × E (form_of p e) e

  abbrev form : Known → Form
  form y = form_of p y.0

  abbrev their : List Known → List Form
  their ys = map (form_of p) (map (λ y. y.0) ys)

  says : (y : Known) → (form y).can ≡ true → Says (form y).tokens
  says y c = (y.1 c).whole

  all_say : (ys : List Known) → all_can (their ys) ≡ true → AllSay (their ys)
  all_say [] c = tt
  all_say (y ∷ ys) c =
      let h = and_parts (form y).can (all_can (their ys)) c in (says y h.0, all_say ys h.1)

  lists : (ys : List Known) → (listed (their ys)).can ≡ true → Written (listed (their ys))
  lists [] c = listed_written [] tt c
  lists (y ∷ []) c = absurd (cc)
  lists (y ∷ z ∷ ys) c = listed_written (their (y ∷ z ∷ ys)) (all_say (y ∷ z ∷ ys) c) c

  ors : (ys : List Known) → (many level.Or key.OrWord (their ys)).can ≡ true
      → Written (many level.Or key.OrWord (their ys))
  ors [] c = absurd (cc)
  ors (y ∷ []) c = absurd (cc)
  ors (y ∷ z ∷ ys) c = many_written level.Or key.OrWord refl (their (y ∷ z ∷ ys))
      (all_say (y ∷ z ∷ ys) c) c

  ands : (ys : List Known) → (many level.And key.AndWord (their ys)).can ≡ true
      → Written (many level.And key.AndWord (their ys))
  ands [] c = absurd (cc)
  ands (y ∷ []) c = absurd (cc)
  ands (y ∷ z ∷ ys) c = many_written level.And key.AndWord refl (their (y ∷ z ∷ ys))
      (all_say (y ∷ z ∷ ys) c) c

  -- two operands
  module _ (y z : Known) (c : ((form y).can && (form z).can) ≡ true) where
    first : Says (form y).tokens
    first = says y (and_parts (form y).can (form z).can c).0

    second : Says (form z).tokens
    second = says z (and_parts (form y).can (form z).can c).1

    once_so : (k : Key) → change_of_key k ≡ change.Stays → (l : Level)
        → Written (once l k (form y) (form z))
    once_so k e l = once_written l k e (form y) (form z) first second

    left_so : (k : Key) → change_of_key k ≡ change.Stays → (l : Level)
        → Written (left l k (form y) (form z))
    left_so k e l = left_written l k e (form y) (form z) first second

  arith_written : (op : ArithOp) (y z : Known) → (arithmetic op (form y) (form z)).can ≡ true
      → Written (arithmetic op (form y) (form z))
  arith_written arith.Add y z c = left_so y z c key.Plus refl level.Additive
  arith_written arith.Sub y z c = left_so y z c key.Minus refl level.Additive
  arith_written arith.Mul y z c = left_so y z c key.Star refl level.Multiplicative
  arith_written arith.Idiv y z c = left_so y z c key.IdivWord refl level.Multiplicative
  arith_written arith.Mod y z c = left_so y z c key.ModWord refl level.Multiplicative

  -- an operand and a type
  type_so : (l : Level) (y : Known) (t : Form) → (t.can ≡ true → Says t.tokens)
      → ((form y).can && t.can) ≡ true → Written (of_type l (form y) t)
  type_so l y t s c =
      let h = and_parts (form y).can t.can c in
      typed_written l (form y) t (says y h.0) (s h.1)

  all_arms : (ys : List ((x : Arm) × A (arm_form p x) x))
      → arms_can (map (arm_form p) (map (λ y. y.0) ys)) ≡ true
      → AllArms (map (arm_form p) (map (λ y. y.0) ys))
  all_arms [] c = tt
  all_arms (y ∷ ys) c =
      let f = arm_form p y.0 in
      let more : Bool = arms_can (map (arm_form p) (map (λ z. z.0) ys)) in
      let h = and_parts f.test.can (f.first.can && more) c in
      let i = and_parts f.first.can more h.1 in
      ((y.1.0 h.0, y.1.1 i.0), all_arms ys i.1)

  all_binds : (ys : List ((x : Bind) × B (bind_form p x) x))
      → AllBinds (map (bind_form p) (map (λ y. y.0) ys))
  all_binds [] = tt
  all_binds (y ∷ ys) = (y.1, all_binds ys)

  all_parts : (ys : List ((x : Part) × T (part_form p x) x))
      → AllParts (map (part_form p) (map (λ y. y.0) ys))
  all_parts [] = tt
  all_parts (y ∷ ys) = (y.1, all_parts ys)

  all_attrs : (ys : List ((x : DirectAttr) × D (attr_form p x) x))
      → AllAttrs (map (attr_form p) (map (λ y. y.0) ys))
  all_attrs [] = tt
  all_attrs (y ∷ ys) = (y.1, all_attrs ys)

  all_clauses : (ys : List ((x : Clause) × C (clause_form p x) x))
      → AllClauses (map (clause_form p) (map (λ y. y.0) ys))
  all_clauses [] = tt
  all_clauses (y ∷ ys) = (y.1, all_clauses ys)

  all_orders : (ys : List ((x : Order) × O (order_form p x) x))
      → AllOrders (map (order_form p) (map (λ y. y.0) ys))
  all_orders [] = tt
  all_orders (y ∷ ys) = (y.1, all_orders ys)

  abbrev laid : ExprLayer Kept → Form
  laid y = of_expr p (plain_expr p C E N T A B D F O y)

  one_expr : (y : ExprLayer Kept) → (laid y).can ≡ true → Written (laid y)
  one_expr (Int n) c = plain _ production.Number _ refl refl
      (one_says (token.Digits n) (record { token = λ h. h; calm = refl }))
  one_expr (Str cs) c = plain _ production.Literal _ refl refl
      (one_says (token.Quoted cs) (quoted_stays cs))
  one_expr Context c = plain _ production.Context _ refl refl (key_says key.Dot refl)
  one_expr Root c = root_written
  one_expr (Comma ys) c = lists ys c
  one_expr (Or ys) c = ors ys c
  one_expr (And ys) c = ands ys c
  one_expr (General op y z) c =
      once_so y z c (compare_key op) (compare_calm op) level.Comparison
  one_expr (Value op y z) c = once_so y z c (value_key op) (value_calm op) level.Comparison
  one_expr (Is y z) c = once_so y z c key.IsWord refl level.Comparison
  one_expr (Before y z) c = once_so y z c key.Before refl level.Comparison
  one_expr (After y z) c = once_so y z c key.After refl level.Comparison
  one_expr (Range y z) c = once_so y z c key.ToWord refl level.Range
  one_expr (Arith op y z) c = arith_written op y z c
  one_expr (Minus y) c = signed_written key.Minus refl (form y) (says y c)
  one_expr (Plus y) c = signed_written key.Plus refl (form y) (says y c)
  one_expr (Union y z) c = left_so y z c key.UnionWord refl level.Union
  one_expr (Intersect y z) c = left_so y z c key.IntersectWord refl level.Intersect
  one_expr (Except y z) c = left_so y z c key.ExceptWord refl level.Intersect
  one_expr (Filter y ys) c = filter_written (form y) (their ys) (says y) (all_say ys) c
  one_expr (InstanceOf y t) c =
      type_so level.InstanceOf y (sequence_form p t) (sequence_says p t) c
  one_expr (Treat y t) c = type_so level.Treat y (sequence_form p t) (sequence_says p t) c
  one_expr (Castable y k b) c =
      type_so level.Castable y (single_form p k b) (single_says p k b) c
  one_expr (Cast y k b) c = type_so level.Cast y (single_form p k b) (single_says p k b) c
  one_expr (ElemC n y) c = element_written p (name_form p n.0) (form y) n.1 (says y) c
  one_expr (AttrC n y) c = attribute_written p (name_form p n.0) (form y) n.1 (says y) c
  one_expr (PiC n y) c = instruction_written p (name_form p n.0) (form y) n.1 (says y) c
  one_expr (DocC y) c = enclosing_written key.DocumentWord refl (form y) (says y c)
  one_expr (TextC y) c = enclosing_written key.TextWord refl (form y) (says y c)
  one_expr (CommentC y) c = enclosing_written key.CommentWord refl (form y) (says y c)
  one_expr (If arms y) c =
      let fs : List ArmForm = map (arm_form p) (map (λ a. a.0) arms) in
      let h = and_parts (has_arms fs) _ c in
      let i = and_parts (arms_can fs) _ h.1 in
      let j = and_parts (form y).can _ i.1 in
      conditional_written fs (form y) (all_arms arms i.0) (says y j.0)
  one_expr (Var n) c = variable_written p n c
  one_expr (Call n ys) c = call_written p n (their ys) (all_say ys) c
  one_expr (Step on t ys) c = step_written p on t (their ys) (all_say ys) c
  one_expr (Slash y z) c = slashed_written (form y) (form z) (first y z c) (second y z c)
  one_expr (Flwor f) c = f.1 c
  one_expr (Quant every bs y) c =
      quantified_written every (map (bind_form p) (map (λ b. b.0) bs)) (form y) (all_binds bs)
      (says y) c
  one_expr (Direct n attrs ps) c =
      direct_written p n (map (attr_form p) (map (λ a. a.0) attrs))
      (map (part_form p) (map (λ q. q.0) ps)) (all_attrs attrs) (all_parts ps) c

  one_name : (y : NameLayer Kept) → N (of_name p (plain_name p C E N T A B D F O y))
      (roll-NameSource (plain_name p C E N T A B D F O y))
  one_name (Fixed n) = tt
  one_name (Computed y) = says y

  one_part : (y : PartLayer Kept) → T (of_part p (plain_part p C E N T A B D F O y))
      (roll-Part (plain_part p C E N T A B D F O y))
  one_part (Chars cs) = tt
  one_part (Enclosed y) = y.1
  one_part (Child y) = y.1

  one_arm : (y : ArmLayer Kept) → A (of_arm p (plain_arm p C E N T A B D F O y))
      (roll-Arm (plain_arm p C E N T A B D F O y))
  one_arm y = (says y.test, says y.then)

  one_bind : (y : BindLayer Kept) → B (of_bind p (plain_bind p C E N T A B D F O y))
      (roll-Bind (plain_bind p C E N T A B D F O y))
  one_bind y = record {
    name = name_says p y.var;
    kind = typing_may p y.kind;
    source = says y.source;
  }

  one_clause : (y : ClauseLayer Kept) → C (of_clause p (plain_clause p C E N T A B D F O y))
      (roll-Clause (plain_clause p C E N T A B D F O y))
  one_clause (For b o) = for_says p (bind_form p b.0) o b.1
  one_clause (Let b) = let_says (bind_form p b.0) b.1

  one_attr : (y : AttrLayer Kept) → D (of_attr p (plain_attr p C E N T A B D F O y))
      (roll-DirectAttr (plain_attr p C E N T A B D F O y))
  one_attr y = all_parts y.parts

  one_order : (y : OrderLayer Kept) → O (of_order p (plain_order p C E N T A B D F O y))
      (roll-Order (plain_order p C E N T A B D F O y))
  one_order y = says y.key

  abbrev made_of : List Kept.Clauses → Option Kept.Exprs → List Kept.Orders → Bool
      → Kept.Exprs → FlworLayer Kept
  made_of clauses test orders stable body = record {
    clauses = clauses;
    test = test;
    orders = orders;
    stable = stable;
    body = body;
  }

  abbrev FlworWritten : FlworLayer Kept → Type 0
  FlworWritten y = F (of_flwor p (plain_flwor p C E N T A B D F O y))
      (roll-Flwor (plain_flwor p C E N T A B D F O y))

  flwor_written : (clauses : List Kept.Clauses) (test : Option Kept.Exprs)
      (orders : List Kept.Orders) (stable : Bool) (body : Kept.Exprs)
      → FlworWritten (made_of clauses test orders stable body)
  flwor_written clauses None orders stable body c =
      flowing_written (map (clause_form p) (map (λ x. x.0) clauses)) None
      (map (order_form p) (map (λ o. o.0) orders)) stable (form body)
      (all_clauses clauses) (λ h. tt) (all_orders orders) (says body) c
  flwor_written clauses (Some t) orders stable body c =
      flowing_written (map (clause_form p) (map (λ x. x.0) clauses)) (Some (form t))
      (map (order_form p) (map (λ o. o.0) orders)) stable (form body) (all_clauses clauses)
      (says t) (all_orders orders) (says body) c

  one_flwor : (y : FlworLayer Kept) → FlworWritten y
  one_flwor y = flwor_written y.clauses y.test y.orders y.stable y.body

  pub printable_written : (e : Expr) → (form_of p e).can ≡ true → Written (form_of p e)
  printable_written = all_exprs p C E N T A B D F O one_clause one_expr one_name one_part one_arm
      one_bind one_attr one_flwor one_order
