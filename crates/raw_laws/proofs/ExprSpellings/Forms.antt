-- The tokens of an expression that can be printed spell its raw value.
use Rattle.std.proofs.Common.{◌≡◌, ℕ, List, [], ◌∷◌, map, Bool, true, false, ◌&&◌, not, refl}
use Rattle.std.proofs.Common.{Option, Some, None, option_map, is_some}
use Rattle.std.proofs.lemmas.Bool.{and_parts}
use Rattle.xt_names.specs.declared.names.ExprName.{ExprName}
use Rattle.xt_names.specs.declared.kinds.CompareOp.{CompareOp}
use Rattle.xt_names.specs.declared.kinds.CompareOp.TheVariants as compare
use Rattle.xt_names.specs.declared.kinds.ArithOp.{ArithOp}
use Rattle.xt_names.specs.declared.kinds.ArithOp.TheVariants as arith
use Rattle.xt_syntax.specs.declared.exprs.Expr.{Expr}
use Rattle.xt_syntax.specs.declared.exprs.Arm.{Arm}
use Rattle.xt_syntax.specs.declared.exprs.Clause.{Clause}
use Rattle.xt_syntax.specs.declared.exprs.Order.{Order}
use Rattle.xt_syntax.specs.declared.exprs.Flwor.{Flwor as FlworOf}
use Rattle.xt_syntax.specs.declared.exprs.Bind.{Bind}
use Rattle.xt_syntax.specs.declared.exprs.NameSource.{NameSource}
use Rattle.xt_syntax.specs.declared.exprs.DirectAttr.{DirectAttr}
use Rattle.xt_syntax.specs.declared.exprs.Part.{Part}
use Rattle.xt_syntax.specs.declared.prefixes.Prefixes.{Prefixes}
use Rattle.xt_syntax.specs.declared.exprs.Clause.TheViews.{roll-Clause, roll-Expr, roll-NameSource}
use Rattle.xt_syntax.specs.declared.exprs.Clause.TheViews.{roll-Part, roll-Arm, roll-Bind}
use Rattle.xt_syntax.specs.declared.exprs.Clause.TheViews.{roll-DirectAttr, roll-Flwor, roll-Order}
use Rattle.xt_syntax.specs.declared.exprs.Clause.TheOpen.{Int, Str, Context, Root, Comma}
use Rattle.xt_syntax.specs.declared.exprs.Clause.TheOpen.{Or, And, General, Value, Is, Before}
use Rattle.xt_syntax.specs.declared.exprs.Clause.TheOpen.{After, Range, Arith, Minus, Plus, Union}
use Rattle.xt_syntax.specs.declared.exprs.Clause.TheOpen.{Intersect, Except, Filter}
use Rattle.xt_syntax.specs.declared.exprs.Clause.TheOpen.{Var, Call, Step, Slash}
use Rattle.xt_syntax.specs.declared.exprs.Clause.TheOpen.{InstanceOf, Treat, Castable, Cast}
use Rattle.xt_syntax.specs.declared.exprs.Clause.TheOpen.{DocC, TextC, CommentC, If, Flwor, Quant}
use Rattle.xt_syntax.specs.declared.exprs.Clause.TheOpen.{ElemC, AttrC, PiC, Fixed, Computed}
use Rattle.xt_syntax.specs.declared.exprs.Clause.TheOpen.{Direct, Chars, Enclosed, Child, For, Let}
use Rattle.xt_syntax.specs.Layers.{Kinds, ClauseLayer, ExprLayer, NameLayer, PartLayer, ArmLayer}
use Rattle.xt_syntax.specs.Layers.{BindLayer, AttrLayer, FlworLayer, OrderLayer}
use Rattle.expr_names.specs.Types.{type_named, call_type}
use Rattle.expr_keys.specs.Classes.{fits}
use Rattle.expr_keys.specs.declared.keys.Key.TheVariants as key
use Rattle.expr_keys.specs.declared.tokens.Token.{Token}
use Rattle.expr_keys.specs.declared.tokens.Token.TheVariants as token
use Rattle.expr_keys.specs.declared.productions.Class.TheVariants as class
use Rattle.expr_keys.specs.declared.productions.Level.TheVariants as level
use Rattle.expr_keys.specs.declared.productions.Production.TheVariants as production
use Rattle.expr_terms.specs.declared.raws.Raw.TheVariants.{Leaf as leaf}
use Rattle.expr_grammar.specs.Grammar.{by, end, taken}
use Rattle.expr_raws.specs.PathRaws.Forms.{Form, primary, step, signs, below, single, list, all_can}
use Rattle.expr_raws.specs.PathRaws.Names.{function_token}
use Rattle.expr_raws.specs.PathRaws.Paths.{test_form, filtered, call, with_token, call_with}
use Rattle.expr_raws.specs.ControlRaws.Operators.{compare_key, value_key, arithmetic, ArmForm, arms_can}
use Rattle.expr_raws.specs.ControlRaws.Operators.{has_arms, conditional, listed, many}
use Rattle.expr_raws.specs.ControlRaws.Types.{sequence_form, single_form}
use Rattle.expr_raws.specs.ControlRaws.Bindings.{BindForm, ClauseForm, OrderForm, may, typing}
use Rattle.expr_raws.specs.ElementRaws.Makers.{NameForm}
use Rattle.expr_raws.specs.ElementRaws.Direct.{PartForm, AttrForm}
use Rattle.expr_raws.specs.Raws.{form_of}
use Rattle.expr_raws.proofs.Induction.{clause_form, name_form, part_form, arm_form, bind_form}
use Rattle.expr_raws.proofs.Induction.{attr_form, flwor_form, order_form, of_clause, of_expr}
use Rattle.expr_raws.proofs.Induction.{of_name, of_part, of_arm, of_bind, of_attr, of_flwor}
use Rattle.expr_raws.proofs.Induction.{of_order, pairs, plain_clause, plain_expr, plain_name}
use Rattle.expr_raws.proofs.Induction.{plain_part, plain_arm, plain_bind, plain_attr}
use Rattle.expr_raws.proofs.Induction.{plain_flwor, plain_order, all_exprs}
use Rattle.raw_laws.proofs.ExprSpellings.Spelled.{Spelled}
use Rattle.raw_laws.proofs.ExprSpellings.Paths.{All, Always, always, as_primary, root_spelled}
use Rattle.raw_laws.proofs.ExprSpellings.Paths.{variable_spelled, call_spelled, step_spelled}
use Rattle.raw_laws.proofs.ExprSpellings.Paths.{filter_spelled, slashed_spelled}
use Rattle.raw_laws.proofs.ExprSpellings.Operators.{facts, once_spelled, many_spelled, left_spelled}
use Rattle.raw_laws.proofs.ExprSpellings.Operators.{listed_spelled, signed_spelled, AllArms}
use Rattle.raw_laws.proofs.ExprSpellings.Operators.{conditional_spelled}
use Rattle.raw_laws.proofs.ExprSpellings.Types.{sequence_spelled, single_spelled, instances_spelled}
use Rattle.raw_laws.proofs.ExprSpellings.Types.{treats_spelled, castables_spelled, casts_spelled}
use Rattle.raw_laws.proofs.ExprSpellings.Bindings.{name_spelled, typing_spelled, BindSpelled, AllBinds}
use Rattle.raw_laws.proofs.ExprSpellings.Bindings.{quantified_spelled, ClauseSpelled, for_spelled}
use Rattle.raw_laws.proofs.ExprSpellings.Bindings.{let_spelled, AllClauses, MayBeSaid, AllOrders}
use Rattle.raw_laws.proofs.ExprSpellings.Bindings.{flowing_spelled}
use Rattle.raw_laws.proofs.ExprSpellings.Elements.{NameSpelled, element_spelled, attribute_spelled}
use Rattle.raw_laws.proofs.ExprSpellings.Elements.{instruction_spelled, enclosing_spelled, PartSpelled}
use Rattle.raw_laws.proofs.ExprSpellings.Elements.{AllParts, AllAttrs, direct_spelled}

compare_fits : (op : CompareOp)
    → fits (class.Operator level.Comparison) (token.Key (compare_key op)) ≡ true
compare_fits compare.Eq = refl
compare_fits _ = refl

compare_calm : (op : CompareOp) → fits class.Mark (token.Key (compare_key op)) ≡ false
compare_calm compare.Eq = refl
compare_calm _ = refl

value_fits : (op : CompareOp)
    → fits (class.Operator level.Comparison) (token.Key (value_key op)) ≡ true
value_fits compare.Eq = refl
value_fits _ = refl

value_calm : (op : CompareOp) → fits class.Mark (token.Key (value_key op)) ≡ false
value_calm compare.Eq = refl
value_calm _ = refl

module _ (p : Prefixes) where
  abbrev C : ClauseForm → Clause → Type 0
  C f x = ClauseSpelled f

  abbrev E : Form → Expr → Type 0
  E f x = f.can ≡ true → Spelled f

  abbrev N : NameForm → NameSource → Type 0
  N f x = NameSpelled f

  abbrev T : PartForm → Part → Type 0
  T f x = PartSpelled f

  abbrev A : ArmForm → Arm → Type 0
  A f x = (f.test.can ≡ true → Always list f.test) × (f.first.can ≡ true → Always single f.first)

  abbrev B : BindForm → Bind → Type 0
  B f x = BindSpelled f

  abbrev D : AttrForm → DirectAttr → Type 0
  D f x = AllParts f.parts

  abbrev F : Form → FlworOf → Type 0
  F f x = f.can ≡ true → Spelled f

  abbrev O : OrderForm → Order → Type 0
  O f x = f.key.can ≡ true → Always single f.key

  abbrev Kept : Kinds
  Kept = pairs p C E N T A B D F O

  abbrev Known : Type 0
  Known = (e : Expr) × E (form_of p e) e

  abbrev form : Known → Form
  form y = form_of p y.0

  abbrev their : List Known → List Form
  their ys = map (form_of p) (map (λ y. y.0) ys)

  all_always : (n : ℕ) (ys : List Known) → all_can (their ys) ≡ true → All (Always n) (their ys)
  all_always n [] c = tt
  all_always n (y ∷ ys) c =
      let h = and_parts (form y).can (all_can (their ys)) c in
      (always n (form y) (y.1 h.0), all_always n ys h.1)

  lists : (ys : List Known) → (listed (their ys)).can ≡ true → Spelled (listed (their ys))
  lists [] c = listed_spelled [] tt c
  lists (y ∷ []) c = absurd (cc)
  lists (y ∷ z ∷ ys) c = listed_spelled (their (y ∷ z ∷ ys)) (all_always single (y ∷ z ∷ ys) c) c

  ors : (ys : List Known) → (many level.Or key.OrWord (their ys)).can ≡ true
      → Spelled (many level.Or key.OrWord (their ys))
  ors [] c = absurd (cc)
  ors (y ∷ []) c = absurd (cc)
  ors (y ∷ z ∷ ys) c = many_spelled level.Or (facts level.Or) refl key.OrWord refl refl refl
      (their (y ∷ z ∷ ys)) (all_always (below level.Or) (y ∷ z ∷ ys) c) c

  ands : (ys : List Known) → (many level.And key.AndWord (their ys)).can ≡ true
      → Spelled (many level.And key.AndWord (their ys))
  ands [] c = absurd (cc)
  ands (y ∷ []) c = absurd (cc)
  ands (y ∷ z ∷ ys) c = many_spelled level.And (facts level.And) refl key.AndWord refl refl refl
      (their (y ∷ z ∷ ys)) (all_always (below level.And) (y ∷ z ∷ ys) c) c

  -- two operands of an operator that stands once
  module _ (y z : Known) (c : ((form y).can && (form z).can) ≡ true) where
    abbrev first : Spelled (form y)
    first = y.1 (and_parts (form y).can (form z).can c).0

    abbrev second : Spelled (form z)
    second = z.1 (and_parts (form y).can (form z).can c).1

  arith_spelled : (op : ArithOp) (y z : Known) → (arithmetic op (form y) (form z)).can ≡ true
      → Spelled (arithmetic op (form y) (form z))
  arith_spelled arith.Add y z c = left_spelled level.Additive (facts level.Additive) refl key.Plus refl
      refl (λ e. absurd (cc)) (form y) (form z) (first y z c)
      (always (below level.Additive) (form z) (second y z c))
  arith_spelled arith.Sub y z c = left_spelled level.Additive (facts level.Additive) refl key.Minus refl
      refl (λ e. refl) (form y) (form z) (first y z c)
      (always (below level.Additive) (form z) (second y z c))
  arith_spelled arith.Mul y z c = left_spelled level.Multiplicative (facts level.Multiplicative) refl
      key.Star refl refl (λ e. absurd (cc)) (form y) (form z) (first y z c)
      (always (below level.Multiplicative) (form z) (second y z c))
  arith_spelled arith.Idiv y z c = left_spelled level.Multiplicative (facts level.Multiplicative) refl
      key.IdivWord refl refl (λ e. refl) (form y) (form z) (first y z c)
      (always (below level.Multiplicative) (form z) (second y z c))
  arith_spelled arith.Mod y z c = left_spelled level.Multiplicative (facts level.Multiplicative) refl
      key.ModWord refl refl (λ e. refl) (form y) (form z) (first y z c)
      (always (below level.Multiplicative) (form z) (second y z c))

  filters : (y : Known) (ys : List Known) → (filtered (form y) (their ys)).can ≡ true
      → Spelled (filtered (form y) (their ys))
  filters y [] c = absurd (cc)
  filters y (z ∷ ys) c =
      let h = and_parts (form y).can (all_can (their (z ∷ ys))) c in
      filter_spelled (form y) (their (z ∷ ys)) (always primary (form y) (y.1 h.0))
      (all_always list (z ∷ ys) h.1) c

  calls : (n : ExprName) (ys : List Known) → (call p n (their ys)).can ≡ true
      → Spelled (call p n (their ys))
  calls n ys c = call_spelled p n (their ys) (all_always single ys (args (function_token p.bound
      p.function_default n) c)) c
    where
      args : (o : Option Token) → (with_token o (call_with n (their ys))).can ≡ true
          → all_can (their ys) ≡ true
      args None h = absurd (cc)
      args (Some t) h =
          (and_parts (not (is_some (call_type (type_named n)))) (all_can (their ys)) h).1

  all_arms : (ys : List ((x : Arm) × A (arm_form p x) x))
      → arms_can (map (arm_form p) (map (λ y. y.0) ys)) ≡ true
      → AllArms (map (arm_form p) (map (λ y. y.0) ys))
  all_arms [] c = tt
  all_arms (y ∷ ys) c =
      let f = arm_form p y.0 in
      let more : Bool = arms_can (map (arm_form p) (map (λ z. z.0) ys)) in
      let h = and_parts f.test.can (f.first.can && more) c in
      let i = and_parts f.first.can more h.1 in
      ((y.1.0 h.0, y.1.1 i.0), all_arms ys i.1)

  all_binds : (ys : List ((x : Bind) × B (bind_form p x) x))
      → AllBinds (map (bind_form p) (map (λ y. y.0) ys))
  all_binds [] = tt
  all_binds (y ∷ ys) = (y.1, all_binds ys)

  all_parts : (ys : List ((x : Part) × T (part_form p x) x))
      → AllParts (map (part_form p) (map (λ y. y.0) ys))
  all_parts [] = tt
  all_parts (y ∷ ys) = (y.1, all_parts ys)

  all_attrs : (ys : List ((x : DirectAttr) × D (attr_form p x) x))
      → AllAttrs (map (attr_form p) (map (λ y. y.0) ys))
  all_attrs [] = tt
  all_attrs (y ∷ ys) = (y.1, all_attrs ys)

  all_clauses : (ys : List ((x : Clause) × C (clause_form p x) x))
      → AllClauses (map (clause_form p) (map (λ y. y.0) ys))
  all_clauses [] = tt
  all_clauses (y ∷ ys) = (y.1, all_clauses ys)

  all_orders : (ys : List ((x : Order) × O (order_form p x) x))
      → AllOrders (map (order_form p) (map (λ y. y.0) ys))
  all_orders [] = tt
  all_orders (y ∷ ys) = (y.1, all_orders ys)

  abbrev laid : ExprLayer Kept → Form
  laid y = of_expr p (plain_expr p C E N T A B D F O y)

  one_expr : (y : ExprLayer Kept) → (laid y).can ≡ true → Spelled (laid y)
  one_expr (Int n) c = as_primary production.Number (leaf (token.Digits n) ∷ [])
      (λ rest. token.Digits n ∷ rest) _ refl refl
      (λ rest. by production.Number refl refl (taken c end))
  one_expr (Str cs) c = as_primary production.Literal (leaf (token.Quoted cs) ∷ [])
      (λ rest. token.Quoted cs ∷ rest) _ refl refl
      (λ rest. by production.Literal refl refl (taken refl end))
  one_expr Context c = as_primary production.Context [] (λ rest. token.Key key.Dot ∷ rest) _ refl
      refl (λ rest. by production.Context refl refl (taken refl end))
  one_expr Root c = root_spelled
  one_expr (Comma ys) c = lists ys c
  one_expr (Or ys) c = ors ys c
  one_expr (And ys) c = ands ys c
  one_expr (General op y z) c = once_spelled level.Comparison (facts level.Comparison) refl
      (compare_key op) (compare_fits op) refl (compare_calm op) (form y) (form z)
      (always (below level.Comparison) (form y) (first y z c))
      (always (below level.Comparison) (form z) (second y z c))
  one_expr (Value op y z) c = once_spelled level.Comparison (facts level.Comparison) refl
      (value_key op) (value_fits op) refl (value_calm op) (form y) (form z)
      (always (below level.Comparison) (form y) (first y z c))
      (always (below level.Comparison) (form z) (second y z c))
  one_expr (Is y z) c = once_spelled level.Comparison (facts level.Comparison) refl key.IsWord refl
      refl refl (form y) (form z) (always (below level.Comparison) (form y) (first y z c))
      (always (below level.Comparison) (form z) (second y z c))
  one_expr (Before y z) c = once_spelled level.Comparison (facts level.Comparison) refl key.Before
      refl refl refl (form y) (form z) (always (below level.Comparison) (form y) (first y z c))
      (always (below level.Comparison) (form z) (second y z c))
  one_expr (After y z) c = once_spelled level.Comparison (facts level.Comparison) refl key.After refl
      refl refl (form y) (form z) (always (below level.Comparison) (form y) (first y z c))
      (always (below level.Comparison) (form z) (second y z c))
  one_expr (Range y z) c = once_spelled level.Range (facts level.Range) refl key.ToWord refl
      refl refl (form y) (form z) (always (below level.Range) (form y) (first y z c))
      (always (below level.Range) (form z) (second y z c))
  one_expr (Arith op y z) c = arith_spelled op y z c
  one_expr (Minus y) c =
      signed_spelled key.Minus refl (form y) (always signs (form y) (y.1 c))
  one_expr (Plus y) c = signed_spelled key.Plus refl (form y) (always signs (form y) (y.1 c))
  one_expr (Union y z) c = left_spelled level.Union (facts level.Union) refl key.UnionWord refl
      refl (λ e. refl) (form y) (form z) (first y z c)
      (always (below level.Union) (form z) (second y z c))
  one_expr (Intersect y z) c = left_spelled level.Intersect (facts level.Intersect) refl
      key.IntersectWord refl refl (λ e. refl) (form y) (form z) (first y z c)
      (always (below level.Intersect) (form z) (second y z c))
  one_expr (Except y z) c = left_spelled level.Intersect (facts level.Intersect) refl key.ExceptWord
      refl refl (λ e. refl) (form y) (form z) (first y z c)
      (always (below level.Intersect) (form z) (second y z c))
  one_expr (Filter y ys) c = filters y ys c
  one_expr (InstanceOf y t) c =
      let f = sequence_form p t in
      let h = and_parts (form y).can f.can c in
      instances_spelled (form y) f (always (below level.InstanceOf) (form y) (y.1 h.0))
      (sequence_spelled p t h.1)
  one_expr (Treat y t) c =
      let f = sequence_form p t in
      let h = and_parts (form y).can f.can c in
      treats_spelled (form y) f (always (below level.Treat) (form y) (y.1 h.0))
      (sequence_spelled p t h.1)
  one_expr (Castable y k b) c =
      let f = single_form p k b in
      let h = and_parts (form y).can f.can c in
      castables_spelled (form y) f (always (below level.Castable) (form y) (y.1 h.0))
      (single_spelled p k b h.1)
  one_expr (Cast y k b) c =
      let f = single_form p k b in
      let h = and_parts (form y).can f.can c in
      casts_spelled (form y) f (always (below level.Cast) (form y) (y.1 h.0))
      (single_spelled p k b h.1)
  one_expr (ElemC n y) c = element_spelled p (name_form p n.0) (form y) n.1
      (λ h. always list (form y) (y.1 h)) c
  one_expr (AttrC n y) c = attribute_spelled p (name_form p n.0) (form y) n.1
      (λ h. always list (form y) (y.1 h)) c
  one_expr (PiC n y) c = instruction_spelled p (name_form p n.0) (form y) n.1
      (λ h. always list (form y) (y.1 h)) c
  one_expr (DocC y) c =
      enclosing_spelled key.DocumentWord refl (form y) (always list (form y) (y.1 c))
  one_expr (TextC y) c =
      enclosing_spelled key.TextWord refl (form y) (always list (form y) (y.1 c))
  one_expr (CommentC y) c =
      enclosing_spelled key.CommentWord refl (form y) (always list (form y) (y.1 c))
  one_expr (If arms y) c =
      let fs : List ArmForm = map (arm_form p) (map (λ a. a.0) arms) in
      let h = and_parts (has_arms fs) _ c in
      let i = and_parts (arms_can fs) _ h.1 in
      let j = and_parts (form y).can _ i.1 in
      conditional_spelled fs (form y) (all_arms arms i.0) (always single (form y) (y.1 j.0)) c
  one_expr (Var n) c = variable_spelled p n c
  one_expr (Call n ys) c = calls n ys c
  one_expr (Step on t ys) c =
      step_spelled p on t (their ys) (all_always list ys
      (and_parts (test_form p on t).can (all_can (their ys)) c).1) c
  one_expr (Slash y z) c = slashed_spelled (form y) (form z) (first y z c)
      (always step (form z) (second y z c)) (second y z c).at_step
  one_expr (Flwor f) c = f.1 c
  one_expr (Quant every bs y) c =
      quantified_spelled every (map (bind_form p) (map (λ b. b.0) bs)) (form y) (all_binds bs)
      (λ h. always single (form y) (y.1 h)) c
  one_expr (Direct n attrs ps) c =
      direct_spelled p n (map (attr_form p) (map (λ a. a.0) attrs))
      (map (part_form p) (map (λ q. q.0) ps)) (all_attrs attrs) (all_parts ps) c

  one_name : (y : NameLayer Kept) → N (of_name p (plain_name p C E N T A B D F O y))
      (roll-NameSource (plain_name p C E N T A B D F O y))
  one_name (Fixed n) = tt
  one_name (Computed y) = λ c. always list (form y) (y.1 c)

  one_part : (y : PartLayer Kept) → T (of_part p (plain_part p C E N T A B D F O y))
      (roll-Part (plain_part p C E N T A B D F O y))
  one_part (Chars cs) = tt
  one_part (Enclosed y) = y.1
  one_part (Child y) = y.1

  one_arm : (y : ArmLayer Kept) → A (of_arm p (plain_arm p C E N T A B D F O y))
      (roll-Arm (plain_arm p C E N T A B D F O y))
  one_arm y = (
    λ c. always list (form y.test) (y.test.1 c),
    λ c. always single (form y.then) (y.then.1 c),
  )

  one_bind : (y : BindLayer Kept) → B (of_bind p (plain_bind p C E N T A B D F O y))
      (roll-Bind (plain_bind p C E N T A B D F O y))
  one_bind y = record {
    name = name_spelled p y.var;
    kind = typing_spelled p y.kind;
    source = λ c. always single (form y.source) (y.source.1 c);
  }

  one_clause : (y : ClauseLayer Kept) → C (of_clause p (plain_clause p C E N T A B D F O y))
      (roll-Clause (plain_clause p C E N T A B D F O y))
  one_clause (For b o) = for_spelled p (bind_form p b.0) o b.1
  one_clause (Let b) = let_spelled (bind_form p b.0) b.1

  one_attr : (y : AttrLayer Kept) → D (of_attr p (plain_attr p C E N T A B D F O y))
      (roll-DirectAttr (plain_attr p C E N T A B D F O y))
  one_attr y = all_parts y.parts

  one_order : (y : OrderLayer Kept) → O (of_order p (plain_order p C E N T A B D F O y))
      (roll-Order (plain_order p C E N T A B D F O y))
  one_order y = λ c. always single (form y.key) (y.key.1 c)

  abbrev made_of : List Kept.Clauses → Option Kept.Exprs → List Kept.Orders → Bool
      → Kept.Exprs → FlworLayer Kept
  made_of clauses test orders stable body = record {
    clauses = clauses;
    test = test;
    orders = orders;
    stable = stable;
    body = body;
  }

  abbrev FlworSpelled : FlworLayer Kept → Type 0
  FlworSpelled y = F (of_flwor p (plain_flwor p C E N T A B D F O y))
      (roll-Flwor (plain_flwor p C E N T A B D F O y))

  flwor_spelled : (clauses : List Kept.Clauses) (test : Option Kept.Exprs)
      (orders : List Kept.Orders) (stable : Bool) (body : Kept.Exprs)
      → FlworSpelled (made_of clauses test orders stable body)
  flwor_spelled clauses None orders stable body c =
      flowing_spelled (map (clause_form p) (map (λ x. x.0) clauses)) None
      (map (order_form p) (map (λ o. o.0) orders)) stable (form body)
      (all_clauses clauses) (λ h. tt) (all_orders orders)
      (λ h. always single (form body) (body.1 h)) c
  flwor_spelled clauses (Some t) orders stable body c =
      flowing_spelled (map (clause_form p) (map (λ x. x.0) clauses)) (Some (form t))
      (map (order_form p) (map (λ o. o.0) orders)) stable (form body) (all_clauses clauses)
      (λ h. always single (form t) (t.1 h)) (all_orders orders)
      (λ h. always single (form body) (body.1 h)) c

  one_flwor : (y : FlworLayer Kept) → FlworSpelled y
  one_flwor y = flwor_spelled y.clauses y.test y.orders y.stable y.body

  pub printable_spelled : (e : Expr) → (form_of p e).can ≡ true → Spelled (form_of p e)
  printable_spelled = all_exprs p C E N T A B D F O one_clause one_expr one_name one_part one_arm
      one_bind one_attr one_flwor one_order
