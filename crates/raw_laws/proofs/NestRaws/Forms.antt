-- The raw value of an expression that can be printed nests no deeper than the expression.
use Rattle.std.proofs.Common.{◌≡◌, ℕ, ◌+◌, ◌≤◌, max, List, [], ◌∷◌, map, Bool, true, false, ◌&&◌}
use Rattle.std.proofs.Common.{refl, sym, ◌∙◌, ap, subst, Option, Some, None, arith}
use Rattle.std.proofs.lemmas.Bool.{and_parts}
use Rattle.xt_names.specs.declared.kinds.ArithOp.{ArithOp}
use Rattle.xt_names.specs.declared.kinds.ArithOp.TheVariants as arithmetic_op
use Rattle.xt_syntax.specs.declared.exprs.Expr.{Expr}
use Rattle.xt_syntax.specs.declared.exprs.Arm.{Arm}
use Rattle.xt_syntax.specs.declared.exprs.Clause.{Clause}
use Rattle.xt_syntax.specs.declared.exprs.Order.{Order}
use Rattle.xt_syntax.specs.declared.exprs.Flwor.{Flwor as FlworOf}
use Rattle.xt_syntax.specs.declared.exprs.Bind.{Bind}
use Rattle.xt_syntax.specs.declared.exprs.NameSource.{NameSource}
use Rattle.xt_syntax.specs.declared.exprs.DirectAttr.{DirectAttr}
use Rattle.xt_syntax.specs.declared.exprs.Part.{Part}
use Rattle.xt_syntax.specs.declared.prefixes.Prefixes.{Prefixes}
use Rattle.xt_syntax.specs.declared.exprs.Clause.TheViews.{roll-Clause, roll-Expr, roll-NameSource}
use Rattle.xt_syntax.specs.declared.exprs.Clause.TheViews.{roll-Part, roll-Arm, roll-Bind}
use Rattle.xt_syntax.specs.declared.exprs.Clause.TheViews.{roll-DirectAttr, roll-Flwor, roll-Order}
use Rattle.xt_syntax.specs.declared.exprs.Clause.TheOpen.{Int, Str, Context, Root, Comma}
use Rattle.xt_syntax.specs.declared.exprs.Clause.TheOpen.{Or, And, General, Value, Is, Before}
use Rattle.xt_syntax.specs.declared.exprs.Clause.TheOpen.{After, Range, Arith, Minus, Plus, Union}
use Rattle.xt_syntax.specs.declared.exprs.Clause.TheOpen.{Intersect, Except, Filter}
use Rattle.xt_syntax.specs.declared.exprs.Clause.TheOpen.{Var, Call, Step, Slash}
use Rattle.xt_syntax.specs.declared.exprs.Clause.TheOpen.{InstanceOf, Treat, Castable, Cast}
use Rattle.xt_syntax.specs.declared.exprs.Clause.TheOpen.{DocC, TextC, CommentC, If, Flwor, Quant}
use Rattle.xt_syntax.specs.declared.exprs.Clause.TheOpen.{ElemC, AttrC, PiC, Fixed, Computed}
use Rattle.xt_syntax.specs.declared.exprs.Clause.TheOpen.{Direct, Chars, Enclosed, Child, For, Let}
use Rattle.xt_syntax.specs.Layers.{Kinds, ClauseLayer, ExprLayer, NameLayer, PartLayer, ArmLayer}
use Rattle.xt_syntax.specs.Layers.{BindLayer, AttrLayer, FlworLayer, OrderLayer}
use Rattle.xt_forms.specs.Nest.{nest_of, arm_nest_of, clause_nest_of, bind_nest_of}
use Rattle.xt_forms.specs.Nest.{order_nest_of, name_nest_of, attr_nest_of, part_nest_of}
use Rattle.xt_forms.specs.Nest.{flwor_nest_of}
use Rattle.expr_keys.specs.declared.keys.Key.{Key}
use Rattle.expr_keys.specs.declared.keys.Key.TheVariants as key
use Rattle.expr_keys.specs.declared.tokens.Token.TheVariants as token
use Rattle.expr_keys.specs.declared.productions.Level.{Level}
use Rattle.expr_keys.specs.declared.productions.Level.TheVariants as level
use Rattle.expr_terms.specs.Nest.{raw_nest_of, is_left_level}
use Rattle.expr_raws.specs.PathRaws.Forms.{Form, all_can}
use Rattle.expr_raws.specs.PathRaws.Paths.{test_form, filtered}
use Rattle.expr_raws.specs.ControlRaws.Operators.{compare_key, value_key, arithmetic, ArmForm, arms_can}
use Rattle.expr_raws.specs.ControlRaws.Operators.{has_arms, listed, many, once, left}
use Rattle.expr_raws.specs.ControlRaws.Types.{sequence_form, single_form, of_type}
use Rattle.expr_raws.specs.ControlRaws.Bindings.{BindForm, ClauseForm, OrderForm, placing, may}
use Rattle.expr_raws.specs.ControlRaws.Bindings.{flowing}
use Rattle.expr_raws.specs.ElementRaws.Makers.{NameForm}
use Rattle.expr_raws.specs.ElementRaws.Direct.{PartForm, AttrForm}
use Rattle.expr_raws.specs.Raws.{form_of}
use Rattle.expr_raws.proofs.Induction.{OpenExpr, OpenBind, OpenFlwor}
use Rattle.expr_raws.proofs.Induction.{clause_form, name_form, part_form, arm_form, bind_form}
use Rattle.expr_raws.proofs.Induction.{attr_form, order_form, of_clause, of_expr}
use Rattle.expr_raws.proofs.Induction.{of_name, of_part, of_arm, of_bind, of_attr, of_flwor}
use Rattle.expr_raws.proofs.Induction.{of_order, pairs, plain_clause, plain_expr, plain_name}
use Rattle.expr_raws.proofs.Induction.{plain_part, plain_arm, plain_bind, plain_attr}
use Rattle.expr_raws.proofs.Induction.{plain_flwor, plain_order, all_exprs}
use Rattle.raw_laws.proofs.NestRaws.Within.{Within, AllWithin, wider}
use Rattle.raw_laws.proofs.NestRaws.Paths.{number_within, literal_within, context_within, root_within}
use Rattle.raw_laws.proofs.NestRaws.Paths.{variable_within, sequence_none, single_none, step_within}
use Rattle.raw_laws.proofs.NestRaws.Paths.{call_within, slashed_within, filtered_within}
use Rattle.raw_laws.proofs.NestRaws.Operators.{once_within, of_type_within, left_within, many_within}
use Rattle.raw_laws.proofs.NestRaws.Operators.{listed_within, signed_within, AllArms, if_within}
use Rattle.raw_laws.proofs.NestRaws.Bindings.{name_none, kind_none, place_none, BindWithin, let_below}
use Rattle.raw_laws.proofs.NestRaws.Bindings.{for_below, AllBinds, quantified_within, AllClauses}
use Rattle.raw_laws.proofs.NestRaws.Bindings.{TestWithin, AllOrders, flowing_within}
use Rattle.raw_laws.proofs.NestRaws.Elements.{NameWithin, element_within, attribute_within}
use Rattle.raw_laws.proofs.NestRaws.Elements.{instruction_within, enclosing_within, PartWithin, AllParts}
use Rattle.raw_laws.proofs.NestRaws.Elements.{AllAttrs, direct_within}
use Rattle.raw_laws.proofs.NestRaws.Wider.{one_less, rest_less, all_wider, arms_wider, bind_wider}
use Rattle.raw_laws.proofs.NestRaws.Wider.{binds_wider, part_wider, parts_wider, attrs_wider}
use Rattle.raw_laws.proofs.NestRaws.Wider.{clauses_wider, test_wider, orders_wider}
use Rattle.raw_laws.proofs.NestRaws.Rolled.{clause_rolled, expr_at, expr_rolled, name_rolled}
use Rattle.raw_laws.proofs.NestRaws.Rolled.{part_rolled, arm_rolled, bind_rolled, attr_rolled}
use Rattle.raw_laws.proofs.NestRaws.Rolled.{flwor_at, flwor_rolled, order_rolled}
use Rattle.xt_names.specs.Lists.{greatest}

module _ (p : Prefixes) where
  abbrev C : ClauseForm → Clause → Type 0
  C f x = f.can ≡ true → raw_nest_of f.raw ≤ clause_nest_of x

  abbrev E : Form → Expr → Type 0
  E f x = f.can ≡ true → Within (nest_of x) f.raw

  abbrev N : NameForm → NameSource → Type 0
  N f x = NameWithin (name_nest_of x) f

  abbrev T : PartForm → Part → Type 0
  T f x = PartWithin (part_nest_of x) f

  abbrev A : ArmForm → Arm → Type 0
  A f x = (f.test.can ≡ true → Within (arm_nest_of x) f.test.raw)
      × (f.first.can ≡ true → Within (arm_nest_of x) f.first.raw)

  abbrev B : BindForm → Bind → Type 0
  B f x = BindWithin (bind_nest_of x) f

  abbrev D : AttrForm → DirectAttr → Type 0
  D f x = AllParts (attr_nest_of x) f.parts

  abbrev F : Form → FlworOf → Type 0
  F f x = f.can ≡ true → Within (1 + flwor_nest_of x) f.raw

  abbrev O : OrderForm → Order → Type 0
  O f x = f.key.can ≡ true → Within (order_nest_of x) f.key.raw

  abbrev Known : Type 0
  Known = (e : Expr) × E (form_of p e) e

  abbrev form : Known → Form
  form y = form_of p y.0

  abbrev nest : Known → ℕ
  nest y = nest_of y.0

  abbrev their : List Known → List Form
  their ys = map (form_of p) (map (λ y. y.0) ys)

  abbrev most : List Known → ℕ
  most ys = greatest (map nest_of (map (λ y. y.0) ys))

  all_so : (ys : List Known) → all_can (their ys) ≡ true → AllWithin (most ys) (their ys)
  all_so [] c = tt
  all_so (y ∷ ys) c =
      let h = and_parts (form y).can (all_can (their ys)) c in (
        wider (nest y) (max (nest y) (most ys)) (form y).raw (one_less (nest y) (most ys))
            (y.1 h.0),
        all_wider (most ys) (max (nest y) (most ys)) (their ys) (rest_less (nest y) (most ys))
            (all_so ys h.1),
      )

  lists : (ys : List Known) → (listed (their ys)).can ≡ true
      → Within (1 + most ys) (listed (their ys)).raw
  lists [] c = listed_within [] 0 tt c
  lists (y ∷ []) c = absurd (cc)
  lists (y ∷ z ∷ ys) c =
      listed_within (their (y ∷ z ∷ ys)) (most (y ∷ z ∷ ys)) (all_so (y ∷ z ∷ ys) c) c

  ors : (l : Level) (k : Key) (ys : List Known) → is_left_level l ≡ false
      → (many l k (their ys)).can ≡ true → Within (1 + most ys) (many l k (their ys)).raw
  ors l w [] i c = absurd (cc)
  ors l w (y ∷ []) i c = absurd (cc)
  ors l w (y ∷ z ∷ ys) i c =
      many_within l i w (their (y ∷ z ∷ ys)) (most (y ∷ z ∷ ys)) (all_so (y ∷ z ∷ ys) c) c

  filter_so : (y : Known) (ys : List Known) → (filtered (form y) (their ys)).can ≡ true
      → Within (1 + max (nest y) (most ys)) (filtered (form y) (their ys)).raw
  filter_so y [] c = absurd (cc)
  filter_so y (z ∷ ys) c =
      let h = and_parts (form y).can (all_can (their (z ∷ ys))) c in
      filtered_within (form y) (their (z ∷ ys)) (nest y) (most (z ∷ ys)) (y.1 h.0)
      (all_so (z ∷ ys) h.1) c

  -- two operands
  module _ (y z : Known) (c : ((form y).can && (form z).can) ≡ true) where
    first : Within (nest y) (form y).raw
    first = y.1 (and_parts (form y).can (form z).can c).0

    second : Within (nest z) (form z).raw
    second = z.1 (and_parts (form y).can (form z).can c).1

    once_so : (l : Level) (w : Key) → is_left_level l ≡ true
        → Within (1 + max (nest y) (nest z)) (once l w (form y) (form z)).raw
    once_so l w i = once_within l i w (form y) (form z) (nest y) (nest z) first second

    left_so : (l : Level) (w : Key) → is_left_level l ≡ true
        → Within (1 + max (nest y) (nest z)) (left l w (form y) (form z)).raw
    left_so l w i = left_within l i w (form y) (form z) (nest y) (nest z) first second

  arith_so : (op : ArithOp) (y z : Known) → (arithmetic op (form y) (form z)).can ≡ true
      → Within (1 + max (nest y) (nest z)) (arithmetic op (form y) (form z)).raw
  arith_so arithmetic_op.Add y z c = left_so y z c level.Additive key.Plus refl
  arith_so arithmetic_op.Sub y z c = left_so y z c level.Additive key.Minus refl
  arith_so arithmetic_op.Mul y z c = left_so y z c level.Multiplicative key.Star refl
  arith_so arithmetic_op.Idiv y z c = left_so y z c level.Multiplicative key.IdivWord refl
  arith_so arithmetic_op.Mod y z c = left_so y z c level.Multiplicative key.ModWord refl

  typed_so : (l : Level) → is_left_level l ≡ true → (y : Known) (t : Form)
      → (t.can ≡ true → raw_nest_of t.raw ≤ 0) → (of_type l (form y) t).can ≡ true
      → Within (1 + nest y) (of_type l (form y) t).raw
  typed_so l i y t g c =
      let h = and_parts (form y).can t.can c in
      of_type_within l i (form y) t (nest y) (y.1 h.0) (g h.1)

  abbrev Arms : Type 0
  Arms = List ((x : Arm) × A (arm_form p x) x)

  all_arms : (ys : Arms) → arms_can (map (arm_form p) (map (λ y. y.0) ys)) ≡ true
      → AllArms (greatest (map arm_nest_of (map (λ y. y.0) ys)))
      (map (arm_form p) (map (λ y. y.0) ys))
  all_arms [] c = tt
  all_arms (y ∷ ys) c =
      let f = arm_form p y.0 in
      let fs : List ArmForm = map (arm_form p) (map (λ z. z.0) ys) in
      let n = arm_nest_of y.0 in
      let more : ℕ = greatest (map arm_nest_of (map (λ z. z.0) ys)) in
      let h = and_parts f.test.can (f.first.can && arms_can fs) c in
      let i = and_parts f.first.can (arms_can fs) h.1 in (
        (
          wider n (max n more) f.test.raw (one_less n more) (y.1.0 h.0),
          wider n (max n more) f.first.raw (one_less n more) (y.1.1 i.0),
        ),
        arms_wider more (max n more) fs (rest_less n more) (all_arms ys i.1),
      )

  every_bind : (ys : List ((x : Bind) × B (bind_form p x) x))
      → AllBinds (greatest (map bind_nest_of (map (λ y. y.0) ys)))
      (map (bind_form p) (map (λ y. y.0) ys))
  every_bind [] = tt
  every_bind (y ∷ ys) =
      let fs : List BindForm = map (bind_form p) (map (λ z. z.0) ys) in
      let n = bind_nest_of y.0 in
      let more : ℕ = greatest (map bind_nest_of (map (λ z. z.0) ys)) in (
        bind_wider n (max n more) (bind_form p y.0) (one_less n more) y.1,
        binds_wider more (max n more) fs (rest_less n more) (every_bind ys),
      )

  all_parts : (ys : List ((x : Part) × T (part_form p x) x))
      → AllParts (greatest (map part_nest_of (map (λ y. y.0) ys)))
      (map (part_form p) (map (λ y. y.0) ys))
  all_parts [] = tt
  all_parts (y ∷ ys) =
      let fs : List PartForm = map (part_form p) (map (λ z. z.0) ys) in
      let n = part_nest_of y.0 in
      let more : ℕ = greatest (map part_nest_of (map (λ z. z.0) ys)) in (
        part_wider n (max n more) (part_form p y.0) (one_less n more) y.1,
        parts_wider more (max n more) fs (rest_less n more) (all_parts ys),
      )

  every_attr : (ys : List ((x : DirectAttr) × D (attr_form p x) x))
      → AllAttrs (greatest (map attr_nest_of (map (λ y. y.0) ys)))
      (map (attr_form p) (map (λ y. y.0) ys))
  every_attr [] = tt
  every_attr (y ∷ ys) =
      let fs : List AttrForm = map (attr_form p) (map (λ z. z.0) ys) in
      let n = attr_nest_of y.0 in
      let more : ℕ = greatest (map attr_nest_of (map (λ z. z.0) ys)) in (
        parts_wider n (max n more) (attr_form p y.0).parts (one_less n more) y.1,
        attrs_wider more (max n more) fs (rest_less n more) (every_attr ys),
      )

  all_clauses : (ys : List ((x : Clause) × C (clause_form p x) x))
      → AllClauses (greatest (map clause_nest_of (map (λ y. y.0) ys)))
      (map (clause_form p) (map (λ y. y.0) ys))
  all_clauses [] = tt
  all_clauses (y ∷ ys) =
      let fs : List ClauseForm = map (clause_form p) (map (λ z. z.0) ys) in
      let n = clause_nest_of y.0 in
      let more : ℕ = greatest (map clause_nest_of (map (λ z. z.0) ys)) in
      let rest = clauses_wider more (max n more) fs (rest_less n more) (all_clauses ys) in (
        λ c.
            let b : raw_nest_of (clause_form p y.0).raw ≤ n = y.1 c in
            omega arith,
        rest,
      )

  all_orders : (ys : List ((x : Order) × O (order_form p x) x))
      → AllOrders (greatest (map order_nest_of (map (λ y. y.0) ys)))
      (map (order_form p) (map (λ y. y.0) ys))
  all_orders [] = tt
  all_orders (y ∷ ys) =
      let fs : List OrderForm = map (order_form p) (map (λ z. z.0) ys) in
      let n = order_nest_of y.0 in
      let more : ℕ = greatest (map order_nest_of (map (λ z. z.0) ys)) in (
        λ c. wider n (max n more) (order_form p y.0).key.raw (one_less n more) (y.1 c),
        orders_wider more (max n more) fs (rest_less n more) (all_orders ys),
      )

  abbrev Kept : Kinds
  Kept = pairs p C E N T A B D F O

  abbrev plain : ExprLayer Kept → OpenExpr
  plain y = plain_expr p C E N T A B D F O y

  laid : (y : ExprLayer Kept) → (of_expr p (plain y)).can ≡ true
      → Within (expr_at (plain y)) (of_expr p (plain y)).raw
  laid (Int n) c = number_within (token.Digits n)
  laid (Str cs) c = literal_within (token.Quoted cs)
  laid Context c = context_within
  laid Root c = root_within
  laid (Comma ys) c = lists ys c
  laid (Or ys) c = ors level.Or key.OrWord ys refl c
  laid (And ys) c = ors level.And key.AndWord ys refl c
  laid (General op y z) c = once_so y z c level.Comparison (compare_key op) refl
  laid (Value op y z) c = once_so y z c level.Comparison (value_key op) refl
  laid (Is y z) c = once_so y z c level.Comparison key.IsWord refl
  laid (Before y z) c = once_so y z c level.Comparison key.Before refl
  laid (After y z) c = once_so y z c level.Comparison key.After refl
  laid (Range y z) c = once_so y z c level.Range key.ToWord refl
  laid (Arith op y z) c = arith_so op y z c
  laid (Minus y) c = signed_within key.Minus (form y) (nest y) (y.1 c)
  laid (Plus y) c = signed_within key.Plus (form y) (nest y) (y.1 c)
  laid (Union y z) c = left_so y z c level.Union key.UnionWord refl
  laid (Intersect y z) c = left_so y z c level.Intersect key.IntersectWord refl
  laid (Except y z) c = left_so y z c level.Intersect key.ExceptWord refl
  laid (Filter y ys) c = filter_so y ys c
  laid (InstanceOf y t) c =
      typed_so level.InstanceOf refl y (sequence_form p t) (sequence_none p t) c
  laid (Treat y t) c = typed_so level.Treat refl y (sequence_form p t) (sequence_none p t) c
  laid (Castable y a b) c =
      typed_so level.Castable refl y (single_form p a b) (single_none p a b) c
  laid (Cast y a b) c = typed_so level.Cast refl y (single_form p a b) (single_none p a b) c
  laid (ElemC n y) c = element_within p (name_form p n.0) (form y) (name_nest_of n.0) (nest y)
      n.1 y.1 c
  laid (AttrC n y) c = attribute_within p (name_form p n.0) (form y) (name_nest_of n.0) (nest y)
      n.1 y.1 c
  laid (PiC n y) c = instruction_within p (name_form p n.0) (form y) (name_nest_of n.0) (nest y)
      n.1 y.1 c
  laid (DocC y) c = enclosing_within key.DocumentWord (form y) (nest y) (y.1 c)
  laid (TextC y) c = enclosing_within key.TextWord (form y) (nest y) (y.1 c)
  laid (CommentC y) c = enclosing_within key.CommentWord (form y) (nest y) (y.1 c)
  laid (If arms y) c =
      let fs : List ArmForm = map (arm_form p) (map (λ a. a.0) arms) in
      let h = and_parts (has_arms fs) _ c in
      let i = and_parts (arms_can fs) _ h.1 in
      let j = and_parts (form y).can _ i.1 in
      let m : ℕ = greatest (map arm_nest_of (map (λ a. a.0) arms)) in
      if_within fs (form y) (max m (nest y))
      (arms_wider m (max m (nest y)) fs (one_less m (nest y)) (all_arms arms i.0))
      (wider (nest y) (max m (nest y)) (form y).raw (rest_less m (nest y)) (y.1 j.0))
  laid (Var n) c = variable_within p n c
  laid (Call n ys) c = call_within p n (their ys) (most ys) (all_so ys) c
  laid (Step on t ys) c =
      let h = and_parts (test_form p on t).can (all_can (their ys)) c in
      step_within p on t (their ys) (most ys) h.0 (all_so ys h.1)
  laid (Slash y z) c = slashed_within (form y) (form z) (nest y) (nest z) (first y z c)
      (second y z c)
  laid (Flwor f) c = f.1 c
  laid (Quant q bs y) c =
      let fs : List BindForm = map (bind_form p) (map (λ b. b.0) bs) in
      let m : ℕ = greatest (map bind_nest_of (map (λ b. b.0) bs)) in
      quantified_within q fs (form y) (max m (nest y))
      (binds_wider m (max m (nest y)) fs (one_less m (nest y)) (every_bind bs))
      (λ h. wider (nest y) (max m (nest y)) (form y).raw (rest_less m (nest y)) (y.1 h)) c
  laid (Direct n attrs qs) c =
      let fs : List AttrForm = map (attr_form p) (map (λ a. a.0) attrs) in
      let gs : List PartForm = map (part_form p) (map (λ q. q.0) qs) in
      let m : ℕ = greatest (map attr_nest_of (map (λ a. a.0) attrs)) in
      let k : ℕ = greatest (map part_nest_of (map (λ q. q.0) qs)) in
      direct_within p n fs gs (max m k)
      (attrs_wider m (max m k) fs (one_less m k) (every_attr attrs))
      (parts_wider k (max m k) gs (rest_less m k) (all_parts qs)) c

  one_expr : (y : ExprLayer Kept) → E (of_expr p (plain y)) (roll-Expr (plain y))
  one_expr y = λ c. subst (λ n. Within n (of_expr p (plain y)).raw)
      (sym (expr_rolled (plain y))) (laid y c)

  one_name : (y : NameLayer Kept) → N (of_name p (plain_name p C E N T A B D F O y))
      (roll-NameSource (plain_name p C E N T A B D F O y))
  one_name (Fixed n) = tt
  one_name (Computed y) = λ c. subst (λ n. Within n (form y).raw)
      (sym (name_rolled (Computed y.0))) (y.1 c)

  one_part : (y : PartLayer Kept) → T (of_part p (plain_part p C E N T A B D F O y))
      (roll-Part (plain_part p C E N T A B D F O y))
  one_part (Chars cs) = tt
  one_part (Enclosed y) = λ c. subst (λ n. Within n (form y).raw)
      (sym (part_rolled (Enclosed y.0))) (y.1 c)
  one_part (Child y) = λ c. subst (λ n. Within n (form y).raw)
      (sym (part_rolled (Child y.0))) (y.1 c)

  one_arm : (y : ArmLayer Kept) → A (of_arm p (plain_arm p C E N T A B D F O y))
      (roll-Arm (plain_arm p C E N T A B D F O y))
  one_arm y =
      let m = nest y.test in
      let n = nest y.then in
      let is = sym (arm_rolled (plain_arm p C E N T A B D F O y)) in (
        λ c. subst (λ k. Within k (form y.test).raw) is
            (wider m (max m n) (form y.test).raw (one_less m n) (y.test.1 c)),
        λ c. subst (λ k. Within k (form y.then).raw) is
            (wider n (max m n) (form y.then).raw (rest_less m n) (y.then.1 c)),
      )

  abbrev plain_of_bind : BindLayer Kept → OpenBind
  plain_of_bind y = plain_bind p C E N T A B D F O y

  bound_so : (y : BindLayer Kept) → BindWithin (nest y.source) (of_bind p (plain_of_bind y))
  bound_so y = record {
    name = name_none p y.var;
    kind = kind_none p y.kind;
    source = y.source.1;
  }

  one_bind : (y : BindLayer Kept) → B (of_bind p (plain_of_bind y)) (roll-Bind (plain_of_bind y))
  one_bind y = subst (λ n. BindWithin n (of_bind p (plain_of_bind y)))
      (sym (bind_rolled (plain_of_bind y))) (bound_so y)

  one_clause : (y : ClauseLayer Kept) → C (of_clause p (plain_clause p C E N T A B D F O y))
      (roll-Clause (plain_clause p C E N T A B D F O y))
  one_clause (For b o) = λ c.
      let n = bind_nest_of b.0 in
      subst (λ k. raw_nest_of (of_clause p (For b.0 o)).raw ≤ k) (sym (clause_rolled (For b.0 o)))
      (for_below n (bind_form p b.0) (placing p o) b.1 (place_none p o) c)
  one_clause (Let b) = λ c.
      let n = bind_nest_of b.0 in
      subst (λ k. raw_nest_of (of_clause p (Let b.0)).raw ≤ k) (sym (clause_rolled (Let b.0)))
      (let_below n (bind_form p b.0) b.1 c)

  one_attr : (y : AttrLayer Kept) → D (of_attr p (plain_attr p C E N T A B D F O y))
      (roll-DirectAttr (plain_attr p C E N T A B D F O y))
  one_attr y = subst (λ n. AllParts n (map (part_form p) (map (λ q. q.0) y.parts)))
      (sym (attr_rolled (plain_attr p C E N T A B D F O y))) (all_parts y.parts)

  one_order : (y : OrderLayer Kept) → O (of_order p (plain_order p C E N T A B D F O y))
      (roll-Order (plain_order p C E N T A B D F O y))
  one_order y = λ c. subst (λ n. Within n (form y.key).raw)
      (sym (order_rolled (plain_order p C E N T A B D F O y))) (y.key.1 c)

  abbrev made_of : List Kept.Clauses → Option Kept.Exprs → List Kept.Orders → Bool
      → Kept.Exprs → FlworLayer Kept
  made_of clauses test orders stable body = record {
    clauses = clauses;
    test = test;
    orders = orders;
    stable = stable;
    body = body;
  }

  abbrev plainly : FlworLayer Kept → OpenFlwor
  plainly y = plain_flwor p C E N T A B D F O y

  abbrev FlworWithin : FlworLayer Kept → Type 0
  FlworWithin y = (of_flwor p (plainly y)).can ≡ true
      → Within (1 + flwor_at (plainly y)) (of_flwor p (plainly y)).raw

  -- the parts of a FLWOR expression, of which the test nests no deeper than `t`
  made_within : (clauses : List Kept.Clauses) (t : ℕ) (test : Option Form)
      (orders : List Kept.Orders) (stable : Bool) (body : Kept.Exprs)
      → (may test ≡ true → TestWithin t test)
      → (flowing (map (clause_form p) (map (λ x. x.0) clauses)) test
      (map (order_form p) (map (λ o. o.0) orders)) stable (form body)).can ≡ true
      → Within (1 + max (greatest (map clause_nest_of (map (λ x. x.0) clauses)))
      (max t (max (greatest (map order_nest_of (map (λ o. o.0) orders))) (nest body))))
      (flowing (map (clause_form p) (map (λ x. x.0) clauses)) test
      (map (order_form p) (map (λ o. o.0) orders)) stable (form body)).raw
  made_within clauses t test orders stable body ts c =
      let fs : List ClauseForm = map (clause_form p) (map (λ x. x.0) clauses) in
      let os : List OrderForm = map (order_form p) (map (λ o. o.0) orders) in
      let k : ℕ = greatest (map clause_nest_of (map (λ x. x.0) clauses)) in
      let o : ℕ = greatest (map order_nest_of (map (λ x. x.0) orders)) in
      let b : ℕ = nest body in
      let n : ℕ = max k (max t (max o b)) in
      let hk : k ≤ n = omega arith in
      let ht : t ≤ n = omega arith in
      let ho : o ≤ n = omega arith in
      let hb : b ≤ n = omega arith in
      flowing_within fs test os stable (form body) n
      (clauses_wider k n fs hk (all_clauses clauses)) (λ h. test_wider t n test ht (ts h))
      (orders_wider o n os ho (all_orders orders))
      (λ h. wider b n (form body).raw hb (body.1 h)) c

  flwor_so : (clauses : List Kept.Clauses) (test : Option Kept.Exprs)
      (orders : List Kept.Orders) (stable : Bool) (body : Kept.Exprs)
      → FlworWithin (made_of clauses test orders stable body)
  flwor_so clauses None orders stable body c =
      made_within clauses 0 None orders stable body (λ h. tt) c
  flwor_so clauses (Some t) orders stable body c =
      made_within clauses (nest t) (Some (form t)) orders stable body t.1 c

  one_flwor : (y : FlworLayer Kept) → F (of_flwor p (plainly y)) (roll-Flwor (plainly y))
  one_flwor y = λ c. subst (λ n. Within (1 + n) (of_flwor p (plainly y)).raw)
      (sym (flwor_rolled (plainly y))) (flwor_so y.clauses y.test y.orders y.stable y.body c)

  pub printable_within : (e : Expr) → (form_of p e).can ≡ true
      → Within (nest_of e) (form_of p e).raw
  printable_within = all_exprs p C E N T A B D F O one_clause one_expr one_name one_part
      one_arm one_bind one_attr one_flwor one_order
