-- The raw value of an expression that can be printed and keeps the rules breaks none.
use Rattle.std.proofs.Common.{◌≡◌, List, [], ◌∷◌, map, Bool, true, false, ◌&&◌, refl}
use Rattle.std.proofs.Common.{sym, ◌∙◌, ap, ap₂, subst, Option, Some, None}
use Rattle.std.proofs.lemmas.Bool.{and_parts}
use Rattle.xt_names.specs.declared.kinds.ArithOp.{ArithOp}
use Rattle.xt_names.specs.declared.kinds.ArithOp.TheVariants as arith
use Rattle.xt_syntax.specs.declared.exprs.Expr.{Expr}
use Rattle.xt_syntax.specs.declared.exprs.Arm.{Arm}
use Rattle.xt_syntax.specs.declared.exprs.Clause.{Clause}
use Rattle.xt_syntax.specs.declared.exprs.Order.{Order}
use Rattle.xt_syntax.specs.declared.exprs.Flwor.{Flwor as FlworOf}
use Rattle.xt_syntax.specs.declared.exprs.Bind.{Bind}
use Rattle.xt_syntax.specs.declared.exprs.NameSource.{NameSource}
use Rattle.xt_syntax.specs.declared.exprs.DirectAttr.{DirectAttr}
use Rattle.xt_syntax.specs.declared.exprs.Part.{Part}
use Rattle.xt_syntax.specs.declared.exprs.Clause.TheViews.{roll-Clause, roll-Expr, roll-NameSource}
use Rattle.xt_syntax.specs.declared.exprs.Clause.TheViews.{roll-Part, roll-Arm, roll-Bind}
use Rattle.xt_syntax.specs.declared.exprs.Clause.TheViews.{roll-DirectAttr, roll-Flwor, roll-Order}
use Rattle.xt_syntax.specs.declared.exprs.Clause.TheOpen.{Int, Str, Context, Root, Comma}
use Rattle.xt_syntax.specs.declared.exprs.Clause.TheOpen.{Or, And, General, Value, Is, Before}
use Rattle.xt_syntax.specs.declared.exprs.Clause.TheOpen.{After, Range, Arith, Minus, Plus, Union}
use Rattle.xt_syntax.specs.declared.exprs.Clause.TheOpen.{Intersect, Except, Filter}
use Rattle.xt_syntax.specs.declared.exprs.Clause.TheOpen.{Var, Call, Step, Slash}
use Rattle.xt_syntax.specs.declared.exprs.Clause.TheOpen.{InstanceOf, Treat, Castable, Cast}
use Rattle.xt_syntax.specs.declared.exprs.Clause.TheOpen.{DocC, TextC, CommentC, If, Flwor, Quant}
use Rattle.xt_syntax.specs.declared.exprs.Clause.TheOpen.{ElemC, AttrC, PiC, Fixed, Computed}
use Rattle.xt_syntax.specs.declared.exprs.Clause.TheOpen.{Direct, Chars, Enclosed, Child, For, Let}
use Rattle.xt_syntax.specs.Layers.{Kinds, ClauseLayer, ExprLayer, NameLayer, PartLayer, ArmLayer}
use Rattle.xt_syntax.specs.Layers.{BindLayer, AttrLayer, FlworLayer, OrderLayer}
use Rattle.expr_keys.specs.declared.keys.Key.{Key}
use Rattle.expr_keys.specs.declared.keys.Key.TheVariants as key
use Rattle.expr_keys.specs.declared.tokens.Token.TheVariants as token
use Rattle.expr_keys.specs.declared.productions.Level.{Level}
use Rattle.expr_keys.specs.declared.productions.Level.TheVariants as level
use Rattle.expr_terms.specs.declared.raws.Raw.TheVariants.{Leaf as leaf, Node as node}
use Rattle.xt_names.specs.declared.kinds.AtomType.{AtomType}
use Rattle.xt_types.specs.declared.types.SeqType.{SeqType}
use Rattle.expr_keys.specs.declared.productions.Production.TheVariants as production
use Rattle.expr_names.specs.Doubles.{names_differ}
use Rattle.expr_resolve.specs.declared.setting.Setting.{Setting}
use Rattle.expr_raws.specs.PathRaws.Forms.{Form, all_can}
use Rattle.expr_raws.specs.PathRaws.Paths.{test_form, filtered}
use Rattle.expr_raws.specs.ControlRaws.Operators.{compare_key, value_key, arithmetic, ArmForm, arms_can}
use Rattle.expr_raws.specs.ControlRaws.Operators.{has_arms, listed, many, once, left}
use Rattle.expr_raws.specs.ControlRaws.Types.{sequence_form, single_form, of_type}
use Rattle.expr_raws.specs.ControlRaws.Bindings.{BindForm, ClauseForm, OrderForm}
use Rattle.expr_raws.proofs.ControlRaws.Bindings.{name_means}
use Rattle.expr_raws.specs.ElementRaws.Makers.{NameForm}
use Rattle.expr_raws.specs.ElementRaws.Direct.{PartForm, AttrForm}
use Rattle.expr_raws.specs.Raws.{form_of}
use Rattle.expr_raws.proofs.Forms.{printable_means}
use Rattle.expr_raws.proofs.Induction.{OpenExpr, OpenBind, OpenAttr, OpenFlwor}
use Rattle.expr_raws.proofs.Induction.{clause_form, name_form, part_form, arm_form, bind_form}
use Rattle.expr_raws.proofs.Induction.{attr_form, order_form, of_clause, of_expr}
use Rattle.expr_raws.proofs.Induction.{of_name, of_part, of_arm, of_bind, of_attr, of_flwor}
use Rattle.expr_raws.proofs.Induction.{of_order, pairs, plain_clause, plain_expr, plain_name}
use Rattle.expr_raws.proofs.Induction.{plain_part, plain_arm, plain_bind, plain_attr}
use Rattle.expr_raws.proofs.Induction.{plain_flwor, plain_order, all_exprs}
use Rattle.raw_laws.specs.CleanRaws.Keeps.{all, all_binds, all_attrs, attr_names, is_cast_type, is_other}
use Rattle.raw_laws.specs.CleanRaws.Keeps.{keeps_rules, arm_keeps_rules, clause_keeps_rules, kept_bind}
use Rattle.raw_laws.specs.CleanRaws.Keeps.{order_keeps_rules, source_keeps_rules, kept_attr}
use Rattle.raw_laws.specs.CleanRaws.Keeps.{part_keeps_rules, flwor_keeps_rules}
use Rattle.raw_laws.proofs.CleanRaws.Clean.{Clean, free_clean, leaf_clean, Good, AllGood}
use Rattle.raw_laws.proofs.CleanRaws.Clean.{is_free_level}
use Rattle.raw_laws.proofs.CleanRaws.Names.{variable_clean, step_clean, call_clean, slashed_clean}
use Rattle.raw_laws.proofs.CleanRaws.Names.{filtered_clean}
use Rattle.raw_laws.proofs.CleanRaws.Types.{sequence_typed, single_clean, instances_clean, treats_clean}
use Rattle.raw_laws.proofs.CleanRaws.Types.{of_type_clean}
use Rattle.raw_laws.proofs.CleanRaws.Operators.{once_clean, left_clean, many_clean, listed_clean}
use Rattle.raw_laws.proofs.CleanRaws.Operators.{signed_clean, AllArms, if_clean}
use Rattle.raw_laws.proofs.CleanRaws.Bindings.{variable_named, kind_clean, BindGood, AllBinds}
use Rattle.raw_laws.proofs.CleanRaws.Bindings.{quantified_clean, let_clean, for_clean, AllClauses}
use Rattle.raw_laws.proofs.CleanRaws.Bindings.{AllOrders}
use Rattle.raw_laws.proofs.CleanRaws.Bindings.{flowing_clean}
use Rattle.raw_laws.proofs.CleanRaws.Elements.{NameGood, element_clean, attribute_clean, instruction_clean}
use Rattle.raw_laws.proofs.CleanRaws.Elements.{enclosing_clean, PartGood, AllParts, AllAttrs, direct_clean}
use Rattle.raw_laws.proofs.CleanRaws.Rolled.{clause_rolled, expr_at, expr_rolled, name_rolled}
use Rattle.raw_laws.proofs.CleanRaws.Rolled.{part_rolled, arm_rolled, bind_rolled, attr_rolled}
use Rattle.raw_laws.proofs.CleanRaws.Rolled.{flwor_at, flwor_rolled, order_rolled}

module _ (s : Setting) (strip : s.strip ≡ false) where
  abbrev C : ClauseForm → Clause → Type 0
  C f x = clause_keeps_rules x ≡ true → f.can ≡ true → Clean s f.raw

  abbrev E : Form → Expr → Type 0
  E f x = keeps_rules x ≡ true → f.can ≡ true → Clean s f.raw

  abbrev N : NameForm → NameSource → Type 0
  N f x = source_keeps_rules x ≡ true → NameGood s f

  abbrev T : PartForm → Part → Type 0
  T f x = part_keeps_rules x ≡ true → PartGood s f

  abbrev A : ArmForm → Arm → Type 0
  A f x = arm_keeps_rules x ≡ true
      → (f.test.can ≡ true → Clean s f.test.raw) × (f.first.can ≡ true → Clean s f.first.raw)

  abbrev B : BindForm → Bind → Type 0
  B f x = (kept_bind x).kept ≡ true → BindGood s f (kept_bind x).var

  abbrev D : AttrForm → DirectAttr → Type 0
  D f x = (f.name ≡ (kept_attr x).name) × ((kept_attr x).kept ≡ true → AllParts s f.parts)

  abbrev F : Form → FlworOf → Type 0
  F f x = flwor_keeps_rules x ≡ true → f.can ≡ true → Clean s f.raw

  abbrev O : OrderForm → Order → Type 0
  O f x = order_keeps_rules x ≡ true → f.key.can ≡ true → Clean s f.key.raw

  abbrev Kept : Kinds
  Kept = pairs s.prefixes C E N T A B D F O

  abbrev Known : Type 0
  Known = (e : Expr) × E (form_of s.prefixes e) e

  abbrev form : Known → Form
  form y = form_of s.prefixes y.0

  abbrev their : List Known → List Form
  their ys = map (form_of s.prefixes) (map (λ y. y.0) ys)

  abbrev keeps_so : Known → Bool
  keeps_so y = keeps_rules y.0

  abbrev all_keep : List Known → Bool
  all_keep ys = all (map keeps_rules (map (λ y. y.0) ys))

  -- what is printed means the expression
  good : (y : Known) → keeps_so y ≡ true → (form y).can ≡ true → Good s (form y).raw
  good y k c = (y.1 k c, (y.0, printable_means s strip y.0 c))

  all_so : (ys : List Known) → all_keep ys ≡ true → all_can (their ys) ≡ true
      → AllGood s (their ys)
  all_so [] k c = tt
  all_so (y ∷ ys) k c =
      let h = and_parts (form y).can (all_can (their ys)) c in
      let u = and_parts (keeps_so y) (all_keep ys) k in
      (good y u.0 h.0, all_so ys u.1 h.1)

  lists : (ys : List Known) → all_keep ys ≡ true → (listed (their ys)).can ≡ true
      → Clean s (listed (their ys)).raw
  lists [] k c = listed_clean s [] tt c
  lists (y ∷ []) k c = absurd (cc)
  lists (y ∷ z ∷ ys) k c = listed_clean s (their (y ∷ z ∷ ys)) (all_so (y ∷ z ∷ ys) k c) c

  ors : (l : Level) (k : Key) (ys : List Known) → all_keep ys ≡ true
      → is_free_level l ≡ true → (many l k (their ys)).can ≡ true
      → Clean s (many l k (their ys)).raw
  ors l w [] k i c = absurd (cc)
  ors l w (y ∷ []) k i c = absurd (cc)
  ors l w (y ∷ z ∷ ys) k i c =
      many_clean s l i w (their (y ∷ z ∷ ys)) (all_so (y ∷ z ∷ ys) k c) c

  filter_so : (y : Known) (ys : List Known) → keeps_so y ≡ true → all_keep ys ≡ true
      → (filtered (form y) (their ys)).can ≡ true → Clean s (filtered (form y) (their ys)).raw
  filter_so y [] k i c = absurd (cc)
  filter_so y (z ∷ ys) k i c =
      let h = and_parts (form y).can (all_can (their (z ∷ ys))) c in
      filtered_clean s (form y) (their (z ∷ ys)) (y.1 k h.0) (all_so (z ∷ ys) i h.1) c

  -- two operands
  module _ (y z : Known) (k : (keeps_so y && keeps_so z) ≡ true)
      (c : ((form y).can && (form z).can) ≡ true) where
    first : Clean s (form y).raw
    first = y.1 (and_parts (keeps_so y) (keeps_so z) k).0 (and_parts (form y).can (form z).can c).0

    second : Clean s (form z).raw
    second = z.1 (and_parts (keeps_so y) (keeps_so z) k).1 (and_parts (form y).can (form z).can c).1

    once_so : (l : Level) (w : Key) → is_free_level l ≡ true
        → Clean s (once l w (form y) (form z)).raw
    once_so l w i = once_clean s l i w (form y) (form z) first second

    left_so : (l : Level) (w : Key) → is_free_level l ≡ true
        → Clean s (left l w (form y) (form z)).raw
    left_so l w i = left_clean s l i w (form y) (form z) first second

  arith_so : (op : ArithOp) (y z : Known) → (keeps_so y && keeps_so z) ≡ true
      → (arithmetic op (form y) (form z)).can ≡ true
      → Clean s (arithmetic op (form y) (form z)).raw
  arith_so arith.Add y z k c = left_so y z k c level.Additive key.Plus refl
  arith_so arith.Sub y z k c = left_so y z k c level.Additive key.Minus refl
  arith_so arith.Mul y z k c = left_so y z k c level.Multiplicative key.Star refl
  arith_so arith.Idiv y z k c = left_so y z k c level.Multiplicative key.IdivWord refl
  arith_so arith.Mod y z k c = left_so y z k c level.Multiplicative key.ModWord refl

  instance_so : (y : Known) (t : SeqType) → keeps_so y ≡ true
      → (of_type level.InstanceOf (form y) (sequence_form s.prefixes t)).can ≡ true
      → Clean s (of_type level.InstanceOf (form y) (sequence_form s.prefixes t)).raw
  instance_so y t k c =
      let f = sequence_form s.prefixes t in
      let h = and_parts (form y).can f.can c in
      of_type_clean s level.InstanceOf (form y) f (y.1 k h.0)
      (instances_clean s f.raw (sequence_typed s t h.1))

  treat_so : (y : Known) (t : SeqType) → keeps_so y ≡ true
      → (of_type level.Treat (form y) (sequence_form s.prefixes t)).can ≡ true
      → Clean s (of_type level.Treat (form y) (sequence_form s.prefixes t)).raw
  treat_so y t k c =
      let f = sequence_form s.prefixes t in
      let h = and_parts (form y).can f.can c in
      of_type_clean s level.Treat (form y) f (y.1 k h.0)
      (treats_clean s f.raw (sequence_typed s t h.1))

  cast_so : (l : Level) → is_free_level l ≡ true → (y : Known) (a : AtomType) (b : Bool)
      → (keeps_so y && is_cast_type a) ≡ true
      → (of_type l (form y) (single_form s.prefixes a b)).can ≡ true
      → Clean s (of_type l (form y) (single_form s.prefixes a b)).raw
  cast_so l i y a b k c =
      let f = single_form s.prefixes a b in
      let h = and_parts (form y).can f.can c in
      let u = and_parts (keeps_so y) (is_cast_type a) k in
      of_type_clean s l (form y) f (y.1 u.0 h.0)
      (free_clean s (production.OperatorTail l) i (f.raw ∷ [])
      (single_clean s a b u.1 h.1, tt))

  all_arms : (ys : List ((x : Arm) × A (arm_form s.prefixes x) x))
      → all (map arm_keeps_rules (map (λ y. y.0) ys)) ≡ true
      → arms_can (map (arm_form s.prefixes) (map (λ y. y.0) ys)) ≡ true
      → AllArms s (map (arm_form s.prefixes) (map (λ y. y.0) ys))
  all_arms [] k c = tt
  all_arms (y ∷ ys) k c =
      let f = arm_form s.prefixes y.0 in
      let more : Bool = arms_can (map (arm_form s.prefixes) (map (λ z. z.0) ys)) in
      let h = and_parts f.test.can (f.first.can && more) c in
      let i = and_parts f.first.can more h.1 in
      let u = and_parts (arm_keeps_rules y.0) (all (map arm_keeps_rules (map (λ z. z.0) ys))) k in
      (((y.1 u.0).0 h.0, (y.1 u.0).1 i.0), all_arms ys u.1 i.1)

  every_bind : (ys : List ((x : Bind) × B (bind_form s.prefixes x) x))
      → all_binds (map kept_bind (map (λ y. y.0) ys)) ≡ true
      → AllBinds s (map (bind_form s.prefixes) (map (λ y. y.0) ys))
  every_bind [] k = tt
  every_bind (y ∷ ys) k =
      let u = and_parts (kept_bind y.0).kept (all_binds (map kept_bind (map (λ z. z.0) ys))) k in
      (((kept_bind y.0).var, y.1 u.0), every_bind ys u.1)

  all_parts : (ys : List ((x : Part) × T (part_form s.prefixes x) x))
      → all (map part_keeps_rules (map (λ y. y.0) ys)) ≡ true
      → AllParts s (map (part_form s.prefixes) (map (λ y. y.0) ys))
  all_parts [] k = tt
  all_parts (y ∷ ys) k =
      let u = and_parts (part_keeps_rules y.0) (all (map part_keeps_rules (map (λ z. z.0) ys))) k in
      (y.1 u.0, all_parts ys u.1)

  abbrev Attrs : Type 0
  Attrs = List ((x : DirectAttr) × D (attr_form s.prefixes x) x)

  every_attr : (ys : Attrs) → all_attrs (map kept_attr (map (λ y. y.0) ys)) ≡ true
      → AllAttrs s (map (attr_form s.prefixes) (map (λ y. y.0) ys))
  every_attr [] k = tt
  every_attr (y ∷ ys) k =
      let u = and_parts (kept_attr y.0).kept (all_attrs (map kept_attr (map (λ z. z.0) ys))) k in
      (y.1.1 u.0, every_attr ys u.1)

  same_names : (ys : Attrs) → map (λ a. a.name) (map (attr_form s.prefixes) (map (λ y. y.0) ys))
      ≡ attr_names (map kept_attr (map (λ y. y.0) ys))
  same_names [] = refl
  same_names (y ∷ ys) = ap₂ (λ n ns. n ∷ ns) y.1.0 (same_names ys)

  all_clauses : (ys : List ((x : Clause) × C (clause_form s.prefixes x) x))
      → all (map clause_keeps_rules (map (λ y. y.0) ys)) ≡ true
      → AllClauses s (map (clause_form s.prefixes) (map (λ y. y.0) ys))
  all_clauses [] k = tt
  all_clauses (y ∷ ys) k =
      let u = and_parts (clause_keeps_rules y.0)
      (all (map clause_keeps_rules (map (λ z. z.0) ys))) k in
      (y.1 u.0, all_clauses ys u.1)

  all_orders : (ys : List ((x : Order) × O (order_form s.prefixes x) x))
      → all (map order_keeps_rules (map (λ y. y.0) ys)) ≡ true
      → AllOrders s (map (order_form s.prefixes) (map (λ y. y.0) ys))
  all_orders [] k = tt
  all_orders (y ∷ ys) k =
      let u = and_parts (order_keeps_rules y.0)
      (all (map order_keeps_rules (map (λ z. z.0) ys))) k in
      (y.1 u.0, all_orders ys u.1)

  abbrev plain : ExprLayer Kept → OpenExpr
  plain y = plain_expr s.prefixes C E N T A B D F O y

  laid : (y : ExprLayer Kept) → expr_at (plain y) ≡ true
      → (of_expr s.prefixes (plain y)).can ≡ true → Clean s (of_expr s.prefixes (plain y)).raw
  laid (Int n) k c =
      free_clean s production.Number refl (leaf (token.Digits n) ∷ [])
      (leaf_clean s (token.Digits n), tt)
  laid (Str cs) k c =
      free_clean s production.Literal refl (leaf (token.Quoted cs) ∷ [])
      (leaf_clean s (token.Quoted cs), tt)
  laid Context k c = free_clean s production.Context refl [] tt
  laid Root k c = free_clean s production.Parens refl (node production.Rooted [] ∷ [])
      (free_clean s production.Rooted refl [] tt, tt)
  laid (Comma ys) k c = lists ys k c
  laid (Or ys) k c = ors level.Or key.OrWord ys k refl c
  laid (And ys) k c = ors level.And key.AndWord ys k refl c
  laid (General op y z) k c = once_so y z k c level.Comparison (compare_key op) refl
  laid (Value op y z) k c = once_so y z k c level.Comparison (value_key op) refl
  laid (Is y z) k c = once_so y z k c level.Comparison key.IsWord refl
  laid (Before y z) k c = once_so y z k c level.Comparison key.Before refl
  laid (After y z) k c = once_so y z k c level.Comparison key.After refl
  laid (Range y z) k c = once_so y z k c level.Range key.ToWord refl
  laid (Arith op y z) k c = arith_so op y z k c
  laid (Minus y) k c = signed_clean s key.Minus (form y) (y.1 k c)
  laid (Plus y) k c = signed_clean s key.Plus (form y) (y.1 k c)
  laid (Union y z) k c = left_so y z k c level.Union key.UnionWord refl
  laid (Intersect y z) k c = left_so y z k c level.Intersect key.IntersectWord refl
  laid (Except y z) k c = left_so y z k c level.Intersect key.ExceptWord refl
  laid (Filter y ys) k c =
      let u = and_parts (keeps_so y) (all_keep ys) k in
      filter_so y ys u.0 u.1 c
  laid (InstanceOf y t) k c = instance_so y t k c
  laid (Treat y t) k c = treat_so y t k c
  laid (Castable y a b) k c = cast_so level.Castable refl y a b k c
  laid (Cast y a b) k c = cast_so level.Cast refl y a b k c
  laid (ElemC n y) k c =
      let u = and_parts (source_keeps_rules n.0) (keeps_so y) k in
      element_clean s (name_form s.prefixes n.0) (form y) (n.1 u.0) (good y u.1) c
  laid (AttrC n y) k c =
      let u = and_parts (source_keeps_rules n.0) (keeps_so y) k in
      attribute_clean s (name_form s.prefixes n.0) (form y) (n.1 u.0) (good y u.1) c
  laid (PiC n y) k c =
      let u = and_parts (source_keeps_rules n.0) (keeps_so y) k in
      instruction_clean s (name_form s.prefixes n.0) (form y) (n.1 u.0) (good y u.1) c
  laid (DocC y) k c = enclosing_clean s key.DocumentWord (form y) (y.1 k c)
  laid (TextC y) k c = enclosing_clean s key.TextWord (form y) (y.1 k c)
  laid (CommentC y) k c = enclosing_clean s key.CommentWord (form y) (y.1 k c)
  laid (If arms y) k c =
      let fs : List ArmForm = map (arm_form s.prefixes) (map (λ a. a.0) arms) in
      let h = and_parts (has_arms fs) _ c in
      let i = and_parts (arms_can fs) _ h.1 in
      let j = and_parts (form y).can _ i.1 in
      let u = and_parts (all (map arm_keeps_rules (map (λ a. a.0) arms))) (keeps_so y) k in
      if_clean s fs (form y) (all_arms arms u.0 i.0) (y.1 u.1 j.0)
  laid (Var n) k c = variable_clean s n c
  laid (Call n ys) k c = call_clean s n (their ys) (all_so ys k) c
  laid (Step on t ys) k c =
      let h = and_parts (test_form s.prefixes on t).can (all_can (their ys)) c in
      step_clean s on t (their ys) h.0 (all_so ys k h.1)
  laid (Slash y z) k c = slashed_clean s (form y) (form z) (first y z k c) (second y z k c)
  laid (Flwor f) k c = f.1 k c
  laid (Quant q bs y) k c =
      let u = and_parts (all_binds (map kept_bind (map (λ b. b.0) bs))) (keeps_so y) k in
      quantified_clean s q (map (bind_form s.prefixes) (map (λ b. b.0) bs)) (form y)
      (every_bind bs u.0) (y.1 u.1) c
  laid (Direct n attrs qs) k c =
      let more : Bool = all (map part_keeps_rules (map (λ q. q.0) qs)) in
      let some : Bool = all_attrs (map kept_attr (map (λ a. a.0) attrs)) in
      let u = and_parts (names_differ (attr_names (map kept_attr (map (λ a. a.0) attrs))))
      (some && more) k in
      let v = and_parts some more u.1 in
      direct_clean s n (map (attr_form s.prefixes) (map (λ a. a.0) attrs))
      (map (part_form s.prefixes) (map (λ q. q.0) qs)) (every_attr attrs v.0) (all_parts qs v.1)
      (ap names_differ (same_names attrs) ∙ u.0) c

  one_expr : (y : ExprLayer Kept) → E (of_expr s.prefixes (plain y)) (roll-Expr (plain y))
  one_expr y = λ k. laid y (sym (expr_rolled (plain y)) ∙ k)

  one_name : (y : NameLayer Kept)
      → N (of_name s.prefixes (plain_name s.prefixes C E N T A B D F O y))
      (roll-NameSource (plain_name s.prefixes C E N T A B D F O y))
  one_name (Fixed n) = λ k. tt
  one_name (Computed y) = λ k. y.1 (sym (name_rolled (Computed y.0)) ∙ k)

  one_part : (y : PartLayer Kept)
      → T (of_part s.prefixes (plain_part s.prefixes C E N T A B D F O y))
      (roll-Part (plain_part s.prefixes C E N T A B D F O y))
  one_part (Chars cs) = λ k. tt
  one_part (Enclosed y) = λ k. y.1 (sym (part_rolled (Enclosed y.0)) ∙ k)
  one_part (Child y) = λ k. y.1 (sym (part_rolled (Child y.0)) ∙ k)

  one_arm : (y : ArmLayer Kept) → A (of_arm s.prefixes (plain_arm s.prefixes C E N T A B D F O y))
      (roll-Arm (plain_arm s.prefixes C E N T A B D F O y))
  one_arm y = λ k.
      let u = and_parts (keeps_so y.test) (keeps_so y.then)
      (sym (arm_rolled (plain_arm s.prefixes C E N T A B D F O y)) ∙ k) in
      (y.test.1 u.0, y.then.1 u.1)

  abbrev plain_of_bind : BindLayer Kept → OpenBind
  plain_of_bind y = plain_bind s.prefixes C E N T A B D F O y

  bound_so : (y : BindLayer Kept) → keeps_so y.source ≡ true
      → BindGood s (of_bind s.prefixes (plain_of_bind y)) y.var
  bound_so y k = record {
    name = variable_named s y.var;
    means = name_means s y.var;
    kind = kind_clean s y.kind;
    source = good y.source k;
  }

  one_bind : (y : BindLayer Kept) → B (of_bind s.prefixes (plain_of_bind y))
      (roll-Bind (plain_of_bind y))
  one_bind y = λ k.
      let is = bind_rolled (plain_of_bind y) in
      subst (λ b. BindGood s (of_bind s.prefixes (plain_of_bind y)) b.var) (sym is)
      (bound_so y (sym (ap (λ b. b.kept) is) ∙ k))

  one_clause : (y : ClauseLayer Kept)
      → C (of_clause s.prefixes (plain_clause s.prefixes C E N T A B D F O y))
      (roll-Clause (plain_clause s.prefixes C E N T A B D F O y))
  one_clause (For b o) = λ k.
      let u = and_parts (kept_bind b.0).kept (is_other (kept_bind b.0).var o)
      (sym (clause_rolled (For b.0 o)) ∙ k) in
      for_clean s (bind_form s.prefixes b.0) (kept_bind b.0).var o (b.1 u.0) u.1
  one_clause (Let b) = λ k. let_clean s (bind_form s.prefixes b.0) (kept_bind b.0).var
      (b.1 (sym (clause_rolled (Let b.0)) ∙ k))

  abbrev plain_of_attr : AttrLayer Kept → OpenAttr
  plain_of_attr y = plain_attr s.prefixes C E N T A B D F O y

  one_attr : (y : AttrLayer Kept) → D (of_attr s.prefixes (plain_of_attr y))
      (roll-DirectAttr (plain_of_attr y))
  one_attr y =
      let is = attr_rolled (plain_of_attr y) in (
        ap (λ a. a.name) (sym is),
        λ k. all_parts y.parts (sym (ap (λ a. a.kept) is) ∙ k),
      )

  one_order : (y : OrderLayer Kept)
      → O (of_order s.prefixes (plain_order s.prefixes C E N T A B D F O y))
      (roll-Order (plain_order s.prefixes C E N T A B D F O y))
  one_order y = λ k. y.key.1
      (sym (order_rolled (plain_order s.prefixes C E N T A B D F O y)) ∙ k)

  abbrev made_of : List Kept.Clauses → Option Kept.Exprs → List Kept.Orders → Bool
      → Kept.Exprs → FlworLayer Kept
  made_of clauses test orders stable body = record {
    clauses = clauses;
    test = test;
    orders = orders;
    stable = stable;
    body = body;
  }

  abbrev plainly : FlworLayer Kept → OpenFlwor
  plainly y = plain_flwor s.prefixes C E N T A B D F O y

  abbrev FlworClean : FlworLayer Kept → Type 0
  FlworClean y = flwor_at (plainly y) ≡ true → (of_flwor s.prefixes (plainly y)).can ≡ true
      → Clean s (of_flwor s.prefixes (plainly y)).raw

  flwor_clean : (clauses : List Kept.Clauses) (test : Option Kept.Exprs)
      (orders : List Kept.Orders) (stable : Bool) (body : Kept.Exprs)
      → FlworClean (made_of clauses test orders stable body)
  flwor_clean clauses None orders stable body k c =
      let some : Bool = all (map clause_keeps_rules (map (λ x. x.0) clauses)) in
      let more : Bool = all (map order_keeps_rules (map (λ o. o.0) orders)) in
      let u = and_parts some (true && (more && keeps_so body)) k in
      let w = and_parts more (keeps_so body) u.1 in
      flowing_clean s (map (clause_form s.prefixes) (map (λ x. x.0) clauses)) None
      (map (order_form s.prefixes) (map (λ o. o.0) orders)) stable (form body)
      (all_clauses clauses u.0) (λ h. tt) (all_orders orders w.0) (body.1 w.1) c
  flwor_clean clauses (Some t) orders stable body k c =
      let some : Bool = all (map clause_keeps_rules (map (λ x. x.0) clauses)) in
      let more : Bool = all (map order_keeps_rules (map (λ o. o.0) orders)) in
      let u = and_parts some (keeps_so t && (more && keeps_so body)) k in
      let v = and_parts (keeps_so t) (more && keeps_so body) u.1 in
      let w = and_parts more (keeps_so body) v.1 in
      flowing_clean s (map (clause_form s.prefixes) (map (λ x. x.0) clauses)) (Some (form t))
      (map (order_form s.prefixes) (map (λ o. o.0) orders)) stable (form body)
      (all_clauses clauses u.0) (t.1 v.0) (all_orders orders w.0) (body.1 w.1) c

  one_flwor : (y : FlworLayer Kept) → F (of_flwor s.prefixes (plainly y)) (roll-Flwor (plainly y))
  one_flwor y = λ k. flwor_clean y.clauses y.test y.orders y.stable y.body
      (sym (flwor_rolled (plainly y)) ∙ k)

  pub printable_clean : (e : Expr) → keeps_rules e ≡ true → (form_of s.prefixes e).can ≡ true
      → Clean s (form_of s.prefixes e).raw
  printable_clean = all_exprs s.prefixes C E N T A B D F O one_clause one_expr one_name one_part
      one_arm one_bind one_attr one_flwor one_order
