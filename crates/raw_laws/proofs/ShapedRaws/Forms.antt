-- The raw value of an expression that can be printed is shaped, where its texts are sound.
use Rattle.std.proofs.Common.{◌≡◌, List, [], ◌∷◌, map, Bool, true, ◌&&◌}
use Rattle.std.proofs.Common.{refl, sym, ◌∙◌, ap, Option, Some, None}
use Rattle.std.proofs.lemmas.Bool.{and_parts}
use Rattle.xt_names.specs.declared.kinds.ArithOp.{ArithOp}
use Rattle.xt_names.specs.declared.kinds.ArithOp.TheVariants as arith
use Rattle.xt_syntax.specs.declared.exprs.Expr.{Expr}
use Rattle.xt_syntax.specs.declared.exprs.Arm.{Arm}
use Rattle.xt_syntax.specs.declared.exprs.Clause.{Clause}
use Rattle.xt_syntax.specs.declared.exprs.Order.{Order}
use Rattle.xt_syntax.specs.declared.exprs.Flwor.{Flwor as FlworOf}
use Rattle.xt_syntax.specs.declared.exprs.Bind.{Bind}
use Rattle.xt_syntax.specs.declared.exprs.NameSource.{NameSource}
use Rattle.xt_syntax.specs.declared.exprs.DirectAttr.{DirectAttr}
use Rattle.xt_syntax.specs.declared.exprs.Part.{Part}
use Rattle.xt_syntax.specs.declared.prefixes.Prefixes.{Prefixes}
use Rattle.xt_syntax.specs.declared.exprs.Clause.TheViews.{roll-Clause, roll-Expr, roll-NameSource}
use Rattle.xt_syntax.specs.declared.exprs.Clause.TheViews.{roll-Part, roll-Arm, roll-Bind}
use Rattle.xt_syntax.specs.declared.exprs.Clause.TheViews.{roll-DirectAttr, roll-Flwor, roll-Order}
use Rattle.xt_syntax.specs.declared.exprs.Clause.TheOpen.{Int, Str, Context, Root, Comma}
use Rattle.xt_syntax.specs.declared.exprs.Clause.TheOpen.{Or, And, General, Value, Is, Before}
use Rattle.xt_syntax.specs.declared.exprs.Clause.TheOpen.{After, Range, Arith, Minus, Plus, Union}
use Rattle.xt_syntax.specs.declared.exprs.Clause.TheOpen.{Intersect, Except, Filter}
use Rattle.xt_syntax.specs.declared.exprs.Clause.TheOpen.{Var, Call, Step, Slash}
use Rattle.xt_syntax.specs.declared.exprs.Clause.TheOpen.{InstanceOf, Treat, Castable, Cast}
use Rattle.xt_syntax.specs.declared.exprs.Clause.TheOpen.{DocC, TextC, CommentC, If, Flwor, Quant}
use Rattle.xt_syntax.specs.declared.exprs.Clause.TheOpen.{ElemC, AttrC, PiC, Fixed, Computed}
use Rattle.xt_syntax.specs.declared.exprs.Clause.TheOpen.{Direct, Chars, Enclosed, Child, For, Let}
use Rattle.xt_syntax.specs.Layers.{Kinds, ClauseLayer, ExprLayer, NameLayer, PartLayer, ArmLayer}
use Rattle.xt_syntax.specs.Layers.{BindLayer, AttrLayer, FlworLayer, OrderLayer}
use Rattle.expr_keys.specs.declared.keys.Key.{Key}
use Rattle.expr_keys.specs.declared.keys.Key.TheVariants as key
use Rattle.expr_keys.specs.declared.tokens.Token.TheVariants as token
use Rattle.expr_keys.specs.declared.productions.Level.{Level}
use Rattle.expr_keys.specs.declared.productions.Level.TheVariants as level
use Rattle.expr_raws.specs.PathRaws.Forms.{Form, all_can}
use Rattle.expr_raws.specs.ControlRaws.Operators.{compare_key, value_key, arithmetic, ArmForm, arms_can}
use Rattle.expr_raws.specs.ControlRaws.Operators.{has_arms, listed, many}
use Rattle.expr_raws.specs.ControlRaws.Operators.{once, left}
use Rattle.expr_raws.specs.ControlRaws.Types.{sequence_form, single_form, of_type}
use Rattle.expr_raws.specs.ControlRaws.Bindings.{BindForm, ClauseForm, OrderForm, binding, bind_can, may}
use Rattle.expr_raws.specs.ControlRaws.Bindings.{has_some, binds_can, clauses_can, orders_can, placing}
use Rattle.expr_raws.specs.ElementRaws.Makers.{NameForm}
use Rattle.expr_raws.specs.ElementRaws.Direct.{PartForm, AttrForm}
use Rattle.expr_raws.specs.Raws.{form_of}
use Rattle.expr_raws.proofs.Induction.{OpenExpr, OpenFlwor}
use Rattle.expr_raws.proofs.Induction.{clause_form, name_form, part_form, arm_form, bind_form}
use Rattle.expr_raws.proofs.Induction.{attr_form, order_form, of_clause, of_expr}
use Rattle.expr_raws.proofs.Induction.{of_name, of_part, of_arm, of_bind, of_attr, of_flwor}
use Rattle.expr_raws.proofs.Induction.{of_order, pairs, plain_clause, plain_expr, plain_name}
use Rattle.expr_raws.proofs.Induction.{plain_part, plain_arm, plain_bind, plain_attr}
use Rattle.expr_raws.proofs.Induction.{plain_flwor, plain_order, all_exprs}
use Rattle.xt_forms.specs.Regular.{every}
use Rattle.expr_keys.specs.declared.productions.Production.TheVariants as production
use Rattle.expr_terms.specs.declared.raws.Raw.TheVariants.{Leaf as leaf, Node as node}
use Rattle.expr_raws.specs.PathRaws.Paths.{test_form, filtered}
use Rattle.expr_raws.specs.ElementRaws.Makers.{fixed, computed}
use Rattle.closed_queries.specs.Texts.{is_sound_expr_name, is_sound_name, is_sound_attribute_name}
use Rattle.closed_queries.specs.Texts.{is_sound_test, is_sound_type, is_sound_kind}
use Rattle.closed_queries.specs.ExprTexts.{every_bound, has_sound_texts, is_sound_arm}
use Rattle.closed_queries.specs.ExprTexts.{is_sound_clause, bound_of, is_sound_order}
use Rattle.closed_queries.specs.ExprTexts.{is_sound_source, is_sound_attr, is_sound_part}
use Rattle.closed_queries.specs.ExprTexts.{is_sound_flwor, is_sound_place}
use Rattle.token_laws.proofs.FitTokens.Sounds.{clause_rolled, expr_at, expr_rolled, name_rolled}
use Rattle.token_laws.proofs.FitTokens.Sounds.{part_rolled, arm_rolled, bind_rolled, attr_rolled}
use Rattle.token_laws.proofs.FitTokens.Sounds.{flwor_at, flwor_rolled, order_rolled}
use Rattle.raw_laws.proofs.ShapedRaws.Shaped.{Shaped, leaf_shaped, loose, AllForms}
use Rattle.raw_laws.proofs.ShapedRaws.Parts.{variable_shaped, call_shaped, step_shaped, slashed_shaped}
use Rattle.raw_laws.proofs.ShapedRaws.Parts.{filtered_shaped, sequence_shaped, single_shaped}
use Rattle.raw_laws.proofs.ShapedRaws.Parts.{of_type_shaped, once_shaped, left_shaped, many_shaped}
use Rattle.raw_laws.proofs.ShapedRaws.Parts.{listed_shaped, signed_shaped, AllArms, if_shaped, BindShaped}
use Rattle.raw_laws.proofs.ShapedRaws.Parts.{bind_made, AllBinds, quantified_shaped, for_shaped, let_shaped}
use Rattle.raw_laws.proofs.ShapedRaws.Parts.{AllClauses, AllOrders, flowing_shaped}
use Rattle.raw_laws.proofs.ShapedRaws.Cans.{may_name, element_parts, attribute_parts, instruction_parts}
use Rattle.raw_laws.proofs.ShapedRaws.Cans.{call_parts, flowing_parts}
use Rattle.raw_laws.proofs.ShapedRaws.Elements.{NameShaped, element_shaped, attribute_shaped}
use Rattle.raw_laws.proofs.ShapedRaws.Elements.{instruction_shaped, enclosing_shaped, PartShaped, AllParts}
use Rattle.raw_laws.proofs.ShapedRaws.Elements.{AttrShaped, AllAttrs, direct_shaped}

module _ (p : Prefixes) where
  abbrev C : ClauseForm → Clause → Type 0
  C f x = is_sound_clause x ≡ true → f.can ≡ true → Shaped f.raw

  abbrev E : Form → Expr → Type 0
  E f x = has_sound_texts x ≡ true → f.can ≡ true → Shaped f.raw

  abbrev N : NameForm → NameSource → Type 0
  N (fixed n) x = Unit {0}
  N (computed f) x = is_sound_source x ≡ true → f.can ≡ true → Shaped f.raw

  abbrev T : PartForm → Part → Type 0
  T f x = is_sound_part x ≡ true → PartShaped f

  abbrev A : ArmForm → Arm → Type 0
  A f x = is_sound_arm x ≡ true
      → (f.test.can ≡ true → Shaped f.test.raw) × (f.first.can ≡ true → Shaped f.first.raw)

  abbrev B : BindForm → Bind → Type 0
  B f x = (bound_of x).sound ≡ true → bind_can f ≡ true → BindShaped f

  abbrev D : AttrForm → DirectAttr → Type 0
  D f x = is_sound_attr x ≡ true → AttrShaped f

  abbrev F : Form → FlworOf → Type 0
  F f x = is_sound_flwor x ≡ true → f.can ≡ true → Shaped f.raw

  abbrev O : OrderForm → Order → Type 0
  O f x = is_sound_order x ≡ true → f.key.can ≡ true → Shaped f.key.raw

  abbrev Kept : Kinds
  Kept = pairs p C E N T A B D F O

  abbrev Known : Type 0
  Known = (e : Expr) × E (form_of p e) e

  abbrev form : Known → Form
  form y = form_of p y.0

  abbrev their : List Known → List Form
  their ys = map (form_of p) (map (λ y. y.0) ys)

  abbrev sound : Known → Bool
  sound y = has_sound_texts y.0

  abbrev sounds_of : List Known → Bool
  sounds_of ys = every (map has_sound_texts (map (λ y. y.0) ys))

  all_so : (ys : List Known) → sounds_of ys ≡ true → all_can (their ys) ≡ true
      → AllForms (their ys)
  all_so [] s c = tt
  all_so (y ∷ ys) s c =
      let h = and_parts (form y).can (all_can (their ys)) c in
      let u = and_parts (sound y) (sounds_of ys) s in
      (y.1 u.0 h.0, all_so ys u.1 h.1)

  lists : (ys : List Known) → sounds_of ys ≡ true → (listed (their ys)).can ≡ true
      → Shaped (listed (their ys)).raw
  lists [] s c = listed_shaped [] tt
  lists (y ∷ []) s c = absurd (cc)
  lists (y ∷ z ∷ ys) s c = listed_shaped (their (y ∷ z ∷ ys)) (all_so (y ∷ z ∷ ys) s c)

  ors : (l : Level) (k : Key) (ys : List Known) → sounds_of ys ≡ true
      → (many l k (their ys)).can ≡ true → Shaped (many l k (their ys)).raw
  ors l k [] s c = absurd (cc)
  ors l k (y ∷ []) s c = absurd (cc)
  ors l k (y ∷ z ∷ ys) s c = many_shaped l k (their (y ∷ z ∷ ys)) (all_so (y ∷ z ∷ ys) s c)

  filter_so : (y : Known) (ys : List Known) → sound y ≡ true → sounds_of ys ≡ true
      → (filtered (form y) (their ys)).can ≡ true → Shaped (filtered (form y) (their ys)).raw
  filter_so y [] s u c = absurd (cc)
  filter_so y (z ∷ ys) s u c =
      let h = and_parts (form y).can (all_can (their (z ∷ ys))) c in
      filtered_shaped (form y) (their (z ∷ ys)) (y.1 s h.0) (all_so (z ∷ ys) u h.1)

  -- two operands
  module _ (y z : Known) (s : (sound y && sound z) ≡ true)
      (c : ((form y).can && (form z).can) ≡ true) where
    first : Shaped (form y).raw
    first = y.1 (and_parts (sound y) (sound z) s).0 (and_parts (form y).can (form z).can c).0

    second : Shaped (form z).raw
    second = z.1 (and_parts (sound y) (sound z) s).1 (and_parts (form y).can (form z).can c).1

    once_so : (l : Level) (k : Key) → Shaped (once l k (form y) (form z)).raw
    once_so l k = once_shaped l k (form y) (form z) first second

    left_so : (l : Level) (k : Key) → Shaped (left l k (form y) (form z)).raw
    left_so l k = left_shaped l k (form y) (form z) first second

  arith_so : (op : ArithOp) (y z : Known) → (sound y && sound z) ≡ true
      → (arithmetic op (form y) (form z)).can ≡ true
      → Shaped (arithmetic op (form y) (form z)).raw
  arith_so arith.Add y z s c = left_so y z s c level.Additive key.Plus
  arith_so arith.Sub y z s c = left_so y z s c level.Additive key.Minus
  arith_so arith.Mul y z s c = left_so y z s c level.Multiplicative key.Star
  arith_so arith.Idiv y z s c = left_so y z s c level.Multiplicative key.IdivWord
  arith_so arith.Mod y z s c = left_so y z s c level.Multiplicative key.ModWord

  type_so : (l : Level) (y : Known) (t : Form) → sound y ≡ true → Shaped t.raw
      → ((form y).can && t.can) ≡ true → Shaped (of_type l (form y) t).raw
  type_so l y t s f c =
      of_type_shaped l (form y) t (y.1 s (and_parts (form y).can t.can c).0) f

  all_arms : (ys : List ((x : Arm) × A (arm_form p x) x))
      → every (map is_sound_arm (map (λ y. y.0) ys)) ≡ true
      → arms_can (map (arm_form p) (map (λ y. y.0) ys)) ≡ true
      → AllArms (map (arm_form p) (map (λ y. y.0) ys))
  all_arms [] s c = tt
  all_arms (y ∷ ys) s c =
      let f = arm_form p y.0 in
      let more : Bool = arms_can (map (arm_form p) (map (λ z. z.0) ys)) in
      let h = and_parts f.test.can (f.first.can && more) c in
      let i = and_parts f.first.can more h.1 in
      let u = and_parts (is_sound_arm y.0) (every (map is_sound_arm (map (λ z. z.0) ys))) s in
      (((y.1 u.0).0 h.0, (y.1 u.0).1 i.0), all_arms ys u.1 i.1)

  all_binds : (ys : List ((x : Bind) × B (bind_form p x) x))
      → every_bound (map bound_of (map (λ y. y.0) ys)) ≡ true
      → binds_can (map (bind_form p) (map (λ y. y.0) ys)) ≡ true
      → AllBinds (map (bind_form p) (map (λ y. y.0) ys))
  all_binds [] s c = tt
  all_binds (y ∷ ys) s c =
      let u = and_parts (bound_of y.0).sound (every_bound (map bound_of (map (λ z. z.0) ys))) s in
      let h = and_parts (bind_can (bind_form p y.0))
      (binds_can (map (bind_form p) (map (λ z. z.0) ys))) c in
      (y.1 u.0 h.0, all_binds ys u.1 h.1)

  all_parts : (ys : List ((x : Part) × T (part_form p x) x))
      → every (map is_sound_part (map (λ y. y.0) ys)) ≡ true
      → AllParts (map (part_form p) (map (λ y. y.0) ys))
  all_parts [] s = tt
  all_parts (y ∷ ys) s =
      let u = and_parts (is_sound_part y.0) (every (map is_sound_part (map (λ z. z.0) ys))) s in
      (y.1 u.0, all_parts ys u.1)

  all_attrs : (ys : List ((x : DirectAttr) × D (attr_form p x) x))
      → every (map is_sound_attr (map (λ y. y.0) ys)) ≡ true
      → AllAttrs (map (attr_form p) (map (λ y. y.0) ys))
  all_attrs [] s = tt
  all_attrs (y ∷ ys) s =
      let u = and_parts (is_sound_attr y.0) (every (map is_sound_attr (map (λ z. z.0) ys))) s in
      (y.1 u.0, all_attrs ys u.1)

  all_clauses : (ys : List ((x : Clause) × C (clause_form p x) x))
      → every (map is_sound_clause (map (λ y. y.0) ys)) ≡ true
      → clauses_can (map (clause_form p) (map (λ y. y.0) ys)) ≡ true
      → AllClauses (map (clause_form p) (map (λ y. y.0) ys))
  all_clauses [] s c = tt
  all_clauses (y ∷ ys) s c =
      let u = and_parts (is_sound_clause y.0)
      (every (map is_sound_clause (map (λ z. z.0) ys))) s in
      let h = and_parts (clause_form p y.0).can
      (clauses_can (map (clause_form p) (map (λ z. z.0) ys))) c in
      (y.1 u.0 h.0, all_clauses ys u.1 h.1)

  all_orders : (ys : List ((x : Order) × O (order_form p x) x))
      → every (map is_sound_order (map (λ y. y.0) ys)) ≡ true
      → orders_can (map (order_form p) (map (λ y. y.0) ys)) ≡ true
      → AllOrders (map (order_form p) (map (λ y. y.0) ys))
  all_orders [] s c = tt
  all_orders (y ∷ ys) s c =
      let u = and_parts (is_sound_order y.0) (every (map is_sound_order (map (λ z. z.0) ys))) s in
      let h = and_parts (order_form p y.0).key.can
      (orders_can (map (order_form p) (map (λ z. z.0) ys))) c in
      (y.1 u.0 h.0, all_orders ys u.1 h.1)

  name_so : (n : (x : NameSource) × N (name_form p x) x) → is_sound_source n.0 ≡ true
      → (may_name (name_form p n.0) ≡ true) → NameShaped (name_form p n.0)
  name_so n s c = go (name_form p n.0) n.1 c
    where
      go : (f : NameForm) → N f n.0 → may_name f ≡ true → NameShaped f
      go (fixed m) h c = tt
      go (computed f) h c = h s c

  abbrev plain : ExprLayer Kept → OpenExpr
  plain y = plain_expr p C E N T A B D F O y

  laid : (y : ExprLayer Kept) → expr_at (plain y) ≡ true → (of_expr p (plain y)).can ≡ true
      → Shaped (of_expr p (plain y)).raw
  laid (Int n) s c =
      loose production.Number refl (leaf (token.Digits n) ∷ []) (leaf_shaped (token.Digits n), tt)
  laid (Str cs) s c = loose production.Literal refl (leaf (token.Quoted cs) ∷ [])
      (leaf_shaped (token.Quoted cs), tt)
  laid Context s c = loose production.Context refl [] tt
  laid Root s c = loose production.Parens refl (node production.Rooted [] ∷ [])
      (loose production.Rooted refl [] tt, tt)
  laid (Comma ys) s c = lists ys s c
  laid (Or ys) s c = ors level.Or key.OrWord ys s c
  laid (And ys) s c = ors level.And key.AndWord ys s c
  laid (General op y z) s c = once_so y z s c level.Comparison (compare_key op)
  laid (Value op y z) s c = once_so y z s c level.Comparison (value_key op)
  laid (Is y z) s c = once_so y z s c level.Comparison key.IsWord
  laid (Before y z) s c = once_so y z s c level.Comparison key.Before
  laid (After y z) s c = once_so y z s c level.Comparison key.After
  laid (Range y z) s c = once_so y z s c level.Range key.ToWord
  laid (Arith op y z) s c = arith_so op y z s c
  laid (Minus y) s c = signed_shaped key.Minus (form y) (y.1 s c)
  laid (Plus y) s c = signed_shaped key.Plus (form y) (y.1 s c)
  laid (Union y z) s c = left_so y z s c level.Union key.UnionWord
  laid (Intersect y z) s c = left_so y z s c level.Intersect key.IntersectWord
  laid (Except y z) s c = left_so y z s c level.Intersect key.ExceptWord
  laid (Filter y ys) s c =
      let u = and_parts (sound y) (sounds_of ys) s in filter_so y ys u.0 u.1 c
  laid (InstanceOf y t) s c =
      let u = and_parts (sound y) (is_sound_type t) s in
      type_so level.InstanceOf y (sequence_form p t) u.0 (sequence_shaped p t) c
  laid (Treat y t) s c =
      let u = and_parts (sound y) (is_sound_type t) s in
      type_so level.Treat y (sequence_form p t) u.0 (sequence_shaped p t) c
  laid (Castable y k b) s c =
      type_so level.Castable y (single_form p k b) s (single_shaped p k b) c
  laid (Cast y k b) s c = type_so level.Cast y (single_form p k b) s (single_shaped p k b) c
  laid (ElemC n y) s c =
      let u = and_parts (is_sound_source n.0) (sound y) s in
      let h = element_parts p (name_form p n.0) (form y) c in
      element_shaped p (name_form p n.0) (form y) (name_so n u.0 h.0) (y.1 u.1 h.1)
  laid (AttrC n y) s c =
      let u = and_parts (is_sound_source n.0) (sound y) s in
      let h = attribute_parts p (name_form p n.0) (form y) c in
      attribute_shaped p (name_form p n.0) (form y) (name_so n u.0 h.0) (y.1 u.1 h.1)
  laid (PiC n y) s c =
      let u = and_parts (is_sound_source n.0) (sound y) s in
      let h = instruction_parts p (name_form p n.0) (form y) c in
      instruction_shaped p (name_form p n.0) (form y) (name_so n u.0 h.0) (y.1 u.1 h.1)
  laid (DocC y) s c = enclosing_shaped key.DocumentWord (form y) (y.1 s c)
  laid (TextC y) s c = enclosing_shaped key.TextWord (form y) (y.1 s c)
  laid (CommentC y) s c = enclosing_shaped key.CommentWord (form y) (y.1 s c)
  laid (If arms y) s c =
      let fs : List ArmForm = map (arm_form p) (map (λ a. a.0) arms) in
      let h = and_parts (has_arms fs) _ c in
      let i = and_parts (arms_can fs) _ h.1 in
      let j = and_parts (form y).can _ i.1 in
      let u = and_parts (every (map is_sound_arm (map (λ a. a.0) arms))) (sound y) s in
      if_shaped fs (form y) (all_arms arms u.0 i.0) (y.1 u.1 j.0)
  laid (Var n) s c = variable_shaped p n
  laid (Call n ys) s c =
      let u = and_parts (is_sound_expr_name n) (sounds_of ys) s in
      call_shaped p n (their ys) (all_so ys u.1 (call_parts p n (their ys) c))
  laid (Step on t ys) s c =
      let u = and_parts (is_sound_test t) (sounds_of ys) s in
      let h = and_parts (test_form p on t).can (all_can (their ys)) c in
      step_shaped p on t (their ys) (all_so ys u.1 h.1)
  laid (Slash y z) s c = slashed_shaped (form y) (form z) (first y z s c) (second y z s c)
  laid (Flwor f) s c = f.1 s c
  laid (Quant q bs y) s c =
      let fs : List BindForm = map (bind_form p) (map (λ b. b.0) bs) in
      let u = and_parts (every_bound (map bound_of (map (λ b. b.0) bs))) (sound y) s in
      let h = and_parts (has_some fs) (binds_can fs && (form y).can) c in
      let i = and_parts (binds_can fs) (form y).can h.1 in
      quantified_shaped q fs (form y) (all_binds bs u.0 i.0) (y.1 u.1 i.1)
  laid (Direct n attrs qs) s c =
      let more : Bool = every (map is_sound_part (map (λ q. q.0) qs)) in
      let u = and_parts (is_sound_name n)
      (every (map is_sound_attr (map (λ a. a.0) attrs)) && more) s in
      let v = and_parts (every (map is_sound_attr (map (λ a. a.0) attrs))) more u.1 in
      direct_shaped p n (map (attr_form p) (map (λ a. a.0) attrs))
      (map (part_form p) (map (λ q. q.0) qs)) (all_attrs attrs v.0) (all_parts qs v.1) c

  one_expr : (y : ExprLayer Kept) → E (of_expr p (plain y)) (roll-Expr (plain y))
  one_expr y = λ s. laid y (sym (expr_rolled (plain y)) ∙ s)

  one_name : (y : NameLayer Kept) → N (of_name p (plain_name p C E N T A B D F O y))
      (roll-NameSource (plain_name p C E N T A B D F O y))
  one_name (Fixed n) = tt
  one_name (Computed y) = λ s. y.1 (sym (name_rolled (Computed y.0)) ∙ s)

  one_part : (y : PartLayer Kept) → T (of_part p (plain_part p C E N T A B D F O y))
      (roll-Part (plain_part p C E N T A B D F O y))
  one_part (Chars cs) = λ s. tt
  one_part (Enclosed y) = λ s. y.1 (sym (part_rolled (Enclosed y.0)) ∙ s)
  one_part (Child y) = λ s. y.1 (sym (part_rolled (Child y.0)) ∙ s)

  one_arm : (y : ArmLayer Kept) → A (of_arm p (plain_arm p C E N T A B D F O y))
      (roll-Arm (plain_arm p C E N T A B D F O y))
  one_arm y = λ s.
      let u = and_parts (sound y.test) (sound y.then)
      (sym (arm_rolled (plain_arm p C E N T A B D F O y)) ∙ s) in
      (y.test.1 u.0, y.then.1 u.1)

  one_bind : (y : BindLayer Kept) → B (of_bind p (plain_bind p C E N T A B D F O y))
      (roll-Bind (plain_bind p C E N T A B D F O y))
  one_bind y = λ s c.
      let f : BindForm = binding p y.var y.kind (form y.source) in
      let u = and_parts (is_sound_expr_name y.var) (is_sound_kind y.kind && sound y.source)
      (sym (ap (λ b. b.sound) (bind_rolled (plain_bind p C E N T A B D F O y))) ∙ s) in
      let v = and_parts (is_sound_kind y.kind) (sound y.source) u.1 in
      let h = and_parts f.name.can (may f.kind && f.source.can) c in
      let i = and_parts (may f.kind) f.source.can h.1 in
      bind_made p y.var y.kind (form y.source) (y.source.1 v.1 i.1)

  one_clause : (y : ClauseLayer Kept) → C (of_clause p (plain_clause p C E N T A B D F O y))
      (roll-Clause (plain_clause p C E N T A B D F O y))
  one_clause (For b o) = λ s c.
      let u = and_parts (bound_of b.0).sound (is_sound_place (bound_of b.0).var o)
      (sym (clause_rolled (For b.0 o)) ∙ s) in
      let h = and_parts (bind_can (bind_form p b.0)) (may (placing p o)) c in
      for_shaped p (bind_form p b.0) o (b.1 u.0 h.0)
  one_clause (Let b) = λ s c.
      let_shaped (bind_form p b.0) (b.1 (sym (clause_rolled (Let b.0)) ∙ s) c)

  one_attr : (y : AttrLayer Kept) → D (of_attr p (plain_attr p C E N T A B D F O y))
      (roll-DirectAttr (plain_attr p C E N T A B D F O y))
  one_attr y = λ s.
      let u = and_parts (is_sound_attribute_name y.name)
      (every (map is_sound_part (map (λ q. q.0) y.parts)))
      (sym (attr_rolled (plain_attr p C E N T A B D F O y)) ∙ s) in
      record { name = u.0; parts = all_parts y.parts u.1 }

  one_order : (y : OrderLayer Kept) → O (of_order p (plain_order p C E N T A B D F O y))
      (roll-Order (plain_order p C E N T A B D F O y))
  one_order y = λ s. y.key.1 (sym (order_rolled (plain_order p C E N T A B D F O y)) ∙ s)

  abbrev made_of : List Kept.Clauses → Option Kept.Exprs → List Kept.Orders → Bool
      → Kept.Exprs → FlworLayer Kept
  made_of clauses test orders stable body = record {
    clauses = clauses;
    test = test;
    orders = orders;
    stable = stable;
    body = body;
  }

  abbrev plainly : FlworLayer Kept → OpenFlwor
  plainly y = plain_flwor p C E N T A B D F O y

  abbrev FlworShaped : FlworLayer Kept → Type 0
  FlworShaped y = flwor_at (plainly y) ≡ true → (of_flwor p (plainly y)).can ≡ true
      → Shaped (of_flwor p (plainly y)).raw

  flwor_shaped : (clauses : List Kept.Clauses) (test : Option Kept.Exprs)
      (orders : List Kept.Orders) (stable : Bool) (body : Kept.Exprs)
      → FlworShaped (made_of clauses test orders stable body)
  flwor_shaped clauses None orders stable body s c =
      let fs : List ClauseForm = map (clause_form p) (map (λ x. x.0) clauses) in
      let os : List OrderForm = map (order_form p) (map (λ o. o.0) orders) in
      let some : Bool = every (map is_sound_clause (map (λ x. x.0) clauses)) in
      let more : Bool = every (map is_sound_order (map (λ o. o.0) orders)) in
      let u = and_parts some (true && (more && sound body)) s in
      let w = and_parts more (sound body) u.1 in
      let h = flowing_parts fs None os stable (form body) c in
      flowing_shaped fs None os stable (form body) (all_clauses clauses u.0 h.0) tt
      (all_orders orders w.0 h.2) (body.1 w.1 h.3)
  flwor_shaped clauses (Some t) orders stable body s c =
      let fs : List ClauseForm = map (clause_form p) (map (λ x. x.0) clauses) in
      let os : List OrderForm = map (order_form p) (map (λ o. o.0) orders) in
      let some : Bool = every (map is_sound_clause (map (λ x. x.0) clauses)) in
      let more : Bool = every (map is_sound_order (map (λ o. o.0) orders)) in
      let u = and_parts some (sound t && (more && sound body)) s in
      let v = and_parts (sound t) (more && sound body) u.1 in
      let w = and_parts more (sound body) v.1 in
      let h = flowing_parts fs (Some (form t)) os stable (form body) c in
      flowing_shaped fs (Some (form t)) os stable (form body) (all_clauses clauses u.0 h.0)
      (t.1 v.0 h.1) (all_orders orders w.0 h.2) (body.1 w.1 h.3)

  one_flwor : (y : FlworLayer Kept) → F (of_flwor p (plainly y)) (roll-Flwor (plainly y))
  one_flwor y = λ s. flwor_shaped y.clauses y.test y.orders y.stable y.body
      (sym (flwor_rolled (plainly y)) ∙ s)

  pub printable_shaped : (e : Expr) → has_sound_texts e ≡ true → (form_of p e).can ≡ true
      → Shaped (form_of p e).raw
  printable_shaped = all_exprs p C E N T A B D F O one_clause one_expr one_name one_part one_arm
      one_bind one_attr one_flwor one_order
