-- The tokens of an expression that can be printed are fit, where its texts are sound.
use Rattle.std.proofs.Common.{◌≡◌, List, [], ◌∷◌, map, Bool, true, ◌&&◌, not}
use Rattle.std.proofs.Common.{sym, ◌∙◌, ap, Option, Some, None}
use Rattle.std.proofs.lemmas.Bool.{and_parts}
use Rattle.xt_names.specs.declared.kinds.ArithOp.{ArithOp}
use Rattle.xt_names.specs.declared.kinds.ArithOp.TheVariants as arith
use Rattle.xt_syntax.specs.declared.exprs.Expr.{Expr}
use Rattle.xt_syntax.specs.declared.exprs.Arm.{Arm}
use Rattle.xt_syntax.specs.declared.exprs.Clause.{Clause}
use Rattle.xt_syntax.specs.declared.exprs.Order.{Order}
use Rattle.xt_syntax.specs.declared.exprs.Flwor.{Flwor as FlworOf}
use Rattle.xt_syntax.specs.declared.exprs.Bind.{Bind}
use Rattle.xt_syntax.specs.declared.exprs.NameSource.{NameSource}
use Rattle.xt_syntax.specs.declared.exprs.DirectAttr.{DirectAttr}
use Rattle.xt_syntax.specs.declared.exprs.Part.{Part}
use Rattle.xt_syntax.specs.declared.prefixes.Prefixes.{Prefixes}
use Rattle.xt_syntax.specs.declared.exprs.Clause.TheViews.{roll-Clause, roll-Expr, roll-NameSource}
use Rattle.xt_syntax.specs.declared.exprs.Clause.TheViews.{roll-Part, roll-Arm, roll-Bind}
use Rattle.xt_syntax.specs.declared.exprs.Clause.TheViews.{roll-DirectAttr, roll-Flwor, roll-Order}
use Rattle.xt_syntax.specs.declared.exprs.Clause.TheOpen.{Int, Str, Context, Root, Comma}
use Rattle.xt_syntax.specs.declared.exprs.Clause.TheOpen.{Or, And, General, Value, Is, Before}
use Rattle.xt_syntax.specs.declared.exprs.Clause.TheOpen.{After, Range, Arith, Minus, Plus, Union}
use Rattle.xt_syntax.specs.declared.exprs.Clause.TheOpen.{Intersect, Except, Filter}
use Rattle.xt_syntax.specs.declared.exprs.Clause.TheOpen.{Var, Call, Step, Slash}
use Rattle.xt_syntax.specs.declared.exprs.Clause.TheOpen.{InstanceOf, Treat, Castable, Cast}
use Rattle.xt_syntax.specs.declared.exprs.Clause.TheOpen.{DocC, TextC, CommentC, If, Flwor, Quant}
use Rattle.xt_syntax.specs.declared.exprs.Clause.TheOpen.{ElemC, AttrC, PiC, Fixed, Computed}
use Rattle.xt_syntax.specs.declared.exprs.Clause.TheOpen.{Direct, Chars, Enclosed, Child, For, Let}
use Rattle.xt_syntax.specs.Layers.{Kinds, ClauseLayer, ExprLayer, NameLayer, PartLayer, ArmLayer}
use Rattle.xt_syntax.specs.Layers.{BindLayer, AttrLayer, FlworLayer, OrderLayer}
use Rattle.expr_keys.specs.declared.keys.Key.{Key}
use Rattle.expr_keys.specs.declared.keys.Key.TheVariants as key
use Rattle.expr_keys.specs.declared.tokens.Token.TheVariants as token
use Rattle.expr_keys.specs.declared.productions.Level.{Level}
use Rattle.expr_keys.specs.declared.productions.Level.TheVariants as level
use Rattle.expr_raws.specs.PathRaws.Forms.{Form, all_can}
use Rattle.expr_raws.specs.ControlRaws.Operators.{compare_key, value_key, arithmetic, ArmForm, arms_can}
use Rattle.expr_raws.specs.ControlRaws.Operators.{has_arms, listed, many}
use Rattle.expr_raws.specs.ControlRaws.Operators.{once, left}
use Rattle.expr_raws.specs.ControlRaws.Types.{sequence_form, single_form, of_type}
use Rattle.expr_raws.specs.ControlRaws.Bindings.{BindForm, ClauseForm, OrderForm}
use Rattle.expr_raws.specs.ElementRaws.Makers.{NameForm}
use Rattle.expr_raws.specs.ElementRaws.Direct.{PartForm, AttrForm}
use Rattle.expr_raws.specs.Raws.{form_of}
use Rattle.xt_names.specs.declared.names.Name.{Name}
use Rattle.expr_raws.proofs.Induction.{OpenExpr, OpenFlwor}
use Rattle.expr_raws.proofs.Induction.{clause_form, name_form, part_form, arm_form, bind_form}
use Rattle.expr_raws.proofs.Induction.{attr_form, order_form, of_clause, of_expr}
use Rattle.expr_raws.proofs.Induction.{of_name, of_part, of_arm, of_bind, of_attr, of_flwor}
use Rattle.expr_raws.proofs.Induction.{of_order, pairs, plain_clause, plain_expr, plain_name}
use Rattle.expr_raws.proofs.Induction.{plain_part, plain_arm, plain_bind, plain_attr}
use Rattle.expr_raws.proofs.Induction.{plain_flwor, plain_order, all_exprs}
use Rattle.xt_forms.specs.Regular.{every}
use Rattle.xt_names.specs.Allowed.{is_empty_text}
use Rattle.std.proofs.Common.{codes}
use Rattle.std.specs.Str.{bytes_eq}
use Rattle.closed_queries.specs.Texts.{is_sound_expr_name, is_sound_name, is_sound_attribute_name}
use Rattle.closed_queries.specs.Texts.{is_sound_test, is_sound_type, is_sound_kind}
use Rattle.closed_queries.specs.ExprTexts.{every_bound, has_sound_texts, is_sound_arm}
use Rattle.closed_queries.specs.ExprTexts.{is_sound_clause, bound_of, is_sound_order}
use Rattle.closed_queries.specs.ExprTexts.{is_sound_source, is_sound_attr, is_sound_part}
use Rattle.closed_queries.specs.ExprTexts.{is_sound_flwor, is_sound_place}
use Rattle.token_laws.specs.FitTokens.Keeps.{are_prefixes}
use Rattle.token_laws.proofs.FitTokens.Fits.{Fits, one_fits, AllFit}
use Rattle.token_laws.proofs.FitTokens.Names.{name_named}
use Rattle.token_laws.proofs.FitTokens.Parts.{quoted_may, variable_fits, name_fits, call_fits, step_fits}
use Rattle.token_laws.proofs.FitTokens.Parts.{sequence_fits, single_fits, filter_fits, slashed_fits}
use Rattle.token_laws.proofs.FitTokens.Parts.{once_fits, left_fits, many_fit, listed_fits, signed_fits}
use Rattle.token_laws.proofs.FitTokens.Parts.{typed_fits, AllArms, conditional_fits}
use Rattle.token_laws.proofs.FitTokens.Bindings.{BindFits, AllBinds, typing_fits, quantified_fits}
use Rattle.token_laws.proofs.FitTokens.Bindings.{for_fits, let_fits, AllClauses, AllOrders, flowing_fits}
use Rattle.token_laws.proofs.FitTokens.Elements.{NameFits, element_fits, attribute_fits, instruction_fits}
use Rattle.token_laws.proofs.FitTokens.Elements.{enclosing_fits, PartFits, AllParts, AttrFits, AllAttrs}
use Rattle.token_laws.proofs.FitTokens.Elements.{direct_fits}
use Rattle.token_laws.proofs.FitTokens.Sounds.{clause_rolled, expr_at, expr_rolled, name_rolled}
use Rattle.token_laws.proofs.FitTokens.Sounds.{part_rolled, arm_rolled, bind_rolled, attr_rolled}
use Rattle.token_laws.proofs.FitTokens.Sounds.{flwor_at, flwor_rolled, order_rolled}

module _ (p : Prefixes) (ps : are_prefixes p.bound ≡ true) where
  abbrev C : ClauseForm → Clause → Type 0
  C f x = is_sound_clause x ≡ true → f.can ≡ true → Fits f.tokens

  abbrev E : Form → Expr → Type 0
  E f x = has_sound_texts x ≡ true → f.can ≡ true → Fits f.tokens

  abbrev N : NameForm → NameSource → Type 0
  N f x = is_sound_source x ≡ true → NameFits f

  abbrev T : PartForm → Part → Type 0
  T f x = is_sound_part x ≡ true → PartFits f

  abbrev A : ArmForm → Arm → Type 0
  A f x = is_sound_arm x ≡ true
      → (f.test.can ≡ true → Fits f.test.tokens) × (f.first.can ≡ true → Fits f.first.tokens)

  abbrev B : BindForm → Bind → Type 0
  B f x = (bound_of x).sound ≡ true → BindFits f

  abbrev D : AttrForm → DirectAttr → Type 0
  D f x = is_sound_attr x ≡ true → AttrFits f

  abbrev F : Form → FlworOf → Type 0
  F f x = is_sound_flwor x ≡ true → f.can ≡ true → Fits f.tokens

  abbrev O : OrderForm → Order → Type 0
  O f x = is_sound_order x ≡ true → f.key.can ≡ true → Fits f.key.tokens

  abbrev Kept : Kinds
  Kept = pairs p C E N T A B D F O

  abbrev Known : Type 0
  Known = (e : Expr) × E (form_of p e) e

  abbrev form : Known → Form
  form y = form_of p y.0

  abbrev their : List Known → List Form
  their ys = map (form_of p) (map (λ y. y.0) ys)

  abbrev sound : Known → Bool
  sound y = has_sound_texts y.0

  abbrev sounds_of : List Known → Bool
  sounds_of ys = every (map has_sound_texts (map (λ y. y.0) ys))

  all_so : (ys : List Known) → sounds_of ys ≡ true → all_can (their ys) ≡ true
      → AllFit (their ys)
  all_so [] s c = tt
  all_so (y ∷ ys) s c =
      let h = and_parts (form y).can (all_can (their ys)) c in
      let u = and_parts (sound y) (sounds_of ys) s in
      (y.1 u.0 h.0, all_so ys u.1 h.1)

  lists : (ys : List Known) → sounds_of ys ≡ true → (listed (their ys)).can ≡ true
      → Fits (listed (their ys)).tokens
  lists [] s c = listed_fits [] tt c
  lists (y ∷ []) s c = absurd (cc)
  lists (y ∷ z ∷ ys) s c = listed_fits (their (y ∷ z ∷ ys)) (all_so (y ∷ z ∷ ys) s c) c

  ors : (l : Level) (k : Key) (ys : List Known) → sounds_of ys ≡ true
      → (many l k (their ys)).can ≡ true → Fits (many l k (their ys)).tokens
  ors l k [] s c = absurd (cc)
  ors l k (y ∷ []) s c = absurd (cc)
  ors l k (y ∷ z ∷ ys) s c =
      many_fit l k (their (y ∷ z ∷ ys)) (all_so (y ∷ z ∷ ys) s c) c

  -- two operands
  module _ (y z : Known) (s : (sound y && sound z) ≡ true)
      (c : ((form y).can && (form z).can) ≡ true) where
    first : Fits (form y).tokens
    first = y.1 (and_parts (sound y) (sound z) s).0 (and_parts (form y).can (form z).can c).0

    second : Fits (form z).tokens
    second = z.1 (and_parts (sound y) (sound z) s).1 (and_parts (form y).can (form z).can c).1

    once_so : (l : Level) (k : Key) → Fits (once l k (form y) (form z)).tokens
    once_so l k = once_fits l k (form y) (form z) first second

    left_so : (l : Level) (k : Key) → Fits (left l k (form y) (form z)).tokens
    left_so l k = left_fits l k (form y) (form z) first second

  arith_so : (op : ArithOp) (y z : Known) → (sound y && sound z) ≡ true
      → (arithmetic op (form y) (form z)).can ≡ true
      → Fits (arithmetic op (form y) (form z)).tokens
  arith_so arith.Add y z s c = left_so y z s c level.Additive key.Plus
  arith_so arith.Sub y z s c = left_so y z s c level.Additive key.Minus
  arith_so arith.Mul y z s c = left_so y z s c level.Multiplicative key.Star
  arith_so arith.Idiv y z s c = left_so y z s c level.Multiplicative key.IdivWord
  arith_so arith.Mod y z s c = left_so y z s c level.Multiplicative key.ModWord

  -- an operand and a type
  type_so : (l : Level) (y : Known) (t : Form) → sound y ≡ true
      → (t.can ≡ true → Fits t.tokens) → ((form y).can && t.can) ≡ true
      → Fits (of_type l (form y) t).tokens
  type_so l y t s f c =
      let h = and_parts (form y).can t.can c in
      typed_fits l (form y) t (y.1 s h.0) (f h.1)

  all_arms : (ys : List ((x : Arm) × A (arm_form p x) x))
      → every (map is_sound_arm (map (λ y. y.0) ys)) ≡ true
      → arms_can (map (arm_form p) (map (λ y. y.0) ys)) ≡ true
      → AllArms (map (arm_form p) (map (λ y. y.0) ys))
  all_arms [] s c = tt
  all_arms (y ∷ ys) s c =
      let f = arm_form p y.0 in
      let more : Bool = arms_can (map (arm_form p) (map (λ z. z.0) ys)) in
      let h = and_parts f.test.can (f.first.can && more) c in
      let i = and_parts f.first.can more h.1 in
      let u = and_parts (is_sound_arm y.0) (every (map is_sound_arm (map (λ z. z.0) ys))) s in
      (((y.1 u.0).0 h.0, (y.1 u.0).1 i.0), all_arms ys u.1 i.1)

  all_binds : (ys : List ((x : Bind) × B (bind_form p x) x))
      → every_bound (map bound_of (map (λ y. y.0) ys)) ≡ true
      → AllBinds (map (bind_form p) (map (λ y. y.0) ys))
  all_binds [] s = tt
  all_binds (y ∷ ys) s =
      let u = and_parts (bound_of y.0).sound (every_bound (map bound_of (map (λ z. z.0) ys))) s in
      (y.1 u.0, all_binds ys u.1)

  all_parts : (ys : List ((x : Part) × T (part_form p x) x))
      → every (map is_sound_part (map (λ y. y.0) ys)) ≡ true
      → AllParts (map (part_form p) (map (λ y. y.0) ys))
  all_parts [] s = tt
  all_parts (y ∷ ys) s =
      let u = and_parts (is_sound_part y.0) (every (map is_sound_part (map (λ z. z.0) ys))) s in
      (y.1 u.0, all_parts ys u.1)

  all_attrs : (ys : List ((x : DirectAttr) × D (attr_form p x) x))
      → every (map is_sound_attr (map (λ y. y.0) ys)) ≡ true
      → AllAttrs (map (attr_form p) (map (λ y. y.0) ys))
  all_attrs [] s = tt
  all_attrs (y ∷ ys) s =
      let u = and_parts (is_sound_attr y.0) (every (map is_sound_attr (map (λ z. z.0) ys))) s in
      (y.1 u.0, all_attrs ys u.1)

  all_clauses : (ys : List ((x : Clause) × C (clause_form p x) x))
      → every (map is_sound_clause (map (λ y. y.0) ys)) ≡ true
      → AllClauses (map (clause_form p) (map (λ y. y.0) ys))
  all_clauses [] s = tt
  all_clauses (y ∷ ys) s =
      let u = and_parts (is_sound_clause y.0)
      (every (map is_sound_clause (map (λ z. z.0) ys))) s in
      (y.1 u.0, all_clauses ys u.1)

  all_orders : (ys : List ((x : Order) × O (order_form p x) x))
      → every (map is_sound_order (map (λ y. y.0) ys)) ≡ true
      → AllOrders (map (order_form p) (map (λ y. y.0) ys))
  all_orders [] s = tt
  all_orders (y ∷ ys) s =
      let u = and_parts (is_sound_order y.0) (every (map is_sound_order (map (λ z. z.0) ys))) s in
      (y.1 u.0, all_orders ys u.1)

  abbrev plain : ExprLayer Kept → OpenExpr
  plain y = plain_expr p C E N T A B D F O y

  laid : (y : ExprLayer Kept) → expr_at (plain y) ≡ true → (of_expr p (plain y)).can ≡ true
      → Fits (of_expr p (plain y)).tokens
  laid (Int n) s c = one_fits (token.Digits n) (λ h. h)
  laid (Str cs) s c = one_fits (token.Quoted cs) (quoted_may cs s)
  laid Context s c = λ rest g h. h g
  laid Root s c = λ rest g h. h g
  laid (Comma ys) s c = lists ys s c
  laid (Or ys) s c = ors level.Or key.OrWord ys s c
  laid (And ys) s c = ors level.And key.AndWord ys s c
  laid (General op y z) s c = once_so y z s c level.Comparison (compare_key op)
  laid (Value op y z) s c = once_so y z s c level.Comparison (value_key op)
  laid (Is y z) s c = once_so y z s c level.Comparison key.IsWord
  laid (Before y z) s c = once_so y z s c level.Comparison key.Before
  laid (After y z) s c = once_so y z s c level.Comparison key.After
  laid (Range y z) s c = once_so y z s c level.Range key.ToWord
  laid (Arith op y z) s c = arith_so op y z s c
  laid (Minus y) s c = signed_fits key.Minus (form y) (y.1 s c)
  laid (Plus y) s c = signed_fits key.Plus (form y) (y.1 s c)
  laid (Union y z) s c = left_so y z s c level.Union key.UnionWord
  laid (Intersect y z) s c = left_so y z s c level.Intersect key.IntersectWord
  laid (Except y z) s c = left_so y z s c level.Intersect key.ExceptWord
  laid (Filter y ys) s c =
      let u = and_parts (sound y) (sounds_of ys) s in
      filter_fits (form y) (their ys) (y.1 u.0) (all_so ys u.1) c
  laid (InstanceOf y t) s c =
      let u = and_parts (sound y) (is_sound_type t) s in
      type_so level.InstanceOf y (sequence_form p t) u.0 (sequence_fits p ps t u.1) c
  laid (Treat y t) s c =
      let u = and_parts (sound y) (is_sound_type t) s in
      type_so level.Treat y (sequence_form p t) u.0 (sequence_fits p ps t u.1) c
  laid (Castable y k b) s c =
      type_so level.Castable y (single_form p k b) s (single_fits p ps k b) c
  laid (Cast y k b) s c = type_so level.Cast y (single_form p k b) s (single_fits p ps k b) c
  laid (ElemC n y) s c =
      let u = and_parts (is_sound_source n.0) (sound y) s in
      element_fits p (name_form p n.0) (form y) (n.1 u.0) (y.1 u.1) c
  laid (AttrC n y) s c =
      let u = and_parts (is_sound_source n.0) (sound y) s in
      attribute_fits p (name_form p n.0) (form y) (n.1 u.0) (y.1 u.1) c
  laid (PiC n y) s c =
      let u = and_parts (is_sound_source n.0) (sound y) s in
      instruction_fits p (name_form p n.0) (form y) (n.1 u.0) (y.1 u.1) c
  laid (DocC y) s c = enclosing_fits key.DocumentWord (form y) (y.1 s c)
  laid (TextC y) s c = enclosing_fits key.TextWord (form y) (y.1 s c)
  laid (CommentC y) s c = enclosing_fits key.CommentWord (form y) (y.1 s c)
  laid (If arms y) s c =
      let fs : List ArmForm = map (arm_form p) (map (λ a. a.0) arms) in
      let h = and_parts (has_arms fs) _ c in
      let i = and_parts (arms_can fs) _ h.1 in
      let j = and_parts (form y).can _ i.1 in
      let u = and_parts (every (map is_sound_arm (map (λ a. a.0) arms))) (sound y) s in
      conditional_fits fs (form y) (all_arms arms u.0 i.0) (y.1 u.1 j.0)
  laid (Var n) s c = variable_fits p ps n s c
  laid (Call n ys) s c =
      let u = and_parts (is_sound_expr_name n) (sounds_of ys) s in
      call_fits p ps n (their ys) u.0 (all_so ys u.1) c
  laid (Step on t ys) s c =
      let u = and_parts (is_sound_test t) (sounds_of ys) s in
      step_fits p ps on t (their ys) u.0 (all_so ys u.1) c
  laid (Slash y z) s c = slashed_fits (form y) (form z) (first y z s c) (second y z s c)
  laid (Flwor f) s c = f.1 s c
  laid (Quant q bs y) s c =
      let u = and_parts (every_bound (map bound_of (map (λ b. b.0) bs))) (sound y) s in
      quantified_fits q (map (bind_form p) (map (λ b. b.0) bs)) (form y) (all_binds bs u.0)
      (y.1 u.1) c
  laid (Direct n attrs qs) s c =
      let more : Bool = every (map is_sound_part (map (λ q. q.0) qs)) in
      let u = and_parts (is_sound_name n)
      (every (map is_sound_attr (map (λ a. a.0) attrs)) && more) s in
      let v = and_parts (every (map is_sound_attr (map (λ a. a.0) attrs))) more u.1 in
      direct_fits p n (name_named n u.0) (map (attr_form p) (map (λ a. a.0) attrs))
      (map (part_form p) (map (λ q. q.0) qs)) (all_attrs attrs v.0) (all_parts qs v.1) c

  one_expr : (y : ExprLayer Kept) → E (of_expr p (plain y)) (roll-Expr (plain y))
  one_expr y = λ s. laid y (sym (expr_rolled (plain y)) ∙ s)

  one_name : (y : NameLayer Kept) → N (of_name p (plain_name p C E N T A B D F O y))
      (roll-NameSource (plain_name p C E N T A B D F O y))
  one_name (Fixed n) = λ s. sym (name_rolled (Fixed n)) ∙ s
  one_name (Computed y) = λ s. y.1 (sym (name_rolled (Computed y.0)) ∙ s)

  one_part : (y : PartLayer Kept) → T (of_part p (plain_part p C E N T A B D F O y))
      (roll-Part (plain_part p C E N T A B D F O y))
  one_part (Chars cs) = λ s. tt
  one_part (Enclosed y) = λ s. y.1 (sym (part_rolled (Enclosed y.0)) ∙ s)
  one_part (Child y) = λ s. y.1 (sym (part_rolled (Child y.0)) ∙ s)

  one_arm : (y : ArmLayer Kept) → A (of_arm p (plain_arm p C E N T A B D F O y))
      (roll-Arm (plain_arm p C E N T A B D F O y))
  one_arm y = λ s.
      let u = and_parts (sound y.test) (sound y.then)
      (sym (arm_rolled (plain_arm p C E N T A B D F O y)) ∙ s) in
      (y.test.1 u.0, y.then.1 u.1)

  one_bind : (y : BindLayer Kept) → B (of_bind p (plain_bind p C E N T A B D F O y))
      (roll-Bind (plain_bind p C E N T A B D F O y))
  one_bind y = λ s.
      let u = and_parts (is_sound_expr_name y.var) (is_sound_kind y.kind && sound y.source)
      (sym (ap (λ b. b.sound) (bind_rolled (plain_bind p C E N T A B D F O y))) ∙ s) in
      let v = and_parts (is_sound_kind y.kind) (sound y.source) u.1 in
      record {
        name = name_fits p ps y.var u.0;
        kind = typing_fits p ps y.kind v.0;
        source = y.source.1 v.1;
      }

  one_clause : (y : ClauseLayer Kept) → C (of_clause p (plain_clause p C E N T A B D F O y))
      (roll-Clause (plain_clause p C E N T A B D F O y))
  one_clause (For b o) = λ s.
      let u = and_parts (bound_of b.0).sound (is_sound_place (bound_of b.0).var o)
      (sym (clause_rolled (For b.0 o)) ∙ s) in
      for_fits p ps (bind_form p b.0) (bound_of b.0).var o u.1 (b.1 u.0)
  one_clause (Let b) = λ s. let_fits (bind_form p b.0) (b.1 (sym (clause_rolled (Let b.0)) ∙ s))

  attribute_named : (n : Name) → is_sound_attribute_name n ≡ true → is_sound_name n ≡ true
  unfolding is_sound_attribute_name
  attribute_named n s = (and_parts (is_sound_name n)
      (not (is_empty_text n.uri && bytes_eq n.local (codes "xmlns"))) s).0

  one_attr : (y : AttrLayer Kept) → D (of_attr p (plain_attr p C E N T A B D F O y))
      (roll-DirectAttr (plain_attr p C E N T A B D F O y))
  one_attr y = λ s.
      let u = and_parts (is_sound_attribute_name y.name)
      (every (map is_sound_part (map (λ q. q.0) y.parts)))
      (sym (attr_rolled (plain_attr p C E N T A B D F O y)) ∙ s) in
      record {
        name = name_named y.name (attribute_named y.name u.0);
        parts = all_parts y.parts u.1;
      }

  one_order : (y : OrderLayer Kept) → O (of_order p (plain_order p C E N T A B D F O y))
      (roll-Order (plain_order p C E N T A B D F O y))
  one_order y = λ s. y.key.1 (sym (order_rolled (plain_order p C E N T A B D F O y)) ∙ s)

  abbrev made_of : List Kept.Clauses → Option Kept.Exprs → List Kept.Orders → Bool
      → Kept.Exprs → FlworLayer Kept
  made_of clauses test orders stable body = record {
    clauses = clauses;
    test = test;
    orders = orders;
    stable = stable;
    body = body;
  }

  abbrev plainly : FlworLayer Kept → OpenFlwor
  plainly y = plain_flwor p C E N T A B D F O y

  abbrev FlworFits : FlworLayer Kept → Type 0
  FlworFits y = flwor_at (plainly y) ≡ true → (of_flwor p (plainly y)).can ≡ true
      → Fits (of_flwor p (plainly y)).tokens

  flwor_fits : (clauses : List Kept.Clauses) (test : Option Kept.Exprs)
      (orders : List Kept.Orders) (stable : Bool) (body : Kept.Exprs)
      → FlworFits (made_of clauses test orders stable body)
  flwor_fits clauses None orders stable body s c =
      let some : Bool = every (map is_sound_clause (map (λ x. x.0) clauses)) in
      let more : Bool = every (map is_sound_order (map (λ o. o.0) orders)) in
      let u = and_parts some (true && (more && sound body)) s in
      let w = and_parts more (sound body) u.1 in
      flowing_fits (map (clause_form p) (map (λ x. x.0) clauses)) None
      (map (order_form p) (map (λ o. o.0) orders)) stable (form body)
      (all_clauses clauses u.0) (λ h. tt) (all_orders orders w.0) (body.1 w.1) c
  flwor_fits clauses (Some t) orders stable body s c =
      let some : Bool = every (map is_sound_clause (map (λ x. x.0) clauses)) in
      let more : Bool = every (map is_sound_order (map (λ o. o.0) orders)) in
      let u = and_parts some (sound t && (more && sound body)) s in
      let v = and_parts (sound t) (more && sound body) u.1 in
      let w = and_parts more (sound body) v.1 in
      flowing_fits (map (clause_form p) (map (λ x. x.0) clauses)) (Some (form t))
      (map (order_form p) (map (λ o. o.0) orders)) stable (form body) (all_clauses clauses u.0)
      (t.1 v.0) (all_orders orders w.0) (body.1 w.1) c

  one_flwor : (y : FlworLayer Kept) → F (of_flwor p (plainly y)) (roll-Flwor (plainly y))
  one_flwor y = λ s. flwor_fits y.clauses y.test y.orders y.stable y.body
      (sym (flwor_rolled (plainly y)) ∙ s)

  pub printable_fits : (e : Expr) → has_sound_texts e ≡ true → (form_of p e).can ≡ true
      → Fits (form_of p e).tokens
  printable_fits = all_exprs p C E N T A B D F O one_clause one_expr one_name one_part one_arm
      one_bind one_attr one_flwor one_order
