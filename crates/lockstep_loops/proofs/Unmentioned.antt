-- What an expression does depends on the variables alone that it mentions.
use Rattle.std.proofs.Common.{◌≡◌, List, [], ◌∷◌, refl, map, sym, ap, ◌∙◌}
use Rattle.std.specs.Prelude.{ℕ, Bool, true, false, ◌||◌, Option, Some, None}
use Rattle.xt_atoms.specs.declared.atoms.Atom.TheVariants as atom
use Rattle.xdm_items.specs.declared.items.Item.{Item}
use Rattle.xdm_items.specs.declared.items.Item.TheVariants.{Atom}
use Rattle.expr_meaning.specs.Values.{binary}
use Rattle.xt_names.specs.declared.codes.Code.{Code}
use Rattle.expr_laws.specs.Carrier.{KeepsBoth}
use Rattle.std.specs.Prelude.{Result}
use Rattle.xt_syntax.specs.declared.exprs.Expr.{Expr}
use Rattle.xt_syntax.specs.declared.exprs.Arm.{Arm}
use Rattle.xt_syntax.specs.declared.exprs.Clause.{Clause}
use Rattle.xt_syntax.specs.declared.exprs.Order.{Order}
use Rattle.xt_syntax.specs.declared.exprs.Flwor.{Flwor as FlworOf}
use Rattle.xt_syntax.specs.declared.exprs.Bind.{Bind}
use Rattle.xt_syntax.specs.declared.exprs.NameSource.{NameSource}
use Rattle.xt_syntax.specs.declared.exprs.DirectAttr.{DirectAttr}
use Rattle.xt_syntax.specs.declared.exprs.Part.{Part}
use Rattle.xt_syntax.specs.declared.exprs.Clause.TheOpen.{Int, Str, Var, Context, Root, Comma, Or}
use Rattle.xt_syntax.specs.declared.exprs.Clause.TheOpen.{And, If, Flwor, Quant, General, Value}
use Rattle.xt_syntax.specs.declared.exprs.Clause.TheOpen.{Is}
use Rattle.xt_syntax.specs.declared.exprs.Clause.TheOpen.{Before, After, Range, Arith, Minus}
use Rattle.xt_syntax.specs.declared.exprs.Clause.TheOpen.{Plus}
use Rattle.xt_syntax.specs.declared.exprs.Clause.TheOpen.{Union, Intersect, Except, InstanceOf}
use Rattle.xt_syntax.specs.declared.exprs.Clause.TheOpen.{Treat, Castable, Cast, Slash, Step}
use Rattle.xt_syntax.specs.declared.exprs.Clause.TheOpen.{Filter, Call, ElemC, AttrC, DocC, TextC}
use Rattle.xt_syntax.specs.declared.exprs.Clause.TheOpen.{CommentC, PiC, Direct, For, Let, Fixed}
use Rattle.xt_syntax.specs.declared.exprs.Clause.TheOpen.{Computed, Chars, Enclosed, Child}
use Rattle.xt_syntax.specs.declared.exprs.Clause.TheViews.{roll-Expr, roll-Arm, roll-Clause}
use Rattle.xt_syntax.specs.declared.exprs.Clause.TheViews.{roll-Order}
use Rattle.xt_syntax.specs.declared.exprs.Clause.TheViews.{roll-Flwor, roll-Bind, roll-NameSource}
use Rattle.xt_syntax.specs.declared.exprs.Clause.TheViews.{roll-DirectAttr, roll-Part}
use Rattle.xt_syntax.specs.declared.exprs.Clause.TheFolds.{ind-Expr}
use Rattle.xt_syntax.specs.declared.exprs.Clause.TheFolds.{map-Expr, map-Arm, map-Clause}
use Rattle.xt_syntax.specs.declared.exprs.Clause.TheFolds.{map-Order}
use Rattle.xt_syntax.specs.declared.exprs.Clause.TheFolds.{map-Flwor, map-Bind, map-NameSource}
use Rattle.xt_syntax.specs.declared.exprs.Clause.TheFolds.{map-DirectAttr, map-Part}
use Rattle.xt_syntax.specs.Layers.{Kinds, ExprLayer, ClauseLayer, NameLayer, PartLayer}
use Rattle.xt_syntax.specs.Layers.{ArmLayer, BindLayer, AttrLayer, FlworLayer, OrderLayer}
use Rattle.xt_syntax.specs.Layers.{clause_gives, name_gives, part_gives, arm_gives}
use Rattle.xt_syntax.specs.Layers.{bind_gives, attr_gives, flwor_gives, order_gives}
use Rattle.operator_values.specs.Comparisons.{general_value, single_value}
use Rattle.operator_values.specs.Nodes.{is_value, before_value, after_value, union_value}
use Rattle.operator_values.specs.Nodes.{intersect_value, except_value}
use Rattle.operator_values.specs.Numbers.{arithmetic_value, range_value, negated_value}
use Rattle.operator_values.specs.Numbers.{signed_value}
use Rattle.operator_values.specs.Types.{instance_value, treated_value, cast_value, castable_value}
use Rattle.expr_meaning.specs.Env.{Program, Env}
use Rattle.expr_meaning.specs.Meaning.{meanings}
use Rattle.expr_meaning.specs.Meaning.{steps, outcome}
use Rattle.expr_laws.specs.Carrier.{Carrier, Meet, AllMeet}
use Rattle.expr_laws.proofs.Logic.{ArmsMeet, BoundMeet, AllBoundMeet, or_meets, and_meets}
use Rattle.expr_laws.proofs.Logic.{choice_meets, quantifier_meets}
use Rattle.expr_laws.proofs.Values.{just_meets, variable_meets, context_meets, comma_meets}
use Rattle.expr_laws.proofs.Values.{unary_meets, binary_meets}
use Rattle.expr_laws.proofs.Paths.{root_meets, filter_meets, step_meets, slash_meets}
use Rattle.expr_laws.proofs.Flow.{ClauseMeets, ClausesMeet, OrdersMeet, for_meets, at_meets}
use Rattle.expr_laws.proofs.Flow.{let_meets, flwor_meets}
use Rattle.expr_laws.proofs.Making.{NameMeets, PartMeets, PartsMeet, AttributeMeets, AttributesMeet}
use Rattle.expr_laws.proofs.Making.{document_meets, comment_meets, text_meets, pi_meets}
use Rattle.expr_laws.proofs.Making.{direct_meets, element_meets, attribute_meets}
use Rattle.expr_laws.proofs.Rolled.{means, rolled, rolled_arm, rolled_bind, rolled_order}
use Rattle.expr_laws.proofs.Rolled.{rolled_attr, flwor_value, rolled_flwor, clause_value}
use Rattle.expr_laws.proofs.Rolled.{rolled_clause, name_value, rolled_name, part_value}
use Rattle.expr_laws.proofs.Rolled.{rolled_part}
use Rattle.expr_laws.proofs.Texts.{ExprForm, ArmForm, BindForm, OrderForm, AttrForm}
use Rattle.expr_laws.proofs.Texts.{FlworForm, ClauseForm, NameForm, PartForm}
use Rattle.xt_names.specs.declared.names.ExprName.{ExprName}
use Rattle.translated_forms.specs.Mentions.{truths, mention_steps, mentions, in_clause, in_order}
use Rattle.translated_forms.specs.Mentions.{some, place_is}
use Rattle.lockstep_loops.specs.Beside.{Beside}
use Rattle.lockstep_loops.proofs.Apart.{apart, apart_focus, apart_made, apart_agree, apart_call}
use Rattle.lockstep_loops.proofs.MentionsRolled.{expr_mentioned, clause_mentioned, name_mentioned}
use Rattle.lockstep_loops.proofs.MentionsRolled.{part_mentioned, flwor_mentioned, expr_rolled}
use Rattle.lockstep_loops.proofs.MentionsRolled.{clause_rolled, name_rolled, part_rolled, arm_rolled}
use Rattle.lockstep_loops.proofs.MentionsRolled.{bind_rolled, attr_rolled, flwor_rolled, order_rolled}
use Rattle.xt_names.specs.ExprNames.{same_name}

abbrev in_name : ExprName → NameSource → Bool
in_name v = name_gives truths (mention_steps v)

abbrev in_part : ExprName → Part → Bool
in_part v = part_gives truths (mention_steps v)

abbrev in_arm : ExprName → Arm → Bool
in_arm v = arm_gives truths (mention_steps v)

abbrev in_bind : ExprName → Bind → Bool
in_bind v = bind_gives truths (mention_steps v)

abbrev in_attr : ExprName → DirectAttr → Bool
in_attr v = attr_gives truths (mention_steps v)

abbrev in_flwor : ExprName → FlworOf → Bool
in_flwor v = flwor_gives truths (mention_steps v)

pub no_first : (a b : Bool) → (a || b) ≡ false → a ≡ false
no_first true b h = absurd cc
no_first false b h = refl

pub no_second : (a b : Bool) → (a || b) ≡ false → b ≡ false
no_second true b h = absurd cc
no_second false b h = h

module _ (v : ExprName) (q : Program) where
  abbrev c : Carrier
  c = apart v

  -- what is asked: that nothing mentions the variable
  abbrev Asked : Bool → Type 0
  Asked b = b ≡ false

  first : (a b : Bool) → Asked (a || b) → Asked a
  first a b h = no_first a b h

  second : (a b : Bool) → Asked (a || b) → Asked b
  second a b h = no_second a b h

  abbrev ExprMeets : Expr → Type 0
  ExprMeets e = Asked (mentions v e) → (sight : c.Sight) →
      Meet c sight (outcome q e) (outcome q e)

  abbrev ClauseOf : Clause → Type 0
  ClauseOf x = Asked (in_clause v x) → (sight : c.Sight) → ClauseMeets c sight (clause_gives meanings (steps q) x)
      (clause_gives meanings (steps q) x)

  abbrev NameOf : NameSource → Type 0
  NameOf x = Asked (in_name v x) → (sight : c.Sight) →
      NameMeets c sight (name_gives meanings (steps q) x) (name_gives meanings (steps q) x)

  abbrev PartOf : Part → Type 0
  PartOf x = Asked (in_part v x) → (sight : c.Sight) →
      PartMeets c sight (part_gives meanings (steps q) x) (part_gives meanings (steps q) x)

  abbrev ArmOf : Arm → Type 0
  ArmOf x = Asked (in_arm v x) → (sight : c.Sight) →
      Meet c sight (arm_gives meanings (steps q) x).0 (arm_gives meanings (steps q) x).0
      × Meet c sight (arm_gives meanings (steps q) x).1 (arm_gives meanings (steps q) x).1

  abbrev BindOf : Bind → Type 0
  BindOf x = Asked (in_bind v x) → (sight : c.Sight) →
      BoundMeet c sight (bind_gives meanings (steps q) x) (bind_gives meanings (steps q) x)

  abbrev AttrOf : DirectAttr → Type 0
  AttrOf x = Asked (in_attr v x) → (sight : c.Sight) →
      AttributeMeets c sight (attr_gives meanings (steps q) x) (attr_gives meanings (steps q) x)

  abbrev FlworMeets : FlworOf → Type 0
  FlworMeets x = Asked (in_flwor v x) → (sight : c.Sight) →
      Meet c sight (flwor_gives meanings (steps q) x) (flwor_gives meanings (steps q) x)

  abbrev OrderOf : Order → Type 0
  OrderOf x = Asked (in_order v x) → (sight : c.Sight) →
      Meet c sight (order_gives meanings (steps q) x).0 (order_gives meanings (steps q) x).0
      × ((order_gives meanings (steps q) x).1 ≡ (order_gives meanings (steps q) x).1)

  -- parts, each with what is known of it
  abbrev known : Kinds
  known = record {
    Clauses = (x : Clause) × ClauseOf x;
    Exprs = (x : Expr) × ExprMeets x;
    Names = (x : NameSource) × NameOf x;
    Parts = (x : Part) × PartOf x;
    Arms = (x : Arm) × ArmOf x;
    Binds = (x : Bind) × BindOf x;
    Attrs = (x : DirectAttr) × AttrOf x;
    Flwors = (x : FlworOf) × FlworMeets x;
    Orders = (x : Order) × OrderOf x;
  }

  -- lists of parts
  all_meet : (ys : List known.Exprs) →
      Asked (some (map (mentions v) (map (λ y. y.0) ys))) → (sight : c.Sight) →
      AllMeet c sight (map (outcome q) (map (λ y. y.0) ys)) (map (outcome q) (map (λ y. y.0) ys))
  all_meet [] h sight = tt
  all_meet (y ∷ ys) h sight =
      let a = mentions v y.0 in let b = some (map (mentions v) (map (λ y. y.0) ys)) in
      (y.1 (first a b h) sight, all_meet ys (second a b h) sight)

  arms_meet : (ys : List known.Arms) →
      Asked (some (map (in_arm v) (map (λ y. y.0) ys))) → (sight : c.Sight) →
      ArmsMeet c sight (map (arm_gives meanings (steps q)) (map (λ y. y.0) ys))
      (map (arm_gives meanings (steps q)) (map (λ y. y.0) ys))
  arms_meet [] h sight = tt
  arms_meet (y ∷ ys) h sight =
      let a = in_arm v y.0 in let b = some (map (in_arm v) (map (λ y. y.0) ys)) in
      (y.1 (first a b h) sight, arms_meet ys (second a b h) sight)

  binds_meet : (ys : List known.Binds) →
      Asked (some (map (in_bind v) (map (λ y. y.0) ys))) → (sight : c.Sight) →
      AllBoundMeet c sight (map (bind_gives meanings (steps q)) (map (λ y. y.0) ys))
      (map (bind_gives meanings (steps q)) (map (λ y. y.0) ys))
  binds_meet [] h sight = tt
  binds_meet (y ∷ ys) h sight =
      let a = in_bind v y.0 in let b = some (map (in_bind v) (map (λ y. y.0) ys)) in
      (y.1 (first a b h) sight, binds_meet ys (second a b h) sight)

  clauses_meet : (ys : List known.Clauses) →
      Asked (some (map (in_clause v) (map (λ y. y.0) ys))) → (sight : c.Sight) →
      ClausesMeet c sight (map (clause_gives meanings (steps q)) (map (λ y. y.0) ys))
      (map (clause_gives meanings (steps q)) (map (λ y. y.0) ys))
  clauses_meet [] h sight = tt
  clauses_meet (y ∷ ys) h sight =
      let a = in_clause v y.0 in let b = some (map (in_clause v) (map (λ y. y.0) ys)) in
      (y.1 (first a b h) sight, clauses_meet ys (second a b h) sight)

  orders_meet : (ys : List known.Orders) →
      Asked (some (map (in_order v) (map (λ y. y.0) ys))) → (sight : c.Sight) →
      OrdersMeet c sight (map (order_gives meanings (steps q)) (map (λ y. y.0) ys))
      (map (order_gives meanings (steps q)) (map (λ y. y.0) ys))
  orders_meet [] h sight = tt
  orders_meet (y ∷ ys) h sight =
      let a = in_order v y.0 in let b = some (map (in_order v) (map (λ y. y.0) ys)) in
      (y.1 (first a b h) sight, orders_meet ys (second a b h) sight)

  parts_meet : (ys : List known.Parts) →
      Asked (some (map (in_part v) (map (λ y. y.0) ys))) → (sight : c.Sight) →
      PartsMeet c sight (map (part_gives meanings (steps q)) (map (λ y. y.0) ys))
      (map (part_gives meanings (steps q)) (map (λ y. y.0) ys))
  parts_meet [] h sight = tt
  parts_meet (y ∷ ys) h sight =
      let a = in_part v y.0 in let b = some (map (in_part v) (map (λ y. y.0) ys)) in
      (y.1 (first a b h) sight, parts_meet ys (second a b h) sight)

  attrs_meet : (ys : List known.Attrs) →
      Asked (some (map (in_attr v) (map (λ y. y.0) ys))) → (sight : c.Sight) →
      AttributesMeet c sight (map (attr_gives meanings (steps q)) (map (λ y. y.0) ys))
      (map (attr_gives meanings (steps q)) (map (λ y. y.0) ys))
  attrs_meet [] h sight = tt
  attrs_meet (y ∷ ys) h sight =
      let a = in_attr v y.0 in let b = some (map (in_attr v) (map (λ y. y.0) ys)) in
      (y.1 (first a b h) sight, attrs_meet ys (second a b h) sight)

  abbrev plain : ExprLayer known → ExprForm
  plain = map-Expr known.Clauses known.Exprs known.Names known.Parts known.Arms known.Binds known.Attrs known.Flwors known.Orders
      Clause Expr NameSource Part Arm Bind DirectAttr FlworOf Order
      (λ y. y.0) (λ y. y.0) (λ y. y.0) (λ y. y.0) (λ y. y.0) (λ y. y.0) (λ y. y.0) (λ y. y.0)
      (λ y. y.0)

  abbrev all_of : List known.Exprs → Bool
  all_of ys = some (map (mentions v) (map (λ y. y.0) ys))

  -- an operator on two values
  operands_meet : (value : List Item → List Item → Result (List Item) Code) →
      KeepsBoth c.good value → (a b : known.Exprs) →
      Asked (mentions v a.0 || mentions v b.0) → (sight : c.Sight) →
      Meet c sight (binary value (outcome q a.0) (outcome q b.0))
      (binary value (outcome q a.0) (outcome q b.0))
  operands_meet value w a b h sight =
      let t = mentions v a.0 in let u = mentions v b.0 in
      binary_meets c sight value w _ _ _ _ (a.1 (first t u h) sight) (b.1 (second t u h) sight)

  form_meets : (y : ExprLayer known) → Asked (expr_mentioned v (plain y)) → (sight : c.Sight) →
      Meet c sight (means q (plain y)) (means q (plain y))
  form_meets (Int n) h sight = just_meets c sight (Atom (atom.Int n) ∷ []) (tt, tt)
  form_meets (Str t) h sight = just_meets c sight (Atom (atom.Str t) ∷ []) (tt, tt)
  form_meets (Var name) h sight = variable_meets c sight q q (apart_agree v q).meet name h
  form_meets Context h sight = context_meets c sight (apart_focus v sight)
  form_meets Root h sight = root_meets c sight (apart_focus v sight)
  form_meets (Comma all) h sight = comma_meets c sight _ _ (all_meet all h sight)
  form_meets (Or all) h sight = or_meets c sight _ _ (all_meet all h sight)
  form_meets (And all) h sight = and_meets c sight _ _ (all_meet all h sight)
  form_meets (If arms other) h sight =
      let a = some (map (in_arm v) (map (λ y. y.0) arms)) in let b = mentions v other.0 in
      choice_meets c sight _ _ (arms_meet arms (first a b h) sight) _ _
      (other.1 (second a b h) sight)
  form_meets (Flwor f) h sight = f.1 h sight
  form_meets (Quant every_one binds test) h sight =
      let a = some (map (in_bind v) (map (λ y. y.0) binds)) in
      let b = mentions v test.0 in
      quantifier_meets c sight every_one _ _ (binds_meet binds (first a b h) sight) _ _
      (test.1 (second a b h) sight)
  form_meets (General op a b) h sight = operands_meet (general_value op) (c.kept.general op) a b h sight
  form_meets (Value op a b) h sight = operands_meet (single_value op) (c.kept.single op) a b h sight
  form_meets (Is a b) h sight = operands_meet is_value c.kept.is a b h sight
  form_meets (Before a b) h sight = operands_meet before_value c.kept.before a b h sight
  form_meets (After a b) h sight = operands_meet after_value c.kept.after a b h sight
  form_meets (Range a b) h sight = operands_meet range_value c.kept.range a b h sight
  form_meets (Arith op a b) h sight = operands_meet (arithmetic_value op) (c.kept.arithmetic op) a b h sight
  form_meets (Minus a) h sight = unary_meets c sight negated_value c.kept.negated _ _ (a.1 h sight)
  form_meets (Plus a) h sight = unary_meets c sight signed_value c.kept.signed _ _ (a.1 h sight)
  form_meets (Union a b) h sight = operands_meet union_value c.kept.union a b h sight
  form_meets (Intersect a b) h sight = operands_meet intersect_value c.kept.intersect a b h sight
  form_meets (Except a b) h sight = operands_meet except_value c.kept.except a b h sight
  form_meets (InstanceOf a kind) h sight =
      unary_meets c sight (instance_value kind) (c.kept.instance kind) _ _ (a.1 h sight)
  form_meets (Treat a kind) h sight =
      unary_meets c sight (treated_value kind) (c.kept.treated kind) _ _ (a.1 h sight)
  form_meets (Castable a kind empty) h sight =
      unary_meets c sight (castable_value kind empty) (c.kept.castable kind empty) _ _ (a.1 h sight)
  form_meets (Cast a kind empty) h sight =
      unary_meets c sight (cast_value kind empty) (c.kept.cast kind empty) _ _ (a.1 h sight)
  form_meets (Slash a b) h sight =
      let t = mentions v a.0 in let u = mentions v b.0 in
      slash_meets c sight _ _ _ _ (a.1 (first t u h) sight) (b.1 (second t u h) c.inner)
  form_meets (Step axis wanted tests) h sight =
      step_meets c sight (apart_focus v sight) axis wanted _ _ (all_meet tests h c.inner)
  form_meets (Filter of tests) h sight =
      let t = mentions v of.0 in let u = all_of tests in
      filter_meets c sight _ _ (of.1 (first t u h) sight) _ _ (all_meet tests (second t u h) c.inner)
  form_meets (Call name args) h sight =
      apart_call v q name sight _ _ (all_meet args h sight)
  form_meets (ElemC name content) h sight =
      let t = (in_name v) name.0 in let u = mentions v content.0 in
      element_meets c sight (apart_made v) q q (apart_agree v q) _ _ (name.1 (first t u h) sight) _ _
      (content.1 (second t u h) sight)
  form_meets (AttrC name content) h sight =
      let t = (in_name v) name.0 in let u = mentions v content.0 in
      attribute_meets c sight (apart_made v) q q (apart_agree v q) _ _ (name.1 (first t u h) sight) _ _
      (content.1 (second t u h) sight)
  form_meets (DocC content) h sight = document_meets c sight (apart_made v) _ _ (content.1 h sight)
  form_meets (TextC content) h sight = text_meets c sight (apart_made v) _ _ (content.1 h sight)
  form_meets (CommentC content) h sight = comment_meets c sight (apart_made v) _ _ (content.1 h sight)
  form_meets (PiC name content) h sight =
      let t = (in_name v) name.0 in let u = mentions v content.0 in
      pi_meets c sight (apart_made v) _ _ (name.1 (first t u h) sight) _ _ (content.1 (second t u h) sight)
  form_meets (Direct name attrs parts) h sight =
      let t = some (map (in_attr v) (map (λ y. y.0) attrs)) in
      let u = some (map (in_part v) (map (λ y. y.0) parts)) in
      direct_meets c sight (apart_made v) name (λ s. absurd s) _ _
      (attrs_meet attrs (first t u h) sight) _ _ (parts_meet parts (second t u h) sight)

  expr_step : (x : ExprForm) (y : ExprLayer known) → plain y ≡ x → ExprMeets (roll-Expr x)
  expr_step x y is h sight = rw (← is, rolled q (plain y)) (form_meets y
      (sym (expr_rolled v (plain y)) ∙ ap (λ z. mentions v (roll-Expr z)) is ∙ h) sight)

  abbrev plain_arm : ArmLayer known → ArmForm
  plain_arm = map-Arm known.Clauses known.Exprs known.Names known.Parts known.Arms known.Binds known.Attrs known.Flwors known.Orders
      Clause Expr NameSource Part Arm Bind DirectAttr FlworOf Order
      (λ y. y.0) (λ y. y.0) (λ y. y.0) (λ y. y.0) (λ y. y.0) (λ y. y.0) (λ y. y.0) (λ y. y.0)
      (λ y. y.0)

  arm_step : (x : ArmForm) (y : ArmLayer known) → plain_arm y ≡ x → ArmOf (roll-Arm x)
  arm_step x y is h sight =
      let r : Asked (mentions v y.test.0 || mentions v y.then.0) =
      (sym (arm_rolled v (plain_arm y)) ∙ ap (λ z. in_arm v (roll-Arm z)) is ∙ h) in
      let t = mentions v y.test.0 in let u = mentions v y.then.0 in
      rw (← is, rolled_arm q (plain_arm y))
      (y.test.1 (first t u r) sight, y.then.1 (second t u r) sight)

  abbrev plain_bind : BindLayer known → BindForm
  plain_bind = map-Bind known.Clauses known.Exprs known.Names known.Parts known.Arms known.Binds known.Attrs known.Flwors known.Orders
      Clause Expr NameSource Part Arm Bind DirectAttr FlworOf Order
      (λ y. y.0) (λ y. y.0) (λ y. y.0) (λ y. y.0) (λ y. y.0) (λ y. y.0) (λ y. y.0) (λ y. y.0)
      (λ y. y.0)

  bind_step : (x : BindForm) (y : BindLayer known) → plain_bind y ≡ x → BindOf (roll-Bind x)
  bind_step x y is h sight =
      let t = same_name v y.var in let u = mentions v y.source.0 in
      let r : Asked (t || u) =
      sym (bind_rolled v (plain_bind y)) ∙ ap (λ z. in_bind v (roll-Bind z)) is ∙ h in
      rw (← is, rolled_bind q (plain_bind y))
      (refl, refl, first t u r, y.source.1 (second t u r) sight)

  abbrev plain_order : OrderLayer known → OrderForm
  plain_order = map-Order known.Clauses known.Exprs known.Names known.Parts known.Arms known.Binds known.Attrs known.Flwors known.Orders
      Clause Expr NameSource Part Arm Bind DirectAttr FlworOf Order
      (λ y. y.0) (λ y. y.0) (λ y. y.0) (λ y. y.0) (λ y. y.0) (λ y. y.0) (λ y. y.0) (λ y. y.0)
      (λ y. y.0)

  order_step : (x : OrderForm) (y : OrderLayer known) → plain_order y ≡ x → OrderOf (roll-Order x)
  order_step x y is h sight =
      rw (← is, rolled_order q (plain_order y))
      (y.key.1 (sym (order_rolled v (plain_order y)) ∙ ap (λ z. in_order v (roll-Order z)) is ∙ h) sight, refl)

  abbrev plain_attr : AttrLayer known → AttrForm
  plain_attr = map-DirectAttr known.Clauses known.Exprs known.Names known.Parts known.Arms known.Binds known.Attrs known.Flwors known.Orders
      Clause Expr NameSource Part Arm Bind DirectAttr FlworOf Order
      (λ y. y.0) (λ y. y.0) (λ y. y.0) (λ y. y.0) (λ y. y.0) (λ y. y.0) (λ y. y.0) (λ y. y.0)
      (λ y. y.0)

  attr_step : (x : AttrForm) (y : AttrLayer known) → plain_attr y ≡ x → AttrOf (roll-DirectAttr x)
  attr_step x y is h sight =
      let r : Asked (some (map (in_part v) (map (λ y. y.0) y.parts))) =
      sym (attr_rolled v (plain_attr y)) ∙ ap (λ z. in_attr v (roll-DirectAttr z)) is ∙ h in
      rw (← is, rolled_attr q (plain_attr y))
      (refl, (λ s. absurd s), parts_meet y.parts r sight)

  abbrev plain_flwor : FlworLayer known → FlworForm
  plain_flwor = map-Flwor known.Clauses known.Exprs known.Names known.Parts known.Arms known.Binds known.Attrs known.Flwors known.Orders
      Clause Expr NameSource Part Arm Bind DirectAttr FlworOf Order
      (λ y. y.0) (λ y. y.0) (λ y. y.0) (λ y. y.0) (λ y. y.0) (λ y. y.0) (λ y. y.0) (λ y. y.0)
      (λ y. y.0)

  flwor_known : (clauses : List known.Clauses) (test : Option known.Exprs)
      (orders : List known.Orders) (stable : Bool) (body : known.Exprs) →
      Asked (flwor_mentioned v (plain_flwor (record {
        clauses = clauses;
        test = test;
        orders = orders;
        stable = stable;
        body = body;
      }))) → (sight : c.Sight) →
      Meet c sight
      (flwor_value q (plain_flwor (record {
        clauses = clauses;
        test = test;
        orders = orders;
        stable = stable;
        body = body;
      })))
      (flwor_value q (plain_flwor (record {
        clauses = clauses;
        test = test;
        orders = orders;
        stable = stable;
        body = body;
      })))
  flwor_known clauses None orders stable body h sight =
      let t = some (map (in_clause v) (map (λ y. y.0) clauses)) in
      let o = some (map (in_order v) (map (λ y. y.0) orders)) in
      let w = mentions v body.0 in
      let r = second false (o || w) (second t (false || (o || w)) h) in
      flwor_meets c sight _ _ (clauses_meet clauses (first t (false || (o || w)) h) sight) None None tt
      _ _ (orders_meet orders (first o w r) sight) _ _ (body.1 (second o w r) sight)
  flwor_known clauses (Some test) orders stable body h sight =
      let t = some (map (in_clause v) (map (λ y. y.0) clauses)) in
      let u = mentions v test.0 in
      let o = some (map (in_order v) (map (λ y. y.0) orders)) in
      let w = mentions v body.0 in
      let r = second t (u || (o || w)) h in
      let e = second u (o || w) r in
      flwor_meets c sight _ _ (clauses_meet clauses (first t (u || (o || w)) h) sight) (Some _)
      (Some _) (test.1 (first u (o || w) r) sight) _ _ (orders_meet orders (first o w e) sight) _ _
      (body.1 (second o w e) sight)

  flwor_step : (x : FlworForm)
      (y : FlworLayer known) →
      plain_flwor y ≡ x → FlworMeets (roll-Flwor x)
  flwor_step x y is h sight =
      rw (← is, rolled_flwor q (plain_flwor y))
      (flwor_known y.clauses y.test y.orders y.stable y.body
      (sym (flwor_rolled v (plain_flwor y)) ∙ ap (λ z. in_flwor v (roll-Flwor z)) is ∙ h) sight)

  abbrev plain_clause : ClauseLayer known → ClauseForm
  plain_clause = map-Clause known.Clauses known.Exprs known.Names known.Parts known.Arms known.Binds known.Attrs known.Flwors known.Orders
      Clause Expr NameSource Part Arm Bind DirectAttr FlworOf Order
      (λ y. y.0) (λ y. y.0) (λ y. y.0) (λ y. y.0) (λ y. y.0) (λ y. y.0) (λ y. y.0) (λ y. y.0)
      (λ y. y.0)

  clause_meets : (y : ClauseLayer known) → Asked (clause_mentioned v (plain_clause y)) → (sight : c.Sight) →
      ClauseMeets c sight (clause_value q (plain_clause y)) (clause_value q (plain_clause y))
  clause_meets (For b None) h sight =
      let t = in_bind v b.0 in let u = place_is v None in
      for_meets c sight _ _ (b.1 (first t u h) sight)
  clause_meets (For b (Some at)) h sight =
      let t = in_bind v b.0 in let u = place_is v (Some at) in
      at_meets c sight _ _ (b.1 (first t u h) sight) at (second t u h)
  clause_meets (Let b) h sight = let_meets c sight _ _ (b.1 h sight)

  clause_step : (x : ClauseForm)
      (y : ClauseLayer known) →
      plain_clause y ≡ x → ClauseOf (roll-Clause x)
  clause_step x y is h sight =
      rw (← is, rolled_clause q (plain_clause y))
      (clause_meets y (sym (clause_rolled v (plain_clause y)) ∙ ap (λ z. in_clause v (roll-Clause z)) is ∙ h) sight)

  abbrev plain_name : NameLayer known → NameForm
  plain_name = map-NameSource known.Clauses known.Exprs known.Names known.Parts known.Arms known.Binds known.Attrs known.Flwors known.Orders
      Clause Expr NameSource Part Arm Bind DirectAttr FlworOf Order
      (λ y. y.0) (λ y. y.0) (λ y. y.0) (λ y. y.0) (λ y. y.0) (λ y. y.0) (λ y. y.0) (λ y. y.0)
      (λ y. y.0)

  name_meets : (y : NameLayer known) → Asked (name_mentioned v (plain_name y)) → (sight : c.Sight) →
      NameMeets c sight (name_value q (plain_name y)) (name_value q (plain_name y))
  name_meets (Fixed n) h sight = (refl, λ s. absurd s)
  name_meets (Computed e) h sight = e.1 h sight

  name_step : (x : NameForm) (y : NameLayer known) → plain_name y ≡ x → NameOf (roll-NameSource x)
  name_step x y is h sight =
      rw (← is, rolled_name q (plain_name y))
      (name_meets y (sym (name_rolled v (plain_name y)) ∙ ap (λ z. in_name v (roll-NameSource z)) is ∙ h) sight)

  abbrev plain_part : PartLayer known → PartForm
  plain_part = map-Part known.Clauses known.Exprs known.Names known.Parts known.Arms known.Binds known.Attrs known.Flwors known.Orders
      Clause Expr NameSource Part Arm Bind DirectAttr FlworOf Order
      (λ y. y.0) (λ y. y.0) (λ y. y.0) (λ y. y.0) (λ y. y.0) (λ y. y.0) (λ y. y.0) (λ y. y.0)
      (λ y. y.0)

  part_meets : (y : PartLayer known) → Asked (part_mentioned v (plain_part y)) → (sight : c.Sight) →
      PartMeets c sight (part_value q (plain_part y)) (part_value q (plain_part y))
  part_meets (Chars t) h sight = (refl, λ s. absurd s)
  part_meets (Enclosed e) h sight = e.1 h sight
  part_meets (Child e) h sight = e.1 h sight

  part_step : (x : PartForm) (y : PartLayer known) → plain_part y ≡ x → PartOf (roll-Part x)
  part_step x y is h sight =
      rw (← is, rolled_part q (plain_part y))
      (part_meets y (sym (part_rolled v (plain_part y)) ∙ ap (λ z. in_part v (roll-Part z)) is ∙ h) sight)

  pub whole_meets : (e : Expr) → ExprMeets e
  whole_meets = ind-Expr ClauseOf ExprMeets NameOf PartOf ArmOf BindOf AttrOf FlworMeets OrderOf
      clause_step expr_step name_step part_step arm_step bind_step attr_step flwor_step order_step

  -- the same outcome where places agree in all variables but one that is not mentioned
  pub unmentioned : (x : Expr) → mentions v x ≡ false → (e f : Env) → Beside (v ∷ []) e f →
      (k : ℕ) → outcome q x e k ≡ outcome q x f k
  unmentioned x h e f s k = (whole_meets x h tt e f s k).0
