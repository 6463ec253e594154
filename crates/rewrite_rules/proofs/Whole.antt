-- An expression that is moved along sights means the same.
use Rattle.std.proofs.Common.{◌≡◌, List, [], ◌∷◌, refl, map, sym, ap, ◌∙◌, subst, inl, inr}
use Rattle.std.specs.Prelude.{ℕ, Bool, true, false, not, ◌&&◌, ◌⊎◌, Option, Some, None}
use Rattle.xt_atoms.specs.declared.atoms.Atom.TheVariants as atom
use Rattle.xdm_items.specs.declared.items.Item.{Item}
use Rattle.xdm_items.specs.declared.items.Item.TheVariants.{Atom}
use Rattle.expr_meaning.specs.Values.{binary}
use Rattle.xt_names.specs.declared.codes.Code.{Code}
use Rattle.expr_laws.specs.Carrier.{KeepsBoth}
use Rattle.std.specs.Prelude.{Result}
use Rattle.xt_syntax.specs.declared.exprs.Expr.{Expr}
use Rattle.xt_syntax.specs.declared.exprs.Arm.{Arm}
use Rattle.xt_syntax.specs.declared.exprs.Clause.{Clause}
use Rattle.xt_syntax.specs.declared.exprs.Order.{Order}
use Rattle.xt_syntax.specs.declared.exprs.Flwor.{Flwor as FlworOf}
use Rattle.xt_syntax.specs.declared.exprs.Bind.{Bind}
use Rattle.xt_syntax.specs.declared.exprs.NameSource.{NameSource}
use Rattle.xt_syntax.specs.declared.exprs.DirectAttr.{DirectAttr}
use Rattle.xt_syntax.specs.declared.exprs.Part.{Part}
use Rattle.xt_syntax.specs.declared.exprs.Clause.TheOpen.{Int, Str, Var, Context, Root, Comma, Or}
use Rattle.xt_syntax.specs.declared.exprs.Clause.TheOpen.{And, If, Flwor, Quant, General, Value}
use Rattle.xt_syntax.specs.declared.exprs.Clause.TheOpen.{Is}
use Rattle.xt_syntax.specs.declared.exprs.Clause.TheOpen.{Before, After, Range, Arith, Minus}
use Rattle.xt_syntax.specs.declared.exprs.Clause.TheOpen.{Plus}
use Rattle.xt_syntax.specs.declared.exprs.Clause.TheOpen.{Union, Intersect, Except, InstanceOf}
use Rattle.xt_syntax.specs.declared.exprs.Clause.TheOpen.{Treat, Castable, Cast, Slash, Step}
use Rattle.xt_syntax.specs.declared.exprs.Clause.TheOpen.{Filter, Call, ElemC, AttrC, DocC, TextC}
use Rattle.xt_syntax.specs.declared.exprs.Clause.TheOpen.{CommentC, PiC, Direct, For, Let, Fixed}
use Rattle.xt_syntax.specs.declared.exprs.Clause.TheOpen.{Computed, Chars, Enclosed, Child}
use Rattle.xt_syntax.specs.declared.exprs.Clause.TheViews.{roll-Expr, roll-Arm, roll-Clause}
use Rattle.xt_syntax.specs.declared.exprs.Clause.TheViews.{roll-Order}
use Rattle.xt_syntax.specs.declared.exprs.Clause.TheViews.{roll-Flwor, roll-Bind, roll-NameSource}
use Rattle.xt_syntax.specs.declared.exprs.Clause.TheViews.{roll-DirectAttr, roll-Part}
use Rattle.xt_syntax.specs.declared.exprs.Clause.TheFolds.{ind-Expr, ind-Clause, ind-Order}
use Rattle.xt_syntax.specs.declared.exprs.Clause.TheFolds.{map-Expr, map-Arm, map-Clause}
use Rattle.xt_syntax.specs.declared.exprs.Clause.TheFolds.{map-Order}
use Rattle.xt_syntax.specs.declared.exprs.Clause.TheFolds.{map-Flwor, map-Bind, map-NameSource}
use Rattle.xt_syntax.specs.declared.exprs.Clause.TheFolds.{map-DirectAttr, map-Part}
use Rattle.xt_syntax.specs.Layers.{Kinds, Steps, ExprLayer, ClauseLayer, NameLayer, PartLayer}
use Rattle.xt_syntax.specs.Layers.{ArmLayer, BindLayer, AttrLayer, FlworLayer, OrderLayer}
use Rattle.xt_syntax.specs.Layers.{clause_gives, name_gives, part_gives, arm_gives}
use Rattle.xt_syntax.specs.Layers.{bind_gives, attr_gives, flwor_gives, order_gives, expr_gives}
use Rattle.operator_values.specs.Comparisons.{general_value, single_value}
use Rattle.operator_values.specs.Nodes.{is_value, before_value, after_value, union_value}
use Rattle.operator_values.specs.Nodes.{intersect_value, except_value}
use Rattle.operator_values.specs.Numbers.{arithmetic_value, range_value, negated_value}
use Rattle.operator_values.specs.Numbers.{signed_value}
use Rattle.operator_values.specs.Types.{instance_value, treated_value, cast_value, castable_value}
use Rattle.expr_meaning.specs.Env.{Program, Env, Meaning}
use Rattle.expr_meaning.specs.Meaning.{meanings}
use Rattle.expr_meaning.specs.Meaning.{steps, outcome}
use Rattle.expr_laws.specs.Carrier.{Carrier, AllMeet}
use Rattle.expr_laws.proofs.Logic.{ArmsMeet, or_meets, and_meets}
use Rattle.expr_laws.proofs.Logic.{choice_meets}
use Rattle.expr_laws.proofs.Values.{just_meets, context_meets, comma_meets}
use Rattle.expr_laws.proofs.Values.{unary_meets, binary_meets}
use Rattle.expr_laws.proofs.Paths.{root_meets, filter_meets, step_meets, slash_meets}
use Rattle.expr_laws.proofs.Flow.{OrdersMeet}
use Rattle.expr_laws.proofs.Making.{NameMeets, PartMeets, PartsMeet, AttributeMeets, AttributesMeet}
use Rattle.expr_laws.proofs.Making.{document_meets, comment_meets, text_meets, pi_meets}
use Rattle.expr_laws.proofs.Making.{direct_meets, element_meets, attribute_meets}
use Rattle.expr_laws.proofs.Texts.{ExprForm, ArmForm, BindForm, OrderForm, AttrForm}
use Rattle.expr_laws.proofs.Texts.{FlworForm, ClauseForm, NameForm, PartForm}
use Rattle.xt_names.specs.declared.names.ExprName.{ExprName}
use Rattle.expr_meaning.specs.Values.{variable}
use Rattle.expr_meaning.specs.Logic.{quantified, quantifier_of, as_items}
use Rattle.expr_meaning.specs.Flow.{Tuples, flow_of}
use Rattle.rewrite_rules.specs.Moving.{Moving}
use Rattle.rewrite_rules.specs.Moved.{placed, binds_at, behind_binds, clauses_at, behind_clauses}
use Rattle.rewrite_rules.specs.Moved.{form_at, expr_at, moved_steps, fits, all_fit, binds_fit}
use Rattle.rewrite_rules.specs.Moved.{clauses_fit, expr_fits, fits_steps}
use Rattle.rewrite_rules.proofs.Folded.{expr_layer, expr_rolled, arm_rolled, clause_layer}
use Rattle.rewrite_rules.proofs.Folded.{clause_rolled, order_rolled, flwor_layer}
use Rattle.rewrite_rules.proofs.Folded.{flwor_rolled, bind_rolled, name_layer, name_rolled}
use Rattle.rewrite_rules.proofs.Folded.{attr_rolled, part_layer, part_rolled}
use Rattle.rewrite_rules.proofs.Alongside.{beside, beside_focus, beside_made, beside_agree, beside_call, itself}
use Rattle.rewrite_rules.proofs.FlowMoves.{Met, TuplesMove, TruthMet, truth_met, for_moves}
use Rattle.rewrite_rules.proofs.FlowParts.{FlowMoved}
use Rattle.rewrite_rules.proofs.FlowMoves.{let_moves, at_moves, flwor_same, quantified_more}

module _ (S : Type 0) (m : Moving S) (p : Program) (variable_at : S → ExprName → Expr)
    (fix : S → Expr → Expr) (good : S → ExprName → Bool)
    (variable_same : (s : S) (n : ExprName) → good s n ≡ true → (e f : Env) → m.at s e f → (k : ℕ) →
    variable p n e k ≡ outcome p (variable_at s n) f k)
    (fix_same : (s : S) (x : Expr) (e f : Env) → m.at s e f → (k : ℕ) →
    outcome p (fix s x) f k ≡ outcome p x f k) where
  abbrev pub c : S → Carrier
  c s = beside S m s

  abbrev pub ks : Kinds
  ks = placed S m.after

  abbrev pub ss : Steps ks
  ss = moved_steps S m.after variable_at fix

  abbrev pub kf : Kinds
  kf = fits S m.after

  abbrev pub sf : Steps kf
  sf = fits_steps S m.after good

  abbrev pub means : Steps meanings
  means = steps p

  -- what is asked: that all variables are allowed, or that those of the expression are
  abbrev pub Asked : Bool → Type 0
  Asked b = ((s : S) (n : ExprName) → good s n ≡ true) ⊎ (b ≡ true)

  first : (a b : Bool) → Asked (a && b) → Asked a
  first a b (inl h) = inl h
  first true b (inr h) = inr refl
  first false b (inr h) = absurd cc

  second : (a b : Bool) → Asked (a && b) → Asked b
  second a b (inl h) = inl h
  second true b (inr h) = inr h
  second false b (inr h) = absurd cc

  allowed : (s : S) (n : ExprName) → Asked (good s n) → good s n ≡ true
  allowed s n (inl h) = h s n
  allowed s n (inr h) = h

  asked_by : (a b : Bool) → a ≡ b → Asked a → Asked b
  asked_by a b e h = subst Asked e h

  abbrev pub ExprMoves : Expr → Type 0
  ExprMoves x = (s : S) → Asked (expr_gives kf sf x s) →
      Met S m s (outcome p x) (outcome p (expr_gives ks ss x s))

  abbrev ClauseMoves : Clause → Type 0
  ClauseMoves x = (s : S) → Asked ((clause_gives kf sf x).0 s) →
      ((clause_gives kf sf x).1 s ≡ (clause_gives ks ss x).1 s)
      × ((end : S) (e f : Env) (t u : Tuples) →
      TuplesMove S m end e f ((clause_gives ks ss x).1 s) t u →
      TuplesMove S m end e f s (clause_gives meanings means x t)
      (clause_gives meanings means ((clause_gives ks ss x).0 s) u))

  abbrev NameMoves : NameSource → Type 0
  NameMoves x = (s : S) → Asked (name_gives kf sf x s) →
      NameMeets (c s) tt (name_gives meanings means x) (name_gives meanings means (name_gives ks ss x s))

  abbrev PartMoves : Part → Type 0
  PartMoves x = (s : S) → Asked (part_gives kf sf x s) →
      PartMeets (c s) tt (part_gives meanings means x) (part_gives meanings means (part_gives ks ss x s))

  abbrev ArmMoves : Arm → Type 0
  ArmMoves x = (s : S) → Asked (arm_gives kf sf x s) →
      Met S m s (arm_gives meanings means x).0 (arm_gives meanings means (arm_gives ks ss x s)).0
      × Met S m s (arm_gives meanings means x).1 (arm_gives meanings means (arm_gives ks ss x s)).1

  abbrev BindMoves : Bind → Type 0
  BindMoves x = ((bind_gives kf sf x).0 ≡ (bind_gives meanings means x).var)
      × ((bind_gives ks ss x).0 ≡ (bind_gives meanings means x).var)
      × ((s : S) → Asked ((bind_gives kf sf x).1 s) →
      (y : Meaning) × Met S m s (bind_gives meanings means x).source y
      × (bind_gives meanings means ((bind_gives ks ss x).1 s)
      ≡ record { var = (bind_gives meanings means x).var; kind = (bind_gives meanings means x).kind; source = y }))

  abbrev AttrMoves : DirectAttr → Type 0
  AttrMoves x = (s : S) → Asked (attr_gives kf sf x s) →
      AttributeMeets (c s) tt (attr_gives meanings means x) (attr_gives meanings means (attr_gives ks ss x s))

  abbrev FlworMoves : FlworOf → Type 0
  FlworMoves x = (s : S) → Asked (flwor_gives kf sf x s) →
      Met S m s (flwor_gives meanings means x) (flwor_gives meanings means (flwor_gives ks ss x s))

  abbrev OrderMoves : Order → Type 0
  OrderMoves x = (s : S) → Asked (order_gives kf sf x s) →
      Met S m s (order_gives meanings means x).0 (order_gives meanings means (order_gives ks ss x s)).0
      × ((order_gives meanings means x).1 ≡ (order_gives meanings means (order_gives ks ss x s)).1)

  -- parts, each with what is known of it
  abbrev known : Kinds
  known = record {
    Clauses = (x : Clause) × ClauseMoves x;
    Exprs = (x : Expr) × ExprMoves x;
    Names = (x : NameSource) × NameMoves x;
    Parts = (x : Part) × PartMoves x;
    Arms = (x : Arm) × ArmMoves x;
    Binds = (x : Bind) × BindMoves x;
    Attrs = (x : DirectAttr) × AttrMoves x;
    Flwors = (x : FlworOf) × FlworMoves x;
    Orders = (x : Order) × OrderMoves x;
  }

  -- lists of parts
  all_meet : (ys : List known.Exprs) (s : S) →
      Asked (all_fit S m.after (map (expr_gives kf sf) (map (λ y. y.0) ys)) s) →
      AllMeet (c s) tt (map (outcome p) (map (λ y. y.0) ys))
      (map (outcome p) (map (λ y. y s) (map (expr_gives ks ss) (map (λ y. y.0) ys))))
  all_meet [] s h = tt
  all_meet (y ∷ ys) s h =
      let a = expr_gives kf sf y.0 s in
      let b = all_fit S m.after (map (expr_gives kf sf) (map (λ y. y.0) ys)) s in
      (y.1 s (first a b h), all_meet ys s (second a b h))

  arms_meet : (ys : List known.Arms) (s : S) →
      Asked (all_fit S m.after (map (arm_gives kf sf) (map (λ y. y.0) ys)) s) →
      ArmsMeet (c s) tt (map (arm_gives meanings means) (map (λ y. y.0) ys))
      (map (arm_gives meanings means) (map (λ y. y s) (map (arm_gives ks ss) (map (λ y. y.0) ys))))
  arms_meet [] s h = tt
  arms_meet (y ∷ ys) s h =
      let a = arm_gives kf sf y.0 s in
      let b = all_fit S m.after (map (arm_gives kf sf) (map (λ y. y.0) ys)) s in
      (y.1 s (first a b h), arms_meet ys s (second a b h))

  orders_meet : (ys : List known.Orders) (s : S) →
      Asked (all_fit S m.after (map (order_gives kf sf) (map (λ y. y.0) ys)) s) →
      OrdersMeet (c s) tt (map (order_gives meanings means) (map (λ y. y.0) ys))
      (map (order_gives meanings means) (map (λ y. y s) (map (order_gives ks ss) (map (λ y. y.0) ys))))
  orders_meet [] s h = tt
  orders_meet (y ∷ ys) s h =
      let a = order_gives kf sf y.0 s in
      let b = all_fit S m.after (map (order_gives kf sf) (map (λ y. y.0) ys)) s in
      (y.1 s (first a b h), orders_meet ys s (second a b h))

  parts_meet : (ys : List known.Parts) (s : S) →
      Asked (all_fit S m.after (map (part_gives kf sf) (map (λ y. y.0) ys)) s) →
      PartsMeet (c s) tt (map (part_gives meanings means) (map (λ y. y.0) ys))
      (map (part_gives meanings means) (map (λ y. y s) (map (part_gives ks ss) (map (λ y. y.0) ys))))
  parts_meet [] s h = tt
  parts_meet (y ∷ ys) s h =
      let a = part_gives kf sf y.0 s in
      let b = all_fit S m.after (map (part_gives kf sf) (map (λ y. y.0) ys)) s in
      (y.1 s (first a b h), parts_meet ys s (second a b h))

  attrs_meet : (ys : List known.Attrs) (s : S) →
      Asked (all_fit S m.after (map (attr_gives kf sf) (map (λ y. y.0) ys)) s) →
      AttributesMeet (c s) tt (map (attr_gives meanings means) (map (λ y. y.0) ys))
      (map (attr_gives meanings means) (map (λ y. y s) (map (attr_gives ks ss) (map (λ y. y.0) ys))))
  attrs_meet [] s h = tt
  attrs_meet (y ∷ ys) s h =
      let a = attr_gives kf sf y.0 s in
      let b = all_fit S m.after (map (attr_gives kf sf) (map (λ y. y.0) ys)) s in
      (y.1 s (first a b h), attrs_meet ys s (second a b h))

  -- an operator on two values
  abbrev pub image : Expr → S → Expr
  image = expr_gives ks ss

  operands_meet : (value : List Item → List Item → Result (List Item) Code) →
      ((s : S) → KeepsBoth (c s).good value) → (a b : known.Exprs) (s : S) →
      Asked (expr_gives kf sf a.0 s && expr_gives kf sf b.0 s) →
      Met S m s (binary value (outcome p a.0) (outcome p b.0))
      (binary value (outcome p (image a.0 s)) (outcome p (image b.0 s)))
  operands_meet value w a b s h =
      let t = expr_gives kf sf a.0 s in let u = expr_gives kf sf b.0 s in
      binary_meets (c s) tt value (w s) _ _ _ _ (a.1 s (first t u h)) (b.1 s (second t u h))

  -- quantifiers
  quantified_moves : (d : Bool) (ys : List known.Binds) (test : known.Exprs) (s : S) →
      Asked (binds_fit S m.after (map (bind_gives kf sf) (map (λ y. y.0) ys)) (expr_gives kf sf test.0) s) →
      TruthMet S m s (quantified d (map (bind_gives meanings means) (map (λ y. y.0) ys)) (outcome p test.0))
      (quantified d (map (bind_gives meanings means)
      (binds_at S m.after (map (bind_gives ks ss) (map (λ y. y.0) ys)) s))
      (outcome p (image test.0 (behind_binds S m.after (map (bind_gives ks ss) (map (λ y. y.0) ys)) s))))
  quantified_moves d [] test s h = truth_met S m s _ _ (test.1 s h)
  quantified_moves d (y ∷ ys) test s h =
      let a = (bind_gives kf sf y.0).1 s in
      let rest = map (bind_gives kf sf) (map (λ y. y.0) ys) in
      let b = binds_fit S m.after rest (expr_gives kf sf test.0) (m.after (bind_gives kf sf y.0).0 s) in
      let more = y.1.2 s (first a b h) in
      let v = (bind_gives meanings means y.0).var in
      let again : Asked (binds_fit S m.after rest (expr_gives kf sf test.0) (m.after v s)) =
      subst (λ w. Asked (binds_fit S m.after rest (expr_gives kf sf test.0) (m.after w s))) y.1.0 (second a b h) in
      subst (λ z. TruthMet S m s
      (quantified d (bind_gives meanings means y.0 ∷ map (bind_gives meanings means) (map (λ y. y.0) ys)) (outcome p test.0))
      (quantified d (z ∷ map (bind_gives meanings means)
      (binds_at S m.after (map (bind_gives ks ss) (map (λ y. y.0) ys)) (m.after (bind_gives ks ss y.0).0 s)))
      (outcome p (image test.0 (behind_binds S m.after (map (bind_gives ks ss) (map (λ y. y.0) ys)) (m.after (bind_gives ks ss y.0).0 s))))))
      (sym more.2)
      (subst (λ w. TruthMet S m s
      (quantified d (bind_gives meanings means y.0 ∷ map (bind_gives meanings means) (map (λ y. y.0) ys)) (outcome p test.0))
      (quantified d (record { var = v; kind = (bind_gives meanings means y.0).kind; source = more.0 }
      ∷ map (bind_gives meanings means) (binds_at S m.after (map (bind_gives ks ss) (map (λ y. y.0) ys)) (m.after w s)))
      (outcome p (image test.0 (behind_binds S m.after (map (bind_gives ks ss) (map (λ y. y.0) ys)) (m.after w s))))))
      (sym y.1.1)
      (quantified_more S m d s v (bind_gives meanings means y.0).kind
      (bind_gives meanings means y.0).source more.0 more.1 (map (bind_gives meanings means) (map (λ y. y.0) ys))
      (map (bind_gives meanings means) (binds_at S m.after (map (bind_gives ks ss) (map (λ y. y.0) ys)) (m.after v s)))
      (outcome p test.0)
      (outcome p (image test.0 (behind_binds S m.after (map (bind_gives ks ss) (map (λ y. y.0) ys)) (m.after v s))))
      (quantified_moves d ys test (m.after v s) again)))

  quant_moves : (every_one : Bool) (ys : List known.Binds) (test : known.Exprs) (s : S) →
      Asked (binds_fit S m.after (map (bind_gives kf sf) (map (λ y. y.0) ys)) (expr_gives kf sf test.0) s) →
      Met S m s (quantifier_of every_one (map (bind_gives meanings means) (map (λ y. y.0) ys)) (outcome p test.0))
      (quantifier_of every_one (map (bind_gives meanings means)
      (binds_at S m.after (map (bind_gives ks ss) (map (λ y. y.0) ys)) s))
      (outcome p (image test.0 (behind_binds S m.after (map (bind_gives ks ss) (map (λ y. y.0) ys)) s))))
  quant_moves every_one ys test s h e f r k =
      itself _ _ (ap as_items (quantified_moves (not every_one) ys test s h e f r k))

  abbrev plain : ExprLayer known → ExprForm
  plain = map-Expr known.Clauses known.Exprs known.Names known.Parts known.Arms known.Binds known.Attrs known.Flwors known.Orders
      Clause Expr NameSource Part Arm Bind DirectAttr FlworOf Order
      (λ y. y.0) (λ y. y.0) (λ y. y.0) (λ y. y.0) (λ y. y.0) (λ y. y.0) (λ y. y.0) (λ y. y.0)
      (λ y. y.0)

  -- the form, before it is rewritten itself
  abbrev formed : ExprLayer known → S → Expr
  formed y s = roll-Expr (form_at S m.after (expr_layer ks ss (plain y)) s)

  abbrev form_means : ExprForm → Meaning
  form_means x = means.of_expr (expr_layer meanings means x)

  abbrev Formed : ExprLayer known → S → Type 0
  Formed y s = Met S m s (form_means (plain y))
      (form_means (form_at S m.after (expr_layer ks ss (plain y)) s))

  fixed_met : (y : ExprLayer known) (s : S) → Formed y s →
      Met S m s (form_means (plain y)) (outcome p (fix s (formed y s)))
  fixed_met y s h e f r k =
      itself _ _ ((h e f r k).0
      ∙ sym (ap (λ g. g f k) (expr_rolled meanings means (form_at S m.after (expr_layer ks ss (plain y)) s)))
      ∙ sym (fix_same s (formed y s) e f r k))

  form_meets : (y : ExprLayer known) (s : S) → Asked (expr_fits S m.after good (expr_layer kf sf (plain y)) s) →
      Met S m s (form_means (plain y)) (outcome p (expr_at S m.after variable_at fix (expr_layer ks ss (plain y)) s))
  form_meets (Int n) s h = fixed_met (Int n) s
      (just_meets (c s) tt (Atom (atom.Int n) ∷ []) (tt, tt))
  form_meets (Str t) s h = fixed_met (Str t) s
      (just_meets (c s) tt (Atom (atom.Str t) ∷ []) (tt, tt))
  form_meets (Var name) s h = λ e f r k. itself _ _ (variable_same s name (allowed s name h) e f r k)
  form_meets Context s h = fixed_met Context s
      (context_meets (c s) tt (beside_focus S m s tt))
  form_meets Root s h = fixed_met Root s
      (root_meets (c s) tt (beside_focus S m s tt))
  form_meets (Comma all) s h = fixed_met (Comma all) s
      (comma_meets (c s) tt _ _ (all_meet all s h))
  form_meets (Or all) s h = fixed_met (Or all) s
      (or_meets (c s) tt _ _ (all_meet all s h))
  form_meets (And all) s h = fixed_met (And all) s
      (and_meets (c s) tt _ _ (all_meet all s h))
  form_meets (If arms other) s h = fixed_met (If arms other) s
      (let a = all_fit S m.after (map (arm_gives kf sf) (map (λ y. y.0) arms)) s in
      let b = expr_gives kf sf other.0 s in
      choice_meets (c s) tt _ _ (arms_meet arms s (first a b h)) _ _ (other.1 s (second a b h)))
  form_meets (Flwor f) s h = fixed_met (Flwor f) s
      (f.1 s h)
  form_meets (Quant every_one binds test) s h = fixed_met (Quant every_one binds test) s
      (quant_moves every_one binds test s h)
  form_meets (General op a b) s h = fixed_met (General op a b) s
      (operands_meet (general_value op) (λ z. (c z).kept.general op) a b s h)
  form_meets (Value op a b) s h = fixed_met (Value op a b) s
      (operands_meet (single_value op) (λ z. (c z).kept.single op) a b s h)
  form_meets (Is a b) s h = fixed_met (Is a b) s
      (operands_meet (is_value) (λ z. (c z).kept.is) a b s h)
  form_meets (Before a b) s h = fixed_met (Before a b) s
      (operands_meet (before_value) (λ z. (c z).kept.before) a b s h)
  form_meets (After a b) s h = fixed_met (After a b) s
      (operands_meet (after_value) (λ z. (c z).kept.after) a b s h)
  form_meets (Range a b) s h = fixed_met (Range a b) s
      (operands_meet (range_value) (λ z. (c z).kept.range) a b s h)
  form_meets (Arith op a b) s h = fixed_met (Arith op a b) s
      (operands_meet (arithmetic_value op) (λ z. (c z).kept.arithmetic op) a b s h)
  form_meets (Union a b) s h = fixed_met (Union a b) s
      (operands_meet (union_value) (λ z. (c z).kept.union) a b s h)
  form_meets (Intersect a b) s h = fixed_met (Intersect a b) s
      (operands_meet (intersect_value) (λ z. (c z).kept.intersect) a b s h)
  form_meets (Except a b) s h = fixed_met (Except a b) s
      (operands_meet (except_value) (λ z. (c z).kept.except) a b s h)
  form_meets (Minus a) s h = fixed_met (Minus a) s
      (unary_meets (c s) tt (negated_value) ((c s).kept.negated) _ _ (a.1 s h))
  form_meets (Plus a) s h = fixed_met (Plus a) s
      (unary_meets (c s) tt (signed_value) ((c s).kept.signed) _ _ (a.1 s h))
  form_meets (InstanceOf a kind) s h = fixed_met (InstanceOf a kind) s
      (unary_meets (c s) tt (instance_value kind) ((c s).kept.instance kind) _ _ (a.1 s h))
  form_meets (Treat a kind) s h = fixed_met (Treat a kind) s
      (unary_meets (c s) tt (treated_value kind) ((c s).kept.treated kind) _ _ (a.1 s h))
  form_meets (Castable a kind empty) s h = fixed_met (Castable a kind empty) s
      (unary_meets (c s) tt (castable_value kind empty) ((c s).kept.castable kind empty) _ _ (a.1 s h))
  form_meets (Cast a kind empty) s h = fixed_met (Cast a kind empty) s
      (unary_meets (c s) tt (cast_value kind empty) ((c s).kept.cast kind empty) _ _ (a.1 s h))
  form_meets (Slash a b) s h = fixed_met (Slash a b) s
      (let t = expr_gives kf sf a.0 s in let u = expr_gives kf sf b.0 s in
      slash_meets (c s) tt _ _ _ _ (a.1 s (first t u h)) (b.1 s (second t u h)))
  form_meets (Step axis wanted tests) s h = fixed_met (Step axis wanted tests) s
      (step_meets (c s) tt (beside_focus S m s tt) axis wanted _ _ (all_meet tests s h))
  form_meets (Filter of tests) s h = fixed_met (Filter of tests) s
      (let t = expr_gives kf sf of.0 s in
      let u = all_fit S m.after (map (expr_gives kf sf) (map (λ y. y.0) tests)) s in
      filter_meets (c s) tt _ _ (of.1 s (first t u h)) _ _ (all_meet tests s (second t u h)))
  form_meets (Call name args) s h = fixed_met (Call name args) s
      (beside_call S m s p name _ _ (all_meet args s h))
  form_meets (ElemC name content) s h = fixed_met (ElemC name content) s
      (let t = name_gives kf sf name.0 s in let u = expr_gives kf sf content.0 s in
      element_meets (c s) tt (beside_made S m s) p p (beside_agree S m s p) _ _ (name.1 s (first t u h)) _ _
      (content.1 s (second t u h)))
  form_meets (AttrC name content) s h = fixed_met (AttrC name content) s
      (let t = name_gives kf sf name.0 s in let u = expr_gives kf sf content.0 s in
      attribute_meets (c s) tt (beside_made S m s) p p (beside_agree S m s p) _ _ (name.1 s (first t u h)) _ _
      (content.1 s (second t u h)))
  form_meets (PiC name content) s h = fixed_met (PiC name content) s
      (let t = name_gives kf sf name.0 s in let u = expr_gives kf sf content.0 s in
      pi_meets (c s) tt (beside_made S m s) _ _ (name.1 s (first t u h)) _ _
      (content.1 s (second t u h)))
  form_meets (DocC content) s h = fixed_met (DocC content) s
      (document_meets (c s) tt (beside_made S m s) _ _ (content.1 s h))
  form_meets (TextC content) s h = fixed_met (TextC content) s
      (text_meets (c s) tt (beside_made S m s) _ _ (content.1 s h))
  form_meets (CommentC content) s h = fixed_met (CommentC content) s
      (comment_meets (c s) tt (beside_made S m s) _ _ (content.1 s h))
  form_meets (Direct name attrs parts) s h = fixed_met (Direct name attrs parts) s
      (let t = all_fit S m.after (map (attr_gives kf sf) (map (λ y. y.0) attrs)) s in
      let u = all_fit S m.after (map (part_gives kf sf) (map (λ y. y.0) parts)) s in
      direct_meets (c s) tt (beside_made S m s) name (λ z. absurd z) _ _
      (attrs_meet attrs s (first t u h)) _ _ (parts_meet parts s (second t u h)))

  expr_step : (x : ExprForm) (y : ExprLayer known) → plain y ≡ x → ExprMoves (roll-Expr x)
  expr_step x y is s h =
      rw (← is, expr_rolled meanings means (plain y), expr_rolled ks ss (plain y)) (form_meets y s
      (asked_by _ _ (ap (λ z. expr_gives kf sf (roll-Expr z) s) (sym is)
      ∙ ap (λ g. g s) (expr_rolled kf sf (plain y))) h))

  abbrev plain_arm : ArmLayer known → ArmForm
  plain_arm = map-Arm known.Clauses known.Exprs known.Names known.Parts known.Arms known.Binds known.Attrs known.Flwors known.Orders
      Clause Expr NameSource Part Arm Bind DirectAttr FlworOf Order
      (λ y. y.0) (λ y. y.0) (λ y. y.0) (λ y. y.0) (λ y. y.0) (λ y. y.0) (λ y. y.0) (λ y. y.0)
      (λ y. y.0)

  arm_step : (x : ArmForm) (y : ArmLayer known) → plain_arm y ≡ x → ArmMoves (roll-Arm x)
  arm_step x y is s h =
      let t = expr_gives kf sf y.test.0 s in let u = expr_gives kf sf y.then.0 s in
      let r : Asked (t && u) = asked_by _ _ (ap (λ z. arm_gives kf sf (roll-Arm z) s) (sym is)
      ∙ ap (λ g. g s) (arm_rolled kf sf (plain_arm y))) h in
      rw (
        ← is,
        arm_rolled meanings means (plain_arm y),
        arm_rolled ks ss (plain_arm y),
        arm_rolled meanings means (record { test = image y.test.0 s; then = image y.then.0 s }),
      )
      (y.test.1 s (first t u r), y.then.1 s (second t u r))

  abbrev plain_bind : BindLayer known → BindForm
  plain_bind = map-Bind known.Clauses known.Exprs known.Names known.Parts known.Arms known.Binds known.Attrs known.Flwors known.Orders
      Clause Expr NameSource Part Arm Bind DirectAttr FlworOf Order
      (λ y. y.0) (λ y. y.0) (λ y. y.0) (λ y. y.0) (λ y. y.0) (λ y. y.0) (λ y. y.0) (λ y. y.0)
      (λ y. y.0)

  bind_step : (x : BindForm) (y : BindLayer known) → plain_bind y ≡ x → BindMoves (roll-Bind x)
  bind_step x y is =
      rw (
        ← is,
        bind_rolled meanings means (plain_bind y),
        bind_rolled ks ss (plain_bind y),
        bind_rolled kf sf (plain_bind y),
      ) (
        refl,
        refl,
        λ s h. (
          outcome p (image y.source.0 s),
          y.source.1 s h,
          bind_rolled meanings means (record { var = y.var; kind = y.kind; source = image y.source.0 s }),
        ),
      )

  abbrev plain_order : OrderLayer known → OrderForm
  plain_order = map-Order known.Clauses known.Exprs known.Names known.Parts known.Arms known.Binds known.Attrs known.Flwors known.Orders
      Clause Expr NameSource Part Arm Bind DirectAttr FlworOf Order
      (λ y. y.0) (λ y. y.0) (λ y. y.0) (λ y. y.0) (λ y. y.0) (λ y. y.0) (λ y. y.0) (λ y. y.0)
      (λ y. y.0)

  order_step : (x : OrderForm) (y : OrderLayer known) → plain_order y ≡ x → OrderMoves (roll-Order x)
  order_step x y is s h =
      rw (
        ← is,
        order_rolled meanings means (plain_order y),
        order_rolled ks ss (plain_order y),
        order_rolled meanings means (record { key = image y.key.0 s; descending = y.descending }),
      ) (
        y.key.1 s (asked_by _ _ (ap (λ z. order_gives kf sf (roll-Order z) s) (sym is)
            ∙ ap (λ g. g s) (order_rolled kf sf (plain_order y))) h),
        refl,
      )

  abbrev plain_attr : AttrLayer known → AttrForm
  plain_attr = map-DirectAttr known.Clauses known.Exprs known.Names known.Parts known.Arms known.Binds known.Attrs known.Flwors known.Orders
      Clause Expr NameSource Part Arm Bind DirectAttr FlworOf Order
      (λ y. y.0) (λ y. y.0) (λ y. y.0) (λ y. y.0) (λ y. y.0) (λ y. y.0) (λ y. y.0) (λ y. y.0)
      (λ y. y.0)

  attr_step : (x : AttrForm) (y : AttrLayer known) → plain_attr y ≡ x → AttrMoves (roll-DirectAttr x)
  attr_step x y is s h =
      rw (
        ← is,
        attr_rolled meanings means (plain_attr y),
        attr_rolled ks ss (plain_attr y),
        attr_rolled meanings means (record {
          name = y.name;
          parts = map (λ q. q s)
              (map (part_gives ks ss) (map (λ y. y.0) y.parts));
        }),
      ) (
        refl,
        (λ z. absurd z),
        parts_meet y.parts s
            (asked_by _ _ (ap (λ z. attr_gives kf sf (roll-DirectAttr z) s) (sym is)
            ∙ ap (λ g. g s) (attr_rolled kf sf (plain_attr y))) h),
      )

  abbrev plain_name : NameLayer known → NameForm
  plain_name = map-NameSource known.Clauses known.Exprs known.Names known.Parts known.Arms known.Binds known.Attrs known.Flwors known.Orders
      Clause Expr NameSource Part Arm Bind DirectAttr FlworOf Order
      (λ y. y.0) (λ y. y.0) (λ y. y.0) (λ y. y.0) (λ y. y.0) (λ y. y.0) (λ y. y.0) (λ y. y.0)
      (λ y. y.0)

  name_meets : (y : NameLayer known) (s : S) → Asked (sf.of_name (name_layer kf sf (plain_name y)) s) →
      NameMeets (c s) tt (means.of_name (name_layer meanings means (plain_name y)))
      (name_gives meanings means (ss.of_name (name_layer ks ss (plain_name y)) s))
  name_meets (Fixed n) s h = rw (name_rolled meanings means (Fixed n)) (refl, λ z. absurd z)
  name_meets (Computed e) s h = rw (name_rolled meanings means (Computed (image e.0 s))) (e.1 s h)

  name_step : (x : NameForm) (y : NameLayer known) → plain_name y ≡ x → NameMoves (roll-NameSource x)
  name_step x y is s h =
      rw (← is, name_rolled meanings means (plain_name y), name_rolled ks ss (plain_name y))
      (name_meets y s (asked_by _ _ (ap (λ z. name_gives kf sf (roll-NameSource z) s) (sym is)
      ∙ ap (λ g. g s) (name_rolled kf sf (plain_name y))) h))

  abbrev plain_part : PartLayer known → PartForm
  plain_part = map-Part known.Clauses known.Exprs known.Names known.Parts known.Arms known.Binds known.Attrs known.Flwors known.Orders
      Clause Expr NameSource Part Arm Bind DirectAttr FlworOf Order
      (λ y. y.0) (λ y. y.0) (λ y. y.0) (λ y. y.0) (λ y. y.0) (λ y. y.0) (λ y. y.0) (λ y. y.0)
      (λ y. y.0)

  part_meets : (y : PartLayer known) (s : S) → Asked (sf.of_part (part_layer kf sf (plain_part y)) s) →
      PartMeets (c s) tt (means.of_part (part_layer meanings means (plain_part y)))
      (part_gives meanings means (ss.of_part (part_layer ks ss (plain_part y)) s))
  part_meets (Chars t) s h = rw (part_rolled meanings means (Chars t)) (refl, λ z. absurd z)
  part_meets (Enclosed e) s h = rw (part_rolled meanings means (Enclosed (image e.0 s))) (e.1 s h)
  part_meets (Child e) s h = rw (part_rolled meanings means (Child (image e.0 s))) (e.1 s h)

  part_step : (x : PartForm) (y : PartLayer known) → plain_part y ≡ x → PartMoves (roll-Part x)
  part_step x y is s h =
      rw (← is, part_rolled meanings means (plain_part y), part_rolled ks ss (plain_part y))
      (part_meets y s (asked_by _ _ (ap (λ z. part_gives kf sf (roll-Part z) s) (sym is)
      ∙ ap (λ g. g s) (part_rolled kf sf (plain_part y))) h))

  abbrev plain_clause : ClauseLayer known → ClauseForm
  plain_clause = map-Clause known.Clauses known.Exprs known.Names known.Parts known.Arms known.Binds known.Attrs known.Flwors known.Orders
      Clause Expr NameSource Part Arm Bind DirectAttr FlworOf Order
      (λ y. y.0) (λ y. y.0) (λ y. y.0) (λ y. y.0) (λ y. y.0) (λ y. y.0) (λ y. y.0) (λ y. y.0)
      (λ y. y.0)

  -- a binding, taken apart
  abbrev Source : Bind → S → Type 0
  Source b s = (y : Meaning) × Met S m s (bind_gives meanings means b).source y
      × (bind_gives meanings means ((bind_gives ks ss b).1 s)
      ≡ record { var = (bind_gives meanings means b).var; kind = (bind_gives meanings means b).kind; source = y })

  clause_meets : (y : ClauseLayer known) (s : S) →
      Asked ((sf.of_clause (clause_layer kf sf (plain_clause y))).0 s) →
      ((sf.of_clause (clause_layer kf sf (plain_clause y))).1 s
      ≡ (ss.of_clause (clause_layer ks ss (plain_clause y))).1 s)
      × ((end : S) (e f : Env) (t u : Tuples) →
      TuplesMove S m end e f ((ss.of_clause (clause_layer ks ss (plain_clause y))).1 s) t u →
      TuplesMove S m end e f s (means.of_clause (clause_layer meanings means (plain_clause y)) t)
      (clause_gives meanings means ((ss.of_clause (clause_layer ks ss (plain_clause y))).0 s) u))
  clause_meets (For b None) s h =
      let q : Source b.0 s = b.1.2 s h in (
        ap (λ v. m.after v s) (b.1.0 ∙ sym b.1.1),
        λ end e f t u n.
            rw (clause_rolled meanings means (For ((bind_gives ks ss b.0).1 s) None), q.2)
            (for_moves S m end e f s (bind_gives meanings means b.0).var (bind_gives meanings means b.0).kind
            (bind_gives meanings means b.0).source q.0 q.1 t u
            (subst (λ v. TuplesMove S m end e f (m.after v s) t u) b.1.1 n)),
      )
  clause_meets (For b (Some at)) s h =
      let q : Source b.0 s = b.1.2 s h in (
        ap (λ v. m.after at (m.after v s)) (b.1.0 ∙ sym b.1.1),
        λ end e f t u n.
            rw (clause_rolled meanings means (For ((bind_gives ks ss b.0).1 s) (Some at)), q.2)
            (at_moves S m end e f s (bind_gives meanings means b.0).var at (bind_gives meanings means b.0).kind
            (bind_gives meanings means b.0).source q.0 q.1 t u
            (subst (λ v. TuplesMove S m end e f (m.after at (m.after v s)) t u) b.1.1 n)),
      )
  clause_meets (Let b) s h =
      let q : Source b.0 s = b.1.2 s h in (
        ap (λ v. m.after v s) (b.1.0 ∙ sym b.1.1),
        λ end e f t u n.
            rw (clause_rolled meanings means (Let ((bind_gives ks ss b.0).1 s)), q.2)
            (let_moves S m end e f s (bind_gives meanings means b.0).var (bind_gives meanings means b.0).kind
            (bind_gives meanings means b.0).source q.0 q.1 t u
            (subst (λ v. TuplesMove S m end e f (m.after v s) t u) b.1.1 n)),
      )

  clause_step : (x : ClauseForm) (y : ClauseLayer known) → plain_clause y ≡ x → ClauseMoves (roll-Clause x)
  clause_step x y is s h =
      rw (
        ← is,
        clause_rolled meanings means (plain_clause y),
        clause_rolled ks ss (plain_clause y),
        clause_rolled kf sf (plain_clause y),
      )
      (clause_meets y s (asked_by _ _ (ap (λ z. (clause_gives kf sf (roll-Clause z)).0 s) (sym is)
      ∙ ap (λ g. g.0 s) (clause_rolled kf sf (plain_clause y))) h))

  -- the clauses of an expression, one after another
  abbrev fit_clauses : List known.Clauses → List kf.Clauses
  fit_clauses ys = map (clause_gives kf sf) (map (λ y. y.0) ys)

  abbrev moved_clauses : List known.Clauses → List ks.Clauses
  moved_clauses ys = map (clause_gives ks ss) (map (λ y. y.0) ys)

  flow_moves : (ys : List known.Clauses) (rest : S → Bool) (s : S) →
      Asked (clauses_fit S m.after (fit_clauses ys) rest s) →
      Asked (rest (behind_clauses S m.after (moved_clauses ys) s))
      × ((end : S) (e f : Env) (t u : Tuples) →
      TuplesMove S m end e f (behind_clauses S m.after (moved_clauses ys) s) t u →
      TuplesMove S m end e f s (flow_of (map (clause_gives meanings means) (map (λ y. y.0) ys)) t)
      (flow_of (map (clause_gives meanings means) (clauses_at S m.after (moved_clauses ys) s)) u))
  flow_moves [] rest s h = (h, λ end e f t u n. n)
  flow_moves (y ∷ ys) rest s h =
      let a = (clause_gives kf sf y.0).0 s in
      let b = clauses_fit S m.after (fit_clauses ys) rest ((clause_gives kf sf y.0).1 s) in
      let one = y.1 s (first a b h) in
      let more = flow_moves ys rest ((clause_gives ks ss y.0).1 s)
      (subst (λ z. Asked (clauses_fit S m.after (fit_clauses ys) rest z)) one.0 (second a b h)) in
      (more.0, λ end e f t u n. one.1 end e f _ _ (more.1 end e f t u n))

  abbrev plain_flwor : FlworLayer known → FlworForm
  plain_flwor = map-Flwor known.Clauses known.Exprs known.Names known.Parts known.Arms known.Binds known.Attrs known.Flwors known.Orders
      Clause Expr NameSource Part Arm Bind DirectAttr FlworOf Order
      (λ y. y.0) (λ y. y.0) (λ y. y.0) (λ y. y.0) (λ y. y.0) (λ y. y.0) (λ y. y.0) (λ y. y.0)
      (λ y. y.0)

  flwor_known : (cs : List known.Clauses) (test : Option known.Exprs) (os : List known.Orders) (st : Bool)
      (b : known.Exprs) (s : S) →
      Asked (sf.of_flwor (flwor_layer kf sf (plain_flwor (record { clauses = cs; test = test; orders = os; stable = st; body = b }))) s) →
      Met S m s (means.of_flwor (flwor_layer meanings means (plain_flwor (record { clauses = cs; test = test; orders = os; stable = st; body = b }))))
      (flwor_gives meanings means (ss.of_flwor (flwor_layer ks ss (plain_flwor (record { clauses = cs; test = test; orders = os; stable = st; body = b }))) s))
  flwor_known cs None os st b s h =
      let end = behind_clauses S m.after (moved_clauses cs) s in
      let o = λ (z : S). all_fit S m.after (map (order_gives kf sf) (map (λ y. y.0) os)) z in
      let w = λ (z : S). expr_gives kf sf b.0 z in
      let flow = flow_moves cs (λ z. true && (o z && w z)) s h in
      let r = second true (o end && w end) flow.0 in
      rw (flwor_rolled meanings means (record {
        clauses = clauses_at S m.after (moved_clauses cs) s;
        test = None;
        orders = map (λ q. q end) (map (order_gives ks ss) (map (λ y. y.0) os));
        stable = st;
        body = image b.0 end;
      }))
      (λ e f q k. itself _ _ (flwor_same S m end e f s
      (map (clause_gives meanings means) (map (λ y. y.0) cs))
      (map (clause_gives meanings means) (clauses_at S m.after (moved_clauses cs) s)) None None tt _ _
      (orders_meet os end (first (o end) (w end) r)) _ _ (b.1 end (second (o end) (w end) r))
      (flow.1 end e f) q k))
  flwor_known cs (Some test) os st b s h =
      let end = behind_clauses S m.after (moved_clauses cs) s in
      let v = λ (z : S). expr_gives kf sf test.0 z in
      let o = λ (z : S). all_fit S m.after (map (order_gives kf sf) (map (λ y. y.0) os)) z in
      let w = λ (z : S). expr_gives kf sf b.0 z in
      let flow = flow_moves cs (λ z. v z && (o z && w z)) s h in
      let r = second (v end) (o end && w end) flow.0 in
      rw (flwor_rolled meanings means (record {
        clauses = clauses_at S m.after (moved_clauses cs) s;
        test = Some (image test.0 end);
        orders = map (λ q. q end) (map (order_gives ks ss) (map (λ y. y.0) os));
        stable = st;
        body = image b.0 end;
      }))
      (λ e f q k. itself _ _ (flwor_same S m end e f s
      (map (clause_gives meanings means) (map (λ y. y.0) cs))
      (map (clause_gives meanings means) (clauses_at S m.after (moved_clauses cs) s)) (Some _) (Some _)
      (test.1 end (first (v end) (o end && w end) flow.0)) _ _
      (orders_meet os end (first (o end) (w end) r)) _ _ (b.1 end (second (o end) (w end) r))
      (flow.1 end e f) q k))

  flwor_step : (x : FlworForm) (y : FlworLayer known) → plain_flwor y ≡ x → FlworMoves (roll-Flwor x)
  flwor_step x y is s h =
      rw (← is, flwor_rolled meanings means (plain_flwor y), flwor_rolled ks ss (plain_flwor y))
      (flwor_known y.clauses y.test y.orders y.stable y.body s
      (asked_by _ _ (ap (λ z. flwor_gives kf sf (roll-Flwor z) s) (sym is)
      ∙ ap (λ g. g s) (flwor_rolled kf sf (plain_flwor y))) h))

  pub whole_moves : (e : Expr) → ExprMoves e
  whole_moves = ind-Expr ClauseMoves ExprMoves NameMoves PartMoves ArmMoves BindMoves AttrMoves FlworMoves
      OrderMoves clause_step expr_step name_step part_step arm_step bind_step attr_step flwor_step order_step

  whole_clause : (x : Clause) → ClauseMoves x
  whole_clause = ind-Clause ClauseMoves ExprMoves NameMoves PartMoves ArmMoves BindMoves AttrMoves FlworMoves
      OrderMoves clause_step expr_step name_step part_step arm_step bind_step attr_step flwor_step order_step

  whole_order : (x : Order) → OrderMoves x
  whole_order = ind-Order ClauseMoves ExprMoves NameMoves PartMoves ArmMoves BindMoves AttrMoves FlworMoves
      OrderMoves clause_step expr_step name_step part_step arm_step bind_step attr_step flwor_step order_step

  -- clauses and orders of an expression
  plain_flow : (cs : List Clause) (rest : S → Bool) (s : S) →
      Asked (clauses_fit S m.after (map (clause_gives kf sf) cs) rest s) →
      Asked (rest (behind_clauses S m.after (map (clause_gives ks ss) cs) s))
      × ((end : S) (e f : Env) (t u : Tuples) →
      TuplesMove S m end e f (behind_clauses S m.after (map (clause_gives ks ss) cs) s) t u →
      TuplesMove S m end e f s (flow_of (map (clause_gives meanings means) cs) t)
      (flow_of (map (clause_gives meanings means) (clauses_at S m.after (map (clause_gives ks ss) cs) s)) u))
  plain_flow [] rest s h = (h, λ end e f t u n. n)
  plain_flow (y ∷ ys) rest s h =
      let a = (clause_gives kf sf y).0 s in
      let b = clauses_fit S m.after (map (clause_gives kf sf) ys) rest ((clause_gives kf sf y).1 s) in
      let one = whole_clause y s (first a b h) in
      let more = plain_flow ys rest ((clause_gives ks ss y).1 s)
      (subst (λ z. Asked (clauses_fit S m.after (map (clause_gives kf sf) ys) rest z)) one.0 (second a b h)) in
      (more.0, λ end e f t u n. one.1 end e f _ _ (more.1 end e f t u n))

  plain_orders : (ys : List Order) (s : S) →
      Asked (all_fit S m.after (map (order_gives kf sf) ys) s) →
      OrdersMeet (c s) tt (map (order_gives meanings means) ys)
      (map (order_gives meanings means) (map (λ y. y s) (map (order_gives ks ss) ys)))
  plain_orders [] s h = tt
  plain_orders (y ∷ ys) s h =
      let a = order_gives kf sf y s in
      let b = all_fit S m.after (map (order_gives kf sf) ys) s in
      (whole_order y s (first a b h), plain_orders ys s (second a b h))

  -- what a FLWOR expression becomes, and that it does the same by its parts
  abbrev pub Flown : FlworForm → S → Type 0
  Flown f s = (g : FlworForm) × (flwor_gives ks ss (roll-Flwor f) s ≡ roll-Flwor g)
      × FlowMoved S m p s f g

  flown : (cs : List Clause) (test : Option Expr) (os : List Order) (st : Bool) (b : Expr) (s : S) →
      Asked (flwor_gives kf sf (roll-Flwor (record { clauses = cs; test = test; orders = os; stable = st; body = b })) s) →
      Flown (record { clauses = cs; test = test; orders = os; stable = st; body = b }) s
  flown cs None os st b s h =
      let end = behind_clauses S m.after (map (clause_gives ks ss) cs) s in
      let o = λ (z : S). all_fit S m.after (map (order_gives kf sf) os) z in
      let w = λ (z : S). expr_gives kf sf b z in
      let flow = plain_flow cs (λ z. true && (o z && w z)) s (asked_by _ _ (ap (λ g. g s) (flwor_rolled kf sf
      (record { clauses = cs; test = None; orders = os; stable = st; body = b }))) h) in
      let r = second true (o end && w end) flow.0 in (
        record {
          clauses = clauses_at S m.after (map (clause_gives ks ss) cs) s;
          test = None;
          orders = map (λ q. q end) (map (order_gives ks ss) os);
          stable = st;
          body = image b end;
        },
        ap (λ g. g s) (flwor_rolled ks ss (record { clauses = cs; test = None; orders = os; stable = st; body = b })),
        record {
          end = end;
          test = tt;
          orders = plain_orders os end (first (o end) (w end) r);
          body = whole_moves b end (second (o end) (w end) r);
          clauses = flow.1 end;
        },
      )
  flown cs (Some test) os st b s h =
      let end = behind_clauses S m.after (map (clause_gives ks ss) cs) s in
      let v = λ (z : S). expr_gives kf sf test z in
      let o = λ (z : S). all_fit S m.after (map (order_gives kf sf) os) z in
      let w = λ (z : S). expr_gives kf sf b z in
      let flow = plain_flow cs (λ z. v z && (o z && w z)) s (asked_by _ _ (ap (λ g. g s) (flwor_rolled kf sf
      (record { clauses = cs; test = Some test; orders = os; stable = st; body = b }))) h) in
      let r = second (v end) (o end && w end) flow.0 in (
        record {
          clauses = clauses_at S m.after (map (clause_gives ks ss) cs) s;
          test = Some (image test end);
          orders = map (λ q. q end) (map (order_gives ks ss) os);
          stable = st;
          body = image b end;
        },
        ap (λ g. g s) (flwor_rolled ks ss (record { clauses = cs; test = Some test; orders = os; stable = st; body = b })),
        record {
          end = end;
          test = whole_moves test end (first (v end) (o end && w end) flow.0);
          orders = plain_orders os end (first (o end) (w end) r);
          body = whole_moves b end (second (o end) (w end) r);
          clauses = flow.1 end;
        },
      )

  pub flow_moved : (f : FlworForm) (s : S) → flwor_gives kf sf (roll-Flwor f) s ≡ true → Flown f s
  flow_moved f s h = flown f.clauses f.test f.orders f.stable f.body s (inr h)

  pub always_moved : ((s : S) (n : ExprName) → good s n ≡ true) → (e : Expr) (s : S) →
      Met S m s (outcome p e) (outcome p (image e s))
  always_moved h e s = whole_moves e s (inl h)
