-- A leaf does the same on both sides.
use Rattle.std.proofs.Common.{◌≡◌, ℕ, List, [], ◌∷◌, refl, map, sym, ap, ◌∙◌, length}
use Rattle.std.proofs.lemmas.List.{length-map}
use Rattle.xt_names.specs.Classes.{is_xml_text}
use Rattle.std.specs.Prelude.{ℤ, Bool, true, false, ◌&&◌, Option, Some, None, Result}
use Rattle.xt_atoms.specs.declared.atoms.Atom.TheVariants as atom
use Rattle.xdm_items.specs.declared.items.Item.{Item}
use Rattle.xdm_items.specs.declared.items.Item.TheVariants.{Atom}
use Rattle.expr_meaning.specs.Values.{binary}
use Rattle.xt_names.specs.declared.codes.Code.{Code}
use Rattle.xt_syntax.specs.declared.exprs.Expr.{Expr}
use Rattle.xt_syntax.specs.declared.exprs.Arm.{Arm}
use Rattle.xt_syntax.specs.declared.exprs.Clause.{Clause}
use Rattle.xt_syntax.specs.declared.exprs.Order.{Order}
use Rattle.xt_syntax.specs.declared.exprs.Flwor.{Flwor as FlworOf}
use Rattle.xt_syntax.specs.declared.exprs.Bind.{Bind}
use Rattle.xt_syntax.specs.declared.exprs.NameSource.{NameSource}
use Rattle.xt_syntax.specs.declared.exprs.DirectAttr.{DirectAttr}
use Rattle.xt_syntax.specs.declared.exprs.Part.{Part}
use Rattle.xt_syntax.specs.declared.exprs.Clause.TheOpen.{Int, Str, Var, Context, Root, Comma, Or}
use Rattle.xt_syntax.specs.declared.exprs.Clause.TheOpen.{And, If, Flwor, Quant, General, Value}
use Rattle.xt_syntax.specs.declared.exprs.Clause.TheOpen.{Is}
use Rattle.xt_syntax.specs.declared.exprs.Clause.TheOpen.{Before, After, Range, Arith, Minus}
use Rattle.xt_syntax.specs.declared.exprs.Clause.TheOpen.{Plus}
use Rattle.xt_syntax.specs.declared.exprs.Clause.TheOpen.{Union, Intersect, Except, InstanceOf}
use Rattle.xt_syntax.specs.declared.exprs.Clause.TheOpen.{Treat, Castable, Cast, Slash, Step}
use Rattle.xt_syntax.specs.declared.exprs.Clause.TheOpen.{Filter, Call, ElemC, AttrC, DocC, TextC}
use Rattle.xt_syntax.specs.declared.exprs.Clause.TheOpen.{CommentC, PiC, Direct, For, Let}
use Rattle.xt_syntax.specs.declared.exprs.Clause.TheViews.{roll-Expr, roll-Arm, roll-Clause}
use Rattle.xt_syntax.specs.declared.exprs.Clause.TheViews.{roll-Flwor, roll-Bind}
use Rattle.xt_syntax.specs.declared.exprs.Clause.TheFolds.{ind-Expr}
use Rattle.xt_syntax.specs.declared.exprs.Clause.TheFolds.{map-Expr, map-Arm, map-Clause}
use Rattle.xt_syntax.specs.declared.exprs.Clause.TheFolds.{map-Flwor, map-Bind}
use Rattle.xt_syntax.specs.Layers.{Kinds, ExprLayer, ClauseLayer}
use Rattle.xt_syntax.specs.Layers.{ArmLayer, BindLayer, FlworLayer}
use Rattle.xt_syntax.specs.Layers.{clause_gives, arm_gives}
use Rattle.xt_syntax.specs.Layers.{bind_gives, flwor_gives}
use Rattle.operator_values.specs.Comparisons.{general_value, single_value}
use Rattle.operator_values.specs.Nodes.{is_value, before_value, after_value, union_value}
use Rattle.operator_values.specs.Nodes.{intersect_value, except_value}
use Rattle.operator_values.specs.Numbers.{arithmetic_value, range_value, negated_value}
use Rattle.operator_values.specs.Numbers.{signed_value}
use Rattle.operator_values.specs.Types.{instance_value, treated_value, cast_value, castable_value}
use Rattle.expr_meaning.specs.Env.{Program}
use Rattle.expr_meaning.specs.Meaning.{meanings}
use Rattle.expr_meaning.specs.Meaning.{steps, outcome}
use Rattle.expr_laws.proofs.Logic.{ArmsMeet, BoundMeet, AllBoundMeet, or_meets, and_meets}
use Rattle.expr_laws.proofs.Logic.{choice_meets, quantifier_meets}
use Rattle.expr_laws.proofs.Values.{just_meets, variable_meets, context_meets, comma_meets}
use Rattle.expr_laws.proofs.Values.{unary_meets, binary_meets}
use Rattle.expr_laws.proofs.Paths.{root_meets, filter_meets, step_meets, slash_meets}
use Rattle.expr_laws.proofs.Flow.{ClauseMeets, ClausesMeet, for_meets}
use Rattle.expr_laws.proofs.Flow.{flwor_meets}
use Rattle.expr_meaning.specs.Outcomes.Follow.{Relation, IsCarrying}
use Rattle.expr_meaning.specs.Calls.{called}
use Rattle.expr_laws.specs.Carrier.{Carrier, IsKept, AllMeet, KeepsBoth, Meet}
use Rattle.expr_laws.proofs.Texts.{ExprForm, ArmForm, BindForm, FlworForm, ClauseForm}
use Rattle.expr_laws.proofs.Rolled.{means, rolled, rolled_arm, rolled_bind, flwor_value, rolled_flwor}
use Rattle.expr_laws.proofs.Rolled.{clause_value, rolled_clause}
use Rattle.way_back.specs.Leaves.{all_at, call_at, has_local, is_missing, is_leaf_at, is_leaf_arm}
use Rattle.way_back.specs.Leaves.{is_leaf_bind, is_leaf_clause, is_leaf_flwor}
use Rattle.way_back.specs.Places.{ProgramsSame}
use Rattle.way_back.proofs.LeafRolled.{leaf_expr_value, leaf_expr_rolled, leaf_arm_rolled}
use Rattle.way_back.proofs.LeafRolled.{leaf_bind_rolled, leaf_flwor_value, leaf_flwor_rolled}
use Rattle.way_back.proofs.LeafRolled.{leaf_clause_value, leaf_clause_rolled}
use Rattle.way_back.proofs.Places.{back, meet, sees}
use Rattle.way_back.proofs.Calls.{call_same}
use Rattle.xt_names.proofs.BoolLemmas.{and_first as first, and_second as second}

module _ (like : Code → Code → Type 0) (lax : (a b : Code) → like a b) (rel : Relation)
    (carries : IsCarrying like rel) (good : Item → Type 0) (keeps : IsKept good) (p q : Program)
    (programs : ProgramsSame rel good p q) (integers : (n : ℤ) → good (Atom (atom.Int n)))
    (texts : (t : List ℕ) → is_xml_text t ≡ true → good (Atom (atom.Str t))) where
  abbrev here : Carrier
  here = back like lax rel carries good keeps

  abbrev ExprSame : Expr → Type 0
  ExprSame e = (s : Bool) → is_leaf_at e s ≡ true → Meet here s (outcome p e) (outcome q e)

  abbrev ClauseSame : Clause → Type 0
  ClauseSame x = (s : Bool) → is_leaf_clause x s ≡ true →
      ClauseMeets here s (clause_gives meanings (steps p) x) (clause_gives meanings (steps q) x)

  abbrev ArmSame : Arm → Type 0
  ArmSame x = (s : Bool) → is_leaf_arm x s ≡ true →
      Meet here s (arm_gives meanings (steps p) x).0 (arm_gives meanings (steps q) x).0
      × Meet here s (arm_gives meanings (steps p) x).1 (arm_gives meanings (steps q) x).1

  abbrev BindSame : Bind → Type 0
  BindSame x = (s : Bool) → is_leaf_bind x s ≡ true →
      BoundMeet here s (bind_gives meanings (steps p) x) (bind_gives meanings (steps q) x)

  abbrev FlworSame : FlworOf → Type 0
  FlworSame x = (s : Bool) → is_leaf_flwor x s ≡ true →
      Meet here s (flwor_gives meanings (steps p) x) (flwor_gives meanings (steps q) x)

  -- parts, each with what is known of it; of constructors nothing is
  abbrev known : Kinds
  known = record {
    Clauses = (x : Clause) × ClauseSame x;
    Exprs = (x : Expr) × ExprSame x;
    Names = (x : NameSource) × Unit {0};
    Parts = (x : Part) × Unit {0};
    Arms = (x : Arm) × ArmSame x;
    Binds = (x : Bind) × BindSame x;
    Attrs = (x : DirectAttr) × Unit {0};
    Flwors = (x : FlworOf) × FlworSame x;
    Orders = (x : Order) × Unit {0};
  }

  -- lists of parts
  abbrev of_all : List known.Exprs → List Expr
  of_all ys = map (λ y. y.0) ys

  all_same : (ys : List known.Exprs) (s : Bool) → all_at (map is_leaf_at (of_all ys)) s ≡ true →
      AllMeet here s (map (outcome p) (of_all ys)) (map (outcome q) (of_all ys))
  all_same [] s h = tt
  all_same (y ∷ ys) s h =
      let a = is_leaf_at y.0 s in let b = all_at (map is_leaf_at (of_all ys)) s in
      (y.1 s (first a b h), all_same ys s (second a b h))

  arms_same : (ys : List known.Arms) (s : Bool) →
      all_at (map is_leaf_arm (map (λ y. y.0) ys)) s ≡ true →
      ArmsMeet here s (map (arm_gives meanings (steps p)) (map (λ y. y.0) ys))
      (map (arm_gives meanings (steps q)) (map (λ y. y.0) ys))
  arms_same [] s h = tt
  arms_same (y ∷ ys) s h =
      let a = is_leaf_arm y.0 s in let b = all_at (map is_leaf_arm (map (λ y. y.0) ys)) s in
      (y.1 s (first a b h), arms_same ys s (second a b h))

  binds_same : (ys : List known.Binds) (s : Bool) →
      all_at (map is_leaf_bind (map (λ y. y.0) ys)) s ≡ true →
      AllBoundMeet here s (map (bind_gives meanings (steps p)) (map (λ y. y.0) ys))
      (map (bind_gives meanings (steps q)) (map (λ y. y.0) ys))
  binds_same [] s h = tt
  binds_same (y ∷ ys) s h =
      let a = is_leaf_bind y.0 s in let b = all_at (map is_leaf_bind (map (λ y. y.0) ys)) s in
      (y.1 s (first a b h), binds_same ys s (second a b h))

  clauses_same : (ys : List known.Clauses) (s : Bool) →
      all_at (map is_leaf_clause (map (λ y. y.0) ys)) s ≡ true →
      ClausesMeet here s (map (clause_gives meanings (steps p)) (map (λ y. y.0) ys))
      (map (clause_gives meanings (steps q)) (map (λ y. y.0) ys))
  clauses_same [] s h = tt
  clauses_same (y ∷ ys) s h =
      let a = is_leaf_clause y.0 s in let b = all_at (map is_leaf_clause (map (λ y. y.0) ys)) s in
      (y.1 s (first a b h), clauses_same ys s (second a b h))

  abbrev plain : ExprLayer known → ExprForm
  plain = map-Expr known.Clauses known.Exprs known.Names known.Parts known.Arms known.Binds known.Attrs known.Flwors known.Orders
      Clause Expr NameSource Part Arm Bind DirectAttr FlworOf Order
      (λ y. y.0) (λ y. y.0) (λ y. y.0) (λ y. y.0) (λ y. y.0) (λ y. y.0) (λ y. y.0) (λ y. y.0)
      (λ y. y.0)

  -- an operator on two values
  operands_same : (value : List Item → List Item → Result (List Item) Code) →
      KeepsBoth good value → (a b : known.Exprs) (s : Bool) →
      (is_leaf_at a.0 s && is_leaf_at b.0 s) ≡ true →
      Meet here s (binary value (outcome p a.0) (outcome p b.0))
      (binary value (outcome q a.0) (outcome q b.0))
  operands_same value k a b s h =
      let t = is_leaf_at a.0 s in let u = is_leaf_at b.0 s in
      binary_meets here s value k _ _ _ _ (a.1 s (first t u h)) (b.1 s (second t u h))

  form_same : (y : ExprLayer known) (s : Bool) → leaf_expr_value (plain y) s ≡ true →
      Meet here s (means p (plain y)) (means q (plain y))
  form_same (Int n) s h = just_meets here s (Atom (atom.Int n) ∷ []) (integers n, tt)
  form_same (Str t) s h = just_meets here s (Atom (atom.Str t) ∷ []) (texts t h, tt)
  form_same (Var name) s h =
      variable_meets here s p q (meet like lax rel carries good keeps p q programs) name h
  form_same Context true h = absurd cc
  form_same Context false h = context_meets here false (sees like lax rel carries good keeps)
  form_same Root true h = absurd cc
  form_same Root false h = root_meets here false (sees like lax rel carries good keeps)
  form_same (Comma all) s h = comma_meets here s _ _ (all_same all s h)
  form_same (Or all) s h = or_meets here s _ _ (all_same all s h)
  form_same (And all) s h = and_meets here s _ _ (all_same all s h)
  form_same (If arms other) s h =
      let a = all_at (map is_leaf_arm (map (λ y. y.0) arms)) s in let b = is_leaf_at other.0 s in
      choice_meets here s _ _ (arms_same arms s (first a b h)) _ _ (other.1 s (second a b h))
  form_same (Flwor f) s h = f.1 s h
  form_same (Quant every_one binds tested) s h =
      let a = all_at (map is_leaf_bind (map (λ y. y.0) binds)) s in
      let b = is_leaf_at tested.0 s in
      quantifier_meets here s every_one _ _ (binds_same binds s (first a b h)) _ _
      (tested.1 s (second a b h))
  form_same (General op a b) s h = operands_same (general_value op) (keeps.general op) a b s h
  form_same (Value op a b) s h = operands_same (single_value op) (keeps.single op) a b s h
  form_same (Is a b) s h = operands_same is_value keeps.is a b s h
  form_same (Before a b) s h = operands_same before_value keeps.before a b s h
  form_same (After a b) s h = operands_same after_value keeps.after a b s h
  form_same (Range a b) s h = operands_same range_value keeps.range a b s h
  form_same (Arith op a b) s h = operands_same (arithmetic_value op) (keeps.arithmetic op) a b s h
  form_same (Minus a) s h = unary_meets here s negated_value keeps.negated _ _ (a.1 s h)
  form_same (Plus a) s h = unary_meets here s signed_value keeps.signed _ _ (a.1 s h)
  form_same (Union a b) s h = operands_same union_value keeps.union a b s h
  form_same (Intersect a b) s h = operands_same intersect_value keeps.intersect a b s h
  form_same (Except a b) s h = operands_same except_value keeps.except a b s h
  form_same (InstanceOf a kind) s h =
      unary_meets here s (instance_value kind) (keeps.instance kind) _ _ (a.1 s h)
  form_same (Treat a kind) s h =
      unary_meets here s (treated_value kind) (keeps.treated kind) _ _ (a.1 s h)
  form_same (Castable a kind empty) s h =
      unary_meets here s (castable_value kind empty) (keeps.castable kind empty) _ _ (a.1 s h)
  form_same (Cast a kind empty) s h =
      unary_meets here s (cast_value kind empty) (keeps.cast kind empty) _ _ (a.1 s h)
  form_same (Slash a b) s h =
      let t = is_leaf_at a.0 s in let u = is_leaf_at b.0 false in
      slash_meets here s _ _ _ _ (a.1 s (first t u h)) (b.1 false (second t u h))
  form_same (Step axis wanted tests) true h = absurd cc
  form_same (Step axis wanted tests) false h =
      step_meets here false (sees like lax rel carries good keeps) axis wanted _ _
      (all_same tests false h)
  form_same (Filter of tests) s h =
      let t = is_leaf_at of.0 s in let u = all_at (map is_leaf_at (of_all tests)) false in
      filter_meets here s _ _ (of.1 s (first t u h)) _ _ (all_same tests false (second t u h))
  form_same (Call name args) s h =
      let n = length (map is_leaf_at (of_all args)) in
      let t = call_at (called name n) n s in
      let u = all_at (map is_leaf_at (of_all args)) s in
      let same : n ≡ length (map (outcome p) (of_all args)) =
      length-map (of_all args) is_leaf_at ∙ sym (length-map (of_all args) (outcome p)) in
      call_same like lax rel carries good keeps p q programs name s _ _
      (all_same args s (second t u h))
      (ap (λ l. call_at (called name l) l s) (sym same) ∙ first t u h)
  form_same (ElemC name content) s h = absurd cc
  form_same (AttrC name content) s h = absurd cc
  form_same (DocC content) s h = absurd cc
  form_same (TextC content) s h = absurd cc
  form_same (CommentC content) s h = absurd cc
  form_same (PiC name content) s h = absurd cc
  form_same (Direct name attrs parts) s h = absurd cc

  expr_step : (x : ExprForm) (y : ExprLayer known) → plain y ≡ x → ExprSame (roll-Expr x)
  expr_step x y is s h =
      let f : leaf_expr_value (plain y) s ≡ true =
      ap (λ (z : Bool → Bool). z s) (sym (leaf_expr_rolled (plain y)))
      ∙ ap (λ z. is_leaf_at (roll-Expr z) s) is ∙ h in
      rw (← is, rolled p (plain y), rolled q (plain y)) (form_same y s f)

  abbrev plain_arm : ArmLayer known → ArmForm
  plain_arm = map-Arm known.Clauses known.Exprs known.Names known.Parts known.Arms known.Binds known.Attrs known.Flwors known.Orders
      Clause Expr NameSource Part Arm Bind DirectAttr FlworOf Order
      (λ y. y.0) (λ y. y.0) (λ y. y.0) (λ y. y.0) (λ y. y.0) (λ y. y.0) (λ y. y.0) (λ y. y.0)
      (λ y. y.0)

  arm_step : (x : ArmForm) (y : ArmLayer known) → plain_arm y ≡ x → ArmSame (roll-Arm x)
  arm_step x y is s h =
      let t = is_leaf_at y.test.0 s in let u = is_leaf_at y.then.0 s in
      let f : (t && u) ≡ true =
      ap (λ (z : Bool → Bool). z s) (sym (leaf_arm_rolled (plain_arm y)))
      ∙ ap (λ z. is_leaf_arm (roll-Arm z) s) is ∙ h in
      rw (← is, rolled_arm p (plain_arm y), rolled_arm q (plain_arm y))
      (y.test.1 s (first t u f), y.then.1 s (second t u f))

  abbrev plain_bind : BindLayer known → BindForm
  plain_bind = map-Bind known.Clauses known.Exprs known.Names known.Parts known.Arms known.Binds known.Attrs known.Flwors known.Orders
      Clause Expr NameSource Part Arm Bind DirectAttr FlworOf Order
      (λ y. y.0) (λ y. y.0) (λ y. y.0) (λ y. y.0) (λ y. y.0) (λ y. y.0) (λ y. y.0) (λ y. y.0)
      (λ y. y.0)

  bind_step : (x : BindForm) (y : BindLayer known) → plain_bind y ≡ x → BindSame (roll-Bind x)
  bind_step x y is s h =
      let v = has_local y.var in let t = is_missing y.kind in let u = is_leaf_at y.source.0 s in
      let f : (v && (t && u)) ≡ true =
      ap (λ (z : Bool → Bool). z s) (sym (leaf_bind_rolled (plain_bind y)))
      ∙ ap (λ z. is_leaf_bind (roll-Bind z) s) is ∙ h in
      rw (← is, rolled_bind p (plain_bind y), rolled_bind q (plain_bind y))
      (refl, refl, first v (t && u) f, y.source.1 s (second t u (second v (t && u) f)))

  abbrev plain_flwor : FlworLayer known → FlworForm
  plain_flwor = map-Flwor known.Clauses known.Exprs known.Names known.Parts known.Arms known.Binds known.Attrs known.Flwors known.Orders
      Clause Expr NameSource Part Arm Bind DirectAttr FlworOf Order
      (λ y. y.0) (λ y. y.0) (λ y. y.0) (λ y. y.0) (λ y. y.0) (λ y. y.0) (λ y. y.0) (λ y. y.0)
      (λ y. y.0)

  abbrev a_flwor : List known.Clauses → Option known.Exprs → List known.Orders → Bool →
      known.Exprs → FlworLayer known
  a_flwor clauses tested orders stable body = record {
    clauses = clauses;
    test = tested;
    orders = orders;
    stable = stable;
    body = body;
  }

  flwor_same : (clauses : List known.Clauses) (tested : Option known.Exprs)
      (orders : List known.Orders) (stable : Bool) (body : known.Exprs) (s : Bool) →
      leaf_flwor_value (plain_flwor (a_flwor clauses tested orders stable body)) s ≡ true →
      Meet here s (flwor_value p (plain_flwor (a_flwor clauses tested orders stable body)))
      (flwor_value q (plain_flwor (a_flwor clauses tested orders stable body)))
  flwor_same clauses None [] stable body s h =
      let t = all_at (map is_leaf_clause (map (λ y. y.0) clauses)) s in
      let u = is_leaf_at body.0 s in
      flwor_meets here s _ _ (clauses_same clauses s (first t u h)) None None tt [] [] tt _ _
      (body.1 s (second t u h))
  flwor_same clauses None (o ∷ os) stable body s h =
      absurd (let e : false ≡ true =
      second (all_at (map is_leaf_clause (map (λ y. y.0) clauses)) s) false h in cc)
  flwor_same clauses (Some tested) orders stable body s h =
      absurd (let e : false ≡ true =
      second (all_at (map is_leaf_clause (map (λ y. y.0) clauses)) s) false h in cc)

  flwor_step : (x : FlworForm) (y : FlworLayer known) → plain_flwor y ≡ x → FlworSame (roll-Flwor x)
  flwor_step x y is s h =
      let f : leaf_flwor_value (plain_flwor y) s ≡ true =
      ap (λ (z : Bool → Bool). z s) (sym (leaf_flwor_rolled (plain_flwor y)))
      ∙ ap (λ z. is_leaf_flwor (roll-Flwor z) s) is ∙ h in
      rw (← is, rolled_flwor p (plain_flwor y), rolled_flwor q (plain_flwor y))
      (flwor_same y.clauses y.test y.orders y.stable y.body s f)

  abbrev plain_clause : ClauseLayer known → ClauseForm
  plain_clause = map-Clause known.Clauses known.Exprs known.Names known.Parts known.Arms known.Binds known.Attrs known.Flwors known.Orders
      Clause Expr NameSource Part Arm Bind DirectAttr FlworOf Order
      (λ y. y.0) (λ y. y.0) (λ y. y.0) (λ y. y.0) (λ y. y.0) (λ y. y.0) (λ y. y.0) (λ y. y.0)
      (λ y. y.0)

  clause_same : (y : ClauseLayer known) (s : Bool) → leaf_clause_value (plain_clause y) s ≡ true →
      ClauseMeets here s (clause_value p (plain_clause y)) (clause_value q (plain_clause y))
  clause_same (For b None) s h = for_meets here s _ _ (b.1 s h)
  clause_same (For b (Some at)) s h = absurd cc
  clause_same (Let b) s h = absurd cc

  clause_step : (x : ClauseForm) (y : ClauseLayer known) → plain_clause y ≡ x →
      ClauseSame (roll-Clause x)
  clause_step x y is s h =
      let f : leaf_clause_value (plain_clause y) s ≡ true =
      ap (λ (z : Bool → Bool). z s) (sym (leaf_clause_rolled (plain_clause y)))
      ∙ ap (λ z. is_leaf_clause (roll-Clause z) s) is ∙ h in
      rw (← is, rolled_clause p (plain_clause y), rolled_clause q (plain_clause y))
      (clause_same y s f)

  pub leaf_same : (e : Expr) → ExprSame e
  leaf_same = ind-Expr ClauseSame ExprSame (λ x. Unit {0}) (λ x. Unit {0}) ArmSame BindSame
      (λ x. Unit {0}) FlworSame (λ x. Unit {0}) clause_step expr_step (λ x y is. tt) (λ x y is. tt)
      arm_step bind_step (λ x y is. tt) flwor_step (λ x y is. tt)
