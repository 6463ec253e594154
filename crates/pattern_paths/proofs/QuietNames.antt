-- Quiet predicates name no variable, and call functions of the library alone.
use Rattle.std.proofs.Common.{◌≡◌, ℕ, ℤ, List, [], ◌∷◌, ◌++◌, map, refl, ap, ap₂, sym, ◌∙◌, subst}
use Rattle.std.proofs.Common.{Bool, true, false}
use Rattle.std.proofs.Common.{inl, inr}
use Rattle.std.proofs.lemmas.Bool.{and_parts}
use Rattle.std.specs.Prelude.{not, ◌&&◌, ◌||◌, if◌then◌else◌}
use Rattle.std.specs.List.{list_all, list_any}
use Rattle.xt_names.specs.declared.codes.Code.{Code}
use Rattle.xt_names.specs.declared.kinds.CompareOp.{CompareOp}
use Rattle.xt_names.specs.declared.names.ExprName.{ExprName}
use Rattle.xt_types.specs.declared.axes.Axis.{Axis}
use Rattle.xt_types.specs.declared.node_tests.Test.{Test}
use Rattle.function_table.specs.Find.{is_known}
use Rattle.xt_forms.specs.Quiet.{quiet_call}
use Rattle.xt_forms.specs.declared.quiet_calls.QuietCall.{QuietCall}
use Rattle.xt_forms.specs.declared.quiet_calls.QuietCall.TheVariants as call
use Rattle.xt_syntax.specs.declared.exprs.Expr.{Expr}
use Rattle.xt_syntax.specs.declared.exprs.Arm.{Arm}
use Rattle.xt_syntax.specs.declared.exprs.Clause.{Clause}
use Rattle.xt_syntax.specs.declared.exprs.Order.{Order}
use Rattle.xt_syntax.specs.declared.exprs.Flwor.{Flwor as FlworOf}
use Rattle.xt_syntax.specs.declared.exprs.Bind.{Bind}
use Rattle.xt_syntax.specs.declared.exprs.NameSource.{NameSource}
use Rattle.xt_syntax.specs.declared.exprs.DirectAttr.{DirectAttr}
use Rattle.xt_syntax.specs.declared.exprs.Part.{Part}
use Rattle.xt_syntax.specs.declared.exprs.Clause.TheOpen.{Int, Str, Or, And, General, Slash, Step}
use Rattle.xt_syntax.specs.declared.exprs.Clause.TheOpen.{Call}
use Rattle.xt_syntax.specs.declared.exprs.Clause.TheViews.{roll-Expr}
use Rattle.xt_syntax.specs.declared.exprs.Clause.TheFolds.{fold-roll-Expr, map-Expr, ind-Expr}
use Rattle.xt_syntax.specs.Layers.{Kinds, ExprLayer, clause_gives, name_gives, part_gives}
use Rattle.xt_syntax.specs.Layers.{arm_gives}
use Rattle.xt_syntax.specs.Layers.{bind_gives, attr_gives, flwor_gives, order_gives}
use Rattle.name_rules.specs.Broken.{Rule, rules, rule_steps, expr_rule, names_broken_of, all_in}
use Rattle.name_rules.specs.Broken.{function_in}
use Rattle.name_rules.specs.Scopes.{may_be_called}
use Rattle.name_rules.specs.declared.functions.Signature.{Signature}
use Rattle.node_axes.specs.StepWalks.Nodes.{Nodes, step_nodes}
use Rattle.quiet_meaning.specs.Quietly.{Quietly, integer, literal, position, last, text_of}
use Rattle.quiet_meaning.specs.Quietly.{count_of}
use Rattle.quiet_meaning.specs.Quietly.{attribute, step, path, condition, numeric, conjunction}
use Rattle.quiet_meaning.specs.Quietly.{other}
use Rattle.quiet_meaning.specs.Quietly.{quietly_of, is_truth, is_numeric, is_predicate}
use Rattle.quiet_meaning.specs.Quietly.{is_conjunction, holds_at, holds_all}
use Rattle.quiet_meaning.specs.Quietly.{any_of, all_of, is_bare, is_attribute_name}
use Rattle.quiet_meaning.specs.Quietly.{is_attribute_axis, is_named, stepped}
use Rattle.quiet_meaning.specs.Quietly.{slashed, with_step, compared, compared_with_integer}
use Rattle.quiet_meaning.specs.Quietly.{compared_with_literal}
use Rattle.quiet_meaning.specs.Quietly.{compared_with_last, negated, some_in, counted, called}
use Rattle.quiet_meaning.specs.Quietly.{called_with, call_gives}
use Rattle.quiet_meaning.proofs.FormLemmas.{gives_quietly, rolled_quietly}
use Rattle.expr_meaning.specs.Outcomes.Outcome.{Every}
use Rattle.carried_exprs.specs.Forms.{ExprForm}
use Rattle.pattern_paths.proofs.CallNames.{IsCall, is_call, true_known, false_known}
use Rattle.pattern_paths.proofs.CallNames.{position_known, last_known, name_known}
use Rattle.pattern_paths.proofs.CallNames.{local_name_known, not_known, exists_known, empty_known}
use Rattle.pattern_paths.proofs.CallNames.{count_known}

-- forms that have a place in a quiet predicate

unfoldable pub has_form : Quietly → Bool
has_form other = false
has_form q = true

abbrev HasForm : Quietly → Type 0
HasForm q = has_form q ≡ true

truth_form : (q : Quietly) → is_truth q ≡ true → HasForm q
unfolding is_truth has_form
truth_form (attribute g) h = refl
truth_form (step g) h = refl
truth_form (path g) h = refl
truth_form (condition c) h = refl
truth_form q h = absurd cc

part_form : (q : Quietly) → (is_truth q || is_numeric q) ≡ true → HasForm q
unfolding is_truth is_numeric has_form
part_form (attribute g) h = refl
part_form (step g) h = refl
part_form (path g) h = refl
part_form (condition c) h = refl
part_form (numeric c) h = refl
part_form q h = absurd cc

predicate_form : (q : Quietly) → is_predicate q ≡ true → HasForm q
unfolding is_predicate has_form
predicate_form (integer n) h = refl
predicate_form last h = refl
predicate_form (attribute g) h = refl
predicate_form (step g) h = refl
predicate_form (path g) h = refl
predicate_form (condition c) h = refl
predicate_form q h = absurd cc

each_form : (f : Quietly → Bool) → ((q : Quietly) → f q ≡ true → HasForm q) → (qs : List Quietly) →
    list_all f qs ≡ true → Every HasForm qs
each_form f t [] h = tt
each_form f t (q ∷ qs) h = let p = and_parts (f q) (list_all f qs) h in
    (t q p.0, each_form f t qs p.1)

or_forms : (qs : List Quietly) → HasForm (any_of qs) → Every HasForm qs
unfolding has_form
or_forms qs h = by (list_all is_truth qs) refl h
  where
    by : (b : Bool) → list_all is_truth qs ≡ b →
        has_form (if b then condition (λ f. list_any (λ q. holds_at q f) qs) else other) ≡ true →
        Every HasForm qs
    by true e g = each_form is_truth truth_form qs e
    by false e g = absurd cc

and_forms : (qs : List Quietly) → HasForm (all_of qs) → Every HasForm qs
unfolding has_form
and_forms qs h = by (list_all is_truth qs) refl (is_conjunction qs) refl h
  where
    by : (b : Bool) → list_all is_truth qs ≡ b → (d : Bool) → is_conjunction qs ≡ d →
        has_form (if b then condition (holds_all qs) else if d then conjunction (holds_all qs) else
        other) ≡ true →
        Every HasForm qs
    by true e d i g = each_form is_truth truth_form qs e
    by false e true i g =
        each_form (λ q. is_truth q || is_numeric q) part_form qs
        (and_parts (list_all (λ q. is_truth q || is_numeric q) qs) _ i).0
    by false e false i g = absurd cc

integer_left : (op : CompareOp) (n : ℤ) (a : Quietly) → HasForm (compared_with_integer op n a) →
    HasForm a
unfolding compared_with_integer has_form
integer_left op n position h = refl
integer_left op n last h = refl
integer_left op n (count_of g) h = refl
integer_left op n (attribute g) h = refl
integer_left op n a h = absurd cc

literal_left : (op : CompareOp) (t : List ℕ) (a : Quietly) → HasForm (compared_with_literal op t a)
    → HasForm a
unfolding compared_with_literal has_form
literal_left op t (text_of g) h = refl
literal_left op t (attribute g) h = refl
literal_left op t (step g) h = refl
literal_left op t (path g) h = refl
literal_left op t a h = absurd cc

last_left : (op : CompareOp) (a : Quietly) → HasForm (compared_with_last op a) → HasForm a
unfolding compared_with_last has_form
last_left op position h = refl
last_left op a h = absurd cc

compared_forms : (op : CompareOp) (a b : Quietly) → HasForm (compared op a b) →
    HasForm a × HasForm b
unfolding compared has_form
compared_forms op a (integer n) h = (integer_left op n a h, refl)
compared_forms op a (literal t) h = (literal_left op t a h, refl)
compared_forms op a last h = (last_left op a h, refl)
compared_forms op a b h = absurd cc

front_form : (g : Nodes) (a : Quietly) → HasForm (with_step g a) → HasForm a
unfolding with_step has_form
front_form g (attribute h) e = refl
front_form g (step h) e = refl
front_form g (path h) e = refl
front_form g a e = absurd cc

slashed_forms : (a b : Quietly) → HasForm (slashed a b) → HasForm a × HasForm b
unfolding slashed has_form
slashed_forms a (attribute g) h = (front_form g a h, refl)
slashed_forms a (step g) h = (front_form g a h, refl)
slashed_forms a b h = absurd cc

bare_forms : (qs : List Quietly) → is_bare qs ≡ true → Every HasForm qs
bare_forms [] h = tt
bare_forms (q ∷ qs) h = absurd cc

stepped_forms : (along : Axis) (wanted : Test) (qs : List Quietly) →
    HasForm (stepped along wanted qs) →
    Every HasForm qs
unfolding has_form
stepped_forms along wanted qs h =
    by (is_attribute_name along wanted qs) refl (list_all is_predicate qs) refl h
  where
    by : (b : Bool) → is_attribute_name along wanted qs ≡ b → (d : Bool) → list_all is_predicate qs
        ≡ d →
        has_form (if b then attribute (step_nodes along wanted [])
        else if d then step (step_nodes along wanted (map holds_at qs)) else other) ≡ true →
        Every HasForm qs
    by true e d i g = bare_forms qs (and_parts (is_attribute_axis along && is_named wanted)
        (is_bare qs) e).1
    by false e true i g = each_form is_predicate predicate_form qs i
    by false e false i g = absurd cc

-- calls

none_known : (c : QuietCall) (name : ExprName) → IsCall c name → HasForm (called c name.local) →
    is_known name 0 ≡ true
unfolding called has_form
none_known call.Constant name (i, inl e) h = true_known name i e
none_known call.Constant name (i, inr e) h = false_known name i e
none_known call.Position name (i, e) h = position_known name i e
none_known call.Last name (i, e) h = last_known name i e
none_known call.NameOf name (i, inl e) h = name_known name i e
none_known call.NameOf name (i, inr e) h = local_name_known name i e
none_known call.Not name i h = absurd cc
none_known call.Exists name i h = absurd cc
none_known call.Count name i h = absurd cc
none_known call.Other name i h = absurd cc

negated_form : (a : Quietly) → HasForm (negated a) → HasForm a
unfolding has_form
negated_form a h = by (is_truth a) refl h
  where
    by : (b : Bool) → is_truth a ≡ b →
        has_form (if b then condition (λ f. not (holds_at a f)) else other) ≡ true → HasForm a
    by true e g = truth_form a e
    by false e g = absurd cc

some_form : (b : Bool) (a : Quietly) → HasForm (some_in b a) → HasForm a
unfolding some_in has_form
some_form b (attribute g) h = refl
some_form b (step g) h = refl
some_form b (path g) h = refl
some_form b a h = absurd cc

counted_form : (a : Quietly) → HasForm (counted a) → HasForm a
unfolding counted has_form
counted_form (attribute g) h = refl
counted_form (step g) h = refl
counted_form (path g) h = refl
counted_form a h = absurd cc

one_known : (c : QuietCall) (name : ExprName) → IsCall c name → (a : Quietly) →
    HasForm (called_with c name.local a) → (is_known name 1 ≡ true) × HasForm a
unfolding called_with has_form
one_known call.Not name (i, e) a h = (not_known name i e, negated_form a h)
one_known call.Exists name (i, inl e) a h = (exists_known name i e, some_form _ a h)
one_known call.Exists name (i, inr e) a h = (empty_known name i e, some_form _ a h)
one_known call.Count name (i, e) a h = (count_known name i e, counted_form a h)
one_known call.Constant name i a h = absurd cc
one_known call.Position name i a h = absurd cc
one_known call.Last name i a h = absurd cc
one_known call.NameOf name i a h = absurd cc
one_known call.Other name i a h = absurd cc

-- what a library function is called by is in scope
pub known_in : (fs : List Signature) (name : ExprName) (arity : ℕ) → is_known name arity ≡ true →
    function_in fs name arity ≡ []
unfolding function_in may_be_called
known_in fs name arity h = rw h refl

-- every form

pub nothing_both : (xs ys : List Code) → xs ≡ [] → ys ≡ [] → xs ++ ys ≡ []
nothing_both xs ys h g = ap₂ (λ a b. a ++ b) h g

module _ (fs : List Signature) where
  abbrev pub rule_value : ExprForm → Rule
  rule_value x = expr_rule fs (map-Expr Clause Expr NameSource Part Arm Bind DirectAttr FlworOf
      Order
      rules.Clauses rules.Exprs rules.Names rules.Parts rules.Arms rules.Binds rules.Attrs
      rules.Flwors rules.Orders
      (clause_gives rules (rule_steps fs)) (names_broken_of fs) (name_gives rules (rule_steps fs))
      (part_gives rules (rule_steps fs)) (arm_gives rules (rule_steps fs))
      (bind_gives rules (rule_steps fs))
      (attr_gives rules (rule_steps fs)) (flwor_gives rules (rule_steps fs))
      (order_gives rules (rule_steps fs)) x)

  pub rule_rolled : (x : ExprForm) → names_broken_of fs (roll-Expr x) ≡ rule_value x
  rule_rolled x = fold-roll-Expr _ _ _ _ _ _ _ _ _ _ _ _ _ _ _ _ _ _ x

  abbrev IsNameless : Expr → Type 0
  IsNameless e = HasForm (quietly_of e) → (scope : List ExprName) → names_broken_of fs e scope ≡ []

  abbrev known : Kinds
  known = record {
    Clauses = Clause × Unit {0};
    Exprs = (e : Expr) × IsNameless e;
    Names = NameSource × Unit {0};
    Parts = Part × Unit {0};
    Arms = Arm × Unit {0};
    Binds = Bind × Unit {0};
    Attrs = DirectAttr × Unit {0};
    Flwors = FlworOf × Unit {0};
    Orders = Order × Unit {0};
  }

  abbrev plain : ExprLayer known → ExprForm
  plain = map-Expr known.Clauses known.Exprs known.Names known.Parts known.Arms known.Binds
      known.Attrs known.Flwors known.Orders
      Clause Expr NameSource Part Arm Bind DirectAttr FlworOf Order
      (λ y. y.0) (λ y. y.0) (λ y. y.0) (λ y. y.0) (λ y. y.0) (λ y. y.0) (λ y. y.0) (λ y. y.0)
      (λ y. y.0)

  all_nameless : (ys : List known.Exprs) → Every HasForm (map quietly_of (map (λ y. y.0) ys)) →
      (scope : List ExprName) → all_in (map (names_broken_of fs) (map (λ y. y.0) ys)) scope ≡ []
  all_nameless [] h scope = refl
  all_nameless (y ∷ ys) h scope =
      nothing_both (names_broken_of fs y.0 scope)
      (all_in (map (names_broken_of fs) (map (λ y. y.0) ys)) scope)
      (y.1 h.0 scope) (all_nameless ys h.1 scope)

  call_nameless : (name : ExprName) (ys : List known.Exprs) →
      HasForm (call_gives (quiet_call name) name.local (map quietly_of (map (λ y. y.0) ys))) →
      (scope : List ExprName) → rule_value (Call name (map (λ y. y.0) ys)) scope ≡ []
  unfolding call_gives has_form
  call_nameless name [] h scope =
      nothing_both (function_in fs name 0) []
      (known_in fs name 0 (none_known (quiet_call name) name (is_call name) h)) refl
  call_nameless name (y ∷ []) h scope =
      let k = one_known (quiet_call name) name (is_call name) (quietly_of y.0) h in
      nothing_both (function_in fs name 1) (all_in (names_broken_of fs y.0 ∷ []) scope)
      (known_in fs name 1 k.0)
      (all_nameless (y ∷ []) (k.1, tt) scope)
  call_nameless name (y ∷ z ∷ ys) h scope = absurd cc

  form_nameless : (y : ExprLayer known) → HasForm (gives_quietly (plain y)) →
      (scope : List ExprName) →
      rule_value (plain y) scope ≡ []
  unfolding has_form
  form_nameless (Int n) h scope = refl
  form_nameless (Str t) h scope = refl
  form_nameless (Or all) h scope = all_nameless all (or_forms _ h) scope
  form_nameless (And all) h scope = all_nameless all (and_forms _ h) scope
  form_nameless (General op a b) h scope =
      let p = compared_forms op (quietly_of a.0) (quietly_of b.0) h in
      nothing_both (names_broken_of fs a.0 scope) (names_broken_of fs b.0 scope) (a.1 p.0 scope)
      (b.1 p.1 scope)
  form_nameless (Slash a b) h scope =
      let p = slashed_forms (quietly_of a.0) (quietly_of b.0) h in
      nothing_both (names_broken_of fs a.0 scope) (names_broken_of fs b.0 scope) (a.1 p.0 scope)
      (b.1 p.1 scope)
  form_nameless (Step along wanted tests) h scope = all_nameless tests
      (stepped_forms along wanted _ h) scope
  form_nameless (Call name args) h scope = call_nameless name args h scope
  form_nameless y h scope = absurd cc

  expr_step : (x : ExprForm) (y : ExprLayer known) → plain y ≡ x → IsNameless (roll-Expr x)
  expr_step x y is =
      subst (λ z. IsNameless (roll-Expr z)) is
      (λ h scope. ap (λ (r : Rule). r scope) (rule_rolled (plain y))
      ∙ form_nameless y (ap has_form (sym (rolled_quietly (plain y))) ∙ h) scope)

  pub quiet_nameless : (e : Expr) → IsNameless e
  quiet_nameless = ind-Expr (λ _. Unit {0}) IsNameless (λ _. Unit {0}) (λ _. Unit {0})
      (λ _. Unit {0})
      (λ _. Unit {0}) (λ _. Unit {0}) (λ _. Unit {0}) (λ _. Unit {0})
      (λ x y is. tt) expr_step (λ x y is. tt) (λ x y is. tt) (λ x y is. tt) (λ x y is. tt)
      (λ x y is. tt) (λ x y is. tt) (λ x y is. tt)
