-- What an expression gives in a quiet predicate has the form that xt_forms gives it.
use Rattle.std.proofs.Common.{◌≡◌, ℕ, ℤ, List, [], ◌∷◌, map, refl, ap, ap₂, sym, ◌∙◌, Bool, true, false, cond, ◌&&◌, codes}
use Rattle.std.specs.List.{list_all}
use Rattle.std.proofs.lemmas.Bool.{and_parts}
use Rattle.std.specs.Str.{bytes_eq}
use Rattle.xt_names.specs.declared.kinds.CompareOp.{CompareOp}
use Rattle.xt_types.specs.declared.axes.Axis.{Axis}
use Rattle.xt_types.specs.declared.node_tests.Test.{Test}
use Rattle.xt_syntax.specs.declared.exprs.Expr.{Expr}
use Rattle.xt_syntax.specs.declared.exprs.Arm.{Arm}
use Rattle.xt_syntax.specs.declared.exprs.Clause.{Clause}
use Rattle.xt_syntax.specs.declared.exprs.Order.{Order}
use Rattle.xt_syntax.specs.declared.exprs.Flwor.{Flwor as FlworOf}
use Rattle.xt_syntax.specs.declared.exprs.Bind.{Bind}
use Rattle.xt_syntax.specs.declared.exprs.NameSource.{NameSource}
use Rattle.xt_syntax.specs.declared.exprs.DirectAttr.{DirectAttr}
use Rattle.xt_syntax.specs.declared.exprs.Part.{Part}
use Rattle.xt_syntax.specs.declared.exprs.Clause.TheViews.{roll-Expr}
use Rattle.xt_syntax.specs.declared.exprs.Clause.TheFolds.{fold-roll-Expr, map-Expr, ind-Expr}
use Rattle.xt_syntax.specs.declared.exprs.Clause.TheOpen.{Expr-F, Int, Str, Var, Context, Root, Comma, Or, And, If, Flwor, Quant, General, Value, Is, Before, After, Range, Arith, Minus, Plus, Union, Intersect, Except, InstanceOf, Treat, Castable, Cast, Slash, Step, Filter, Call, ElemC, AttrC, DocC, TextC, CommentC, PiC, Direct}
use Rattle.xt_syntax.specs.Layers.{Kinds, ExprLayer, clause_gives, name_gives, part_gives, arm_gives, bind_gives, attr_gives, flwor_gives, order_gives}
use Rattle.xt_forms.specs.Regular.{is_regular_expr}
use Rattle.xt_forms.specs.Quiet as forms
use Rattle.xt_forms.specs.Quiet.{quiets, quiet_steps, quiet_form_of, expr_quiet, quiet_call, is_quiet_expr}
use Rattle.xt_forms.specs.declared.quiet_calls.QuietCall.{QuietCall}
use Rattle.xt_forms.specs.declared.quiet_calls.QuietCall.TheVariants as call
use Rattle.xt_forms.specs.declared.quiet_forms.QuietForm.{QuietForm}
use Rattle.xt_forms.specs.declared.quiet_forms.QuietForm.TheVariants as form
use Rattle.quiet_meaning.specs.Forms.{form_of}
use Rattle.node_axes.specs.StepWalks.Nodes.{Nodes}
use Rattle.quiet_meaning.specs.Quietly.{Quietly, integer, literal, position, last, text_of, count_of, attribute, step, path, condition, numeric, conjunction, other, quietly, quietly_steps, quietly_of, expr_quietly, is_truth, is_predicate, is_conjunction, is_attribute_axis, is_named, any_of, all_of, is_attribute_name, stepped, slashed, with_step, compared, compared_with_integer, compared_with_literal, compared_with_last, negated, some_in, counted, called, called_with, call_gives, is_pattern_form, is_pattern_predicate}

truth_form : (q : Quietly) → is_truth q ≡ forms.is_truth (form_of q)
unfolding is_truth forms.is_truth form_of
truth_form (integer n) = refl
truth_form (literal t) = refl
truth_form position = refl
truth_form last = refl
truth_form (text_of g) = refl
truth_form (count_of g) = refl
truth_form (attribute g) = refl
truth_form (step g) = refl
truth_form (path g) = refl
truth_form (condition c) = refl
truth_form (numeric c) = refl
truth_form (conjunction c) = refl
truth_form other = refl

predicate_form : (q : Quietly) → is_predicate q ≡ forms.is_predicate (form_of q)
unfolding is_predicate forms.is_predicate form_of
predicate_form (integer n) = refl
predicate_form (literal t) = refl
predicate_form position = refl
predicate_form last = refl
predicate_form (text_of g) = refl
predicate_form (count_of g) = refl
predicate_form (attribute g) = refl
predicate_form (step g) = refl
predicate_form (path g) = refl
predicate_form (condition c) = refl
predicate_form (numeric c) = refl
predicate_form (conjunction c) = refl
predicate_form other = refl

all_truths : (qs : List Quietly) → list_all is_truth qs ≡ list_all forms.is_truth (map form_of qs)
all_truths [] = refl
all_truths (q ∷ qs) = ap₂ (λ x y. x && y) (truth_form q) (all_truths qs)

all_predicates : (qs : List Quietly) → list_all is_predicate qs ≡ list_all forms.is_predicate (map form_of qs)
all_predicates [] = refl
all_predicates (q ∷ qs) = ap₂ (λ x y. x && y) (predicate_form q) (all_predicates qs)

any_form : (qs : List Quietly) → form_of (any_of qs) ≡ forms.joined (map form_of qs)
unfolding form_of
any_form qs = go (list_all is_truth qs) refl ∙ ap forms.condition_if (all_truths qs)
  where
    go : (b : Bool) → list_all is_truth qs ≡ b → form_of (any_of qs) ≡ forms.condition_if (list_all is_truth qs)
    go true e = rw e refl
    go false e = rw e refl

all_form : (qs : List Quietly) → form_of (all_of qs) ≡ forms.joined (map form_of qs)
unfolding form_of
all_form qs = go (list_all is_truth qs) refl (is_conjunction qs) refl ∙ ap forms.condition_if (all_truths qs)
  where
    go : (b : Bool) → list_all is_truth qs ≡ b → (d : Bool) → is_conjunction qs ≡ d → form_of (all_of qs) ≡ forms.condition_if (list_all is_truth qs)
    go true e d f = rw e refl
    go false e true f = rw (e, f) refl
    go false e false f = rw (e, f) refl

no_predicates : (along : Axis) (wanted : Test) (qs : List Quietly) → is_attribute_name along wanted qs ≡ true → qs ≡ []
no_predicates along wanted [] e = refl
no_predicates along wanted (q ∷ qs) e = let bare = (and_parts (is_attribute_axis along && is_named wanted) false e).1 in absurd (cc)

step_form : (along : Axis) (wanted : Test) (qs : List Quietly) → form_of (stepped along wanted qs) ≡ forms.stepped (list_all forms.is_predicate (map form_of qs))
unfolding form_of
step_form along wanted qs = go (is_attribute_name along wanted qs) refl (list_all is_predicate qs) refl
  where
    go : (b : Bool) → is_attribute_name along wanted qs ≡ b → (d : Bool) → list_all is_predicate qs ≡ d → form_of (stepped along wanted qs) ≡ forms.stepped (list_all forms.is_predicate (map form_of qs))
    go true e d f = let none = no_predicates along wanted qs e in rw (e, none) refl
    go false e true f = let same = sym (all_predicates qs) ∙ f in rw (e, f, same) refl
    go false e false f = let same = sym (all_predicates qs) ∙ f in rw (e, f, same) refl

integer_form : (op : CompareOp) (k : ℤ) (a : Quietly) → form_of (compared_with_integer op k a) ≡ forms.condition_if (forms.is_number (form_of a))
unfolding compared_with_integer forms.is_number form_of
integer_form op k (integer n) = refl
integer_form op k (literal t) = refl
integer_form op k position = refl
integer_form op k last = refl
integer_form op k (text_of g) = refl
integer_form op k (count_of g) = refl
integer_form op k (attribute g) = refl
integer_form op k (step g) = refl
integer_form op k (path g) = refl
integer_form op k (condition c) = refl
integer_form op k (numeric c) = refl
integer_form op k (conjunction c) = refl
integer_form op k other = refl

literal_form : (op : CompareOp) (t : List ℕ) (a : Quietly) → form_of (compared_with_literal op t a) ≡ forms.condition_if (forms.is_text (form_of a))
unfolding compared_with_literal forms.is_text form_of
literal_form op text (integer n) = refl
literal_form op text (literal t) = refl
literal_form op text position = refl
literal_form op text last = refl
literal_form op text (text_of g) = refl
literal_form op text (count_of g) = refl
literal_form op text (attribute g) = refl
literal_form op text (step g) = refl
literal_form op text (path g) = refl
literal_form op text (condition c) = refl
literal_form op text (numeric c) = refl
literal_form op text (conjunction c) = refl
literal_form op text other = refl

last_form : (op : CompareOp) (a : Quietly) → form_of (compared_with_last op a) ≡ forms.condition_if (forms.is_position (form_of a))
unfolding compared_with_last forms.is_position form_of
last_form op (integer n) = refl
last_form op (literal t) = refl
last_form op position = refl
last_form op last = refl
last_form op (text_of g) = refl
last_form op (count_of g) = refl
last_form op (attribute g) = refl
last_form op (step g) = refl
last_form op (path g) = refl
last_form op (condition c) = refl
last_form op (numeric c) = refl
last_form op (conjunction c) = refl
last_form op other = refl

compared_form : (op : CompareOp) (a b : Quietly) → form_of (compared op a b) ≡ forms.compared (form_of a) (form_of b)
unfolding compared forms.compared form_of
compared_form op a (integer n) = integer_form op n a
compared_form op a (literal t) = literal_form op t a
compared_form op a position = refl
compared_form op a last = last_form op a
compared_form op a (text_of g) = refl
compared_form op a (count_of g) = refl
compared_form op a (attribute g) = refl
compared_form op a (step g) = refl
compared_form op a (path g) = refl
compared_form op a (condition c) = refl
compared_form op a (numeric c) = refl
compared_form op a (conjunction c) = refl
compared_form op a other = refl

with_step_form : (next : Nodes) (a : Quietly) → form_of (with_step next a) ≡ cond (forms.is_path (form_of a)) form.Path form.Other
unfolding with_step forms.is_path form_of
with_step_form next (integer n) = refl
with_step_form next (literal t) = refl
with_step_form next position = refl
with_step_form next last = refl
with_step_form next (text_of g) = refl
with_step_form next (count_of g) = refl
with_step_form next (attribute g) = refl
with_step_form next (step g) = refl
with_step_form next (path g) = refl
with_step_form next (condition c) = refl
with_step_form next (numeric c) = refl
with_step_form next (conjunction c) = refl
with_step_form next other = refl

slashed_form : (a b : Quietly) → form_of (slashed a b) ≡ forms.slashed (form_of a) (form_of b)
unfolding slashed forms.slashed form_of
slashed_form a (integer n) = refl
slashed_form a (literal t) = refl
slashed_form a position = refl
slashed_form a last = refl
slashed_form a (text_of g) = refl
slashed_form a (count_of g) = refl
slashed_form a (attribute g) = with_step_form g a
slashed_form a (step g) = with_step_form g a
slashed_form a (path g) = refl
slashed_form a (condition c) = refl
slashed_form a (numeric c) = refl
slashed_form a (conjunction c) = refl
slashed_form a other = refl

some_form : (exists : Bool) (a : Quietly) → form_of (some_in exists a) ≡ forms.condition_if (forms.is_path (form_of a))
unfolding some_in forms.is_path form_of
some_form exists (integer n) = refl
some_form exists (literal t) = refl
some_form exists position = refl
some_form exists last = refl
some_form exists (text_of g) = refl
some_form exists (count_of g) = refl
some_form exists (attribute g) = refl
some_form exists (step g) = refl
some_form exists (path g) = refl
some_form exists (condition c) = refl
some_form exists (numeric c) = refl
some_form exists (conjunction c) = refl
some_form exists other = refl

counted_form : (a : Quietly) → form_of (counted a) ≡ cond (forms.is_path (form_of a)) form.CountOf form.Other
unfolding counted forms.is_path form_of
counted_form (integer n) = refl
counted_form (literal t) = refl
counted_form position = refl
counted_form last = refl
counted_form (text_of g) = refl
counted_form (count_of g) = refl
counted_form (attribute g) = refl
counted_form (step g) = refl
counted_form (path g) = refl
counted_form (condition c) = refl
counted_form (numeric c) = refl
counted_form (conjunction c) = refl
counted_form other = refl

negated_form : (a : Quietly) → form_of (negated a) ≡ forms.condition_if (forms.is_truth (form_of a))
unfolding is_truth forms.is_truth form_of
negated_form (integer n) = refl
negated_form (literal t) = refl
negated_form position = refl
negated_form last = refl
negated_form (text_of g) = refl
negated_form (count_of g) = refl
negated_form (attribute g) = refl
negated_form (step g) = refl
negated_form (path g) = refl
negated_form (condition c) = refl
negated_form (numeric c) = refl
negated_form (conjunction c) = refl
negated_form other = refl

called_form : (f : QuietCall) (local : List ℕ) (a : Quietly) → form_of (called_with f local a) ≡ forms.called_with f (form_of a)
unfolding called_with forms.called_with form_of
called_form call.Constant local a = refl
called_form call.Not local a = negated_form a
called_form call.Position local a = refl
called_form call.Last local a = refl
called_form call.Exists local a = some_form (bytes_eq local (codes "exists")) a
called_form call.Count local a = counted_form a
called_form call.NameOf local a = refl
called_form call.Other local a = refl

call_form_same : (f : QuietCall) (local : List ℕ) (qs : List Quietly) → form_of (call_gives f local qs) ≡ forms.call_form f (map form_of qs)
unfolding call_gives called forms.call_form forms.called form_of
call_form_same call.Constant local [] = refl
call_form_same call.Not local [] = refl
call_form_same call.Position local [] = refl
call_form_same call.Last local [] = refl
call_form_same call.Exists local [] = refl
call_form_same call.Count local [] = refl
call_form_same call.NameOf local [] = refl
call_form_same call.Other local [] = refl
call_form_same f local (a ∷ []) = called_form f local a
call_form_same f local (a ∷ b ∷ more) = refl

-- by induction

abbrev IsAlike : Expr → Type 0
IsAlike e = form_of (quietly_of e) ≡ quiet_form_of e

abbrev pairs : Kinds
pairs = record {
  Clauses = Clause × Unit {0};
  Exprs = (e : Expr) × IsAlike e;
  Names = NameSource × Unit {0};
  Parts = Part × Unit {0};
  Arms = Arm × Unit {0};
  Binds = Bind × Unit {0};
  Attrs = DirectAttr × Unit {0};
  Flwors = FlworOf × Unit {0};
  Orders = Order × Unit {0};
}

abbrev plain : ExprLayer pairs → Expr-F Clause Expr NameSource Part Arm Bind DirectAttr FlworOf Order
plain = map-Expr pairs.Clauses pairs.Exprs pairs.Names pairs.Parts pairs.Arms pairs.Binds pairs.Attrs pairs.Flwors pairs.Orders
    Clause Expr NameSource Part Arm Bind DirectAttr FlworOf Order
    (λ p. p.0) (λ p. p.0) (λ p. p.0) (λ p. p.0) (λ p. p.0) (λ p. p.0) (λ p. p.0) (λ p. p.0) (λ p. p.0)

abbrev pub gives_quietly : Expr-F Clause Expr NameSource Part Arm Bind DirectAttr FlworOf Order → Quietly
gives_quietly x = expr_quietly (map-Expr Clause Expr NameSource Part Arm Bind DirectAttr FlworOf Order
    quietly.Clauses quietly.Exprs quietly.Names quietly.Parts quietly.Arms quietly.Binds quietly.Attrs quietly.Flwors quietly.Orders
    (clause_gives quietly quietly_steps) quietly_of (name_gives quietly quietly_steps) (part_gives quietly quietly_steps) (arm_gives quietly quietly_steps)
    (bind_gives quietly quietly_steps) (attr_gives quietly quietly_steps) (flwor_gives quietly quietly_steps) (order_gives quietly quietly_steps) x)

abbrev gives_form : Expr-F Clause Expr NameSource Part Arm Bind DirectAttr FlworOf Order → QuietForm
gives_form x = expr_quiet (map-Expr Clause Expr NameSource Part Arm Bind DirectAttr FlworOf Order
    quiets.Clauses quiets.Exprs quiets.Names quiets.Parts quiets.Arms quiets.Binds quiets.Attrs quiets.Flwors quiets.Orders
    (clause_gives quiets quiet_steps) quiet_form_of (name_gives quiets quiet_steps) (part_gives quiets quiet_steps) (arm_gives quiets quiet_steps)
    (bind_gives quiets quiet_steps) (attr_gives quiets quiet_steps) (flwor_gives quiets quiet_steps) (order_gives quiets quiet_steps) x)

pub rolled_quietly : (x : Expr-F Clause Expr NameSource Part Arm Bind DirectAttr FlworOf Order) → quietly_of (roll-Expr x) ≡ gives_quietly x
rolled_quietly x = fold-roll-Expr _ _ _ _ _ _ _ _ _ _ _ _ _ _ _ _ _ _ x

rolled_form : (x : Expr-F Clause Expr NameSource Part Arm Bind DirectAttr FlworOf Order) → quiet_form_of (roll-Expr x) ≡ gives_form x
rolled_form x = fold-roll-Expr _ _ _ _ _ _ _ _ _ _ _ _ _ _ _ _ _ _ x

all_alike : (ys : List ((e : Expr) × IsAlike e)) → map form_of (map quietly_of (map (λ p. p.0) ys)) ≡ map quiet_form_of (map (λ p. p.0) ys)
all_alike [] = refl
all_alike (y ∷ ys) = ap₂ (λ q qs. q ∷ qs) y.1 (all_alike ys)

one_alike : (y : ExprLayer pairs) → form_of (gives_quietly (plain y)) ≡ gives_form (plain y)
unfolding form_of
one_alike (Int n) = refl
one_alike (Str text) = refl
one_alike (Var name) = refl
one_alike Context = refl
one_alike Root = refl
one_alike (Comma all) = refl
one_alike (Or all) = any_form (map quietly_of (map (λ p. p.0) all)) ∙ ap forms.joined (all_alike all)
one_alike (And all) = all_form (map quietly_of (map (λ p. p.0) all)) ∙ ap forms.joined (all_alike all)
one_alike (If arms last_part) = refl
one_alike (Flwor parts) = refl
one_alike (Quant every_one binds tested) = refl
one_alike (General op a b) = compared_form op (quietly_of a.0) (quietly_of b.0) ∙ ap₂ forms.compared a.1 b.1
one_alike (Value op a b) = refl
one_alike (Is a b) = refl
one_alike (Before a b) = refl
one_alike (After a b) = refl
one_alike (Range a b) = refl
one_alike (Arith op a b) = refl
one_alike (Minus a) = refl
one_alike (Plus a) = refl
one_alike (Union a b) = refl
one_alike (Intersect a b) = refl
one_alike (Except a b) = refl
one_alike (InstanceOf a kind) = refl
one_alike (Treat a kind) = refl
one_alike (Castable a kind empty) = refl
one_alike (Cast a kind empty) = refl
one_alike (Slash a b) = slashed_form (quietly_of a.0) (quietly_of b.0) ∙ ap₂ forms.slashed a.1 b.1
one_alike (Step along wanted tests) = step_form along wanted (map quietly_of (map (λ p. p.0) tests)) ∙ ap (λ qs. forms.stepped (list_all forms.is_predicate qs)) (all_alike tests)
one_alike (Filter of tests) = refl
one_alike (Call name args) = call_form_same (quiet_call name) name.local (map quietly_of (map (λ p. p.0) args)) ∙ ap (forms.call_form (quiet_call name)) (all_alike args)
one_alike (ElemC name content) = refl
one_alike (AttrC name content) = refl
one_alike (DocC content) = refl
one_alike (TextC content) = refl
one_alike (CommentC content) = refl
one_alike (PiC name content) = refl
one_alike (Direct name attrs parts) = refl

step_alike : (x : Expr-F Clause Expr NameSource Part Arm Bind DirectAttr FlworOf Order) (y : ExprLayer pairs) → plain y ≡ x → IsAlike (roll-Expr x)
step_alike x y is = rw (← is, rolled_quietly (plain y), rolled_form (plain y)) (one_alike y)

pub all_are_alike : (e : Expr) → form_of (quietly_of e) ≡ quiet_form_of e
all_are_alike = ind-Expr (λ _. Unit {0}) IsAlike (λ _. Unit {0}) (λ _. Unit {0}) (λ _. Unit {0}) (λ _. Unit {0}) (λ _. Unit {0}) (λ _. Unit {0}) (λ _. Unit {0})
    (λ x y is. tt) step_alike (λ x y is. tt) (λ x y is. tt) (λ x y is. tt) (λ x y is. tt) (λ x y is. tt) (λ x y is. tt) (λ x y is. tt)

-- quiet predicates among those of patterns

pattern_form : (q : Quietly) → forms.is_predicate (form_of q) ≡ true → is_pattern_form q ≡ true
unfolding form_of forms.is_predicate is_pattern_form
pattern_form (integer n) e = refl
pattern_form (literal t) e = absurd (cc)
pattern_form position e = absurd (cc)
pattern_form last e = refl
pattern_form (text_of g) e = absurd (cc)
pattern_form (count_of g) e = absurd (cc)
pattern_form (attribute g) e = refl
pattern_form (step g) e = refl
pattern_form (path g) e = refl
pattern_form (condition c) e = refl
pattern_form (numeric c) e = refl
pattern_form (conjunction c) e = refl
pattern_form other e = absurd (cc)

pub pattern_predicate : (e : Expr) → is_quiet_expr e ≡ true → is_pattern_predicate e ≡ true
pattern_predicate e q =
    let parts = and_parts (is_regular_expr e) (forms.is_predicate (quiet_form_of e)) q in
    rw (parts.0, pattern_form (quietly_of e) (ap forms.is_predicate (all_are_alike e) ∙ parts.1)) refl

-- what holds of each layer of parts holds of each expression
pub each_expr : (P : Expr → Type 0) → ((x : Expr-F Clause Expr NameSource Part Arm Bind DirectAttr FlworOf Order) → P (roll-Expr x)) → (e : Expr) → P e
each_expr P h = ind-Expr (λ _. Unit {0}) P (λ _. Unit {0}) (λ _. Unit {0}) (λ _. Unit {0}) (λ _. Unit {0}) (λ _. Unit {0}) (λ _. Unit {0}) (λ _. Unit {0})
    (λ x y is. tt) (λ x y is. h x) (λ x y is. tt) (λ x y is. tt) (λ x y is. tt) (λ x y is. tt) (λ x y is. tt) (λ x y is. tt) (λ x y is. tt)
