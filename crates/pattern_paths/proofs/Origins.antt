-- Which forms of expressions give which forms of quiet predicates.
use Rattle.std.proofs.Common.{◌≡◌, ℕ, ℤ, List, [], ◌∷◌, map, refl, ap, sym, ◌∙◌, Bool, true, false}
use Rattle.std.specs.Prelude.{if◌then◌else◌, codes}
use Rattle.std.specs.List.{list_all, list_any}
use Rattle.std.specs.Str.{bytes_eq}
use Rattle.xt_names.specs.declared.kinds.CompareOp.{CompareOp}
use Rattle.xt_types.specs.declared.axes.Axis.{Axis}
use Rattle.xt_types.specs.declared.node_tests.Test.{Test}
use Rattle.xt_forms.specs.Quiet.{quiet_call}
use Rattle.xt_forms.specs.declared.quiet_calls.QuietCall.{QuietCall}
use Rattle.xt_forms.specs.declared.quiet_calls.QuietCall.TheVariants as call
use Rattle.xt_syntax.specs.declared.exprs.Expr.{Expr}
use Rattle.xt_syntax.specs.declared.exprs.Clause.TheViews.{out-Expr, roll-out-Expr}
use Rattle.xt_syntax.specs.declared.exprs.Clause.TheOpen.{Int, Or, And, General, Slash, Step, Call}
use Rattle.node_axes.specs.StepWalks.Nodes.{Focus, Nodes, step_nodes}
use Rattle.quiet_meaning.specs.Quietly.{Quietly, integer, literal, position, last, text_of}
use Rattle.quiet_meaning.specs.Quietly.{count_of}
use Rattle.quiet_meaning.specs.Quietly.{attribute, step, path, condition, numeric, conjunction}
use Rattle.quiet_meaning.specs.Quietly.{other}
use Rattle.quiet_meaning.specs.Quietly.{quietly_of, is_truth, is_predicate, is_conjunction}
use Rattle.quiet_meaning.specs.Quietly.{holds_at, holds_all}
use Rattle.quiet_meaning.specs.Quietly.{any_of, all_of, is_attribute_name, stepped, slashed}
use Rattle.quiet_meaning.specs.Quietly.{with_step}
use Rattle.quiet_meaning.specs.Quietly.{compared, compared_with_integer, compared_with_literal}
use Rattle.quiet_meaning.specs.Quietly.{compared_with_last, negated, some_in, counted, called}
use Rattle.quiet_meaning.specs.Quietly.{called_with}
use Rattle.quiet_meaning.specs.Quietly.{call_gives}
use Rattle.quiet_meaning.proofs.FormLemmas.{gives_quietly, rolled_quietly}
use Rattle.carried_exprs.specs.Forms.{ExprForm}

-- a form of quiet predicates that one form of expressions alone gives
pub data Origin : Type 0 where
  an_integer : Origin
  a_step : Origin
  a_comparison : Origin
  an_and : Origin
  anything : Origin

unfoldable pub origin : Quietly → Origin
origin (integer n) = an_integer
origin (attribute g) = a_step
origin (numeric c) = a_comparison
origin (conjunction c) = an_and
origin q = anything

abbrev pub may_give : ExprForm → Origin → Bool
may_give x anything = true
may_give (Int n) an_integer = true
may_give (Step along wanted tests) a_step = true
may_give (General op a b) a_comparison = true
may_give (And all) an_and = true
may_give x o = false

abbrev pub IsAny : Quietly → Type 0
IsAny q = origin q ≡ anything

other_any : IsAny other
unfolding origin
other_any = refl

condition_any : (c : Focus → Bool) → IsAny (condition c)
unfolding origin
condition_any c = refl

if_any : (b : Bool) (q r : Quietly) → IsAny q → IsAny r → IsAny (if b then q else r)
if_any true q r h g = h
if_any false q r h g = g

or_any : (qs : List Quietly) → IsAny (any_of qs)
or_any qs =
    if_any (list_all is_truth qs) (condition (λ f. list_any (λ q. holds_at q f) qs)) other
    (condition_any _) other_any

-- paths and calls

with_any : (g : Nodes) (a : Quietly) → IsAny (with_step g a)
unfolding with_step origin
with_any g (attribute h) = refl
with_any g (step h) = refl
with_any g (path h) = refl
with_any g a = refl

slash_any : (a b : Quietly) → IsAny (slashed a b)
unfolding slashed origin
slash_any a (attribute g) = with_any g a
slash_any a (step g) = with_any g a
slash_any a b = refl

some_any : (b : Bool) (a : Quietly) → IsAny (some_in b a)
unfolding some_in origin
some_any b (attribute g) = refl
some_any b (step g) = refl
some_any b (path g) = refl
some_any b a = refl

count_any : (a : Quietly) → IsAny (counted a)
unfolding counted origin
count_any (attribute g) = refl
count_any (step g) = refl
count_any (path g) = refl
count_any a = refl

not_any : (a : Quietly) → IsAny (negated a)
not_any a = if_any (is_truth a) (condition (λ f. _)) other (condition_any _) other_any

called_any : (c : QuietCall) (local : List ℕ) → IsAny (called c local)
unfolding called origin
called_any call.Constant local = refl
called_any call.Position local = refl
called_any call.Last local = refl
called_any call.NameOf local = refl
called_any c local = refl

with_argument : (c : QuietCall) (local : List ℕ) (a : Quietly) → IsAny (called_with c local a)
unfolding called_with
with_argument call.Not local a = not_any a
with_argument call.Exists local a = some_any (bytes_eq local (codes "exists")) a
with_argument call.Count local a = count_any a
with_argument c local a = other_any

call_any : (c : QuietCall) (local : List ℕ) (qs : List Quietly) → IsAny (call_gives c local qs)
unfolding call_gives
call_any c local [] = called_any c local
call_any c local (a ∷ []) = with_argument c local a
call_any c local (a ∷ b ∷ more) = other_any

-- steps, comparisons and `and`

from_any : (x : ExprForm) (q : Quietly) → IsAny q → may_give x (origin q) ≡ true
from_any x q h = ap (may_give x) h

step_origin : (along : Axis) (wanted : Test) (tests : List Expr) (qs : List Quietly) →
    may_give (Step along wanted tests) (origin (stepped along wanted qs)) ≡ true
unfolding origin
step_origin along wanted tests qs = by (is_attribute_name along wanted qs)
    (list_all is_predicate qs)
  where
    by : (b d : Bool) → may_give (Step along wanted tests)
        (origin (if b then attribute (step_nodes along wanted [])
        else if d then step (step_nodes along wanted (map holds_at qs)) else other)) ≡ true
    by true d = refl
    by false true = refl
    by false false = refl

and_origin : (all : List Expr) (qs : List Quietly) → may_give (And all) (origin (all_of qs)) ≡ true
unfolding origin
and_origin all qs = by (list_all is_truth qs) (is_conjunction qs)
  where
    by : (b d : Bool) → may_give (And all)
        (origin (if b then condition (holds_all qs) else if d then conjunction (holds_all qs) else
        other)) ≡ true
    by true d = refl
    by false true = refl
    by false false = refl

integer_origin : (op : CompareOp) (n : ℤ) (a b : Expr) (q : Quietly) →
    may_give (General op a b) (origin (compared_with_integer op n q)) ≡ true
unfolding compared_with_integer origin
integer_origin op n a b position = refl
integer_origin op n a b last = refl
integer_origin op n a b (count_of g) = refl
integer_origin op n a b (attribute g) = refl
integer_origin op n a b q = refl

literal_any : (op : CompareOp) (t : List ℕ) (q : Quietly) → IsAny (compared_with_literal op t q)
unfolding compared_with_literal origin
literal_any op t (text_of g) = refl
literal_any op t (attribute g) = refl
literal_any op t (step g) = refl
literal_any op t (path g) = refl
literal_any op t q = refl

last_any : (op : CompareOp) (q : Quietly) → IsAny (compared_with_last op q)
unfolding compared_with_last origin
last_any op position = refl
last_any op q = refl

comparison_origin : (op : CompareOp) (a b : Expr) (q r : Quietly) →
    may_give (General op a b) (origin (compared op q r)) ≡ true
unfolding compared
comparison_origin op a b q (integer n) = integer_origin op n a b q
comparison_origin op a b q (literal t) = from_any (General op a b) _ (literal_any op t q)
comparison_origin op a b q last = from_any (General op a b) _ (last_any op q)
comparison_origin op a b q r = from_any (General op a b) other other_any

-- every form
form_origin : (x : ExprForm) → may_give x (origin (gives_quietly x)) ≡ true
unfolding origin
form_origin (Int n) = refl
form_origin (Or all) = from_any (Or all) _ (or_any (map quietly_of all))
form_origin (And all) = and_origin all (map quietly_of all)
form_origin (General op a b) = comparison_origin op a b (quietly_of a) (quietly_of b)
form_origin (Slash a b) = from_any (Slash a b) _ (slash_any (quietly_of a) (quietly_of b))
form_origin (Step along wanted tests) = step_origin along wanted tests (map quietly_of tests)
form_origin (Call name args) =
    from_any (Call name args) _ (call_any (quiet_call name) name.local (map quietly_of args))
form_origin x = refl

pub quiet_by_form : (e : Expr) → quietly_of e ≡ gives_quietly (out-Expr e)
quiet_by_form e = ap quietly_of (sym (roll-out-Expr e)) ∙ rolled_quietly (out-Expr e)

pub its_origin : (e : Expr) (o : Origin) → origin (quietly_of e) ≡ o → may_give (out-Expr e) o
    ≡ true
its_origin e o h =
    ap (may_give (out-Expr e)) (sym h ∙ ap origin (quiet_by_form e)) ∙ form_origin (out-Expr e)
