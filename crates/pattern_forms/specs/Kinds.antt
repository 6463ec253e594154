-- The form of what an expression gives in a predicate.
use Rattle.std.specs.Prelude.{◌≡◌, ℕ, List, map, filter, length, Bool, ◌||◌}
use Rattle.std.specs.List.{list_all}
use Rattle.xt_syntax.specs.declared.exprs.Expr.{Expr}
use Rattle.xt_syntax.specs.declared.exprs.Arm.{Arm}
use Rattle.xt_syntax.specs.declared.exprs.Clause.{Clause}
use Rattle.xt_syntax.specs.declared.exprs.Order.{Order}
use Rattle.xt_syntax.specs.declared.exprs.Flwor.{Flwor as FlworOf}
use Rattle.xt_syntax.specs.declared.exprs.Bind.{Bind}
use Rattle.xt_syntax.specs.declared.exprs.NameSource.{NameSource}
use Rattle.xt_syntax.specs.declared.exprs.DirectAttr.{DirectAttr}
use Rattle.xt_syntax.specs.declared.exprs.Part.{Part}
use Rattle.xt_syntax.specs.declared.exprs.Clause.TheOpen.{Expr-F, Int, Str, Or, And, General, Slash, Step, Call}
use Rattle.xt_forms.specs.Quiet.{quiet_call}
use Rattle.quiet_meaning.specs.Quietly.{Quietly, integer, literal, position, last, text_of, count_of, attribute, step, path, condition, numeric, conjunction, other, quietly_of, is_truth, is_numeric, any_of, all_of, stepped, call_gives}
use Rattle.pattern_forms.specs.Forms.{PredicateForm}
use Rattle.pattern_forms.specs.Forms as forms

abbrev pub Layer : Type 0
Layer = Expr-F Clause Expr NameSource Part Arm Bind DirectAttr FlworOf Order

unfoldable pub form_of : Quietly → PredicateForm
form_of (integer n) = forms.Integer
form_of (literal t) = forms.Literal
form_of position = forms.Position
form_of last = forms.Last
form_of (text_of g) = forms.NameOf
form_of (count_of g) = forms.CountOf
form_of (attribute g) = forms.Attribute
form_of (step g) = forms.Step
form_of (path g) = forms.Path
form_of (condition c) = forms.Condition
form_of (numeric c) = forms.Numeric
form_of (conjunction c) = forms.Conjunction
form_of other = forms.Other

abbrev pub form_in : Layer → PredicateForm
form_in (Int n) = forms.Integer
form_in (Str text) = forms.Literal
form_in (Or all) = form_of (any_of (map quietly_of all))
form_in (And all) = form_of (all_of (map quietly_of all))
form_in (General op a b) = forms.compared (form_of (quietly_of a)) (form_of (quietly_of b))
form_in (Slash a b) = forms.slashed (form_of (quietly_of a)) (form_of (quietly_of b))
form_in (Step along wanted tests) = form_of (stepped along wanted (map quietly_of tests))
form_in (Call name args) = form_of (call_gives (quiet_call name) name.local (map quietly_of args))
form_in x = forms.Other

-- what may be in an `and` at the top
abbrev pub is_conjunct : Quietly → Bool
is_conjunct q = is_truth q || is_numeric q

-- the conjuncts that have been looked at: whether all are truth values, whether all may be there, and how many are comparisons
-- of an attribute with an integer
pub record Tally (qs : List Quietly) (truths allowed : Bool) (numerics : ℕ) : Type 0 where
  pub are_truths : truths ≡ list_all is_truth qs
  pub are_allowed : allowed ≡ list_all is_conjunct qs
  pub count : numerics ≡ length (filter is_numeric qs)
