-- The forms within predicates of patterns, and what is made of them.
use Rattle.std.specs.Prelude.{ℕ, ◌==◌, Bool, true, false, ◌&&◌, if◌then◌else◌}
use Rattle.xt_forms.specs.declared.quiet_calls.QuietCall.{QuietCall}
use Rattle.xt_forms.specs.declared.quiet_calls.QuietCall.TheVariants as call
pub use Rattle.pattern_forms.specs.declared.forms.PredicateForm.{PredicateForm}
pub use Rattle.pattern_forms.specs.declared.forms.PredicateForm.TheVariants.{Integer, Literal, Position, Last, NameOf, CountOf, Attribute, Step, Path, Condition, Numeric, Conjunction, Other}

unfoldable pub is_path : PredicateForm → Bool
is_path Attribute = true
is_path Step = true
is_path Path = true
is_path f = false

unfoldable pub is_truth : PredicateForm → Bool
is_truth Attribute = true
is_truth Step = true
is_truth Path = true
is_truth Condition = true
is_truth f = false

unfoldable pub is_numeric : PredicateForm → Bool
is_numeric Numeric = true
is_numeric f = false

unfoldable pub is_predicate : PredicateForm → Bool
is_predicate Integer = true
is_predicate Last = true
is_predicate Attribute = true
is_predicate Step = true
is_predicate Path = true
is_predicate Condition = true
is_predicate f = false

unfoldable pub is_allowed : PredicateForm → Bool
is_allowed Literal = false
is_allowed Position = false
is_allowed NameOf = false
is_allowed CountOf = false
is_allowed Other = false
is_allowed f = true

abbrev pub condition_if : Bool → PredicateForm
condition_if holds = if holds then Condition else Other

abbrev pub path_as : Bool → PredicateForm → PredicateForm
path_as holds form = if holds then form else Other

unfoldable pub slashed : PredicateForm → PredicateForm → PredicateForm
slashed a Attribute = path_as (is_path a) Path
slashed a Step = path_as (is_path a) Path
slashed a b = Other

unfoldable pub with_integer : PredicateForm → PredicateForm
with_integer Position = Condition
with_integer Last = Condition
with_integer CountOf = Condition
with_integer Attribute = Numeric
with_integer a = Other

unfoldable pub with_literal : PredicateForm → PredicateForm
with_literal NameOf = Condition
with_literal Attribute = Condition
with_literal Step = Condition
with_literal Path = Condition
with_literal a = Other

unfoldable pub with_last : PredicateForm → PredicateForm
with_last Position = Condition
with_last a = Other

unfoldable pub compared : PredicateForm → PredicateForm → PredicateForm
compared a Integer = with_integer a
compared a Literal = with_literal a
compared a Last = with_last a
compared a b = Other

unfoldable pub called : QuietCall → PredicateForm
called call.Constant = Condition
called call.Position = Position
called call.Last = Last
called call.NameOf = NameOf
called f = Other

unfoldable pub called_with : QuietCall → PredicateForm → PredicateForm
called_with call.Not a = condition_if (is_truth a)
called_with call.Exists a = condition_if (is_path a)
called_with call.Count a = path_as (is_path a) CountOf
called_with f a = Other

abbrev pub all_form : Bool → Bool → ℕ → PredicateForm
all_form truths allowed numerics = if truths then Condition else if allowed && (numerics == 1) then Conjunction else Other
