-- The form of what an expression gives in a quiet predicate.
use Rattle.xt_forms.specs.declared.quiet_forms.QuietForm.{QuietForm}
use Rattle.xt_forms.specs.declared.quiet_forms.QuietForm.TheVariants as form
use Rattle.quiet_meaning.specs.Quietly.{Quietly, integer, literal, position, last, text_of, count_of, attribute, step, path, condition, numeric, conjunction, other}

unfoldable pub form_of : Quietly → QuietForm
form_of (integer n) = form.Integer
form_of (literal t) = form.Literal
form_of position = form.Position
form_of last = form.Last
form_of (text_of g) = form.NameOf
form_of (count_of g) = form.CountOf
form_of (attribute g) = form.Step
form_of (step g) = form.Step
form_of (path g) = form.Path
form_of (condition c) = form.Condition
form_of (numeric c) = form.Other
form_of (conjunction c) = form.Other
form_of other = form.Other
