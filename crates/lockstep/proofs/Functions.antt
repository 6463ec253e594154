-- A call of the function that a template becomes gives what the template gives.
use Rattle.std.proofs.Common.{◌≡◌, ◌+◌, ◌<◌, ◌^◌, ℕ, suc, List, length, refl, ap, ◌∙◌}
use Rattle.std.specs.Prelude.{true, Option, Some}
use Rattle.xt_names.specs.declared.codes.Code.{Code}
use Rattle.xt_names.specs.declared.names.ExprName.{ExprName}
use Rattle.xdm_items.specs.declared.items.Item.{Item}
use Rattle.xt_sheets.specs.declared.sheets.Sheet.{Sheet}
use Rattle.xt_sheets.specs.declared.sheets.Template.{Template}
use Rattle.expr_meaning.specs.Outcomes.Outcome.{and_then, step_outcome, Every}
use Rattle.expr_meaning.specs.Outcomes.Follow.{Relation, IsCarrying}
use Rattle.expr_meaning.specs.SortMeaning.Sorted.{Placed}
use Rattle.expr_meaning.specs.Env.{Binding}
use Rattle.expr_meaning.specs.Meaning.{outcome}
use Rattle.expr_meaning.specs.Queries.{Run, body_env, body_value, called_function, calls_at, converted_to}
use Rattle.expr_meaning.specs.Queries.{find_function, program_at, program_of}
use Rattle.meaning_laws.specs.SoundValues.Sound.{IsSound}
use Rattle.transform_meaning.specs.Bindings.{template_of}
use Rattle.transform_meaning.specs.Dispatch.{Doors, Passed}
use Rattle.transform_meaning.specs.Places.{entry}
use Rattle.transform_meaning.specs.Templates.{template_does}
use Rattle.translated_forms.specs.Places.{RuleIn, Table}
use Rattle.translation.specs.Templates.{template_expr, template_function}
use Rattle.lockstep.specs.Doors.{ArePassed, DoorsCarry, arguments_of, focus_arguments}
use Rattle.lockstep.specs.Numbers.{NumbersTell}
use Rattle.lockstep.specs.Spots.{ModeIsSeen, RuleIsSeen, Spot}
use Rattle.lockstep.proofs.Entry.{entry_at, focus_bound, focus_is, focus_seen, template_place}
use Rattle.lockstep.proofs.Exprs.{HasLocalNames}
use Rattle.lockstep.proofs.Forms.{FormsMeet}
use Rattle.lockstep.proofs.TemplatesDone.{TemplateFits, template_done}

module _ (like : Code → Code → Type 0) (lax : (a b : Code) → like a b) (rel : Relation)
    (carries : IsCarrying like rel) (t : Table) (local : HasLocalNames t)
    (numbers : NumbersTell t.params) (few : 1 + length t.params < 2 ^ 64) (sheet : Sheet) (d : Doors)
    (run : Run) (globals : List Binding) (n : ℕ)
    (doors : DoorsCarry rel t sheet d (program_at run globals n))
    (forms : FormsMeet like lax rel carries t numbers sheet d (program_at run globals n)) where
  abbrev args : Placed Item → Passed → List (List Item)
  args f passed = focus_arguments f (arguments_of t.params passed)

  call_is : (name : ExprName) (x : Spot) (template : Template) (f : Placed Item) (passed : Passed) →
      find_function run.query.functions name (length (args f passed))
      ≡ Some (template_function t name x.place template) → (k : ℕ) →
      calls_at run globals (suc n) name (args f passed) k
      ≡ and_then (outcome (program_at run globals n) (template_expr t x.place template)
      (body_env (focus_bound f t.params passed)) k) (λ xs j. step_outcome (converted_to template.kind xs) j)
  call_is name x template f passed is k =
      ap (λ o. called_function o (Some (body_value (program_of run globals (calls_at run globals n))))
      (args f passed) k) is
      ∙ ap (λ v. and_then (step_outcome v k) (body_value (program_of run globals (calls_at run globals n))
      (template_function t name x.place template))) (focus_is f t.params passed)

  -- the rules of modes and named templates: with one call less after it
  pub function_done : (name : ExprName) (x : Spot) (in_template : Option RuleIn) →
      x.place ≡ template_place in_template → (template : Template) → TemplateFits t x template →
      (f : Placed Item) → IsSound f.value → (passed : Passed) → ArePassed passed →
      find_function run.query.functions name (length (args f passed))
      ≡ Some (template_function t name x.place template) → (rule : Option ℕ) (mode : ℕ) →
      (x.in_rule ≡ true → ModeIsSeen in_template mode) →
      (x.has_rule ≡ true → RuleIsSeen in_template rule mode) → (k : ℕ) →
      rel (List Item) (Every IsSound)
      (template_of (template_does sheet d template) passed.ordinary
      (entry (Some f) rule mode passed.tunnel) k)
      (calls_at run globals (suc n) name (args f passed) k)
  function_done name x in_template place template fits f sound passed good is rule mode modes rules k =
      rw (call_is name x template f passed is k)
      (template_done like lax rel carries t local numbers sheet d (program_at run globals n) doors forms x
      template fits passed good (entry (Some f) rule mode passed.tunnel)
      (body_env (focus_bound f t.params passed))
      (entry_at t few x in_template place f sound passed good rule mode modes rules) refl
      (focus_seen f t.params passed few) k)
