use Rattle.std.proofs.Common.{ℤ, rules, subst}
use Rattle.std.specs.Prelude.{FitsSigned}
use Rattle.std.specs.Int.{w64}
use Rattle.std.proofs.lemmas.Int.{to_z-of_z}
use Rattle.expr_meaning.specs.Outcomes.Outcome.{Ends}
use Rattle.xdm_items.specs.FunctionArguments.Answers.{of_integer}
use Rattle.eval_steps.specs.ValueSlots.Slots.{Leaves}
use Rattle.eval_steps.proofs.value_slots.leaves.put_integer.Goals as goal

pub returns : goal.returns
returns c = λ k.
    let fits : FitsSigned w64 c.args.number = search rules in
    subst
    (λ (n : ℤ). Leaves c.put.result c.put.new.value k (Ends (of_integer n) k))
    (to_z-of_z w64 c.args.number fits) (c.put.ensures k _ (c.literal_integer.ensures k))
