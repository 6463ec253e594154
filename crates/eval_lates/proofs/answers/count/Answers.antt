use Rattle.std.proofs.Common.{◌≡◌, ℤ, ap, sym, ◌∙◌, rules}
use Rattle.std.specs.Prelude.{Ok, FitsSigned}
use Rattle.std.specs.Int.{w64}
use Rattle.std.proofs.lemmas.Int.{to_z-of_z}
use Rattle.xdm_items.specs.FunctionArguments.Answers.{of_integer}
use Rattle.eval_scopes.specs.NodeWalks.Moves.{given}
use Rattle.eval_lates.proofs.CountLemmas.{counted_some, counted_none}
use Rattle.eval_lates.proofs.answers.count.Goals as goal

pub returns-in_ok-integer_list-in-Some : goal.returns-in_ok-integer_list-in-Some
returns-in_ok-integer_list-in-Some c =
    let fits : FitsSigned w64 c.in-Some.count = search rules in
    rw (c.in_ok-integer_list-in-Some.ensures)
    (counted_some (given c.args.items.moves) _ c.in-Some.count c.in_ok-count.ensures.count
    c.in-Some.is
    ∙ ap (λ (n : ℤ). Ok (of_integer n)) (sym (to_z-of_z w64 c.in-Some.count fits)))

pub returns-in-None : goal.returns-in-None
returns-in-None c =
    counted_none (given c.args.items.moves) _ c.in_ok-count.ensures.count c.in-None.is
