use Rattle.std.proofs.Common.{◌≡◌, ℤ, sym, ◌∙◌, ap₂, rules}
use Rattle.std.specs.Prelude.{FitsSigned}
use Rattle.std.specs.Int.{w64}
use Rattle.std.specs.Option.{option_to_list}
use Rattle.std.proofs.lemmas.Int.{to_z-of_z}
use Rattle.eval_scopes.specs.NodeWalks.Moves.{given}
use Rattle.eval_scopes.specs.LazySeq.Flow.{Flow, item_at}
use Rattle.expr_meaning.specs.Outcomes.Outcome.{Ends}
use Rattle.eval_lates.proofs.PlaceLemmas.{kept_there, kept_nowhere}
use Rattle.eval_lates.proofs.places.late_item.Goals as goal

pub returns-in_ok-item_there : goal.returns-in_ok-item_there
returns-in_ok-item_there c =
    let fits : FitsSigned w64 c.args.place = search rules in
    λ env k. rw (c.in_ok-item_there.ensures)
    (kept_there c.args.place env (given c.args.items.moves) k
    (sym c.in_ok-counted.ensures.count ∙ c.if-counted.true)
    ∙ ap₂ (λ (n : ℤ) (s : Flow). Ends (option_to_list (item_at n (given s.moves))) k)
    (sym (to_z-of_z w64 c.args.place fits)) (sym c.in_ok-counted.ensures.same))

pub returns-else-counted : goal.returns-else-counted
returns-else-counted c =
    λ env k. kept_nowhere c.args.place env (given c.args.items.moves) k
    (sym c.in_ok-counted.ensures.count ∙ c.if-counted.false)
