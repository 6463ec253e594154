use Rattle.std.proofs.Common.{ℤ, sym, ◌∙◌, ap, rules}
use Rattle.std.specs.Prelude.{FitsSigned}
use Rattle.std.specs.Int.{w64}
use Rattle.std.specs.Option.{option_to_list}
use Rattle.std.proofs.lemmas.Bool.{lt-ltb}
use Rattle.std.proofs.lemmas.Int.{to_z-of_z}
use Rattle.std.proofs.lemmas.Result.{IfOk-weaker}
use Rattle.eval_scopes.specs.NodeWalks.Moves.{given}
use Rattle.eval_scopes.specs.LazySeq.Flow.{item_at}
use Rattle.expr_meaning.specs.Outcomes.Outcome.{Ends}
use Rattle.eval_lates.proofs.PlaceLemmas.{kept_there}
use Rattle.eval_lates.proofs.places.late_place.Goals as goal

pub returns : goal.returns
returns c =
    let fits : FitsSigned w64 c.args.place = search rules in
    λ env k. IfOk-weaker c.item_there.result _ _
    (λ list e. kept_there c.args.place env (given c.args.items.moves) k (lt-ltb _ _ c.requires)
    ∙ ap (λ (n : ℤ). Ends (option_to_list (item_at n (given c.args.items.moves))) k)
    (sym (to_z-of_z w64 c.args.place fits)) ∙ ap (λ xs. Ends xs k) (sym e)) c.item_there.ensures
