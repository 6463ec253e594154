use Rattle.std.proofs.Common.{◌≡◌, ℤ, ◌∙◌, ap, subst, rules}
use Rattle.std.specs.Prelude.{FitsSigned}
use Rattle.std.specs.Int.{w64}
use Rattle.std.proofs.lemmas.Int.{to_z-of_z}
use Rattle.node_walks.specs.Moves.{given}
use Rattle.expr_meaning.specs.Paths.{kept}
use Rattle.expr_meaning.specs.Outcomes.Outcome.{Ends, and_then}
use Rattle.eval_lates.specs.EvalScopes.Scopes.{env_of}
use Rattle.eval_lates.specs.Late.{literal}
use Rattle.quiet_steps.proofs.walks.late_walk_place.Goals as goal

pub returns : goal.returns
returns c =
    let fits : FitsSigned w64 c.args.place = search rules in
    λ program k.
    ap (λ o. and_then o (kept (literal c.args.place) (env_of c.args.env.now)))
    (c.in_ok-items.ensures.value program k)
    ∙ subst (λ (n : ℤ). kept (literal n) (env_of c.args.env.now) (given c.in_ok-items.items.moves) k
    ≡ Ends c.in_ok-late_place.field-0 k) (to_z-of_z w64 c.args.place fits)
    (c.in_ok-late_place.ensures (env_of c.args.env.now) k)
