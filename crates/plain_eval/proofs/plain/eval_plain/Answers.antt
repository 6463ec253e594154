use Rattle.std.proofs.Common.{◌≡◌, ◌+◌, ap, ◌∙◌, length, subst}
use Rattle.node_walks.specs.Moves.{given}
use Rattle.expr_meaning.specs.Outcomes.Outcome.{Ends}
use Rattle.expr_meaning.specs.Meaning.{outcome}
use Rattle.eval_scopes.specs.Scopes.{focus_of}
use Rattle.plain_eval.specs.Bound.{Bound}
use Rattle.plain_eval.specs.Plain.{plain_env, plain_program}
use Rattle.plain_eval.proofs.PlainLemmas.{never_deep}
use Rattle.plain_eval.proofs.plain.eval_plain.Goals as goal

pub returns-in-Ok : goal.returns-in-Ok
returns-in-Ok c =
    let documents = c.args.vars.now.documents in
    let locals = c.args.vars.now.locals in
    let first : c.in-Some.next ≡ length documents + 1 =
    c.in-Some.ensures.1 ∙ ap (λ n. n + 1) c.len.ensures.count
    ∙ ap (λ (b : Bound). length b.documents + 1) c.vars.view_is in
    let j = c.evaluated.new.next in (
      j,
      subst (λ f. outcome (plain_program documents) c.args.expr.now (plain_env locals f)
          (length documents + 1) ≡ Ends (given c.in-Ok.items.moves) j) c.placed-focus.ensures
          (subst (λ k. outcome (plain_program documents) c.args.expr.now
          (plain_env locals (focus_of c.placed-focus.result)) k
          ≡ Ends (given c.in-Ok.items.moves) j) first c.in-Ok.ensures),
    )

pub unreachable-requires : goal.unreachable-requires
unreachable-requires c =
    never_deep c.args.vars.now.documents c.args.expr.now
    (plain_env c.args.vars.now.locals (focus_of c.placed-focus.result)) c.in-Some.next
    c.in-Err-Deep.field-0 c.in-Err-Deep.field-0-is c.in-Err-Deep.ensures
