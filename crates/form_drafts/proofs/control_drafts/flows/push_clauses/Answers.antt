use Rattle.std.proofs.Common.{◌<◌, ◌∙◌, Bool, length, refl, ap, arith}
use Rattle.expr_raws.specs.ControlRaws.Bindings.{clause_tokens, clauses_tokens}
use Rattle.expr_drafts.specs.ExprPlaces.Forms.{clause_form}
use Rattle.expr_drafts.proofs.Turns.{start}
use Rattle.form_drafts.specs.ControlDrafts.Clauses.{joins_at}
use Rattle.form_drafts.proofs.ControlDrafts.ClauseTurns.{clause_turn, finish_clauses}
use Rattle.form_drafts.proofs.control_drafts.flows.push_clauses.Goals as goal

pub loop-left-init : goal.loop-left-init
loop-left-init c =
    let p = c.args.prefixes.now in
    let cs = c.args.clauses.now in
    record {
      within = omega arith;
      same = start (clause_form p) (clauses_tokens (joins_at p cs (length cs))) cs
          c.args.draft.now refl;
    }

pub loop-left-preserved : goal.loop-left-preserved
loop-left-preserved c =
    let test = c.loop-left-test.true in
    let positive : 0 < c.loop-left.left = omega arith in
    let p = c.args.prefixes.now in
    record {
      within = omega arith;
      same = clause_turn p c.args.clauses.now c.loop-left.left c.index-clauses-left.result
          c.index-clauses-left.result _ _ _ positive c.loop-left.invariant.within
          c.index-clauses-left.is c.loop-left.invariant.same
          (c.in_ok-push_clause.ensures ∙ ap (λ (b : Bool). clause_tokens b
          (clause_form p c.index-clauses-left.result) c.loop-left.draft) (c.joins-joined.ensures p));
    }

pub returns : goal.returns
returns c = finish_clauses c.args.prefixes.now c.args.clauses.now c.loop-left.left _ _
    c.loop-left-test.false c.loop-left.invariant.same
