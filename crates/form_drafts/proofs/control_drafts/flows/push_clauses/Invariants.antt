use Rattle.std.proofs.Common.{◌≡◌, ◌≤◌, length, drop, map}
use Rattle.expr_raws.specs.ControlRaws.Bindings.{clauses_tokens}
use Rattle.expr_drafts.specs.ExprPlaces.Forms.{clause_form}
use Rattle.form_drafts.specs.ControlDrafts.Clauses.{joins_at}
use Rattle.form_drafts.proofs.control_drafts.flows.push_clauses.Given as goal

abbrev pub invariant-loop-left : goal.invariant-loop-left
invariant-loop-left l = record {
  within : l.left ≤ length l.clauses;
  same : l.draft ≡ clauses_tokens (joins_at l.prefixes l.clauses l.left)
      (map (clause_form l.prefixes) (drop l.left l.clauses)) l.initial.draft;
}

abbrev pub decreases-loop-left : goal.decreases-loop-left
decreases-loop-left l = l.left
