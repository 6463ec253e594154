use Rattle.std.proofs.Common.{◌≡◌, ◌≤◌, ◌++◌, length, drop}
use Rattle.printed_laws.specs.QueryRaws.Declarations.{params_tokens}
use Rattle.query_printer.proofs.prolog_drafts.declarations.push_params.Given as goal

abbrev pub invariant-loop-left : goal.invariant-loop-left
invariant-loop-left l = record {
  within : l.left ≤ length l.params;
  same : l.draft ≡ params_tokens l.prefixes (drop l.left l.params) ++ l.initial.draft;
}

abbrev pub decreases-loop-left : goal.decreases-loop-left
decreases-loop-left l = l.left
