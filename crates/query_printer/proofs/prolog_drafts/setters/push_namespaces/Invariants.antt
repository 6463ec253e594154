use Rattle.std.proofs.Common.{◌≡◌, ◌≤◌, length, drop, map}
use Rattle.printed_laws.specs.QueryRaws.Prologs.{namespace}
use Rattle.printed_laws.specs.QueryRaws.Queries.{prolog_tokens}
use Rattle.query_printer.proofs.prolog_drafts.setters.push_namespaces.Given as goal

abbrev pub invariant-loop-left : goal.invariant-loop-left
invariant-loop-left l = record {
  within : l.left ≤ length l.bindings;
  same : l.draft ≡ prolog_tokens (map (λ b. namespace b) (drop l.left l.bindings)) l.initial.draft;
}

abbrev pub decreases-loop-left : goal.decreases-loop-left
decreases-loop-left l = l.left
