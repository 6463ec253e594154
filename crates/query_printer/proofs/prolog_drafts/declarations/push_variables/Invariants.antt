use Rattle.std.proofs.Common.{◌≡◌, ◌≤◌, length, drop, map}
use Rattle.printed_laws.specs.QueryRaws.Declarations.{variable}
use Rattle.printed_laws.specs.QueryRaws.Queries.{prolog_tokens}
use Rattle.query_printer.proofs.prolog_drafts.declarations.push_variables.Given as goal

abbrev pub invariant-loop-left : goal.invariant-loop-left
invariant-loop-left l = record {
  within : l.left ≤ length l.variables;
  same : l.draft ≡ prolog_tokens (map (λ v. variable l.prefixes v) (drop l.left l.variables)) l.initial.draft;
}

abbrev pub decreases-loop-left : goal.decreases-loop-left
decreases-loop-left l = l.left
