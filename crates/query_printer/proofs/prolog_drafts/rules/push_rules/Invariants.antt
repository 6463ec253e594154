use Rattle.std.proofs.Common.{◌≡◌, ◌++◌, ◌-◌, length, drop}
use Rattle.printed_laws.specs.QueryRaws.Prologs.{rules_text}
use Rattle.query_printer.proofs.prolog_drafts.rules.push_rules.Given as goal

abbrev pub invariant-loop-place : goal.invariant-loop-place
invariant-loop-place l =
    l.out ++ rules_text l.prefixes (drop l.place l.rules)
    ≡ l.initial.out ++ rules_text l.prefixes l.rules

abbrev pub decreases-loop-place : goal.decreases-loop-place
decreases-loop-place l = length l.rules - l.place
