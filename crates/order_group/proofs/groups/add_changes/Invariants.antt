use Rattle.std.proofs.Common.{◌≡◌, ◌+◌, drop}
use Rattle.order_group.specs.Groups.{changes}
use Rattle.order_group.specs.Steps.{continued}
use Rattle.order_group.proofs.groups.add_changes.Given as goal

abbrev pub invariant-loop-key : goal.invariant-loop-key
invariant-loop-key l = record {
  place : l.place ≡ l.key-index + 1;
  left : continued l.groups.items l.place (changes l.before (drop l.key-index l.rest)) ≡ continued l.initial.groups.items 1 (changes l.first l.rest);
}
