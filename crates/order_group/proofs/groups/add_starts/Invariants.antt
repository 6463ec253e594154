use Rattle.std.proofs.Common.{◌≡◌, ◌+◌, drop, map}
use Rattle.order_group.specs.Groups.{plain_mark}
use Rattle.order_group.specs.Steps.{continued}
use Rattle.order_group.proofs.groups.add_starts.Given as goal

abbrev pub invariant-loop-begins : goal.invariant-loop-begins
invariant-loop-begins l = record {
  place : l.place ≡ l.begins-index + 1;
  left : continued l.groups.items l.place (map plain_mark (drop l.begins-index l.rest)) ≡ continued l.initial.groups.items 1 (map plain_mark l.rest);
}
