use Rattle.std.proofs.Common.{◌≡◌, ◌≤◌, ◌<◌, ℕ, drop, length, get_or, None}
use Rattle.sheet_assembly.specs.Templates.{first_at}
use Rattle.sheet_assembly.proofs.templates.places.Given as goal

abbrev pub invariant-loop-left : goal.invariant-loop-left
invariant-loop-left l = record {
  within : l.left ≤ length l.standing;
  long : length l.places.items ≡ l.count;
  found : (k : ℕ) → k < l.count → get_or l.places.items k None ≡ first_at k l.left (drop l.left l.standing);
}

abbrev pub decreases-loop-left : goal.decreases-loop-left
decreases-loop-left l = l.left
