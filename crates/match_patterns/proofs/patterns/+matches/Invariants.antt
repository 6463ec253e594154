use Rattle.std.proofs.Common.{◌≡◌, ◌≤◌, ◌+◌, ◌*◌, take, reverse, true}
use Rattle.std.specs.List.{list_any}
use Rattle.xt_tree.specs.Place.{has_place}
use Rattle.match_patterns.specs.Findings.{count_above}
use Rattle.match_patterns.specs.Patterns.{above, steps_match}
use Rattle.match_patterns.proofs.AboveLemmas.{upper}
use Rattle.match_patterns.proofs.patterns.+matches.Given as goal

abbrev pub decreases-first_match : goal.decreases-first_match
decreases-first_match l = 4 * l.count

abbrev pub decreases-match_parent : goal.decreases-match_parent
decreases-match_parent l = 4 * l.count + 1

abbrev pub decreases-match_ancestor : goal.decreases-match_ancestor
decreases-match_ancestor l = 4 * l.count + 1

abbrev pub decreases-match_above : goal.decreases-match_above
decreases-match_above l = 4 * l.count + 2

abbrev pub decreases-is_led : goal.decreases-is_led
decreases-is_led l = 4 * l.count + 3

abbrev pub invariant-match_above-loop-depth : goal.invariant-match_above-loop-depth
invariant-match_above-loop-depth l = record {
  rest : list_any (steps_match l.rooted (reverse (take l.count l.steps))) (above true l.node)
      ≡ upper (steps_match l.rooted (reverse (take l.count l.steps))) l.node l.depth;
  within : l.depth ≤ count_above l.node;
  exists : has_place l.node ≡ true;
}

abbrev pub decreases-match_above-loop-depth : goal.decreases-match_above-loop-depth
decreases-match_above-loop-depth l = l.depth
