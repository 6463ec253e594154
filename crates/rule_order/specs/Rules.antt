-- Which template rule a node gets (XSLT 2.0, 6.4 and 6.7).
use Rattle.std.specs.Prelude.{ℕ, ℤ, zero, suc, ◌-◌, List, [], ◌∷◌, filter, slice_get}
use Rattle.std.specs.Prelude.{Bool, true, false, ◌&&◌, nat_eq, nat_le, nat_lt, if◌then◌else◌}
use Rattle.std.specs.Prelude.{Option, Some, None, option_map, option_and_then}
use Rattle.std.specs.List.{list_any}
use Rattle.std.specs.Ordering.{nat_cmp, int_cmp, then_cmp, on, is_lt}
use Rattle.std.specs.declared.cmp.Ordering.{Ordering}
use Rattle.xt_tree.specs.Place.{Place}
use Rattle.xt_sheets.specs.declared.sheets.Level.{Level}
use Rattle.xt_sheets.specs.declared.sheets.Rule.{Rule}
use Rattle.match_patterns.specs.Patterns.{pattern_matches}

-- what decides between rules: import precedence, then priority, then the place among all rules
pub record Rank : Type 0 where
  pub precedence : ℕ
  pub priority : ℤ
  pub place : ℕ

abbrev pub rank_cmp : Rank → Rank → Ordering
rank_cmp =
    then_cmp (on (λ r. r.precedence) nat_cmp)
    (then_cmp (on (λ r. r.priority) int_cmp) (on (λ r. r.place) nat_cmp))

unfoldable pub is_lower : Rank → Rank → Bool
is_lower a b = is_lt (rank_cmp a b)

-- a rule with its rank
pub record Ranked : Type 0 where
  pub rank : Rank
  pub rule : Rule

abbrev pub ranked : ℕ → Rule → Ranked
ranked place r = record {
  rank = record { precedence = r.precedence; priority = r.priority; place = place };
  rule = r;
}

abbrev pub ranked_from : ℕ → List Rule → List Ranked
ranked_from place [] = []
ranked_from place (r ∷ rules) = ranked place r ∷ ranked_from (suc place) rules

-- places count from 1
abbrev pub all_ranked : List Rule → List Ranked
all_ranked rules = ranked_from 1 rules

abbrev pub rule_at : List Rule → ℕ → Option Rule
rule_at rules zero = None
rule_at rules (suc i) = slice_get rules i

abbrev pub rank_at : List Rule → ℕ → Option Rank
rank_at rules place = option_map (λ r. (ranked place r).rank) (rule_at rules place)

-- the rules among which the best is looked for
abbrev pub RuleSet : Type 0
RuleSet = Rank → Bool

abbrev pub all_rules : RuleSet
all_rules rank = true

abbrev pub below : Rank → RuleSet
below current rank = is_lower rank current

-- the precedences of the levels that are imported into the level of precedence `own`: from its first
-- up to its own, without it
abbrev pub is_imported_into : ℕ → Option Level → ℕ → Bool
is_imported_into own None precedence = false
is_imported_into own (Some level) precedence =
    nat_le level.first precedence && nat_lt precedence own

abbrev pub imported : List Level → Rank → RuleSet
imported levels current rank =
    is_imported_into current.precedence (slice_get levels (current.precedence - 1))
    rank.precedence

-- the rule is in the mode and matches the node
unfoldable pub fits : ℕ → Place → Rule → Bool
fits mode n r = list_any (nat_eq mode) r.modes && pattern_matches r.pattern n

abbrev pub matching : RuleSet → List Rule → ℕ → Place → List Ranked
matching set rules mode n = filter (λ r. set r.rank && fits mode n r.rule) (all_ranked rules)

abbrev pub greater : Ranked → Option Ranked → Ranked
greater r None = r
greater r (Some s) = if is_lower r.rank s.rank then s else r

abbrev pub greatest : List Ranked → Option Ranked
greatest [] = None
greatest (r ∷ rs) = Some (greater r (greatest rs))

-- the greatest rule of the set that is in the mode and matches the node
unfoldable pub best_rule : RuleSet → List Rule → ℕ → Place → Option Ranked
best_rule set rules mode n = greatest (matching set rules mode n)

-- .. and its place
abbrev pub best_place : RuleSet → List Rule → ℕ → Place → Option ℕ
best_place set rules mode n = option_map (λ r. r.rank.place) (best_rule set rules mode n)

-- what apply-templates looks for; and what next-match and apply-imports look for, where the current
-- rule is at this place
abbrev pub best_of_all : List Rule → ℕ → Place → Option ℕ
best_of_all rules mode n = best_place all_rules rules mode n

abbrev pub best_below : List Rule → ℕ → ℕ → Place → Option ℕ
best_below rules current mode n =
    option_and_then (λ rank. best_place (below rank) rules mode n) (rank_at rules current)

abbrev pub best_imported : List Level → List Rule → ℕ → ℕ → Place → Option ℕ
best_imported levels rules current mode n =
    option_and_then (λ rank. best_place (imported levels rank) rules mode n)
    (rank_at rules current)
