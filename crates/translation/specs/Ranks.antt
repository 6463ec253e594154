-- Template rules in falling order, and those that next-match and apply-imports look among (XSLT 2.0,
-- 6.4 and 6.7).
use Rattle.std.specs.Prelude.{ℕ, List, [], ◌∷◌, filter, Bool, nat_eq, if◌then◌else◌}
use Rattle.std.specs.List.{list_any}
use Rattle.xt_sheets.specs.declared.sheets.Level.{Level}
use Rattle.xt_sheets.specs.declared.sheets.Rule.{Rule}
use Rattle.rule_order.specs.Rules.{Ranked, RuleSet, all_ranked, below, imported, is_lower}

-- before the first that is lower
abbrev pub inserted : Ranked → List Ranked → List Ranked
inserted r [] = r ∷ []
inserted r (s ∷ rules) = if is_lower s.rank r.rank then r ∷ s ∷ rules else s ∷ inserted r rules

abbrev pub falling : List Ranked → List Ranked
falling [] = []
falling (r ∷ rules) = inserted r (falling rules)

abbrev pub is_in_mode : ℕ → Ranked → Bool
is_in_mode mode r = list_any (nat_eq mode) r.rule.modes

-- the rules of a mode, in order of their places
abbrev pub rules_in : ℕ → List Rule → List Ranked
rules_in mode rules = filter (is_in_mode mode) (all_ranked rules)

abbrev pub those_in : RuleSet → List Ranked → List Ranked
those_in set rules = filter (λ s. set s.rank) rules

-- those that are lower than a rule, and those of the levels that are imported into its level
abbrev pub lower_than : Ranked → List Ranked → List Ranked
lower_than r rules = those_in (below r.rank) rules

abbrev pub imported_into : List Level → Ranked → List Ranked → List Ranked
imported_into levels r rules = those_in (imported levels r.rank) rules
