-- The best rule, in the words of the Recommendation (XSLT 2.0, 6.4), and as it is found.
use Rattle.std.specs.Prelude.{◌≡◌, ℕ, List, [], Bool, true, false, Option, Some}
use Rattle.std.specs.Prelude.{All, AllPairs, Contains, MatchOption}
use Rattle.std.specs.Option.{option_map_or}
use Rattle.xt_tree.specs.Place.{Place}
use Rattle.xt_sheets.specs.declared.sheets.Rule.{Rule}
use Rattle.rule_order.specs.Rules.{Rank, Ranked, RuleSet, fits, is_lower, matching, rank_at, rule_at}

-- it is one of the rules of the set that match, and no other of them is greater
pub record IsBest (set : RuleSet) (rules : List Rule) (mode : ℕ) (n : Place) (r : Ranked) :
    Type 0 where
  pub matches : Contains (matching set rules mode n) r
  pub greatest : All (λ s. is_lower r.rank s.rank ≡ false) (matching set rules mode n)

-- .. or there is none where none matches
abbrev pub IsBestIfAny : RuleSet → List Rule → ℕ → Place → Option Ranked → Type 0
IsBestIfAny set rules mode n best =
    MatchOption best (matching set rules mode n ≡ []) (IsBest set rules mode n)

abbrev pub is_in : RuleSet → List Rule → ℕ → Bool
is_in set rules place = option_map_or set (rank_at rules place) false

abbrev pub fits_at : List Rule → ℕ → Place → ℕ → Bool
fits_at rules mode n place = option_map_or (fits mode n) (rule_at rules place) false

abbrev pub is_below : Option Rank → Option Rank → Bool
is_below (Some a) (Some b) = is_lower a b
is_below a b = false

-- places of rules of the set, in falling order, among which are all whose rules fit
pub record AreCandidates (set : RuleSet) (rules : List Rule) (mode : ℕ) (n : Place)
    (places : List ℕ) : Type 0 where
  pub within : All (λ i. is_in set rules i ≡ true) places
  pub fall : AllPairs (λ i j. is_below (rank_at rules j) (rank_at rules i) ≡ true) places
  pub whole : (i : ℕ) → is_in set rules i ≡ true → fits_at rules mode n i ≡ true →
      Contains places i
