-- Import precedence in the words of the Recommendation (XSLT 2.0, 3.10.3).
use Rattle.std.specs.Prelude.{◌≡◌, ◌≤◌, ◌<◌, ℕ, ◌+◌, List, [], ◌∷◌, ◌++◌, length}
use Rattle.module_loading.specs.ImportLevels.Levels.{Links, import, include, level_count, placed, firsts, firsts_of}

-- each of them lies above `low`, and none above `high`
abbrev pub Within : ℕ → ℕ → List ℕ → Type 0
Within low high [] = Unit {0}
Within low high (m ∷ ms) = (low < m) × (m ≤ high) × Within low high ms

-- all modules after links have levels above those that were numbered before, up to the level of
-- the module they stand in
abbrev pub LevelsNest : Type 0
LevelsNest = (before own : ℕ) (links : Links) → before + level_count links < own
    → Within before own (placed before own links)

-- where a module of the level `own` has an import before further links, the level that it opens
-- lies below `own`, the modules after it lie in that level or below it, and those after the
-- further links above it
pub record LiesBelow (before own : ℕ) (below rest : Links) : Type 0 where
  pub under : before + level_count below + 1 < own
  pub imported : Within before (before + level_count below + 1)
      (placed before (before + level_count below + 1) below)
  pub later : Within (before + level_count below + 1) own
      (placed (before + level_count below + 1) own rest)

abbrev pub ImportsLieBelow : Type 0
ImportsLieBelow = (before own : ℕ) (below rest : Links)
    → before + level_count (import below rest) < own → LiesBelow before own below rest

-- each of the levels that are numbered from `before` on has a first, which is none of the levels
-- numbered before, and does not lie above the level itself
abbrev pub Begin : ℕ → ℕ → List ℕ → Type 0
Begin low before [] = Unit {0}
Begin low before (f ∷ fs) = (low < f) × (f ≤ before + 1) × Begin low (before + 1) fs

pub record HasFirsts (links : Links) : Type 0 where
  pub one_each : length (firsts_of links) ≡ level_count links + 1
  pub begin : Begin 0 0 (firsts_of links)

abbrev pub EachLevelHasItsFirst : Type 0
EachLevelHasItsFirst = (links : Links) → HasFirsts links

-- an included module has the level of the module that includes it, and its own imports are those
-- of that level, in their place among them
abbrev pub IncludesShareALevel : Type 0
IncludesShareALevel = (before own : ℕ) (below rest : Links) → placed before own (include below rest)
    ≡ own ∷ (placed before own below ++ placed (before + level_count below) own rest)
