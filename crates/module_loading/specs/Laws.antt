-- The levels of the modules that are loaded, in the words of the Recommendation (XSLT 2.0, 3.10.2
-- and 3.10.3).
use Rattle.std.specs.Prelude.{◌≡◌, ℕ, ◌+◌, ◌∷◌, ◌++◌, map, Some, false}
use Rattle.module_loading.specs.ImportLevels.Levels.{firsts_of}
use Rattle.sheet_modules.specs.declared.sheet_levels.levels.SheetLevel.{SheetLevel}
use Rattle.sheet_modules.specs.declared.links.Link.{Link}
use Rattle.module_loading.specs.declared.loaded.LoadedModule.{LoadedModule}
use Rattle.module_loading.specs.Trees.{Modules, linked, module_count, links_of, span, spans, all_levels}

abbrev pub first_of : SheetLevel → ℕ
first_of l = l.first

-- the levels stand in post-order: each has the first that import precedence gives it
abbrev pub LevelsAreThoseOfPrecedence : Type 0
LevelsAreThoseOfPrecedence = (tree : Modules)
    → map first_of (all_levels tree) ≡ firsts_of (links_of tree)

-- where a module includes another, its level goes on with all of that one, and then with its own
-- children from the link on
abbrev pub IncludedModulesStandInPlace : Type 0
IncludedModulesStandInPlace = (at from count : ℕ) (link : Link) (m : LoadedModule) (below rest : Modules)
    → link.import ≡ false
    → spans at from count (linked link m below rest)
    ≡ span at from (Some link.before) ∷ (spans count 0 (count + 1) below
    ++ spans at link.before (count + 1 + module_count below) rest)
