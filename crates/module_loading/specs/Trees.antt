-- The modules of a stylesheet as they are loaded, and the levels that they make up (XSLT 2.0, 3.10).
use Rattle.std.specs.Prelude.{ℕ, ◌+◌, List, [], ◌∷◌, ◌++◌, Bool, true, false, Option, Some, None}
use Rattle.module_loading.specs.ImportLevels.Levels.{Links, nothing, import, include, level_count}
use Rattle.sheet_modules.specs.declared.links.Link.{Link}
use Rattle.sheet_modules.specs.declared.sheet_levels.levels.Span.{Span}
use Rattle.sheet_modules.specs.declared.sheet_levels.levels.SheetLevel.{SheetLevel}
use Rattle.module_loading.specs.declared.loaded.LoadedModule.{LoadedModule}

-- the modules after the links of a module in order: what a link leads to, what the links of that
-- module lead to, and what the further links lead to
pub data Modules : Type 0 where
  none : Modules
  linked : Link → LoadedModule → Modules → Modules → Modules

-- in the order of loading
abbrev pub listed : Modules → List LoadedModule
listed none = []
listed (linked link m below rest) = m ∷ (listed below ++ listed rest)

abbrev pub module_count : Modules → ℕ
module_count none = 0
module_count (linked link m below rest) = 1 + module_count below + module_count rest

-- the links alone, by which precedence is told
abbrev pub link_by : Bool → Links → Links → Links
link_by true below rest = import below rest
link_by false below rest = include below rest

abbrev pub links_of : Modules → Links
links_of none = nothing
links_of (linked link m below rest) = link_by link.import (links_of below) (links_of rest)

abbrev pub span : ℕ → ℕ → Option ℕ → Span
span place from to = record { place = place; from = from; to = to }

-- an imported module has a level of its own
abbrev pub included : Bool → List Span → List Span
included true spans = []
included false spans = spans

-- The pieces of a level in the module of this place, from this child of its root on. Each included
-- module stands where the module that includes it names it. So many modules are loaded before those
-- after its links.
abbrev pub spans : ℕ → ℕ → ℕ → Modules → List Span
spans at from count none = span at from None ∷ []
spans at from count (linked link m below rest) =
    span at from (Some link.before)
    ∷ (included link.import (spans count 0 (count + 1) below)
    ++ spans at link.before (count + 1 + module_count below) rest)

-- the level that an import opens, where so many levels are numbered before it and those below it
abbrev pub opened : Bool → ℕ → List Span → List SheetLevel
opened true before spans = record { first = before + 1; spans = spans } ∷ []
opened false before spans = []

abbrev pub more_levels : Bool → ℕ → ℕ
more_levels true n = n + 1
more_levels false n = n

-- the levels after links in the order of precedence, where so many levels are numbered and so many
-- modules are loaded before
abbrev pub levels : ℕ → ℕ → Modules → List SheetLevel
levels before count none = []
levels before count (linked link m below rest) =
    levels before (count + 1) below
    ++ (opened link.import before (spans count 0 (count + 1) below)
    ++ levels (before + more_levels link.import (level_count (links_of below)))
    (count + 1 + module_count below) rest)

-- those of the stylesheet, of which the level of the first module is the last
abbrev pub all_levels : Modules → List SheetLevel
all_levels tree = levels 0 1 tree ++ record { first = 1; spans = spans 0 0 1 tree } ∷ []
