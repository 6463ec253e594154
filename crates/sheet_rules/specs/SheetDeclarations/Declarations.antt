-- The declarations of a stylesheet in one list, level by level (XSLT 2.0, 3.10.3).
use Rattle.std.specs.Prelude.{ℕ, ◌+◌, List, [], ◌∷◌, ◌++◌, map, take, drop, slice_get, Option, Some, None}
use Rattle.sheet_modules.specs.declared.sheet_levels.levels.Span.{Span}
use Rattle.sheet_modules.specs.declared.sheet_levels.levels.SheetLevel.{SheetLevel}
use Rattle.sheet_modules.specs.declared.modules.Part.{Part}
use Rattle.sheet_rules.specs.declared.sheet_declarations.lists.Declaration.{Declaration}

-- what comes before this place, or all
abbrev pub before : {A : Type 0} → Option ℕ → List A → List A
before None parts = parts
before (Some to) parts = take to parts

-- the children of a root that a piece holds
abbrev pub piece : {A : Type 0} → Span → List A → List A
piece s parts = drop s.from (before s.to parts)

-- the same of a module, which there may not be
abbrev pub piece_in : {A : Type 0} → Span → Option (List A) → List A
piece_in s None = []
piece_in s (Some parts) = piece s parts

-- what is declared in these pieces of the modules, which stand in the order of loading
abbrev pub pieces : {A : Type 0} → List (List A) → List Span → List A
pieces modules [] = []
pieces modules (s ∷ ss) = piece_in s (slice_get modules s.place) ++ pieces modules ss

abbrev pub declared : {E P : Type 0} → ℕ → Part E P → Declaration E P
declared level part = record { level = level; part = part }

-- those of levels of which the first has this precedence
abbrev pub declarations_from : {E P : Type 0} → List (List (Part E P)) → ℕ → List SheetLevel
    → List (Declaration E P)
declarations_from modules level [] = []
declarations_from modules level (l ∷ ls) =
    map (declared level) (pieces modules l.spans) ++ declarations_from modules (level + 1) ls

abbrev pub declarations_of : {E P : Type 0} → List (List (Part E P)) → List SheetLevel
    → List (Declaration E P)
declarations_of modules levels = declarations_from modules 1 levels
