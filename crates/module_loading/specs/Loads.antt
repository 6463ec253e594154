-- What is loaded, step by step, and of the whole stylesheet.
use Rattle.std.specs.Prelude.{◌≡◌, ◌≤◌, ℕ, ◌+◌, List, [], ◌∷◌, ◌++◌, Bool, length}
use Rattle.doc_reader.specs.declared.Scoped.{Scoped}
use Rattle.sheet_modules.specs.ModuleNames.Names.{resolved}
use Rattle.sheet_modules.specs.declared.links.Link.{Link}
use Rattle.sheet_modules.specs.declared.sheet_levels.levels.Span.{Span}
use Rattle.module_loading.specs.declared.loaded.LoadedModule.{LoadedModule}
use Rattle.module_loading.specs.declared.loaded.LoadedSheet.{LoadedSheet}
use Rattle.module_loading.specs.declared.walk.Pieces.{Pieces}
use Rattle.module_loading.specs.Held.{Holdings}
use Rattle.module_loading.specs.Trees.{Modules, listed, included, spans, opened, levels, all_levels}
use Rattle.module_loading.specs.Walk.{IsModule, LeadsTo, LeadTo, most_modules}

module _ (files : Holdings) (reads : Scoped → List Link) where
  -- the module of this name is loaded, and has these links
  pub record AddsModule (name : List ℕ) (old new : LoadedSheet) (links : List Link) : Type 0 where
    pub made : LoadedModule
    pub is_module : IsModule files reads name made
    pub has_links : links ≡ made.links
    pub has_modules : new.modules ≡ old.modules ++ made ∷ []
    pub has_levels : new.levels ≡ old.levels

  -- the module of this name is loaded and all after its links, and these are the pieces of its level
  pub record LoadsModule (loading : List (List ℕ)) (name : List ℕ) (old new : LoadedSheet)
      (own : List Span) : Type 0 where
    pub made : LoadedModule
    pub below : Modules
    pub is_module : IsModule files reads name made
    pub lead : LeadTo files reads (loading ++ name ∷ []) name made.links below
    pub has_modules : new.modules ≡ old.modules ++ (made ∷ listed below)
    pub has_levels : new.levels
        ≡ old.levels ++ levels (length old.levels) (length old.modules + 1) below
    pub has_spans : own ≡ spans (length old.modules) 0 (length old.modules + 1) below
    pub few : length new.modules ≤ most_modules

  -- all that the link leads to is loaded
  pub record LoadsLink (loading : List (List ℕ)) (importer : List ℕ) (link : Link)
      (old new : LoadedSheet) (before after : Pieces) : Type 0 where
    pub made : LoadedModule
    pub below : Modules
    pub leads : LeadsTo files reads loading importer link made
    pub lead : LeadTo files reads (loading ++ resolved importer link.href ∷ []) (resolved importer link.href) made.links below
    pub has_modules : new.modules ≡ old.modules ++ (made ∷ listed below)
    pub has_levels : new.levels
        ≡ old.levels ++ (levels (length old.levels) (length old.modules + 1) below
        ++ opened link.import (length old.levels)
        (spans (length old.modules) 0 (length old.modules + 1) below))
    pub same_place : after.place ≡ before.place
    pub same_from : after.from ≡ before.from
    pub has_spans : after.spans ≡ before.spans
        ++ included link.import (spans (length old.modules) 0 (length old.modules + 1) below)
    pub few : length new.modules ≤ most_modules

  -- all that the links lead to is loaded
  pub record LoadsLinks (loading : List (List ℕ)) (importer : List ℕ) (links : List Link)
      (old new : LoadedSheet) (before : Pieces) (after : List Span) : Type 0 where
    pub tree : Modules
    pub lead : LeadTo files reads loading importer links tree
    pub has_modules : new.modules ≡ old.modules ++ listed tree
    pub has_levels : new.levels ≡ old.levels ++ levels (length old.levels) (length old.modules) tree
    pub has_spans : after ≡ before.spans ++ spans before.place before.from (length old.modules) tree
    pub few : length new.modules ≤ most_modules

  -- The modules of the stylesheet whose first module has this name: all that its links lead to, depth
  -- first, and the levels that they make up.
  pub record IsLoadedSheet (name : List ℕ) (sheet : LoadedSheet) : Type 0 where
    pub first : LoadedModule
    pub tree : Modules
    pub is_first : IsModule files reads name first
    pub lead : LeadTo files reads (name ∷ []) name first.links tree
    pub has_modules : sheet.modules ≡ first ∷ listed tree
    pub has_levels : sheet.levels ≡ all_levels tree
    pub few : length sheet.modules ≤ most_modules

-- the pieces of a module that a link leads to, where so many levels are numbered before it
pub record Places (import : Bool) (before : ℕ) (own : List Span) (old new : LoadedSheet)
    (old_pieces new_pieces : Pieces) : Type 0 where
  pub has_modules : new.modules ≡ old.modules
  pub has_levels : new.levels ≡ old.levels ++ opened import before own
  pub same_place : new_pieces.place ≡ old_pieces.place
  pub same_from : new_pieces.from ≡ old_pieces.from
  pub has_spans : new_pieces.spans ≡ old_pieces.spans ++ included import own
