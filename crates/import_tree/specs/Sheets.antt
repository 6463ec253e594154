-- The stylesheet that files hold, and why there is none (XSLT 2.0, 3.10).
use Rattle.std.specs.Prelude.{◌≡◌, ℕ, List, [], Some, ⊤, ◌⊎◌}
use Rattle.xt_io.specs.Files.{FilesState}
use Rattle.xt_names.specs.declared.codes.Code.{Code}
use Rattle.xt_sheets.specs.declared.sheets.Sheet.{Sheet}
use Rattle.expr_names.specs.Answers.{first}
use Rattle.doc_reader.specs.declared.Scoped.{Scoped}
use Rattle.sheet_modules.specs.declared.links.Link.{Link}
use Rattle.module_loading.specs.ModuleReader.Links.{links_of}
use Rattle.module_loading.specs.declared.faults.SheetFault.{SheetFault}
use Rattle.module_loading.specs.declared.faults.SheetFault.TheVariants.{Load, TooLong, Malformed}
use Rattle.module_loading.specs.declared.faults.SheetFault.TheVariants.{Static, Memory}
use Rattle.module_loading.specs.declared.loaded.LoadedSheet.{LoadedSheet}
use Rattle.module_loading.specs.Held.{Holdings}
use Rattle.module_loading.specs.Loads.{IsLoadedSheet}
use Rattle.module_loading.specs.Refusals.{IsModuleRefusedAs}
use Rattle.loaded_sheets.specs.Sheets.{sheet_faults, sheet_value}

-- the links of a module
abbrev pub sheet_links : Scoped → List Link
sheet_links s = links_of s.tree

-- these are the modules of the stylesheet whose first module has this name; they break no rule, and
-- this is the stylesheet that they make up
pub record IsSheet (files : Holdings) (name : List ℕ) (loaded : LoadedSheet) (sheet : Sheet)
    : Type 0 where
  pub is_loaded : IsLoadedSheet files sheet_links name loaded
  pub keeps_rules : sheet_faults loaded ≡ []
  pub is_value : sheet ≡ sheet_value loaded

-- the files hold this stylesheet under the name
pub record HoldsSheet (files : Holdings) (name : List ℕ) (sheet : Sheet) : Type 0 where
  pub loaded : LoadedSheet
  pub is_sheet : IsSheet files name loaded sheet

-- the modules of the stylesheet break rules, of which the first has this code
pub record BreaksRule (files : Holdings) (name : List ℕ) (code : Code) : Type 0 where
  pub loaded : LoadedSheet
  pub is_loaded : IsLoadedSheet files sheet_links name loaded
  pub broken : first (sheet_faults loaded) ≡ Some code

-- why modules that are loaded make up no stylesheet
abbrev pub IsUnreadAs : LoadedSheet → SheetFault → Type 0
IsUnreadAs loaded (Static code) = first (sheet_faults loaded) ≡ Some code
IsUnreadAs loaded (Memory e) = ⊤
IsUnreadAs loaded (Load file) = ⊥
IsUnreadAs loaded (TooLong file n) = ⊥
IsUnreadAs loaded (Malformed file spot) = ⊥

-- why a stylesheet is not loaded
abbrev pub IsSheetRefusedAs : List ℕ → FilesState → FilesState → SheetFault → Type 0
IsSheetRefusedAs name old new (Static code) =
    IsModuleRefusedAs sheet_links [] 0 name old new (Static code) ⊎ BreaksRule old.held name code
IsSheetRefusedAs name old new (Load file) =
    IsModuleRefusedAs sheet_links [] 0 name old new (Load file)
IsSheetRefusedAs name old new (TooLong file n) =
    IsModuleRefusedAs sheet_links [] 0 name old new (TooLong file n)
IsSheetRefusedAs name old new (Malformed file spot) =
    IsModuleRefusedAs sheet_links [] 0 name old new (Malformed file spot)
IsSheetRefusedAs name old new (Memory e) = ⊤
