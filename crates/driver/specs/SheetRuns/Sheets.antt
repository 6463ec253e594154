-- Stylesheets as the files hold them, and why one is not loaded.
use Rattle.std.specs.Prelude.{◌≡◌, ℕ, List, [], ◌∷◌, Bool, true, false, ⊤, ◌⊎◌, Option, Some, None}
use Rattle.std.specs.Str.{chars, encode_utf8_all}
use Rattle.xt_io.specs.Files.{FilesState}
use Rattle.xt_names.specs.declared.codes.Code.{Code}
use Rattle.xt_names.specs.declared.codes.Code.TheVariants as code_variants
use Rattle.xt_names.specs.declared.codes.SheetStaticCode.TheVariants.{XTUN0001}
use Rattle.xt_tree.specs.declared.trees.Tree.{Tree}
use Rattle.xt_sheets.specs.declared.sheets.Sheet.{Sheet}
use Rattle.sheet_meaning.specs.First.{is_first_sheet}
use Rattle.module_loading.specs.declared.faults.SheetFault.{SheetFault}
use Rattle.module_loading.specs.declared.faults.SheetFault.TheVariants as fault
use Rattle.module_loading.specs.declared.loaded.LoadedModule.{LoadedModule}
use Rattle.module_loading.specs.declared.loaded.LoadedSheet.{LoadedSheet}
use Rattle.module_loading.specs.Refusals.{AsksFrom, BreaksFrom}
use Rattle.import_tree.specs.Sheets.{sheet_links, IsSheet, BreaksRule}
use Rattle.xt_io.specs.Loads.{Holdings, IsLoadFailure, IsTooLong}
use Rattle.run_parts.specs.Inputs.{HoldsNoDocument}
use Rattle.run_parts.specs.declared.status.Status.{Status}
use Rattle.run_parts.specs.declared.status.Status.TheVariants.{Load, TooLong, Malformed, Static}
use Rattle.run_parts.specs.declared.status.Status.TheVariants.{Memory}

-- the tree of the first module
abbrev pub main_tree : List LoadedModule → Option Tree
main_tree [] = None
main_tree (m ∷ ms) = Some m.scoped.tree

-- .. is a stylesheet of the first form
abbrev pub is_first : List LoadedModule → Bool
is_first [] = false
is_first (m ∷ ms) = is_first_sheet m.scoped.tree

-- these are the modules of the stylesheet under the name; they break no rule, and the first is of
-- the first form
pub record HoldsFirst (files : Holdings) (name : List ℕ) (loaded : LoadedSheet) : Type 0 where
  pub sheet : Sheet
  pub is_sheet : IsSheet files (chars name) loaded sheet
  pub form : is_first loaded.modules ≡ true

-- the first module of the stylesheet under the name stands for this tree
pub record HoldsSheet (files : Holdings) (name : List ℕ) (tree : Tree) : Type 0 where
  pub loaded : LoadedSheet
  pub first : HoldsFirst files name loaded
  pub is_main : main_tree loaded.modules ≡ Some tree

-- the modules of the stylesheet under the name break no rule, and the first is not of the first
-- form
pub record HoldsOther (files : Holdings) (name : List ℕ) : Type 0 where
  pub loaded : LoadedSheet
  pub sheet : Sheet
  pub is_sheet : IsSheet files (chars name) loaded sheet
  pub other : is_first loaded.modules ≡ false

-- the stylesheet under the name comes to load this file, of so many modules that stand for trees
abbrev pub Asks : Holdings → List ℕ → List ℕ → Type 0
Asks files name file = AsksFrom files sheet_links [] 0 (chars name) file

-- a static rule is broken: one on links, then one of those that modules break by themselves or
-- together; or the stylesheet is none that is run
abbrev pub IsSheetBroken : List ℕ → Holdings → Code → Type 0
IsSheetBroken name files code =
    BreaksFrom files sheet_links [] 0 (chars name) code
    ⊎ (BreaksRule files (chars name) code
    ⊎ ((code ≡ code_variants.SheetStatic XTUN0001) × HoldsOther files name))

-- what is said of a stylesheet that is not loaded
abbrev pub told_of : SheetFault → Status
told_of (fault.Load name) = Load name
told_of (fault.TooLong name n) = TooLong name n
told_of (fault.Malformed name spot) = Malformed name spot
told_of (fault.Static code) = Static code
told_of (fault.Memory e) = Memory

-- why the stylesheet under the name is not loaded
abbrev pub IsUnloadedAs : List ℕ → FilesState → FilesState → Status → Type 0
IsUnloadedAs name old new (Load file) =
    Asks old.held name file × IsLoadFailure old new (encode_utf8_all file)
IsUnloadedAs name old new (TooLong file n) =
    Asks old.held name file × IsTooLong old new (encode_utf8_all file) n
IsUnloadedAs name old new (Malformed file spot) =
    Asks old.held name file × HoldsNoDocument old.held (encode_utf8_all file) spot
IsUnloadedAs name old new (Static code) = IsSheetBroken name old.held code
IsUnloadedAs name old new Memory = ⊤
IsUnloadedAs name old new _ = ⊥
