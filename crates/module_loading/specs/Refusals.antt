-- Why a stylesheet is not loaded.
use Rattle.std.specs.Prelude.{◌≡◌, ◌<◌, ℕ, ◌+◌, List, [], ◌∷◌, ◌++◌, false, ⊤, ◌⊎◌}
use Rattle.std.specs.Str.{encode_utf8_all}
use Rattle.xt_io.specs.Files.{FilesState}
use Rattle.xt_names.specs.declared.codes.Code.{Code}
use Rattle.doc_reader.specs.declared.Scoped.{Scoped}
use Rattle.sheet_modules.specs.declared.links.Link.{Link}
use Rattle.module_loading.specs.declared.faults.SheetFault.{SheetFault}
use Rattle.module_loading.specs.declared.faults.SheetFault.TheVariants.{Load, TooLong, Malformed}
use Rattle.module_loading.specs.declared.faults.SheetFault.TheVariants.{Static, Memory}
use Rattle.module_loading.specs.declared.loaded.LoadedModule.{LoadedModule}
use Rattle.xt_io.specs.Loads.{Holdings, IsLoadFailure, IsTooLong}
use Rattle.module_loading.specs.Held.{HoldsNoModule}
use Rattle.module_loading.specs.Walk.{Point, target, is_loading, most_modules, IsModule, Comes}
use Rattle.module_loading.specs.Walk.{BreaksLinkRule}

module _ (files : Holdings) (reads : Scoped → List Link) where
  -- the walk comes to a link that leads to this file, which is loaded next
  pub record Asks (loading : List (List ℕ)) (count : ℕ) (importer : List ℕ) (links : List Link)
      (file : List ℕ) : Type 0 where
    pub point : Point
    pub comes : Comes files reads loading count importer links point
    pub free : is_loading point.loading (target point) ≡ false
    pub room : point.count < most_modules
    pub named : file ≡ target point

  -- the walk comes to a link that breaks a rule
  pub record Breaks (loading : List (List ℕ)) (count : ℕ) (importer : List ℕ) (links : List Link)
      (code : Code) : Type 0 where
    pub point : Point
    pub comes : Comes files reads loading count importer links point
    pub broken : BreaksLinkRule point code

  -- the same of the module of this name, which is loaded first
  abbrev pub AsksFrom : List (List ℕ) → ℕ → List ℕ → List ℕ → Type 0
  AsksFrom loading count name file =
      (file ≡ name)
      ⊎ ((m : LoadedModule) × IsModule files reads name m
      × Asks (loading ++ name ∷ []) (count + 1) name m.links file)

  abbrev pub BreaksFrom : List (List ℕ) → ℕ → List ℕ → Code → Type 0
  BreaksFrom loading count name code =
      (m : LoadedModule) × IsModule files reads name m
      × Breaks (loading ++ name ∷ []) (count + 1) name m.links code

module _ (reads : Scoped → List Link) where
  -- why not all that the links of the importer lead to is loaded
  abbrev pub IsLinksRefusedAs : List (List ℕ) → ℕ → List ℕ → List Link → FilesState → FilesState
      → SheetFault → Type 0
  IsLinksRefusedAs loading count importer links old new (Load file) =
      Asks old.held reads loading count importer links file × IsLoadFailure old new (encode_utf8_all file)
  IsLinksRefusedAs loading count importer links old new (TooLong file n) =
      Asks old.held reads loading count importer links file × IsTooLong old new (encode_utf8_all file) n
  IsLinksRefusedAs loading count importer links old new (Malformed file spot) =
      Asks old.held reads loading count importer links file × HoldsNoModule old.held file spot
  IsLinksRefusedAs loading count importer links old new (Static code) =
      Breaks old.held reads loading count importer links code
  IsLinksRefusedAs loading count importer links old new (Memory e) = ⊤

  -- why the module of this name and all after its links are not loaded
  abbrev pub IsModuleRefusedAs : List (List ℕ) → ℕ → List ℕ → FilesState → FilesState
      → SheetFault → Type 0
  IsModuleRefusedAs loading count name old new (Load file) =
      AsksFrom old.held reads loading count name file × IsLoadFailure old new (encode_utf8_all file)
  IsModuleRefusedAs loading count name old new (TooLong file n) =
      AsksFrom old.held reads loading count name file × IsTooLong old new (encode_utf8_all file) n
  IsModuleRefusedAs loading count name old new (Malformed file spot) =
      AsksFrom old.held reads loading count name file × HoldsNoModule old.held file spot
  IsModuleRefusedAs loading count name old new (Static code) =
      BreaksFrom old.held reads loading count name code
  IsModuleRefusedAs loading count name old new (Memory e) = ⊤
